use Rattle.rules.proofs.Ways.{own_group_entry}
use Rattle.rules.proofs.laws.prove_own_group_entry.Goals as goal

pub returns : goal.returns
returns c = own_group_entry
