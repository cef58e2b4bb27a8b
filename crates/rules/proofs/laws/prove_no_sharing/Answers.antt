use Rattle.rules.proofs.Leaving.{no_sharing}
use Rattle.rules.proofs.laws.prove_no_sharing.Goals as goal

pub returns : goal.returns
returns c = no_sharing
