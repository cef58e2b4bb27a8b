use Rattle.rules.proofs.Ways.{filter_wins}
use Rattle.rules.proofs.laws.prove_filter_wins.Goals as goal

pub returns : goal.returns
returns c = filter_wins
