use Rattle.rules.proofs.Ways.{forward_wins}
use Rattle.rules.proofs.laws.prove_forward_wins.Goals as goal

pub returns : goal.returns
returns c = forward_wins
