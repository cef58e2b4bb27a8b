use Rattle.rules.proofs.Leaving.{order}
use Rattle.rules.proofs.laws.prove_order.Goals as goal

pub returns : goal.returns
returns c = order
