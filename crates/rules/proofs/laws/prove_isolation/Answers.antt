use Rattle.rules.proofs.Isolation.{isolation}
use Rattle.rules.proofs.laws.prove_isolation.Goals as goal

pub returns : goal.returns
returns c = isolation
