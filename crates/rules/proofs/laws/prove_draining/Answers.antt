use Rattle.rules.proofs.Draining.{draining}
use Rattle.rules.proofs.laws.prove_draining.Goals as goal

pub returns : goal.returns
returns c = draining
