use Rattle.rules.proofs.Conservation.{conservation}
use Rattle.rules.proofs.laws.prove_conservation.Goals as goal

pub returns : goal.returns
returns c = conservation
