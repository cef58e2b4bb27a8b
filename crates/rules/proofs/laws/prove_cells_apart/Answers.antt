use Rattle.rules.proofs.Ways.{cells_apart}
use Rattle.rules.proofs.laws.prove_cells_apart.Goals as goal

pub returns : goal.returns
returns c = cells_apart
