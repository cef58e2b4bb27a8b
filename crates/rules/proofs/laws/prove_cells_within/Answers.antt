use Rattle.rules.proofs.Ways.{cells_within}
use Rattle.rules.proofs.laws.prove_cells_within.Goals as goal

pub returns : goal.returns
returns c = cells_within
