use Rattle.rules.proofs.Existing.{runs_exist}
use Rattle.rules.proofs.laws.prove_runs_exist.Goals as goal

pub returns : goal.returns
returns c = runs_exist
