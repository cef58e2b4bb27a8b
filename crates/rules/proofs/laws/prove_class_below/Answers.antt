use Rattle.rules.proofs.Classes.{class_below}
use Rattle.rules.proofs.laws.prove_class_below.Goals as goal

pub returns : goal.returns
returns c = class_below
