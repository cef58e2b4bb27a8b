use Rattle.examples.proofs.Mixed.{premise_met}
use Rattle.examples.proofs.prove_premise.Goals as goal

pub returns : goal.returns
returns c = premise_met
