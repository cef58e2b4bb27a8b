use Rattle.rules.proofs.Pairing.{pairing}
use Rattle.rules.proofs.laws.prove_pairing.Goals as goal

pub returns : goal.returns
returns c = pairing
