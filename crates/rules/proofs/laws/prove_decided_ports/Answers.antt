use Rattle.rules.proofs.Ways.{decided_ports}
use Rattle.rules.proofs.laws.prove_decided_ports.Goals as goal

pub returns : goal.returns
returns c = decided_ports
