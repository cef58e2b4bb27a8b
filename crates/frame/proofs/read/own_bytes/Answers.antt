use Rattle.std.proofs.Common.{arith}
use Rattle.frame.proofs.Parsed.{parsed_own}
use Rattle.frame.proofs.read.own_bytes.Goals as goal

pub returns : goal.returns
returns c = parsed_own c.args.frame.now (λ i. omega (arith, c.type_inv.frame i))
