use Rattle.std.proofs.Common.{sym, arith}
use Rattle.std.proofs.lemmas.Bool.{leb-false}
use Rattle.hashed.proofs.Calls.{none_gone}
use Rattle.hashed.proofs.hashed.Hashed.expire_row.Goals as goal

pub returns-then-not-is_due-clause-swept : goal.returns-then-not-is_due-clause-swept
returns-then-not-is_due-clause-swept c = none_gone c.args.self.now c.args.limit c.args.row.index _ c.args.row.below (omega arith) (leb-false _ _ (sym c.if-not-is_due.ensures))
