use Rattle.std.proofs.Common.{sym, ap, subst}
use Rattle.table.specs.Rising.{rising}
use Rattle.table.specs.Records.{Orderly}
use Rattle.table.proofs.Records.{orderly_none}
use Rattle.hashed.proofs.Cut.{held_cleared, laid_cleared}
use Rattle.hashed.proofs.hashed.Hashed.in_records.Goals as goal

pub invariant_of-result-clause-laid : goal.invariant_of-result-clause-laid
invariant_of-result-clause-laid c = laid_cleared _ _ c.clear.new.records c.empty.result c.clear.ensures c.requires.long c.empty.ensures

pub invariant_of-result-clause-orderly : goal.invariant_of-result-clause-orderly
invariant_of-result-clause-orderly c = subst (Orderly _) (sym (held_cleared _ _ c.clear.ensures)) (orderly_none _)

pub returns-clause-empty : goal.returns-clause-empty
returns-clause-empty c = ap rising (held_cleared _ _ c.clear.ensures)
