use Rattle.std.proofs.Common.{◌≡◌}
use Rattle.table_bench.specs.Work.{filled}
use Rattle.table_bench.proofs.work.fill.Given as goal

abbrev pub invariant-loop-at : goal.invariant-loop-at
invariant-loop-at g l =
    (g.T.Table.entries l.table ≡ filled (g.T.Table.share l.initial.table) l.at)
    × (g.T.Table.share l.table ≡ g.T.Table.share l.initial.table)
