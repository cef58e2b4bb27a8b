use Rattle.std.proofs.Common.{◌≡◌, ◌<◌}
use Rattle.table_bench.specs.Task.{stride_of}
use Rattle.table_bench.specs.Work.{set_after, sum_of, at_step}
use Rattle.table_bench.proofs.work.go_through.Given as goal

abbrev pub invariant-loop-before : goal.invariant-loop-before
invariant-loop-before g l =
    let n = l.load.entries in
    let most = g.T.Table.share l.initial.table in
    let first = g.T.Table.entries l.initial.table in
    let later = g.W.Task.later l.work.task in record {
      set : g.T.Table.entries l.table ≡ set_after later most first n (stride_of n) l.before;
      share : g.T.Table.share l.table ≡ most;
      turn : l.at ≡ at_step n (stride_of n) l.before;
      sum : l.sum ≡ sum_of later (g.W.Task.worth l.work.task) most first n (stride_of n) l.before;
      below : l.at < n;
    }
