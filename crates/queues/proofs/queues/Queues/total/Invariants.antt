use Rattle.std.proofs.Common.{◌≡◌, ◌≤◌, ◌*◌}
use Rattle.queues.specs.Standing.{frames_at, counted_below}
use Rattle.queues.proofs.queues.Queues.total.Given as goal

abbrev pub invariant-loop-class : goal.invariant-loop-class
invariant-loop-class l = record {
  total : l.total ≡ counted_below (frames_at l.self l.port) l.class;
  most : l.total ≤ 64 * l.class;
}
