use Rattle.std.proofs.Common.{◌≡◌, ◌≤◌, length, drop}
use Rattle.slots.specs.Measure.{with_records, measured}
use Rattle.slots.proofs.measure.Bounds.of.Given as goal

abbrev pub invariant-loop-at : goal.invariant-loop-at
invariant-loop-at l = (with_records (length l.records) l.at l.bounds (drop l.at l.records) ≡ measured l.records) × (l.bounds.held ≤ l.at)
