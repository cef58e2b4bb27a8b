use Rattle.std.proofs.Common.{◌≡◌, ◌++◌, map, take, drop}
use Rattle.slots.specs.Sweep.{heard_later}
use Rattle.slots.proofs.sweep.sweep.Given as goal

abbrev pub invariant-loop-record : goal.invariant-loop-record
invariant-loop-record l = l.records ≡ map (heard_later l.limit) (take l.record-index l.initial.records) ++ drop l.record-index l.initial.records
