use Rattle.std.proofs.Common.{◌≡◌, ◌+◌, filter, length}
use Rattle.table.specs.Records.{held_of}
use Rattle.hashed.proofs.Calls.{spared_to}
use Rattle.hashed.proofs.hashed.HashedTable.expire.Given as goal

abbrev pub invariant-loop-index : goal.invariant-loop-index
invariant-loop-index l = record {
  share : l.self.share ≡ l.initial.self.share;
  swept : held_of l.self.records.now ≡ filter (spared_to l.limit l.index) (held_of l.initial.self.records.now);
  gone : l.gone + length (held_of l.self.records.now) ≡ length (held_of l.initial.self.records.now);
}
