-- The set that a hashed table means.
use Rattle.std.specs.Prelude.{List}
use Rattle.table.specs.declared.entry.Entry.{Entry}
use Rattle.table.specs.Rising.{rising}
use Rattle.table.specs.Records.{held_of}
use Rattle.hashed.specs.declared.hashed.Hashed.{Hashed}

abbrev pub set_of : Hashed → List Entry
set_of s = rising (held_of s.records.now)
