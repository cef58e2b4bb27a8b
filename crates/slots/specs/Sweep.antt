-- What is left of each record when a stretch is swept.
use Rattle.std.specs.Prelude.{ℕ, cond, nat_lt}
use Rattle.table.specs.declared.entry.Entry.{Entry}
use Rattle.table.specs.Entries.{free_entry}

-- A record that was heard at the limit or before it is freed.
abbrev pub heard_later : ℕ → Entry → Entry
heard_later limit e = cond (nat_lt limit e.heard) e free_entry
