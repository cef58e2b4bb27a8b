-- The set that a searched table means, what holds of its entries, and what a heard pair that has its
-- entry already comes to.
use Rattle.std.specs.Prelude.{ℕ, List, Some, None, Option}
use Rattle.fault.specs.declared.mark.Mark.{Mark}
use Rattle.table.specs.declared.entry.Entry.{Entry}
use Rattle.table.specs.Calls.{again}
use Rattle.table.specs.Records.{Orderly}
use Rattle.table.specs.Rising.{insert, rising}
use Rattle.searched.specs.declared.searched.Searched.{Searched}
use Rattle.searched.specs.Records.{taken}

abbrev pub set_of : Searched → List Entry
set_of s = rising (taken s.rows)

-- The facts that the table carries, in the words for every table in lent records.
pub orderly : (s : Searched) → Orderly s.share (taken s.rows)
orderly s = record { ranged = s.ranged; apart = s.apart; fair = s.fair }

-- The mark of a pair that has an entry.
abbrev pub renewed : Option Entry → ℕ → Option Mark
renewed None p = None
renewed (Some e) p = Some (again e.port p)

-- The set with an entry written over that of its pair, where there was one.
abbrev pub after_renewal : List Entry → Entry → Option Mark → List Entry
after_renewal l e None = l
after_renewal l e (Some m) = insert e l
