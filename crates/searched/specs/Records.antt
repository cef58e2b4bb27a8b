-- A searched table keeps its entries in the first records of lent memory, without gaps and in the order
-- in which they came. The records after them mean nothing.
use Rattle.std.specs.Prelude.{◌≡◌, ℕ, min, Bool, List, [], ◌∷◌, take}
use denote.Ref.{Bor}
use Rattle.table.specs.declared.entry.Entry.{Entry}
use Rattle.searched.specs.declared.rows.Rows.{Rows}

-- The entries.
abbrev pub taken : Rows → List Entry
taken r = take r.used r.all.now

-- When the entry that was heard longest ago was heard; the last number of 64 bits where there is none.
abbrev pub oldest_of : List Entry → ℕ
oldest_of [] = 18446744073709551615
oldest_of (e ∷ es) = min e.heard (oldest_of es)

-- What a closure may answer of an entry, by the relation `post`, is what the test says of it.
abbrev pub Keeps : (Bor Entry → Bool → Type 0) → (Entry → Bool) → Type 0
Keeps post p = (e : Bor Entry) (r : Bool) → post e r → r ≡ p e.now
