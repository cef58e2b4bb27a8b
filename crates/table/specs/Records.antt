-- Words for tables that keep their entries in lent records, in whatever order they came. Such a table
-- means the rising list of the entries that its records hold; the records that are free hold none.
use Rattle.std.specs.Prelude.{◌≡◌, ℕ, ◌≤◌, Bool, true, false, cond, not, ◌&&◌, List, [], ◌∷◌, filter}
use Rattle.table.specs.declared.entry.Entry.{Entry}
use Rattle.table.specs.Entries.{new_entry, has_key, is_free, count_of, fids_in_range}

-- The entries that the records hold.
abbrev pub in_use : Entry → Bool
in_use e = not (is_free e)

abbrev pub held_of : List Entry → List Entry
held_of l = filter in_use l

-- There is an entry of this pair.
abbrev pub has_pair : List Entry → ℕ → List ℕ → Bool
has_pair [] f a = false
has_pair (e ∷ es) f a = cond (has_key f a e) true (has_pair es f a)

-- No two entries are of one pair.
abbrev pub distinct : List Entry → Bool
distinct [] = true
distinct (e ∷ es) = not (has_pair es e.key.fid e.key.address) && distinct es

-- The entry of a pair is written anew, where it lies.
abbrev pub written_over : List Entry → ℕ → List ℕ → ℕ → ℕ → List Entry
written_over [] f a p t = []
written_over (e ∷ es) f a p t = cond (has_key f a e) (new_entry f a p t ∷ es) (e ∷ written_over es f a p t)

-- What such a table keeps true of its entries.
pub record Orderly (share : ℕ) (l : List Entry) : Type 0 where
  pub ranged : fids_in_range l ≡ true
  pub apart : distinct l ≡ true
  pub fair : (f : ℕ) → count_of f l ≤ share
