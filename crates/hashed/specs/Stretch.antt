-- The records of one filtering database, its stretch. Any of them may hold an entry, and what is kept
-- beside them says how many do, how far from its home each can lie, and since when each was not heard.
use Rattle.std.specs.Prelude.{◌≡◌, ℕ, ◌<◌, ◌≤◌, false, List, ◌∷◌, ◌++◌, length, Some, None, slice_index_or}
use Rattle.fault.specs.declared.mark.Mark.{Mark}
use Rattle.fault.specs.declared.mark.Mark.TheVariants.{New, Full}
use Rattle.table.specs.declared.entry.Entry.{Entry}
use Rattle.table.specs.Entries.{is_free, free_entry, lookup}
use Rattle.table.specs.Calls.{again}
use Rattle.table.specs.Records.{held_of, written_over}
use Rattle.slots.specs.declared.measure.Bounds.{Bounds}
use Rattle.slots.specs.Measure.{AllNear, Within}

-- The entry at the place i among n is of the database f, and lies within the bounds.
pub record Lies (f n i : ℕ) (b : Bounds) (e : Entry) : Type 0 where
  pub own : e.key.fid ≡ f
  pub within : Within n i b e

-- What is kept beside the stretch of the database f is true of it. A search passes no more records than
-- the entry needs that now lies farthest from its home, however many came and went before.
pub record Kept (f : ℕ) (xs : List Entry) (b : Bounds) : Type 0 where
  pub low : 1 ≤ f
  pub held : b.held ≡ length (held_of xs)
  pub lies : (i : ℕ) → i < length xs → is_free (slice_index_or xs i free_entry) ≡ false → Lies f (length xs) i b (slice_index_or xs i free_entry)
  pub tight : (r : ℕ) → AllNear xs r → b.reach ≤ r

-- How learning an entry alters the entries l of its database into m, and the mark r that it answers.
pub data Learned (share : ℕ) (l m : List Entry) (e : Entry) (r : Mark) : Type 0 where
  over : (old : Entry) → lookup l e.key.fid e.key.address ≡ Some old → m ≡ written_over l e.key.fid e.key.address e.port e.heard → r ≡ again old.port e.port → Learned share l m e r
  added : (k n : List Entry) → l ≡ k ++ n → m ≡ k ++ e ∷ n → lookup l e.key.fid e.key.address ≡ None → length l < share → r ≡ New → Learned share l m e r
  full : m ≡ l → lookup l e.key.fid e.key.address ≡ None → share ≤ length l → r ≡ Full → Learned share l m e r
