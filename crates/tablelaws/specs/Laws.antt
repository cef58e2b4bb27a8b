-- What follows from the contract of a table, whichever table it is. In each law, l is the set before the
-- call and k the set after it. The laws come to this: a call for one filtering database reads the entries
-- of that database alone and changes them alone, so that databases cannot be told by one another.
use Rattle.std.specs.Prelude.{◌≡◌, ℕ, ◌+◌, ◌≤◌, Bool, true, false, cond, List, [], length, Some, None, Ok, Err, Option, Result, ◌≢◌}
use Rattle.fault.specs.declared.mark.Mark.{Mark}
use Rattle.fault.specs.declared.mark.Mark.TheVariants.{New, Full, Unlearned}
use Rattle.fault.specs.declared.refusal.Refusal.{Refusal}
use Rattle.table.specs.declared.entry.Entry.{Entry}
use Rattle.table.specs.Entries.{is_fid, entries_of, count_of}
use Rattle.table.specs.Calls.{answered, learned_mark, after_learn, after_expire, flushed, after_flush}

-- A find reads the entries of its own database, and changes nothing.
pub record Finds (l k : List Entry) (f : ℕ) (a : List ℕ) (r : Result (Option ℕ) Refusal) : Type 0 where
  pub answer : r ≡ answered (entries_of f l) f a
  pub same : k ≡ l

abbrev pub is_new : Result Mark Refusal → Bool
is_new (Ok New) = true
is_new _ = false

-- A learn reads and changes the entries of its own database: what it leaves of them, and its answer, are
-- what they would be if there were no others. It answers Full only where the whole share is there, and
-- the database has one entry more exactly where the answer is New.
pub record Learns (share : ℕ) (l k : List Entry) (f : ℕ) (a : List ℕ) (p t : ℕ) (r : Result Mark Refusal) : Type 0 where
  pub answer : r ≡ learned_mark share (entries_of f l) f a p
  pub own : entries_of f k ≡ after_learn share (entries_of f l) f a p t
  pub others : (g : ℕ) → (f ≢ g) → entries_of g k ≡ entries_of g l
  pub full : r ≡ Ok Full → count_of f l ≡ share
  pub count : count_of f k ≡ count_of f l + cond (is_new r) 1 0

-- What expires in a database is a matter of its own entries. No database gets more. The answer is how many
-- entries there are fewer.
pub record Expires (limit : ℕ) (l k : List Entry) (r : ℕ) : Type 0 where
  pub gone : r + length k ≡ length l
  pub each : (g : ℕ) → entries_of g k ≡ after_expire limit (entries_of g l)
  pub fewer : (g : ℕ) → count_of g k ≤ count_of g l

-- A flush empties its own database, says how many entries that had, and leaves the others.
pub record Flushes (l k : List Entry) (f : ℕ) (r : Result ℕ Refusal) : Type 0 where
  pub answer : r ≡ flushed (entries_of f l) f
  pub own : entries_of f k ≡ after_flush (entries_of f l) f
  pub empty : is_fid f ≡ true → entries_of f k ≡ []
  pub others : (g : ℕ) → (f ≢ g) → entries_of g k ≡ entries_of g l

-- What find answers for the pair that was just learned: the new port, or none where there was no room.
abbrev pub FoundAfter : Result Mark Refusal → ℕ → Result (Option ℕ) Refusal → Type 0
FoundAfter (Ok Full) p o = o ≡ Ok None
FoundAfter (Ok Unlearned) p o = ⊥
FoundAfter (Ok m) p o = o ≡ Ok (Some p)
FoundAfter (Err e) p o = o ≡ Err e
