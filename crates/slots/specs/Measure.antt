-- The bounds of a stretch of records: how many entries it holds, how many records a search passes until
-- it has passed every entry from its home on, and the earliest time that an entry was heard.
use Rattle.std.specs.Prelude.{◌≡◌, ℕ, ◌+◌, ◌-◌, ◌^◌, ◌<◌, ◌≤◌, min, max, false, cond, List, [], ◌∷◌, length, slice_index_or}
use Rattle.table.specs.declared.entry.Entry.{Entry}
use Rattle.table.specs.Entries.{is_free, free_entry}
use Rattle.slots.specs.declared.measure.Bounds.{Bounds}
use Rattle.slots.specs.Hash.{home_of, gap}

abbrev pub empty_bounds : Bounds
empty_bounds = record { held = 0; reach = 0; oldest = 18446744073709551615 }

-- How many records a search among n passes up to an entry at the place i, with that place.
abbrev pub passes : ℕ → ℕ → Entry → ℕ
passes n i e = gap n (home_of n e.key.fid e.key.address) i + 1

-- The bounds with one entry more, so many steps past its home; and with an entry heard at another time.
abbrev pub with_new : Bounds → ℕ → ℕ → Bounds
with_new b steps heard = record { held = b.held + 1; reach = max b.reach (steps + 1); oldest = min b.oldest heard }

abbrev pub with_heard : Bounds → ℕ → Bounds
with_heard b heard = record { held = b.held; reach = b.reach; oldest = min b.oldest heard }

-- One entry more by numbers of 64 bits, of which one that has reached the largest stays there.
abbrev pub one_more : ℕ → ℕ
one_more n = min (n + 1) (2 ^ 64 - 1)

abbrev pub with_next : Bounds → ℕ → ℕ → Bounds
with_next b steps heard = record { held = one_more b.held; reach = max b.reach (one_more steps); oldest = min b.oldest heard }

-- The bounds with the record at i: a free record counts for nothing.
abbrev pub with_record : ℕ → ℕ → Bounds → Entry → Bounds
with_record n i b e = cond (is_free e) b (with_new b (gap n (home_of n e.key.fid e.key.address) i) e.heard)

-- The bounds with the records from i on.
abbrev pub with_records : ℕ → ℕ → Bounds → List Entry → Bounds
with_records n i b [] = b
with_records n i b (e ∷ es) = with_records n (i + 1) (with_record n i b e) es

abbrev pub measured : List Entry → Bounds
measured xs = with_records (length xs) 0 empty_bounds xs

-- Each entry lies among the first r records from its home on.
abbrev pub AllNear : List Entry → ℕ → Type 0
AllNear xs r = (i : ℕ) → i < length xs → is_free (slice_index_or xs i free_entry) ≡ false → passes (length xs) i (slice_index_or xs i free_entry) ≤ r

-- The entry at the place i among n lies within the bounds.
pub record Within (n i : ℕ) (b : Bounds) (e : Entry) : Type 0 where
  pub near : passes n i e ≤ b.reach
  pub late : b.oldest ≤ e.heard
