-- Where the stretches of a hashed table lie, and what the table keeps true of itself. There are 16
-- stretches, one after the other, each with two records for each entry of the share.
use Rattle.std.specs.Prelude.{ℕ, ◌+◌, ◌*◌, ◌<◌, Bool, true, cond, List, ◌==◌, slice_index_or, slice_range}
use Rattle.table.specs.declared.entry.Entry.{Entry}
use Rattle.table.specs.Calls.{heard_after}
use Rattle.slots.specs.declared.measure.Bounds.{Bounds}
use Rattle.slots.specs.Measure.{empty_bounds}
use Rattle.hashed.specs.Stretch.{Kept}

-- The first record of a stretch. The stretch g is that of the database g + 1.
abbrev pub start_of : ℕ → ℕ → ℕ
start_of share g = g * (2 * share)

abbrev pub stretch_of : ℕ → ℕ → List Entry → List Entry
stretch_of share g xs = slice_range xs (start_of share g) (start_of share g + 2 * share)

-- Each stretch is as its bounds say.
abbrev pub Laid : ℕ → List Entry → List Bounds → Type 0
Laid share xs bs = (g : ℕ) → g < 16 → Kept (g + 1) (stretch_of share g xs) (slice_index_or bs g empty_bounds)

-- Where the stretch of the database f is swept, all other entries stay.
abbrev pub spared : ℕ → ℕ → Entry → Bool
spared limit f e = cond (e.key.fid == f) (heard_after limit e) true
