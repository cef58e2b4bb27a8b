-- What a search answers. It looks at the first m records from a home on, going round, and answers the
-- first that passes a test, or none where none of them passes.
use Rattle.std.specs.Prelude.{◌≡◌, ℕ, ◌<◌, Bool, true, false, List, length, Some, None, Option, slice_index_or}
use Rattle.table.specs.declared.entry.Entry.{Entry}
use Rattle.table.specs.Entries.{free_entry}
use Rattle.slots.specs.declared.probe.Spot.{Spot}
use Rattle.slots.specs.Hash.{turned}

-- The record that is k steps past the home h.
abbrev pub probed : List Entry → ℕ → ℕ → Entry
probed xs h k = slice_index_or xs (turned (length xs) h k) free_entry

-- None of the first m records passes the test.
abbrev pub Passed : (Entry → Bool) → List Entry → ℕ → ℕ → Type 0
Passed test xs h m = (k : ℕ) → k < m → test (probed xs h k) ≡ false

abbrev pub Found : (Entry → Bool) → List Entry → ℕ → ℕ → Option Spot → Type 0
Found test xs h m None = Passed test xs h m
Found test xs h m (Some s) = (s.steps < m) × (s.at ≡ turned (length xs) h s.steps) × (s.at < length xs) × (test (slice_index_or xs s.at free_entry) ≡ true) × Passed test xs h s.steps
