-- What is kept true of static entries, so that a look-up ends at once where none is for the address, and each entry is
-- the one that is found for its VID and address.
use Rattle.std.specs.Prelude.{◌≡◌, ℕ, ◌<◌, Bool, true, false, List, length, Some, None, Option, slice_index, slice_index_or}
use Rattle.std.specs.List.{AllByRecursion, list_any}
use Rattle.std.specs.Str.{bytes_eq}
use denote.Ref.{Bor}
use Rattle.rules.specs.Settings.{static_of}
use Rattle.rules.specs.declared.vlans.StaticEntry.{StaticEntry}
use Rattle.configuration.specs.declared.row.Row.{Row}

-- whether an entry is for an address
abbrev pub is_for : List ℕ → List StaticEntry → Bool
is_for a entries = list_any (λ e. bytes_eq e.address a) entries

-- an entry that is the one for its VID and address
abbrev pub Alone : List StaticEntry → StaticEntry → Type 0
Alone entries e = static_of entries e.vid e.address ≡ Some e

-- an entry that can be added
pub record Fresh (entries : List StaticEntry) (e : StaticEntry) : Type 0 where
  pub absent : static_of entries e.vid e.address ≡ None
  pub room : length entries < 64

-- `endings` has a flag for each value of a byte, which is set where an entry's address ends in it
pub record Searched (endings : List Bool) (entries : List StaticEntry) : Type 0 where
  pub ended : (a : List ℕ) → is_for a entries ≡ true → slice_index_or endings (slice_index a 5) false ≡ true
  pub alone : AllByRecursion (Alone entries) entries

-- the entry of a row that a reference points to
abbrev pub entry_behind : Option (Bor Row) → Option StaticEntry
entry_behind None = None
entry_behind (Some row) = Some row.now.entry
