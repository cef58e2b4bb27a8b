-- What a set of the eight traffic classes holds.
use Rattle.std.specs.Prelude.{◌≡◌, ℕ, ◌<◌, Bool, false, List}
use Rattle.sets.specs.Sets.{holds}

-- no class is in the set
abbrev pub NoneHeld : List Bool → Type 0
NoneHeld held = (class : ℕ) → class < 8 → holds held class ≡ false
