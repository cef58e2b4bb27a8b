-- Strict priority picks the highest class that holds a frame. It looks at class 7 first, then at 6, and
-- so on down to 0. `Highest` says in words what the class found that way is.
use Rattle.std.specs.Prelude.{◌≡◌, ℕ, ◌<◌, Bool, true, false, List, [], ◌∷◌, Option}
use Rattle.sets.specs.Sets.{first_held, holds}

-- all classes, the highest first
abbrev pub downward : List ℕ
downward = 7 ∷ 6 ∷ 5 ∷ 4 ∷ 3 ∷ 2 ∷ 1 ∷ 0 ∷ []

abbrev pub highest : List Bool → Option ℕ
highest held = first_held downward held

-- the class is in the set, and no class above it is
pub record Highest (held : List Bool) (class : ℕ) : Type 0 where
  pub stands : holds held class ≡ true
  pub above : (other : ℕ) → class < other → other < 8 → holds held other ≡ false
