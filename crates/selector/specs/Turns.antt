-- Taking turns goes upward from the class picked last at the port: first the class above it, then the
-- next, past 7 round to 0. The class picked last comes last of all. `NextUp` says in words what the
-- class found that way is.
use Rattle.std.specs.Prelude.{◌≡◌, ℕ, ◌+◌, ◌%◌, ◌<◌, ◌≤◌, Bool, true, false, List, [], ◌∷◌, map, Some, None, Option, slice_set}
use Rattle.selector.specs.declared.turns.TakingTurns.{TakingTurns}
use Rattle.sets.specs.Sets.{first_held, holds}

-- the class that many steps upward from `last`
abbrev pub steps_up : ℕ → ℕ → ℕ
steps_up last steps = (last + steps) % 8

-- all classes in the order of their turns
abbrev pub upward : ℕ → List ℕ
upward last = map (steps_up last) (1 ∷ 2 ∷ 3 ∷ 4 ∷ 5 ∷ 6 ∷ 7 ∷ 8 ∷ [])

abbrev pub next_turn : ℕ → List Bool → Option ℕ
next_turn last held = first_held (upward last) held

-- a pick is remembered at its port alone
abbrev pub remembers : TakingTurns → ℕ → Option ℕ → TakingTurns
remembers s port None = s
remembers s port (Some class) = record { last = slice_set s.last port class }

-- the class is in the set, and no class that is passed on the way up to it is
pub record NextUp (last : ℕ) (held : List Bool) (class : ℕ) : Type 0 where
  pub steps : ℕ
  pub some : 1 ≤ steps
  pub most : steps ≤ 8
  pub reached : class ≡ steps_up last steps
  pub stands : holds held class ≡ true
  pub passed : (fewer : ℕ) → 1 ≤ fewer → fewer < steps → holds held (steps_up last fewer) ≡ false
