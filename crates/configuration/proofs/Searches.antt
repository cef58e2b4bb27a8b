-- Searches in a list to which one is added at its end.
use Rattle.std.proofs.Common.{◌≡◌, ℕ, ◌<◌, Bool, true, false, zero, suc, cond, List, [], ◌∷◌, ◌++◌, length, Some, Option, refl, arith}
use Rattle.std.specs.List.{slice_get}
use Rattle.std.specs.Option.{option_or}

-- the step of a search that goes on in a second list
pub in_turn : {X : Type 0} (found : Bool) (x : X) (o rest : Option X) {all : Option X} → all ≡ option_or o rest → cond found (Some x) all ≡ option_or (cond found (Some x) o) rest
in_turn true x o rest e = refl
in_turn false x o rest e = e

pub slice_get_front : {X : Type 0} (xs : List X) (y : X) (k : ℕ) → k < length xs → slice_get (xs ++ y ∷ []) k ≡ slice_get xs k
slice_get_front [] y k l = absurd (omega arith)
slice_get_front (x ∷ xs) y zero l = refl
slice_get_front (x ∷ xs) y (suc k) l = slice_get_front xs y k (omega arith)

pub slice_get_last : {X : Type 0} (xs : List X) (y : X) → slice_get (xs ++ y ∷ []) (length xs) ≡ Some y
slice_get_last [] y = refl
slice_get_last (x ∷ xs) y = slice_get_last xs y
