-- The first class of an order that a set holds: where it stands in the order, and when there is none.
use Rattle.std.specs.Prelude.{◌≡◌, ℕ, ◌<◌, Bool, true, false, List, length, Some, None, Option, ◌≢◌, slice_index, refl}
use Rattle.std.specs.List.{position_or_len}
use Rattle.std.proofs.Common.{sym, ap, ◌∙◌, arith}
use Rattle.std.proofs.Math.Nat.{lt_of_not-le}
use Rattle.std.proofs.lemmas.Bool.{both_ways}
use Rattle.std.proofs.lemmas.List.Folds.{find_at}
use Rattle.std.proofs.lemmas.List.Sums.{fails_before_first, passes_at_first}
use Rattle.std.proofs.lemmas.Option.{get_or_from_slice_get, none-some, slice_get-get_or, slice_get_within}
use Rattle.sets.specs.Sets.{first_held, holds}
use Rattle.selector.specs.Classes.{NoneHeld}

-- a class of the order that is held, while none before it is
pub record First (order : List ℕ) (held : List Bool) (class : ℕ) : Type 0 where
  pub place : ℕ
  pub within : place < length order
  pub is : class ≡ slice_index order place
  pub stands : holds held class ≡ true
  pub before : (j : ℕ) → j < place → holds held (slice_index order j) ≡ false

pub first_is : (order : List ℕ) (held : List Bool) (class : ℕ) → first_held order held ≡ Some class → First order held class
first_is order held class e =
    let place = position_or_len (holds held) order in
    let got = sym (find_at (holds held) order) ∙ e in
    let within = slice_get_within order place class got in
    let is = get_or_from_slice_get order place class 0 got in
    record {
      place = place;
      within = within;
      is = sym is;
      stands = ap (holds held) (sym is) ∙ passes_at_first (holds held) order 0 within;
      before = λ j l. fails_before_first (holds held) order j 0 l;
    }

pub first_none : (order : List ℕ) (held : List Bool) → first_held order held ≡ None → (i : ℕ) → i < length order → holds held (slice_index order i) ≡ false
first_none order held e i l =
    let place = position_or_len (holds held) order in
    let none = sym (find_at (holds held) order) ∙ e in
    let past : i < place = lt_of_not-le (λ h. none-some _ (sym none ∙ slice_get-get_or order place 0 (omega arith))) in
    fails_before_first (holds held) order i 0 past

pub none_since : (o : Option ℕ) → ((class : ℕ) → o ≢ Some class) → o ≡ None
none_since None h = refl
none_since (Some class) h = absurd (h class refl)

-- a choice that is held wherever there is one is none of an empty set
pub none_chosen : (choice : Option ℕ) (held : List Bool) → ((class : ℕ) → choice ≡ Some class → (class < 8) × (holds held class ≡ true)) → NoneHeld held → choice ≡ None
none_chosen choice held h none =
    none_since choice (λ class e. let chosen = h class e in both_ways (holds held class) (none class chosen.0) chosen.1)
