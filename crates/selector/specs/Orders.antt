-- The two orders, downward from class 7 and upward from the class picked last: what stands at each
-- place, and that every class stands at one.
use Rattle.std.specs.Prelude.{◌≡◌, ℕ, ◌+◌, ◌-◌, ◌*◌, ◌%◌, ◌<◌, Bool, false, List, Some, None, slice_index}
use Rattle.std.proofs.Common.{sym, ◌∙◌, ap, arith}
use Rattle.std.proofs.lemmas.List.FromFn.{get_or-map-range_with_len}
use Rattle.sets.specs.Sets.{holds}
use Rattle.selector.specs.Strict.{downward, highest, Highest}
use Rattle.selector.specs.Turns.{steps_up, upward, next_turn, NextUp}
use Rattle.selector.specs.Firsts.{first_is, first_none}

down_at : (i : ℕ) → i < 8 → slice_index downward i ≡ 7 - i
down_at i l = get_or-map-range_with_len (λ k. 7 - k) 0 8 i i 0 l (omega arith)

-- the place of a class
down_to : (class : ℕ) → class < 8 → slice_index downward (7 - class) ≡ class
down_to class l = down_at (7 - class) (omega arith) ∙ omega arith

pub highest_is : (held : List Bool) (class : ℕ) → highest held ≡ Some class → (class < 8) × Highest held class
highest_is held class e =
    let f = first_is downward held class e in
    let at : class ≡ 7 - f.place = f.is ∙ down_at f.place f.within in (
      omega arith,
      record { stands = f.stands; above = λ other l m. ap (holds held) (sym (down_to other m)) ∙ f.before (7 - other) (omega arith) },
    )

pub highest_none : (held : List Bool) → highest held ≡ None → (class : ℕ) → class < 8 → holds held class ≡ false
highest_none held e class l =
    ap (holds held) (sym (down_to class l)) ∙ first_none downward held e (7 - class) (omega arith)

up_at : (last i : ℕ) → i < 8 → slice_index (upward last) i ≡ steps_up last (1 + i)
up_at last i l = get_or-map-range_with_len (steps_up last) 1 8 i (1 + i) 0 l (omega arith)

-- the place of a class, counted round
abbrev turn_of : ℕ → ℕ → ℕ
turn_of last class = (class + 7 * last + 7) % 8

up_to : (last class : ℕ) → class < 8 → slice_index (upward last) (turn_of last class) ≡ class
up_to last class l = up_at last (turn_of last class) (omega arith) ∙ omega arith

pub turn_is : (last : ℕ) (held : List Bool) (class : ℕ) → next_turn last held ≡ Some class → (class < 8) × NextUp last held class
turn_is last held class e =
    let f = first_is (upward last) held class e in
    let at : class ≡ steps_up last (1 + f.place) = f.is ∙ up_at last f.place f.within in (
      omega arith,
      record { steps = 1 + f.place; some = omega arith; most = omega (arith, f.within); reached = at; stands = f.stands; passed = λ fewer l m. ap (holds held) (sym (up_at last (fewer - 1) (omega (arith, f.within)) ∙ ap (steps_up last) (omega arith))) ∙ f.before (fewer - 1) (omega arith) },
    )

pub turn_none : (last : ℕ) (held : List Bool) → next_turn last held ≡ None → (class : ℕ) → class < 8 → holds held class ≡ false
turn_none last held e class l =
    ap (holds held) (sym (up_to last class l)) ∙ first_none (upward last) held e (turn_of last class) (omega arith)
