-- The ports that a frame is let through to, as a set and port by port.
use Rattle.std.proofs.Common.{◌≡◌, ℕ, Bool, true, false, not, ◌&&◌, ◌||◌, ◌==◌, refl, sym, ap, ◌∙◌, inl, inr}
use Rattle.std.proofs.lemmas.Bool.{cases_eq, eq-eqb, ne_eqb}

pub same_either_way : (a b : ℕ) → (a == b) ≡ (b == a)
same_either_way a b =
    elim (cases_eq a b) [
      | inl same ↦ eq-eqb a b same ∙ sym (eq-eqb b a (sym same))
      | inr other ↦ ne_eqb a b other ∙ sym (ne_eqb b a (λ e. other (sym e)))
    ]

-- a member is let through by the entry where nothing filters, or where it is forced
pub opened : (m f g e : Bool) → (((m && not g) && e) || (m && f)) ≡ (m && (f || (not g && e)))
opened true true true e = refl
opened true true false true = refl
opened true true false false = refl
opened true false true e = refl
opened true false false true = refl
opened true false false false = refl
opened false f g e = refl

-- whether a port forwards may be asked last
pub asked_last : (a b c d e : Bool) → ((a && b && d && e) && c) ≡ (a && b && c && d && e)
asked_last true true true true true = refl
asked_last true true true true false = refl
asked_last true true true false e = refl
asked_last true true false true true = refl
asked_last true true false true false = refl
asked_last true true false false e = refl
asked_last true false c d e = refl
asked_last false b c d e = refl
