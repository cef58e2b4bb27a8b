-- The numbers in a set, and what is left of them without the lowest.
use Rattle.std.proofs.Common.{◌≡◌, ℕ, ◌+◌, ◌<◌, ◌≤◌, Bool, true, false, zero, suc, cond, List, [], ◌∷◌, length, Some, None, filter, find, slice_set, ◌≢◌, inl, inr, refl, ap, sym, ◌∙◌, arith}
use Rattle.std.specs.List.{range_with_len}
use Rattle.std.proofs.lemmas.Bool.{cases_Bool, cases_lt, cond-true, cond-false}
use Rattle.std.proofs.lemmas.List.{length-set, get_or-set_same, get_or-set_other, get_or_past}
use Rattle.sets.specs.Sets.{holds, first_held, members, rising}

find_none : (p : ℕ → Bool) (xs : List ℕ) → find p xs ≡ None → filter p xs ≡ []
find_none p [] e = refl
find_none p (x ∷ xs) e =
    elim (cases_Bool (p x)) [
      | inl passes ↦ let some : find p (x ∷ xs) ≡ Some x = cond-true (p x) (Some x) (find p xs) passes in cc
      | inr fails ↦ cond-false (p x) (x ∷ filter p xs) (filter p xs) fails ∙ find_none p xs (sym (cond-false (p x) (Some x) (find p xs) fails) ∙ e)
    ]

-- two tests that agree from a on keep the same of the numbers from a on
alike : (p q : ℕ → Bool) (a m : ℕ) → ((y : ℕ) → a ≤ y → p y ≡ q y) → filter p (range_with_len a m) ≡ filter q (range_with_len a m)
alike p q a zero h = refl
alike p q a (suc m) h =
    ap (λ flag. cond flag (a ∷ filter p (range_with_len (a + 1) m)) (filter p (range_with_len (a + 1) m))) (h a (omega arith))
    ∙ ap (λ (rest : List ℕ). cond (q a) (a ∷ rest) rest) (alike p q (a + 1) m (λ y l. h y (omega arith)))

-- the first that passes, and the others
head_and_rest : (p q : ℕ → Bool) (a m x : ℕ) → ((y : ℕ) → y ≢ x → q y ≡ p y) → q x ≡ false → find p (range_with_len a m) ≡ Some x → (p x ≡ true) × (a ≤ x) × (filter p (range_with_len a m) ≡ x ∷ filter q (range_with_len a m))
head_and_rest p q a zero x others this e = cc
head_and_rest p q a (suc m) x others this e =
    elim (cases_Bool (p a)) [
      | inl passes ↦
          let same : a ≡ x = let some : Some a ≡ Some x = sym (cond-true (p a) (Some a) (find p (range_with_len (a + 1) m)) passes) ∙ e in cc in (
            ap p (sym same) ∙ passes,
            omega arith,
            cond-true (p a) (a ∷ filter p (range_with_len (a + 1) m)) (filter p (range_with_len (a + 1) m)) passes
                ∙ ap (λ (y : ℕ). y ∷ filter p (range_with_len (a + 1) m)) same
                ∙ ap (λ (ys : List ℕ). x ∷ ys) (alike p q (a + 1) m (λ y l. sym (others y (λ eq. absurd (omega arith)))) ∙ sym (cond-false (q a) (a ∷ filter q (range_with_len (a + 1) m)) (filter q (range_with_len (a + 1) m)) (ap q same ∙ this))),
          )
      | inr fails ↦
          let below = head_and_rest p q (a + 1) m x others this (sym (cond-false (p a) (Some a) (find p (range_with_len (a + 1) m)) fails) ∙ e) in (
            below.0,
            omega (arith, below.1),
            cond-false (p a) (a ∷ filter p (range_with_len (a + 1) m)) (filter p (range_with_len (a + 1) m)) fails ∙ below.2
                ∙ ap (λ (ys : List ℕ). x ∷ ys) (sym (cond-false (q a) (a ∷ filter q (range_with_len (a + 1) m)) (filter q (range_with_len (a + 1) m)) (others a (λ eq. absurd (omega (arith, below.1))) ∙ fails))),
          )
    ]

pub no_more : (n : ℕ) (held : List Bool) → length held ≡ n → None ≡ first_held (rising n) held → members held ≡ []
no_more n held long e = find_none (holds held) (rising (length held)) (ap (λ (m : ℕ). first_held (rising m) held) long ∙ sym e)

taken_out : (held : List Bool) (x : ℕ) → holds (slice_set held x false) x ≡ false
taken_out held x =
    elim (cases_lt x (length held)) [
      | inl within ↦ get_or-set_same held x false false within
      | inr past ↦ get_or_past (slice_set held x false) x false (omega (arith, length-set held x false))
    ]

pub one_fewer : (n x : ℕ) (held : List Bool) → length held ≡ n → Some x ≡ first_held (rising n) held → members held ≡ x ∷ members (slice_set held x false)
one_fewer n x held long e =
    (head_and_rest (holds held) (holds (slice_set held x false)) 0 (length held) x
    (λ y other. get_or-set_other held x y false false other)
    (taken_out held x)
    (ap (λ (m : ℕ). first_held (rising m) held) long ∙ sym e)).2
    ∙ ap (λ (m : ℕ). x ∷ filter (holds (slice_set held x false)) (rising m)) (sym (length-set held x false))

found_below : (p : ℕ → Bool) (a m x : ℕ) → find p (range_with_len a m) ≡ Some x → x < a + m
found_below p a zero x e = cc
found_below p a (suc m) x e =
    elim (cases_Bool (p a)) [
      | inl passes ↦ let some : Some a ≡ Some x = sym (cond-true (p a) (Some a) (find p (range_with_len (a + 1) m)) passes) ∙ e in let same : a ≡ x = cc in omega arith
      | inr fails ↦ let l = found_below p (a + 1) m x (sym (cond-false (p a) (Some a) (find p (range_with_len (a + 1) m)) fails) ∙ e) in omega (arith, l)
    ]

pub first_below : (n x : ℕ) (held : List Bool) → Some x ≡ first_held (rising n) held → x < n
first_below n x held e = let l = found_below (holds held) 0 n x (sym e) in omega (arith, l)
