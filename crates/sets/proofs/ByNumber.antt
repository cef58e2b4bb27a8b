-- For callers: a set beside what is said of each number, and a loop over the numbers of a set.
use Rattle.std.proofs.Common.{◌≡◌, ℕ, ◌+◌, ◌<◌, ◌≤◌, ◌==◌, Bool, true, false, zero, suc, cond, List, [], ◌∷◌, length, map, filter, replicate, nat_lt, ◌&&◌, slice_set, ◌⊎◌, ◌≢◌, inl, inr, refl, ap, subst, sym, ◌∙◌, arith}
use Rattle.std.specs.List.{range_with_len}
use Rattle.std.proofs.lemmas.Bool.{cases_Bool, cases_eq, cases_lt, cond-true, cond-false, eq-eqb, ne_eqb, lt-ltb, le-ltb, and_left, and_right, and_from}
use Rattle.std.proofs.lemmas.Bool.Decides.{nat_tests}
use Rattle.std.proofs.lemmas.List.{length-set, length-replicate, get_or-replicate, get_or-set_same, get_or-set_other, get_or_past}
use Rattle.std.proofs.lemmas.List.FromFn.{length-map-range_with_len, get_or-map-range_with_len, fill_by_all}
use Rattle.sets.specs.Sets.{holds, members, rising}

-- the set of the numbers below n that pass a test, when the test is changed at one number
pub set_map : (f : ℕ → Bool) (n k : ℕ) (flag : Bool) → slice_set (map f (rising n)) k flag ≡ map (λ number. cond (number == k) flag (f number)) (rising n)
set_map f n k flag =
    let long : length (slice_set (map f (rising n)) k flag) ≡ n = length-set (map f (rising n)) k flag ∙ length-map-range_with_len f 0 n in
    let P : ℕ → Type 0 = λ i. holds (slice_set (map f (rising n)) k flag) i ≡ cond (i == k) flag (f i) in
    fill_by_all (λ number. cond (number == k) flag (f number)) (slice_set (map f (rising n)) k flag) n false long
    (λ i l. elim (cases_eq i k) as (λ _. P i) [
      | inl same ↦ subst P (sym same) (get_or-set_same (map f (rising n)) k flag false (omega (arith, length-map-range_with_len f 0 n)) ∙ sym (cond-true (k == k) flag (f k) (eq-eqb k k refl)))
      | inr other ↦ get_or-set_other (map f (rising n)) k i flag false other ∙ get_or-map-range_with_len f 0 n i i false l (omega arith) ∙ sym (cond-false (i == k) flag (f i) (ne_eqb i k other))
    ])

-- two tests that agree below n
pub map_same : (f g : ℕ → Bool) (n : ℕ) → ((k : ℕ) → k < n → f k ≡ g k) → map f (rising n) ≡ map g (rising n)
map_same f g n h =
    fill_by_all g (map f (rising n)) n false (length-map-range_with_len f 0 n)
    (λ k l. get_or-map-range_with_len f 0 n k k false l (omega arith) ∙ h k l)

-- what becomes of the state of number p where a loop does f at each number of a list in turn
abbrev pub touched : {X : Type 0} → (X → X) → ℕ → List ℕ → X → X
touched f p [] x = x
touched f p (number ∷ numbers) x = touched f p numbers (cond (p == number) (f x) x)

-- a list of numbers none of which is p
outside : {X : Type 0} → (f : X → X) (p : ℕ) (h : ℕ → Bool) (a m : ℕ) (x : X) → (p < a) ⊎ (a + m ≤ p) → touched f p (filter h (range_with_len a m)) x ≡ x
outside f p h a zero x out = refl
outside f p h a (suc m) x out =
    let other : p ≢ a = λ e. elim out [ inl low ↦ absurd (omega arith) | inr high ↦ absurd (omega arith) ] in
    let further : (p < a + 1) ⊎ (a + 1 + m ≤ p) = elim out [ inl low ↦ inl (omega arith) | inr high ↦ inr (omega arith) ] in
    elim (cases_Bool (h a)) [
      | inl in_set ↦
          ap (λ (ns : List ℕ). touched f p ns x) (cond-true (h a) (a ∷ filter h (range_with_len (a + 1) m)) (filter h (range_with_len (a + 1) m)) in_set)
          ∙ ap (λ v. touched f p (filter h (range_with_len (a + 1) m)) v) (cond-false (p == a) (f x) x (ne_eqb p a other))
          ∙ outside f p h (a + 1) m x further
      | inr not_in ↦
          ap (λ (ns : List ℕ). touched f p ns x) (cond-false (h a) (a ∷ filter h (range_with_len (a + 1) m)) (filter h (range_with_len (a + 1) m)) not_in)
          ∙ outside f p h (a + 1) m x further
    ]

inside : {X : Type 0} → (f : X → X) (p : ℕ) (h : ℕ → Bool) (a m : ℕ) (x : X) → a ≤ p → p < a + m → touched f p (filter h (range_with_len a m)) x ≡ cond (h p) (f x) x
inside f p h a zero x low high = absurd (omega arith)
inside f p h a (suc m) x low high =
    elim (cases_eq p a) [
      | inl same ↦ elim (cases_Bool (h a)) [
        | inl in_set ↦
            ap (λ (ns : List ℕ). touched f p ns x) (cond-true (h a) (a ∷ filter h (range_with_len (a + 1) m)) (filter h (range_with_len (a + 1) m)) in_set)
            ∙ ap (λ v. touched f p (filter h (range_with_len (a + 1) m)) v) (cond-true (p == a) (f x) x (eq-eqb p a same))
            ∙ outside f p h (a + 1) m (f x) (inl (omega arith))
            ∙ sym (cond-true (h p) (f x) x (ap h same ∙ in_set))
        | inr not_in ↦
            ap (λ (ns : List ℕ). touched f p ns x) (cond-false (h a) (a ∷ filter h (range_with_len (a + 1) m)) (filter h (range_with_len (a + 1) m)) not_in)
            ∙ outside f p h (a + 1) m x (inl (omega arith))
            ∙ sym (cond-false (h p) (f x) x (ap h same ∙ not_in))
      ]
      | inr other ↦ elim (cases_Bool (h a)) [
        | inl in_set ↦
            ap (λ (ns : List ℕ). touched f p ns x) (cond-true (h a) (a ∷ filter h (range_with_len (a + 1) m)) (filter h (range_with_len (a + 1) m)) in_set)
            ∙ ap (λ v. touched f p (filter h (range_with_len (a + 1) m)) v) (cond-false (p == a) (f x) x (ne_eqb p a other))
            ∙ inside f p h (a + 1) m x (omega arith) (omega arith)
        | inr not_in ↦
            ap (λ (ns : List ℕ). touched f p ns x) (cond-false (h a) (a ∷ filter h (range_with_len (a + 1) m)) (filter h (range_with_len (a + 1) m)) not_in)
            ∙ inside f p h (a + 1) m x (omega arith) (omega arith)
      ]
    ]

-- over the numbers of a set, once at each number that is in it
pub touched_members : {X : Type 0} → (f : X → X) (p : ℕ) (held : List Bool) (x : X) → touched f p (members held) x ≡ cond (holds held p) (f x) x
touched_members f p held x =
    elim (cases_lt p (length held)) [
      | inl within ↦ inside f p (holds held) 0 (length held) x (omega arith) (omega arith)
      | inr past ↦ outside f p (holds held) 0 (length held) x (inr (omega arith)) ∙ sym (cond-false (holds held p) (f x) x (get_or_past held p false past))
    ]

further : (k i : ℕ) → (k ≡ i → ⊥) → nat_lt k i ≡ nat_lt k (i + 1)
further k i other = grind (arith, nat_tests)

-- a set that a loop has built: the numbers below n that pass a test, as far as it has been tried
unfoldable pub tried : (ℕ → Bool) → ℕ → ℕ → List Bool
tried f n i = map (λ number. nat_lt number i && f number) (rising n)

pub tried_none : (f : ℕ → Bool) (n : ℕ) → replicate n false ≡ tried f n 0
unfolding tried
tried_none f n =
    fill_by_all (λ number. nat_lt number 0 && f number) (replicate n false) n false (length-replicate n false)
    (λ k l. get_or-replicate n k false false l ∙ sym (and_left (nat_lt k 0) (f k) (le-ltb k 0 (omega arith))))

pub tried_adds : (f : ℕ → Bool) (n i : ℕ) → f i ≡ true → slice_set (tried f n i) i true ≡ tried f n (i + 1)
unfolding tried
tried_adds f n i h =
    set_map (λ number. nat_lt number i && f number) n i true
    ∙ map_same (λ number. cond (number == i) true (nat_lt number i && f number)) (λ number. nat_lt number (i + 1) && f number) n
    (λ k l. elim (cases_eq k i) [
      | inl same ↦ cond-true (k == i) true (nat_lt k i && f k) (eq-eqb k i same) ∙ sym (and_from (nat_lt k (i + 1)) (f k) (lt-ltb k (i + 1) (omega arith)) (ap f same ∙ h))
      | inr other ↦ cond-false (k == i) true (nat_lt k i && f k) (ne_eqb k i other) ∙ ap (λ flag. flag && f k) (further k i other)
    ])

pub tried_skips : (f : ℕ → Bool) (n i : ℕ) → f i ≡ false → tried f n i ≡ tried f n (i + 1)
unfolding tried
tried_skips f n i h =
    map_same (λ number. nat_lt number i && f number) (λ number. nat_lt number (i + 1) && f number) n
    (λ k l. elim (cases_eq k i) [
      | inl same ↦ and_right (nat_lt k i) (f k) (ap f same ∙ h) ∙ sym (and_right (nat_lt k (i + 1)) (f k) (ap f same ∙ h))
      | inr other ↦ ap (λ flag. flag && f k) (further k i other)
    ])

pub tried_all : (f : ℕ → Bool) (n i : ℕ) → n ≤ i → tried f n i ≡ map f (rising n)
unfolding tried
tried_all f n i h =
    map_same (λ number. nat_lt number i && f number) f n (λ k l. ap (λ flag. flag && f k) (lt-ltb k i (omega arith)))
