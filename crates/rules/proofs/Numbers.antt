-- Flags that a test of each number gives, and how many frames stand in all classes when one class gains or loses a frame.
use Rattle.std.proofs.Common.{◌≡◌, ℕ, zero, suc, ◌+◌, ◌-◌, ◌<◌, Bool, true, false, cond, eqb, ltb, List, [], ◌∷◌, map, length, get_or, sym, refl, ap, ◌∙◌, zero-add, arith}
use Rattle.std.specs.List.{list_all, range_with_len}
use Rattle.std.proofs.Math.Nat.{lt_of_not-le}
use Rattle.std.proofs.lemmas.Bool.{false≢true, ltb-true, true≢false}
use Rattle.std.proofs.lemmas.List.{get_or_past}
use Rattle.std.proofs.lemmas.List.FromFn.{get_or-map-range_with_len, length-map-range_with_len}
use Rattle.std.proofs.lemmas.Bool.Decides.{nat_tests}
use Rattle.rules.specs.Egress.{class_of, class_table}
use Rattle.rules.proofs.Classes.{passes_at}
use Rattle.sets.specs.Sets.{any_in}
use Rattle.rules.specs.Ports.{eight, sixteen}
use Rattle.rules.specs.State.{Queued, standing_in}

pub eqb_flip : (a b : ℕ) → eqb a b ≡ eqb b a
eqb_flip a b = grind (arith, nat_tests)

-- the flag at a place is the test of that number
pub flag : (f : ℕ → Bool) (n i : ℕ) → i < n → get_or (map f (range_with_len 0 n)) i false ≡ f i
flag f n i h = get_or-map-range_with_len f 0 n i i false h (zero-add i)

-- and past the end no flag is up
pub flagged : (f : ℕ → Bool) (n i : ℕ) → get_or (map f (range_with_len 0 n)) i false ≡ true → (i < n) × (f i ≡ true)
flagged f n i e =
    let flags = map f (range_with_len 0 n) in
    let h : i < n = lt_of_not-le (λ past. false≢true (sym (get_or_past flags i false (omega (arith, length-map-range_with_len f 0 n))) ∙ e)) in
    (h, sym (flag f n i h) ∙ e)

-- no number is in a set that has none
pub none_in : (flags : List Bool) (i : ℕ) → any_in flags ≡ false → get_or flags i false ≡ false
none_in [] i e = refl
none_in (true ∷ flags) i e = absurd (true≢false e)
none_in (false ∷ flags) zero e = refl
none_in (false ∷ flags) (suc i) e = none_in flags i e

pub sixteen_has : (f : ℕ → Bool) (p : ℕ) → get_or (map f sixteen) p false ≡ true → f p ≡ true
sixteen_has f p e = (flagged f 16 p e).1

-- every class that the table names is one of the eight
pub class_small : (classes priority : ℕ) → class_of classes priority < 8
unfolding class_of
class_small classes priority =
    let small : ℕ → Bool = λ c. ltb c 8 in
    let row = get_or class_table priority [] in
    ltb-true (get_or row (classes - 1) 0) 8 (passes_at small row (classes - 1) 0 refl (passes_at (list_all small) class_table priority [] refl refl))

-- how often a class is among some classes
abbrev times : ℕ → List ℕ → ℕ
times c [] = 0
times c (d ∷ ds) = cond (eqb d c) 1 0 + times c ds

once : (c : ℕ) → c < 8 → times c eight ≡ 1
once zero h = refl
once (suc zero) h = refl
once (suc (suc zero)) h = refl
once (suc (suc (suc zero))) h = refl
once (suc (suc (suc (suc zero)))) h = refl
once (suc (suc (suc (suc (suc zero))))) h = refl
once (suc (suc (suc (suc (suc (suc zero)))))) h = refl
once (suc (suc (suc (suc (suc (suc (suc zero))))))) h = refl
once (suc (suc (suc (suc (suc (suc (suc (suc c)))))))) h = absurd (omega arith)

more_in : (q r : ℕ → List Queued) (c : ℕ) → ((d : ℕ) → length (r d) ≡ length (q d) + cond (eqb d c) 1 0) → (ds : List ℕ) → standing_in r ds ≡ standing_in q ds + times c ds
more_in q r c h [] = refl
more_in q r c h (d ∷ ds) = omega (arith, h d, more_in q r c h ds)

-- one frame more in one class is one frame more in all
pub one_more : (q r : ℕ → List Queued) (c : ℕ) → c < 8 → ((d : ℕ) → length (r d) ≡ length (q d) + cond (eqb d c) 1 0) → standing_in r eight ≡ suc (standing_in q eight)
one_more q r c small h = omega (arith, more_in q r c h eight, once c small)

pub same_standing : (q r : ℕ → List Queued) (ds : List ℕ) → ((d : ℕ) → r d ≡ q d) → standing_in r ds ≡ standing_in q ds
same_standing q r [] h = refl
same_standing q r (d ∷ ds) h = omega (arith, ap length (h d), same_standing q r ds h)

pub none_standing : (q : ℕ → List Queued) (ds : List ℕ) → ((d : ℕ) → q d ≡ []) → standing_in q ds ≡ 0
none_standing q [] h = refl
none_standing q (d ∷ ds) h = omega (arith, ap length (h d), none_standing q ds h)
