-- Which number an order comes to first.
use Rattle.std.proofs.Common.{◌≡◌, ℕ, ◌+◌, ◌-◌, ◌*◌, ◌/◌, ◌%◌, ◌<◌, ◌≤◌, Bool, true, false, zero, suc, List, [], ◌∷◌, length, Some, None, slice_index, inl, inr, refl, ap, ◌∙◌, arith}
use Rattle.std.proofs.lemmas.Bool.{cases_lt, cond-true, cond-false}
use Rattle.std.proofs.lemmas.List.FromFn.{length-range_with_len, get_or-range_with_len, length-map-range_with_len, get_or-map-range_with_len}
use Rattle.std.proofs.lemmas.Nat.{div-add-mod', mod-mul-add}
use Rattle.sets.specs.Sets.{holds, first_held, rising, falling, going_round}

-- an order comes first to the number at `place` if that is in the set and none before it is
first_at : (order : List ℕ) (held : List Bool) (place : ℕ) → place < length order → holds held (slice_index order place) ≡ true → ((j : ℕ) → j < place → holds held (slice_index order j) ≡ false) → first_held order held ≡ Some (slice_index order place)
first_at [] held place l is before = absurd (omega arith)
first_at (x ∷ xs) held zero l is before = cond-true (holds held x) (Some x) (first_held xs held) is
first_at (x ∷ xs) held (suc place) l is before =
    cond-false (holds held x) (Some x) (first_held xs held) (before 0 (omega arith))
    ∙ first_at xs held place (omega arith) is (λ j m. before (suc j) (omega arith))

pub first_nowhere : (order : List ℕ) (held : List Bool) → ((k : ℕ) → holds held k ≡ false) → first_held order held ≡ None
first_nowhere [] held none = refl
first_nowhere (x ∷ xs) held none = cond-false (holds held x) (Some x) (first_held xs held) (none x) ∙ first_nowhere xs held none

rising_at : (n i : ℕ) → i < n → slice_index (rising n) i ≡ i
rising_at n i l = get_or-range_with_len 0 n i 0 l ∙ omega arith

length-falling : (n : ℕ) → length (falling n) ≡ n
length-falling zero = refl
length-falling (suc n) = ap suc (length-falling n)

falling_at : (n i j : ℕ) → i + j + 1 ≡ n → slice_index (falling n) i ≡ j
falling_at zero i j e = absurd (omega arith)
falling_at (suc n) zero j e = omega arith
falling_at (suc n) (suc i) j e = falling_at n i j (omega arith)

round_at : (n last i : ℕ) → i < n → slice_index (going_round n last) i ≡ (last + (1 + i)) % n
round_at n last i l = get_or-map-range_with_len (λ steps. (last + steps) % n) 1 n i (1 + i) 0 l refl

pub lowest_is : (n k : ℕ) (held : List Bool) → k < n → holds held k ≡ true → ((j : ℕ) → j < k → holds held j ≡ false) → first_held (rising n) held ≡ Some k
lowest_is n k held l is below =
    first_at (rising n) held k (omega (arith, length-range_with_len 0 n)) (ap (holds held) (rising_at n k l) ∙ is)
    (λ j m. ap (holds held) (rising_at n j (omega arith)) ∙ below j m)
    ∙ ap (λ (x : ℕ). Some x) (rising_at n k l)

pub highest_is : (n k : ℕ) (held : List Bool) → k < n → holds held k ≡ true → ((j : ℕ) → k < j → holds held j ≡ false) → first_held (falling n) held ≡ Some k
highest_is n k held l is above =
    let at : slice_index (falling n) (n - 1 - k) ≡ k = falling_at n (n - 1 - k) k (omega arith) in
    first_at (falling n) held (n - 1 - k) (omega (arith, length-falling n)) (ap (holds held) at ∙ is)
    (λ j m. ap (holds held) (falling_at n j (n - 1 - j) (omega arith)) ∙ above (n - 1 - j) (omega arith))
    ∙ ap (λ (x : ℕ). Some x) at

-- that many steps upward, before the end of the numbers and past it
straight : (n last steps : ℕ) → last % n + steps < n → (last + steps) % n ≡ last % n + steps
straight n last steps h =
    ap (λ (x : ℕ). x % n) (let e : last + steps ≡ last / n * n + (last % n + steps) = omega (arith, div-add-mod' last n) in e) ∙ mod-mul-add (last / n) n (last % n + steps) h

past : (n last steps rest : ℕ) → last % n + steps ≡ n + rest → rest < n → (last + steps) % n ≡ rest
past n last steps rest e h =
    ap (λ (x : ℕ). x % n) (let e : last + steps ≡ (last / n + 1) * n + rest = omega (arith, div-add-mod' last n) in e) ∙ mod-mul-add (last / n + 1) n rest h

-- from `last` on, the lowest above it comes first
pub next_is : (n last k : ℕ) (held : List Bool) → last % n < k → k < n → holds held k ≡ true → ((j : ℕ) → last % n < j → j < k → holds held j ≡ false) → first_held (going_round n last) held ≡ Some k
next_is n last k held up l is between =
    let at : slice_index (going_round n last) (k - last % n - 1) ≡ k = round_at n last (k - last % n - 1) (omega arith) ∙ straight n last (1 + (k - last % n - 1)) (omega arith) ∙ omega arith in
    first_at (going_round n last) held (k - last % n - 1) (omega (arith, length-map-range_with_len (λ steps. (last + steps) % n) 1 n)) (ap (holds held) at ∙ is)
    (λ j m. ap (holds held) (round_at n last j (omega arith) ∙ straight n last (1 + j) (omega arith)) ∙ between (last % n + (1 + j)) (omega arith) (omega arith))
    ∙ ap (λ (x : ℕ). Some x) at

-- where none is above it, the lowest of all
pub next_round : (n last k : ℕ) (held : List Bool) → k ≤ last % n → last % n < n → holds held k ≡ true → ((j : ℕ) → last % n < j → holds held j ≡ false) → ((j : ℕ) → j < k → holds held j ≡ false) → first_held (going_round n last) held ≡ Some k
next_round n last k held le l is above below =
    let at : slice_index (going_round n last) (n - last % n + k - 1) ≡ k = round_at n last (n - last % n + k - 1) (omega arith) ∙ past n last (1 + (n - last % n + k - 1)) k (omega arith) (omega arith) in
    first_at (going_round n last) held (n - last % n + k - 1) (omega (arith, length-map-range_with_len (λ steps. (last + steps) % n) 1 n)) (ap (holds held) at ∙ is)
    (λ j m. elim (cases_lt (last % n + (1 + j)) n) [
      | inl up ↦ ap (holds held) (round_at n last j (omega arith) ∙ straight n last (1 + j) up) ∙ above (last % n + (1 + j)) (omega arith)
      | inr over ↦ ap (holds held) (round_at n last j (omega arith) ∙ past n last (1 + j) (last % n + (1 + j) - n) (omega arith) (omega arith)) ∙ below (last % n + (1 + j) - n) (omega arith)
    ])
    ∙ ap (λ (x : ℕ). Some x) at
