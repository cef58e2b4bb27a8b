-- Which number the counts of a word's zeros give.
use Rattle.std.proofs.Common.{◌≡◌, ℕ, ◌+◌, ◌-◌, ◌*◌, ◌/◌, ◌%◌, ◌^◌, ◌<◌, ◌≤◌, ◌==◌, true, false, Some, None, inl, inr, ap, subst, sym, ◌∙◌, arith}
use Rattle.std.specs.Int.{bit_at, w16, trailing_zeros}
use Rattle.std.proofs.lemmas.Bool.{cases_lt}
use Rattle.std.proofs.lemmas.Nat.{shr-shr, mod_below, le-div, div_below, pow-add, pow_pos, shr_le, pow_below}
use Rattle.std.proofs.lemmas.Nat.Bits.{bit_at-zero, bit_at_above, bit_at-trailing_zeros}
use Rattle.sets.specs.Sets.{holds, first_held, rising, falling, going_round}
use Rattle.sets.specs.Words.{flags_of}
use Rattle.sets.proofs.Flags.{holds-flags_of}
use Rattle.sets.proofs.Orders.{first_nowhere, lowest_is, highest_is, next_is, next_round}

wide : (n word : ℕ) → word < 2 ^ n → n ≤ 16 → word < 2 ^ 16
wide n word h fits =
    elim (cases_lt n 16) [
      | inl below ↦ omega (arith, pow_below n 16 below)
      | inr above ↦ let e : n ≡ 16 = omega arith in subst (λ (m : ℕ). word < 2 ^ m) e h
    ]

-- a bit that is set is one of the lowest n, and its number is in the set
inside : (n word k : ℕ) → word < 2 ^ n → bit_at word k ≡ 1 → k < n
inside n word k h is =
    elim (cases_lt k n) [ inl below ↦ below | inr above ↦ absurd (omega (arith, bit_at_above word n k h above)) ]

in_set : (n word k : ℕ) → word < 2 ^ n → bit_at word k ≡ 1 → holds (flags_of n word) k ≡ true
in_set n word k h is = holds-flags_of n word k h ∙ ap (λ bit. bit == 1) is

not_in : (n word k : ℕ) → word < 2 ^ n → bit_at word k ≡ 0 → holds (flags_of n word) k ≡ false
not_in n word k h is = holds-flags_of n word k h ∙ ap (λ bit. bit == 1) is

none_of : (n word k : ℕ) → word ≡ 0 → holds (flags_of n word) k ≡ false
none_of n word k e =
    not_in n word k (omega (arith, pow_pos n)) (ap (λ w. bit_at w k) e ∙ bit_at-zero k)

pub lowest_none : (n word : ℕ) → word ≡ 0 → first_held (rising n) (flags_of n word) ≡ None
lowest_none n word e = first_nowhere (rising n) (flags_of n word) (λ k. none_of n word k e)

pub highest_none : (n word : ℕ) → word ≡ 0 → first_held (falling n) (flags_of n word) ≡ None
highest_none n word e = first_nowhere (falling n) (flags_of n word) (λ k. none_of n word k e)

pub next_none : (n last word : ℕ) → word ≡ 0 → first_held (going_round n last) (flags_of n word) ≡ None
next_none n last word e = first_nowhere (going_round n last) (flags_of n word) (λ k. none_of n word k e)

pub lowest_bit : (n word : ℕ) → 0 < word → word < 2 ^ n → n ≤ 16 → first_held (rising n) (flags_of n word) ≡ Some (trailing_zeros w16 word)
lowest_bit n word some h fits =
    let t = bit_at-trailing_zeros w16 word some (wide n word h fits) in
    lowest_is n (trailing_zeros w16 word) (flags_of n word) (inside n word (trailing_zeros w16 word) h t.1)
    (in_set n word (trailing_zeros w16 word) h t.1) (λ j l. not_in n word j h (t.2 j l))

-- the highest bit of a word lies where the power of 2 does that fits in the word, while the next does not
top_bit : (word k : ℕ) → 2 ^ k ≤ word → word < 2 * 2 ^ k → bit_at word k ≡ 1
top_bit word k low high =
    let least : 1 ≤ word / 2 ^ k = le-div 1 word (2 ^ k) (pow_pos k) (omega (arith, low)) in
    let most : word / 2 ^ k < 2 = div_below word (2 ^ k) 2 (pow_pos k) high in
    omega arith

pub highest_bit : (n word k : ℕ) → 2 ^ k ≤ word → word < 2 * 2 ^ k → word < 2 ^ n → first_held (falling n) (flags_of n word) ≡ Some k
highest_bit n word k low high h =
    let is = top_bit word k low high in
    highest_is n k (flags_of n word) (inside n word k h is) (in_set n word k h is)
    (λ j l. not_in n word j h (bit_at_above word (k + 1) j (omega (arith, pow-add 2 k 1)) (omega arith)))

-- the numbers above `from` are the bits of the word that is moved down so far
moved : (word from j : ℕ) → bit_at (word / 2 ^ from / 2) j ≡ bit_at word (from + 1 + j)
moved word from j =
    ap (λ (w : ℕ). w / 2 ^ j % 2) (shr-shr word from 1) ∙ ap (λ (w : ℕ). w % 2) (shr-shr word (from + 1) j)

above_from : (word from j : ℕ) → from < j → bit_at word j ≡ bit_at (word / 2 ^ from / 2) (j - from - 1)
above_from word from j l =
    sym (moved word from (j - from - 1) ∙ ap (bit_at word) (let e : from + 1 + (j - from - 1) ≡ j = omega arith in e))

pub next_bit : (n last word : ℕ) → 0 < word / 2 ^ (last % n) / 2 → word < 2 ^ n → n ≤ 16 → first_held (going_round n last) (flags_of n word) ≡ Some (last % n + 1 + trailing_zeros w16 (word / 2 ^ (last % n) / 2))
next_bit n last word some h fits =
    let small : word / 2 ^ (last % n) / 2 < 2 ^ 16 = omega (arith, wide n word h fits, shr_le word (last % n)) in
    let t = bit_at-trailing_zeros w16 (word / 2 ^ (last % n) / 2) some small in
    let count : ℕ = trailing_zeros w16 (word / 2 ^ (last % n) / 2) in
    let is : bit_at word (last % n + 1 + count) ≡ 1 = sym (moved word (last % n) count) ∙ t.1 in
    next_is n last (last % n + 1 + count) (flags_of n word) (omega arith) (inside n word (last % n + 1 + count) h is)
    (in_set n word (last % n + 1 + count) h is)
    (λ j up l. not_in n word j h (above_from word (last % n) j up ∙ t.2 (j - last % n - 1) (omega arith)))

pub next_bit_round : (n last word : ℕ) → 0 < word → word / 2 ^ (last % n) / 2 ≡ 0 → word < 2 ^ n → n ≤ 16 → first_held (going_round n last) (flags_of n word) ≡ Some (trailing_zeros w16 word)
next_bit_round n last word some none h fits =
    let t = bit_at-trailing_zeros w16 word some (wide n word h fits) in
    let least : ℕ = trailing_zeros w16 word in
    let l : least < n = inside n word least h t.1 in
    let above = λ (j : ℕ) (up : last % n < j). let e : bit_at word j ≡ 0 = above_from word (last % n) j up ∙ ap (λ (w : ℕ). bit_at w (j - last % n - 1)) none ∙ bit_at-zero (j - last % n - 1) in e in
    let below : least ≤ last % n = elim (cases_lt (last % n) least) [ inl up ↦ absurd (omega (arith, above least up, t.1)) | inr le ↦ le ] in
    next_round n last least (flags_of n word) below (mod_below last n (omega arith)) (in_set n word least h t.1)
    (λ j up. not_in n word j h (above j up)) (λ j m. not_in n word j h (t.2 j m))
