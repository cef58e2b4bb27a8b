-- The flags of a word, and what becomes of them when its bits are set, cleared and joined.
use Rattle.std.proofs.Common.{◌≡◌, ℕ, ◌-◌, ◌*◌, ◌/◌, ◌%◌, ◌^◌, ◌<◌, ◌≤◌, ◌==◌, min, max, Bool, true, false, not, ◌&&◌, ◌||◌, zero, suc, List, [], ◌∷◌, length, map, replicate, nat_lt, slice_set, bit_and, bit_or, inl, inr, refl, ap, subst, sym, ◌∙◌, arith}
use Rattle.std.specs.Int.{bit_at, w16, bit_not}
use Rattle.std.proofs.lemmas.Bool.{cases_lt, cases_eq, cond-true, cond-false, eq-eqb, ne_eqb, lt-ltb, le-ltb, false_from_ne_true}
use Rattle.std.proofs.lemmas.List.{ext_get_or, get_or_past, length-set, length-replicate, get_or-replicate, get_or-set_same, get_or-set_other, set_past}
use Rattle.std.proofs.lemmas.List.FromFn.{length-map-range_with_len, get_or-map-range_with_len}
use Rattle.std.proofs.lemmas.Nat.{or_lt, one_shl, pow_below}
use Rattle.std.proofs.lemmas.Nat.Bits.{bit_at-lt, bit_at_lowest, bit_at-suc, bit_at-zero, bit_at_above, bit_at_and, bit_at_or, bit_at_not, shr_and_one, bit_at_set_same, bit_at_set_other, bit_at_clear_same, bit_at_clear_other, bit_at_ones, bit_at_ones_above}
use Rattle.std.specs.Cmp.{booleans_Decides}
use Rattle.std.specs.Cmp.Lexicographic.{pointwise, pointwise_decides}
use Rattle.sets.specs.Inverse.{word_of-flags_of, half_below}
use Rattle.sets.specs.Sets.{holds, any_in, flag_by_flag, rising, union, intersection, difference, same_flag}
use Rattle.sets.specs.Words.{flags_of, word_of}

pub count_of_flags : (n word : ℕ) → length (flags_of n word) ≡ n
count_of_flags zero word = refl
count_of_flags (suc n) word = ap suc (count_of_flags n (word / 2))

-- a number is in the set if its bit is set
within : (n word k : ℕ) → k < n → holds (flags_of n word) k ≡ (bit_at word k == 1)
within zero word k h = absurd (omega arith)
within (suc n) word zero h = ap (λ bit. bit == 1) (sym (bit_at_lowest word))
within (suc n) word (suc k) h =
    within n (word / 2) k (omega arith) ∙ ap (λ bit. bit == 1) (sym (bit_at-suc word k))

pub holds-flags_of : (n word k : ℕ) → word < 2 ^ n → holds (flags_of n word) k ≡ (bit_at word k == 1)
holds-flags_of n word k h =
    elim (cases_lt k n) [
      | inl below ↦ within n word k below
      | inr above ↦ get_or_past (flags_of n word) k false (omega (arith, count_of_flags n word)) ∙ ap (λ bit. bit == 1) (sym (bit_at_above word n k h above))
    ]

-- a list is the flags of a word if it is as long and each of its flags is the bit there
are_flags_of : (n word : ℕ) (held : List Bool) → length held ≡ n → ((k : ℕ) → k < n → (bit_at word k == 1) ≡ holds held k) → flags_of n word ≡ held
are_flags_of n word held long same =
    ext_get_or false (flags_of n word) held (count_of_flags n word ∙ sym long)
    (λ k l. let below : k < n = omega (arith, count_of_flags n word) in within n word k below ∙ same k below)

-- the empty set
pub no_flags : (n : ℕ) → flags_of n 0 ≡ replicate n false
no_flags n =
    are_flags_of n 0 (replicate n false) (length-replicate n false)
    (λ k l. ap (λ bit. bit == 1) (bit_at-zero k) ∙ sym (get_or-replicate n k false false l))

some_in : (n word : ℕ) → word < 2 ^ n → 0 < word → any_in (flags_of n word) ≡ true
some_in zero word h some = absurd (omega arith)
some_in (suc n) word h some =
    elim (cases_eq (word % 2) 1) [
      | inl odd ↦ cond-true (word % 2 == 1) true (any_in (flags_of n (word / 2))) (eq-eqb (word % 2) 1 odd)
      | inr even ↦ cond-false (word % 2 == 1) true (any_in (flags_of n (word / 2))) (ne_eqb (word % 2) 1 even) ∙ some_in n (word / 2) (half_below n word h) (omega arith)
    ]

none_of_zero : (n : ℕ) → any_in (flags_of n 0) ≡ false
none_of_zero zero = refl
none_of_zero (suc n) = none_of_zero n

pub none_in : (n word : ℕ) → word < 2 ^ n → (word == 0) ≡ not (any_in (flags_of n word))
none_in n word h =
    elim (cases_eq word 0) [
      | inl none ↦ eq-eqb word 0 none ∙ sym (ap not (ap (λ (w : ℕ). any_in (flags_of n w)) none ∙ none_of_zero n))
      | inr some ↦ ne_eqb word 0 some ∙ sym (ap not (some_in n word h (omega arith)))
    ]

-- the test of one bit of a word
pub shifted_bit : (n word k : ℕ) → word < 2 ^ n → (bit_and (word / 2 ^ k) 1 == 1) ≡ holds (flags_of n word) k
shifted_bit n word k h = ap (λ bit. bit == 1) (shr_and_one word k) ∙ sym (holds-flags_of n word k h)

pub past_word : (n word k : ℕ) → n ≤ 16 → 16 ≤ k → holds (flags_of n word) k ≡ false
past_word n word k fits h = get_or_past (flags_of n word) k false (omega (arith, count_of_flags n word))

pub set_past_flags : (n word k : ℕ) (flag : Bool) → n ≤ k → slice_set (flags_of n word) k flag ≡ flags_of n word
set_past_flags n word k flag h = set_past (flags_of n word) k flag (omega (arith, count_of_flags n word))

-- a number is put in, or taken out
pub set_flag : (n word k : ℕ) → n ≤ 16 → k < n → flags_of n (bit_or word (1 * 2 ^ k % 2 ^ 16)) ≡ slice_set (flags_of n word) k true
set_flag n word k fits l =
    let inside : k < 16 = omega arith in
    let P : ℕ → Type 0 = λ i. (bit_at (bit_or word (1 * 2 ^ k % 2 ^ 16)) i == 1) ≡ holds (slice_set (flags_of n word) k true) i in
    are_flags_of n (bit_or word (1 * 2 ^ k % 2 ^ 16)) (slice_set (flags_of n word) k true)
    (length-set (flags_of n word) k true ∙ count_of_flags n word)
    (λ i m. elim (cases_eq i k) as (λ _. P i) [
      | inl same ↦ subst P (sym same) (ap (λ bit. bit == 1) (bit_at_set_same w16 word k inside) ∙ sym (get_or-set_same (flags_of n word) k true false (omega (arith, count_of_flags n word))))
      | inr other ↦ ap (λ bit. bit == 1) (bit_at_set_other w16 word k inside i other) ∙ sym (within n word i m) ∙ sym (get_or-set_other (flags_of n word) k i true false other)
    ])

pub clear_flag : (n word k : ℕ) → n ≤ 16 → k < 16 → flags_of n (bit_and word (bit_not w16 (1 * 2 ^ k % 2 ^ 16))) ≡ slice_set (flags_of n word) k false
clear_flag n word k fits inside =
    let P : ℕ → Type 0 = λ i. (bit_at (bit_and word (bit_not w16 (1 * 2 ^ k % 2 ^ 16))) i == 1) ≡ holds (slice_set (flags_of n word) k false) i in
    are_flags_of n (bit_and word (bit_not w16 (1 * 2 ^ k % 2 ^ 16))) (slice_set (flags_of n word) k false)
    (length-set (flags_of n word) k false ∙ count_of_flags n word)
    (λ i m. elim (cases_eq i k) as (λ _. P i) [
      | inl same ↦ subst P (sym same) (ap (λ bit. bit == 1) (bit_at_clear_same w16 word k inside) ∙ sym (get_or-set_same (flags_of n word) k false false (omega (arith, count_of_flags n word))))
      | inr other ↦ ap (λ bit. bit == 1) (bit_at_clear_other w16 word k inside i (omega arith) other) ∙ sym (within n word i m) ∙ sym (get_or-set_other (flags_of n word) k i false false other)
    ])

pub set_below : (n word k : ℕ) → n ≤ 16 → k < n → word < 2 ^ n → bit_or word (1 * 2 ^ k % 2 ^ 16) < 2 ^ n
set_below n word k fits l h = or_lt n word (1 * 2 ^ k % 2 ^ 16) h (rw (one_shl k 16 (omega arith)) (pow_below k n l))

-- two sets, flag by flag
length-flag_by_flag : (both : Bool → Bool → Bool) (flags others : List Bool) → length flags ≡ length others → length (flag_by_flag both flags others) ≡ length flags
length-flag_by_flag both [] others e = refl
length-flag_by_flag both (flag ∷ flags) [] e = absurd (omega arith)
length-flag_by_flag both (flag ∷ flags) (other ∷ others) e = ap suc (length-flag_by_flag both flags others (omega arith))

holds-flag_by_flag : (both : Bool → Bool → Bool) (flags others : List Bool) (k : ℕ) → length flags ≡ length others → k < length flags → holds (flag_by_flag both flags others) k ≡ both (holds flags k) (holds others k)
holds-flag_by_flag both [] others k e l = absurd (omega arith)
holds-flag_by_flag both (flag ∷ flags) [] k e l = absurd (omega arith)
holds-flag_by_flag both (flag ∷ flags) (other ∷ others) zero e l = refl
holds-flag_by_flag both (flag ∷ flags) (other ∷ others) (suc k) e l = holds-flag_by_flag both flags others k (omega arith) (omega arith)

-- a word each of whose bits comes of the bits of two others
joined : (both : Bool → Bool → Bool) (n word a b : ℕ) → ((k : ℕ) → k < n → (bit_at word k == 1) ≡ both (bit_at a k == 1) (bit_at b k == 1)) → flags_of n word ≡ flag_by_flag both (flags_of n a) (flags_of n b)
joined both n word a b each =
    let long : length (flags_of n a) ≡ length (flags_of n b) = count_of_flags n a ∙ sym (count_of_flags n b) in
    are_flags_of n word (flag_by_flag both (flags_of n a) (flags_of n b))
    (length-flag_by_flag both (flags_of n a) (flags_of n b) long ∙ count_of_flags n a)
    (λ k l. each k l
    ∙ ap (λ flag. both flag (bit_at b k == 1)) (sym (within n a k l))
    ∙ ap (λ flag. both (holds (flags_of n a) k) flag) (sym (within n b k l))
    ∙ sym (holds-flag_by_flag both (flags_of n a) (flags_of n b) k long (omega (arith, count_of_flags n a))))

or_bit : (x y : ℕ) → x < 2 → y < 2 → (max x y == 1) ≡ ((x == 1) || (y == 1))
or_bit zero zero h g = refl
or_bit zero (suc zero) h g = refl
or_bit (suc zero) zero h g = refl
or_bit (suc zero) (suc zero) h g = refl
or_bit (suc (suc x)) y h g = absurd (omega arith)
or_bit zero (suc (suc y)) h g = absurd (omega arith)
or_bit (suc zero) (suc (suc y)) h g = absurd (omega arith)

and_bit : (x y : ℕ) → x < 2 → y < 2 → (min x y == 1) ≡ ((x == 1) && (y == 1))
and_bit zero zero h g = refl
and_bit zero (suc zero) h g = refl
and_bit (suc zero) zero h g = refl
and_bit (suc zero) (suc zero) h g = refl
and_bit (suc (suc x)) y h g = absurd (omega arith)
and_bit zero (suc (suc y)) h g = absurd (omega arith)
and_bit (suc zero) (suc (suc y)) h g = absurd (omega arith)

not_bit : (x : ℕ) → x < 2 → (1 - x == 1) ≡ not (x == 1)
not_bit zero h = refl
not_bit (suc zero) h = refl
not_bit (suc (suc x)) h = absurd (omega arith)

pub union_flags : (n a b : ℕ) → flags_of n (bit_or a b) ≡ union (flags_of n a) (flags_of n b)
union_flags n a b =
    joined (λ flag other. flag || other) n (bit_or a b) a b
    (λ k l. ap (λ bit. bit == 1) (bit_at_or a b k) ∙ or_bit (bit_at a k) (bit_at b k) (bit_at-lt a k) (bit_at-lt b k))

pub intersection_flags : (n a b : ℕ) → flags_of n (bit_and a b) ≡ intersection (flags_of n a) (flags_of n b)
intersection_flags n a b =
    joined (λ flag other. flag && other) n (bit_and a b) a b
    (λ k l. ap (λ bit. bit == 1) (bit_at_and a b k) ∙ and_bit (bit_at a k) (bit_at b k) (bit_at-lt a k) (bit_at-lt b k))

pub difference_flags : (n a b : ℕ) → n ≤ 16 → b < 2 ^ 16 → flags_of n (bit_and a (bit_not w16 b)) ≡ difference (flags_of n a) (flags_of n b)
difference_flags n a b fits h =
    joined (λ flag other. flag && not other) n (bit_and a (bit_not w16 b)) a b
    (λ k l. ap (λ bit. bit == 1) (bit_at_and a (bit_not w16 b) k)
    ∙ and_bit (bit_at a k) (bit_at (bit_not w16 b) k) (bit_at-lt a k) (bit_at-lt (bit_not w16 b) k)
    ∙ ap (λ flag. (bit_at a k == 1) && flag) (ap (λ bit. bit == 1) (bit_at_not w16 b k h (omega arith)) ∙ not_bit (bit_at b k) (bit_at-lt b k)))

-- the numbers below another
pub flags_below : (n k end : ℕ) → k ≡ min end n → flags_of n (2 ^ k - 1) ≡ map (λ number. nat_lt number end) (rising n)
flags_below n k end e =
    are_flags_of n (2 ^ k - 1) (map (λ number. nat_lt number end) (rising n)) (length-map-range_with_len (λ number. nat_lt number end) 0 n)
    (λ i l. elim (cases_lt i end) [
      | inl below ↦ ap (λ bit. bit == 1) (bit_at_ones k i (omega (arith, e))) ∙ sym (lt-ltb i end below) ∙ sym (get_or-map-range_with_len (λ number. nat_lt number end) 0 n i i false l (omega arith))
      | inr above ↦ ap (λ bit. bit == 1) (bit_at_ones_above k i (omega (arith, e))) ∙ sym (le-ltb i end above) ∙ sym (get_or-map-range_with_len (λ number. nat_lt number end) 0 n i i false l (omega arith))
    ])

-- a number is in a set joined of two by what holds of it in each, also past their ends
in_joined : (both : Bool → Bool → Bool) (n word a b k : ℕ) → both false false ≡ false → flags_of n word ≡ flag_by_flag both (flags_of n a) (flags_of n b) → holds (flags_of n word) k ≡ both (holds (flags_of n a) k) (holds (flags_of n b) k)
in_joined both n word a b k none e =
    let long : length (flags_of n a) ≡ length (flags_of n b) = count_of_flags n a ∙ sym (count_of_flags n b) in
    let past : (w : ℕ) → n ≤ k → holds (flags_of n w) k ≡ false = λ w h. get_or_past (flags_of n w) k false (omega (arith, count_of_flags n w)) in
    elim (cases_lt k n) [
      | inl below ↦ ap (λ (flags : List Bool). holds flags k) e ∙ holds-flag_by_flag both (flags_of n a) (flags_of n b) k long (omega (arith, count_of_flags n a))
      | inr above ↦ past word above ∙ sym none ∙ ap (λ flag. both flag false) (sym (past a above)) ∙ ap (λ flag. both (holds (flags_of n a) k) flag) (sym (past b above))
    ]

pub in_union : (n a b k : ℕ) → holds (flags_of n (bit_or a b)) k ≡ (holds (flags_of n a) k || holds (flags_of n b) k)
in_union n a b k = in_joined (λ flag other. flag || other) n (bit_or a b) a b k refl (union_flags n a b)

pub in_intersection : (n a b k : ℕ) → holds (flags_of n (bit_and a b)) k ≡ (holds (flags_of n a) k && holds (flags_of n b) k)
in_intersection n a b k = in_joined (λ flag other. flag && other) n (bit_and a b) a b k refl (intersection_flags n a b)

pub in_difference : (n a b k : ℕ) → n ≤ 16 → b < 2 ^ 16 → holds (flags_of n (bit_and a (bit_not w16 b))) k ≡ (holds (flags_of n a) k && not (holds (flags_of n b) k))
in_difference n a b k fits h =
    in_joined (λ flag other. flag && not other) n (bit_and a (bit_not w16 b)) a b k refl (difference_flags n a b fits h)

-- two words have the same flags if they are the same
pub same_flags : (n a b : ℕ) → a < 2 ^ n → b < 2 ^ n → (a == b) ≡ pointwise same_flag (flags_of n a) (flags_of n b)
same_flags n a b h g =
    let decides = pointwise_decides {E = same_flag} booleans_Decides (flags_of n a) (flags_of n b) in
    elim (cases_eq a b) [
      | inl same ↦ eq-eqb a b same ∙ sym (decides.1 (ap (flags_of n) same))
      | inr other ↦ ne_eqb a b other ∙ sym (false_from_ne_true (pointwise same_flag (flags_of n a) (flags_of n b)) (λ e. other (sym (word_of-flags_of n a h) ∙ ap word_of (decides.0 e) ∙ word_of-flags_of n b g)))
    ]
