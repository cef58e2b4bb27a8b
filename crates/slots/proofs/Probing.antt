-- What a search says, and the steps that it goes.
use Rattle.std.proofs.Common.{◌≡◌, ℕ, ◌+◌, ◌-◌, ◌*◌, ◌^◌, ◌<◌, ◌≤◌, nat_lt, Bool, true, false, List, length, min, take, drop, get_or, Some, None, Option, get_or-take, get_or-drop, length-take, length-drop, sym, refl, ap, ◌∙◌, subst, mul_comm, add-mul, arith}
use Rattle.std.proofs.lemmas.List.Quantifiers.{position-Some}
use Rattle.std.proofs.lemmas.List.Sums.{fails_before_first}
use Rattle.std.specs.List.{position, position_or_len}
use Rattle.std.proofs.lemmas.Bool.Decides.{nat_tests}
use Rattle.table.specs.declared.entry.Entry.{Entry}
use Rattle.table.specs.Entries.{free_entry, has_key}
use Rattle.table.proofs.Records.{key_is}
use Rattle.std.proofs.lemmas.Nat.{div_below, mul-le, mod_below}
use Rattle.slots.specs.declared.probe.Spot.{Spot}
use Rattle.slots.specs.Hash.{hash_of, home_of, turned, gap}
use Rattle.slots.specs.Probe.{probed, Passed, Found}

-- going so many steps, and counting them

pub turned_gap : (n h i : ℕ) → h < n → i < n → turned n h (gap n h i) ≡ i
turned_gap n h i p q = grind (arith, nat_tests)

pub gap_turned : (n h d : ℕ) → h < n → d < n → gap n h (turned n h d) ≡ d
gap_turned n h d p q = grind (arith, nat_tests)

pub gap_below : (n h i : ℕ) → h < n → i < n → gap n h i < n
gap_below n h i p q = grind (arith, nat_tests)

-- the home is one of the places

hash_below : (f : ℕ) (a : List ℕ) → hash_of f a < 2 ^ 64
unfolding hash_of
hash_below f a = mod_below _ (2 ^ 64) (omega arith)

pub home_below : (n f : ℕ) (a : List ℕ) → 0 < n → home_of n f a < n
unfolding home_of
home_below n f a some =
    let h = hash_of f a in
    let top : (h + 1) * n ≤ 2 ^ 64 * n = mul-le (h + 1) n (2 ^ 64) n (omega (arith, hash_below f a)) (omega arith) in
    div_below (h * n) (2 ^ 64) n (omega arith) (omega (arith, add-mul h 1 n, mul_comm (2 ^ 64) n))

-- an address that differs in a byte is another
pub other_byte : (f : ℕ) (a : List ℕ) (e : Entry) (i : ℕ) → (get_or e.key.address i 0 ≡ get_or a i 0 → ⊥) → false ≡ has_key f a e
other_byte f a e i ne = go (has_key f a e) refl
  where
    go : (b : Bool) → has_key f a e ≡ b → false ≡ b
    go false q = refl
    go true q = absurd (ne (ap (λ l. get_or l i 0) (key_is f a e q).1))

-- what a position among the first m of a list says
none_passes : (test : Entry → Bool) (l : List Entry) (m k : ℕ) → None ≡ position test (take m l) → k < m → k < length l → test (get_or l k free_entry) ≡ false
none_passes test l m k e p q =
    let all : length (take m l) ≤ position_or_len test (take m l) = grind (arith, nat_tests) in
    ap test (sym (get_or-take m l k free_entry p)) ∙ fails_before_first test (take m l) k free_entry (omega (arith, length-take m l))

first_passes : (test : Entry → Bool) (l : List Entry) (m i : ℕ) → Some i ≡ position test (take m l) → (i < m) × (i < length l) × (test (get_or l i free_entry) ≡ true) × ((k : ℕ) → k < i → test (get_or l k free_entry) ≡ false)
first_passes test l m i e =
    let at = position-Some test (take m l) i free_entry (sym e) in
    let p : i < m = omega (arith, length-take m l, at.0) in
    (p, omega (arith, length-take m l, at.0), ap test (sym (get_or-take m l i free_entry p)) ∙ at.1, λ k lt. ap test (sym (get_or-take m l k free_entry (omega arith))) ∙ at.2 k lt)

-- the records from h on, and those before it, in the order of a search from h
probed_after : (xs : List Entry) (h k : ℕ) → k < length xs - h → probed xs h k ≡ get_or (drop h xs) k free_entry
probed_after xs h k p = grind (arith, nat_tests, get_or-drop)

probed_before : (xs : List Entry) (h i k : ℕ) → h ≤ length xs → i < h → k ≡ length xs - h + i → probed xs h k ≡ get_or (take h xs) i free_entry
probed_before xs h i k p q e = grind (arith, nat_tests, get_or-take)

passed_after : (test : Entry → Bool) (xs : List Entry) (h m k : ℕ) → None ≡ position test (take m (drop h xs)) → k < m → k < length xs - h → test (probed xs h k) ≡ false
passed_after test xs h m k e p q = ap test (probed_after xs h k q) ∙ none_passes test (drop h xs) m k e p (omega (arith, length-drop h xs))

passed_both : (test : Entry → Bool) (xs : List Entry) (h m rest i k : ℕ) → h ≤ length xs → rest ≡ m - (length xs - h) → None ≡ position test (take m (drop h xs)) → ((j : ℕ) → j < i → test (get_or (take h xs) j free_entry) ≡ false) → i ≤ h → k < length xs - h + i → k < m → test (probed xs h k) ≡ false
passed_both test xs h m rest i k p r e seen le lt l = elim (nat_lt k (length xs - h)) as (λ b. nat_lt k (length xs - h) ≡ b → test (probed xs h k) ≡ false) [ true ↦ λ q. passed_after test xs h m k e l (grind (arith, nat_tests)) | false ↦ λ q. ap test (probed_before xs h (k - (length xs - h)) k p (grind (arith, nat_tests)) (grind (arith, nat_tests))) ∙ seen (k - (length xs - h)) (grind (arith, nat_tests)) ] refl

-- what the two halves of a search say: the first record is in the first half, or in the second, or in none
pub hit_after : (test : Entry → Bool) (xs : List Entry) (h start p m steps : ℕ) → start ≡ h → start ≤ length xs → p ≡ start → Some steps ≡ position test (take m (drop start xs)) → Found test xs h (min m (length xs)) (Some record { at = p + steps; steps = steps })
hit_after test xs h start p m steps s le f e =
    let at = first_passes test (drop start xs) m steps e in
    let below : steps < length xs - start = omega (arith, length-drop start xs, at.1) in
    let place : p + steps ≡ turned (length xs) start steps = grind (arith, nat_tests) in
    let found : Found test xs start (min m (length xs)) (Some record { at = p + steps; steps = steps }) = (omega (arith, at.0), place, omega arith, ap (λ y. test (get_or xs y free_entry)) place ∙ ap test (probed_after xs start steps below) ∙ at.2, λ k lt. ap test (probed_after xs start k (omega arith)) ∙ at.3 k lt) in
    subst (λ y. Found test xs y (min m (length xs)) (Some record { at = p + steps; steps = steps })) s found

pub hit_before : (test : Entry → Bool) (xs : List Entry) (h start q m rest at : ℕ) (r : Spot) → start ≡ h → start ≤ length xs → q + start ≡ length xs → rest ≡ m - q → None ≡ position test (take m (drop start xs)) → Some at ≡ position test (take rest (take start xs)) → r ≡ record { at = at; steps = q + at } → Found test xs h (min m (length xs)) (Some r)
hit_before test xs h start q m rest at r s le f d n e z =
    let first = first_passes test (take start xs) rest at e in
    let below : at < start = omega (arith, length-take start xs, first.1) in
    let room : at < rest = first.0 in
    let place : at ≡ turned (length xs) start (q + at) = grind (arith, nat_tests) in
    let found : Found test xs start (min m (length xs)) (Some record { at = at; steps = q + at }) = (omega arith, place, omega arith, ap test (sym (get_or-take start xs at free_entry below)) ∙ first.2, λ k lt. passed_both test xs start m rest at k le (omega arith) n first.3 (omega arith) (omega arith) (omega arith)) in
    rw z (subst (λ y. Found test xs y (min m (length xs)) (Some record { at = at; steps = q + at })) s found)

pub miss : (test : Entry → Bool) (xs : List Entry) (h start q m rest : ℕ) (r : Option Spot) → start ≡ h → start ≤ length xs → q + start ≡ length xs → rest ≡ m - q → None ≡ position test (take m (drop start xs)) → None ≡ position test (take rest (take start xs)) → r ≡ None → Found test xs h (min m (length xs)) r
miss test xs h start q m rest r s le f d n e z =
    let passed : Passed test xs start (min m (length xs)) = λ k lt. passed_both test xs start m rest (min rest start) k le (omega arith) n (λ j l. none_passes test (take start xs) rest j e (omega arith) (omega (arith, length-take start xs))) (omega arith) (omega arith) (omega arith) in
    rw z (subst (λ y. Passed test xs y (min m (length xs))) s passed)
