-- The entries that records hold: what a search over the records says of them.
use Rattle.std.proofs.Common.{◌≡◌, ℕ, zero, suc, ◌<◌, ◌≤◌, Bool, true, false, cond, eqb, List, [], ◌∷◌, ◌++◌, map, length, get_or, set, Some, None, filter, refl, arith}
use Rattle.std.proofs.lemmas.Bool.Decides.{nat_tests}
use Rattle.table.specs.declared.entry.Entry.{Entry}
use Rattle.table.specs.Entries.{new_entry, free_entry, is_free, has_key, lookup, count_of}
use Rattle.table.specs.Calls.{heard_after}
use Rattle.table.specs.Records.{held_of, has_pair, distinct, written_over}
use Rattle.table.proofs.Records.{key_is}
use Rattle.slots.specs.Sweep.{heard_later}

-- the record of a pair is not free
pub used : (e : Entry) (f : ℕ) (a : List ℕ) → 1 ≤ f → has_key f a e ≡ true → is_free e ≡ true → ⊥
used e f a lo k q = grind (arith, nat_tests)

pub none_held : (xs : List Entry) (f : ℕ) (a : List ℕ) → ((i : ℕ) → i < length xs → has_key f a (get_or xs i free_entry) ≡ false) → lookup (held_of xs) f a ≡ None
none_held [] f a h = refl
none_held (e ∷ es) f a h = grind (arith, nat_tests, none_held es f a (λ i lt. h (suc i) (omega arith)), h 0 (omega arith))

holds_here : (xs : List Entry) (i f : ℕ) (a : List ℕ) → 1 ≤ f → i < length xs → has_key f a (get_or xs i free_entry) ≡ true → has_pair (held_of xs) f a ≡ true
holds_here [] i f a lo lt k = absurd (omega arith)
holds_here (e ∷ es) zero f a lo lt k = grind (arith, nat_tests)
holds_here (e ∷ es) (suc i) f a lo lt k = grind (arith, nat_tests, holds_here es i f a lo (omega arith) k)

-- what comes before the entry of a pair is not of that pair
others : (e : Entry) (l : List Entry) (f : ℕ) (a : List ℕ) → distinct (e ∷ l) ≡ true → has_pair l f a ≡ true → has_key f a e ≡ false
others e l f a d h = grind (arith, nat_tests, key_is f a e)

pub hit_look : (xs : List Entry) (i f : ℕ) (a : List ℕ) → distinct (held_of xs) ≡ true → 1 ≤ f → i < length xs → has_key f a (get_or xs i free_entry) ≡ true → lookup (held_of xs) f a ≡ Some (get_or xs i free_entry)
hit_look [] i f a d lo lt k = absurd (omega arith)
hit_look (e ∷ es) zero f a d lo lt k = grind (arith, nat_tests)
hit_look (e ∷ es) (suc i) f a d lo lt k = grind (arith, nat_tests, hit_look es i f a, holds_here es i f a lo (omega arith) k, others e (held_of es) f a)

-- an entry written over that of its pair
pub over_held : (xs : List Entry) (i f : ℕ) (a : List ℕ) (p t : ℕ) → distinct (held_of xs) ≡ true → 1 ≤ f → i < length xs → has_key f a (get_or xs i free_entry) ≡ true → held_of (set xs i (new_entry f a p t)) ≡ written_over (held_of xs) f a p t
over_held [] i f a p t d lo lt k = absurd (omega arith)
over_held (e ∷ es) zero f a p t d lo lt k = grind (arith, nat_tests)
over_held (e ∷ es) (suc i) f a p t d lo lt k = grind (arith, nat_tests, over_held es i f a p t, holds_here es i f a lo (omega arith) k, others e (held_of es) f a)

pub length_rewritten : (l : List Entry) (f : ℕ) (a : List ℕ) (p t : ℕ) → length (written_over l f a p t) ≡ length l
length_rewritten [] f a p t = refl
length_rewritten (e ∷ es) f a p t = grind (arith, nat_tests, length_rewritten es f a p t)

-- an entry written into a free record stands anywhere among what is held
pub added_held : (xs : List Entry) (i : ℕ) (x : Entry) → i < length xs → is_free (get_or xs i free_entry) ≡ true → is_free x ≡ false → (l : List Entry) × (m : List Entry) × (held_of xs ≡ l ++ m) × (held_of (set xs i x) ≡ l ++ x ∷ m)
added_held [] i x lt q u = absurd (omega arith)
added_held (e ∷ es) zero x lt q u = ([], held_of es, grind (arith, nat_tests), grind (arith, nat_tests))
added_held (e ∷ es) (suc i) x lt q u =
    let r = added_held es i x (omega arith) q u in
    (cond (is_free e) r.0 (e ∷ r.0), r.1, grind (arith, nat_tests, r.2), grind (arith, nat_tests, r.3))

pub all_used : (xs : List Entry) → ((i : ℕ) → i < length xs → is_free (get_or xs i free_entry) ≡ false) → length (held_of xs) ≡ length xs
all_used [] h = refl
all_used (e ∷ es) h = grind (arith, nat_tests, h 0 (omega arith), all_used es (λ i lt. h (suc i) (omega arith)))

pub all_free : (xs : List Entry) → ((i : ℕ) → i < length xs → is_free (get_or xs i free_entry) ≡ true) → held_of xs ≡ []
all_free [] h = refl
all_free (e ∷ es) h = grind (arith, nat_tests, h 0 (omega arith), all_free es (λ i lt. h (suc i) (omega arith)))

-- what a sweep leaves
pub held_swept : (limit : ℕ) (xs : List Entry) → held_of (map (heard_later limit) xs) ≡ filter (heard_after limit) (held_of xs)
held_swept limit [] = refl
held_swept limit (e ∷ es) = grind (arith, nat_tests, held_swept limit es)

-- where each entry passes a test, a filter by it keeps all
pub kept_all : (p : Entry → Bool) (xs : List Entry) → ((i : ℕ) → i < length xs → is_free (get_or xs i free_entry) ≡ false → p (get_or xs i free_entry) ≡ true) → filter p (held_of xs) ≡ held_of xs
kept_all p [] h = refl
kept_all p (e ∷ es) h = grind (arith, nat_tests, h 0 (omega arith), kept_all p es (λ i lt. h (suc i) (omega arith)))

-- entries that are all of one database
pub count_own : (xs : List Entry) (f g : ℕ) → ((i : ℕ) → i < length xs → is_free (get_or xs i free_entry) ≡ false → (get_or xs i free_entry).key.fid ≡ f) → count_of g (held_of xs) ≡ cond (eqb f g) (length (held_of xs)) 0
count_own [] f g h = grind (arith, nat_tests)
count_own (e ∷ es) f g h = grind (arith, nat_tests, h 0 (omega arith), count_own es f g (λ i lt. h (suc i) (omega arith)))
