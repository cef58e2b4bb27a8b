-- The stretches of a table: each is cut out of the records, and may be put back altered.
use Rattle.std.proofs.Common.{◌≡◌, ℕ, zero, suc, ◌+◌, ◌-◌, ◌*◌, ◌<◌, ◌≤◌, true, ◌⊎◌, List, [], ◌++◌, length, get_or, take, drop, set, replicate, sym, ap, ◌∙◌, subst, ⊎_elim, zero-mul, add-one, arith, take-add}
use borrow.Rule.Slice.PartMut.{put_mid}
use Rattle.std.proofs.lemmas.Nat.{mul-le}
use Rattle.std.proofs.lemmas.List.Elements.{filter-append}
use Rattle.std.proofs.lemmas.List.{length-drop, length-take-le, take-append-drop, take_all, drop-drop, get_or-set_same, get_or-set_other, drop-replicate, take-replicate, length-replicate, get_or-replicate}
use Rattle.std.proofs.lemmas.Slice.{between_is, take-put_mid_below, drop-put_mid, between-put_mid}
use Rattle.std.proofs.lemmas.Bool.Decides.{nat_tests}
use Rattle.std.proofs.lemmas.Bool.{cases_order, cases_eq}
use Rattle.table.specs.declared.entry.Entry.{Entry}
use Rattle.table.specs.Entries.{count_of, is_free, free_entry}
use Rattle.table.specs.Records.{in_use, held_of}
use Rattle.slots.specs.declared.measure.Bounds.{Bounds}
use Rattle.slots.specs.Measure.{empty_bounds}
use Rattle.hashed.specs.declared.hashed.Hashed.{Hashed}
use Rattle.hashed.specs.Stretch.{Kept}
use Rattle.hashed.specs.Layout.{start_of, stretch_of, Laid}
use Rattle.hashed.proofs.Held.{all_free}
use Rattle.hashed.proofs.Kept.{kept_count, kept_free}
use Rattle.hashed.proofs.Clear.{count_append}

-- one stretch more
pub start_more : (share g : ℕ) → start_of share (g + 1) ≡ start_of share g + 2 * share
start_more share g = omega arith

pub start_up : (share g h : ℕ) → g < h → start_of share g + 2 * share ≤ start_of share h
start_up share g h lt = omega (arith, start_more share g, mul-le (g + 1) (2 * share) h (2 * share) (omega arith) (omega arith))

pub start_below : (share g : ℕ) → g < 16 → start_of share g + 2 * share ≤ 32 * share
start_below share g lt = omega (arith, start_up share g 16 lt)

whole : (share g : ℕ) (xs : List Entry) → stretch_of share g xs ≡ take (2 * share) (drop (start_of share g) xs)
whole share g xs = ap (λ k. take k (drop (start_of share g) xs)) (let z : start_of share g + 2 * share - start_of share g ≡ 2 * share = omega arith in z)

pub length_stretch : (share g : ℕ) (xs : List Entry) → g < 16 → length xs ≡ 32 * share → length (stretch_of share g xs) ≡ 2 * share
length_stretch share g xs lt n = let b = start_below share g lt in ap length (whole share g xs) ∙ length-take-le (2 * share) (drop (start_of share g) xs) (omega (arith, length-drop (start_of share g) xs))

pub take_more : (share g : ℕ) (xs : List Entry) → take (start_of share (g + 1)) xs ≡ take (start_of share g) xs ++ stretch_of share g xs
take_more share g xs = ap (λ k. take k xs) (start_more share g) ∙ take-add (start_of share g) (2 * share) xs ∙ ap (λ r. take (start_of share g) xs ++ r) (sym (whole share g xs))

-- entries of no stretch below m

clear_below : (share f m : ℕ) (ys : List Entry) → ((j : ℕ) → j < m → count_of f (held_of (stretch_of share j ys)) ≡ 0) → count_of f (held_of (take (start_of share m) ys)) ≡ 0
clear_below share f zero ys h = ap (λ k. count_of f (held_of (take k ys))) (zero-mul (2 * share))
clear_below share f (suc m) ys h =
    let s : take (start_of share (suc m)) ys ≡ take (start_of share m) ys ++ stretch_of share m ys = ap (λ k. take (start_of share k) ys) (sym (add-one m)) ∙ take_more share m ys in
    let t = filter-append in_use (take (start_of share m) ys) (stretch_of share m ys) in
    let ih = clear_below share f m ys (λ j lt. h j (omega arith)) in
    ap (λ x. count_of f (held_of x)) s ∙ ap (count_of f) t ∙ (let z : count_of f (held_of (take (start_of share m) ys) ++ held_of (stretch_of share m ys)) ≡ 0 = omega (arith, count_append f (held_of (take (start_of share m) ys)) (held_of (stretch_of share m ys)), ih, h m (omega arith)) in z)

-- what lies before and after a stretch
abbrev pub before : ℕ → ℕ → List Entry → List Entry
before share g xs = held_of (take (start_of share g) xs)

abbrev pub after : ℕ → ℕ → List Entry → List Entry
after share g xs = held_of (drop (2 * share) (drop (start_of share g) xs))

pub held_cut : (share g : ℕ) (xs : List Entry) → held_of xs ≡ before share g xs ++ (held_of (stretch_of share g xs) ++ after share g xs)
held_cut share g xs =
    let s = start_of share g in
    let w = 2 * share in
    ap held_of (sym (take-append-drop s xs)) ∙ filter-append in_use (take s xs) (drop s xs)
    ∙ ap (λ r. before share g xs ++ r) (ap held_of (sym (take-append-drop w (drop s xs))) ∙ filter-append in_use (take w (drop s xs)) (drop w (drop s xs)) ∙ ap (λ y. held_of y ++ after share g xs) (sym (whole share g xs)))

-- the records with a stretch put back altered
abbrev pub put : ℕ → ℕ → List Entry → List Entry → List Entry
put share g xs ys = put_mid (start_of share g) (2 * share) xs ys

pub held_put : (share g : ℕ) (xs ys : List Entry) → held_of (put share g xs ys) ≡ before share g xs ++ (held_of ys ++ after share g xs)
held_put share g xs ys = simp filter-append

-- no entry of a database lies before its stretch or after it

other : (s : Hashed) (f j : ℕ) → j < 16 → (j + 1 ≡ f → ⊥) → count_of f (held_of (stretch_of s.share j s.records.now)) ≡ 0
other s f j lt ne = grind (arith, nat_tests, kept_count (j + 1) f _ _ (s.laid j lt))

pub clear_before : (s : Hashed) (f g : ℕ) → g < 16 → g + 1 ≡ f → count_of f (before s.share g s.records.now) ≡ 0
clear_before s f g lt fe = clear_below s.share f g s.records.now (λ j l. other s f j (omega arith) (λ e. omega arith))

pub clear_after : (s : Hashed) (f g : ℕ) → g < 16 → g + 1 ≡ f → count_of f (after s.share g s.records.now) ≡ 0
clear_after s f g lt fe =
    let share = s.share in
    let xs = s.records.now in
    let w = 2 * share in
    let zs = drop w (drop (start_of share g) xs) in
    let zd : zs ≡ drop (start_of share g + w) xs = drop-drop w (start_of share g) xs in
    let sum : start_of share (15 - g) + (start_of share g + w) ≡ 32 * share = omega (arith, ap (λ k. k * w) (let z : 15 - g + (g + 1) ≡ 16 = omega arith in z)) in
    let all : take (start_of share (15 - g)) zs ≡ zs = take_all (start_of share (15 - g)) zs (omega (arith, ap length zd, length-drop (start_of share g + w) xs, s.long)) in
    let rows : (j : ℕ) → j < 15 - g → count_of f (held_of (stretch_of share j zs)) ≡ 0 = λ j l.
    let e : stretch_of share j zs ≡ stretch_of share (g + 1 + j) xs =
    whole share j zs ∙ ap (λ y. take w (drop (start_of share j) y)) zd ∙ ap (take w) (drop-drop (start_of share j) (start_of share g + w) xs)
    ∙ ap (λ k. take w (drop k xs)) (let z : start_of share g + w + start_of share j ≡ start_of share (g + 1 + j) = omega arith in z) ∙ sym (whole share (g + 1 + j) xs) in
    ap (λ y. count_of f (held_of y)) e ∙ other s f (g + 1 + j) (omega arith) (λ q. omega arith) in
    ap (λ y. count_of f (held_of y)) (sym all) ∙ clear_below share f (15 - g) zs rows

pub count_row : (f : ℕ) (xs : List Entry) (b : Bounds) → Kept f xs b → count_of f (held_of xs) ≡ length (held_of xs)
count_row f xs b k = grind (arith, nat_tests, kept_count f f xs b k, k.held)

-- a stretch is put back altered

stretch_put : (share g : ℕ) (xs ys : List Entry) → g < 16 → length xs ≡ 32 * share → length ys ≡ 2 * share → (j : ℕ) → (j ≡ g → ⊥) → stretch_of share j (put share g xs ys) ≡ stretch_of share j xs
stretch_put share g xs ys lt n le j ne =
    let s = start_of share g in
    let k = 2 * share in
    let r = start_of share j in
    let e = start_of share j + 2 * share in
    let top = start_below share g lt in
    ⊎_elim
    (λ (q : j ≡ g). absurd (ne q))
    (λ (q : (j < g) ⊎ (g < j)). ⊎_elim
    (λ (l : j < g). between_is (put_mid s k xs ys) r e ∙ ap (drop r) (take-put_mid_below s k xs ys e (start_up share j g l) (omega arith)) ∙ sym (between_is xs r e))
    (λ (l : g < j). ap (take (e - r)) (drop-put_mid s k xs ys r (omega (arith, start_up share g j l)) (omega arith) (omega arith)))
    q)
    (cases_order j g)

pub stretch_own : (share g : ℕ) (xs ys : List Entry) → g < 16 → length xs ≡ 32 * share → length ys ≡ 2 * share → stretch_of share g (put share g xs ys) ≡ ys
stretch_own share g xs ys lt n le =
    let s = start_of share g in
    between-put_mid s (2 * share) xs ys (s + 2 * share) (omega (arith, start_below share g lt)) (omega arith)

pub laid_put : (s : Hashed) (g : ℕ) (ys : List Entry) (b : Bounds) → g < 16 → length s.bounds ≡ 16 → length ys ≡ 2 * s.share → Kept (g + 1) ys b → Laid s.share (put s.share g s.records.now ys) (set s.bounds g b)
laid_put s g ys b lt n le kept j jl =
    ⊎_elim
    (λ (q : j ≡ g). rw (q, stretch_own s.share g s.records.now ys lt s.long le, get_or-set_same s.bounds g b empty_bounds (omega arith)) kept)
    (λ (q : j ≡ g → ⊥). rw (stretch_put s.share g s.records.now ys lt s.long le j q, get_or-set_other s.bounds g j b empty_bounds q) (s.laid j jl))
    (cases_eq j g)

-- records that were cleared

cleared_free : (n i : ℕ) → i < length (replicate n free_entry) → is_free (get_or (replicate n free_entry) i free_entry) ≡ true
cleared_free n i lt = ap is_free (get_or-replicate n i free_entry free_entry (omega (arith, length-replicate n free_entry)))

pub held_cleared : (n : ℕ) (ys : List Entry) → ys ≡ replicate n free_entry → held_of ys ≡ []
held_cleared n ys e = ap held_of e ∙ all_free (replicate n free_entry) (cleared_free n)

pub kept_cleared : (f n : ℕ) (ys : List Entry) → 1 ≤ f → ys ≡ replicate n free_entry → Kept f ys empty_bounds
kept_cleared f n ys lo e = subst (λ l. Kept f l empty_bounds) (sym e) (kept_free f (replicate n free_entry) lo (cleared_free n))

pub laid_cleared : (share n : ℕ) (ys : List Entry) (b : Bounds) → ys ≡ replicate n free_entry → n ≡ 32 * share → b ≡ empty_bounds → Laid share ys (replicate 16 b)
laid_cleared share n ys b e size none g lt =
    let s = start_of share g in
    let k = s + 2 * share - s in
    let w : k ≤ n - s = omega (arith, start_below share g lt) in
    subst (λ b. Kept (g + 1) (stretch_of share g ys) b) (sym (get_or-replicate 16 g b empty_bounds lt ∙ none)) (kept_cleared (g + 1) k (stretch_of share g ys) (omega arith) (ap (stretch_of share g) e ∙ ap (take k) (drop-replicate s n free_entry) ∙ take-replicate k (n - s) free_entry w))
