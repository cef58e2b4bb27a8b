-- A call on the stretch of one database, seen as a call on the whole table.
use Rattle.std.proofs.Common.{◌≡◌, ℕ, ◌+◌, ◌-◌, ◌*◌, ◌<◌, ◌≤◌, Bool, true, false, cond, not, eqb, ltb, List, [], ◌∷◌, ◌++◌, length, map, get_or, set, filter, sym, refl, ap, ◌∙◌, subst, arith}
use borrow.Rule.Slice.PartMut.{put_mid}
use Rattle.std.specs.List.{between}
use Rattle.std.proofs.lemmas.List.{get_or_default, length-append}
use Rattle.std.proofs.lemmas.List.Elements.{filter_agree}
use Rattle.std.proofs.lemmas.List.Filters.{length-filter_both}
use Rattle.std.proofs.lemmas.Bool.Decides.{nat_tests}
use Rattle.fault.specs.declared.mark.Mark.{Mark}
use Rattle.table.specs.declared.entry.Entry.{Entry}
use Rattle.table.specs.Entries.{is_fid, fids_in_range, not_of_fid, lookup, count_of}
use Rattle.table.specs.Calls.{entry_port, heard_after}
use Rattle.table.specs.Records.{distinct, held_of}
use Rattle.table.proofs.Records.{kept_both}
use Rattle.table.proofs.Rising.{look_rising}
use Rattle.slots.specs.declared.measure.Bounds.{Bounds}
use Rattle.slots.specs.Measure.{empty_bounds, measured}
use Rattle.slots.specs.Sweep.{heard_later}
use Rattle.hashed.specs.declared.hashed.Hashed.{Hashed}
use Rattle.hashed.specs.declared.row.Row.{Row}
use Rattle.hashed.specs.Stretch.{Kept, Learned}
use Rattle.hashed.specs.Layout.{start_of, stretch_of, spared, Laid}
use Rattle.hashed.specs.Sets.{set_of}
use Rattle.hashed.proofs.Held.{held_swept}
use Rattle.hashed.proofs.Kept.{kept_swept, none_due}
use Rattle.hashed.proofs.Clear.{Whole, count_mid, distinct_mid, learned, look_mid, only, sieve_mid}
use Rattle.hashed.proofs.Cut.{put, count_row, held_cut, held_put, before, after, clear_before, clear_after, length_stretch, laid_put}

-- a row is that of a database
pub row_fid : (r : Row) → is_fid (r.index + 1) ≡ true
row_fid r = grind (arith, nat_tests, r.below)

-- the records from a to b are the stretch of the row g
pub record Cuts (s : Hashed) (g a b : ℕ) : Type 0 where
  pub below : g < 16
  pub start : a ≡ start_of s.share g
  pub end : b ≡ start_of s.share g + 2 * s.share

-- from what `stretch` promises of its range
pub cuts : (s : Hashed) (r : Row) {a b : ℕ} → record { start : a ≡ start_of s.share r.index; end : b ≡ start_of s.share r.index + 2 * s.share; fits : b ≤ 32 * s.share } → Cuts s r.index a b
cuts s r c = record { below = r.below; start = c.start; end = c.end }

part_is : {s : Hashed} {g a b : ℕ} → Cuts s g a b → between a b s.records.now ≡ stretch_of s.share g s.records.now
part_is r = rw (r.start, r.end) refl

put_is : {s : Hashed} {g a b : ℕ} → Cuts s g a b → (ys : List Entry) → put_mid a (b - a) s.records.now ys ≡ put s.share g s.records.now ys
put_is {s} {g} {a} {b} r ys = let n : b - a ≡ 2 * s.share = omega arith in rw (n, r.start) refl

part_long : {s : Hashed} {g a b : ℕ} → Cuts s g a b → length (between a b s.records.now) ≡ 2 * s.share
part_long {s} {g} r = ap length (part_is r) ∙ length_stretch s.share g s.records.now r.below s.long

pub part_apart : {s : Hashed} {g a b : ℕ} → Cuts s g a b → distinct (held_of (between a b s.records.now)) ≡ true
part_apart {s} {g} r =
    let xs = s.records.now in
    ap (λ l. distinct (held_of l)) (part_is r) ∙ distinct_mid (before s.share g xs) (held_of (stretch_of s.share g xs)) (after s.share g xs) (ap distinct (sym (held_cut s.share g xs)) ∙ s.orderly.apart)

pub kept_part : {s : Hashed} {g a b : ℕ} → Cuts s g a b → Kept (g + 1) (between a b s.records.now) (get_or s.bounds g empty_bounds)
kept_part {s} {g} r = subst (λ l. Kept (g + 1) l (get_or s.bounds g empty_bounds)) (sym (part_is r)) (s.laid g r.below)

-- what the table keeps, with the stretch put back altered

pub put_laid : {s : Hashed} {g a b : ℕ} → Cuts s g a b → (ys : List Entry) (d : Bounds) → length ys ≡ length (between a b s.records.now) → length s.bounds ≡ 16 → Kept (g + 1) ys d → Laid s.share (put_mid a (b - a) s.records.now ys) (set s.bounds g d)
put_laid {s} {g} r ys d e n k = subst (λ l. Laid s.share l (set s.bounds g d)) (sym (put_is r ys)) (laid_put s g ys d r.below n (e ∙ part_long r) k)

-- find

pub found : {s : Hashed} {g a b : ℕ} → Cuts s g a b → (f : ℕ) (y : List ℕ) → g + 1 ≡ f → entry_port (lookup (held_of (between a b s.records.now)) f y) ≡ entry_port (lookup (set_of s) f y)
found {s} {g} r f y fe =
    let xs = s.records.now in
    ap (λ l. entry_port (lookup (held_of l) f y)) (part_is r)
    ∙ ap entry_port (sym (look_rising (held_of xs) f y ∙ ap (λ l. lookup l f y) (held_cut s.share g xs) ∙ look_mid f y (before s.share g xs) _ (after s.share g xs) (clear_before s f g r.below fe) (clear_after s f g r.below fe)))

-- learn

own : (s : Hashed) (f g : ℕ) → g < 16 → g + 1 ≡ f → count_of f (held_of (stretch_of s.share g s.records.now)) ≡ length (held_of (stretch_of s.share g s.records.now))
own s f g lt fe = ap (λ f. count_of f (held_of (stretch_of s.share g s.records.now))) (sym fe) ∙ count_row (g + 1) _ _ (s.laid g lt)

pub learned_in : {s : Hashed} {g a b : ℕ} → Cuts s g a b → (ys : List Entry) (e : Entry) (m : Mark) → g + 1 ≡ e.key.fid → is_fid e.key.fid ≡ true → Learned s.share (held_of (between a b s.records.now)) (held_of ys) e m → Whole s.share (held_of s.records.now) (held_of (put_mid a (b - a) s.records.now ys)) e m
learned_in {s} {g} r ys e m fe fid h =
    let xs = s.records.now in
    let f = e.key.fid in
    learned s.share (held_of xs) _ (before s.share g xs) (held_of (stretch_of s.share g xs)) (held_of ys) (after s.share g xs) e m (held_cut s.share g xs) (ap held_of (put_is r ys) ∙ held_put s.share g xs ys)
    (clear_before s f g r.below fe) (clear_after s f g r.below fe) (own s f g r.below fe) fid s.orderly
    (subst (λ l. Learned s.share (held_of l) (held_of ys) e m) (part_is r) h)

-- flush and expire

sieved : (s : Hashed) (f g : ℕ) (p : Entry → Bool) → g < 16 → g + 1 ≡ f → before s.share g s.records.now ++ (filter p (held_of (stretch_of s.share g s.records.now)) ++ after s.share g s.records.now) ≡ filter (only f p) (held_of s.records.now)
sieved s f g p lt fe =
    let xs = s.records.now in
    sieve_mid f p (before s.share g xs) (held_of (stretch_of s.share g xs)) (after s.share g xs) (clear_before s f g lt fe) (clear_after s f g lt fe) (own s f g lt fe) ∙ ap (filter (only f p)) (sym (held_cut s.share g xs))

pub sieved_in : {s : Hashed} {g a b : ℕ} → Cuts s g a b → (f : ℕ) (p : Entry → Bool) (ys : List Entry) → g + 1 ≡ f → held_of ys ≡ filter p (held_of (between a b s.records.now)) → held_of (put_mid a (b - a) s.records.now ys) ≡ filter (only f p) (held_of s.records.now)
sieved_in {s} {g} r f p ys fe h =
    let xs = s.records.now in
    ap held_of (put_is r ys) ∙ held_put s.share g xs ys ∙ ap (λ l. before s.share g xs ++ (l ++ after s.share g xs)) (h ∙ ap (λ l. filter p (held_of l)) (part_is r)) ∙ sieved s f g p r.below fe

none_left : (l : List Entry) → filter (λ e. false) l ≡ []
none_left [] = refl
none_left (e ∷ l) = none_left l

pub flushed_in : {s : Hashed} {g a b : ℕ} → Cuts s g a b → (f : ℕ) (ys : List Entry) → g + 1 ≡ f → held_of ys ≡ [] → held_of (put_mid a (b - a) s.records.now ys) ≡ filter (not_of_fid f) (held_of s.records.now)
flushed_in {s} r f ys fe none =
    let same : (x : Bool) → cond x false true ≡ not x = λ x. elim x as (λ x. cond x false true ≡ not x) [ true ↦ refl | false ↦ refl ] in
    sieved_in r f (λ e. false) ys fe (none ∙ sym (none_left (held_of (between _ _ s.records.now)))) ∙ filter_agree (only f (λ e. false)) (not_of_fid f) (λ e. same (eqb e.key.fid f)) (held_of s.records.now)

pub counted_in : (s : Hashed) (f g : ℕ) (d : Bounds) → g < 16 → g + 1 ≡ f → length s.bounds ≡ 16 → (get_or s.bounds g d).held ≡ count_of f (held_of s.records.now)
counted_in s f g d lt fe n =
    let xs = s.records.now in
    ap (λ b. b.held) (get_or_default s.bounds g d empty_bounds (omega arith)) ∙ (s.laid g lt).held ∙ sym (own s f g lt fe)
    ∙ sym (ap (count_of f) (held_cut s.share g xs) ∙ count_mid f (before s.share g xs) _ (after s.share g xs) (clear_before s f g lt fe) (clear_after s f g lt fe))

pub none_gone : (s : Hashed) (limit g : ℕ) (d : Bounds) → g < 16 → length s.bounds ≡ 16 → limit < (get_or s.bounds g d).oldest → held_of s.records.now ≡ filter (spared limit (g + 1)) (held_of s.records.now)
none_gone s limit g d lt n due =
    let xs = s.records.now in
    let late : limit < (get_or s.bounds g empty_bounds).oldest = rw (get_or_default s.bounds g empty_bounds d (omega arith)) due in
    held_cut s.share g xs ∙ ap (λ l. before s.share g xs ++ (l ++ after s.share g xs)) (sym (none_due limit (g + 1) _ _ (s.laid g lt) late)) ∙ sieved s (g + 1) g (heard_after limit) lt refl

-- as many entries leave the table as leave a stretch that is swept, and so its bounds tell how many

held_in : {s : Hashed} {g a b : ℕ} → Cuts s g a b → (ys : List Entry) → length (held_of (put_mid a (b - a) s.records.now ys)) + length (held_of (between a b s.records.now)) ≡ length (held_of ys) + length (held_of s.records.now)
held_in {s} {g} r ys =
    let xs = s.records.now in
    let mid = held_of (stretch_of s.share g xs) in
    omega (
      arith,
      ap (λ l. length (held_of l)) (part_is r),
      ap length (ap held_of (put_is r ys) ∙ held_put s.share g xs ys),
      ap length (held_cut s.share g xs),
      length-append (before s.share g xs) (held_of ys ++ after s.share g xs),
      length-append (held_of ys) (after s.share g xs),
      length-append (before s.share g xs) (mid ++ after s.share g xs),
      length-append mid (after s.share g xs),
    )

pub swept_in : {s : Hashed} {g a b : ℕ} → Cuts s g a b → (limit : ℕ) (ys : List Entry) (d e : Bounds) → length s.bounds ≡ 16 → ys ≡ map (heard_later limit) (between a b s.records.now) → e ≡ measured ys
    → (e.held ≤ (get_or s.bounds g d).held) × ((get_or s.bounds g d).held - e.held + length (held_of (put_mid a (b - a) s.records.now ys)) ≡ length (held_of s.records.now))
swept_in {s} {g} {a} {b} r limit ys d e n w m =
    let part = between a b s.records.now in
    let below = r.below in
    let was : (get_or s.bounds g d).held ≡ length (held_of part) = ap (λ x. x.held) (get_or_default s.bounds g d empty_bounds (omega arith)) ∙ (kept_part r).held in
    let is : e.held ≡ length (held_of ys) = rw (m, w) (kept_swept limit (g + 1) _ _ (kept_part r)).held in
    let few : length (held_of ys) ≤ length (held_of part) = omega (arith, ap (λ l. length (held_of l)) w, ap length (held_swept limit part), length-filter_both (heard_after limit) (λ x. not (heard_after limit x)) (λ x. refl) (held_of part)) in
    (omega arith, omega (arith, held_in r ys))

-- expire, row by row: the databases up to g are rid of what was heard at the limit or before it
abbrev pub spared_to : ℕ → ℕ → Entry → Bool
spared_to limit g e = cond (ltb g e.key.fid) true (heard_after limit e)

pub one_more : (limit g : ℕ) (l : List Entry) → filter (spared limit (g + 1)) (filter (spared_to limit g) l) ≡ filter (spared_to limit (g + 1)) l
one_more limit g l = kept_both _ _ _ (λ e. tests (heard_after limit e) g e.key.fid) l
  where
    tests : (b : Bool) (g f : ℕ) → cond (cond (ltb g f) true b) (cond (eqb f (g + 1)) b true) false ≡ cond (ltb (g + 1) f) true b
    tests b g f = grind (arith, nat_tests)

alike : (p q : Entry → Bool) → ((e : Entry) → is_fid e.key.fid ≡ true → p e ≡ q e) → (l : List Entry) → fids_in_range l ≡ true → filter p l ≡ filter q l
alike p q h [] r = refl
alike p q h (e ∷ l) r = grind (arith, nat_tests, alike p q h l, h e)

all_stay : (l : List Entry) → filter (λ e. true) l ≡ l
all_stay [] = refl
all_stay (e ∷ l) = ap (λ x. e ∷ x) (all_stay l)

pub none_yet : (limit : ℕ) (l : List Entry) → fids_in_range l ≡ true → l ≡ filter (spared_to limit 0) l
none_yet limit l r = sym (alike (spared_to limit 0) (λ e. true) (λ e h. ap (λ b. cond b true (heard_after limit e)) (tests e.key.fid h)) l r ∙ all_stay l)
  where
    tests : (f : ℕ) → is_fid f ≡ true → ltb 0 f ≡ true
    tests f h = grind (arith, nat_tests)

pub all_done : (limit g : ℕ) (l : List Entry) → 16 ≤ g → fids_in_range l ≡ true → filter (spared_to limit g) l ≡ filter (heard_after limit) l
all_done limit g l le r = alike (spared_to limit g) (heard_after limit) (λ e h. ap (λ b. cond b true (heard_after limit e)) (tests e.key.fid h)) l r
  where
    tests : (f : ℕ) → is_fid f ≡ true → ltb g f ≡ false
    tests f h = grind (arith, nat_tests)
