-- The stretch of one database: a search misses nothing, and what each call leaves is kept in bounds.
use Rattle.std.proofs.Common.{◌≡◌, ℕ, ◌+◌, ◌<◌, ◌≤◌, min, Bool, true, false, cond, eqb, List, ◌∷◌, map, length, get_or, set, None, filter, sym, refl, ap, ◌∙◌, subst, ⊎_elim, arith}
use Rattle.std.proofs.lemmas.List.{length-set, length-map, length-append, get_or-set_same, get_or-set_other, get_or-map}
use Rattle.std.proofs.lemmas.Bool.{both_ways, cases_Bool, cases_eq, ne_eqb}
use Rattle.std.proofs.lemmas.Bool.Decides.{nat_tests}
use Rattle.table.specs.declared.entry.Entry.{Entry}
use Rattle.table.specs.Entries.{new_entry, free_entry, is_free, has_key, lookup, count_of}
use Rattle.table.specs.Calls.{heard_after}
use Rattle.table.specs.Records.{held_of, distinct}
use Rattle.table.proofs.Records.{key_is}
use Rattle.slots.specs.declared.measure.Bounds.{Bounds}
use Rattle.slots.specs.Hash.{home_of, turned, gap}
use Rattle.slots.specs.Probe.{Passed}
use Rattle.slots.specs.Measure.{passes, measured, empty_bounds, with_new, with_heard, AllNear}
use Rattle.slots.specs.Sweep.{heard_later}
use Rattle.slots.proofs.Probing.{turned_gap, gap_turned, gap_below, home_below}
use Rattle.slots.proofs.Measured.{Looser, within_looser, within_measured, held_measured, reach_measured}
use Rattle.hashed.specs.Stretch.{Lies, Kept}
use Rattle.hashed.proofs.Held.{used, none_held, over_held, length_rewritten, added_held, all_used, all_free, kept_all, count_own}

-- a search of as many records as the bounds say misses nothing
pub absent : (xs : List Entry) (f : ℕ) (a : List ℕ) (b : Bounds) → Kept f xs b → Passed (has_key f a) xs (home_of (length xs) f a) (min b.reach (length xs)) → lookup (held_of xs) f a ≡ None
absent xs f a b k seen = none_held xs f a (λ i lt. go i lt (has_key f a (get_or xs i free_entry)) refl)
  where
    go : (i : ℕ) → i < length xs → (r : Bool) → has_key f a (get_or xs i free_entry) ≡ r → r ≡ false
    go i lt false q = refl
    go i lt true q =
        let e = get_or xs i free_entry in
        let n = length xs in
        let h = home_of n f a in
        let s = key_is f a e q in
        let u : is_free e ≡ false = ⊎_elim (λ z. absurd (used e f a k.low q z)) (λ z. z) (cases_Bool (is_free e)) in
        let hb : h < n = home_below n f a (omega arith) in
        let m : gap n h i + 1 ≤ b.reach = rw (← s.0, ← s.1) (k.lies i lt u).within.near in
        let gb = gap_below n h i hb lt in
        let w : has_key f a (get_or xs i free_entry) ≡ false = subst (λ j. has_key f a (get_or xs j free_entry) ≡ false) (turned_gap n h i hb lt) (seen (gap n h i) (omega arith)) in
        sym q ∙ w

-- a record is written: the others lie as they did
lies_set : (xs : List Entry) (f i : ℕ) (b c : Bounds) (x : Entry) → Kept f xs b → Looser b c → i < length xs → Lies f (length xs) i c x → (j : ℕ) → j < length (set xs i x) → is_free (get_or (set xs i x) j free_entry) ≡ false → Lies f (length (set xs i x)) j c (get_or (set xs i x) j free_entry)
lies_set xs f i b c x k l lt h j jl u =
    let n = length-set xs i x in
    ⊎_elim
    (λ (q : j ≡ i). rw (n, q, get_or-set_same xs i x free_entry lt) h)
    (λ (q : j ≡ i → ⊥).
    let o = get_or-set_other xs i j x free_entry q in
    let was = k.lies j (omega arith) (sym (ap is_free o) ∙ u) in
    rw (n, o) record { own = was.own; within = within_looser (length xs) j b c _ l was.within })
    (cases_eq j i)

-- one record is as near as before it was written: the others are
near_set : (xs : List Entry) (i r : ℕ) (x : Entry) → i < length xs → AllNear (set xs i x) r → (is_free (get_or xs i free_entry) ≡ false → passes (length xs) i (get_or xs i free_entry) ≤ r) → AllNear xs r
near_set xs i r x lt h near j jl u =
    let n = length-set xs i x in
    ⊎_elim
    (λ (q : j ≡ i). rw q (near (sym (ap (λ k. is_free (get_or xs k free_entry)) q) ∙ u)))
    (λ (q : j ≡ i → ⊥).
    let o = get_or-set_other xs i j x free_entry q in
    let was = h j (omega arith) (ap is_free o ∙ u) in
    rw (← n, ← o) was)
    (cases_eq j i)

-- the record that was written is near
near_here : (xs : List Entry) (i r : ℕ) (x : Entry) → i < length xs → is_free x ≡ false → AllNear (set xs i x) r → passes (length xs) i x ≤ r
near_here xs i r x lt u h =
    let n = length-set xs i x in
    let s = get_or-set_same xs i x free_entry lt in
    rw (← n) (subst (λ e. passes (length (set xs i x)) i e ≤ r) s (h i (omega arith) (ap is_free s ∙ u)))

pub kept_over : (xs : List Entry) (f i : ℕ) (a : List ℕ) (p t : ℕ) (b c : Bounds) → Kept f xs b → distinct (held_of xs) ≡ true → i < length xs → has_key f a (get_or xs i free_entry) ≡ true → c ≡ with_heard b t → Kept f (set xs i (new_entry f a p t)) c
kept_over xs f i a p t b c k d lt key ce =
    let e = get_or xs i free_entry in
    let s = key_is f a e key in
    let u : is_free e ≡ false = ⊎_elim (λ z. absurd (used e f a k.low key z)) (λ z. z) (cases_Bool (is_free e)) in
    let m : gap (length xs) (home_of (length xs) f a) i + 1 ≤ b.reach = rw (← s.0, ← s.1) (k.lies i lt u).within.near in
    rw ce record {
      low = k.low;
      held = k.held ∙ sym (ap length (over_held xs i f a p t d k.low lt key) ∙ length_rewritten (held_of xs) f a p t);
      lies = lies_set xs f i b _ (new_entry f a p t) k (record { reach = omega arith; oldest = omega arith }) lt (record { own = refl; within = record { near = m; late = omega arith } });
      tight = λ r h.
          let here : gap (length xs) (home_of (length xs) f a) i + 1 ≤ r = near_here xs i r (new_entry f a p t) lt (ne_eqb f 0 (λ z. omega (arith, k.low))) h in
          k.tight r (near_set xs i r (new_entry f a p t) lt h (λ _. rw (s.0, s.1) here));
    }

pub kept_added : (xs : List Entry) (f i steps : ℕ) (b c : Bounds) (x : Entry) → Kept f xs b → x.key.fid ≡ f → i < length xs → is_free (get_or xs i free_entry) ≡ true → i ≡ turned (length xs) (home_of (length xs) x.key.fid x.key.address) steps → steps < length xs → c ≡ with_new b steps x.heard → Kept f (set xs i x) c
kept_added xs f i steps b c x k own lt free at sl ce =
    let n = length xs in
    let h = home_of n x.key.fid x.key.address in
    let u : is_free x ≡ false = ne_eqb x.key.fid 0 (λ z. omega (arith, k.low)) in
    let g : gap n h i ≡ steps = ap (gap n h) at ∙ gap_turned n h steps (home_below n x.key.fid x.key.address (omega arith)) sl in
    let r = added_held xs i x lt free u in
    rw ce record {
      low = k.low;
      held = omega (arith, k.held, ap length r.2, ap length r.3, length-append r.0 r.1, length-append r.0 (x ∷ r.1));
      lies = lies_set xs f i b _ x k (record { reach = omega arith; oldest = omega arith }) lt (record { own = own; within = record { near = omega (arith, g); late = omega arith } });
      tight = λ r near. omega (arith, g, near_here xs i r x lt u near, k.tight r (near_set xs i r x lt near (λ used. absurd (both_ways _ used free))));
    }

-- where fewer entries are held than there are records, one is free
pub room : (xs : List Entry) (f g : ℕ) (a : List ℕ) (b : Bounds) → Kept f xs b → b.held < length xs → Passed is_free xs (home_of (length xs) g a) (length xs) → ⊥
room xs f g a b k lt seen =
    let n = length xs in
    let h = home_of n g a in
    let hb : h < n = home_below n g a (omega arith) in
    let all = all_used xs (λ i l. subst (λ j. is_free (get_or xs j free_entry) ≡ false) (turned_gap n h i hb l) (seen (gap n h i) (gap_below n h i hb l))) in
    omega (arith, all, k.held)

-- a sweep frees records and alters no other
swept_used : (limit : ℕ) (e : Entry) → is_free (heard_later limit e) ≡ false → (heard_later limit e ≡ e) × (is_free e ≡ false)
swept_used limit e u = (grind (arith, nat_tests), grind (arith, nat_tests))

pub kept_swept : (limit f : ℕ) (xs : List Entry) (b : Bounds) → Kept f xs b → Kept f (map (heard_later limit) xs) (measured (map (heard_later limit) xs))
kept_swept limit f xs b k =
    let ys = map (heard_later limit) xs in
    record {
      low = k.low;
      held = held_measured ys;
      lies = λ i lt u.
          let l : i < length xs = omega (arith, length-map xs (heard_later limit)) in
          let m = get_or-map (heard_later limit) xs i free_entry free_entry l in
          let s = swept_used limit (get_or xs i free_entry) (sym (ap is_free m) ∙ u) in
          record { own = ap (λ e. e.key.fid) (m ∙ s.0) ∙ (k.lies i l s.1).own; within = within_measured ys i lt u };
      tight = reach_measured ys;
    }

-- where nothing is due, nothing goes
pub none_due : (limit f : ℕ) (xs : List Entry) (b : Bounds) → Kept f xs b → limit < b.oldest → filter (heard_after limit) (held_of xs) ≡ held_of xs
none_due limit f xs b k lt = kept_all (heard_after limit) xs (λ i l u. let w = (k.lies i l u).within.late in grind (arith, nat_tests))

-- records that are all free
pub kept_free : (f : ℕ) (xs : List Entry) → 1 ≤ f → ((i : ℕ) → i < length xs → is_free (get_or xs i free_entry) ≡ true) → Kept f xs empty_bounds
kept_free f xs lo h = record { low = lo; held = sym (ap length (all_free xs h)); lies = λ i lt u. absurd (both_ways _ u (h i lt)); tight = λ r near. omega arith }

pub kept_count : (f g : ℕ) (xs : List Entry) (b : Bounds) → Kept f xs b → count_of g (held_of xs) ≡ cond (eqb f g) b.held 0
kept_count f g xs b k = count_own xs f g (λ i lt u. (k.lies i lt u).own) ∙ ap (λ n. cond (eqb f g) n 0) (sym k.held)
