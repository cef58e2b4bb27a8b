-- What the bounds of a stretch say of its records.
use Rattle.std.proofs.Common.{◌≡◌, ℕ, zero, suc, ◌+◌, ◌<◌, ◌≤◌, min, max, Bool, true, false, cond, not, List, [], ◌∷◌, length, get_or, sym, refl, ◌∙◌, subst, arith}
use Rattle.table.specs.declared.entry.Entry.{Entry}
use Rattle.table.specs.Entries.{is_free, free_entry}
use Rattle.table.specs.Records.{held_of}
use Rattle.slots.specs.declared.measure.Bounds.{Bounds}
use Rattle.slots.specs.Measure.{passes, with_record, with_records, empty_bounds, measured, AllNear, Within}

-- bounds that are no tighter
pub record Looser (b c : Bounds) : Type 0 where
  pub reach : b.reach ≤ c.reach
  pub oldest : c.oldest ≤ b.oldest

looser_counted : (n i : ℕ) (b : Bounds) (e : Entry) → Looser b (with_record n i b e)
looser_counted n i b e = elim (is_free e) as (λ f. Looser b (cond f b (record { held = b.held + 1; reach = max b.reach (passes n i e); oldest = min b.oldest e.heard }))) [ true ↦ record { reach = omega arith; oldest = omega arith } | false ↦ record { reach = omega arith; oldest = omega arith } ]

pub looser_from : (n i : ℕ) (b : Bounds) (es : List Entry) → Looser b (with_records n i b es)
looser_from n i b [] = record { reach = omega arith; oldest = omega arith }
looser_from n i b (e ∷ es) =
    let h = looser_counted n i b e in
    let t = looser_from n (i + 1) (with_record n i b e) es in
    record { reach = omega (arith, h.reach, t.reach); oldest = omega (arith, h.oldest, t.oldest) }

pub within_counted : (n i : ℕ) (b : Bounds) (e : Entry) → is_free e ≡ false → Within n i (with_record n i b e) e
within_counted n i b e u = subst (λ f. Within n i (cond f b (record { held = b.held + 1; reach = max b.reach (passes n i e); oldest = min b.oldest e.heard })) e) (sym u) record { near = omega arith; late = omega arith }

pub within_looser : (n i : ℕ) (b c : Bounds) (e : Entry) → Looser b c → Within n i b e → Within n i c e
within_looser n i b c e l w = record { near = omega (arith, l.reach, w.near); late = omega (arith, l.oldest, w.late) }

within_from : (n i : ℕ) (b : Bounds) (es : List Entry) (k : ℕ) → k < length es → is_free (get_or es k free_entry) ≡ false → Within n (i + k) (with_records n i b es) (get_or es k free_entry)
within_from n i b [] k lt u = absurd (omega arith)
within_from n i b (e ∷ es) zero lt u = subst (λ j. Within n j (with_records n i b (e ∷ es)) e) (let z : i ≡ i + 0 = omega arith in z) (within_looser n i (with_record n i b e) _ e (looser_from n (i + 1) (with_record n i b e) es) (within_counted n i b e u))
within_from n i b (e ∷ es) (suc k) lt u = subst (λ j. Within n j (with_records n i b (e ∷ es)) (get_or es k free_entry)) (let z : i + 1 + k ≡ i + suc k = omega arith in z) (within_from n (i + 1) (with_record n i b e) es k (omega arith) u)

-- each entry lies within the bounds that were measured
pub within_measured : (xs : List Entry) (k : ℕ) → k < length xs → is_free (get_or xs k free_entry) ≡ false → Within (length xs) k (measured xs) (get_or xs k free_entry)
within_measured xs k lt u = subst (λ j. Within (length xs) j (measured xs) (get_or xs k free_entry)) (let z : 0 + k ≡ k = omega arith in z) (within_from (length xs) 0 empty_bounds xs k lt u)

held_one : (n i : ℕ) (b : Bounds) (e : Entry) (es : List Entry) → (with_record n i b e).held + length (held_of es) ≡ b.held + length (held_of (e ∷ es))
held_one n i b e es = elim (is_free e) as (λ f. (cond f b (record { held = b.held + 1; reach = max b.reach (passes n i e); oldest = min b.oldest e.heard })).held + length (held_of es) ≡ b.held + length (cond (not f) (e ∷ held_of es) (held_of es))) [ true ↦ refl | false ↦ omega arith ]

held_from : (n i : ℕ) (b : Bounds) (es : List Entry) → (with_records n i b es).held ≡ b.held + length (held_of es)
held_from n i b [] = omega arith
held_from n i b (e ∷ es) = held_from n (i + 1) (with_record n i b e) es ∙ held_one n i b e es

pub held_measured : (xs : List Entry) → (measured xs).held ≡ length (held_of xs)
held_measured xs = held_from (length xs) 0 empty_bounds xs ∙ (let z : 0 + length (held_of xs) ≡ length (held_of xs) = omega arith in z)

-- the reach that was measured is no farther than the farthest entry

reach_counted : (n i : ℕ) (b : Bounds) (e : Entry) (r : ℕ) → b.reach ≤ r → (is_free e ≡ false → passes n i e ≤ r) → (with_record n i b e).reach ≤ r
reach_counted n i b e r h near = go (is_free e) refl
  where
    go : (f : Bool) → is_free e ≡ f → (cond f b (record { held = b.held + 1; reach = max b.reach (passes n i e); oldest = min b.oldest e.heard })).reach ≤ r
    go true q = h
    go false q = omega (arith, near q)

reach_from : (n i : ℕ) (b : Bounds) (es : List Entry) (r : ℕ) → b.reach ≤ r → ((k : ℕ) → k < length es → is_free (get_or es k free_entry) ≡ false → passes n (i + k) (get_or es k free_entry) ≤ r) → (with_records n i b es).reach ≤ r
reach_from n i b [] r h near = h
reach_from n i b (e ∷ es) r h near =
    let first : is_free e ≡ false → passes n i e ≤ r = λ u. subst (λ j. passes n j e ≤ r) (let z : i + 0 ≡ i = omega arith in z) (near 0 (omega arith) u) in
    reach_from n (i + 1) (with_record n i b e) es r (reach_counted n i b e r h first) (λ k lt u. subst (λ j. passes n j (get_or es k free_entry) ≤ r) (let z : i + suc k ≡ i + 1 + k = omega arith in z) (near (suc k) (omega arith) u))

pub reach_measured : (xs : List Entry) (r : ℕ) → AllNear xs r → (measured xs).reach ≤ r
reach_measured xs r near = reach_from (length xs) 0 empty_bounds xs r (omega arith) (λ k lt u. subst (λ j. passes (length xs) j (get_or xs k free_entry) ≤ r) (let z : k ≡ 0 + k = omega arith in z) (near k lt u))
