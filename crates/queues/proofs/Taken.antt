-- What taking a queue's oldest frame leaves.
use Rattle.std.proofs.Common.{◌≡◌, ℕ, ◌+◌, ◌*◌, ◌%◌, ◌<◌, ◌≤◌, true, false, ◌&&◌, List, [], ◌∷◌, length, get_or, take, drop, set, ◌==◌, sym, refl, ap, ◌∙◌, ⊎_elim, arith, length-take, length-drop}
use Rattle.std.proofs.lemmas.List.{take-take}
use Rattle.std.proofs.lemmas.Bool.{and_parts, cases_Bool, eqb-true}
use Rattle.rules.specs.State.{Queued}
use Rattle.rules.specs.declared.shape.Shape.{Shape}
use Rattle.queues.specs.declared.label.Label.{Label}
use Rattle.queues.specs.declared.ring.Ring.{Ring}
use Rattle.queues.specs.Rings.{is_queue, no_label, number_of, oldest, ring_at, slots_in}
use Rattle.queues.specs.Standing.{cell, frame_at, frames_in, frames_of}
use Rattle.queues.specs.Taking.{without_oldest}
use Rattle.queues.proofs.Cells.{frames_taken}
use Rattle.queues.proofs.Changed.{by_port, same_after_set, same_told, set_ring}

-- the bytes of a frame, cut out of the memory
pub cut_bytes : (labels : List Label) (x : Label) (m : List ℕ) (j k : ℕ) → x ≡ get_or labels j no_label → x.length ≤ 1518 → 1518 * j + 1518 ≤ length m → k ≡ x.length
    → (record { vid = x.vid; bytes = take k (drop (1518 * j) m) } ≡ frame_at labels m j) × (length (take k (drop (1518 * j) m)) ≡ x.length)
unfolding frame_at
cut_bytes labels x m j k is short l e =
    let v : take x.length (cell m j) ≡ take x.length (drop (1518 * j) m) = take-take x.length 1518 (drop (1518 * j) m) short in
    let w : take k (drop (1518 * j) m) ≡ take x.length (drop (1518 * j) m) = ap (λ (n : ℕ). take n (drop (1518 * j) m)) e in
    (cc, simp (length-take, length-drop) (omega (arith, short)))

module _ (shape : Shape) (rings : List Ring) (labels : List Label) (m : List ℕ) (port class q : ℕ) (y : Ring)
    (h : is_queue shape port class ≡ true) (is : q ≡ number_of shape port class) (lt : q < length rings) (some : 0 < (ring_at rings q).count) (most : (ring_at rings q).count ≤ shape.depth)
    (yn : y.next ≡ (ring_at rings q).next) (yc : y.count + 1 ≡ (ring_at rings q).count) where
  stood : frames_of shape.depth (ring_at rings q) labels m q ≡ frame_at labels m (q * shape.depth + oldest shape.depth (ring_at rings q) % shape.depth) ∷ frames_of shape.depth y labels m q
  stood = frames_taken shape.depth (ring_at rings q) y labels m q some most yn (omega (arith, yc))

  pub stood_there : frames_in shape rings labels m port class ≡ frame_at labels m (q * shape.depth + oldest shape.depth (ring_at rings q) % shape.depth) ∷ frames_of shape.depth y labels m q
  unfolding frames_in
  stood_there = rw (h, ← is) stood

  pub taken_frames : frames_in shape (set rings q y) labels m ≡ without_oldest port class (frames_in shape rings labels m)
  unfolding frames_in
  taken_frames =
      let d = shape.depth in
      by_port shape [] (λ i. frames_of d (ring_at rings i) labels m i) (λ i. frames_of d (ring_at (set rings q y) i) labels m i) (drop 1) port class q h is
      (set_ring (λ i r. frames_of d r labels m i) (λ i r. frames_of d r labels m i) (drop 1) rings y q lt (sym (ap (drop 1) stood)) (λ i r ne. refl))

pub same_slots : (shape : Shape) (rings : List Ring) (q : ℕ) (y : Ring) → q < length rings → y.next ≡ (ring_at rings q).next → slots_in shape (set rings q y) ≡ slots_in shape rings
unfolding slots_in
same_slots shape rings q y lt e =
    same_told shape 0 (λ i. (ring_at rings i).next) (λ i. (ring_at (set rings q y) i).next) (same_after_set (λ r. r.next) rings y q lt e)

-- from a queue in which nothing stands nothing is taken
pub none_taken : (port class : ℕ) (told : ℕ → ℕ → List Queued) → told port class ≡ [] → without_oldest port class told ≡ told
none_taken port class told e i p c = each p c i
  where
    each : (p c : ℕ) → without_oldest port class told p c ≡ told p c
    each p c =
        ⊎_elim (λ (h : (p == port && c == class) ≡ true).
        let z = and_parts _ _ h in
        let none : told p c ≡ [] = ap (λ (x : ℕ). told x c) (eqb-true p port z.0) ∙ ap (told port) (eqb-true c class z.1) ∙ e in
        rw (h, none) refl)
        (λ (h : (p == port && c == class) ≡ false). rw h refl)
        (cases_Bool (p == port && c == class))
