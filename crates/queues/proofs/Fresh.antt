-- Queues just made: every ring is empty, so nothing stands anywhere.
use Rattle.std.proofs.Common.{◌≡◌, ℕ, ◌<◌, ◌≤◌, Bool, false, ltb, List, [], map, get_or, replicate, sym, subst, ap, ◌∙◌, ⊎_elim, arith}
use lib.ListN.{length-replicate}
use Rattle.std.proofs.lemmas.List.{get_or-replicate, get_or_past}
use Rattle.std.proofs.lemmas.Bool.{cases_lt}
use Rattle.rules.specs.Ports.{eight}
use Rattle.rules.specs.declared.shape.Shape.{Shape}
use Rattle.queues.specs.declared.label.Label.{Label}
use Rattle.queues.specs.declared.ring.Ring.{Ring}
use Rattle.queues.specs.Rings.{Agree, Round, Short, Turns, classes_in, counts_in, no_label, no_ring, ring_at, slots_in}
use Rattle.queues.specs.Standing.{frames_in, frames_of}
use Rattle.queues.proofs.Cells.{frames_empty}
use Rattle.queues.proofs.Changed.{all_none}

pub alike : {X : Type 0} (n i : ℕ) (x : X) → get_or (replicate n x) i x ≡ x
alike n i x = ⊎_elim (λ (lt : i < n). get_or-replicate n i x x lt) (λ (le : n ≤ i). get_or_past (replicate n x) i x (simp length-replicate le)) (cases_lt i n)

pub fresh_short : (labels : List Label) (n : ℕ) → labels ≡ replicate n no_label → Short labels
fresh_short labels n all = record {
  each = λ i. subst (λ (r : Label). r.length ≤ 1518) (sym (ap (λ (xs : List Label). get_or xs i no_label) all ∙ alike n i no_label)) (omega arith);
}

module _ (shape : Shape) (rings : List Ring) (n : ℕ) (all : rings ≡ replicate n no_ring) where
  empty : (i : ℕ) → ring_at rings i ≡ no_ring
  empty i = ap (λ (xs : List Ring). ring_at xs i) all ∙ alike n i no_ring

  pub fresh_round : Round shape.depth rings
  fresh_round = record { each = λ i. subst (Turns shape.depth) (sym (empty i)) (record { next = shape.depth_low; count = omega arith }) }

  pub fresh_slots : slots_in shape rings ≡ (λ p c. 0)
  unfolding slots_in
  fresh_slots = all_none shape 0 (λ i. (ring_at rings i).next) (λ i. ap (λ (r : Ring). r.next) (empty i))

  counts : counts_in shape rings ≡ (λ p c. 0)
  unfolding counts_in
  counts = all_none shape 0 (λ i. (ring_at rings i).count) (λ i. ap (λ (r : Ring). r.count) (empty i))

  pub fresh_frames : (labels : List Label) (m : List ℕ) → frames_in shape rings labels m ≡ (λ p c. [])
  unfolding frames_in
  fresh_frames labels m = all_none shape [] (λ i. frames_of shape.depth (ring_at rings i) labels m i)
      (λ i. frames_empty shape.depth (ring_at rings i) labels m i (ap (λ (r : Ring). r.count) (empty i)))

  none_held : (p : ℕ) → replicate 8 false ≡ classes_in shape rings p
  unfolding classes_in
  none_held p = sym (ap (λ (n : ℕ → ℕ → ℕ). map (λ c. ltb 0 (n p c)) eight) counts)

  pub fresh_agree : (holding : List (List Bool)) → holding ≡ replicate 16 (replicate 8 false) → Agree shape rings holding
  fresh_agree holding same = record {
    each = λ p. ap (λ (xs : List (List Bool)). get_or xs p (replicate 8 false)) same ∙ alike 16 p (replicate 8 false) ∙ none_held p;
  }
