-- What the queues mean, from their rings and labels.
use Rattle.std.proofs.Common.{◌≡◌, ℕ, ◌<◌, ltb, true, false, List, refl, ap, ◌∙◌, ⊎_elim, arith}
use Rattle.std.proofs.lemmas.Bool.{and_parts, cases_Bool, ltb-true}
use Rattle.rules.specs.declared.shape.Shape.{Shape}
use Rattle.queues.specs.declared.queues.Queues.{Queues}
use Rattle.queues.specs.declared.label.Label.{Label}
use Rattle.queues.specs.declared.ring.Ring.{Ring}
use Rattle.queues.specs.Rings.{counts_in, is_queue, number_of, ring_at, slots_in}
use Rattle.queues.specs.Standing.{frames_at, frames_in, has_room, queues_of, slots_of}

module _ (q : Queues) (shape : Shape) (rings : List Ring) (s : q.shape ≡ shape) (g : q.rings.items ≡ rings) where
  pub frames_are : (labels : List Label) (m : List ℕ) → q.labels.items ≡ labels → queues_of q m ≡ frames_in shape rings labels m
  unfolding queues_of
  frames_are labels m r =
      ap (λ (x : Shape). frames_in x q.rings.items q.labels.items m) s ∙ ap (λ (x : List Ring). frames_in shape x q.labels.items m) g ∙ ap (λ (x : List Label). frames_in shape rings x m) r

  pub slots_are : slots_of q ≡ slots_in shape rings
  unfolding slots_of
  slots_are = ap (λ (x : Shape). slots_in x q.rings.items) s ∙ ap (slots_in shape) g

  pub counts_are : frames_at q ≡ counts_in shape rings
  unfolding frames_at
  counts_are = ap (λ (x : Shape). counts_in x q.rings.items) s ∙ ap (counts_in shape) g

module _ (q : Queues) (p c : ℕ) where
  pub count_at : is_queue q.shape p c ≡ true → frames_at q p c ≡ (ring_at q.rings.items (number_of q.shape p c)).count
  unfolding frames_at counts_in
  count_at h = rw h refl

  pub count_none : is_queue q.shape p c ≡ false → frames_at q p c ≡ 0
  unfolding frames_at counts_in
  count_none h = rw h refl

  pub slot_at : is_queue q.shape p c ≡ true → slots_of q p c ≡ (ring_at q.rings.items (number_of q.shape p c)).next
  unfolding slots_of slots_in
  slot_at h = rw h refl

  -- where a frame stands there is a queue
  pub queue_at : 0 < frames_at q p c → is_queue q.shape p c ≡ true
  queue_at some = ⊎_elim (λ (h : is_queue q.shape p c ≡ true). h) (λ (h : is_queue q.shape p c ≡ false). absurd (omega (arith, count_none h, some))) (cases_Bool (is_queue q.shape p c))

  -- and where there is room
  module _ (room : has_room q p c ≡ true) where
    pub queue_with_room : is_queue q.shape p c ≡ true
    queue_with_room = (and_parts (is_queue q.shape p c) (ltb (frames_at q p c) q.shape.depth) room).0

    pub room_left : (ring_at q.rings.items (number_of q.shape p c)).count < q.shape.depth
    room_left =
        let below = ltb-true (frames_at q p c) q.shape.depth (and_parts (is_queue q.shape p c) (ltb (frames_at q p c) q.shape.depth) room).1 in
        omega (arith, below, count_at queue_with_room)
