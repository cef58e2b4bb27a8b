-- Each queue has a ring, each slot a label, and each cell lies in a memory that is large enough.
use Rattle.std.proofs.Common.{◌≡◌, ℕ, ◌+◌, ◌*◌, ◌<◌, ◌≤◌, true, length, vec_len, ap, ◌∙◌, arith}
use lib.Arith.{digits_lt}
use Rattle.queues.specs.declared.queues.Queues.{Queues}
use Rattle.queues.specs.Rings.{is_queue, needed_for, number_of}
use Rattle.queues.proofs.Changed.{class_below, port_below}

module _ (q : Queues) where
  rings_are : length q.rings.items ≡ q.shape.ports * q.shape.classes
  rings_are = omega (arith, q.rings.ok.0, q.queues)

  labels_are : length q.labels.items ≡ q.shape.ports * q.shape.classes * q.shape.depth
  labels_are = let e : length q.labels.items ≡ vec_len q.labels = omega (arith, q.labels.ok.0) in e ∙ q.cells ∙ ap (λ (k : ℕ). k * q.shape.depth) q.queues

  module _ (p c s : ℕ) (h : is_queue q.shape p c ≡ true) (slot : s < q.shape.depth) where
    low : number_of q.shape p c < q.shape.ports * q.shape.classes
    low = digits_lt (port_below q.shape p c h) (class_below q.shape p c h)

    pub ring_within : number_of q.shape p c < length q.rings.items
    ring_within = omega (arith, low, rings_are)

    pub label_within : number_of q.shape p c * q.shape.depth + s < length q.labels.items
    label_within = omega (arith, digits_lt low slot, labels_are)

    pub cell_fits : (room : ℕ) → needed_for q.shape ≤ room → 1518 * (number_of q.shape p c * q.shape.depth + s) + 1518 ≤ room
    cell_fits room needed = omega (arith, digits_lt low slot, needed)
