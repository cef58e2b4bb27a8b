use Rattle.std.proofs.Common.{◌≡◌, ◌<◌, length, sym, refl, ap, ◌∙◌, true, arith}
use Rattle.queues.specs.declared.ring.Ring.{Ring}
use Rattle.queues.specs.Rings.{is_queue, number_of}
use Rattle.queues.specs.Standing.{queues_of, slots_of}
use Rattle.queues.proofs.Emptied.{emptied_frames, none_here}
use Rattle.queues.proofs.Meaning.{frames_are, slots_are}
use Rattle.queues.proofs.Taken.{same_slots}
use Rattle.queues.proofs.Within.{ring_within}
use Rattle.queues.proofs.queues.Queues.empty_class.Goals as goal

pub returns-then-not-is_queue-clause-queues : goal.returns-then-not-is_queue-clause-queues
returns-then-not-is_queue-clause-queues c m p k = none_here c.args.self.now m c.args.port c.args.class p k (sym c.is_queue.ensures ∙ c.if-not-is_queue.true)

pub set_ring-requires-clause-turns : goal.set_ring-requires-clause-turns
set_ring-requires-clause-turns c =
    record { next = omega (arith, c.emptied.ensures.next, c.ring-ring.ensures.turns.next); count = omega (arith, c.emptied.ensures.count) }

pub returns-clause-queues : goal.returns-clause-queues
unfolding queues_of
returns-clause-queues c m p k =
    let b = c.args.self.now in
    let n = number_of b.shape c.args.port c.args.class in
    let h : is_queue b.shape c.args.port c.args.class ≡ true = sym c.is_queue.ensures ∙ c.if-not-is_queue.false in
    let lt : n < length b.rings.items = ring_within b c.args.port c.args.class 0 h b.shape.depth_low in
    let e = c.set_ring.ensures in
    let a = frames_are c.set_ring.new.self b.shape _ e.shape e.rings b.labels.items m (ap (λ v. v.items) e.labels) in
    let z = emptied_frames b.shape b.rings.items b.labels.items m c.args.port c.args.class n c.emptied.result h refl lt c.emptied.ensures.count in
    λ i. (a ∙ z) i p k

pub returns-clause-slots : goal.returns-clause-slots
unfolding slots_of
returns-clause-slots c =
    let b = c.args.self.now in
    let n = number_of b.shape c.args.port c.args.class in
    let h : is_queue b.shape c.args.port c.args.class ≡ true = sym c.is_queue.ensures ∙ c.if-not-is_queue.false in
    let lt : n < length b.rings.items = ring_within b c.args.port c.args.class 0 h b.shape.depth_low in
    let e = c.set_ring.ensures in
    slots_are c.set_ring.new.self b.shape _ e.shape e.rings
    ∙ same_slots b.shape b.rings.items n c.emptied.result lt (c.emptied.ensures.next ∙ ap (λ (r : Ring). r.next) c.ring-ring.ensures.is)
