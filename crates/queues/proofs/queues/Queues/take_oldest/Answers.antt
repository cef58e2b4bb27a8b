use Rattle.std.proofs.Common.{◌≡◌, ◌<◌, ◌≤◌, ℕ, ◌+◌, ◌-◌, ◌*◌, true, List, [], drop, length, take, sym, refl, ap, ◌∙◌, arith}
use Rattle.frame.specs.Writing.{put_at}
use Rattle.rules.specs.State.{Queued}
use Rattle.queues.specs.declared.ring.Ring.{Ring}
use Rattle.queues.specs.Rings.{is_queue, number_of, ring_at}
use Rattle.queues.specs.Standing.{queues_of, slots_of}
use Rattle.queues.specs.Taking.{handed_out, taken_of}
use Rattle.queues.proofs.Meaning.{count_at, frames_are, queue_at, slots_are}
use Rattle.queues.proofs.Counts.{nothing}
use Rattle.queues.proofs.Taken.{none_taken, same_slots, taken_frames}
use Rattle.queues.proofs.Within.{ring_within}
use Rattle.queues.proofs.queues.Queues.take_oldest.Goals as goal

pub returns-then-count-eq0 : goal.returns-then-count-eq0
returns-then-count-eq0 c =
    let b = c.args.self.now in
    let none : (m : List ℕ) → queues_of b m c.args.port c.args.class ≡ [] = λ m. nothing b m c.args.port c.args.class (sym c.count.ensures.is ∙ c.if-count-eq0.true) in
    record {
      answer = sym (ap taken_of (none c.args.memory.now));
      short = tt;
      output = sym (ap (λ (z : List Queued). handed_out z c.args.output.now) (none c.args.memory.now));
      queues = λ m. sym (none_taken c.args.port c.args.class (queues_of b m) (none m));
      slots = refl;
      shape = refl;
    }

pub ring-ring-requires : goal.ring-ring-requires
ring-ring-requires c = queue_at c.args.self.now c.args.port c.args.class (let h = c.if-count-eq0.false in omega (arith, h, c.count.ensures.is))

pub with_one_fewer-requires : goal.with_one_fewer-requires
with_one_fewer-requires c =
    let b = c.args.self.now in
    let some : 0 < c.count.result = (let h = c.if-count-eq0.false in omega (arith, h)) in
    let q = queue_at b c.args.port c.args.class (omega (arith, some, c.count.ensures.is)) in
    omega (arith, some, c.count.ensures.is, count_at b c.args.port c.args.class q, ap (λ (r : Ring). r.count) c.ring-ring.ensures.is)

pub set_ring-requires : goal.set_ring-requires
set_ring-requires c =
    let b = c.args.self.now in
    let some : 0 < c.count.result = (let h = c.if-count-eq0.false in omega (arith, h)) in
    record {
      queue = queue_at b c.args.port c.args.class (omega (arith, some, c.count.ensures.is));
      turns = record { next = omega (arith, c.with_one_fewer.ensures.next, c.ring-ring.ensures.turns.next); count = omega (arith, c.with_one_fewer.ensures.count, c.ring-ring.ensures.turns.count) };
    }

pub returns : goal.returns
unfolding queues_of slots_of
returns c =
    let b = c.args.self.now in
    let a = c.set_ring.new.self in
    let e = c.set_ring.ensures in
    let port = c.args.port in
    let class = c.args.class in
    let stands : 0 < c.count.result = (let h = c.if-count-eq0.false in omega (arith, h)) in
    let h : is_queue b.shape port class ≡ true = queue_at b port class (omega (arith, stands, c.count.ensures.is)) in
    let n = number_of b.shape port class in
    let lt : n < length b.rings.items = ring_within b port class 0 h b.shape.depth_low in
    let g = ring_at b.rings.items n in
    let y = c.with_one_fewer.result in
    let some : 0 < g.count = omega (arith, stands, c.count.ensures.is, count_at b port class h) in
    let most : g.count ≤ b.shape.depth = (b.round.each n).count in
    let yn : y.next ≡ g.next = c.with_one_fewer.ensures.next ∙ ap (λ (r : Ring). r.next) c.ring-ring.ensures.is in
    let yc : y.count + 1 ≡ g.count = c.with_one_fewer.ensures.count ∙ ap (λ (r : Ring). r.count) c.ring-ring.ensures.is in
    let oldest = c.oldest-oldest in
    let bytes = λ (k : ℕ). put_at c.args.output.now 0 (take k (drop (1518 * oldest.result.cell) c.args.memory.now)) in
    let long : (1518 * oldest.result.cell + c.from.result) - 1518 * oldest.result.cell ≡ oldest.result.label.length = omega (arith, c.from.ensures) in
    record {
      answer = oldest.ensures.label c.args.memory.now c.requires.memory;
      short = oldest.ensures.short;
      output = c.put.ensures ∙ ap bytes long ∙ oldest.ensures.bytes c.args.memory.now c.args.output.now c.requires.memory;
      queues = λ m. frames_are a b.shape _ e.shape e.rings b.labels.items m (ap (λ v. v.items) e.labels) ∙ taken_frames b.shape b.rings.items b.labels.items m port class n y h refl lt some most yn yc;
      slots = slots_are a b.shape _ e.shape e.rings ∙ same_slots b.shape b.rings.items n y lt yn;
      shape = e.shape;
    }
