use Rattle.std.proofs.Common.{◌≡◌, ◌<◌, ◌≤◌, ℕ, ◌+◌, ◌*◌, ◌%◌, true, length, sym, refl, ap, ◌∙◌, mod-lt, arith, rules}
use Rattle.fault.specs.Asked.{changed}
use Rattle.fault.proofs.Asked.{answered}
use Rattle.frame.specs.Reading.{picture}
use Rattle.frame.specs.Writing.{frame_of, put_at, shape_asked, size_of}
use Rattle.frame.proofs.Back.{size_of_lem}
use Rattle.queues.specs.declared.label.Label.{Label}
use Rattle.queues.specs.declared.ring.Ring.{Ring}
use Rattle.queues.specs.Rings.{is_queue, number_of, ring_at}
use Rattle.queues.specs.Standing.{frames_at, queues_of, slots_of}
use Rattle.queues.proofs.Kept.{short_set}
use Rattle.queues.proofs.Laid.{cell_answered, in_cell, laid_counts, laid_frames, laid_slots, not_written, written}
use Rattle.queues.proofs.Meaning.{counts_are, frames_are, queue_with_room, room_left, slot_at, slots_are}
use Rattle.queues.proofs.Within.{ring_within}
use Rattle.queues.proofs.queues.Queues.lay_next.Goals as goal

pub ring-ring-requires : goal.ring-ring-requires
ring-ring-requires c = queue_with_room c.args.self.now c.args.port c.args.class c.requires.room

pub cell-cell-requires : goal.cell-cell-requires
cell-cell-requires c = record { queue = queue_with_room c.args.self.now c.args.port c.args.class c.requires.room; slot = c.ring-ring.ensures.turns.next }

pub returns-in_default-clause-answer : goal.returns-in_default-clause-answer
returns-in_default-clause-answer c =
    let p = picture c.args.frame.now in
    let fits : 1518 * c.cell-cell.result + 1518 ≤ length c.args.memory.now = omega (arith, c.cell-cell.ensures.fits, c.requires.memory) in
    sym (not_written (shape_asked p) (size_of p) c.in_default.field-0 (sym c.in_default.is ∙ c.write_cell.ensures.answer ∙ cell_answered (length c.args.memory.now) (1518 * c.cell-cell.result) p fits))

pub with_one_more-requires-clause-room : goal.with_one_more-requires-clause-room
with_one_more-requires-clause-room c =
    let b = c.args.self.now in
    omega (arith, room_left b c.args.port c.args.class c.requires.room, ap (λ (r : Ring). r.count) c.ring-ring.ensures.is, c.depth.ensures.value)

pub invariant_of-self : goal.invariant_of-self
invariant_of-self c =
    let b = c.args.self.now in
    let p = picture c.args.frame.now in
    let j = c.cell-cell.result in
    let fits : 1518 * j + 1518 ≤ length c.args.memory.now = omega (arith, c.cell-cell.ensures.fits, c.requires.memory) in
    let size = answered (shape_asked p) c.in-Ok.length (size_of p) (sym c.in-Ok.is ∙ c.write_cell.ensures.answer ∙ cell_answered (length c.args.memory.now) (1518 * j) p fits) in
    let lr : j < length b.labels.items = omega (arith, b.labels.ok.0, c.cell-cell.ensures.within) in
    let x : Label = record { length = c.in-Ok.length; vid = c.args.vid } in
    record {
      size = b.size;
      queues = b.queues;
      cells = b.cells;
      round = b.round;
      short = short_set b.labels.items j x lr b.short (omega (arith, size.1, in_cell p size.0));
      agree = b.agree;
    }

pub set_ring-requires : goal.set_ring-requires
set_ring-requires c =
    let b = c.args.self.now in
    let next : c.with_one_more.result.next ≡ (c.ring-ring.result.next + 1) % c.depth.result = c.with_one_more.ensures.next in
    let some : 0 < c.depth.result = omega (arith, c.depth.ensures.low) in
    record {
      queue = queue_with_room b c.args.port c.args.class c.requires.room;
      turns = record {
        next = omega (arith, next, mod-lt (c.ring-ring.result.next + 1) some, c.depth.ensures.value);
        count = omega (arith, c.with_one_more.ensures.count, room_left b c.args.port c.args.class c.requires.room, ap (λ (r : Ring). r.count) c.ring-ring.ensures.is);
      };
    }

pub returns : goal.returns
unfolding queues_of slots_of frames_at
returns c =
    let b = c.args.self.now in
    let a = c.set_ring.new.self in
    let e = c.set_ring.ensures in
    let m = c.args.memory.now in
    let port = c.args.port in
    let class = c.args.class in
    let d = b.shape.depth in
    let p = picture c.args.frame.now in
    let f = frame_of p in
    let h : is_queue b.shape port class ≡ true = queue_with_room b port class c.requires.room in
    let n = number_of b.shape port class in
    let lt : n < length b.rings.items = ring_within b port class 0 h b.shape.depth_low in
    let g = ring_at b.rings.items n in
    let is : c.ring-ring.result ≡ g = c.ring-ring.ensures.is in
    let room : g.count < d = room_left b port class c.requires.room in
    let j = c.cell-cell.result in
    let lr : j < length b.labels.items = omega (arith, b.labels.ok.0, c.cell-cell.ensures.within) in
    let fits : 1518 * j + 1518 ≤ length m = omega (arith, c.cell-cell.ensures.fits, c.requires.memory) in
    let answer = c.write_cell.ensures.answer ∙ cell_answered (length m) (1518 * j) p fits in
    let asked = answered (shape_asked p) c.in-Ok.length (size_of p) (sym c.in-Ok.is ∙ answer) in
    let hd : length p.destination ≡ 6 = search rules in
    let hs : length p.source ≡ 6 = search rules in
    let long = size_of_lem p hd hs in
    let size : length f ≤ 1518 = omega (arith, long, in_cell p asked.0) in
    let x : Label = record { length = c.in-Ok.length; vid = c.args.vid } in
    let xs : x.length ≡ length f = asked.1 ∙ sym long in
    let y = c.with_one_more.result in
    let yn : y.next ≡ (g.next + 1) % d = c.with_one_more.ensures.next ∙ ap (λ (k : ℕ). (c.ring-ring.result.next + 1) % k) c.depth.ensures.value ∙ ap (λ (r : Ring). (r.next + 1) % d) is in
    let yc : y.count ≡ g.count + 1 = c.with_one_more.ensures.count ∙ ap (λ (r : Ring). r.count + 1) is in
    let at : j ≡ n * d + g.next = c.cell-cell.ensures.is ∙ ap (λ (r : Ring). n * d + r.next) is in
    let mem : c.write_cell.new.memory ≡ put_at m (1518 * j) f = c.write_cell.ensures.after ∙ ap (λ r. changed r m (put_at m (1518 * j) f)) (sym c.write_cell.ensures.answer ∙ c.in-Ok.is) in
    record {
      answer = sym (written (shape_asked p) asked.0);
      queues = frames_are a b.shape _ e.shape e.rings _ c.write_cell.new.memory (ap (λ v. v.items) e.labels)
          ∙ rw mem (laid_frames b.shape b.rings.items b.labels.items m port class n j y x f h refl lt b.round room size fits lr xs at yn yc);
      slots = slots_are a b.shape _ e.shape e.rings ∙ laid_slots b.shape b.rings.items b.labels.items m port class n j y x f h refl lt b.round room size fits lr xs at yn yc;
      counts = counts_are a b.shape _ e.shape e.rings ∙ laid_counts b.shape b.rings.items b.labels.items m port class n j y x f h refl lt b.round room size fits lr xs at yn yc;
      memory = mem ∙ ap (λ (k : ℕ). put_at m (1518 * k) f) (at ∙ ap (λ (k : ℕ). n * d + k) (sym (slot_at b port class h)));
      shape = e.shape;
      refused = λ w. (cc);
    }
