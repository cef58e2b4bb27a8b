use Rattle.std.proofs.Common.{◌≡◌, ◌<◌, ◌≤◌, ℕ, ◌+◌, ◌-◌, ◌*◌, ◌%◌, true, List, ◌∷◌, Some, length, take, drop, sym, refl, ap, ◌∙◌, arith}
use Rattle.frame.specs.Writing.{put_at}
use Rattle.rules.specs.State.{Queued}
use Rattle.queues.specs.declared.label.Label.{Label}
use Rattle.queues.specs.declared.ring.Ring.{Ring}
use Rattle.queues.specs.Rings.{is_queue, needed_for, number_of, oldest, ring_at}
use Rattle.queues.specs.Standing.{frame_at, frames_of, queues_of}
use Rattle.queues.specs.Taking.{handed_out, taken_of}
use Rattle.queues.proofs.Meaning.{count_at, frames_are, queue_at}
use Rattle.queues.proofs.Taken.{cut_bytes, stood_there}
use Rattle.queues.proofs.Within.{ring_within}
use Rattle.queues.proofs.queues.Queues.oldest.Goals as goal

pub ring-ring-requires : goal.ring-ring-requires
ring-ring-requires c = queue_at c.args.self.now c.args.port c.args.class c.requires

pub cell-cell-requires-clause-queue : goal.cell-cell-requires-clause-queue
cell-cell-requires-clause-queue c = queue_at c.args.self.now c.args.port c.args.class c.requires

pub returns : goal.returns
returns c =
    let b = c.args.self.now in
    let port = c.args.port in
    let class = c.args.class in
    let d = b.shape.depth in
    let h : is_queue b.shape port class ≡ true = queue_at b port class c.requires in
    let n = number_of b.shape port class in
    let lt : n < length b.rings.items = ring_within b port class 0 h b.shape.depth_low in
    let g = ring_at b.rings.items n in
    let is : c.ring-ring.result ≡ g = c.ring-ring.ensures.is in
    let some : 0 < g.count = omega (arith, c.requires, count_at b port class h) in
    let most : g.count ≤ d = (b.round.each n).count in
    let y : Ring = record { next = g.next; count = g.count - 1 } in
    let j = c.cell-cell.result in
    let r = c.label.result in
    let slot : c.oldest.result ≡ oldest d g % d =
    c.oldest.ensures.value ∙ ap (λ (x : ℕ). oldest x c.ring-ring.result % x) c.depth.ensures.value ∙ ap (λ (x : Ring). oldest d x % d) is in
    let je : j ≡ n * d + oldest d g % d = c.cell-cell.ensures.is ∙ ap (λ (x : ℕ). n * d + x) slot in
    let bytes_of = λ (m : List ℕ). take r.length (drop (1518 * j) m) in
    let stood : (m : List ℕ) → needed_for b.shape ≤ length m → (queues_of b m port class ≡ (record { vid = r.vid; bytes = bytes_of m }) ∷ frames_of d y b.labels.items m n) × (length (bytes_of m) ≡ r.length) = λ m enough.
    (let cut = cut_bytes b.labels.items r m j r.length c.label.ensures.is c.label.ensures.short (omega (arith, c.cell-cell.ensures.fits, enough)) refl in (
      (let z = frames_are b b.shape b.rings.items refl refl b.labels.items m refl in λ i. z i port class)
          ∙ stood_there b.shape b.rings.items b.labels.items m port class n y h refl lt some most refl (omega arith)
          ∙ ap (λ (z : Queued). z ∷ frames_of d y b.labels.items m n) (sym (cut.0 ∙ ap (frame_at b.labels.items m) je)),
      cut.1,
    )) in
    record {
      within = c.cell-cell.ensures.fits;
      short = c.label.ensures.short;
      label = λ m enough. let s = stood m enough in
          ap (λ (l : ℕ). let z : Label = record { length = l; vid = r.vid } in Some z) (sym s.1) ∙ ap taken_of (sym s.0);
      bytes = λ m output enough. ap (λ (z : List Queued). handed_out z output) (sym (stood m enough).0);
    }
