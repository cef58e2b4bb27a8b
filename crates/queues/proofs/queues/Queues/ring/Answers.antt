use Rattle.std.proofs.Common.{◌≡◌, ◌<◌, length, subst, sym, ap, ◌∙◌, arith}
use Rattle.std.proofs.lemmas.List.{get_or_read}
use Rattle.queues.specs.Rings.{Turns, no_ring, ring_at}
use Rattle.queues.proofs.queues.Queues.ring.Goals as goal

pub returns : goal.returns
returns c =
    let b = c.args.self.now in
    let n = c.number.result in
    let lt : n < length b.rings.items = omega (arith, b.rings.ok.0, c.number.ensures.within) in
    let read : c.index.result.now ≡ ring_at b.rings.items n = get_or_read b.rings.items n c.index.result.now lt c.index.ensures no_ring in
    let is = read ∙ ap (ring_at b.rings.items) c.number.ensures.is in
    record { is = is; turns = subst (Turns b.shape.depth) (sym read) (b.round.each n) }
