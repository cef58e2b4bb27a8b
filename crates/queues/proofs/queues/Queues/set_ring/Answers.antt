use Rattle.std.proofs.Common.{◌≡◌, ◌<◌, ℕ, List, Bool, length, get_or, ltb, set, sym, ap, ◌∙◌, arith, rules}
use Rattle.queues.proofs.Kept.{agree_set, round_set}
use Rattle.queues.proofs.queues.Queues.set_ring.Goals as goal

pub invariant_of-self : goal.invariant_of-self
invariant_of-self c =
    let b = c.args.self.now in
    let q = c.number-queue.result in
    let lt : q < length b.rings.items = omega (arith, b.rings.ok.0, c.number-queue.ensures.within) in
    let old = c.index-self-port.result in
    let p = c.from-port.result in
    let pe : p ≡ c.args.port = c.from-port.ensures in
    let sixteen : length b.holding ≡ 16 = search rules in
    let new : c.held_with.result ≡ set old c.args.class (ltb 0 c.args.ring.count) = c.held_with.ensures ∙ ap (λ (x : List Bool). set x c.args.class (ltb 0 c.args.ring.count)) (sym c.index-self-port.is) in
    let read : old ≡ get_or b.holding c.args.port old = c.index-self-port.is ∙ ap (λ (k : ℕ). get_or b.holding k old) pe in
    let a = agree_set b.shape b.rings.items b.holding c.args.port c.args.class q c.args.ring c.requires.queue c.number-queue.ensures.is lt b.agree sixteen old read in
    record {
      size = b.size;
      queues = b.queues;
      cells = b.cells;
      round = round_set b.shape.depth b.rings.items q c.args.ring lt b.round c.requires.turns;
      short = b.short;
      agree = rw (pe, new) a;
    }
