use Rattle.std.proofs.Common.{◌≡◌, ◌+◌, ◌-◌, sym, ap, ◌∙◌, arith}
use Rattle.queues.specs.Standing.{frames_at, counted_below}
use Rattle.queues.proofs.Counts.{below_all, none_above}
use Rattle.queues.proofs.queues.Queues.total.Goals as goal

pub returns : goal.returns
returns c =
    let b = c.args.self.now in
    let n = frames_at b c.args.port in
    let k = c.loop-class.class in
    let end : k ≡ b.shape.classes = omega arith in
    let all : (8 - k) + k ≡ 8 = omega (arith, end, b.shape.classes_high) in
    c.loop-class.invariant.total ∙ sym (below_all n k (8 - k) (λ i h. none_above b c.args.port i (omega (arith, end, h)))) ∙ ap (counted_below n) all
