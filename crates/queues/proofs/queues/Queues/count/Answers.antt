use Rattle.std.proofs.Common.{sym, ap, ◌∙◌, arith}
use Rattle.queues.specs.declared.ring.Ring.{Ring}
use Rattle.queues.proofs.Meaning.{count_at, count_none}
use Rattle.queues.proofs.queues.Queues.count.Goals as goal

pub returns-then-not-is_queue-clause-is : goal.returns-then-not-is_queue-clause-is
returns-then-not-is_queue-clause-is c = sym (count_none c.args.self.now c.args.port c.args.class (sym c.is_queue.ensures ∙ c.if-not-is_queue.true))

pub returns-clause-is : goal.returns-clause-is
returns-clause-is c =
    ap (λ (r : Ring). r.count) c.ring.ensures.is ∙ sym (count_at c.args.self.now c.args.port c.args.class (sym c.is_queue.ensures ∙ c.if-not-is_queue.false))

pub returns-clause-most : goal.returns-clause-most
returns-clause-most c = omega (arith, c.ring.ensures.turns.count, c.args.self.now.shape.depth_high)
