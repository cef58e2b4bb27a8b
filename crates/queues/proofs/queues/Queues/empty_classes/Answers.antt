use Rattle.std.proofs.Common.{◌≤◌, refl, ◌∙◌, arith}
use Rattle.queues.specs.Standing.{queues_of}
use Rattle.queues.proofs.Emptied.{emptied_all, emptied_more, emptied_none}
use Rattle.queues.proofs.queues.Queues.empty_classes.Goals as goal

pub loop-class-init : goal.loop-class-init
loop-class-init c = record {
  queues = λ m p k. emptied_none c.args.port p k (queues_of c.args.self.now m p k);
  slots = refl;
  shape = refl;
}

pub loop-class-preserved : goal.loop-class-preserved
loop-class-preserved c =
    let inv = c.loop-class.invariant in
    let b = c.args.self.now in
    record {
      queues = λ m p k. emptied_more c.args.port c.loop-class.class p k (queues_of b m p k) (queues_of c.loop-class.self m p k) (queues_of c.empty_class.new.self m p k)
          (inv.queues m p k) (c.empty_class.ensures.queues m p k);
      slots = c.empty_class.ensures.slots ∙ inv.slots;
      shape = c.empty_class.ensures.shape ∙ inv.shape;
    }

pub returns-clause-queues : goal.returns-clause-queues
returns-clause-queues c =
    let end : c.args.self.now.shape.classes ≤ c.loop-class.class = omega arith in
    emptied_all c.args.self.now c.loop-class.self c.args.port c.loop-class.class end c.loop-class.invariant.queues
