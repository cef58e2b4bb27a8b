use Rattle.std.proofs.Common.{refl, ◌∙◌, sym, arith, ap}
use Rattle.table_bench.specs.Work.{set_after, strode, sum_of, at_step}
use Rattle.table_bench.proofs.Steps.{set_more, sum_more, turn_more}
use Rattle.table_bench.proofs.work.go_through.Goals as goal

pub loop-before-init : goal.loop-before-init
unfolding set_after sum_of at_step
loop-before-init g c = record { set = refl; share = refl; turn = refl; sum = refl; below = omega (arith, c.args.work.now.load.some) }

pub loop-before-preserved : goal.loop-before-preserved
loop-before-preserved g c =
    let i = c.loop-before.invariant in
    let one = c.one-sum.ensures in record {
      set = one.later ∙ rw (i.set, i.share, i.turn) (sym (set_more _ _ _ _ _ _));
      share = one.share ∙ i.share;
      turn = c.after-at.ensures.value ∙ ap (strode _ _) i.turn ∙ sym (turn_more _ _ _);
      sum = rw (one.worth, i.set, i.share, i.turn, i.sum) (sym (sum_more _ _ _ _ _ _ _));
      below = c.after-at.ensures.below;
    }
