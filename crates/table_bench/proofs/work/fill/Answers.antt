use Rattle.std.proofs.Common.{refl, ◌∙◌, sym}
use Rattle.table_bench.specs.Work.{filled}
use Rattle.table_bench.proofs.Steps.{filled_more}
use Rattle.table_bench.proofs.work.fill.Goals as goal

pub loop-at-init : goal.loop-at-init
unfolding filled
loop-at-init g c = (c.requires, refl)

pub loop-at-preserved : goal.loop-at-preserved
loop-at-preserved g c =
    let i = c.loop-at.invariant in
    let heard_again = c.learn.ensures in (
      heard_again.later ∙ rw (c.entry_at.ensures, i.0, i.1) (sym (filled_more _ _)),
      heard_again.share ∙ i.1,
    )
