use Rattle.std.proofs.Common.{◌<◌, length, sym, ◌∙◌, arith}
use Rattle.std.proofs.lemmas.List.{get_or_default}
use Rattle.std.proofs.lemmas.List.Filters.{FiltersInPlace-more_set, FiltersInPlace-more_no}
use Rattle.searched.proofs.rows.Rows.retain.Goals as goal
use Rattle.searched.proofs.rows.Rows.retain.Goals.{then-keep, else-keep}

pub loop-i-preserved : goal.loop-i-preserved
loop-i-preserved g c =
    let lt : c.loop-i.i < length c.loop-i.self.all.now = omega arith in
    let test = c.requires.1.1 _ _ c.keep.ensures in
    let read = get_or_default c.loop-i.self.all.now c.loop-i.i _ _ lt in
    elim c.if-keep.branch [
      | then-keep w ↦ rw (w.self-is, w.kept-is) (record { used = c.loop-i.invariant.used; filters = FiltersInPlace-more_set c.loop-i.invariant.filters lt (sym test ∙ w.if-keep.true) read })
      | else-keep w ↦ rw (w.self-is, w.kept-is) (record { used = c.loop-i.invariant.used; filters = FiltersInPlace-more_no c.loop-i.invariant.filters lt (sym test ∙ w.if-keep.false) read })
    ]
