use Rattle.std.proofs.Common.{◌≡◌, ◌+◌, ◌-◌, refl, ap, ◌∙◌, filter, arith}
use borrow.Rule.Slice.PartMut.{put_mid}
use Rattle.table.specs.Calls.{heard_after}
use Rattle.table.specs.Records.{held_of}
use Rattle.table.proofs.Records.{orderly_kept}
use Rattle.hashed.specs.Layout.{spared}
use Rattle.hashed.proofs.Held.{held_swept}
use Rattle.hashed.proofs.Kept.{kept_swept}
use Rattle.hashed.proofs.Calls.{cuts, kept_part, put_laid, sieved_in, swept_in}
use Rattle.hashed.proofs.hashed.Hashed.sweep_row.Goals as goal
use Rattle.hashed.proofs.hashed.Hashed.sweep_row.Goals.{After-sweep}

swept : (c : After-sweep) → held_of (put_mid c.stretch-stretch.result.start (c.stretch-stretch.result.end - c.stretch-stretch.result.start) c.args.self.now.records.now c.sweep.new.records) ≡ filter (spared c.args.limit (c.args.row.index + 1)) (held_of c.args.self.now.records.now)
swept c = sieved_in (cuts c.args.self.now c.args.row c.stretch-stretch.ensures) (c.args.row.index + 1) (heard_after c.args.limit) c.sweep.new.records refl (ap held_of c.sweep.ensures ∙ held_swept c.args.limit _)

pub overflow_sub-result : goal.overflow_sub-result
overflow_sub-result c = (swept_in (cuts c.args.self.now c.args.row c.stretch-stretch.ensures) c.args.limit c.sweep.new.records _ c.of-after.result (omega arith) c.sweep.ensures c.of-after.ensures).0

pub invariant_of-self-clause-laid : goal.invariant_of-self-clause-laid
invariant_of-self-clause-laid c =
    let r = cuts c.args.self.now c.args.row c.stretch-stretch.ensures in
    put_laid r c.sweep.new.records c.of-after.result c.sweep.auto.records (omega arith) (rw (c.of-after.ensures, c.sweep.ensures) (kept_swept c.args.limit (c.args.row.index + 1) _ _ (kept_part r)))

pub invariant_of-self-clause-orderly : goal.invariant_of-self-clause-orderly
invariant_of-self-clause-orderly c =
    let s = c.args.self.now in
    orderly_kept s.share (spared c.args.limit (c.args.row.index + 1)) (held_of s.records.now) _ s.orderly (swept (goal.at.invariant_of-self-clause-orderly c).After-sweep)

pub returns-clause-swept : goal.returns-clause-swept
returns-clause-swept c = swept (goal.at.returns-clause-swept c).After-sweep

pub returns-clause-gone : goal.returns-clause-gone
returns-clause-gone c = (swept_in (cuts c.args.self.now c.args.row c.stretch-stretch.ensures) c.args.limit c.sweep.new.records _ c.of-after.result (omega arith) c.sweep.ensures c.of-after.ensures).1
