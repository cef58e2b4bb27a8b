use Rattle.std.proofs.Common.{◌+◌, ◌-◌, sym, ap, ◌∙◌, subst, arith}
use borrow.Rule.Slice.PartMut.{put_mid}
use Rattle.table.specs.Entries.{is_fid}
use Rattle.table.specs.Records.{held_of}
use Rattle.hashed.specs.Stretch.{Kept}
use Rattle.hashed.proofs.Clear.{Whole}
use Rattle.hashed.proofs.Calls.{cuts, learned_in, part_apart, put_laid, row_fid}
use Rattle.hashed.proofs.hashed.Hashed.learn_at.Goals as goal
use Rattle.hashed.proofs.hashed.Hashed.learn_at.Goals.{After-learn}

whole : (c : After-learn) → Whole c.args.self.now.share (held_of c.args.self.now.records.now) (held_of (put_mid c.stretch-stretch.result.start (c.stretch-stretch.result.end - c.stretch-stretch.result.start) c.args.self.now.records.now c.learn.new.records)) c.args.entry c.learn.result
whole c = learned_in (cuts c.args.self.now c.args.row c.stretch-stretch.ensures) c.learn.new.records c.args.entry c.learn.result c.requires (ap is_fid (sym c.requires) ∙ row_fid c.args.row) c.learn.ensures.learned

pub learn-requires-clause-apart : goal.learn-requires-clause-apart
learn-requires-clause-apart c = part_apart (cuts c.args.self.now c.args.row c.stretch-stretch.ensures)

pub invariant_of-self-clause-laid : goal.invariant_of-self-clause-laid
invariant_of-self-clause-laid c =
    let kept : Kept (c.args.row.index + 1) c.learn.new.records c.learn.new.bounds = subst (λ f. Kept f c.learn.new.records c.learn.new.bounds) (sym c.requires) c.learn.ensures.kept in
    put_laid (cuts c.args.self.now c.args.row c.stretch-stretch.ensures) c.learn.new.records c.learn.new.bounds c.learn.auto.records (omega arith) kept

pub invariant_of-self-clause-orderly : goal.invariant_of-self-clause-orderly
invariant_of-self-clause-orderly c = (whole (goal.at.invariant_of-self-clause-orderly c).After-learn).orderly

pub returns-clause-mark : goal.returns-clause-mark
returns-clause-mark c = (whole (goal.at.returns-clause-mark c).After-learn).mark

pub returns-clause-later : goal.returns-clause-later
returns-clause-later c = (whole (goal.at.returns-clause-later c).After-learn).later
