use Rattle.std.proofs.Common.{◌≡◌, ◌+◌, ◌-◌, filter, refl, ap, ◌∙◌, arith}
use borrow.Rule.Slice.PartMut.{put_mid}
use Rattle.table.specs.Entries.{not_of_fid}
use Rattle.table.specs.Records.{held_of}
use Rattle.table.proofs.Records.{orderly_kept}
use Rattle.table.proofs.Implement.{flush_is, flushed_is}
use Rattle.hashed.proofs.Cut.{held_cleared, kept_cleared}
use Rattle.hashed.proofs.Calls.{counted_in, cuts, flushed_in, put_laid, row_fid}
use Rattle.hashed.proofs.hashed.Hashed.flush_at.Goals as goal
use Rattle.hashed.proofs.hashed.Hashed.flush_at.Goals.{After-clear}

flushed : (c : After-clear) → held_of (put_mid c.stretch-stretch.result.start (c.stretch-stretch.result.end - c.stretch-stretch.result.start) c.args.self.now.records.now c.clear.new.records) ≡ filter (not_of_fid (c.args.row.index + 1)) (held_of c.args.self.now.records.now)
flushed c = flushed_in (cuts c.args.self.now c.args.row c.stretch-stretch.ensures) (c.args.row.index + 1) c.clear.new.records refl (held_cleared _ _ c.clear.ensures)

pub invariant_of-self-clause-laid : goal.invariant_of-self-clause-laid
invariant_of-self-clause-laid c =
    put_laid (cuts c.args.self.now c.args.row c.stretch-stretch.ensures) c.clear.new.records c.replace.new.dest c.clear.auto.records (omega arith) (rw (c.replace.ensures.after, c.empty.ensures) (kept_cleared (c.args.row.index + 1) _ _ (omega arith) c.clear.ensures))

pub invariant_of-self-clause-orderly : goal.invariant_of-self-clause-orderly
invariant_of-self-clause-orderly c =
    let s = c.args.self.now in
    orderly_kept s.share (not_of_fid (c.args.row.index + 1)) (held_of s.records.now) _ s.orderly (flushed (goal.at.invariant_of-self-clause-orderly c).After-clear)

pub returns-clause-gone : goal.returns-clause-gone
returns-clause-gone c =
    let s = c.args.self.now in
    flushed_is s.share (held_of s.records.now) (c.args.row.index + 1) _ (row_fid c.args.row) s.orderly (ap (λ b. b.held) c.replace.ensures.value ∙ counted_in s (c.args.row.index + 1) c.args.row.index _ c.args.row.below refl (omega arith))

pub returns-clause-later : goal.returns-clause-later
returns-clause-later c =
    let s = c.args.self.now in
    flush_is s.share (held_of s.records.now) _ (c.args.row.index + 1) (row_fid c.args.row) s.orderly (flushed (goal.at.returns-clause-later c).After-clear)
