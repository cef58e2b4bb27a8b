use Rattle.std.proofs.Common.{◌≡◌, filter, length, ap, ◌∙◌, arith}
use Rattle.table.specs.Calls.{heard_after}
use Rattle.table.specs.Records.{held_of}
use Rattle.table.proofs.After.{expired_rest}
use Rattle.table.proofs.Implement.{gone_is, kept_is}
use Rattle.table.proofs.Room.{few}
use Rattle.hashed.specs.Sets.{set_of}
use Rattle.hashed.proofs.Calls.{all_done}
use Rattle.hashed.proofs.hashed.HashedTable.expire.Goals as goal
use Rattle.hashed.proofs.hashed.HashedTable.expire.Goals.{After-loop-index}

done : (c : After-loop-index) → held_of c.loop-index.self.records.now ≡ filter (heard_after c.args.limit) (held_of c.args.self.now.records.now)
done c = c.loop-index.invariant.swept ∙ all_done c.args.limit c.loop-index.index _ c.loop-index-test.false c.args.self.now.orderly.ranged

pub overflow_add-gone : goal.overflow_add-gone
overflow_add-gone c =
    let s = c.args.self.now in
    omega (arith, few (held_of s.records.now) s.share s.orderly, s.small, c.loop-index.invariant.gone, c.expire_row-gone.ensures.gone)

pub returns-clause-answer : goal.returns-clause-answer
returns-clause-answer c =
    let s = c.args.self.now in
    let l = held_of s.records.now in
    let m = held_of c.loop-index.self.records.now in
    let e = done (goal.at.returns-clause-answer c).After-loop-index in
    omega (arith, gone_is s.share (heard_after c.args.limit) l m c.loop-index.gone s.orderly e c.loop-index.invariant.gone, ap length (kept_is s.share (heard_after c.args.limit) l m s.orderly e), expired_rest c.args.limit (set_of s))

pub returns-clause-later : goal.returns-clause-later
returns-clause-later c =
    let s = c.args.self.now in
    kept_is s.share (heard_after c.args.limit) (held_of s.records.now) _ s.orderly (done (goal.at.returns-clause-later c).After-loop-index)
