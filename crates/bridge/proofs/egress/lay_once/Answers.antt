use Rattle.std.proofs.Common.{Bool, true, cond, slice_set, ap, sym, ◌∙◌}
use Rattle.frame.specs.Reading.{picture}
use Rattle.bridge.proofs.Laying.{once}
use Rattle.bridge.proofs.egress.lay_once.Goals as goal

pub returns-then-not-lay-clause-laid : goal.returns-then-not-lay-clause-laid
returns-then-not-lay-clause-laid c =
    let a = c.args in
    let l = c.lay.ensures in
    once a.queues.now a.memory.now a.no_room.now (picture a.form.now) a.vid a.port a.class _ _ _ _ c.requires.memory c.requires.form c.lay.result
    l.answer l.queues l.slots l.memory (c.insert.ensures ∙ ap (λ (b : Bool). cond b a.no_room.now (slice_set a.no_room.now a.port true)) (sym c.if-not-lay.true))

pub returns-else-not-lay-clause-laid : goal.returns-else-not-lay-clause-laid
returns-else-not-lay-clause-laid c =
    let a = c.args in
    let l = c.lay.ensures in
    once a.queues.now a.memory.now a.no_room.now (picture a.form.now) a.vid a.port a.class _ _ _ _ c.requires.memory c.requires.form c.lay.result
    l.answer l.queues l.slots l.memory (ap (λ (b : Bool). cond b a.no_room.now (slice_set a.no_room.now a.port true)) (sym c.if-not-lay.false))
