use Rattle.frame.specs.Reading.{picture}
use Rattle.bridge.proofs.Floods.{flood_memory, floods, not_empty}
use Rattle.bridge.specs.LaidBy.{laid_by}
use Rattle.bridge.specs.View.{settings_of, state_of}
use Rattle.bridge.proofs.bridge.Bridge.flood.Goals as goal

pub returns-clause-step : goal.returns-clause-step
returns-clause-step g c =
    let b = c.args.self.now in
    let ports = c.requires.ports in
    floods (settings_of b) b.queues.shape (state_of b c.args.memory.now) c.args.decided.now c.args.priority (picture c.args.frame.now) c.args.vlan.now ports.long ports.below _ _ c.args.memory.now _ _
    c.lay_over-no_room.ensures.laid c.args.mark (not_empty c.args.decided.now c.is_empty.result c.is_empty.ensures c.if-is_empty.false)

pub returns-clause-memory : goal.returns-clause-memory
unfolding laid_by
returns-clause-memory g c =
    let b = c.args.self.now in
    let ports = c.requires.ports in
    flood_memory (settings_of b) b.queues.shape (state_of b c.args.memory.now) c.args.decided.now c.args.priority (picture c.args.frame.now) c.args.vlan.now ports.long ports.below _ _ c.args.memory.now _ _
    c.lay_over-no_room.ensures.laid
