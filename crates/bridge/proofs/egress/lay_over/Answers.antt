use Rattle.std.proofs.Common.{ℕ, List, ap, refl, ◌∙◌}
use Rattle.frame.specs.Reading.{picture}
use Rattle.rules.specs.Egress.{sendable}
use Rattle.rules.specs.Ports.{Ports}
use Rattle.sets.specs.Sets.{members}
use Rattle.bridge.specs.Flooding.{flood_of, laid_over}
use Rattle.bridge.proofs.egress.lay_over.Goals as goal

pub loop-port-init : goal.loop-port-init
loop-port-init c =
    let a = c.args in
    let form = sendable (picture a.frame.now) a.vlan.now a.priority in
    record {
      laid = ap (λ (ports : List ℕ). laid_over a.queues.now.shape a.priority form ports (flood_of a.queues.now a.memory.now c.empty-no_room.result)) (c.into_iter-port-iterator.ensures.into_iter_gives ∙ c.iter-port-items.ensures.numbers)
          ∙ ap (λ (none : Ports). laid_over a.queues.now.shape a.priority form (members a.decided.now) (flood_of a.queues.now a.memory.now none)) c.empty-no_room.ensures;
      form = refl;
      shape = refl;
    }
