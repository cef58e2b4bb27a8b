use Rattle.std.proofs.Common.{◌≡◌, None}
use Rattle.sets.specs.Sets.{members}
use Rattle.frame.specs.Reading.{Picture, picture}
use Rattle.rules.specs.Egress.{sendable}
use Rattle.rules.specs.Ports.{no_ports}
use Rattle.bridge.specs.Flooding.{flood_of, laid_over}
use Rattle.bridge.proofs.egress.lay_over.Given as goal

-- what the ports still to come will make of this is what all ports of the set make of the beginning
abbrev pub invariant-loop-port : goal.invariant-loop-port
invariant-loop-port l = record {
  laid : laid_over l.initial.queues.shape l.priority (sendable (picture l.frame) l.vlan l.priority) l.port-iterator (flood_of l.queues l.memory l.no_room)
      ≡ laid_over l.initial.queues.shape l.priority (sendable (picture l.frame) l.vlan l.priority) (members l.decided) (flood_of l.initial.queues l.initial.memory no_ports);
  form : ◌≡◌ {A = Picture} (record (picture l.form) { tag = None }) (record (picture l.frame) { tag = None });
  shape : l.queues.shape ≡ l.initial.queues.shape;
}
