use Rattle.std.proofs.Common.{◌≡◌}
use Rattle.std.specs.List.{list_all}
use Rattle.sets.specs.Sets.{members}
use Rattle.rules.specs.Ports.{has}
use Rattle.configuration.proofs.vlans.lies_in.Given as goal

abbrev pub invariant-loop-port : goal.invariant-loop-port
invariant-loop-port l = list_all (has l.other) l.port-iterator ≡ list_all (has l.other) (members l.set)
