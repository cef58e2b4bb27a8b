use Rattle.std.proofs.Common.{◌≡◌, nat_lt}
use Rattle.std.specs.List.{list_all}
use Rattle.sets.specs.Sets.{members}
use Rattle.configuration.proofs.vlans.lies_below.Given as goal

abbrev pub invariant-loop-port : goal.invariant-loop-port
invariant-loop-port l = list_all (λ p. nat_lt p l.number) l.port-iterator ≡ list_all (λ p. nat_lt p l.number) (members l.set)
