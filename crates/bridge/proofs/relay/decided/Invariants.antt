use Rattle.std.proofs.Common.{◌≡◌, map}
use Rattle.sets.proofs.ByNumber.{tried}
use Rattle.bridge.specs.Decided.{goes_to}
use Rattle.bridge.proofs.relay.decided.Given as goal

abbrev pub invariant-loop-index : goal.invariant-loop-index
invariant-loop-index l =
    l.set ≡ tried (goes_to l.way.count (map (λ port. port.state) l.ports) l.way.from l.way.members l.way.said l.way.known) 16 l.index
