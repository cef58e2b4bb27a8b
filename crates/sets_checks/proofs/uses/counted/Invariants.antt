use Rattle.std.proofs.Common.{◌≡◌, ℕ, ◌+◌, ◌%◌, slice_index}
use Rattle.sets.specs.Sets.{members}
use Rattle.sets.proofs.ByNumber.{touched}
use Rattle.sets_checks.proofs.uses.counted.Given as goal

-- what the ports still to come will make of the counts is what all ports of the set make of the first
abbrev pub invariant-loop-port : goal.invariant-loop-port
invariant-loop-port l =
    (port : ℕ) → touched (λ count. (count + 1) % 256) port l.port-iterator (slice_index l.counts port) ≡ touched (λ count. (count + 1) % 256) port (members l.set) (slice_index l.initial.counts port)
