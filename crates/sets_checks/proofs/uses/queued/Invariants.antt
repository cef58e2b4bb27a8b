use Rattle.std.proofs.Common.{◌≡◌, slice_index, nat_lt}
use Rattle.sets.proofs.ByNumber.{tried}
use Rattle.sets_checks.proofs.uses.queued.Given as goal

abbrev pub invariant-loop-class : goal.invariant-loop-class
invariant-loop-class l = l.set ≡ tried (λ class. nat_lt 0 (slice_index l.lengths class)) 8 l.class
