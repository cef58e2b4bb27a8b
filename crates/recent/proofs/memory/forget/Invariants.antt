use Rattle.std.proofs.Common.{◌≡◌, ◌++◌, Bool, map, take, drop}
use Rattle.recent.specs.declared.remembered.Remembered.{Remembered}
use Rattle.recent.specs.Remembered.{Touches, left}
use Rattle.recent.proofs.memory.forget.Given as goal

abbrev pub invariant-loop-slot : goal.invariant-loop-slot
invariant-loop-slot g l = (test : Remembered → Bool) → Touches g.F.Fn l.fn.touched test → l.slots ≡ map (left test) (take l.slot-index l.initial.slots) ++ drop l.slot-index l.initial.slots
