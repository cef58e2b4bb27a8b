-- What the check before a bridge is made answers: a shape of just these numbers, the refusal of the first question
-- answered no, or that there is no memory, which is said only where every question was answered yes.
use Rattle.std.specs.Prelude.{◌≡◌, ℕ, Some, None, Ok, Err, Result}
use Rattle.rules.specs.Setup.{make_asked}
use Rattle.bridge.specs.declared.checked.Checked.{Checked}
use Rattle.bridge.specs.declared.check.CheckError.{CheckError}
use Rattle.bridge.specs.declared.check.CheckError.TheVariants.{Refused, NoMemory}

abbrev pub Answers : ℕ → ℕ → ℕ → Result Checked CheckError → Type 0
Answers ports classes depth (Ok checked) = record {
  asked : make_asked ports classes depth ≡ None;
  ports_are : checked.queues.shape.ports ≡ ports;
  classes_are : checked.queues.shape.classes ≡ classes;
  depth_is : checked.queues.shape.depth ≡ depth;
}
Answers ports classes depth (Err (Refused refusal)) = make_asked ports classes depth ≡ Some refusal
Answers ports classes depth (Err NoMemory) = make_asked ports classes depth ≡ None
