-- What a call of the rules answers, by what the call of the bridge returned.
use Rattle.std.specs.Prelude.{ℕ, List, take, Ok, Err, Result}
use Rattle.fault.specs.declared.refusal.Refusal.{Refusal}
use Rattle.rules.specs.declared.answers.Received.{Received}
use Rattle.rules.specs.declared.answers.Sent.{Sent}
use Rattle.rules.specs.Calls.{Answer, advanced, emptied, received, refused, sent}

-- the answer of an accepted call, or the refusal
abbrev pub as_answer : {A : Type 0} → (A → Answer) → Result A Refusal → Answer
as_answer accepted (Ok a) = accepted a
as_answer accepted (Err e) = refused e

abbrev pub told_received : Result Received Refusal → Answer
told_received = as_answer received

-- the frame that was sent is the front of the output memory
abbrev pub told_sent : Result Sent Refusal → List ℕ → Answer
told_sent result output = as_answer (λ x. sent x (take x.length output)) result

abbrev pub told_advanced : {A : Type 0} → Result A Refusal → Answer
told_advanced = as_answer (λ done. advanced)

abbrev pub told_emptied : Result ℕ Refusal → Answer
told_emptied = as_answer emptied
