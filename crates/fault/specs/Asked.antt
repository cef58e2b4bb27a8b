-- A call asks its questions in order. Where one is answered no, the call gives that refusal,
-- and what it was to change stays as it was; otherwise it gives its answer.
use Rattle.std.specs.Prelude.{Some, None, Ok, Err, Option, Result}
use Rattle.fault.specs.declared.refusal.Refusal.{Refusal}

-- two rounds of questions: the second counts only where the first has no no
abbrev pub before : Option Refusal → Option Refusal → Option Refusal
before None later = later
before (Some no') later = Some no'

-- the answer, unless a question was answered no
abbrev pub unless : {A : Type 0} → Option Refusal → A → Result A Refusal
unless None answer = Ok answer
unless (Some no') answer = Err no'

-- two calls, the second made only after an accepted first
abbrev pub followed : {A B : Type 0} → Result A Refusal → Result B Refusal → Result B Refusal
followed (Ok a) second = second
followed (Err e) second = Err e

-- what is there after a call: the new content where it was accepted, else the old
abbrev pub changed : {A B : Type 0} → Result A Refusal → B → B → B
changed (Ok a) old new = new
changed (Err e) old new = old
