-- Where the rules look something up and find nothing, the code answers a refusal.
use Rattle.std.specs.Prelude.{Ok, Err, Some, None, Option, Result}
use Rattle.fault.specs.declared.refusal.Refusal.{Refusal}

-- what was looked up, or the refusal where there is none
abbrev pub or_refused : {A : Type 0} → Refusal → Option A → Result A Refusal
or_refused r (Some x) = Ok x
or_refused r None = Err r
