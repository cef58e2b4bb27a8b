-- What an answer tells of the questions that were asked.
use Rattle.std.proofs.Common.{◌≡◌, Some, None, Ok, Option, Result, refl}
use Rattle.fault.specs.declared.refusal.Refusal.{Refusal}
use Rattle.fault.specs.Asked.{unless}

-- an answer was given, so every question was answered yes
pub answered : {A : Type 0} (o : Option Refusal) (t x : A) → ◌≡◌ {A = Result A Refusal} (Ok t) (unless o x) → (o ≡ None) × (t ≡ x)
answered None t x e = (refl, (cc))
answered (Some r) t x e = ((cc), (cc))
