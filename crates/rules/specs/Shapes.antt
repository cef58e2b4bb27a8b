-- The numbers of a shape that was checked, or the refusal.
use Rattle.std.specs.Prelude.{ℕ, Ok, Err, Result}
use Rattle.fault.specs.declared.refusal.Refusal.{Refusal}
use Rattle.rules.specs.declared.shape.Shape.{Shape}

abbrev pub numbers : Result Shape Refusal → Result (ℕ × ℕ × ℕ) Refusal
numbers (Ok shape) = Ok (shape.ports, shape.classes, shape.depth)
numbers (Err e) = Err e
