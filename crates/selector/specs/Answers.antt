-- A selector serves the ports 0 to 15. At another port it answers the refusal that there is no such
-- port, and stays as it was.
use Rattle.std.specs.Prelude.{ℕ, cond, Ok, Err, Option, Result, IfOk, IfSome, nat_lt}
use Rattle.fault.specs.declared.refusal.Refusal.{Refusal}
use Rattle.fault.specs.declared.refusal.Refusal.TheVariants.{PortOutOfRange}

-- the answer at a port
abbrev pub served : {X : Type 0} → ℕ → X → Result X Refusal
served port x = cond (nat_lt port 16) (Ok x) (Err PortOutOfRange)

-- the selector afterwards: `later` where the port is served, else `before`
abbrev pub kept : {X : Type 0} → ℕ → X → X → X
kept port later before = cond (nat_lt port 16) later before

-- where a class is picked, P holds of it
abbrev pub Picked : Result (Option ℕ) Refusal → (ℕ → Type 0) → Type 0
Picked answer P = IfOk answer (λ choice. IfSome choice P)
