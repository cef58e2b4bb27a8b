-- Remembered answers: eight slots, each with a key and what find answered for it, or with nothing. A change
-- of the table touches the answers that may differ after it, and these are forgotten.
use Rattle.std.specs.Prelude.{◌≡◌, ℕ, Bool, true, false, cond, ◌&&◌, List, [], ◌∷◌, is_some, Some, None, Option, ◌==◌}
use Rattle.std.specs.Fn.{Shared}
use Rattle.std.specs.Str.{bytes_eq}
use Rattle.fault.specs.declared.mark.Mark.{Mark}
use Rattle.fault.specs.declared.mark.Mark.TheVariants.{Known, Full}
use Rattle.recent.specs.declared.remembered.Remembered.{Remembered}

-- The answer is for this pair.
abbrev pub is_for : ℕ → List ℕ → Remembered → Bool
is_for f a m = m.key.fid == f && bytes_eq m.key.address a

-- What a slot says of a pair.
abbrev pub said_by : Option Remembered → ℕ → List ℕ → Option (Option ℕ)
said_by None f a = None
said_by (Some m) f a = cond (is_for f a m) (Some m.port) None

abbrev pub or_else : Option (Option ℕ) → Option (Option ℕ) → Option (Option ℕ)
or_else None y = y
or_else (Some x) y = Some x

-- What is remembered for a pair: what the first slot says that says something of it.
abbrev pub recalled : List (Option Remembered) → ℕ → List ℕ → Option (Option ℕ)
recalled [] f a = None
recalled (s ∷ ss) f a = or_else (said_by s f a) (recalled ss f a)

-- The answers that a change touches: those for a pair that was learned (is_for), those of a database that was
-- flushed, and those with a port where entries expired. What expires takes ports away and brings none.
abbrev pub in_fid : ℕ → Remembered → Bool
in_fid f m = m.key.fid == f

abbrev pub has_port : Remembered → Bool
has_port m = is_some m.port

-- A closure answers what a test does.
abbrev pub Touches : {F : Type 0} → Shared F (Remembered × Unit {0}) Bool → F → (Remembered → Bool) → Type 0
Touches g f test = (m : Remembered) (b : Bool) → g.post f (m, tt) b → b ≡ test m

-- What is left of a slot where the answers that are touched are forgotten.
abbrev pub left : (Remembered → Bool) → Option Remembered → Option Remembered
left touched None = None
left touched (Some m) = cond (touched m) None (Some m)

-- Whether answers may differ after a learn with this mark: not where the port was the same or there was no room.
abbrev pub alters : Mark → Bool
alters Known = false
alters Full = false
alters _ = true
