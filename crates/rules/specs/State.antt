-- What changes while a bridge runs: the clock, the ports' states, the set of learned entries, and for
-- each port and traffic class the frames that stand, oldest first, and where the next will lie.
use Rattle.std.specs.Prelude.{ℕ, ◌+◌, Bool, true, false, List, [], ◌∷◌, length, map, replicate, slice_index_or}
use Rattle.sets.specs.Sets.{any_in}
use Rattle.rules.specs.Ports.{eight}
use Rattle.rules.specs.declared.ports.PortState.{PortState}
use Rattle.rules.specs.declared.ports.PortState.TheVariants.{Disabled}
use Rattle.table.specs.declared.entry.Entry.{Entry}

-- a frame that stands in a queue, as it will be sent
pub record Queued : Type 0 where
  pub vid : ℕ
  pub bytes : List ℕ

pub record State : Type 0 where
  pub started : Bool
  -- milliseconds
  pub clock : ℕ
  pub states : List PortState
  -- the meaning of the table
  pub entries : List Entry
  -- by port and class
  pub queues : ℕ → ℕ → List Queued
  pub slots : ℕ → ℕ → ℕ

-- a bridge that was just started
abbrev pub at_start : State
at_start =
    record {
      started = true;
      clock = 0;
      states = replicate 16 Disabled;
      entries = [];
      queues = λ p c. [];
      slots = λ p c. 0;
    }

abbrev pub state_at : State → ℕ → PortState
state_at s p = slice_index_or s.states p Disabled

-- how many frames stand in some classes of a port
abbrev pub standing_in : (ℕ → List Queued) → List ℕ → ℕ
standing_in q [] = 0
standing_in q (c ∷ cs) = length (q c) + standing_in q cs

-- how many frames stand at a port
abbrev pub standing_at : State → ℕ → ℕ
standing_at s p = standing_in (s.queues p) eight

-- which classes of a port hold a frame
abbrev pub holds_frame : List Queued → Bool
holds_frame [] = false
holds_frame (x ∷ xs) = true

abbrev pub standing_classes : State → ℕ → List Bool
standing_classes s p = map (λ c. holds_frame (s.queues p c)) eight

-- whether a frame stands at a port
abbrev pub frame_stands : State → ℕ → Bool
frame_stands s p = any_in (standing_classes s p)
