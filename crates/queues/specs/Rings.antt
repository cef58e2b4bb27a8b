-- A queue is a ring of slots: its frames stand in `count` slots one after another, the last of them just before slot
-- `next`, where the next frame will lie, going round from the last slot to the first. Queues are numbered by port, then
-- class. `Round`, `Short` and `Agree` are what `Queues` keeps true of itself.
use Rattle.std.specs.Prelude.{◌≡◌, ℕ, ◌+◌, ◌-◌, ◌*◌, ◌<◌, ◌≤◌, Bool, false, cond, ◌&&◌, List, map, nat_lt, replicate, slice_index_or}
use Rattle.rules.specs.Egress.{memory_for}
use Rattle.rules.specs.Ports.{eight}
use Rattle.rules.specs.declared.shape.Shape.{Shape}
use Rattle.queues.specs.declared.label.Label.{Label}
use Rattle.queues.specs.declared.ring.Ring.{Ring}

abbrev pub no_ring : Ring
no_ring = record { next = 0; count = 0 }

abbrev pub no_label : Label
no_label = record { length = 0; vid = 0 }

abbrev pub ring_at : List Ring → ℕ → Ring
ring_at rings queue = slice_index_or rings queue no_ring

-- the turn of the oldest frame: its slot, or that and once round
abbrev pub oldest : ℕ → Ring → ℕ
oldest depth ring = (ring.next + depth) - ring.count

-- the bytes of all cells
abbrev pub needed_for : Shape → ℕ
needed_for shape = memory_for shape.ports shape.classes shape.depth

-- whether there is a queue for a port and a class, and its number
abbrev pub is_queue : Shape → ℕ → ℕ → Bool
is_queue shape p c = nat_lt p shape.ports && nat_lt c shape.classes

abbrev pub number_of : Shape → ℕ → ℕ → ℕ
number_of shape p c = p * shape.classes + c

-- what is told by a queue's number, told by port and class; `none` where there is no queue
abbrev pub at_queue : {X : Type 0} → Shape → X → (ℕ → X) → ℕ → ℕ → X
at_queue shape none told p c = cond (is_queue shape p c) (told (number_of shape p c)) none

-- how many frames stand at a port in a class, and the slot where the next will lie
unfoldable pub counts_in : Shape → List Ring → ℕ → ℕ → ℕ
counts_in shape rings = at_queue shape 0 (λ queue. (ring_at rings queue).count)

unfoldable pub slots_in : Shape → List Ring → ℕ → ℕ → ℕ
slots_in shape rings = at_queue shape 0 (λ queue. (ring_at rings queue).next)

-- the classes in which a frame stands at a port
unfoldable pub classes_in : Shape → List Ring → ℕ → List Bool
classes_in shape rings p = map (λ c. nat_lt 0 (counts_in shape rings p c)) eight

-- a ring's next slot is one that there is, and no queue holds more frames than it has slots
pub record Turns (depth : ℕ) (ring : Ring) : Type 0 where
  pub next : ring.next < depth
  pub count : ring.count ≤ depth

pub record Round (depth : ℕ) (rings : List Ring) : Type 0 where
  pub each : (queue : ℕ) → Turns depth (ring_at rings queue)

-- every frame fits into a cell
pub record Short (labels : List Label) : Type 0 where
  pub each : (place : ℕ) → (slice_index_or labels place no_label).length ≤ 1518

-- the set that is kept for a port has just the classes in which a frame stands there
pub record Agree (shape : Shape) (rings : List Ring) (holding : List (List Bool)) : Type 0 where
  pub each : (p : ℕ) → slice_index_or holding p (replicate 8 false) ≡ classes_in shape rings p
