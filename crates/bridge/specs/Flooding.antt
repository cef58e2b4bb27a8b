-- A frame laid at ports one after another: at each its class is asked, and whether there is room, and it is laid there in
-- the port's own form, or the port is noted as one without room.
use Rattle.std.specs.Prelude.{◌≡◌, ℕ, ◌+◌, ◌*◌, true, cond, ◌&&◌, List, [], ◌∷◌, length, None, nat_lt, slice_set}
use Rattle.frame.specs.Reading.{Picture}
use Rattle.frame.specs.Writing.{put_at, shape_asked}
use Rattle.queues.specs.Laying.{laid_one, next_one}
use Rattle.queues.specs.Rings.{is_queue, number_of}
use Rattle.queues.specs.Standing.{queues_of, slots_of}
use Rattle.queues.specs.declared.queues.Queues.{Queues}
use Rattle.rules.specs.Egress.{cell_for, class_of, egress_tag}
use Rattle.rules.specs.Ports.{Ports, has}
use Rattle.rules.specs.State.{Queued}
use Rattle.rules.specs.declared.shape.Shape.{Shape}
use Rattle.rules.specs.declared.vlans.Vlan.{Vlan}

-- what is changed on the way
pub record Flood : Type 0 where
  pub queues : ℕ → ℕ → List Queued
  pub slots : ℕ → ℕ → ℕ
  pub memory : List ℕ
  pub no_room : Ports

abbrev pub flood_of : Queues → List ℕ → Ports → Flood
flood_of queues memory no_room =
    record { queues = queues_of queues memory; slots = slots_of queues; memory = memory; no_room = no_room }

-- in one queue
abbrev pub laid_in : Shape → ℕ → ℕ → Queued → Flood → Flood
laid_in shape p c frame now =
    cond (is_queue shape p c && nat_lt (length (now.queues p c)) shape.depth)
    (record now {
      queues = laid_one p c frame now.queues;
      slots = next_one shape.depth p c now.slots;
      memory = put_at now.memory (cell_for shape.classes shape.depth p c (now.slots p c)) frame.bytes;
    })
    (record now { no_room = slice_set now.no_room p true })

-- at one port
abbrev pub laid_once : Shape → ℕ → (ℕ → Queued) → ℕ → Flood → Flood
laid_once shape priority frame p = laid_in shape p (class_of shape.classes priority) (frame p)

abbrev pub laid_over : Shape → ℕ → (ℕ → Queued) → List ℕ → Flood → Flood
laid_over shape priority frame [] now = now
laid_over shape priority frame (p ∷ ps) now = laid_over shape priority frame ps (laid_once shape priority frame p now)

-- the frame's form at every port can be written
abbrev pub Writable : Picture → Vlan → ℕ → Type 0
Writable frame v priority = (p : ℕ) → shape_asked (record frame { tag = egress_tag v priority p }) ≡ None

-- a set of ports that there are
pub record OfPorts (count : ℕ) (set : Ports) : Type 0 where
  pub long : length set ≡ 16
  pub below : (p : ℕ) → has set p ≡ true → nat_lt p count ≡ true
