-- How a frame waits at a port and in which form it leaves: its traffic class, the room in its queue,
-- its tag, and its cell of the frame memory. Class, room and tag are asked at the port where it is queued.
use Rattle.std.specs.Prelude.{ℕ, ◌+◌, ◌-◌, ◌*◌, ◌%◌, ◌<◌, ◌≤◌, Bool, cond, not, ◌&&◌, List, [], ◌∷◌, ◌++◌, length, Some, None, Option, ◌==◌, nat_lt, slice_index, slice_index_or}
use Rattle.frame.specs.Reading.{Picture}
use Rattle.frame.specs.Writing.{frame_of, put_at}
use Rattle.frame.specs.declared.parts.Tag.{Tag}
use Rattle.rules.specs.Ports.{Ports, has, ports_where}
use Rattle.rules.specs.declared.vlans.Vlan.{Vlan}
use Rattle.rules.specs.Settings.{Settings}
use Rattle.rules.specs.State.{Queued, State}

-- for each priority its class, where there are one to eight classes
abbrev pub class_table : List (List ℕ)
class_table =
    (0 ∷ 0 ∷ 0 ∷ 0 ∷ 0 ∷ 1 ∷ 1 ∷ 1 ∷ [])
    ∷ (0 ∷ 0 ∷ 0 ∷ 0 ∷ 0 ∷ 0 ∷ 0 ∷ 0 ∷ [])
    ∷ (0 ∷ 0 ∷ 0 ∷ 1 ∷ 1 ∷ 2 ∷ 2 ∷ 2 ∷ [])
    ∷ (0 ∷ 0 ∷ 0 ∷ 1 ∷ 1 ∷ 2 ∷ 3 ∷ 3 ∷ [])
    ∷ (0 ∷ 1 ∷ 1 ∷ 2 ∷ 2 ∷ 3 ∷ 4 ∷ 4 ∷ [])
    ∷ (0 ∷ 1 ∷ 1 ∷ 2 ∷ 2 ∷ 3 ∷ 4 ∷ 5 ∷ [])
    ∷ (0 ∷ 1 ∷ 2 ∷ 3 ∷ 3 ∷ 4 ∷ 5 ∷ 6 ∷ [])
    ∷ (0 ∷ 1 ∷ 2 ∷ 3 ∷ 4 ∷ 5 ∷ 6 ∷ 7 ∷ []) ∷ []

unfoldable pub class_of : ℕ → ℕ → ℕ
class_of classes priority = slice_index (slice_index_or class_table priority []) (classes - 1)

-- the class of a frame at the port where it is queued
abbrev pub class_at : Settings → ℕ → ℕ → ℕ
class_at σ p priority = class_of σ.classes priority

-- whatever the priority, its class is one of those that there are
abbrev pub ClassBelow : Type 0
ClassBelow = (classes priority : ℕ) → 1 ≤ classes → class_of classes priority < classes

-- no tag at the ports of the VLAN's untagged set, else the frame's priority and VID
abbrev pub egress_tag : Vlan → ℕ → ℕ → Option Tag
egress_tag v priority p = cond (has v.untagged p) None (Some (record { priority = priority; vid = v.vid }))

-- the frame as it will be sent from a port
abbrev pub sendable : Picture → Vlan → ℕ → ℕ → Queued
sendable frame v priority p =
    record { vid = v.vid; bytes = frame_of (record frame { tag = egress_tag v priority p }) }

-- whether a queue has room for one frame more
abbrev pub has_room : Settings → State → ℕ → ℕ → Bool
has_room σ s p c = nat_lt (length (s.queues p c)) σ.depth

-- the decided ports at which the queue of the frame's class is full
abbrev pub without_room : Settings → State → ℕ → Ports → Ports
without_room σ s priority set = ports_where (λ p. has set p && not (has_room σ s p (class_at σ p priority)))

-- whether the frame is queued at a port
abbrev pub lays : Ports → Ports → ℕ → Bool
lays set full p = has set p && not (has full p)

-- whether it is queued at a port in a class
abbrev pub lays_in : Settings → Ports → Ports → ℕ → ℕ → ℕ → Bool
lays_in σ set full priority p c = lays set full p && c == class_at σ p priority

-- the queues and their next slots after the frame is laid where there is room
abbrev pub laid_queues : Settings → State → Ports → Ports → ℕ → (ℕ → Queued) → ℕ → ℕ → List Queued
laid_queues σ s set full priority frame p c =
    cond (lays_in σ set full priority p c) (s.queues p c ++ (frame p ∷ [])) (s.queues p c)

abbrev pub laid_slots : Settings → State → Ports → Ports → ℕ → ℕ → ℕ → ℕ
laid_slots σ s set full priority p c = cond (lays_in σ set full priority p c) ((s.slots p c + 1) % σ.depth) (s.slots p c)

abbrev pub laid : Settings → State → Ports → Ports → ℕ → (ℕ → Queued) → State
laid σ s set full priority frame =
    record s { queues = laid_queues σ s set full priority frame; slots = laid_slots σ s set full priority }

-- the bytes of frame memory for so many ports, classes and slots, and where the cell of one lies in it: cells of 1,518
-- bytes, by port, then class, then slot
abbrev pub memory_for : ℕ → ℕ → ℕ → ℕ
memory_for ports classes depth = ports * classes * depth * 1518

abbrev pub cell_for : ℕ → ℕ → ℕ → ℕ → ℕ → ℕ
cell_for classes depth p c slot = 1518 * ((p * classes + c) * depth + slot)

abbrev pub memory_needed : Settings → ℕ
memory_needed σ = memory_for σ.ports σ.classes σ.depth

abbrev pub cell_place : Settings → ℕ → ℕ → ℕ → ℕ
cell_place σ p c slot = cell_for σ.classes σ.depth p c slot

-- the place of a frame that is queued next at a port
abbrev pub next_place : Settings → State → ℕ → ℕ → ℕ
next_place σ s priority p = let c = class_at σ p priority in cell_place σ p c (s.slots p c)

-- the frame memory after the frame is laid at some ports
abbrev pub laid_memory : Settings → State → Ports → Ports → ℕ → (ℕ → Queued) → List ℕ → List ℕ → List ℕ
laid_memory σ s set full priority frame [] m = m
laid_memory σ s set full priority frame (p ∷ ps) m =
    laid_memory σ s set full priority frame ps
    (cond (lays set full p) (put_at m (next_place σ s priority p) (frame p).bytes) m)
