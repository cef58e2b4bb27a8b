-- Which frames stand in the queues, where the next of each will lie, and how many stand. A frame's bytes lie in the
-- frame memory, of which each slot of each queue has a cell of 1,518 bytes; its length and VID are in the slot's label.
use Rattle.std.specs.Prelude.{ℕ, zero, suc, ◌+◌, ◌*◌, ◌%◌, Bool, ◌&&◌, List, [], map, take, drop, nat_lt, slice_index_or}
use Rattle.std.specs.List.{range_with_len}
use Rattle.rules.specs.State.{Queued}
use Rattle.rules.specs.declared.shape.Shape.{Shape}
use Rattle.queues.specs.declared.queues.Queues.{Queues}
use Rattle.queues.specs.declared.label.Label.{Label}
use Rattle.queues.specs.declared.ring.Ring.{Ring}
use Rattle.queues.specs.Rings.{at_queue, counts_in, is_queue, no_label, oldest, ring_at, slots_in}

-- the bytes of a cell
abbrev pub cell : List ℕ → ℕ → List ℕ
cell memory place = take 1518 (drop (1518 * place) memory)

-- the frame in a cell
unfoldable pub frame_at : List Label → List ℕ → ℕ → Queued
frame_at labels memory place =
    let r = slice_index_or labels place no_label in record { vid = r.vid; bytes = take r.length (cell memory place) }

-- the frames of a queue, oldest first
unfoldable pub frames_of : ℕ → Ring → List Label → List ℕ → ℕ → List Queued
frames_of depth ring labels memory queue =
    map (λ turn. frame_at labels memory (queue * depth + turn % depth)) (range_with_len (oldest depth ring) ring.count)

unfoldable pub frames_in : Shape → List Ring → List Label → List ℕ → ℕ → ℕ → List Queued
frames_in shape rings labels memory =
    at_queue shape [] (λ queue. frames_of shape.depth (ring_at rings queue) labels memory queue)

-- the frames that stand at a port in a class, oldest first; none where there is no such queue
unfoldable pub queues_of : Queues → List ℕ → ℕ → ℕ → List Queued
queues_of queues memory = frames_in queues.shape queues.rings.items queues.labels.items memory

-- the slot where the next frame at a port in a class will lie; 0 where there is no such queue
unfoldable pub slots_of : Queues → ℕ → ℕ → ℕ
slots_of queues = slots_in queues.shape queues.rings.items

-- how many frames stand at a port in a class, whatever the memory
unfoldable pub frames_at : Queues → ℕ → ℕ → ℕ
frames_at queues = counts_in queues.shape queues.rings.items

-- how many frames stand in the classes below one
abbrev pub counted_below : (ℕ → ℕ) → ℕ → ℕ
counted_below counts zero = 0
counted_below counts (suc c) = counted_below counts c + counts c

-- whether a queue has room for one frame more
abbrev pub has_room : Queues → ℕ → ℕ → Bool
has_room queues p c = is_queue queues.shape p c && nat_lt (frames_at queues p c) queues.shape.depth
