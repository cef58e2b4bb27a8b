-- What laying a frame into a queue answers, and what it leaves. A frame is laid at the end of one queue, into the cell of
-- the queue's next slot, where the queue has room, the memory is large enough and the frame can be written. Whatever else
-- is told of the queues by port and class stays as it was.
use Rattle.std.specs.Prelude.{ℕ, ◌+◌, ◌%◌, Bool, cond, ◌&&◌, List, [], ◌∷◌, ◌++◌, ◌==◌, nat_le}
use Rattle.std.specs.Option.{is_none}
use Rattle.frame.specs.Reading.{Picture}
use Rattle.frame.specs.Writing.{frame_of, put_at, shape_asked}
use Rattle.rules.specs.Egress.{cell_for}
use Rattle.rules.specs.State.{Queued}
use Rattle.queues.specs.declared.queues.Queues.{Queues}
use Rattle.queues.specs.Rings.{needed_for, number_of}
use Rattle.queues.specs.Standing.{has_room, slots_of}

-- whether a frame can be laid into a queue with a memory of so many bytes
abbrev pub can_lay : Queues → ℕ → ℕ → ℕ → Picture → Bool
can_lay queues memory p c frame =
    has_room queues p c && (nat_le (needed_for queues.shape) memory && is_none (shape_asked frame))

-- what is there after a call that may have done something: changed where it did
abbrev pub when : {X : Type 0} → Bool → (X → X) → X → X
when done change before = cond done (change before) before

-- what is told by port and class after a change of one queue
abbrev pub changed_at : {X : Type 0} → ℕ → ℕ → (X → X) → (ℕ → ℕ → X) → ℕ → ℕ → X
changed_at port class change told p c = when (p == port && c == class) change (told p c)

-- the frame as it stands in a queue
abbrev pub queued : ℕ → Picture → Queued
queued vid frame = record { vid = vid; bytes = frame_of frame }

-- one frame more at the end of a queue
abbrev pub laid_one : ℕ → ℕ → Queued → (ℕ → ℕ → List Queued) → ℕ → ℕ → List Queued
laid_one port class frame = changed_at port class (λ frames. frames ++ (frame ∷ []))

abbrev pub counted_one : ℕ → ℕ → (ℕ → ℕ → ℕ) → ℕ → ℕ → ℕ
counted_one port class = changed_at port class (λ count. count + 1)

-- the next slot goes on by one, going round
abbrev pub next_one : ℕ → ℕ → ℕ → (ℕ → ℕ → ℕ) → ℕ → ℕ → ℕ
next_one depth port class = changed_at port class (λ slot. (slot + 1) % depth)

-- the place of the cell where the next frame of a queue is laid
abbrev pub next_place : Queues → ℕ → ℕ → ℕ
next_place queues p c = cell_for queues.shape.classes queues.shape.depth p c (slots_of queues p c)

-- the frame memory with a frame in that cell
abbrev pub written_next : Queues → ℕ → ℕ → Picture → List ℕ → List ℕ
written_next queues p c frame memory = put_at memory (next_place queues p c) (frame_of frame)
