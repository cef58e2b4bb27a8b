-- What taking the oldest frame of a queue answers, and what it leaves. The frame's bytes are copied to the front of an
-- output memory, and the frame goes from its queue. Nothing else changes: the slot where the next frame will lie stays.
use Rattle.std.specs.Prelude.{ℕ, Bool, cond, ◌&&◌, List, [], ◌∷◌, drop, length, Some, None, Option, nat_le}
use Rattle.frame.specs.Writing.{put_at}
use Rattle.rules.specs.State.{Queued}
use Rattle.queues.specs.declared.queues.Queues.{Queues}
use Rattle.queues.specs.declared.label.Label.{Label}
use Rattle.queues.specs.Rings.{needed_for}
use Rattle.queues.specs.Standing.{queues_of}
use Rattle.queues.specs.Laying.{changed_at}

-- whether a frame memory and an output memory of so many bytes are large enough
abbrev pub can_take : Queues → ℕ → ℕ → Bool
can_take queues memory output = nat_le (needed_for queues.shape) memory && nat_le 1518 output

-- the frames of a queue of which the oldest can be taken: none where a memory is too small
abbrev pub offered : Queues → List ℕ → List ℕ → ℕ → ℕ → List Queued
offered queues memory output p c = cond (can_take queues (length memory) (length output)) (queues_of queues memory p c) []

-- the answer, by the frames that stood in the queue
abbrev pub taken_of : List Queued → Option Label
taken_of [] = None
taken_of (frame ∷ frames) = Some (record { length = length frame.bytes; vid = frame.vid })

-- the output memory afterwards: the oldest frame lies at its front
abbrev pub handed_out : List Queued → List ℕ → List ℕ
handed_out [] output = output
handed_out (frame ∷ frames) output = put_at output 0 frame.bytes

-- the queues afterwards
abbrev pub without_oldest : ℕ → ℕ → (ℕ → ℕ → List Queued) → ℕ → ℕ → List Queued
without_oldest port class = changed_at port class (drop 1)
