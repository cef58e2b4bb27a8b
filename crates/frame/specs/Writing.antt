-- What writing a frame from its parts answers, and what the memory holds afterwards.
-- `frame_of` is the frame's bytes; `put_at` is a memory with some bytes laid over a stretch of it.
use Rattle.std.specs.Prelude.{◌≡◌, ℕ, ◌+◌, ◌*◌, ◌/◌, ◌%◌, Bool, true, false, cond, not, ◌&&◌, List, [], ◌∷◌, ◌++◌, length, take, drop, Some, None, Ok, Err, Decides, Option, Result, ◌==◌, nat_le, slice_index}
use Rattle.fault.specs.declared.refusal.Refusal.{Refusal}
use Rattle.fault.specs.declared.refusal.Refusal.TheVariants.{TagOutOfRange, LengthOutOfRange, DoesNotFit}
use Rattle.fault.specs.Asked.{before, changed, followed, unless}
use Rattle.frame.specs.Reading.{Picture, parse, places_of}
use Rattle.frame.specs.declared.parts.Tag.{Tag}

-- the memory with these bytes from place `at` on, and everything else as it was
abbrev pub put_at : List ℕ → ℕ → List ℕ → List ℕ
put_at m at bytes = take at m ++ (bytes ++ drop (at + length bytes) m)

abbrev pub tag_bytes : Option Tag → List ℕ
tag_bytes None = []
tag_bytes (Some t) = 0x81 ∷ 0 ∷ ((t.priority * 8192 + t.vid) / 256) ∷ ((t.priority * 8192 + t.vid) % 256) ∷ []

abbrev pub frame_of : Picture → List ℕ
frame_of p = p.destination ++ (p.source ++ (tag_bytes p.tag ++ p.body))

abbrev pub size_of : Picture → ℕ
size_of p = (places_of p.tag).body + length p.body

abbrev pub tag_fits : Option Tag → Bool
tag_fits None = true
tag_fits (Some t) = nat_le t.priority 7 && nat_le t.vid 4094

abbrev pub longest : Option Tag → ℕ
longest None = 1514
longest (Some t) = 1518

-- the questions about the parts alone: the tag's numbers (35), 56 bytes to the longest (36)
abbrev pub shape_asked : Picture → Option Refusal
shape_asked p =
    cond (tag_fits p.tag) (cond (nat_le 56 (size_of p) && nat_le (size_of p) (longest p.tag)) None (Some LengthOutOfRange))
    (Some TagOutOfRange)

-- whether n bytes fit from position `at` on (37)
abbrev pub room_asked : ℕ → ℕ → ℕ → Option Refusal
room_asked room at n = cond (nat_le (at + n) room) None (Some DoesNotFit)

abbrev pub write_answer : ℕ → ℕ → Picture → Result ℕ Refusal
write_answer room at p = unless (before (shape_asked p) (room_asked room at (size_of p))) (size_of p)

abbrev pub write_after : List ℕ → ℕ → Picture → List ℕ
write_after m at p = changed (write_answer (length m) at p) m (put_at m at (frame_of p))

-- a cell is 1,518 bytes; one that does not lie in the memory has no room at all
abbrev pub cell_room : ℕ → ℕ → ℕ
cell_room room place = cond (nat_le (place + 1518) room) 1518 0

abbrev pub cell_answer : ℕ → ℕ → Picture → Result ℕ Refusal
cell_answer room place p = write_answer (cell_room room place) 0 p

abbrev pub cell_after : List ℕ → ℕ → Picture → List ℕ
cell_after m place p = changed (cell_answer (length m) place p) m (put_at m place (frame_of p))

-- an untagged body that a reader would take for a tag
abbrev pub looks_tagged : Option Tag → List ℕ → Bool
looks_tagged None body = slice_index body 0 == 0x81 && slice_index body 1 == 0
looks_tagged (Some t) body = false

-- a frame that a reader accepts, and takes for what it is
abbrev pub readable : Picture → Bool
readable p = nat_le 60 (size_of p) && not (looks_tagged p.tag p.body)

-- what was written from position `at` on reads back as the same parts exactly if it is readable
abbrev pub ReadsBack : Picture → ℕ → List ℕ → Result ℕ Refusal → Type 0
ReadsBack p at m (Ok n) = Decides (readable p) (parse (take n (drop at m)) ≡ Ok p)
ReadsBack p at m (Err e) = Unit {0}

-- the parts that reading hands out make the frame's own bytes again, and writing takes them
abbrev pub OwnBytes : List ℕ → Result Picture Refusal → Type 0
OwnBytes f (Ok p) = (frame_of p ≡ f) × (size_of p ≡ length f) × (shape_asked p ≡ None)
OwnBytes f (Err e) = Unit {0}

-- a frame that is read and then written from its parts
abbrev pub copy_answer : ℕ → ℕ → List ℕ → Result ℕ Refusal
copy_answer room at f = followed (parse f) (unless (room_asked room at (length f)) (length f))

abbrev pub copy_after : List ℕ → ℕ → List ℕ → List ℕ
copy_after m at f = changed (copy_answer (length m) at f) m (put_at m at f)

-- parts that are written and then read back: whether they are the same
abbrev pub confirm_answer : ℕ → ℕ → Picture → Result Bool Refusal
confirm_answer room at p = followed (write_answer room at p) (Ok (readable p))
