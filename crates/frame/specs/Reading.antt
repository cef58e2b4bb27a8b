-- What a frame is, as a list of bytes: destination, source, a tag if there is one, and the body.
-- `parse` gives these parts, or the first question that the frame fails. Nothing else in the
-- repository says how a frame is read.
use Rattle.std.specs.Prelude.{ℕ, ◌+◌, ◌*◌, ◌/◌, ◌%◌, Bool, cond, ◌&&◌, List, length, take, drop, Some, None, Ok, Err, Option, Result, ◌==◌, nat_lt, slice_index}
use Rattle.fault.specs.declared.refusal.Refusal.{Refusal}
use Rattle.fault.specs.declared.refusal.Refusal.TheVariants.{FrameTooShort, FrameTooLong, ReservedVid, CfiSet}
use Rattle.fault.specs.Asked.{unless}
use Rattle.frame.specs.declared.parts.Parts.{Parts}
use Rattle.frame.specs.declared.parts.Places.{Places}
use Rattle.frame.specs.declared.parts.Tag.{Tag}

abbrev pub is_tagged : List ℕ → Bool
is_tagged f = slice_index f 12 == 0x81 && slice_index f 13 == 0

-- bytes 14 and 15, high byte first: three bits of priority, one of CFI, twelve of VID
abbrev pub tag_word : List ℕ → ℕ
tag_word f = slice_index f 14 * 256 + slice_index f 15

abbrev pub vid_in : ℕ → ℕ
vid_in word = word % 4096

abbrev pub cfi_in : ℕ → ℕ
cfi_in word = word / 4096 % 2

abbrev pub priority_in : ℕ → ℕ
priority_in word = word / 8192

-- the questions of a tagged frame: at most 1,518 bytes (5), a VID other than 4,095 (6), CFI 0 (7)
abbrev pub tagged_asked : List ℕ → Option Refusal
tagged_asked f =
    cond (nat_lt 1518 (length f)) (Some (FrameTooLong (length f)))
    (cond (vid_in (tag_word f) == 4095) (Some ReservedVid) (cond (cfi_in (tag_word f) == 1) (Some CfiSet) None))

abbrev pub untagged_asked : List ℕ → Option Refusal
untagged_asked f = cond (nat_lt 1514 (length f)) (Some (FrameTooLong (length f))) None

-- the first question that the frame fails: at least 60 bytes (4), then as above
abbrev pub frame_asked : List ℕ → Option Refusal
frame_asked f = cond (nat_lt (length f) 60) (Some (FrameTooShort (length f))) (cond (is_tagged f) (tagged_asked f) (untagged_asked f))

abbrev pub tag_in : List ℕ → Option Tag
tag_in f = cond (is_tagged f) (Some (record { priority = priority_in (tag_word f); vid = vid_in (tag_word f) })) None

-- where each part lies: the tag's two bytes are the 14th and 15th
abbrev pub places_of : Option Tag → Places
places_of None = record { destination = 0; source = 6; tag = None; body = 12 }
places_of (Some t) = record { destination = 0; source = 6; tag = Some 14; body = 16 }

-- the parts of a frame by what they hold
pub record Picture : Type 0 where
  pub destination : List ℕ
  pub source : List ℕ
  pub tag : Option Tag
  pub body : List ℕ

abbrev pub parts_of : List ℕ → Picture
parts_of f =
    record { destination = take 6 f; source = take 6 (drop 6 f); tag = tag_in f; body = drop (places_of (tag_in f)).body f }

abbrev pub parse : List ℕ → Result Picture Refusal
parse f = unless (frame_asked f) (parts_of f)

-- the parts that code holds, by what they hold
abbrev pub picture : Parts → Picture
picture p = record { destination = p.destination; source = p.source; tag = p.tag; body = p.body.now }

abbrev pub shown : Result Parts Refusal → Result Picture Refusal
shown (Ok p) = Ok (picture p)
shown (Err e) = Err e
