-- The one number that a program in another language gets for a frame:
-- VID + 4,096 × priority + 32,768 when tagged, 0 when untagged, 65,536 × the refusal's number.
use Rattle.std.specs.Prelude.{ℕ, ◌+◌, ◌*◌, Some, None, Ok, Err, Option, Result}
use Rattle.fault.specs.Told.{told}
use Rattle.fault.specs.declared.refusal.Refusal.{Refusal}
use Rattle.frame.specs.Reading.{Picture}
use Rattle.frame.specs.declared.parts.Tag.{Tag}

abbrev pub packed_tag : Option Tag → ℕ
packed_tag None = 0
packed_tag (Some t) = t.vid + 4096 * t.priority + 32768

abbrev pub packed : Result Picture Refusal → ℕ
packed (Ok p) = packed_tag p.tag
packed (Err e) = 65536 * (told e).number
