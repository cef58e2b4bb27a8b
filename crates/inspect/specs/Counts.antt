-- How lines are counted: one count for the tagged frames, one for the untagged, one for each number by
-- which frames are refused, and one for the lines that are malformed. A line adds one to a single count, and a
-- count that has reached the largest number there is stays there.
use Rattle.std.specs.Prelude.{ℕ, ◌+◌, ◌-◌, ◌^◌, min, cond, List, length, replicate, Some, None, Ok, Err, Option, Result, ◌==◌, slice_index, slice_set}
use Rattle.fault.specs.Told.{told}
use Rattle.fault.specs.declared.refusal.Refusal.{Refusal}
use Rattle.fault.specs.declared.refusal.TheConstants.{REFUSALS}
use Rattle.frame.specs.Reading.{Picture, parse}
use Rattle.frame.specs.declared.parts.Tag.{Tag}
use Rattle.inspect.specs.Text.{bytes_in}
use Rattle.inspect.specs.declared.line.Malformed as bad
use Rattle.inspect.specs.declared.outcome.Outcome.{Outcome}
use Rattle.inspect.specs.declared.outcome.Outcome.TheVariants.{Tagged, Untagged, Refused, Malformed}
use Rattle.inspect.specs.declared.summary.Summary.{Summary}

abbrev pub accepted_as : Option Tag → Outcome
accepted_as (Some tag) = Tagged
accepted_as None = Untagged

abbrev pub read_as : Result Picture Refusal → Outcome
read_as (Ok parts) = accepted_as parts.tag
read_as (Err refusal) = Refused refusal

-- the kind of a frame
abbrev pub outcome_of : List ℕ → Outcome
outcome_of frame = read_as (parse frame)

abbrev pub line_as : Result (List ℕ) bad.Malformed → Option Outcome
line_as (Ok bytes) = cond (length bytes == 0) None (Some (outcome_of bytes))
line_as (Err e) = Some Malformed

-- the kind of a line of text; none where it stands for no bytes
abbrev pub line_outcome : List ℕ → Option Outcome
line_outcome text = line_as (bytes_in text)

abbrev pub nothing : Summary
nothing = record { tagged = 0; untagged = 0; refused = replicate (REFUSALS + 1) 0; malformed = 0 }

abbrev pub more : ℕ → ℕ
more n = min (n + 1) (2 ^ 64 - 1)

-- one more at the place of a number
abbrev pub more_at : ℕ → List ℕ → List ℕ
more_at n counts = slice_set counts n (more (slice_index counts n))

-- the counts after one more line
abbrev pub summary_after : Summary → Outcome → Summary
summary_after s Tagged = record s { tagged = more s.tagged }
summary_after s Untagged = record s { untagged = more s.untagged }
summary_after s (Refused refusal) = record s { refused = more_at (told refusal).number s.refused }
summary_after s Malformed = record s { malformed = more s.malformed }
