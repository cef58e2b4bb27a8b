-- How a line of text stands for the bytes of a frame. A byte is written as a pair of hexadecimal digits,
-- side by side; spaces, '-' and ':' may stand between pairs, and '#' begins a comment. A line is read from
-- its first character to its last, and the first thing that is wrong makes it malformed.
use Rattle.std.specs.Prelude.{◌≡◌, ℕ, ◌+◌, ◌-◌, ◌*◌, Bool, cond, ◌&&◌, ◌||◌, List, [], ◌∷◌, ◌++◌, Some, None, Ok, Err, Option, Result, ◌==◌, nat_le}
use Rattle.inspect.specs.declared.line.LineError.{LineError}
use Rattle.inspect.specs.declared.line.LineError.TheVariants as bad
use Rattle.inspect.specs.declared.line.Malformed.{Malformed}
use Rattle.inspect.specs.declared.line.Malformed.TheVariants.{NoDigit, NoSecondDigit}
use Rattle.inspect.specs.declared.line.Step.{Step}
use Rattle.inspect.specs.declared.line.Step.TheVariants.{Pass, Half, Whole, Comment}

abbrev pub within : ℕ → ℕ → ℕ → Bool
within low high c = nat_le low c && nat_le c high

-- the value of a digit: '0' to '9' are 48 to 57, 'A' to 'F' 65 to 70, 'a' to 'f' 97 to 102
abbrev pub digit_of : ℕ → Option ℕ
digit_of c =
    cond (within 48 57 c) (Some (c - 48))
    (cond (within 65 70 c) (Some (c - 65 + 10))
    (cond (within 97 102 c) (Some (c - 97 + 10)) None))

abbrev pub joined : Option ℕ → Option ℕ → Option ℕ
joined (Some high) (Some low) = Some (high * 16 + low)
joined high low = None

abbrev pub pair_of : ℕ → ℕ → Option ℕ
pair_of high low = joined (digit_of high) (digit_of low)

-- space, tab, carriage return, '-' and ':'
abbrev pub separates : ℕ → Bool
separates c = c == 32 || (c == 9 || (c == 13 || (c == 45 || c == 58)))

abbrev pub begun : ℕ → ℕ → Option ℕ → Result Step Malformed
begun place c None = Err (NoDigit place)
begun place c (Some d) = Ok (Half c)

abbrev pub ended : ℕ → Option ℕ → Result Step Malformed
ended place None = Err (NoSecondDigit place)
ended place (Some b) = Ok (Whole b)

-- what a character does at its place, given the first digit that waits there for its second, if one does
abbrev pub step_of : ℕ → Option ℕ → ℕ → Result Step Malformed
step_of place None c = cond (c == 35) (Ok Comment) (cond (separates c) (Ok Pass) (begun place c (digit_of c)))
step_of place (Some high) c = ended place (pair_of high c)

-- more bytes in front
abbrev pub prefixed : List ℕ → Result (List ℕ) Malformed → Result (List ℕ) Malformed
prefixed front (Ok bytes) = Ok (front ++ bytes)
prefixed front (Err e) = Err e

-- what a line gives that ends at this place
abbrev pub end_of : ℕ → Option ℕ → Result (List ℕ) Malformed
end_of place None = Ok []
end_of place (Some high) = Err (NoSecondDigit place)

-- what the rest of a line gives after a step, if `on` says what it gives with or without a waiting digit
abbrev pub follow : Result Step Malformed → (Option ℕ → Result (List ℕ) Malformed) → Result (List ℕ) Malformed
follow (Ok Pass) on = on None
follow (Ok (Half c)) on = on (Some c)
follow (Ok (Whole b)) on = prefixed (b ∷ []) (on None)
follow (Ok Comment) on = Ok []
follow (Err e) on = Err e

abbrev pub bytes_from : ℕ → Option ℕ → List ℕ → Result (List ℕ) Malformed
bytes_from place waiting [] = end_of place waiting
bytes_from place waiting (c ∷ rest) = follow (step_of place waiting c) (λ w. bytes_from (place + 1) w rest)

-- the bytes that a line stands for, or why it stands for none
abbrev pub bytes_in : List ℕ → Result (List ℕ) Malformed
bytes_in text = bytes_from 0 None text

-- an error that says of a line why it stands for no bytes; one of memory says nothing of the line
abbrev pub Explains : List ℕ → LineError → Type 0
Explains text (bad.Malformed e) = bytes_in text ≡ Err e
Explains text (bad.Memory e) = Unit {0}
