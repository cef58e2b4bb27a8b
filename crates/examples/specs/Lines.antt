-- What a line of the worked examples says. A line plays calls on a bridge and says what they have to answer, or says
-- what reading a frame gives, how long it is when it is written with another tag, where a received frame lies, what a
-- setting-up call asks, or what it leaves. Every line is computed, none is argued. Sends take the highest class.
use Rattle.std.specs.Prelude.{◌≡◌, ℕ, List, [], ◌∷◌, ◌++◌, length, take, drop, replicate, Some, None, Ok, Err, Option, Result}
use Rattle.fault.specs.declared.mark.Mark.{Mark}
use Rattle.fault.specs.declared.refusal.Refusal.{Refusal}
use Rattle.fault.specs.Told.{layer_number, told}
use Rattle.frame.specs.Packed.{packed}
use Rattle.frame.specs.Reading.{Picture, parse}
use Rattle.frame.specs.Writing.{write_answer}
use Rattle.frame.specs.declared.parts.Tag.{Tag}
use Rattle.selector.specs.Strict.{highest}
use Rattle.rules.specs.Calls.{Answer, Call, perform, receive, received, received_in, send, sent}
use Rattle.rules.specs.Settings.{Settings}
use Rattle.rules.specs.State.{State, at_start, standing_classes}
use Rattle.examples.specs.Bridges.{ports}

-- what calls answer one after another, and the state after them, where sends take the highest class
abbrev pub choice : State → Call → Option ℕ
choice s (send p m o) = highest (standing_classes s p)
choice s call = None

abbrev pub play : Settings → State → List Call → List Answer
play σ s [] = []
play σ s (c ∷ cs) = (perform σ s c (choice s c)).answer ∷ play σ (perform σ s c (choice s c)).after cs

abbrev pub state_after : Settings → State → List Call → State
state_after σ s [] = s
state_after σ s (c ∷ cs) = state_after σ (perform σ s c (choice s c)).after cs

-- answers: VID, priority, decided ports, ports without room, mark; length, VID, class, bytes
abbrev pub got : ℕ → ℕ → List ℕ → List ℕ → Mark → Answer
got vid priority to full mark =
    received (record { classified = (vid, priority); decided = ports to; no_room = ports full; mark = mark })

abbrev pub out : ℕ → ℕ → ℕ → List ℕ → Answer
out length vid class bytes = sent (record { length = length; vid = vid; class = class }) bytes

-- what reading gives: the one number and, for a refusal, its layer and place
abbrev pub told_place : Result Picture Refusal → List ℕ
told_place (Ok p) = []
told_place (Err e) = layer_number (told e).layer ∷ (told e).place ∷ []

-- the length that writing answers, or 0 and the refusal's number
abbrev pub length_of : Result ℕ Refusal → List ℕ
length_of (Ok n) = n ∷ []
length_of (Err e) = 0 ∷ (told e).number ∷ []

-- the parts of a frame, written with another tag and with room to spare
abbrev pub rewritten : Result Picture Refusal → Option Tag → List ℕ
rewritten (Ok p) t = length_of (write_answer 1518 0 (record p { tag = t }))
rewritten (Err e) t = 0 ∷ (told e).number ∷ []

-- the number of a refusal, or 0 where there is none
abbrev pub number_or_none : Option Refusal → ℕ
number_or_none None = 0
number_or_none (Some r) = (told r).number

-- a frame memory, all zero at first, after a frame is received at a port
abbrev pub memory_after : Settings → State → ℕ → List ℕ → ℕ → List ℕ
memory_after σ s q frame size = received_in σ s q frame (perform σ s (receive q frame size) None).answer (replicate size 0)

-- bridges on which calls are played: just started, and with some calls made already
pub record Played : Type 0 where
  pub settings : Settings
  pub from : State
  pub opened : List Call

pub data Example : Type 0 where
  -- calls on a bridge, and their answers
  plays : Played → List Call → List Answer → Example
  -- a frame, and what reading it gives
  reads : List ℕ → List ℕ → Example
  -- a frame and another tag, and what writing it so answers
  rewrites : List ℕ → Option Tag → List ℕ → Example
  -- a frame received at a port with a frame memory of some size, and bytes that then stand there from a place on
  lies : Played → List Call → ℕ → List ℕ → ℕ → ℕ → List ℕ → Example
  -- questions of setting up, and the number of the first no, or 0
  asks : Option Refusal → ℕ → Example
  -- what a setting-up call leaves
  leaves : Settings → Settings → Example

abbrev pub Holds : Example → Type 0
Holds (plays b calls answers) = drop (length b.opened) (play b.settings b.from (b.opened ++ calls)) ≡ answers
Holds (reads frame gives) = packed (parse frame) ∷ told_place (parse frame) ≡ gives
Holds (rewrites frame tag gives) = rewritten (parse frame) tag ≡ gives
Holds (lies b calls q frame size place bytes) =
    take (length bytes)
    (drop place (memory_after b.settings (state_after b.settings b.from (b.opened ++ calls)) q frame size))
    ≡ bytes
Holds (asks questions number) = number_or_none questions ≡ number
Holds (leaves after settings) = after ≡ settings

abbrev pub AllHold : List Example → Type 0
AllHold [] = Unit {0}
AllHold (e ∷ es) = Holds e × AllHold es
