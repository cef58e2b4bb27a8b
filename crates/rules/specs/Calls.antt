-- What each call of a bridge answers and leaves, refusals included. A call's questions are asked in
-- order, and the first no is the answer; a refused call leaves the state as it was, except that what
-- a receive has learned by then stays learned.
use Rattle.std.specs.Prelude.{ℕ, ◌-◌, ◌*◌, Bool, cond, not, ◌&&◌, List, [], ◌∷◌, length, Some, None, Ok, Err, Option, Result, ◌==◌, nat_le, nat_lt, slice_set}
use Rattle.fault.specs.declared.mark.Mark.{Mark}
use Rattle.fault.specs.declared.refusal.Refusal.{Refusal}
use Rattle.fault.specs.declared.refusal.Refusal.TheVariants.{NotStarted, PortOutOfRange, FrameMemoryTooSmall, PortNotLearning, PortNotForwarding, ReservedDestination, NoEgressPort, OutputMemoryTooSmall, NoFrameStands, TimeBeforeClock, TimeTooLarge, UnknownEvent, NoTransition}
use Rattle.frame.specs.Address.{reserved}
use Rattle.frame.specs.Reading.{Picture}
use Rattle.frame.specs.Writing.{put_at}
use Rattle.table.specs.Calls.{after_expire, after_flush, answered, flushed}
use Rattle.rules.specs.declared.answers.Received.{Received}
use Rattle.rules.specs.declared.answers.Sent.{Sent}
use Rattle.rules.specs.declared.ports.PortEvent.{PortEvent}
use Rattle.rules.specs.declared.ports.PortEvent.TheVariants.{Enable, Disable, Choose, Drop, DelayOver}
use Rattle.rules.specs.declared.ports.PortState.{PortState}
use Rattle.rules.specs.declared.ports.PortState.TheVariants.{Disabled, Blocking, Listening, Learning, Forwarding}
use Rattle.rules.specs.declared.vlans.Vlan.{Vlan}
use Rattle.rules.specs.Egress.{laid, laid_memory, memory_needed, without_room, sendable}
use Rattle.rules.specs.Ingress.{classified_at, ingress, read_at}
use Rattle.rules.specs.Ports.{Ports, has_any, sixteen}
use Rattle.rules.specs.Relay.{decided, forwards, learned, learns, mark_of}
use Rattle.rules.specs.Settings.{Settings, vlan_of}
use Rattle.rules.specs.State.{Queued, State, frame_stands, standing_at, state_at}

-- a call, with its numbers, its frame, and the sizes of the memories handed to it
pub data Call : Type 0 where
  receive : (port : ℕ) (frame : List ℕ) (memory : ℕ) → Call
  send : (port : ℕ) (memory : ℕ) (output : ℕ) → Call
  advance : (time : ℕ) → Call
  event : (port : ℕ) (number : ℕ) → Call
  flush : (fid : ℕ) → Call
  find : (fid : ℕ) (address : List ℕ) → Call
  standing : (port : ℕ) → Call

-- an answer; that of an accepted send holds the bytes handed out
pub data Answer : Type 0 where
  received : Received → Answer
  sent : Sent → List ℕ → Answer
  advanced : Answer
  emptied : ℕ → Answer
  removed : ℕ → Answer
  found : Option ℕ → Answer
  counted : ℕ → Answer
  refused : Refusal → Answer

-- the answer to a call, and the state afterwards
pub record Outcome : Type 0 where
  pub answer : Answer
  pub after : State

abbrev pub outcome : Answer → State → Outcome
outcome a s = record { answer = a; after = s }

abbrev pub refusing : Refusal → State → Outcome
refusing r s = outcome (refused r) s

-- questions in order: the first no is the answer
abbrev pub asking : Bool → Refusal → State → Outcome → Outcome
asking yes' r s then' = cond yes' then' (refusing r s)

-- RECEIVE, from its end to its beginning

-- the decided ports that have room get the frame (14: there is a decided port)
abbrev pub flood : Settings → State → Picture → Vlan → ℕ → Mark → Ports → Outcome
flood σ s frame v priority mark set =
    asking (has_any set) (NoEgressPort mark) s
    (let full = without_room σ s priority set in
    outcome (received (record { classified = (v.vid, priority); decided = set; no_room = full; mark = mark }))
    (laid σ s set full priority (sendable frame v priority)))

-- after learning: the port forwards (12), the destination is not reserved (13)
abbrev pub relay : Settings → State → ℕ → Picture → Vlan → ℕ → Mark → Outcome
relay σ s q frame v priority mark =
    asking (forwards (state_at s q)) (PortNotForwarding mark) s
    (asking (not (reserved frame.destination)) (ReservedDestination mark) s
    (flood σ s frame v priority mark (decided σ s q v frame.destination)))

-- the port learns (11), and learning happens
abbrev pub learning : Settings → State → ℕ → Picture → Vlan → ℕ → Outcome
learning σ s q frame v priority =
    asking (learns (state_at s q)) PortNotLearning s
    (relay σ (learned σ s q v frame.source) q frame v priority (mark_of σ s q v frame.source))

abbrev pub entering : Settings → State → ℕ → Picture → Result Vlan Refusal → Outcome
entering σ s q frame (Err r) = refusing r s
entering σ s q frame (Ok v) = learning σ s q frame v (classified_at σ q frame.tag).1

abbrev pub reading : Settings → State → ℕ → Result Picture Refusal → Outcome
reading σ s q (Err r) = refusing r s
reading σ s q (Ok frame) = entering σ s q frame (ingress σ q frame.tag)

abbrev pub receiving : Settings → State → ℕ → List ℕ → ℕ → Outcome
receiving σ s q frame memory =
    asking s.started NotStarted s
    (asking (nat_lt q σ.ports) PortOutOfRange s
    (asking (nat_le (memory_needed σ) memory) FrameMemoryTooSmall s (reading σ s q (read_at σ q frame))))

-- SEND

abbrev pub sent_queues : State → ℕ → ℕ → List Queued → ℕ → ℕ → List Queued
sent_queues s p c rest q d = cond (q == p && d == c) rest (s.queues q d)

-- the oldest frame of the class is handed out
abbrev pub handing : State → ℕ → ℕ → List Queued → Outcome
handing s p c [] = refusing NoFrameStands s
handing s p c (x ∷ xs) =
    outcome (sent (record { length = length x.bytes; vid = x.vid; class = c }) x.bytes)
    (record s { queues = sent_queues s p c xs })

-- the selector was asked, and chose a class; none is chosen only where no frame stands
abbrev pub choosing : State → ℕ → Option ℕ → Outcome
choosing s p None = refusing NoFrameStands s
choosing s p (Some c) = handing s p c (s.queues p c)

-- a frame stands at the port (16), and only then is the selector asked
abbrev pub picking : State → ℕ → Option ℕ → Outcome
picking s p choice = asking (frame_stands s p) NoFrameStands s (choosing s p choice)

abbrev pub sending : Settings → State → ℕ → ℕ → ℕ → Option ℕ → Outcome
sending σ s p memory output choice =
    asking s.started NotStarted s
    (asking (nat_lt p σ.ports) PortOutOfRange s
    (asking (nat_le (memory_needed σ) memory) FrameMemoryTooSmall s
    (asking (nat_le 1518 output) OutputMemoryTooSmall s (picking s p choice))))

-- ADVANCE

abbrev pub ageing_time : Settings → ℕ
ageing_time σ = 1000 * σ.ageing

abbrev pub advancing : Settings → State → ℕ → Outcome
advancing σ s t =
    asking s.started NotStarted s
    (asking (nat_le s.clock t) TimeBeforeClock s
    (asking (nat_lt t 1099511627776) TimeTooLarge s
    (outcome advanced
    (record s {
      clock = t;
      entries = cond (nat_le (ageing_time σ) t) (after_expire (t - ageing_time σ) s.entries) s.entries;
    }))))

-- PORT EVENTS

abbrev pub event_of : ℕ → Option PortEvent
event_of n =
    cond (n == 1) (Some Enable) (cond (n == 2) (Some Disable) (cond (n == 3) (Some Choose)
    (cond (n == 4) (Some Drop) (cond (n == 5) (Some DelayOver) None))))

-- which state follows; every other pair of state and event is refused
abbrev pub next_state : PortState → PortEvent → Option PortState
next_state Disabled Enable = Some Blocking
next_state Disabled Disable = None
next_state state Disable = Some Disabled
next_state Blocking Choose = Some Listening
next_state Listening Drop = Some Blocking
next_state Learning Drop = Some Blocking
next_state Forwarding Drop = Some Blocking
next_state Listening DelayOver = Some Learning
next_state Learning DelayOver = Some Forwarding
next_state state e = None

-- leaving Forwarding empties the port's queues; their slots stay
abbrev pub emptied_queues : State → ℕ → ℕ → ℕ → List Queued
emptied_queues s p q d = cond (q == p) [] (s.queues q d)

abbrev pub moved : State → ℕ → PortState → Outcome
moved s p new =
    let states = slice_set s.states p new in
    cond (forwards (state_at s p))
    (outcome (emptied (standing_at s p)) (record s { states = states; queues = emptied_queues s p }))
    (outcome (emptied 0) (record s { states = states }))

abbrev pub moving : State → ℕ → Option PortState → Outcome
moving s p None = refusing NoTransition s
moving s p (Some new) = moved s p new

abbrev pub happening : State → ℕ → Option PortEvent → Outcome
happening s p None = refusing UnknownEvent s
happening s p (Some e) = moving s p (next_state (state_at s p) e)

abbrev pub eventing : Settings → State → ℕ → ℕ → Outcome
eventing σ s p n =
    asking s.started NotStarted s (asking (nat_lt p σ.ports) PortOutOfRange s (happening s p (event_of n)))

-- FLUSH, FIND AND STANDING READ

abbrev pub flushing : State → ℕ → Result ℕ Refusal → Outcome
flushing s f (Ok n) = outcome (removed n) (record s { entries = after_flush s.entries f })
flushing s f (Err r) = refusing r s

abbrev pub finding : State → Result (Option ℕ) Refusal → Outcome
finding s (Ok o) = outcome (found o) s
finding s (Err r) = refusing r s

-- EVERY CALL; what the selector chooses matters to send alone
abbrev pub perform : Settings → State → Call → Option ℕ → Outcome
perform σ s (receive q frame memory) choice = receiving σ s q frame memory
perform σ s (send p memory output) choice = sending σ s p memory output choice
perform σ s (advance t) choice = advancing σ s t
perform σ s (event p n) choice = eventing σ s p n
perform σ s (flush f) choice = asking s.started NotStarted s (flushing s f (flushed s.entries f))
perform σ s (find f a) choice = asking s.started NotStarted s (finding s (answered s.entries f a))
perform σ s (standing p) choice =
    asking s.started NotStarted s (asking (nat_lt p σ.ports) PortOutOfRange s (outcome (counted (standing_at s p)) s))

-- THE MEMORIES

-- what a receive lays into the frame memory, by its answer
abbrev pub laid_in : Settings → State → Received → Result Picture Refusal → Option Vlan → List ℕ → List ℕ
laid_in σ s r (Ok frame) (Some v) m =
    let priority = r.classified.1 in
    laid_memory σ s r.decided r.no_room priority (sendable frame v priority) sixteen m
laid_in σ s r frame v m = m

-- the frame memory after a receive at a port
abbrev pub received_in : Settings → State → ℕ → List ℕ → Answer → List ℕ → List ℕ
received_in σ s q frame (received r) m = laid_in σ s r (read_at σ q frame) (vlan_of σ.vlans r.classified.0) m
received_in σ s q frame a m = m

-- the output memory after a send: its front is the frame
abbrev pub sent_to : Answer → List ℕ → List ℕ
sent_to (sent x bytes) m = put_at m 0 bytes
sent_to a m = m
