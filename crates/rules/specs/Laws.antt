-- The promises over whole runs. They speak of how a bridge was set up and of its calls and answers,
-- and of nothing inside it. Each is stated for every run, whatever table the bridge has and whatever
-- its selector chooses.
use Rattle.std.specs.Prelude.{◌≡◌, ℕ, zero, suc, ◌+◌, ◌-◌, ◌<◌, ◌≤◌, Bool, true, false, cond, ◌&&◌, List, [], ◌∷◌, ◌++◌, map, length, Some, None, Ok, Err, filter, Option, Result, ◌==◌, nat_eq, nat_le, nat_lt, slice_get}
use Rattle.fault.specs.declared.refusal.Refusal.{Refusal}
use Rattle.fault.specs.declared.refusal.Refusal.TheVariants.{NoFrameStands}
use Rattle.frame.specs.Reading.{Picture}
use Rattle.frame.specs.Writing.{frame_of}
use Rattle.rules.specs.Calls.{Answer, Call, advance, counted, emptied, event, find, flush, receive, received, refused, send, standing}
use Rattle.rules.specs.Egress.{egress_tag, lays, memory_needed}
use Rattle.rules.specs.Ingress.{classified_at, read_at}
use Rattle.rules.specs.Ports.{no_ports}
use Rattle.rules.specs.Runs.{Run, Step}
use Rattle.rules.specs.Settings.{Settings, is_member, is_of, static_of, vlan_of}
use Rattle.rules.specs.Steps.{Delivery, Receipt, as_emptied, as_received, as_sent, delivery_in, handed_at, queued_at}
use Rattle.rules.specs.declared.answers.Received.{Received}
use Rattle.rules.specs.declared.answers.Sent.{Sent}
use Rattle.rules.specs.declared.vlans.Vlan.{Vlan}

-- ISOLATION: what one database's calls answer does not depend on the others' calls.

-- a receive concerns the database of its frame's VLAN, where the frame can be read and the VLAN is created
abbrev pub concerns_frame : Settings → ℕ → ℕ → Result Picture Refusal → Bool
concerns_frame σ f q (Err r) = false
concerns_frame σ f q (Ok frame) = is_of f (vlan_of σ.vlans (classified_at σ q frame.tag).0)

-- whether a call concerns a database: each advance and port event, its own flushes, finds and receives, and
-- no send or standing read
abbrev pub concerns : Settings → ℕ → Call → Bool
concerns σ f (receive q frame memory) = nat_lt q σ.ports && concerns_frame σ f q (read_at σ q frame)
concerns σ f (advance t) = true
concerns σ f (event p n) = true
concerns σ f (flush g) = g == f
concerns σ f (find g a) = g == f
concerns σ f call = false

abbrev pub concerning : Settings → ℕ → List Step → List Step
concerning σ f steps = filter (λ x. concerns σ f x.call) steps

-- an answer without what tells of room in queues: the no-room set, and how many frames an event emptied
abbrev pub but_room : Answer → Answer
but_room (received r) = received (record r { no_room = no_ports })
but_room (emptied n) = emptied 0
but_room a = a

-- the VLAN of a VID, where it belongs to the database
abbrev pub of_database : ℕ → Option Vlan → Option Vlan
of_database f None = None
of_database f (Some v) = cond (v.fid == f) (Some v) None

-- two bridges are set up alike for a database; elsewhere they may differ
pub record Alike (f : ℕ) (σ τ : Settings) : Type 0 where
  pub ports : σ.ports ≡ τ.ports
  pub classes : σ.classes ≡ τ.classes
  pub depth : σ.depth ≡ τ.depth
  pub share : σ.share ≡ τ.share
  pub ageing : σ.ageing ≡ τ.ageing
  pub port : σ.port ≡ τ.port
  pub vlans : (vid : ℕ) → of_database f (vlan_of σ.vlans vid) ≡ of_database f (vlan_of τ.vlans vid)
  pub statics :
      (vid : ℕ) (a : List ℕ) → is_of f (vlan_of σ.vlans vid) ≡ true → static_of σ.statics vid a ≡ static_of τ.statics vid a

abbrev pub Isolation : Type 0
Isolation =
    (f : ℕ) (σ τ : Settings) (r s : List Step) → Run σ r → Run τ s → Alike f σ τ
    → map (λ x. x.call) (concerning σ f r) ≡ map (λ x. x.call) (concerning τ f s)
    → map (λ x. but_room x.answer) (concerning σ f r) ≡ map (λ x. but_room x.answer) (concerning τ f s)

-- PAIRING: each frame sent is its own earlier received frame.

-- a delivery is what some step of the run handed out at the port
pub record Handed (p : ℕ) (steps : List Step) (d : Delivery) : Type 0 where
  pub before : List Step
  pub step : Step
  pub after : List Step
  pub whole : before ++ (step ∷ after) ≡ steps
  pub hands : delivery_in p d.answer.class (length before) step.call step.answer ≡ d ∷ []

-- a delivery pairs with a receipt: in its class, and counted since the port restarted last, as many were handed
-- out before it as were queued before the receipt
pub record PairsWith (σ : Settings) (p : ℕ) (steps : List Step) (d : Delivery) (r : Receipt) : Type 0 where
  pub handed : Handed p steps d
  pub receipt :
      slice_get (queued_at σ p d.answer.class handed.before) (length (handed_at p d.answer.class handed.before)) ≡ Some r

-- what the two have in common
pub record Pair (σ : Settings) (p : ℕ) (d : Delivery) (r : Receipt) : Type 0 where
  -- the receive came earlier, at another port
  pub earlier : r.at < d.at
  pub elsewhere : nat_eq r.port p ≡ false
  -- one VID, of a VLAN that the port is a member of
  pub vid : d.answer.vid ≡ r.answer.classified.0
  pub vlan : Vlan
  pub created : vlan_of σ.vlans d.answer.vid ≡ Some vlan
  pub member : is_member vlan p ≡ true
  -- the bytes that writing makes of what was read: its addresses and body, and a tag by the VLAN's untagged set
  pub picture : Picture
  pub read : read_at σ r.port r.frame ≡ Ok picture
  pub written : d.bytes ≡ frame_of (record picture { tag = egress_tag vlan r.answer.classified.1 p })
  pub length' : d.answer.length ≡ length d.bytes

-- each frame handed out pairs with a receipt
abbrev pub Pairing : Type 0
Pairing =
    (σ : Settings) (steps : List Step) → Run σ steps → (p : ℕ) (d : Delivery) → Handed p steps d
    → (r : Receipt) × PairsWith σ p steps d r × Pair σ p d r

-- ORDER: of two frames that share port, VLAN and priority, the earlier received leaves first.

abbrev pub Order : Type 0
Order =
    (σ : Settings) (steps : List Step) → Run σ steps → (p : ℕ) (d e : Delivery) (r q : Receipt)
    → PairsWith σ p steps d r → PairsWith σ p steps e q
    → r.answer.classified ≡ q.answer.classified → r.at < q.at → d.at < e.at

-- NO SHARING: no two sends at one port share a receive.

abbrev pub NoSharing : Type 0
NoSharing =
    (σ : Settings) (steps : List Step) → Run σ steps → (p : ℕ) (d e : Delivery) (r q : Receipt)
    → PairsWith σ p steps d r → PairsWith σ p steps e q → r.at ≡ q.at → d.at ≡ e.at

-- CONSERVATION: nothing is lost or made up.

-- frames queued at a port since the start
abbrev pub queues_one : ℕ → Option Received → ℕ
queues_one p None = 0
queues_one p (Some r) = cond (lays r.decided r.no_room p) 1 0

abbrev pub sends_one : Option (Sent × List ℕ) → ℕ
sends_one None = 0
sends_one (Some x) = 1

abbrev pub amount : Option ℕ → ℕ
amount None = 0
amount (Some n) = n

abbrev pub queued_number : ℕ → List Step → ℕ
queued_number p [] = 0
queued_number p (x ∷ xs) = queues_one p (as_received x.answer) + queued_number p xs

-- whether a call is a send, or an event, at a port
abbrev pub sends_at : ℕ → Call → Bool
sends_at p (send q memory output) = q == p
sends_at p call = false

abbrev pub event_at : ℕ → Call → Bool
event_at p (event q n) = q == p
event_at p call = false

-- frames sent from a port since the start
abbrev pub sent_number : ℕ → List Step → ℕ
sent_number p [] = 0
sent_number p (x ∷ xs) = cond (sends_at p x.call) (sends_one (as_sent x.answer)) 0 + sent_number p xs

-- frames that port events emptied there
abbrev pub emptied_number : ℕ → List Step → ℕ
emptied_number p [] = 0
emptied_number p (x ∷ xs) = cond (event_at p x.call) (amount (as_emptied x.answer)) 0 + emptied_number p xs

-- what then stands there
abbrev pub standing_number : ℕ → List Step → ℕ
standing_number p steps = queued_number p steps - (sent_number p steps + emptied_number p steps)

abbrev pub standing_read : ℕ → ℕ → Step
standing_read p n = record { call = standing p; answer = counted n }

-- at every moment, queued is sent and emptied and standing; a standing read there answers that number, and no other
abbrev pub Conservation : Type 0
Conservation =
    (σ : Settings) (before : List Step) → Run σ before → (p : ℕ) → p < σ.ports
    → (sent_number p before + emptied_number p before ≤ queued_number p before)
    × Run σ (before ++ (standing_read p (standing_number p before) ∷ []))
    × ((n : ℕ) → Run σ (before ++ (standing_read p n ∷ [])) → n ≡ standing_number p before)

-- DRAINING: what stands can be sent.

-- sends at a port with enough of both memories
abbrev pub is_roomy_send : Settings → ℕ → Call → Bool
is_roomy_send σ p (send q memory output) = q == p && nat_le (memory_needed σ) memory && nat_le 1518 output
is_roomy_send σ p call = false

abbrev pub all_roomy_sends : Settings → ℕ → List Step → Bool
all_roomy_sends σ p [] = true
all_roomy_sends σ p (x ∷ xs) = is_roomy_send σ p x.call && all_roomy_sends σ p xs

abbrev pub is_sent : Option (Sent × List ℕ) → Bool
is_sent None = false
is_sent (Some x) = true

-- the first n hand a frame out, and every further one is told that no frame stands
abbrev pub Drained : ℕ → List Step → Type 0
Drained n [] = Unit {0}
Drained zero (x ∷ xs) = (x.answer ≡ refused NoFrameStands) × Drained zero xs
Drained (suc n) (x ∷ xs) = (is_sent (as_sent x.answer) ≡ true) × Drained n xs

abbrev pub Draining : Type 0
Draining =
    (σ : Settings) (before sends : List Step) → Run σ (before ++ sends) → (p : ℕ) → p < σ.ports
    → all_roomy_sends σ p sends ≡ true → Drained (standing_number p before) sends
