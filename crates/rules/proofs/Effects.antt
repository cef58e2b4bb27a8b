-- What one call does to the queues and to the ports' states, told by the call and its answer.
use Rattle.std.proofs.Common.{◌≡◌, ℕ, ◌<◌, Bool, true, false, cond, not, ◌&&◌, ◌||◌, eqb, ltb, leb, List, [], ◌∷◌, ◌++◌, length, get_or, set, Some, None, Ok, Err, Option, Result, refl, ap, ◌∙◌, subst, subst₂}
use Rattle.std.specs.Result.{is_ok}
use Rattle.std.proofs.lemmas.Bool.{and_parts, cond_both, not-true, false≢true}
use Rattle.std.proofs.lemmas.Option.{none-some}
use Rattle.fault.specs.declared.mark.Mark.{Mark}
use Rattle.fault.specs.declared.refusal.Refusal.{Refusal}
use Rattle.fault.specs.declared.refusal.Refusal.TheVariants.{FrameNotAdmitted, NotMember, NotStarted, PortOutOfRange, FrameMemoryTooSmall, PortNotLearning, PortNotForwarding, ReservedDestination, NoEgressPort, OutputMemoryTooSmall, NoFrameStands, TimeBeforeClock, TimeTooLarge, UnknownEvent, NoTransition}
use Rattle.frame.specs.Address.{reserved}
use Rattle.frame.specs.Reading.{Picture}
use Rattle.frame.specs.declared.parts.Tag.{Tag}
use Rattle.table.specs.Calls.{answered, flushed}
use Rattle.table.specs.declared.entry.Entry.{Entry}
use Rattle.rules.specs.declared.answers.Received.{Received}
use Rattle.rules.specs.declared.answers.Sent.{Sent}
use Rattle.rules.specs.declared.ports.PortEvent.{PortEvent}
use Rattle.rules.specs.declared.ports.PortEvent.TheVariants.{Enable, Disable, Choose, Drop, DelayOver}
use Rattle.rules.specs.Ports.{Ports, has, has_any}
use Rattle.rules.specs.declared.ports.PortSettings.{PortSettings}
use Rattle.rules.specs.declared.ports.PortState.{PortState}
use Rattle.rules.specs.declared.ports.PortState.TheVariants.{Disabled, Blocking, Listening, Learning, Forwarding}
use Rattle.rules.specs.declared.vlans.Vlan.{Vlan}
use Rattle.rules.specs.Calls.{Answer, Call, Outcome, advance, asking, choosing, emptied, emptied_queues, entering, event, event_of, find, finding, flood, flush, flushing, handing, happening, learning, moved, moving, next_state, outcome, perform, reading, receive, received, refusing, relay, send, sent, standing}
use Rattle.rules.specs.Egress.{lays_in, memory_needed, sendable, without_room}
use Rattle.rules.specs.Ingress.{admitted, classified_at, ingress, of_member, read_at}
use Rattle.rules.specs.Steps.{as_emptied, as_received, as_sent}
use Rattle.rules.specs.Relay.{decided, decides, forwards, learnable, learned, learns}
use Rattle.rules.specs.Runs.{Chooses, ChoosesAt, Goes, Step}
use Rattle.rules.specs.Settings.{Settings, is_member, port_settings, vlan_of}
use Rattle.rules.specs.State.{Queued, State, frame_stands, holds_frame, standing_at, standing_classes, state_at}
use Rattle.rules.proofs.IsoSettings.{found_again}
use Rattle.rules.proofs.Numbers.{flagged, sixteen_has}

-- an answer that tells of no frame queued, sent or emptied
pub record Plain (a : Answer) : Type 0 where
  pub received : as_received a ≡ None
  pub sent : as_sent a ≡ None
  pub emptied : as_emptied a ≡ None

-- the queues and the ports' states are as before
pub record Same (s t : State) : Type 0 where
  pub started : t.started ≡ s.started
  pub states : t.states ≡ s.states
  pub queues : (p c : ℕ) → t.queues p c ≡ s.queues p c

-- why a frame that arrived at port q goes to port p
pub record Due (s : State) (q : ℕ) (v : Vlan) (p : ℕ) : Type 0 where
  pub elsewhere : eqb p q ≡ false
  pub forwarding : forwards (state_at s p) ≡ true
  pub member : is_member v p ≡ true

-- an accepted receive lays its frame at each decided port with room
pub record Lays (σ : Settings) (s : State) (q : ℕ) (frame : List ℕ) (r : Received) (t : State) : Type 0 where
  pub started : t.started ≡ s.started
  pub states : t.states ≡ s.states
  pub picture : Picture
  pub read : read_at σ q frame ≡ Ok picture
  pub vlan : Vlan
  pub vid : vlan.vid ≡ r.classified.0
  pub created : vlan_of σ.vlans vlan.vid ≡ Some vlan
  pub due : (p : ℕ) → has r.decided p ≡ true → Due s q vlan p
  pub queues :
      (p c : ℕ) → t.queues p c ≡
      cond (lays_in σ r.decided r.no_room r.classified.1 p c)
      (s.queues p c ++ (sendable picture vlan r.classified.1 p ∷ [])) (s.queues p c)

-- an accepted send takes the oldest frame of a class
pub record Hands (s : State) (p : ℕ) (x : Sent) (bytes : List ℕ) (t : State) : Type 0 where
  pub started : t.started ≡ s.started
  pub states : t.states ≡ s.states
  pub class : x.class < 8
  pub first : Queued
  pub rest : List Queued
  pub stood : s.queues p x.class ≡ first ∷ rest
  pub vid : x.vid ≡ first.vid
  pub length' : x.length ≡ length bytes
  pub written : bytes ≡ first.bytes
  pub queues : (q c : ℕ) → t.queues q c ≡ cond (eqb q p && eqb c x.class) rest (s.queues q c)

abbrev pub leaving : ℕ → Bool
leaving n = cond (eqb n 2) true (eqb n 4)

-- an accepted event of a port that forwards empties its queues
pub record Empties (s : State) (p n k : ℕ) (t : State) : Type 0 where
  pub started : t.started ≡ s.started
  pub new : PortState
  pub states : t.states ≡ set s.states p new
  pub number : k ≡ standing_at s p
  pub leaves : leaving n ≡ true
  pub queues : (q c : ℕ) → t.queues q c ≡ cond (eqb q p) [] (s.queues q c)

-- and of any other leaves all queues
pub record Moves (s : State) (p k : ℕ) (t : State) : Type 0 where
  pub started : t.started ≡ s.started
  pub new : PortState
  pub states : t.states ≡ set s.states p new
  pub number : k ≡ 0
  pub was : forwards (state_at s p) ≡ false
  pub queues : (q c : ℕ) → t.queues q c ≡ s.queues q c

pub data Did (σ : Settings) (s : State) : Call → Answer → State → Type 0 where
  rested : {call : Call} {a : Answer} {t : State} → Plain a → Same s t → Did σ s call a t
  laying : {q : ℕ} {frame : List ℕ} {memory : ℕ} {r : Received} {t : State} → Lays σ s q frame r t → Did σ s (receive q frame memory) (received r) t
  handed : {p memory output : ℕ} {x : Sent} {bytes : List ℕ} {t : State} → Hands s p x bytes t → Did σ s (send p memory output) (sent x bytes) t
  cleared : {p n k : ℕ} {t : State} → Empties s p n k t → Did σ s (event p n) (emptied k) t
  shifted : {p n k : ℕ} {t : State} → Moves s p k t → Did σ s (event p n) (emptied k) t

abbrev Does : Settings → State → Call → Outcome → Type 0
Does σ s call o = Did σ s call o.answer o.after

same : (s : State) → Same s s
same s = record { started = refl; states = refl; queues = λ p c. refl }

refuses : {σ : Settings} {s t : State} {call : Call} → Same s t → (r : Refusal) → Does σ s call (refusing r t)
refuses e r = rested (record { received = refl; sent = refl; emptied = refl }) e

-- the same state but for its entries and its clock
same_but_entries : (s : State) (t : ℕ) (es : List Entry) → Same s (record s { clock = t; entries = es })
same_but_entries s t es = record { started = refl; states = refl; queues = λ p c. refl }

asks : {σ : Settings} {s : State} {call : Call} (yes' : Bool) (r : Refusal) (t : State) (then' : Outcome) → Same s t → Does σ s call then' → Does σ s call (asking yes' r t then')
asks {σ} {s} {call} yes' r t then' e d = cond_both yes' then' (refusing r t) (Does σ s call) (λ _. d) (λ _. refuses e r)

-- RECEIVE

learned_same : (s : State) (b : Bool) (es : List Entry) → Same s (cond b (record s { entries = es }) s)
learned_same s b es = cond_both b (record s { entries = es }) s (Same s) (λ _. same_but_entries s s.clock es) (λ _. same s)

due_of : (σ : Settings) (s t : State) → Same s t → (q : ℕ) (v : Vlan) (a : List ℕ) (p : ℕ) → decides σ t q v a p ≡ true → Due s q v p
due_of σ s t e q v a p d =
    let all = and_parts _ _ d in
    let member = and_parts _ _ all.0 in
    let forward = and_parts _ _ member.0 in
    let elsewhere = and_parts _ _ forward.0 in
    record {
      elsewhere = not-true _ elsewhere.1;
      forwarding = subst (λ l. forwards (get_or l p Disabled) ≡ true) e.states forward.1;
      member = member.1;
    }

module _ (σ : Settings) (s t : State) (e : Same s t) (q memory : ℕ) (frame : List ℕ) (picture : Picture) (read : read_at σ q frame ≡ Ok picture) (v : Vlan) (created : vlan_of σ.vlans v.vid ≡ Some v) (priority : ℕ) (mark : Mark) where
  flood_does : Does σ s (receive q frame memory) (flood σ t picture v priority mark (decided σ t q v picture.destination))
  flood_does =
      let reach : Ports = decided σ t q v picture.destination in
      let full : Ports = without_room σ t priority reach in
      cond_both (has_any reach) _ _ (Does σ s (receive q frame memory))
      (λ _. laying
      (record {
        started = e.started;
        states = e.states;
        picture = picture;
        read = read;
        vlan = v;
        vid = refl;
        created = created;
        due = λ p d. due_of σ s t e q v picture.destination p (sixteen_has (decides σ t q v picture.destination) p d);
        queues = λ p c. ap (λ l. cond (lays_in σ reach full priority p c) (l ++ (sendable picture v priority p ∷ [])) l) (e.queues p c);
      }))
      (λ _. refuses e (NoEgressPort mark))

  relay_does : Does σ s (receive q frame memory) (relay σ t q picture v priority mark)
  relay_does =
      asks (forwards (state_at t q)) (PortNotForwarding mark) t _ e
      (asks (not (reserved picture.destination)) (ReservedDestination mark) t _ e flood_does)

learning_does : (σ : Settings) (s : State) (q memory : ℕ) (frame : List ℕ) (picture : Picture) → read_at σ q frame ≡ Ok picture → (v : Vlan) → vlan_of σ.vlans v.vid ≡ Some v → (priority : ℕ) → Does σ s (receive q frame memory) (learning σ s q picture v priority)
learning_does σ s q memory frame picture read v created priority =
    asks (learns (state_at s q)) PortNotLearning s _ (same s)
    (relay_does σ s (learned σ s q v picture.source) (learned_same s (learnable σ v.vid q picture.source) _) q memory frame picture read v created priority _)

no_err : {A X E : Type 0} {x : X} {r : E} → ◌≡◌ {A = Result X E} (Err r) (Ok x) → A
no_err e = absurd (false≢true (ap is_ok e))

-- the VLAN that a frame enters by is created, and found under its own VID
member_vlan : (port : PortSettings) (p : ℕ) (o : Option Vlan) (v : Vlan) → of_member port p o ≡ Ok v → o ≡ Some v
member_vlan port p None v e = no_err e
member_vlan port p (Some w) v e = go (is_member w p || not port.ingress_filtering) e
  where
    go : (b : Bool) → cond b (Ok w) (Err NotMember) ≡ Ok v → Some w ≡ Some v
    go true f = let same' : w ≡ v = cc in ap Some same'
    go false f = no_err f

ingress_vlan : (σ : Settings) (p : ℕ) (tag : Option Tag) (v : Vlan) → ingress σ p tag ≡ Ok v → vlan_of σ.vlans v.vid ≡ Some v
ingress_vlan σ p tag v e = go (admitted (port_settings σ p) tag) e
  where
    go : (b : Bool) → cond b (of_member (port_settings σ p) p (vlan_of σ.vlans (classified_at σ p tag).0)) (Err FrameNotAdmitted) ≡ Ok v → vlan_of σ.vlans v.vid ≡ Some v
    go true f = found_again σ.vlans (classified_at σ p tag).0 v (member_vlan (port_settings σ p) p _ v f)
    go false f = no_err f

entering_does : (σ : Settings) (s : State) (q memory : ℕ) (frame : List ℕ) (picture : Picture) → read_at σ q frame ≡ Ok picture → (o : Result Vlan Refusal) → ingress σ q picture.tag ≡ o → Does σ s (receive q frame memory) (entering σ s q picture o)
entering_does σ s q memory frame picture read (Err r) e = refuses (same s) r
entering_does σ s q memory frame picture read (Ok v) e =
    learning_does σ s q memory frame picture read v (ingress_vlan σ q picture.tag v e) (classified_at σ q picture.tag).1

reading_does : (σ : Settings) (s : State) (q memory : ℕ) (frame : List ℕ) (o : Result Picture Refusal) → read_at σ q frame ≡ o → Does σ s (receive q frame memory) (reading σ s q o)
reading_does σ s q memory frame (Err r) e = refuses (same s) r
reading_does σ s q memory frame (Ok picture) e = entering_does σ s q memory frame picture e (ingress σ q picture.tag) refl

-- SEND

handing_does : (σ : Settings) (s : State) (p memory output c : ℕ) → c < 8 → (l : List Queued) → s.queues p c ≡ l → Does σ s (send p memory output) (handing s p c l)
handing_does σ s p memory output c h [] e = refuses (same s) NoFrameStands
handing_does σ s p memory output c h (x ∷ xs) e =
    handed
    (record {
      started = refl;
      states = refl;
      class = h;
      first = x;
      rest = xs;
      stood = e;
      vid = refl;
      length' = refl;
      written = refl;
      queues = λ q d. refl;
    })

choosing_does : (σ : Settings) (s : State) (p memory output : ℕ) (o : Option ℕ) → Chooses (standing_classes s p) o → Does σ s (send p memory output) (choosing s p o)
choosing_does σ s p memory output None h = refuses (same s) NoFrameStands
choosing_does σ s p memory output (Some c) h =
    handing_does σ s p memory output c (flagged (λ d. holds_frame (s.queues p d)) 8 c h).0 (s.queues p c) refl

-- PORT EVENTS

-- only a disable or a drop takes a port out of Forwarding
abbrev leaving_event : Option PortEvent → Bool
leaving_event None = false
leaving_event (Some Enable) = false
leaving_event (Some Disable) = true
leaving_event (Some Choose) = false
leaving_event (Some Drop) = true
leaving_event (Some DelayOver) = false

leaving_number : (n : ℕ) → leaving_event (event_of n) ≡ true → leaving n ≡ true
leaving_number n e = go (eqb n 1) (eqb n 2) (eqb n 3) (eqb n 4) (eqb n 5) e
  where
    go : (a b c d f : Bool) → leaving_event (cond a (Some Enable) (cond b (Some Disable) (cond c (Some Choose) (cond d (Some Drop) (cond f (Some DelayOver) None))))) ≡ true → cond b true d ≡ true
    go true b c d f e = absurd (false≢true e)
    go false true c d f e = refl
    go false false true d f e = absurd (false≢true e)
    go false false false true f e = refl
    go false false false false true e = absurd (false≢true e)
    go false false false false false e = absurd (false≢true e)

leaving_event_lem : (was new : PortState) (x : PortEvent) → forwards was ≡ true → next_state was x ≡ Some new → leaving_event (Some x) ≡ true
leaving_event_lem Disabled new x f e = absurd (false≢true f)
leaving_event_lem Blocking new x f e = absurd (false≢true f)
leaving_event_lem Listening new x f e = absurd (false≢true f)
leaving_event_lem Learning new x f e = absurd (false≢true f)
leaving_event_lem Forwarding new Enable f e = absurd (none-some new e)
leaving_event_lem Forwarding new Disable f e = refl
leaving_event_lem Forwarding new Choose f e = absurd (none-some new e)
leaving_event_lem Forwarding new Drop f e = refl
leaving_event_lem Forwarding new DelayOver f e = absurd (none-some new e)

moved_does : (σ : Settings) (s : State) (p n : ℕ) (new : PortState) → (forwards (state_at s p) ≡ true → leaving n ≡ true) → Does σ s (event p n) (moved s p new)
moved_does σ s p n new leaves = go (forwards (state_at s p)) refl
  where
    go : (b : Bool) → forwards (state_at s p) ≡ b
        → Does σ s (event p n)
        (cond b
        (outcome (emptied (standing_at s p)) (record s { states = set s.states p new; queues = emptied_queues s p }))
        (outcome (emptied 0) (record s { states = set s.states p new })))
    go true f = cleared (record { started = refl; new = new; states = refl; number = refl; leaves = leaves f; queues = λ q c. refl })
    go false f = shifted (record { started = refl; new = new; states = refl; number = refl; was = f; queues = λ q c. refl })

moving_does : (σ : Settings) (s : State) (p n : ℕ) (x : PortEvent) → event_of n ≡ Some x → (o : Option PortState) → next_state (state_at s p) x ≡ o → Does σ s (event p n) (moving s p o)
moving_does σ s p n x is None e = refuses (same s) NoTransition
moving_does σ s p n x is (Some new) e =
    moved_does σ s p n new (λ f. leaving_number n (ap leaving_event is ∙ leaving_event_lem (state_at s p) new x f e))

happening_does : (σ : Settings) (s : State) (p n : ℕ) (o : Option PortEvent) → event_of n ≡ o → Does σ s (event p n) (happening s p o)
happening_does σ s p n None e = refuses (same s) UnknownEvent
happening_does σ s p n (Some x) e = moving_does σ s p n x e (next_state (state_at s p) x) refl

-- EVERY CALL

flushing_does : (σ : Settings) (s : State) (f : ℕ) (o : Result ℕ Refusal) → Does σ s (flush f) (flushing s f o)
flushing_does σ s f (Ok n) = rested (record { received = refl; sent = refl; emptied = refl }) (same_but_entries s s.clock _)
flushing_does σ s f (Err r) = refuses (same s) r

finding_does : (σ : Settings) (s : State) (f : ℕ) (a : List ℕ) (o : Result (Option ℕ) Refusal) → Does σ s (find f a) (finding s o)
finding_does σ s f a (Ok o) = rested (record { received = refl; sent = refl; emptied = refl }) (same s)
finding_does σ s f a (Err r) = refuses (same s) r

does : (σ : Settings) (s : State) (call : Call) (choice : Option ℕ) → ChoosesAt s call choice → Does σ s call (perform σ s call choice)
does σ s (receive q frame memory) choice h =
    asks s.started NotStarted s _ (same s)
    (asks (ltb q σ.ports) PortOutOfRange s _ (same s)
    (asks (leb (memory_needed σ) memory) FrameMemoryTooSmall s _ (same s) (reading_does σ s q memory frame (read_at σ q frame) refl)))
does σ s (send p memory output) choice h =
    asks s.started NotStarted s _ (same s)
    (asks (ltb p σ.ports) PortOutOfRange s _ (same s)
    (asks (leb (memory_needed σ) memory) FrameMemoryTooSmall s _ (same s)
    (asks (leb 1518 output) OutputMemoryTooSmall s _ (same s)
    (asks (frame_stands s p) NoFrameStands s _ (same s) (choosing_does σ s p memory output choice h)))))
does σ s (advance t) choice h =
    asks s.started NotStarted s _ (same s)
    (asks (leb s.clock t) TimeBeforeClock s _ (same s)
    (asks (ltb t 1099511627776) TimeTooLarge s _ (same s)
    (rested (record { received = refl; sent = refl; emptied = refl }) (same_but_entries s t _))))
does σ s (event p n) choice h =
    asks s.started NotStarted s _ (same s)
    (asks (ltb p σ.ports) PortOutOfRange s _ (same s) (happening_does σ s p n (event_of n) refl))
does σ s (flush f) choice h = asks s.started NotStarted s _ (same s) (flushing_does σ s f (flushed s.entries f))
does σ s (find f a) choice h = asks s.started NotStarted s _ (same s) (finding_does σ s f a (answered s.entries f a))
does σ s (standing p) choice h =
    asks s.started NotStarted s _ (same s)
    (asks (ltb p σ.ports) PortOutOfRange s _ (same s)
    (rested (record { received = refl; sent = refl; emptied = refl }) (same s)))

pub did : {σ : Settings} {s t : State} {step : Step} → Goes σ s step t → Did σ s step.call step.answer t
did {σ} {s} {t} {step} g = subst₂ (Did σ s step.call) g.answers g.leaves (does σ s step.call g.choice g.chosen)
