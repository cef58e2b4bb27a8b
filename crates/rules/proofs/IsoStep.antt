-- A call that concerns a filtering database answers and leaves alike, as far as the database can tell,
-- in two bridges that are set up alike for it and whose states look alike to it.
use Rattle.std.proofs.Common.{◌≡◌, ℕ, ◌-◌, Bool, true, false, cond, not, ◌&&◌, ◌||◌, eqb, ltb, leb, List, map, Some, None, Ok, Err, Option, Result, sym, refl, ap, ◌∙◌, subst, subst₂}
use mathlib.Core.Path.{fun_ext}
use Rattle.std.proofs.lemmas.Bool.{true≢false, and_parts, eqb-true}
use Rattle.fault.specs.declared.mark.Mark.{Mark}
use Rattle.fault.specs.declared.mark.Mark.TheVariants.{Unlearned}
use Rattle.fault.specs.declared.refusal.Refusal.{Refusal}
use Rattle.fault.specs.declared.refusal.Refusal.TheVariants.{NotStarted, PortOutOfRange, FrameMemoryTooSmall, FrameNotAdmitted, NotMember, PortNotLearning, PortNotForwarding, ReservedDestination, NoEgressPort, TimeBeforeClock, TimeTooLarge, UnknownEvent, NoTransition}
use Rattle.frame.specs.Address.{group, reserved}
use Rattle.frame.specs.Reading.{Picture}
use Rattle.table.specs.declared.entry.Entry.{Entry}
use Rattle.table.specs.Calls.{after_learn, answered, flushed, mark_at, entry_port}
use Rattle.table.specs.Entries.{count_of, lookup}
use Rattle.rules.specs.declared.ports.PortEvent.{PortEvent}
use Rattle.rules.specs.Ports.{Ports, has_any, ports_where}
use Rattle.rules.specs.declared.ports.PortState.{PortState}
use Rattle.rules.specs.declared.vlans.StaticEntry.{StaticEntry}
use Rattle.rules.specs.declared.vlans.Verdict.{Verdict}
use Rattle.rules.specs.declared.vlans.Vlan.{Vlan}
use Rattle.rules.specs.Egress.{memory_needed}
use Rattle.rules.specs.Calls.{Call, Outcome, advance, advancing, ageing_time, asking, entering, event, event_of, eventing, find, finding, flood, flush, flushing, happening, learning, moving, next_state, perform, reading, receive, receiving, refusing, relay, send, standing}
use Rattle.rules.specs.Ingress.{admitted, classified_at, ingress, of_member, read_at}
use Rattle.rules.specs.Laws.{Alike, but_room, concerns, concerns_frame}
use Rattle.rules.specs.Relay.{decided, entry_lets, forwards, learnable, learns, let_through}
use Rattle.rules.specs.Settings.{Settings, is_filter, is_forward, is_member, is_of, is_silent, port_settings, vlan_of}
use Rattle.rules.specs.State.{Queued, State, state_at}
use Rattle.rules.proofs.IsoTable.{View, view_aged, view_flushed, view_found, view_learned, view_left, view_lookup, view_number}
use Rattle.rules.proofs.IsoSettings.{any_same, found_again, same_vlan, verdict_same}

-- states that look alike to a database: the queues do not count
pub record Same (f : ℕ) (s t : State) : Type 0 where
  pub started : s.started ≡ t.started
  pub clock : s.clock ≡ t.clock
  pub states : s.states ≡ t.states
  pub entries : View f s.entries t.entries

-- outcomes that look alike to it
pub record Agree (f : ℕ) (o n : Outcome) : Type 0 where
  pub answer : but_room o.answer ≡ but_room n.answer
  pub after : Same f o.after n.after

-- a bridge with other VLANs and static entries, and a state with other entries and queues
abbrev other : Settings → List Vlan → List StaticEntry → Settings
other σ vs es = record σ { vlans = vs; statics = es }

abbrev beside : State → List Entry → (ℕ → ℕ → List Queued) → (ℕ → ℕ → ℕ) → State
beside s m q n = record s { entries = m; queues = q; slots = n }

-- questions

refuse : (f : ℕ) (r : Refusal) (s t : State) → Same f s t → Agree f (refusing r s) (refusing r t)
refuse f r s t h = record { answer = refl; after = h }

ask : (f : ℕ) (b : Bool) (r : Refusal) (s t : State) (o n : Outcome) → Same f s t → Agree f o n → Agree f (asking b r s o) (asking b r t n)
ask f true r s t o n h k = k
ask f false r s t o n h k = refuse f r s t h

either : (f : ℕ) (b : Bool) (o n o' n' : Outcome) → Agree f o n → Agree f o' n' → Agree f (cond b o o') (cond b n n')
either f true o n o' n' h k = h
either f false o n o' n' h k = k

abbrev through : Bool → Verdict → Bool → Bool → Option Entry → ℕ → Bool
through g x yes' no' o p = cond g (not (is_filter x)) (cond yes' true (cond no' false (entry_lets (entry_port o) p)))

same_beside : (f : ℕ) (s : State) (m : List Entry) (k : ℕ → ℕ → List Queued) (n : ℕ → ℕ → ℕ) → View f s.entries m → Same f s (beside s m k n)
same_beside f s m k n h = record { started = refl; clock = refl; states = refl; entries = h }

-- calls and parts of calls that look at no VLAN, for a database f
module _ (σ : Settings) (vs : List Vlan) (es : List StaticEntry) (f : ℕ) (s : State) (m : List Entry) (k : ℕ → ℕ → List Queued) (n : ℕ → ℕ → ℕ) (h : View f s.entries m) where
  no_agrees : (r : Refusal) → Agree f (refusing r s) (refusing r (beside s m k n))
  no_agrees r = refuse f r s (beside s m k n) (same_beside f s m k n h)

  ask_agrees : (b : Bool) (r : Refusal) (o p : Outcome) → Agree f o p → Agree f (asking b r s o) (asking b r (beside s m k n) p)
  ask_agrees b r o p = ask f b r s (beside s m k n) o p (same_beside f s m k n h)

  advance_agrees : (t : ℕ) → Agree f (advancing σ s t) (advancing (other σ vs es) (beside s m k n) t)
  advance_agrees t =
      ask_agrees s.started NotStarted _ _
      (ask_agrees (leb s.clock t) TimeBeforeClock _ _
      (ask_agrees (ltb t 1099511627776) TimeTooLarge _ _
      (record {
        answer = refl;
        after = record { started = refl; clock = refl; states = refl; entries = view_aged f (t - ageing_time σ) (leb (ageing_time σ) t) s.entries m h };
      })))

  moving_agrees : (p : ℕ) (o : Option PortState) → Agree f (moving s p o) (moving (beside s m k n) p o)
  moving_agrees p None = no_agrees NoTransition
  moving_agrees p (Some new) =
      either f (forwards (state_at s p)) _ _ _ _
      (record { answer = refl; after = record { started = refl; clock = refl; states = refl; entries = h } })
      (record { answer = refl; after = record { started = refl; clock = refl; states = refl; entries = h } })

  happening_agrees : (p : ℕ) (o : Option PortEvent) → Agree f (happening s p o) (happening (beside s m k n) p o)
  happening_agrees p None = no_agrees UnknownEvent
  happening_agrees p (Some e) = moving_agrees p (next_state (state_at s p) e)

  event_agrees : (p e : ℕ) → Agree f (eventing σ s p e) (eventing (other σ vs es) (beside s m k n) p e)
  event_agrees p e =
      ask_agrees s.started NotStarted _ _
      (ask_agrees (ltb p σ.ports) PortOutOfRange _ _ (happening_agrees p (event_of e)))

  flushing_agrees : (x : Result ℕ Refusal) → Agree f (flushing s f x) (flushing (beside s m k n) f x)
  flushing_agrees (Ok c) =
      record { answer = refl; after = record { started = refl; clock = refl; states = refl; entries = view_left f s.entries m h } }
  flushing_agrees (Err r) = no_agrees r

  flush_agrees : (c d : Option ℕ) → Agree f (perform σ s (flush f) c) (perform (other σ vs es) (beside s m k n) (flush f) d)
  flush_agrees c d =
      ask_agrees s.started NotStarted _ _
      (subst (λ x. Agree f (flushing s f (flushed s.entries f)) (flushing (beside s m k n) f x)) (view_flushed f s.entries m h) (flushing_agrees (flushed s.entries f)))

  finding_agrees : (x : Result (Option ℕ) Refusal) → Agree f (finding s x) (finding (beside s m k n) x)
  finding_agrees (Ok o) = record { answer = refl; after = same_beside f s m k n h }
  finding_agrees (Err r) = no_agrees r

  find_agrees : (a : List ℕ) (c d : Option ℕ) → Agree f (perform σ s (find f a) c) (perform (other σ vs es) (beside s m k n) (find f a) d)
  find_agrees a c d =
      ask_agrees s.started NotStarted _ _
      (subst (λ x. Agree f (finding s (answered s.entries f a)) (finding (beside s m k n) x)) (view_found f a s.entries m h) (finding_agrees (answered s.entries f a)))

  flood_agrees : (frame : Picture) (v : Vlan) (priority : ℕ) (mark : Mark) (set : Ports) → Agree f (flood σ s frame v priority mark set) (flood (other σ vs es) (beside s m k n) frame v priority mark set)
  flood_agrees frame v priority mark set =
      either f (has_any set) _ _ _ _
      (record { answer = refl; after = record { started = refl; clock = refl; states = refl; entries = h } })
      (no_agrees (NoEgressPort mark))

-- a frame in a VLAN v of the database
module _ (σ : Settings) (vs : List Vlan) (es : List StaticEntry) (v : Vlan) (alike : Alike v.fid σ (other σ vs es)) (here : is_of v.fid (vlan_of σ.vlans v.vid) ≡ true) (k : ℕ → ℕ → List Queued) (n : ℕ → ℕ → ℕ) (q : ℕ) (frame : Picture) (priority : ℕ) where
  decided_same : (s : State) (m : List Entry) → View v.fid s.entries m → decided σ s q v frame.destination ≡ decided (other σ vs es) (beside s m k n) q v frame.destination
  decided_same s m h =
      let a = frame.destination in
      let lets : (p : ℕ) → let_through σ s v a p ≡ let_through (other σ vs es) (beside s m k n) v a p =
      λ p i. through (group a) (verdict_same alike v.vid a p here i) (any_same is_forward alike a p refl i) (any_same is_filter alike a p refl i) (view_lookup v.fid a s.entries m h i) p in
      ap ports_where (fun_ext (λ p. ap (λ b. ltb p σ.ports && not (eqb p q) && forwards (state_at s p) && is_member v p && b) (lets p)))

  relay_agrees : (s : State) (m : List Entry) (mark : Mark) → View v.fid s.entries m → Agree v.fid (relay σ s q frame v priority mark) (relay (other σ vs es) (beside s m k n) q frame v priority mark)
  relay_agrees s m mark h =
      let set = decided σ s q v frame.destination in
      ask_agrees σ vs es v.fid s m k n h (forwards (state_at s q)) (PortNotForwarding mark) _ _
      (ask_agrees σ vs es v.fid s m k n h (not (reserved frame.destination)) (ReservedDestination mark) _ _
      (subst (λ x. Agree v.fid (flood σ s frame v priority mark set) (flood (other σ vs es) (beside s m k n) frame v priority mark x)) (decided_same s m h) (flood_agrees σ vs es v.fid s m k n h frame v priority mark set)))

  learning_agrees : (s : State) (m : List Entry) → View v.fid s.entries m → Agree v.fid (learning σ s q frame v priority) (learning (other σ vs es) (beside s m k n) q frame v priority)
  learning_agrees s m h =
      ask_agrees σ vs es v.fid s m k n h (learns (state_at s q)) PortNotLearning _ _
      (subst (λ b. Agree v.fid (left (learnable σ v.vid q frame.source)) (right b)) (ap (λ x. not (group frame.source) && is_silent x) (verdict_same alike v.vid frame.source q here)) (both (learnable σ v.vid q frame.source)))
    where
      after : List Entry → List Entry
      after l = after_learn σ.share l v.fid frame.source q s.clock

      mark : List Entry → Mark
      mark l = mark_at σ.share (count_of v.fid l) q (lookup l v.fid frame.source)

      left : Bool → Outcome
      left b = relay σ (cond b (record s { entries = after s.entries }) s) q frame v priority (cond b (mark s.entries) Unlearned)

      right : Bool → Outcome
      right b = relay (other σ vs es) (cond b (record (beside s m k n) { entries = after m }) (beside s m k n)) q frame v priority (cond b (mark m) Unlearned)

      marks : mark s.entries ≡ mark m
      marks = λ i. mark_at σ.share (view_number v.fid s.entries m h i) q (view_lookup v.fid frame.source s.entries m h i)

      both : (b : Bool) → Agree v.fid (left b) (right b)
      both true =
          subst (λ x. Agree v.fid (left true) (relay (other σ vs es) (beside (record s { entries = after s.entries }) (after m) k n) q frame v priority x)) marks
          (relay_agrees (record s { entries = after s.entries }) (after m) (mark s.entries) (view_learned v.fid σ.share frame.source q s.clock s.entries m h))
      both false = relay_agrees s m Unlearned h

-- receive, and every call
module _ (σ : Settings) (vs : List Vlan) (es : List StaticEntry) (f : ℕ) (s : State) (m : List Entry) (k : ℕ → ℕ → List Queued) (n : ℕ → ℕ → ℕ) (h : View f s.entries m) (alike : Alike f σ (other σ vs es)) where
  entering_agrees : (q : ℕ) (frame : Picture) (vid : ℕ) (o : Option Vlan) → vlan_of σ.vlans vid ≡ o → is_of f o ≡ true → (b : Bool) → Agree f (entering σ s q frame (cond b (of_member (port_settings σ q) q o) (Err FrameNotAdmitted))) (entering (other σ vs es) (beside s m k n) q frame (cond b (of_member (port_settings σ q) q o) (Err FrameNotAdmitted)))
  entering_agrees q frame vid None e i b = absurd (true≢false (sym i))
  entering_agrees q frame vid (Some v) e i false = no_agrees σ vs es f s m k n h FrameNotAdmitted
  entering_agrees q frame vid (Some v) e i true = member (is_member v q || not (port_settings σ q).ingress_filtering)
    where
      priority : ℕ
      priority = (classified_at σ q frame.tag).1

      own : Agree f (learning σ s q frame v priority) (learning (other σ vs es) (beside s m k n) q frame v priority)
      own =
          subst (λ g. Alike g σ (other σ vs es) → is_of g (vlan_of σ.vlans v.vid) ≡ true → View g s.entries m → Agree g (learning σ s q frame v priority) (learning (other σ vs es) (beside s m k n) q frame v priority)) (eqb-true v.fid f i)
          (λ a here w. learning_agrees σ vs es v a here k n q frame priority s m w) alike (ap (is_of f) (found_again σ.vlans vid v e) ∙ i) h

      member : (b : Bool) → Agree f (entering σ s q frame (cond b (Ok v) (Err NotMember))) (entering (other σ vs es) (beside s m k n) q frame (cond b (Ok v) (Err NotMember)))
      member true = own
      member false = no_agrees σ vs es f s m k n h NotMember

  reading_agrees : (q : ℕ) (x : Result Picture Refusal) → concerns_frame σ f q x ≡ true → Agree f (reading σ s q x) (reading (other σ vs es) (beside s m k n) q x)
  reading_agrees q (Err r) i = absurd (true≢false (sym i))
  reading_agrees q (Ok frame) i =
      let vid = (classified_at σ q frame.tag).0 in
      let b = admitted (port_settings σ q) frame.tag in
      subst (λ o. Agree f (entering σ s q frame (ingress σ q frame.tag)) (entering (other σ vs es) (beside s m k n) q frame (cond b (of_member (port_settings σ q) q o) (Err FrameNotAdmitted)))) (same_vlan f (vlan_of σ.vlans vid) (vlan_of vs vid) (alike.vlans vid) i) (entering_agrees q frame vid (vlan_of σ.vlans vid) refl i b)

  receive_agrees : (q : ℕ) (frame : List ℕ) (memory : ℕ) → concerns_frame σ f q (read_at σ q frame) ≡ true → Agree f (receiving σ s q frame memory) (receiving (other σ vs es) (beside s m k n) q frame memory)
  receive_agrees q frame memory i =
      ask_agrees σ vs es f s m k n h s.started NotStarted _ _
      (ask_agrees σ vs es f s m k n h (ltb q σ.ports) PortOutOfRange _ _
      (ask_agrees σ vs es f s m k n h (leb (memory_needed σ) memory) FrameMemoryTooSmall _ _ (reading_agrees q (read_at σ q frame) i)))

  call_agrees : (call : Call) → concerns σ f call ≡ true → (c d : Option ℕ) → Agree f (perform σ s call c) (perform (other σ vs es) (beside s m k n) call d)
  call_agrees (receive q frame memory) i c d = receive_agrees q frame memory (and_parts (ltb q σ.ports) (concerns_frame σ f q (read_at σ q frame)) i).1
  call_agrees (send p memory output) i c d = absurd (true≢false (sym i))
  call_agrees (advance t) i c d = advance_agrees σ vs es f s m k n h t
  call_agrees (event p e) i c d = event_agrees σ vs es f s m k n h p e
  call_agrees (flush g) i c d = subst (λ x. Agree f (perform σ s (flush x) c) (perform (other σ vs es) (beside s m k n) (flush x) d)) (sym (eqb-true g f i)) (flush_agrees σ vs es f s m k n h c d)
  call_agrees (find g a) i c d = subst (λ x. Agree f (perform σ s (find x a) c) (perform (other σ vs es) (beside s m k n) (find x a) d)) (sym (eqb-true g f i)) (find_agrees σ vs es f s m k n h a c d)
  call_agrees (standing p) i c d = absurd (true≢false (sym i))

-- two bridges and states that are alike in what counts differ in no more than that
alike_other : {f : ℕ} {σ τ : Settings} → Alike f σ τ → Alike f σ (other σ τ.vlans τ.statics)
alike_other a =
    record { ports = refl; classes = refl; depth = refl; share = refl; ageing = refl; port = refl; vlans = a.vlans; statics = a.statics }

is_other : {f : ℕ} {σ τ : Settings} → Alike f σ τ → other σ τ.vlans τ.statics ≡ τ
is_other {τ = τ} a = λ i.
    record {
      ports = a.ports i;
      classes = a.classes i;
      depth = a.depth i;
      share = a.share i;
      ageing = a.ageing i;
      port = a.port i;
      vlans = τ.vlans;
      statics = τ.statics;
    }

is_beside : {f : ℕ} {s t : State} → Same f s t → beside s t.entries t.queues t.slots ≡ t
is_beside {t = t} h = λ i.
    record { started = h.started i; clock = h.clock i; states = h.states i; entries = t.entries; queues = t.queues; slots = t.slots }

pub step_agrees : {f : ℕ} {σ τ : Settings} {s t : State} → Alike f σ τ → Same f s t → (call : Call) → concerns σ f call ≡ true → (c d : Option ℕ) → Agree f (perform σ s call c) (perform τ t call d)
step_agrees {f} {σ} {τ} {s} {t} alike h call i c d =
    subst₂ (λ x y. Agree f (perform σ s call c) (perform x y call d)) (is_other alike) (is_beside h)
    (call_agrees σ τ.vlans τ.statics f s t.entries t.queues t.slots h.entries (alike_other alike) call i c d)
