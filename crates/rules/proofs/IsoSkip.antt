-- A call that does not concern a filtering database leaves a state that looks to it as before.
use Rattle.std.proofs.Common.{◌≡◌, ℕ, Bool, true, false, cond, not, ◌&&◌, ◌||◌, ltb, leb, List, [], ◌∷◌, Some, None, Ok, Err, Option, Result, sym, refl, ap, ◌∙◌}
use Rattle.std.proofs.lemmas.Bool.{cond_both, true≢false, eqb-false}
use Rattle.fault.specs.declared.mark.Mark.{Mark}
use Rattle.fault.specs.declared.refusal.Refusal.{Refusal}
use Rattle.fault.specs.declared.refusal.Refusal.TheVariants.{NotStarted, PortOutOfRange, FrameMemoryTooSmall, FrameNotAdmitted, NotMember, PortNotLearning, PortNotForwarding, ReservedDestination, OutputMemoryTooSmall, NoFrameStands}
use Rattle.frame.specs.Address.{reserved}
use Rattle.frame.specs.Reading.{Picture}
use Rattle.table.specs.Calls.{answered, flushed}
use Rattle.table.specs.Rising.{rises}
use Rattle.rules.specs.Ports.{Ports, has_any}
use Rattle.rules.specs.declared.vlans.Vlan.{Vlan}
use Rattle.rules.specs.Egress.{memory_needed}
use Rattle.rules.specs.Calls.{Call, Outcome, advance, asking, choosing, counted, entering, event, find, finding, flood, flush, flushing, handing, learning, outcome, perform, picking, reading, receive, receiving, refusing, relay, send, sending, standing}
use Rattle.rules.specs.Ingress.{admitted, classified_at, of_member, read_at}
use Rattle.rules.specs.Laws.{concerns, concerns_frame}
use Rattle.rules.specs.Relay.{decided, forwards, learnable, learned, learns, mark_of}
use Rattle.rules.specs.Settings.{Settings, is_member, is_of, port_settings, vlan_of}
use Rattle.rules.specs.State.{Queued, State, frame_stands, standing_at, state_at}
use Rattle.rules.proofs.IsoTable.{view_other_flushed, view_other_learned, view_same}
use Rattle.rules.proofs.IsoStep.{Same}

pub same_self : (f : ℕ) (s : State) → rises s.entries ≡ true → Same f s s
same_self f s r = record { started = refl; clock = refl; states = refl; entries = view_same f s.entries r }

-- a question, where s is the state that it leaves on a no, and t the state before the call
ask : (f : ℕ) (b : Bool) (r : Refusal) (s t : State) (o : Outcome) → Same f s t → (b ≡ true → Same f o.after t) → Same f (asking b r s o).after t
ask f b r s t o h k = cond_both b o (refusing r s) (λ x. Same f x.after t) k (λ _. h)

second : (x y : Bool) → x ≡ true → (x && y) ≡ false → y ≡ false
second x y h k = ap (λ b. b && y) (sym h) ∙ k

-- receive, from its end to its beginning

skip_flood : (f : ℕ) (σ : Settings) (s t : State) (frame : Picture) (v : Vlan) (priority : ℕ) (mark : Mark) (set : Ports) → Same f s t → Same f (flood σ s frame v priority mark set).after t
skip_flood f σ s t frame v priority mark set h =
    cond_both (has_any set) _ _ (λ (x : Outcome). Same f x.after t)
    (λ _. record { started = h.started; clock = h.clock; states = h.states; entries = h.entries }) (λ _. h)

skip_relay : (f : ℕ) (σ : Settings) (s t : State) (q : ℕ) (frame : Picture) (v : Vlan) (priority : ℕ) (mark : Mark) → Same f s t → Same f (relay σ s q frame v priority mark).after t
skip_relay f σ s t q frame v priority mark h =
    ask f (forwards (state_at s q)) (PortNotForwarding mark) s t _ h (λ _.
    ask f (not (reserved frame.destination)) (ReservedDestination mark) s t _ h (λ _.
    skip_flood f σ s t frame v priority mark (decided σ s q v frame.destination) h))

skip_learned : (f : ℕ) (σ : Settings) (s : State) (q : ℕ) (v : Vlan) (a : List ℕ) → (v.fid ≡ f → ⊥) → rises s.entries ≡ true → Same f (learned σ s q v a) s
skip_learned f σ s q v a n r =
    cond_both (learnable σ v.vid q a) _ _ (λ x. Same f x s)
    (λ _. record { started = refl; clock = refl; states = refl; entries = view_other_learned f σ.share v.fid a q s.clock s.entries n r })
    (λ _. same_self f s r)

skip_learning : (f : ℕ) (σ : Settings) (s : State) (q : ℕ) (frame : Picture) (v : Vlan) (priority : ℕ) → (v.fid ≡ f → ⊥) → rises s.entries ≡ true → Same f (learning σ s q frame v priority).after s
skip_learning f σ s q frame v priority n r =
    ask f (learns (state_at s q)) PortNotLearning s s _ (same_self f s r) (λ _.
    skip_relay f σ (learned σ s q v frame.source) s q frame v priority (mark_of σ s q v frame.source) (skip_learned f σ s q v frame.source n r))

skip_entering : (f : ℕ) (σ : Settings) (s : State) (q : ℕ) (frame : Picture) (o : Option Vlan) → is_of f o ≡ false → rises s.entries ≡ true → (b : Bool) → Same f (entering σ s q frame (cond b (of_member (port_settings σ q) q o) (Err FrameNotAdmitted))).after s
skip_entering f σ s q frame None i r true = same_self f s r
skip_entering f σ s q frame None i r false = same_self f s r
skip_entering f σ s q frame (Some v) i r true = go (is_member v q || not (port_settings σ q).ingress_filtering)
  where
    go : (b : Bool) → Same f (entering σ s q frame (cond b (Ok v) (Err NotMember))).after s
    go true = skip_learning f σ s q frame v (classified_at σ q frame.tag).1 (eqb-false v.fid f i) r
    go false = same_self f s r
skip_entering f σ s q frame (Some v) i r false = same_self f s r

skip_reading : (f : ℕ) (σ : Settings) (s : State) (q : ℕ) (x : Result Picture Refusal) → concerns_frame σ f q x ≡ false → rises s.entries ≡ true → Same f (reading σ s q x).after s
skip_reading f σ s q (Err e) i r = same_self f s r
skip_reading f σ s q (Ok frame) i r =
    skip_entering f σ s q frame (vlan_of σ.vlans (classified_at σ q frame.tag).0) i r (admitted (port_settings σ q) frame.tag)

skip_receive : (f : ℕ) (σ : Settings) (s : State) (q : ℕ) (frame : List ℕ) (memory : ℕ) → (ltb q σ.ports && concerns_frame σ f q (read_at σ q frame)) ≡ false → rises s.entries ≡ true → Same f (receiving σ s q frame memory).after s
skip_receive f σ s q frame memory i r =
    let h = same_self f s r in
    ask f s.started NotStarted s s _ h (λ _.
    ask f (ltb q σ.ports) PortOutOfRange s s _ h (λ p.
    ask f (leb (memory_needed σ) memory) FrameMemoryTooSmall s s _ h (λ _.
    skip_reading f σ s q (read_at σ q frame) (second (ltb q σ.ports) (concerns_frame σ f q (read_at σ q frame)) p i) r)))

-- send, flush, find and standing read

skip_handing : (f : ℕ) (s : State) (p c : ℕ) (xs : List Queued) → rises s.entries ≡ true → Same f (handing s p c xs).after s
skip_handing f s p c [] r = same_self f s r
skip_handing f s p c (x ∷ xs) r = record { started = refl; clock = refl; states = refl; entries = view_same f s.entries r }

skip_choosing : (f : ℕ) (s : State) (p : ℕ) (o : Option ℕ) → rises s.entries ≡ true → Same f (choosing s p o).after s
skip_choosing f s p None r = same_self f s r
skip_choosing f s p (Some c) r = skip_handing f s p c (s.queues p c) r

skip_send : (f : ℕ) (σ : Settings) (s : State) (p memory output : ℕ) (o : Option ℕ) → rises s.entries ≡ true → Same f (sending σ s p memory output o).after s
skip_send f σ s p memory output o r =
    let h = same_self f s r in
    ask f s.started NotStarted s s _ h (λ _.
    ask f (ltb p σ.ports) PortOutOfRange s s _ h (λ _.
    ask f (leb (memory_needed σ) memory) FrameMemoryTooSmall s s _ h (λ _.
    ask f (leb 1518 output) OutputMemoryTooSmall s s _ h (λ _.
    ask f (frame_stands s p) NoFrameStands s s _ h (λ _. skip_choosing f s p o r)))))

skip_flushing : (f : ℕ) (s : State) (g : ℕ) (x : Result ℕ Refusal) → (g ≡ f → ⊥) → rises s.entries ≡ true → Same f (flushing s g x).after s
skip_flushing f s g (Ok k) n r =
    record { started = refl; clock = refl; states = refl; entries = view_other_flushed f g s.entries n r }
skip_flushing f s g (Err e) n r = same_self f s r

skip_finding : (f : ℕ) (s : State) (x : Result (Option ℕ) Refusal) → rises s.entries ≡ true → Same f (finding s x).after s
skip_finding f s (Ok o) r = same_self f s r
skip_finding f s (Err e) r = same_self f s r

-- every call
pub skip : (f : ℕ) (σ : Settings) (s : State) (call : Call) (c : Option ℕ) → concerns σ f call ≡ false → rises s.entries ≡ true → Same f (perform σ s call c).after s
skip f σ s (receive q frame memory) c i r = skip_receive f σ s q frame memory i r
skip f σ s (send p memory output) c i r = skip_send f σ s p memory output c r
skip f σ s (advance t) c i r = absurd (true≢false i)
skip f σ s (event p e) c i r = absurd (true≢false i)
skip f σ s (flush g) c i r = ask f s.started NotStarted s s _ (same_self f s r) (λ _. skip_flushing f s g (flushed s.entries g) (eqb-false g f i) r)
skip f σ s (find g a) c i r = ask f s.started NotStarted s s _ (same_self f s r) (λ _. skip_finding f s (answered s.entries g a) r)
skip f σ s (standing p) c i r =
    let h = same_self f s r in
    ask f s.started NotStarted s s _ h (λ _. ask f (ltb p σ.ports) PortOutOfRange s s (outcome (counted (standing_at s p)) s) h (λ _. h))
