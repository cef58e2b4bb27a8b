-- Receiving.
use Rattle.std.proofs.Common.{◌≡◌, ℕ, ◌+◌, ◌≤◌, Bool, true, false, cond, not, ◌||◌, ◌==◌, nat_le, nat_lt, List, [], ◌∷◌, length, map, get_or, Some, None, Ok, Err, Option, Result, sym, refl, ap, ◌∙◌, arith}
use Rattle.std.proofs.Math.ListN.{get_or-map}
use Rattle.std.proofs.lemmas.Bool.{eqb-true, le-leb}
use Rattle.std.proofs.lemmas.Bool.Decides.{nat_tests}
use Rattle.std.proofs.lemmas.Option.{none-some}
use Rattle.fault.specs.Asked.{unless}
use Rattle.fault.specs.declared.refusal.Refusal.{Refusal}
use Rattle.fault.specs.declared.refusal.Refusal.TheVariants.{FrameNotAdmitted, NotMember}
use Rattle.frame.specs.Reading.{Picture, frame_asked, parse, parts_of}
use Rattle.frame.specs.Writing.{shape_asked, size_of, tag_fits}
use Rattle.frame.specs.declared.parts.Tag.{Tag}
use Rattle.rules.specs.Calls.{laid_in, learning, perform, receive, received_in}
use Rattle.rules.specs.Egress.{egress_tag, memory_needed}
use Rattle.rules.specs.Ingress.{admitted, classified, classified_at, ingress, of_member}
use Rattle.rules.specs.Ports.{has}
use Rattle.rules.specs.Settings.{Settings, fresh_port, is_member, port_settings, vlan_of}
use Rattle.rules.specs.State.{State}
use Rattle.rules.specs.declared.answers.Received.{Received}
use Rattle.rules.specs.declared.ports.PortSettings.{PortSettings}
use Rattle.rules.specs.declared.vlans.Vlan.{Vlan}
use Rattle.bridge.specs.Flooding.{Writable}
use Rattle.bridge.specs.Kept.{Priorities, fresh}
use Rattle.bridge.specs.LaidBy.{PlacedIn, laid_by}
use Rattle.bridge.specs.Told.{told_received}
use Rattle.bridge.specs.declared.port_state.Port.{Port}

-- the questions up to the frame's VLAN
pub receives : (σ : Settings) (s : State) (q : ℕ) (frame : List ℕ) (memory : ℕ) (p : Picture) (v : Vlan) → s.started ≡ true → nat_lt q σ.ports ≡ true → nat_le (memory_needed σ) memory ≡ true
    → parse frame ≡ Ok p → ingress σ q p.tag ≡ Ok v → learning σ s q p v (classified_at σ q p.tag).1 ≡ perform σ s (receive q frame memory) None
receives σ s q frame memory p v a b c d e = sym (rw (a, b, c, d, e) refl)

-- the VLAN that was found is the one that its own VID finds
some_is : {X : Type 0} (x v : X) → ◌≡◌ {A = Option X} (Some x) (Some v) → x ≡ v
some_is x v e = cc

vlan_vid : (vs : List Vlan) (vid : ℕ) (v : Vlan) → vlan_of vs vid ≡ Some v → v.vid ≡ vid
vlan_vid [] vid v e = absurd (none-some v e)
vlan_vid (x ∷ xs) vid v e = go (x.vid == vid) refl e (vlan_vid xs vid v)
  where
    go : (t : Bool) → (x.vid == vid) ≡ t → cond t (Some x) (vlan_of xs vid) ≡ Some v → (vlan_of xs vid ≡ Some v → v.vid ≡ vid) → v.vid ≡ vid
    go true h w later = ap (λ (y : Vlan). y.vid) (sym (some_is x v w)) ∙ eqb-true x.vid vid h
    go false h w later = later w

member_of : (port : PortSettings) (q : ℕ) (o : Option Vlan) (v : Vlan) → of_member port q o ≡ Ok v → o ≡ Some v
member_of port q None v e = cc
member_of port q (Some x) v e = go (is_member x q || not port.ingress_filtering) e
  where
    go : (t : Bool) → ◌≡◌ {A = Result Vlan Refusal} (cond t (Ok x) (Err NotMember)) (Ok v) → Some x ≡ Some v
    go true h = cc
    go false h = cc

ingress_of : (σ : Settings) (q : ℕ) (tag : Option Tag) (v : Vlan) → ingress σ q tag ≡ Ok v → vlan_of σ.vlans (classified_at σ q tag).0 ≡ Some v
ingress_of σ q tag v e = member_of (port_settings σ q) q (vlan_of σ.vlans (classified_at σ q tag).0) v (go (admitted (port_settings σ q) tag) e)
  where
    go : (t : Bool) → ◌≡◌ {A = Result Vlan Refusal} (cond t (of_member (port_settings σ q) q (vlan_of σ.vlans (classified_at σ q tag).0)) (Err FrameNotAdmitted)) (Ok v) → of_member (port_settings σ q) q (vlan_of σ.vlans (classified_at σ q tag).0) ≡ Ok v
    go true h = h
    go false h = cc

-- the frame memory
pub received_memory : (σ : Settings) (s : State) (q : ℕ) (frame : List ℕ) (p : Picture) (v : Vlan) (r : Result Received Refusal) (m : List ℕ) → parse frame ≡ Ok p → ingress σ q p.tag ≡ Ok v → PlacedIn v r
    → laid_by σ s p v r m ≡ received_in σ s q frame (told_received r) m
unfolding laid_by
received_memory σ s q frame p v (Err e) m a b c = refl
received_memory σ s q frame p v (Ok r) m a b c =
    let found : vlan_of σ.vlans (classified_at σ q p.tag).0 ≡ Some v = ingress_of σ q p.tag v b in
    sym (ap (λ (x : Result Picture Refusal). laid_in σ s r x (vlan_of σ.vlans r.classified.0) m) a
    ∙ ap (λ (o : Option Vlan). laid_in σ s r (Ok p) o m) (ap (vlan_of σ.vlans) (c ∙ vlan_vid σ.vlans (classified_at σ q p.tag).0 v found) ∙ found))

-- priorities are at most 7
tag_priority : (d s b : List ℕ) (t : Tag) → shape_asked (record { destination = d; source = s; tag = Some t; body = b }) ≡ None → t.priority ≤ 7
tag_priority d s b t e = grind (arith, nat_tests)

pub priority_low : (d s b : List ℕ) (t : Option Tag) (ports : List Port) (q : ℕ) → shape_asked (record { destination = d; source = s; tag = t; body = b }) ≡ None → Priorities ports
    → (classified (get_or (map (λ (x : Port). x.settings) ports) q fresh_port) t).1 ≤ 7
priority_low d s b None ports q e kept = rw (get_or-map (λ (x : Port). x.settings) ports q fresh) (kept q)
priority_low d s b (Some t) ports q e kept = tag_priority d s b t e

-- a frame that was read can be written in its form at any port
asked_none : (o : Option Refusal) (x p : Picture) → ◌≡◌ {A = Result Picture Refusal} (unless o x) (Ok p) → o ≡ None
asked_none None x p h = refl
asked_none (Some r) x p h = cc

long_enough : (f : List ℕ) (p : Picture) → parse f ≡ Ok p → 60 ≤ length f
long_enough f p e = let a = asked_none (frame_asked f) (parts_of f) p e in grind (arith, nat_tests)

fits_as : (d s b : List ℕ) (t u : Option Tag) → shape_asked (record { destination = d; source = s; tag = t; body = b }) ≡ None → 60 ≤ size_of (record { destination = d; source = s; tag = t; body = b }) → tag_fits u ≡ true
    → shape_asked (record { destination = d; source = s; tag = u; body = b }) ≡ None
fits_as d s b None None e l h = e
fits_as d s b None (Some u) e l h = let n : 12 + length b ≤ 1514 = grind (arith, nat_tests) in rw (h, le-leb 56 (16 + length b) (omega arith), le-leb (16 + length b) 1518 (omega arith)) refl
fits_as d s b (Some t) None e l h = let n : 16 + length b ≤ 1518 = grind (arith, nat_tests) in rw (le-leb 56 (12 + length b) (omega arith), le-leb (12 + length b) 1514 (omega arith)) refl
fits_as d s b (Some t) (Some u) e l h = let n : 16 + length b ≤ 1518 = grind (arith, nat_tests) in rw (h, le-leb 56 (16 + length b) (omega arith), le-leb (16 + length b) 1518 (omega arith)) refl

egress_fits : (v : Vlan) (priority p : ℕ) → priority ≤ 7 → v.vid ≤ 4094 → tag_fits (egress_tag v priority p) ≡ true
egress_fits v priority p low high = go (has v.untagged p)
  where
    go : (u : Bool) → tag_fits (cond {A = Option Tag} u None (Some (record { priority = priority; vid = v.vid }))) ≡ true
    go true = refl
    go false = rw (le-leb priority 7 low, le-leb v.vid 4094 high) refl

pub writable : (f : List ℕ) (d s b : List ℕ) (t : Option Tag) (v : Vlan) (priority : ℕ) → parse f ≡ Ok (record { destination = d; source = s; tag = t; body = b }) → size_of (record { destination = d; source = s; tag = t; body = b }) ≡ length f
    → shape_asked (record { destination = d; source = s; tag = t; body = b }) ≡ None → priority ≤ 7 → v.vid ≤ 4094 → Writable (record { destination = d; source = s; tag = t; body = b }) v priority
writable f d s b t v priority read size asked low high p =
    let l = long_enough f (record { destination = d; source = s; tag = t; body = b }) read in
    fits_as d s b t (egress_tag v priority p) asked (omega (arith, l, size)) (egress_fits v priority p low high)
