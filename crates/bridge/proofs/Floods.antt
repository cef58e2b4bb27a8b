-- A frame laid at the members of a set, by the rules' words.
use Rattle.std.proofs.Common.{◌≡◌, ℕ, zero, suc, ◌+◌, ◌*◌, ◌%◌, ◌<◌, ◌≢◌, Bool, true, false, cond, not, ◌&&◌, ◌==◌, nat_lt, List, [], ◌∷◌, ◌++◌, filter, length, map, slice_set, refl, sym, ap, subst, ◌∙◌, inl, inr, arith}
use Rattle.std.specs.List.{range_with_len}
use Rattle.std.proofs.lemmas.Bool.{cases_eq, cases_lt, eq-eqb, ne_eqb, lt-ltb, le-ltb}
use Rattle.std.proofs.lemmas.Bool.Decides.{nat_tests}
use Rattle.std.proofs.lemmas.List.{get_or_past}
use Rattle.std.proofs.lemmas.List.FromFn.{get_or-map-range_with_len}
use Rattle.fault.specs.declared.mark.Mark.{Mark}
use Rattle.frame.specs.Reading.{Picture}
use Rattle.frame.specs.Writing.{put_at}
use Rattle.queues.specs.Laying.{changed_at}
use Rattle.queues.specs.Rings.{is_queue, number_of}
use Rattle.sets.proofs.ByNumber.{tried, tried_adds, tried_all, tried_none, tried_skips}
use Rattle.sets.specs.Sets.{any_in, members}
use Rattle.rules.proofs.Classes.{class_below}
use Rattle.rules.specs.Calls.{flood, outcome, received}
use Rattle.rules.specs.Egress.{class_of, laid_memory, laid_queues, laid_slots, lays, lays_in, without_room, sendable}
use Rattle.rules.specs.Ports.{Ports, has, no_ports, sixteen}
use Rattle.rules.specs.Settings.{Settings}
use Rattle.rules.specs.State.{Queued, State}
use Rattle.rules.specs.declared.shape.Shape.{Shape}
use Rattle.rules.specs.declared.vlans.Vlan.{Vlan}
use Rattle.bridge.specs.Flooding.{Flood, laid_once, laid_over}

further : (p i : ℕ) → p ≢ i → nat_lt p i ≡ nat_lt p (i + 1)
further p i other = grind (arith, nat_tests)

-- what is as_answer by port and class, changed at the ports before place i where a test holds
module _ {X : Type 0} (as_answer ch : ℕ → ℕ → X) (at : ℕ → ℕ → Bool) where
  abbrev pub closed : ℕ → ℕ → ℕ → X
  closed i p c = cond (nat_lt p i && at p c) (ch p c) (as_answer p c)

  pub closed_first : (p c : ℕ) → closed 0 p c ≡ as_answer p c
  closed_first p c = rw (le-ltb p 0 (omega arith)) refl

  pub closed_here : (i c : ℕ) → closed i i c ≡ as_answer i c
  closed_here i c = rw (le-ltb i i (omega arith)) refl

  pub closed_same : (i : ℕ) → ((c : ℕ) → at i c ≡ false) → closed i ≡ closed (i + 1)
  closed_same i none j p c = each p c j
    where
      each : (p c : ℕ) → closed i p c ≡ closed (i + 1) p c
      each p c =
          elim (cases_eq p i) [
            | inl e ↦ subst (λ q. closed i q c ≡ closed (i + 1) q c) (sym e) (closed_here i c ∙ sym (rw (lt-ltb i (i + 1) (omega arith), none c) refl))
            | inr o ↦ ap (λ (t : Bool). cond (t && at p c) (ch p c) (as_answer p c)) (further p i o)
          ]

  pub closed_more : (i k : ℕ) (change : X → X) → ((c : ℕ) → at i c ≡ (c == k)) → ((c : ℕ) → ch i c ≡ change (as_answer i c)) → changed_at i k change (closed i) ≡ closed (i + 1)
  closed_more i k change all value j p c = each p c j
    where
      each : (p c : ℕ) → changed_at i k change (closed i) p c ≡ closed (i + 1) p c
      each p c =
          elim (cases_eq p i) [
            | inl e ↦ subst (λ q. changed_at i k change (closed i) q c ≡ closed (i + 1) q c) (sym e)
                (rw (eq-eqb i i refl, closed_here i c) (sym (rw (lt-ltb i (i + 1) (omega arith), all c, value c) refl)))
            | inr o ↦ rw (ne_eqb p i o) (ap (λ (t : Bool). cond (t && at p c) (ch p c) (as_answer p c)) (further p i o))
          ]

and_assoc : (a b c : Bool) → (a && (b && c)) ≡ ((a && b) && c)
and_assoc true b c = refl
and_assoc false b c = refl

-- a member is laid where there is room, and all members are ports with a queue
both_rooms : (member queue room : Bool) → (member ≡ true → queue ≡ true) → (member && not (queue && room)) ≡ (member && not room)
both_rooms true queue room h = rw (h refl) refl
both_rooms false queue room h = refl

laid_rooms : (member queue room : Bool) → (member ≡ true → queue ≡ true) → (member && (queue && room)) ≡ (member && not (member && not room))
laid_rooms true true true h = refl
laid_rooms true true false h = refl
laid_rooms true false room h = let e : false ≡ true = h refl in cc
laid_rooms false queue room h = refl

flood_as : (q r : ℕ → ℕ → List Queued) (s t : ℕ → ℕ → ℕ) (m n : List ℕ) (f g : Ports) → q ≡ r → s ≡ t → m ≡ n → f ≡ g
    → ◌≡◌ {A = Flood} (record { queues = q; slots = s; memory = m; no_room = f }) (record { queues = r; slots = t; memory = n; no_room = g })
flood_as q r s t m n f g a b c d = cc

module _ (base : Settings) (shape : Shape) (s : State) (set : Ports) (priority : ℕ) (frame : ℕ → Queued) (long : length set ≡ 16)
    (there : (p : ℕ) → has set p ≡ true → is_queue shape p (class_of shape.classes priority) ≡ true) where
  abbrev σ : Settings
  σ = record base { ports = shape.ports; classes = shape.classes; depth = shape.depth }

  abbrev k : ℕ
  k = class_of shape.classes priority

  abbrev full : Ports
  full = without_room σ s priority set

  -- whether there was room for the frame at a port
  abbrev room : ℕ → Bool
  room p = nat_lt (length (s.queues p k)) shape.depth

  abbrev roomy : ℕ → Bool
  roomy p = is_queue shape p k && room p

  abbrev at : ℕ → ℕ → Bool
  at p c = (has set p && roomy p) && c == k

  abbrev queued : ℕ → ℕ → List Queued
  queued p c = s.queues p c ++ (frame p ∷ [])

  abbrev next : ℕ → ℕ → ℕ
  next p c = (s.slots p c + 1) % shape.depth

  abbrev lacks : ℕ → Bool
  lacks p = has set p && not (roomy p)

  -- the members before place i have been served
  abbrev served : ℕ → List ℕ → Flood
  served i memory =
      record { queues = closed s.queues queued at i; slots = closed s.slots next at i; memory = memory; no_room = tried lacks 16 i }

  abbrev place : ℕ → ℕ
  place p = 1518 * (number_of shape p k * shape.depth + s.slots p k)

  abbrev served_memory : ℕ → List ℕ → List ℕ
  served_memory i memory = cond (has set i && roomy i) (put_at memory (place i) (frame i).bytes) memory

  unserved : (i : ℕ) (memory : List ℕ) (f : Ports) → (has set i && roomy i) ≡ false → tried lacks 16 (i + 1) ≡ f
      → ◌≡◌ {A = Flood} (record { queues = closed s.queues queued at i; slots = closed s.slots next at i; memory = memory; no_room = f }) (served (i + 1) (served_memory i memory))
  unserved i memory f none e =
      flood_as _ _ _ _ _ _ _ _ (closed_same s.queues queued at i (λ c. rw none refl)) (closed_same s.slots next at i (λ c. rw none refl)) (sym (rw none refl)) (sym e)

  skips : (i : ℕ) (memory : List ℕ) → has set i ≡ false → served i memory ≡ served (i + 1) (served_memory i memory)
  skips i memory h = unserved i memory (tried lacks 16 i) (rw h refl) (sym (tried_skips lacks 16 i (rw h refl)))

  test_here : (i : ℕ) (memory : List ℕ) → (is_queue shape i k && nat_lt (length ((served i memory).queues i k)) shape.depth) ≡ roomy i
  test_here i memory = ap (λ (q : List Queued). is_queue shape i k && nat_lt (length q) shape.depth) (closed_here s.queues queued at i k)

  serves_by : (i : ℕ) (memory : List ℕ) (t : Bool) → has set i ≡ true → roomy i ≡ t → laid_once shape priority frame i (served i memory) ≡ served (i + 1) (served_memory i memory)
  serves_by i memory true h r =
      rw (test_here i memory ∙ r)
      (flood_as _ _ _ _ _ _ _ _ (closed_more s.queues queued at i k (λ l. l ++ (frame i ∷ [])) (λ c. rw (h, r) refl) (λ c. refl))
      (closed_more s.slots next at i k (λ slot. (slot + 1) % shape.depth) (λ c. rw (h, r) refl) (λ c. refl))
      (ap (λ (n : ℕ). put_at memory (1518 * (number_of shape i k * shape.depth + n)) (frame i).bytes) (closed_here s.slots next at i k) ∙ sym (rw (h, r) refl))
      (tried_skips lacks 16 i (rw (h, r) refl)))
  serves_by i memory false h r =
      rw (test_here i memory ∙ r) (unserved i memory (slice_set (tried lacks 16 i) i true) (rw (h, r) refl) (sym (tried_adds lacks 16 i (rw (h, r) refl))))

  serves : (i : ℕ) (memory : List ℕ) → has set i ≡ true → laid_once shape priority frame i (served i memory) ≡ served (i + 1) (served_memory i memory)
  serves i memory h = serves_by i memory (roomy i) h refl

  lays_is : (p : ℕ) → p < 16 → (has set p && roomy p) ≡ lays set full p
  lays_is p l =
      laid_rooms (has set p) (is_queue shape p k) (room p) (there p)
      ∙ ap (λ (t : Bool). has set p && not t) (sym (get_or-map-range_with_len (λ q. has set q && not (room q)) 0 16 p p false l (omega arith)))

  over : (m i : ℕ) (memory : List ℕ) → i + m ≡ 16
      → laid_over shape priority frame (filter (has set) (range_with_len i m)) (served i memory) ≡ served 16 (laid_memory σ s set full priority frame (range_with_len i m) memory)
  over zero i memory e = ap (λ (n : ℕ). served n memory) (omega arith)
  over (suc m) i memory e = by_member (has set i) refl
      (over m (i + 1) (served_memory i memory) (omega arith)
      ∙ ap (λ (t : Bool). served 16 (laid_memory σ s set full priority frame (range_with_len (i + 1) m) (cond t (put_at memory (place i) (frame i).bytes) memory))) (lays_is i (omega arith)))
    where
      by_member : (t : Bool) → has set i ≡ t
          → laid_over shape priority frame (filter (has set) (range_with_len (i + 1) m)) (served (i + 1) (served_memory i memory)) ≡ served 16 (laid_memory σ s set full priority frame (i ∷ range_with_len (i + 1) m) memory)
          → laid_over shape priority frame (filter (has set) (i ∷ range_with_len (i + 1) m)) (served i memory) ≡ served 16 (laid_memory σ s set full priority frame (i ∷ range_with_len (i + 1) m) memory)
      by_member true h rest = rw h (ap (λ (now : Flood). laid_over shape priority frame (filter (has set) (range_with_len (i + 1) m)) now) (serves i memory h) ∙ rest)
      by_member false h rest = rw h (ap (λ (now : Flood). laid_over shape priority frame (filter (has set) (range_with_len (i + 1) m)) now) (skips i memory h) ∙ rest)

  at_end : {X : Type 0} → (as_answer ch : ℕ → ℕ → X) → closed as_answer ch at 16 ≡ (λ p c. cond (lays_in σ set full priority p c) (ch p c) (as_answer p c))
  at_end as_answer ch j p c = each p c j
    where
      each : (p c : ℕ) → closed as_answer ch at 16 p c ≡ cond (lays_in σ set full priority p c) (ch p c) (as_answer p c)
      each p c =
          elim (cases_lt p 16) [
            | inl l ↦ rw (lt-ltb p 16 l) (ap (λ (t : Bool). cond (t && c == k) (ch p c) (as_answer p c)) (lays_is p l))
            | inr l ↦ rw (le-ltb p 16 l, get_or_past set p false (omega (arith, long))) refl
          ]

  at_first : (memory : List ℕ) → ◌≡◌ {A = Flood} (record { queues = s.queues; slots = s.slots; memory = memory; no_room = no_ports }) (served 0 memory)
  at_first memory =
      flood_as s.queues (closed s.queues queued at 0) s.slots (closed s.slots next at 0) memory memory no_ports (tried lacks 16 0) (sym (λ j p c. closed_first s.queues queued at p c j))
      (sym (λ j p c. closed_first s.slots next at p c j)) refl (tried_none lacks 16)

  pub flooded : (memory : List ℕ)
      → laid_over shape priority frame (members set) (record { queues = s.queues; slots = s.slots; memory = memory; no_room = no_ports })
      ≡ record { queues = laid_queues σ s set full priority frame; slots = laid_slots σ s set full priority; memory = laid_memory σ s set full priority frame sixteen memory; no_room = full }
  flooded memory =
      ap (λ (n : ℕ). laid_over shape priority frame (filter (has set) (range_with_len 0 n)) (record { queues = s.queues; slots = s.slots; memory = memory; no_room = no_ports })) long
      ∙ ap (λ (now : Flood). laid_over shape priority frame (filter (has set) (range_with_len 0 16)) now) (at_first memory)
      ∙ over 16 0 memory refl
      ∙ flood_as _ _ _ _ _ _ _ _ (at_end s.queues queued) (at_end s.slots next) refl
      (tried_all lacks 16 16 (omega arith) ∙ (λ j. map (λ p. both_rooms (has set p) (is_queue shape p k) (room p) (there p) j) sixteen))

-- a port that there is has a queue for every class of a priority
pub has_queue : (shape : Shape) (set : Ports) (priority : ℕ) → ((p : ℕ) → has set p ≡ true → nat_lt p shape.ports ≡ true) → (p : ℕ) → has set p ≡ true → is_queue shape p (class_of shape.classes priority) ≡ true
has_queue shape set priority below p h =
    rw (below p h) (lt-ltb (class_of shape.classes priority) shape.classes (class_below shape.classes priority shape.classes_low))

pub not_empty : (set : Ports) (r : Bool) → r ≡ not (any_in set) → r ≡ false → any_in set ≡ true
not_empty set r e h = go (any_in set) (sym e ∙ h)
  where
    go : (t : Bool) → not t ≡ false → t ≡ true
    go true x = refl
    go false x = cc

-- what becomes of the bridge and the frame memory, where the frame is laid at the members of a set
module _ (base : Settings) (shape : Shape) (s : State) (set : Ports) (priority : ℕ) (frame : Picture) (v : Vlan) (long : length set ≡ 16) (below : (p : ℕ) → has set p ≡ true → nat_lt p shape.ports ≡ true)
    (q : ℕ → ℕ → List Queued) (t : ℕ → ℕ → ℕ) (m n : List ℕ) (no_room : Ports)
    (laid : ◌≡◌ {A = Flood} (record { queues = q; slots = t; memory = n; no_room = no_room }) (laid_over shape priority (sendable frame v priority) (members set) (record { queues = s.queues; slots = s.slots; memory = m; no_room = no_ports }))) where
  abbrev sized : Settings
  sized = record base { ports = shape.ports; classes = shape.classes; depth = shape.depth }

  after : ◌≡◌ {A = Flood} (record { queues = q; slots = t; memory = n; no_room = no_room })
      (record {
        queues = laid_queues sized s set (without_room sized s priority set) priority (sendable frame v priority);
        slots = laid_slots sized s set (without_room sized s priority set) priority;
        memory = laid_memory sized s set (without_room sized s priority set) priority (sendable frame v priority) sixteen m;
        no_room = without_room sized s priority set;
      })
  after = laid ∙ flooded base shape s set priority (sendable frame v priority) long (has_queue shape set priority below) m

  pub floods : (mark : Mark) → any_in set ≡ true
      → outcome (received (record { classified = (v.vid, priority); decided = set; no_room = no_room; mark = mark })) (record s { queues = q; slots = t }) ≡ flood sized s frame v priority mark set
  floods mark some =
      ap (λ (f : Flood). outcome (received (record { classified = (v.vid, priority); decided = set; no_room = f.no_room; mark = mark })) (record s { queues = f.queues; slots = f.slots })) after
      ∙ sym (rw some refl)

  pub flood_memory : n ≡ laid_memory sized s set no_room priority (sendable frame v priority) sixteen m
  flood_memory =
      ap (λ (f : Flood). f.memory) after
      ∙ ap (λ (full : Ports). laid_memory sized s set full priority (sendable frame v priority) sixteen m) (sym (ap (λ (f : Flood). f.no_room) after))
