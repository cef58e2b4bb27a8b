-- A frame laid at one port.
use Rattle.std.proofs.Common.{◌≡◌, ℕ, Bool, true, false, cond, ◌&&◌, nat_lt, nat_le, List, length, None, Option, slice_set, refl, sym, ap, subst, ◌∙◌}
use Rattle.std.specs.Option.{is_none}
use Rattle.fault.specs.declared.refusal.Refusal.{Refusal}
use Rattle.frame.specs.Reading.{Picture}
use Rattle.frame.specs.Writing.{frame_of, put_at, shape_asked}
use Rattle.frame.specs.declared.parts.Tag.{Tag}
use Rattle.queues.proofs.Counts.{counted}
use Rattle.queues.specs.Laying.{can_lay, laid_one, next_one, next_place, queued}
use Rattle.queues.specs.Rings.{is_queue, needed_for}
use Rattle.queues.specs.Standing.{frames_at, queues_of, slots_of}
use Rattle.queues.specs.declared.queues.Queues.{Queues}
use Rattle.rules.specs.Ports.{Ports}
use Rattle.rules.specs.State.{Queued}
use Rattle.rules.specs.declared.vlans.Vlan.{Vlan}
use Rattle.bridge.specs.Flooding.{Flood, flood_of, laid_in}

flood_as : (q r : ℕ → ℕ → List Queued) (s t : ℕ → ℕ → ℕ) (m n : List ℕ) (f g : Ports) → q ≡ r → s ≡ t → m ≡ n → f ≡ g
    → ◌≡◌ {A = Flood} (record { queues = q; slots = s; memory = m; no_room = f }) (record { queues = r; slots = t; memory = n; no_room = g })
flood_as q r s t m n f g a b c d = cc

both_asked : (x a b : Bool) → a ≡ true → b ≡ true → (x && (a && b)) ≡ x
both_asked true a b e h = rw (e, h) refl
both_asked false a b e h = refl

module _ (queues : Queues) (m : List ℕ) (full : Ports) (frame : Picture) (vid p class : ℕ) (q : ℕ → ℕ → List Queued) (s : ℕ → ℕ → ℕ) (n : List ℕ) (f : Ports)
    (fits : nat_le (needed_for queues.shape) (length m) ≡ true) (writable : shape_asked frame ≡ None) where
  room : (b : Bool) → b ≡ can_lay queues (length m) p class frame → (is_queue queues.shape p class && nat_lt (length (queues_of queues m p class)) queues.shape.depth) ≡ b
  room b e =
      ap (λ (c : ℕ). is_queue queues.shape p class && nat_lt c queues.shape.depth) (counted queues m p class)
      ∙ sym (e ∙ both_asked (is_queue queues.shape p class && nat_lt (frames_at queues p class) queues.shape.depth) _ _ fits (ap (λ (o : Option Refusal). is_none o) writable))

  pub once : (b : Bool)
      → b ≡ can_lay queues (length m) p class frame
      → q ≡ cond b (laid_one p class (queued vid frame) (queues_of queues m)) (queues_of queues m)
      → s ≡ cond b (next_one queues.shape.depth p class (slots_of queues)) (slots_of queues)
      → n ≡ cond b (put_at m (next_place queues p class) (frame_of frame)) m
      → f ≡ cond b full (slice_set full p true)
      → ◌≡◌ {A = Flood} (record { queues = q; slots = s; memory = n; no_room = f }) (laid_in queues.shape p class (queued vid frame) (flood_of queues m full))
  once true e eq es em ef = flood_as q _ s _ n _ f _ eq es em ef ∙ sym (rw (room true e) refl)
  once false e eq es em ef = flood_as q _ s _ n _ f _ eq es em ef ∙ sym (rw (room false e) refl)
