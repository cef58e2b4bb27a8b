-- Port events.
use Rattle.std.proofs.Common.{◌≡◌, ℕ, true, false, nat_lt, List, Some, Ok, Err, None, Option, Result, map, set, get_or, sym, refl, ap, ◌∙◌}
use Rattle.std.specs.Result.{IsErrAnd}
use Rattle.fault.specs.declared.refusal.Refusal.{Refusal}
use Rattle.fault.specs.declared.refusal.Refusal.TheVariants.{NoTransition, UnknownEvent}
use Rattle.rules.specs.Calls.{emptied, emptied_queues, event, event_of, moved, moving, next_state, outcome, perform, refusing}
use Rattle.rules.specs.Relay.{forwards}
use Rattle.rules.specs.Settings.{Settings}
use Rattle.rules.specs.State.{Queued, State, standing_at, state_at}
use Rattle.rules.specs.declared.ports.PortEvent.{PortEvent}
use Rattle.rules.specs.declared.ports.PortState.{PortState}
use Rattle.rules.specs.declared.ports.PortState.TheVariants.{Disabled}
use Rattle.bridge.specs.Refused.{or_refused}
use Rattle.bridge.specs.declared.port_state.Port.{Port}
use Rattle.bridge.proofs.States.{moved_to, no_port, state_there, states_set}

pub found : {A : Type 0} → (r : Refusal) (o : Option A) (x : A) → or_refused r o ≡ Ok x → o ≡ Some x
found r None x e = cc
found r (Some y) x e = cc

pub not_found : {A : Type 0} → (r e : Refusal) (o : Option A) → or_refused r o ≡ Err e → (o ≡ None) × (e ≡ r)
not_found r e None h = (refl, cc)
not_found r e (Some y) h = absurd (cc)

-- what a `?` hands on
pub err_is : {T : Type 0} → (r : Result T Refusal) (e : Refusal) → IsErrAnd r (λ y. y ≡ e) → r ≡ Err e
err_is (Ok x) e h = absurd h
err_is (Err y) e h = ap (λ (z : Refusal). Err z) h

-- as far as the event
pub happens : (σ : Settings) (s : State) (p n : ℕ) (e : PortEvent) → s.started ≡ true → nat_lt p σ.ports ≡ true → event_of n ≡ Some e
    → perform σ s (event p n) None ≡ moving s p (next_state (state_at s p) e)
happens σ s p n e a b c = rw (a, b, c) refl

pub stays : (s : State) (p : ℕ) (new : PortState) → forwards (state_at s p) ≡ false → moved s p new ≡ outcome (emptied 0) (record s { states = set s.states p new })
stays s p new e = rw e refl

pub leaves : (s : State) (p : ℕ) (new : PortState) → forwards (state_at s p) ≡ true
    → moved s p new ≡ outcome (emptied (standing_at s p)) (record s { states = set s.states p new; queues = emptied_queues s p })
leaves s p new e = rw e refl

pub left_as : (s : State) (n m : ℕ) (ps qs : List PortState) (q r : ℕ → ℕ → List Queued) (k l : ℕ → ℕ → ℕ) → n ≡ m → ps ≡ qs → q ≡ r → k ≡ l
    → outcome (emptied n) (record s { states = ps; queues = q; slots = k }) ≡ outcome (emptied m) (record s { states = qs; queues = r; slots = l })
left_as s n m ps qs q r k l a b c d = cc

-- a port that leaves Forwarding, and one that was not there
module _ (σ : Settings) (s : State) (p k n : ℕ) (ports : List Port) (e : PortEvent) (started : s.started ≡ true) (within : nat_lt p σ.ports ≡ true) (place : k ≡ p) (of_number : or_refused UnknownEvent (event_of n) ≡ Ok e)
    (states : s.states ≡ map (λ port. port.state) ports) where
  at_place : state_at s p ≡ (get_or ports k no_port).state
  at_place =
      ap (λ (xs : List PortState). get_or xs p Disabled) states ∙ ap (λ (i : ℕ). get_or (map (λ (port : Port). port.state) ports) i Disabled) (sym place)
      ∙ state_there ports k

  to_move : (r : Result PortState Refusal) → or_refused NoTransition (next_state (get_or ports k no_port).state e) ≡ r → or_refused NoTransition (next_state (state_at s p) e) ≡ r
  to_move r h = ap (λ (x : PortState). or_refused NoTransition (next_state x e)) at_place ∙ h

  moves : (new : PortState) → or_refused NoTransition (next_state (get_or ports k no_port).state e) ≡ Ok new → perform σ s (event p n) None ≡ moved s p new
  moves new h =
      happens σ s p n e started within (found UnknownEvent (event_of n) e of_number)
      ∙ ap (λ (o : Option PortState). moving s p o) (found NoTransition (next_state (state_at s p) e) new (to_move (Ok new) h))

  states_moved : (new : PortState) → map (λ port. port.state) (moved_to ports k new) ≡ set s.states p new
  states_moved new =
      states_set ports k new ∙ ap (λ (i : ℕ). set (map (λ (port : Port). port.state) ports) i new) place
      ∙ ap (λ (xs : List PortState). set xs p new) (sym states)

  pub event_left : (new : PortState) (count : ℕ) (q : ℕ → ℕ → List Queued) (slots : ℕ → ℕ → ℕ) → or_refused NoTransition (next_state (get_or ports k no_port).state e) ≡ Ok new
      → forwards (get_or ports k no_port).state ≡ true → count ≡ standing_at s p → q ≡ emptied_queues s p → slots ≡ s.slots
      → outcome (emptied count) (record s { states = map (λ port. port.state) (moved_to ports k new); queues = q; slots = slots }) ≡ perform σ s (event p n) None
  event_left new count q slots h f a b c =
      left_as s _ _ _ _ _ _ _ _ a (states_moved new) b c ∙ sym (moves new h ∙ leaves s p new (ap forwards at_place ∙ f))

  pub event_stayed : (new : PortState) → or_refused NoTransition (next_state (get_or ports k no_port).state e) ≡ Ok new → forwards (get_or ports k no_port).state ≡ false
      → outcome (emptied 0) (record s { states = map (λ port. port.state) (moved_to ports k new) }) ≡ perform σ s (event p n) None
  event_stayed new h f =
      ap (λ (xs : List PortState). outcome (emptied 0) (record s { states = xs })) (states_moved new) ∙ sym (moves new h ∙ stays s p new (ap forwards at_place ∙ f))

  pub event_refused : (r : Refusal) → or_refused NoTransition (next_state (get_or ports k no_port).state e) ≡ Err r → refusing r s ≡ perform σ s (event p n) None
  event_refused r h =
      let x = not_found NoTransition r (next_state (state_at s p) e) (to_move (Err r) h) in
      ap (λ (y : Refusal). refusing y s) x.1 ∙ sym (happens σ s p n e started within (found UnknownEvent (event_of n) e of_number) ∙ ap (λ (o : Option PortState). moving s p o) x.0)
