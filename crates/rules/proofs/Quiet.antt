-- A port that does not forward has no frame in its queues, at every moment of a run.
use Rattle.std.proofs.Common.{◌≡◌, ℕ, Bool, true, false, cond, ◌&&◌, eqb, List, [], ◌∷◌, ◌++◌, length, get_or, set, sym, refl, ap, ◌∙◌, arith, get_or-set_other}
use Rattle.std.proofs.lemmas.Bool.{and_parts, both_ways, cond-false, cond-true, eqb-false, eqb-true}
use Rattle.rules.specs.declared.answers.Received.{Received}
use Rattle.rules.specs.declared.answers.Sent.{Sent}
use Rattle.rules.specs.declared.ports.PortState.{PortState}
use Rattle.rules.specs.declared.ports.PortState.TheVariants.{Disabled}
use Rattle.rules.specs.Calls.{Answer, Call}
use Rattle.rules.specs.Egress.{lays_in, sendable}
use Rattle.rules.specs.Relay.{forwards}
use Rattle.rules.specs.Settings.{Settings}
use Rattle.rules.specs.State.{State, at_start, state_at}
use Rattle.rules.proofs.Effects.{Did, Hands, Lays}
use Rattle.rules.proofs.Effects.Did.{cleared, handed, laying, rested, shifted}

abbrev pub Quiet : State → Type 0
Quiet s = (p c : ℕ) → forwards (state_at s p) ≡ false → s.queues p c ≡ []

state_other : (l : List PortState) (p q : ℕ) (new : PortState) → eqb q p ≡ false → get_or (set l p new) q Disabled ≡ get_or l q Disabled
state_other l p q new e = get_or-set_other l p q new Disabled (eqb-false q p e)

module _ (s t : State) (quiet : Quiet s) where
  same_quiet : t.states ≡ s.states → (p c : ℕ) → forwards (state_at t p) ≡ false → s.queues p c ≡ []
  same_quiet states p c f = quiet p c (sym (ap (λ l. forwards (get_or l p Disabled)) states) ∙ f)

  laid_quiet : {σ : Settings} {q : ℕ} {frame : List ℕ} {r : Received} → Lays σ s q frame r t → Quiet t
  laid_quiet {σ} {q} {frame} {r} e p c f = go (lays_in σ r.decided r.no_room r.classified.1 p c) refl (e.queues p c)
    where
      go : (b : Bool) → (lays_in σ r.decided r.no_room r.classified.1 p c) ≡ b
          → t.queues p c ≡ cond b (s.queues p c ++ (sendable e.picture e.vlan r.classified.1 p ∷ [])) (s.queues p c) → t.queues p c ≡ []
      go true is now =
          let goes = (and_parts _ _ (and_parts _ _ is).0).0 in
          absurd (both_ways (forwards (state_at t p)) f (ap (λ l. forwards (get_or l p Disabled)) e.states ∙ (e.due p goes).forwarding))
      go false is now = now ∙ same_quiet e.states p c f

  handed_quiet : {q : ℕ} {x : Sent} {bytes : List ℕ} → Hands s q x bytes t → Quiet t
  handed_quiet {q} {x} {bytes} e p c f = go (eqb p q && eqb c x.class) refl (e.queues p c)
    where
      none : s.queues p c ≡ []
      none = same_quiet e.states p c f

      go : (b : Bool) → (eqb p q && eqb c x.class) ≡ b → t.queues p c ≡ cond b e.rest (s.queues p c) → t.queues p c ≡ []
      go true is now =
          let parts = and_parts _ _ is in
          let stood = ap (λ i. s.queues i c) (eqb-true p q parts.0) ∙ ap (s.queues q) (eqb-true c x.class parts.1) ∙ e.stood in
          absurd (omega (arith, ap length stood, ap length none))
      go false is now = now ∙ none

  -- a port's own event leaves nothing there, and another's changes nothing
  event_quiet : (q : ℕ) (new : PortState) → t.states ≡ set s.states q new → ((p c : ℕ) → eqb p q ≡ true → t.queues p c ≡ []) → ((p c : ℕ) → eqb p q ≡ false → t.queues p c ≡ s.queues p c) → Quiet t
  event_quiet q new states here there p c f = go (eqb p q) refl
    where
      go : (b : Bool) → eqb p q ≡ b → t.queues p c ≡ []
      go true is = here p c is
      go false is =
          there p c is
          ∙ quiet p c (ap forwards (sym (ap (λ l. get_or l p Disabled) states ∙ state_other s.states q p new is)) ∙ f)

pub stays_quiet : {σ : Settings} {s t : State} {call : Call} {a : Answer} → Did σ s call a t → Quiet s → Quiet t
stays_quiet {s = s} {t = t} (rested plain e) quiet = λ p c f. e.queues p c ∙ same_quiet s t quiet e.states p c f
stays_quiet {s = s} {t = t} (laying e) quiet = laid_quiet s t quiet e
stays_quiet {s = s} {t = t} (handed e) quiet = handed_quiet s t quiet e
stays_quiet {s = s} {t = t} (cleared {p = q} e) quiet =
    event_quiet s t quiet q e.new e.states (λ p c is. e.queues p c ∙ cond-true (eqb p q) _ _ is)
    (λ p c is. e.queues p c ∙ cond-false (eqb p q) _ _ is)
stays_quiet {s = s} {t = t} (shifted {p = q} e) quiet =
    event_quiet s t quiet q e.new e.states
    (λ p c is. e.queues p c ∙ ap (λ i. s.queues i c) (eqb-true p q is) ∙ quiet q c e.was) (λ p c is. e.queues p c)

pub start_quiet : Quiet at_start
start_quiet p c f = refl
