-- A send with enough of both memories hands a frame out while one stands, and is told that none stands when none does.
use Rattle.std.proofs.Common.{◌≡◌, ℕ, zero, suc, ◌<◌, true, false, cond, eqb, ltb, leb, List, [], ◌∷◌, length, Some, None, Option, sym, refl, ap, ◌∙◌, subst, subst₂, arith, lit<}
use Rattle.std.proofs.lemmas.Bool.{and_parts, cond-true, cond_both, eq-eqb, eqb-true, false≢true, lt-ltb, true≢false}
use Rattle.fault.specs.declared.refusal.Refusal.TheVariants.{NoFrameStands}
use Rattle.rules.specs.Egress.{memory_needed}
use Rattle.rules.specs.Calls.{Answer, Call, advance, choosing, event, find, flush, handing, perform, picking, receive, refused, refusing, send, standing}
use Rattle.rules.specs.Laws.{Drained, Draining, all_roomy_sends, is_roomy_send, is_sent, standing_number}
use Rattle.rules.specs.Ports.{eight}
use Rattle.rules.specs.Runs.{Chooses, ChoosesAt, Goes, Path', Step}
use Rattle.rules.specs.Runs.Path'.{stay, go}
use Rattle.rules.specs.Settings.{Settings}
use Rattle.rules.specs.State.{Queued, State, frame_stands, holds_frame, standing_at, standing_classes, standing_in}
use Rattle.rules.specs.Steps.{as_sent}
use Rattle.rules.proofs.Conservation.{stands, taken_one}
use Rattle.rules.proofs.Numbers.{flag, flagged, none_in}
use Rattle.rules.proofs.Paths.{split, stays_started, step_started}

-- what such a send does, by what stood at the port
data Turn (p : ℕ) (s : State) : Answer → State → Type 0 where
  idle : {a : Answer} {t : State} → a ≡ refused NoFrameStands → standing_at s p ≡ 0 → standing_at t p ≡ 0 → Turn p s a t
  busy : {a : Answer} {t : State} → is_sent (as_sent a) ≡ true → standing_at s p ≡ suc (standing_at t p) → Turn p s a t

empty : (l : List Queued) → holds_frame l ≡ false → length l ≡ 0
empty [] e = refl
empty (x ∷ xs) e = absurd (true≢false e)

none_stand : (q : ℕ → List Queued) → ((c : ℕ) → c < 8 → length (q c) ≡ 0) → standing_in q eight ≡ 0
none_stand q h =
    omega (arith, h 0 (lit< tt), h 1 (lit< tt), h 2 (lit< tt), h 3 (lit< tt), h 4 (lit< tt), h 5 (lit< tt), h 6 (lit< tt), h 7 (lit< tt))

handing_turn : (s : State) (p c : ℕ) (l : List Queued) → s.queues p c ≡ l → c < 8 → holds_frame l ≡ true → Turn p s (handing s p c l).answer (handing s p c l).after
handing_turn s p c [] stood small e = absurd (false≢true e)
handing_turn s p c (x ∷ xs) stood small e =
    busy refl
    (omega (arith, taken_one (s.queues p) ((handing s p c (x ∷ xs)).after.queues p) (eqb p p) c x xs small (λ _. stood) (λ d. refl), ap {B = ℕ} (λ b. cond b 1 0) (eq-eqb p p refl)))

choosing_turn : (s : State) (p : ℕ) (o : Option ℕ) → Chooses (standing_classes s p) o → Turn p s (choosing s p o).answer (choosing s p o).after
choosing_turn s p None h =
    let none = none_stand (s.queues p) (λ c small. empty (s.queues p c) (sym (flag (λ d. holds_frame (s.queues p d)) 8 c small) ∙ h c small)) in
    idle refl none none
choosing_turn s p (Some c) h =
    let held = flagged (λ d. holds_frame (s.queues p d)) 8 c h in
    handing_turn s p c (s.queues p c) refl held.0 held.1

-- where no class holds a frame, none stands
picking_turn : (s : State) (p : ℕ) (o : Option ℕ) → Chooses (standing_classes s p) o → Turn p s (picking s p o).answer (picking s p o).after
picking_turn s p o h =
    cond_both (frame_stands s p) (choosing s p o) (refusing NoFrameStands s) (λ x. Turn p s x.answer x.after) (λ _. choosing_turn s p o h)
    (λ none.
    let nothing = none_stand (s.queues p) (λ c small. empty (s.queues p c) (sym (flag (λ d. holds_frame (s.queues p d)) 8 c small) ∙ none_in (standing_classes s p) c none)) in
    idle refl nothing nothing)

roomy_turn : (σ : Settings) (p : ℕ) → p < σ.ports → (s : State) → s.started ≡ true → (call : Call) (choice : Option ℕ) → ChoosesAt s call choice → is_roomy_send σ p call ≡ true → Turn p s (perform σ s call choice).answer (perform σ s call choice).after
roomy_turn σ p h s started (receive q frame memory) choice chosen roomy = absurd (false≢true roomy)
roomy_turn σ p h s started (send q memory output) choice chosen roomy =
    let last = and_parts _ _ roomy in
    let first = and_parts _ _ last.0 in
    let port : q ≡ p = eqb-true q p first.0 in
    let range : ltb q σ.ports ≡ true = rw port (lt-ltb p σ.ports h) in
    let is : perform σ s (send q memory output) choice ≡ picking s q choice = cond-true s.started _ _ started ∙ cond-true (ltb q σ.ports) _ _ range ∙ cond-true (leb (memory_needed σ) memory) _ _ first.1 ∙ cond-true (leb 1518 output) _ _ last.1 in
    subst (λ o. Turn p s o.answer o.after) (sym is) (subst (λ i. Turn i s (picking s q choice).answer (picking s q choice).after) port (picking_turn s q choice chosen))
roomy_turn σ p h s started (advance t) choice chosen roomy = absurd (false≢true roomy)
roomy_turn σ p h s started (event q n) choice chosen roomy = absurd (false≢true roomy)
roomy_turn σ p h s started (flush f) choice chosen roomy = absurd (false≢true roomy)
roomy_turn σ p h s started (find f a) choice chosen roomy = absurd (false≢true roomy)
roomy_turn σ p h s started (standing q) choice chosen roomy = absurd (false≢true roomy)

turn : {σ : Settings} {s t : State} {step : Step} (p : ℕ) → p < σ.ports → s.started ≡ true → is_roomy_send σ p step.call ≡ true → Goes σ s step t → Turn p s step.answer t
turn {σ} {s} {t} {step} p h started roomy g =
    subst₂ (Turn p s) g.answers g.leaves (roomy_turn σ p h s started step.call g.choice g.chosen roomy)

drained : (p : ℕ) (s t : State) (step : Step) (sends : List Step) (n : ℕ) → n ≡ standing_at s p → Turn p s step.answer t → ((m : ℕ) → m ≡ standing_at t p → Drained m sends) → Drained n (step ∷ sends)
drained p s t step sends zero e (idle a none after) rest = (a, rest 0 (sym after))
drained p s t step sends zero e (busy a less) rest = absurd (omega arith)
drained p s t step sends (suc n) e (idle a none after) rest = absurd (omega arith)
drained p s t step sends (suc n) e (busy a less) rest = (a, rest n (omega arith))

drains : {σ : Settings} (p : ℕ) → p < σ.ports → {s u : State} {sends : List Step} → Path' σ s sends u → s.started ≡ true → all_roomy_sends σ p sends ≡ true → (n : ℕ) → n ≡ standing_at s p → Drained n sends
drains p h stay started roomy n e = tt
drains p h (go {s = s} {t = t} {step = step} {steps = sends} g path) started roomy n e =
    let parts = and_parts _ _ roomy in
    drained p s t step sends n e (turn p h started parts.0 g) (drains p h path (step_started g ∙ started) parts.1)

pub draining : Draining
draining σ before sends (u, path) p h roomy =
    let parts = split before path in
    drains p h parts.2 (stays_started parts.1 refl) roomy (standing_number p before) (stands p parts.1)
