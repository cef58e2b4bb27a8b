-- Frames queued are frames sent, emptied and standing: call by call, and so over every run.
use Rattle.std.proofs.Common.{◌≡◌, ℕ, ◌+◌, ◌<◌, Bool, true, false, cond, ◌&&◌, eqb, ltb, List, [], ◌∷◌, ◌++◌, length, None, Option, sym, refl, ap, ◌∙◌, arith}
use Rattle.std.proofs.lemmas.List.{length_push}
use Rattle.std.proofs.lemmas.Bool.{cond-true, eqb-true, lt-ltb}
use Rattle.rules.specs.Calls.{Answer, Call, counted, outcome, perform, standing}
use Rattle.rules.specs.Egress.{class_at, lays, sendable}
use Rattle.rules.specs.Laws.{Conservation, amount, emptied_number, event_at, queued_number, queues_one, sends_at, sends_one, sent_number, standing_number, standing_read}
use Rattle.rules.specs.Ports.{eight}
use Rattle.rules.specs.Runs.{Goes, Path', Step}
use Rattle.rules.specs.Runs.Path'.{stay, go}
use Rattle.rules.specs.Settings.{Settings}
use Rattle.rules.specs.State.{Queued, State, at_start, standing_at, standing_in}
use Rattle.rules.specs.Steps.{as_emptied, as_received, as_sent}
use Rattle.rules.proofs.Effects.{Did, Plain, did}
use Rattle.rules.proofs.Effects.Did.{cleared, handed, laying, rested, shifted}
use Rattle.rules.proofs.Paths.{join, split, stays_started}
use Rattle.rules.proofs.Numbers.{class_small, eqb_flip, none_standing, one_more, same_standing}

abbrev sent_by : ℕ → Call → Answer → ℕ
sent_by p call a = cond (sends_at p call) (sends_one (as_sent a)) 0

abbrev emptied_by : ℕ → Call → Answer → ℕ
emptied_by p call a = cond (event_at p call) (amount (as_emptied a)) 0

cond_same : {A : Type 0} (b : Bool) (x : A) → cond b x x ≡ x
cond_same true x = refl
cond_same false x = refl

-- a plain answer counts nothing
sent_none : (p : ℕ) (call : Call) (a : Answer) → Plain a → sent_by p call a ≡ 0
sent_none p call a plain = ap (λ o. cond (sends_at p call) (sends_one o) 0) plain.sent ∙ cond_same (sends_at p call) 0

emptied_none : (p : ℕ) (call : Call) (a : Answer) → Plain a → emptied_by p call a ≡ 0
emptied_none p call a plain = ap (λ o. cond (event_at p call) (amount o) 0) plain.emptied ∙ cond_same (event_at p call) 0

-- a laid frame is one more at its port
laid_one : (q r : ℕ → List Queued) (b : Bool) (c : ℕ) (x : Queued) → c < 8 → ((d : ℕ) → r d ≡ cond (b && eqb d c) (q d ++ (x ∷ [])) (q d)) → standing_in r eight ≡ standing_in q eight + cond b 1 0
laid_one q r false c x small h = omega (arith, same_standing q r eight h)
laid_one q r true c x small h = omega (arith, one_more q r c small (λ d. ap length (h d) ∙ grown (q d) (eqb d c)))
  where
    grown : (l : List Queued) (b : Bool) → length (cond b (l ++ (x ∷ [])) l) ≡ length l + cond b 1 0
    grown l true = length_push l x
    grown l false = omega arith

-- a frame taken from a class is one less
pub taken_one : (q r : ℕ → List Queued) (b : Bool) (c : ℕ) (x : Queued) (xs : List Queued) → c < 8 → (b ≡ true → q c ≡ x ∷ xs) → ((d : ℕ) → r d ≡ cond (b && eqb d c) xs (q d)) → standing_in q eight ≡ standing_in r eight + cond b 1 0
taken_one q r false c x xs small stood h = omega (arith, same_standing q r eight h)
taken_one q r true c x xs small stood h = omega (arith, one_more r q c small (λ d. less d (eqb d c) refl (h d)))
  where
    less : (d : ℕ) (b : Bool) → eqb d c ≡ b → r d ≡ cond b xs (q d) → length (q d) ≡ length (r d) + cond b 1 0
    less d true e f = omega (arith, ap length f, ap length (ap q (eqb-true d c e) ∙ stood refl))
    less d false e f = omega (arith, ap length f)

-- emptied queues hold nothing
cleared_all : (q r : ℕ → List Queued) (b : Bool) (k : ℕ) → (b ≡ true → k ≡ standing_in q eight) → ((d : ℕ) → r d ≡ cond b [] (q d)) → standing_in q eight ≡ cond b k 0 + standing_in r eight
cleared_all q r false k number h = omega (arith, same_standing q r eight h)
cleared_all q r true k number h = omega (arith, number refl, none_standing r eight h)

one : {σ : Settings} {s t : State} {call : Call} {a : Answer} (p : ℕ) → Did σ s call a t → standing_at s p + queues_one p (as_received a) ≡ sent_by p call a + emptied_by p call a + standing_at t p
one {s = s} {t = t} {call = call} {a = a} p (rested plain same) =
    omega (arith, ap (queues_one p) plain.received, sent_none p call a plain, emptied_none p call a plain, same_standing (s.queues p) (t.queues p) eight (same.queues p))
one {σ = σ} {s = s} {t = t} p (laying {r = r} e) =
    omega (arith, laid_one (s.queues p) (t.queues p) (lays r.decided r.no_room p) (class_at σ p r.classified.1) (sendable e.picture e.vlan r.classified.1 p) (class_small σ.classes r.classified.1) (e.queues p))
one {s = s} {t = t} p (handed {p = q} {x = x} e) =
    omega (arith, taken_one (s.queues p) (t.queues p) (eqb p q) x.class e.first e.rest e.class (λ f. ap (λ i. s.queues i x.class) (eqb-true p q f) ∙ e.stood) (e.queues p), ap {B = ℕ} (λ b. cond b 1 0) (eqb_flip p q))
one {s = s} {t = t} p (cleared {p = q} {k = k} e) =
    omega (arith, cleared_all (s.queues p) (t.queues p) (eqb p q) k (λ f. e.number ∙ ap (λ i. standing_at s i) (sym (eqb-true p q f))) (e.queues p), ap (λ b. cond b k 0) (eqb_flip p q))
one {s = s} {t = t} p (shifted {p = q} {k = k} e) =
    omega (arith, same_standing (s.queues p) (t.queues p) eight (e.queues p), ap (λ i. cond (eqb q p) i 0) e.number, cond_same {A = ℕ} (eqb q p) 0)

-- so over steps
conserved : {σ : Settings} {s t : State} {steps : List Step} (p : ℕ) → Path' σ s steps t → standing_at s p + queued_number p steps ≡ sent_number p steps + emptied_number p steps + standing_at t p
conserved p stay = omega arith
conserved p (go g path) = omega (arith, one p (did g), conserved p path)

-- what stands after a run
pub stands : {σ : Settings} {t : State} {steps : List Step} (p : ℕ) → Path' σ at_start steps t → standing_number p steps ≡ standing_at t p
stands p path = omega (arith, conserved p path)

reads : (σ : Settings) (s : State) (p : ℕ) (choice : Option ℕ) → s.started ≡ true → p < σ.ports → perform σ s (standing p) choice ≡ outcome (counted (standing_at s p)) s
reads σ s p choice started h = cond-true s.started _ _ started ∙ cond-true (ltb p σ.ports) _ _ (lt-ltb p σ.ports h)

read_goes : {σ : Settings} {s : State} (p : ℕ) → s.started ≡ true → p < σ.ports → Goes σ s (standing_read p (standing_at s p)) s
read_goes {σ} {s} p started h =
    let is = reads σ s p None started h in
    record { choice = None; chosen = tt; answers = ap (λ o. o.answer) is; leaves = ap (λ o. o.after) is }

read_tells : {σ : Settings} {s t : State} (p n : ℕ) → s.started ≡ true → p < σ.ports → Goes σ s (standing_read p n) t → n ≡ standing_at s p
read_tells {σ} {s} {t} p n started h g =
    let same' : counted (standing_at s p) ≡ counted n = sym (ap (λ o. o.answer) (reads σ s p g.choice started h)) ∙ g.answers in
    cc

last : {σ : Settings} {s u : State} {step : Step} → Path' σ s (step ∷ []) u → (t : State) × Goes σ s step t
last (go {t = t} g path) = (t, g)

pub conservation : Conservation
conservation σ before (t, path) p h = (
  omega (arith, conserved p path),
  (t, rw (stands p path) (join path (go (read_goes p (stays_started path refl) h) stay))),
  λ n (u, longer).
      let parts = split before longer in
      let read = last parts.2 in
      read_tells p n (stays_started parts.1 refl) h read.1 ∙ sym (stands p parts.1),
)
