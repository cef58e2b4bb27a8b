-- At each port and class the frames that stand are those of the last receipts, in order, and the receipts before them
-- pair with the deliveries: kept call by call, and so at every moment of a run.
use Rattle.std.proofs.Common.{◌≡◌, ℕ, suc, ◌+◌, Bool, true, false, cond, ◌&&◌, eqb, List, [], ◌∷◌, ◌++◌, length, None, sym, refl, ap, ◌∙◌, subst, ap₂, subst₂, append-nil, append_assoc, arith}
use Rattle.std.specs.List.{slice_get}
use Rattle.std.proofs.lemmas.Bool.{and_parts, and_right, cond-false, cond-true, eqb-true}
use Rattle.rules.specs.declared.answers.Received.{Received}
use Rattle.rules.specs.Calls.{Answer, Call, event, receive, send}
use Rattle.rules.specs.Egress.{lays_in, sendable}
use Rattle.rules.specs.Laws.{Pairing}
use Rattle.rules.specs.Runs.{Path', Step}
use Rattle.rules.specs.Runs.Path'.{stay, go}
use Rattle.rules.specs.Settings.{Settings}
use Rattle.rules.specs.Ports.{has}
use Rattle.rules.specs.State.{Queued, State, at_start}
use Rattle.rules.specs.Steps.{Delivery, Receipt, accepted, as_emptied, as_received, as_sent, delivery_in, delivery_of, handed_at, handed_from, queued_at, queued_from, receipt_in, receipt_of, restarts}
use Rattle.rules.proofs.Counted.{delivered, handed_more, queued_more}
use Rattle.rules.proofs.Numbers.{eqb_flip}
use Rattle.rules.proofs.Effects.{Did, Lays, did, leaving}
use Rattle.rules.proofs.Effects.Did.{cleared, handed, laying, rested, shifted}
use Rattle.rules.proofs.Paths.{split}
use Rattle.rules.proofs.Quiet.{Quiet, start_quiet, stays_quiet}
use Rattle.rules.proofs.Order.{Dated, dated_later, dated_none, dated_push}
use Rattle.rules.proofs.Waiting.{Awaits, Paired, Walk, last_pair, walk_hand, walk_lay, walk_paired}
use Rattle.rules.proofs.Waiting.Walk.{done}

-- a port and a class at a moment, after these deliveries and receipts
pub record Moment (σ : Settings) (p c now : ℕ) (ds : List Delivery) (rs : List Receipt) (s : State) : Type 0 where
  pub walk : Walk σ p ds rs (s.queues p c)
  pub sent_dated : Dated {A = Delivery} (λ d. d.at) now ds
  pub received_dated : Dated {A = Receipt} (λ r. r.at) now rs

module _ (σ : Settings) (p c now : ℕ) (ds : List Delivery) (rs : List Receipt) (s t : State) (m : Moment σ p c now ds rs s) where
  -- nothing happens there
  later : t.queues p c ≡ s.queues p c → Moment σ p c (suc now) ds rs t
  later e =
      record {
        walk = subst (Walk σ p ds rs) (sym e) m.walk;
        sent_dated = dated_later _ now ds m.sent_dated;
        received_dated = dated_later _ now rs m.received_dated;
      }

  -- the counting starts anew where nothing stands
  anew : t.queues p c ≡ [] → Moment σ p c (suc now) [] [] t
  anew e =
      record {
        walk = subst (Walk σ p [] []) (sym e) done;
        sent_dated = dated_none _ (suc now);
        received_dated = dated_none _ (suc now);
      }

  nothing_new : (b : Bool) (ds' : List Delivery) (rs' : List Receipt) → b ≡ false → ds' ≡ [] → rs' ≡ [] → t.queues p c ≡ s.queues p c → Moment σ p c (suc now) (cond b [] (ds ++ ds')) (cond b [] (rs ++ rs')) t
  nothing_new b ds' rs' eb ed er e =
      subst₂ (λ x y. Moment σ p c (suc now) x y t) (sym (none ds ds' ed)) (sym (none rs rs' er)) (later e)
    where
      none : {A : Type 0} (xs ys : List A) → ys ≡ [] → cond b [] (xs ++ ys) ≡ xs
      none xs ys f = cond-false b [] (xs ++ ys) eb ∙ ap (λ l. xs ++ l) f ∙ append-nil xs

  lay : (b : Bool) (r : Receipt) (x : Queued) → r.at ≡ now → (b ≡ true → Awaits σ p r x) → t.queues p c ≡ cond b (s.queues p c ++ (x ∷ [])) (s.queues p c) → Moment σ p c (suc now) (ds ++ []) (rs ++ cond b (r ∷ []) []) t
  lay true r x date a e =
      subst (λ l. Moment σ p c (suc now) l (rs ++ (r ∷ [])) t) (sym (append-nil ds))
      (record {
        walk = subst (Walk σ p ds (rs ++ (r ∷ []))) (sym e) (walk_lay r x (a refl) m.walk);
        sent_dated = dated_later _ now ds m.sent_dated;
        received_dated = dated_push _ now rs r date m.received_dated;
      })
  lay false r x date a e = nothing_new false [] [] refl refl refl e

  hand : (b : Bool) (d : Delivery) (x : Queued) (rest : List Queued) → d.at ≡ now → d.answer.vid ≡ x.vid → d.bytes ≡ x.bytes → d.answer.length ≡ length d.bytes → (b ≡ true → s.queues p c ≡ x ∷ rest) → t.queues p c ≡ cond b rest (s.queues p c) → Moment σ p c (suc now) (ds ++ cond b (d ∷ []) []) (rs ++ []) t
  hand true d x rest date vid bytes size stood e =
      subst (λ l. Moment σ p c (suc now) (ds ++ (d ∷ [])) l t) (sym (append-nil rs))
      (record {
        walk =
            subst (Walk σ p (ds ++ (d ∷ [])) rs) (sym e)
            (walk_hand d x vid bytes size (subst (Walk σ p ds rs) (stood refl) m.walk) (rw date m.received_dated.before));
        sent_dated = dated_push _ now ds d date m.sent_dated;
        received_dated = dated_later _ now rs m.received_dated;
      })
  hand false d x rest date vid bytes size stood e = nothing_new false [] [] refl refl refl e

  restart : (b : Bool) → (b ≡ true → t.queues p c ≡ []) → (b ≡ false → t.queues p c ≡ s.queues p c) → Moment σ p c (suc now) (cond b [] (ds ++ [])) (cond b [] (rs ++ [])) t
  restart true here there = anew (here refl)
  restart false here there = nothing_new false [] [] refl refl refl (there refl)

-- a plain answer is no receipt, no delivery and no restart
plain_restart : (p : ℕ) (call : Call) (a : Answer) → as_emptied a ≡ None → restarts p call a ≡ false
plain_restart p (event q n) a e = and_right _ (accepted (as_emptied a)) (ap accepted e)
plain_restart p call a e = refl

plain_receipt : (σ : Settings) (p c now : ℕ) (call : Call) (a : Answer) → as_received a ≡ None → receipt_in σ p c now call a ≡ []
plain_receipt σ p c now (receive q frame memory) a e = ap (receipt_of σ p c now q frame) e
plain_receipt σ p c now call a e = refl

plain_delivery : (p c now : ℕ) (call : Call) (a : Answer) → as_sent a ≡ None → delivery_in p c now call a ≡ []
plain_delivery p c now (send q memory output) a e = ap (delivery_of p c now q) e
plain_delivery p c now call a e = refl

-- a laid frame awaits what its receipt tells
laid_awaits : {σ : Settings} {s t : State} {q : ℕ} {frame : List ℕ} {r : Received} (p c now : ℕ) (e : Lays σ s q frame r t) → has r.decided p ≡ true → Awaits σ p (record { at = now; port = q; frame = frame; answer = r }) (sendable e.picture e.vlan r.classified.1 p)
laid_awaits {q = q} p c now e goes =
    let due = e.due p goes in
    record {
      elsewhere = eqb_flip q p ∙ due.elsewhere;
      vid = e.vid;
      vlan = e.vlan;
      created = e.created;
      member = due.member;
      picture = e.picture;
      read = e.read;
      written = refl;
    }

only_elsewhere : (b l : Bool) → l ≡ true → (b && l && true) ≡ false → b ≡ false
only_elsewhere true true e f = f
only_elsewhere true false e f = sym e
only_elsewhere false l e f = refl

step : {σ : Settings} {s t : State} {call : Call} {a : Answer} (p c now : ℕ) (ds : List Delivery) (rs : List Receipt) → Quiet s → Moment σ p c now ds rs s → Did σ s call a t
    → Moment σ p c (suc now) (cond (restarts p call a) [] (ds ++ delivery_in p c now call a)) (cond (restarts p call a) [] (rs ++ receipt_in σ p c now call a)) t
step {σ} {s} {t} {call} {a} p c now ds rs quiet m (rested plain e) =
    nothing_new σ p c now ds rs s t m (restarts p call a) _ _ (plain_restart p call a plain.emptied) (plain_delivery p c now call a plain.sent) (plain_receipt σ p c now call a plain.received) (e.queues p c)
step {σ} {s} {t} p c now ds rs quiet m (laying {r = r} e) =
    lay σ p c now ds rs s t m (lays_in σ r.decided r.no_room r.classified.1 p c) _ _ refl
    (λ is. laid_awaits p c now e (and_parts _ _ (and_parts _ _ is).0).0) (e.queues p c)
step {σ} {s} {t} p c now ds rs quiet m (handed {p = q} {x = x} e) =
    hand σ p c now ds rs s t m (eqb q p && eqb x.class c) _ e.first e.rest refl e.vid e.written e.length'
    (λ is.
    let parts = and_parts _ _ is in
    ap (λ i. s.queues i c) (sym (eqb-true q p parts.0)) ∙ ap (s.queues q) (sym (eqb-true x.class c parts.1)) ∙ e.stood)
    (e.queues p c ∙ ap₂ (λ i j. cond (i && j) e.rest (s.queues p c)) (eqb_flip p q) (eqb_flip c x.class))
step {σ} {s} {t} p c now ds rs quiet m (cleared {p = q} {n = n} e) =
    restart σ p c now ds rs s t m (eqb q p && leaving n && true)
    (λ is. e.queues p c ∙ cond-true (eqb p q) _ _ (eqb_flip p q ∙ (and_parts _ _ (and_parts _ _ is).0).0))
    (λ is. e.queues p c ∙ cond-false (eqb p q) _ _ (eqb_flip p q ∙ only_elsewhere (eqb q p) (leaving n) e.leaves is))
step {σ} {s} {t} p c now ds rs quiet m (shifted {p = q} {n = n} e) =
    restart σ p c now ds rs s t m (eqb q p && leaving n && true)
    (λ is. e.queues p c ∙ ap (λ i. s.queues i c) (sym (eqb-true q p (and_parts _ _ (and_parts _ _ is).0).0)) ∙ quiet q c e.was)
    (λ is. e.queues p c)

-- OVER A RUN

-- the number of the step that comes after some steps
abbrev pub after_all : ℕ → List Step → ℕ
after_all now [] = now
after_all now (x ∷ xs) = after_all (suc now) xs

moments : {σ : Settings} (p c : ℕ) {s u : State} {steps : List Step} → Path' σ s steps u → Quiet s → (now : ℕ) (ds : List Delivery) (rs : List Receipt) → Moment σ p c now ds rs s → Moment σ p c (after_all now steps) (handed_from p c now ds steps) (queued_from σ p c now rs steps) u
moments p c stay quiet now ds rs m = m
moments p c (go g path) quiet now ds rs m = moments p c path (stays_quiet (did g) quiet) (suc now) _ _ (step p c now ds rs quiet m (did g))

-- after some steps of a run, from its start on
pub moment_after : {σ : Settings} (p c : ℕ) {u : State} {steps : List Step} → Path' σ at_start steps u → Moment σ p c (after_all 0 steps) (handed_at p c steps) (queued_at σ p c steps) u
moment_after p c path =
    moments p c path start_quiet 0 [] [] (record { walk = done; sent_dated = dated_none _ 0; received_dated = dated_none _ 0 })

-- a delivery comes after those before it, and leaves the receipts as they are
pub one_handed : (σ : Settings) (p : ℕ) (d : Delivery) (before : List Step) (step : Step) → delivery_in p d.answer.class (length before) step.call step.answer ≡ d ∷ []
    → (handed_at p d.answer.class (before ++ (step ∷ [])) ≡ handed_at p d.answer.class before ++ (d ∷ [])) × (queued_at σ p d.answer.class (before ++ (step ∷ [])) ≡ queued_at σ p d.answer.class before)
one_handed σ p d before step hands =
    let c = d.answer.class in
    let told = delivered step.call step.answer hands in (
      handed_more p c 0 [] before (step ∷ [])
          ∙ ap₂ (λ b ds. cond b [] (handed_at p c before ++ ds)) told.restarts (ap (λ n. delivery_in p c n step.call step.answer) (omega arith) ∙ hands),
      queued_more σ p c 0 [] before (step ∷ [])
          ∙ ap₂ (λ b rs. cond b [] (queued_at σ p c before ++ rs)) told.restarts (told.receipts σ (0 + length before)) ∙ append-nil _,
    )

pub pairing : Pairing
pairing σ steps (u, path) p d given =
    let c = d.answer.class in
    let upto = given.before ++ (given.step ∷ []) in
    let parts = split upto (subst (λ l. Path' σ at_start l u) (sym given.whole ∙ sym (append_assoc given.before (given.step ∷ []) given.after)) path) in
    let m = moment_after p c parts.1 in
    let after = one_handed σ p d given.before given.step given.hands in
    let found = last_pair (handed_at p c given.before) d (queued_at σ p c upto) (subst (λ ds. Paired σ p ds (queued_at σ p c upto)) after.0 (walk_paired m.walk)) in
    (found.0, record { handed = given; receipt = ap (λ rs. slice_get rs (length (handed_at p c given.before))) (sym after.1) ∙ found.1 }, found.2)
