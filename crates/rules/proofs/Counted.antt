-- What a receipt and a delivery tell of the step that they come from, and how the lists of them go on.
use Rattle.std.proofs.Common.{◌≡◌, ℕ, zero, suc, ◌+◌, ◌<◌, Bool, true, false, cond, ◌&&◌, List, [], ◌∷◌, ◌++◌, length, Some, None, Option, refl, sym, ap, ◌∙◌, subst, arith}
use Rattle.std.specs.List.{slice_get}
use Rattle.std.proofs.lemmas.Bool.{and_parts, eqb-true}
use Rattle.std.proofs.lemmas.Option.{none-some, same_Some}
use Rattle.rules.specs.Calls.{Answer, Call, receive, send}
use Rattle.rules.specs.Egress.{class_at, lays_in}
use Rattle.rules.specs.Runs.{Step}
use Rattle.rules.specs.Settings.{Settings}
use Rattle.rules.specs.Steps.{Delivery, Receipt, as_received, as_sent, delivery_in, delivery_of, handed_from, queued_from, receipt_in, receipt_of, restarts}
use Rattle.rules.specs.declared.answers.Received.{Received}
use Rattle.rules.specs.declared.answers.Sent.{Sent}

-- what a receipt tells of the answer that it comes from
pub record Received' (σ : Settings) (p c at : ℕ) (a : Answer) (r : Receipt) : Type 0 where
  pub dated : r.at ≡ at
  pub answer : as_received a ≡ Some r.answer
  pub class : c ≡ class_at σ p r.answer.classified.1

no_element : {A X : Type 0} {x : X} (i : ℕ) → ◌≡◌ {A = Option X} (slice_get [] i) (Some x) → A
no_element i e = absurd (none-some _ e)

of_one : {X : Type 0} (P : X → Type 0) (b : Bool) (x y : X) (i : ℕ) → slice_get (cond b (x ∷ []) []) i ≡ Some y → (b ≡ true → P x) → P y
of_one P true x y zero e h = subst P (same_Some x y e) (h refl)
of_one P true x y (suc i) e h = no_element i e
of_one P false x y i e h = no_element i e

pub receipt_told : (σ : Settings) (p c at : ℕ) (call : Call) (a : Answer) (i : ℕ) (r : Receipt) → slice_get (receipt_in σ p c at call a) i ≡ Some r → Received' σ p c at a r
receipt_told σ p c at (receive q frame memory) a i r e = go (as_received a) refl e
  where
    go : (o : Option Received) → as_received a ≡ o → slice_get (receipt_of σ p c at q frame o) i ≡ Some r → Received' σ p c at a r
    go None is f = no_element i f
    go (Some x) is f =
        of_one (Received' σ p c at a) (lays_in σ x.decided x.no_room x.classified.1 p c) (record { at = at; port = q; frame = frame; answer = x }) r i f
        (λ lays. record { dated = refl; answer = is; class = eqb-true c (class_at σ p x.classified.1) (and_parts _ _ lays).1 })
receipt_told σ p c at call a i r e = no_element i e

-- a step that hands a frame out is no restart and no receipt
pub record Delivered (p c at : ℕ) (call : Call) (a : Answer) (d : Delivery) : Type 0 where
  pub dated : d.at ≡ at
  pub restarts : restarts p call a ≡ false
  pub receipts : (σ : Settings) (n : ℕ) → receipt_in σ p c n call a ≡ []

pub delivered : {p c at : ℕ} {d : Delivery} (call : Call) (a : Answer) → delivery_in p c at call a ≡ d ∷ [] → Delivered p c at call a d
delivered {p} {c} {at} {d} (send q memory output) a e = go (as_sent a) (ap (λ l. slice_get l 0) e)
  where
    go : (o : Option (Sent × List ℕ)) → slice_get (delivery_of p c at q o) 0 ≡ Some d → Delivered p c at (send q memory output) a d
    go None f = no_element 0 f
    go (Some x) f =
        of_one (Delivered p c at (send q memory output) a) _ (record { at = at; answer = x.0; bytes = x.1 }) d 0 f
        (λ _. record { dated = refl; restarts = refl; receipts = λ σ n. refl })
delivered call a e = no_element 0 (ap (λ l. slice_get l 0) e)

-- counting goes on where it was left
pub queued_more : (σ : Settings) (p c at : ℕ) (so : List Receipt) (xs ys : List Step) → queued_from σ p c at so (xs ++ ys) ≡ queued_from σ p c (at + length xs) (queued_from σ p c at so xs) ys
queued_more σ p c at so [] ys = ap (λ n. queued_from σ p c n so ys) (omega arith)
queued_more σ p c at so (x ∷ xs) ys = queued_more σ p c (suc at) _ xs ys ∙ ap (λ n. queued_from σ p c n (queued_from σ p c at so (x ∷ xs)) ys) (omega arith)

pub handed_more : (p c at : ℕ) (so : List Delivery) (xs ys : List Step) → handed_from p c at so (xs ++ ys) ≡ handed_from p c (at + length xs) (handed_from p c at so xs) ys
handed_more p c at so [] ys = ap (λ n. handed_from p c n so ys) (omega arith)
handed_more p c at so (x ∷ xs) ys = handed_more p c (suc at) _ xs ys ∙ ap (λ n. handed_from p c n (handed_from p c at so (x ∷ xs)) ys) (omega arith)
