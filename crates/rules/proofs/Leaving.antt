-- Frames of one queue leave in the order in which they came, and no receive is handed out twice at a port.
use Rattle.std.proofs.Common.{◌≡◌, ℕ, zero, suc, ◌+◌, ◌<◌, ◌≤◌, Bool, true, false, cond, List, [], ◌∷◌, ◌++◌, drop, get_or, length, Some, Option, refl, sym, ap, ◌∙◌, ap₂, subst, subst₂, append-nil, append_assoc, length-append, arith}
use mathlib.Core.Logic.{◌⊎◌, inl, inr, ⊎_elim}
use Rattle.std.specs.List.{slice_get}
use Rattle.std.proofs.Math.Nat.{lt_of_not-le}
use Rattle.std.proofs.lemmas.List.Elements.{All-head, All-tail}
use Rattle.std.proofs.lemmas.Option.{none-some, same_Some}
use Rattle.rules.specs.Egress.{class_at}
use Rattle.rules.specs.Laws.{NoSharing, Order, PairsWith}
use Rattle.rules.specs.Runs.{Path', Run, Step}
use Rattle.rules.specs.Settings.{Settings}
use Rattle.rules.specs.State.{State, at_start}
use Rattle.rules.specs.Steps.{Delivery, Receipt, as_received, delivery_in, handed_at, handed_from, queued_at, queued_from, receipt_in, restarts}
use Rattle.rules.proofs.Counted.{Received', delivered, handed_more, queued_more, receipt_told}
use Rattle.rules.proofs.Order.{Before, later_at}
use Rattle.rules.proofs.Pairing.{after_all, moment_after, one_handed}
use Rattle.rules.proofs.Paths.{split}

-- LISTS

got_append : {X : Type 0} (xs ys : List X) (i : ℕ) (x : X) → slice_get (xs ++ ys) i ≡ Some x → (slice_get xs i ≡ Some x) ⊎ ((j : ℕ) × (slice_get ys j ≡ Some x))
got_append [] ys i x e = inr (i, e)
got_append (y ∷ xs) ys zero x e = inl e
got_append (y ∷ xs) ys (suc i) x e = got_append xs ys i x e

got_cond : {X : Type 0} (b : Bool) (xs : List X) (i : ℕ) (x : X) → slice_get (cond b [] xs) i ≡ Some x → slice_get xs i ≡ Some x
got_cond true xs i x e = absurd (none-some x e)
got_cond false xs i x e = e

got_front : {X : Type 0} (xs ys : List X) (i : ℕ) (x : X) → slice_get xs i ≡ Some x → slice_get (xs ++ ys) i ≡ Some x
got_front [] ys i x e = absurd (none-some x e)
got_front (y ∷ xs) ys zero x e = e
got_front (y ∷ xs) ys (suc i) x e = got_front xs ys i x e

older_at : {A : Type 0} (time : A → ℕ) (n : ℕ) (xs : List A) (i : ℕ) (x : A) → Before time n xs → slice_get xs i ≡ Some x → time x < n
older_at time n [] i x h e = absurd (none-some x e)
older_at time n (y ∷ xs) zero x h e = subst (λ z. time z < n) (same_Some y x e) (All-head (λ z. time z < n) y xs h)
older_at time n (y ∷ xs) (suc i) x h e = older_at time n xs i x (All-tail (λ z. time z < n) y xs h) e

-- of two fronts of one list the longer goes on from the shorter, and equally long ones are equal
longer : {X : Type 0} (xs ys : List X) (x y : X) (xs' ys' : List X) → xs ++ (x ∷ xs') ≡ ys ++ (y ∷ ys') → length xs < length ys → (mid : List X) × (ys ≡ xs ++ (x ∷ mid))
longer [] [] x y xs' ys' e l = absurd (omega arith)
longer [] (b ∷ ys) x y xs' ys' e l = (ys, ap (λ z. z ∷ ys) (sym (ap (λ l. get_or l 0 x) e)))
longer (a ∷ xs) [] x y xs' ys' e l = absurd (omega arith)
longer (a ∷ xs) (b ∷ ys) x y xs' ys' e l =
    let rest = longer xs ys x y xs' ys' (ap (drop 1) e) (omega arith) in
    (rest.0, ap₂ (λ z zs. z ∷ zs) (sym (ap (λ l. get_or l 0 a) e)) rest.1)

level : {X : Type 0} (xs ys : List X) (x y : X) (xs' ys' : List X) → xs ++ (x ∷ xs') ≡ ys ++ (y ∷ ys') → length xs ≡ length ys → xs ≡ ys
level [] [] x y xs' ys' e l = refl
level [] (b ∷ ys) x y xs' ys' e l = absurd (omega arith)
level (a ∷ xs) [] x y xs' ys' e l = absurd (omega arith)
level (a ∷ xs) (b ∷ ys) x y xs' ys' e l =
    ap₂ (λ z zs. z ∷ zs) (ap (λ l. get_or l 0 a) e) (level xs ys x y xs' ys' (ap (drop 1) e) (omega arith))

no_less : {m n : ℕ} → (n < m → ⊥) → m ≤ n
no_less {m} {n} h =
    let l : m < suc n = lt_of_not-le (λ k. h (omega (arith, k))) in
    omega (arith, l)

all_counted : (now : ℕ) (steps : List Step) → after_all now steps ≡ now + length steps
all_counted now [] = omega arith
all_counted now (x ∷ xs) = omega (arith, all_counted (suc now) xs)

-- A RECEIPT IS THAT OF A STEP

module _ (σ : Settings) (p c : ℕ) (whole : List Step) where
  record Told (r : Receipt) : Type 0 where
    pub step : Step
    pub stands : slice_get whole r.at ≡ Some step
    pub told : Received' σ p c r.at step.answer r

  receipt_of_step : (now : ℕ) (x : Step) → slice_get whole now ≡ Some x → (i : ℕ) (r : Receipt) → slice_get (receipt_in σ p c now x.call x.answer) i ≡ Some r → Told r
  receipt_of_step now x stands i r e =
      let told = receipt_told σ p c now x.call x.answer i r e in
      record {
        step = x;
        stands = ap (slice_get whole) told.dated ∙ stands;
        told = record { dated = refl; answer = told.answer; class = told.class };
      }

  queued_told : (now : ℕ) (so : List Receipt) (xs : List Step) → ((k : ℕ) (x : Step) → slice_get xs k ≡ Some x → slice_get whole (now + k) ≡ Some x) → ((i : ℕ) (r : Receipt) → slice_get so i ≡ Some r → Told r) → (i : ℕ) (r : Receipt) → slice_get (queued_from σ p c now so xs) i ≡ Some r → Told r
  queued_told now so [] lies old i r e = old i r e
  queued_told now so (x ∷ xs) lies old i r e =
      queued_told (suc now) _ xs (λ k y f. ap (slice_get whole) (omega arith) ∙ lies (suc k) y f)
      (λ j q f.
      ⊎_elim (old j q) (λ new. receipt_of_step now x (ap (slice_get whole) (omega arith) ∙ lies 0 x refl) new.0 q new.1)
      (got_append so (receipt_in σ p c now x.call x.answer) j q (got_cond (restarts p x.call x.answer) _ j q f)))
      i r e

told_at : {σ : Settings} {p : ℕ} {steps : List Step} {d : Delivery} {r : Receipt} → PairsWith σ p steps d r → Told σ p d.answer.class steps r
told_at {σ} {p} {steps} {d} {r} pair =
    queued_told σ p d.answer.class steps 0 [] pair.handed.before
    (λ k x e. ap (slice_get steps) (omega arith) ∙ subst (λ l. slice_get l k ≡ Some x) pair.handed.whole (got_front pair.handed.before _ k x e))
    (λ i q e. absurd (none-some q e)) _ r pair.receipt

-- WHAT IS STILL TO BE HANDED OUT

module _ (σ : Settings) (p c m : ℕ) where
  -- came later than m
  Newer : List Delivery → List Receipt → Type 0
  Newer ds rs = (j : ℕ) (r : Receipt) → length ds ≤ j → slice_get rs j ≡ Some r → m < r.at

  newer_on : (now : ℕ) (ds : List Delivery) (rs : List Receipt) (xs : List Step) → m < now → Newer ds rs → Newer (handed_from p c now ds xs) (queued_from σ p c now rs xs)
  unfolding Newer
  newer_on now ds rs [] l h = h
  newer_on now ds rs (x ∷ xs) l h = newer_on (suc now) _ _ xs (omega arith) (one (restarts p x.call x.answer))
    where
      one : (b : Bool) → Newer (cond b [] (ds ++ delivery_in p c now x.call x.answer)) (cond b [] (rs ++ receipt_in σ p c now x.call x.answer))
      one true j r k e = absurd (none-some r e)
      one false j r k e =
          ⊎_elim (h j r (omega (arith, k, length-append ds (delivery_in p c now x.call x.answer))))
          (λ new. omega (arith, l, (receipt_told σ p c now x.call x.answer new.0 r new.1).dated))
          (got_append rs (receipt_in σ p c now x.call x.answer) j r e)

-- a frame handed out after another of its queue was received after it
module _ (σ : Settings) (steps : List Step) (run : Run σ steps) (p : ℕ) where
  overtaken : (d e : Delivery) (r q : Receipt) (one : PairsWith σ p steps d r) (two : PairsWith σ p steps e q) → d.answer.class ≡ e.answer.class → length two.handed.before < length one.handed.before → q.at < r.at
  unfolding Newer
  overtaken d e r q one two class l =
      let c = e.answer.class in
      let b = two.handed.before in
      let x = two.handed.step in
      let rest = longer b one.handed.before x one.handed.step two.handed.after one.handed.after (two.handed.whole ∙ sym one.handed.whole) l in
      let mid = rest.0 in
      let front : one.handed.before ≡ (b ++ (x ∷ [])) ++ mid = rest.1 ∙ sym (append_assoc b (x ∷ []) mid) in
      let path = split b (subst (λ l. Path' σ at_start l run.0) (sym two.handed.whole) run.1) in
      let dated = (moment_after p c path.1).received_dated in
      let after = one_handed σ p e b x two.handed.hands in
      let old : q.at < after_all 0 b = older_at (λ z. z.at) _ (queued_at σ p c b) _ q dated.before two.receipt in
      let here : Newer σ p c q.at (handed_at p c b ++ (e ∷ [])) (queued_at σ p c b) =
      λ j z k f. later_at (λ y. y.at) (queued_at σ p c b) (length (handed_at p c b)) j q z dated.rising (omega (arith, k, length-append (handed_at p c b) (e ∷ []))) two.receipt f in
      let there : Newer σ p c q.at (handed_at p c (b ++ (x ∷ []))) (queued_at σ p c (b ++ (x ∷ []))) = subst₂ (Newer σ p c q.at) (sym after.0) (sym after.1) here in
      let on = newer_on σ p c q.at (0 + length (b ++ (x ∷ []))) (handed_at p c (b ++ (x ∷ []))) (queued_at σ p c (b ++ (x ∷ []))) mid (omega (arith, old, all_counted 0 b, length-append b (x ∷ []))) there in
      let all : Newer σ p c q.at (handed_at p c one.handed.before) (queued_at σ p c one.handed.before) =
      subst₂ (Newer σ p c q.at) (sym (ap (handed_at p c) front ∙ handed_more p c 0 [] (b ++ (x ∷ [])) mid)) (sym (ap (queued_at σ p c) front ∙ queued_more σ p c 0 [] (b ++ (x ∷ [])) mid)) on in
      all (length (handed_at p c one.handed.before)) r (omega arith)
      (subst (λ k. slice_get (queued_at σ p k one.handed.before) (length (handed_at p k one.handed.before)) ≡ Some r) class one.receipt)

  -- two of one queue that were handed out at one place are one
  at_once : (d e : Delivery) (r q : Receipt) (one : PairsWith σ p steps d r) (two : PairsWith σ p steps e q) → d.answer.class ≡ e.answer.class → length one.handed.before ≡ length two.handed.before → r ≡ q
  at_once d e r q one two class l =
      let same = level one.handed.before two.handed.before one.handed.step two.handed.step one.handed.after two.handed.after (one.handed.whole ∙ sym two.handed.whole) l in
      same_Some r q
      (sym one.receipt
      ∙ ap₂ (λ k b. slice_get (queued_at σ p k b) (length (handed_at p k b))) class same
      ∙ two.receipt)

  earlier : (d e : Delivery) (r q : Receipt) → PairsWith σ p steps d r → PairsWith σ p steps e q → d.answer.class ≡ e.answer.class → r.at < q.at → d.at < e.at
  earlier d e r q one two class l =
      let left = (delivered one.handed.step.call one.handed.step.answer one.handed.hands).dated in
      let right = (delivered two.handed.step.call two.handed.step.answer two.handed.hands).dated in
      lt_of_not-le (λ h.
      let not_later : length one.handed.before ≤ length two.handed.before = no_less (λ k. absurd (omega (arith, l, overtaken d e r q one two class k))) in
      absurd (omega (arith, l, ap (λ z. z.at) (at_once d e r q one two class (omega (arith, h, left, right, not_later))))))

pub order : Order
order σ steps run p d e r q one two alike l =
    earlier σ steps run p d e r q one two ((told_at one).told.class ∙ ap (λ x. class_at σ p x.1) alike ∙ sym (told_at two).told.class) l

pub no_sharing : NoSharing
no_sharing σ steps run p d e r q one two same =
    let left = told_at one in
    let right = told_at two in
    let step = same_Some left.step right.step (sym left.stands ∙ ap (slice_get steps) same ∙ right.stands) in
    let answer = same_Some r.answer q.answer (sym left.told.answer ∙ ap (λ x. as_received x.answer) step ∙ right.told.answer) in
    let class = left.told.class ∙ ap (λ x. class_at σ p x.classified.1) answer ∙ sym right.told.class in
    let first = no_less (λ k. absurd (omega (arith, same, overtaken σ steps run p d e r q one two class k))) in
    let second = no_less (λ k. absurd (omega (arith, same, overtaken σ steps run p e d q r two one (sym class) k))) in
    omega (arith, first, second, (delivered one.handed.step.call one.handed.step.answer one.handed.hands).dated, (delivered two.handed.step.call two.handed.step.answer two.handed.hands).dated)
