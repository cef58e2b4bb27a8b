-- Lists in the order of time.
use Rattle.std.proofs.Common.{◌≡◌, ℕ, zero, suc, ◌<◌, List, [], ◌∷◌, ◌++◌, map, Some, subst, arith}
use Rattle.std.specs.List.{slice_get}
use Rattle.std.proofs.lemmas.Option.{none-some, same_Some}
use Rattle.std.specs.List.{All}
use Rattle.std.proofs.lemmas.List.Elements.{All-head, All-nil, All-push, All-tail, All-weaker}

abbrev pub AllAbove : ℕ → List ℕ → Type 0
AllAbove n [] = Unit {0}
AllAbove n (m ∷ ms) = (n < m) × AllAbove n ms

-- each is later than the one before it
abbrev pub Ascending : List ℕ → Type 0
Ascending [] = Unit {0}
Ascending (n ∷ ns) = AllAbove n ns × Ascending ns

module _ {A : Type 0} (time : A → ℕ) where
  abbrev pub Before : ℕ → List A → Type 0
  Before n xs = All (λ x. time x < n) xs

  before_later : (n : ℕ) (xs : List A) → Before n xs → Before (suc n) xs
  before_later n xs h = All-weaker (λ x. time x < n) (λ x. time x < suc n) (λ x e. omega arith) xs h

  above_push : (n : ℕ) (xs : List A) (x : A) → AllAbove n (map time xs) → n < time x → AllAbove n (map time (xs ++ (x ∷ [])))
  above_push n [] x h l = (l, tt)
  above_push n (y ∷ xs) x h l = (h.0, above_push n xs x h.1 l)

  ascending_push : (xs : List A) (x : A) → Ascending (map time xs) → Before (time x) xs → Ascending (map time (xs ++ (x ∷ [])))
  ascending_push [] x h b = (tt, tt)
  ascending_push (y ∷ xs) x h b = (above_push (time y) xs x h.0 (All-head (λ z. time z < time x) y xs b), ascending_push xs x h.1 (All-tail (λ z. time z < time x) y xs b))

-- of two elements the one that stands further on is later
above_at : {A : Type 0} (time : A → ℕ) (n : ℕ) (xs : List A) (j : ℕ) (y : A) → AllAbove n (map time xs) → slice_get xs j ≡ Some y → n < time y
above_at time n [] j y h e = absurd (none-some y e)
above_at time n (x ∷ xs) zero y h e = subst (λ z. n < time z) (same_Some x y e) h.0
above_at time n (x ∷ xs) (suc j) y h e = above_at time n xs j y h.1 e

pub later_at : {A : Type 0} (time : A → ℕ) (xs : List A) (i j : ℕ) (x y : A) → Ascending (map time xs) → i < j → slice_get xs i ≡ Some x → slice_get xs j ≡ Some y → time x < time y
later_at time [] i j x y h l e f = absurd (none-some x e)
later_at time (z ∷ xs) i zero x y h l e f = absurd (omega arith)
later_at time (z ∷ xs) zero (suc j) x y h l e f = subst (λ w. time w < time y) (same_Some z x e) (above_at time (time z) xs j y h.0 f)
later_at time (z ∷ xs) (suc i) (suc j) x y h l e f = later_at time xs i j x y h.1 (omega arith) e f

-- all are older than n, and each older than the next
pub record Dated {A : Type 0} (time : A → ℕ) (n : ℕ) (xs : List A) : Type 0 where
  pub before : Before time n xs
  pub rising : Ascending (map time xs)

pub dated_later : {A : Type 0} (time : A → ℕ) (n : ℕ) (xs : List A) → Dated time n xs → Dated time (suc n) xs
dated_later time n xs h = record { before = before_later time n xs h.before; rising = h.rising }

pub dated_push : {A : Type 0} (time : A → ℕ) (n : ℕ) (xs : List A) (x : A) → time x ≡ n → Dated time n xs → Dated time (suc n) (xs ++ (x ∷ []))
dated_push time n xs x e h =
    record {
      before = All-push (λ z. time z < suc n) xs x (before_later time n xs h.before) (omega arith);
      rising = ascending_push time xs x h.rising (rw e h.before);
    }

pub dated_none : {A : Type 0} (time : A → ℕ) (n : ℕ) → Dated time n []
dated_none time n = record { before = All-nil (λ z. time z < n); rising = tt }
