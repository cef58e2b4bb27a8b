-- Each remembered answer is what find answers.
use Rattle.std.specs.Prelude.{◌≡◌, ℕ, List, Some, None, Ok, Err, Option, Result, slice_index_or}
use Rattle.std.specs.Option.{unwrap_or}
use Rattle.std.specs.Result.{result_ok}
use Rattle.std.specs.Coded.{Π_prop, Unit-prop}
use Rattle.std.proofs.Common.{refl, sym, ap, ◌∙◌, arith}
use Rattle.std.proofs.Props.{props}
use mathlib.Core.Path.{path_j'}
use Rattle.table.specs.declared.entry.Entry.{Entry}
use Rattle.table.specs.Calls.{answered}
use Rattle.recent.specs.declared.remembered.Remembered.{Remembered}

-- A slot that holds an answer holds the right one.
abbrev pub RightAt : List Entry → Option Remembered → Type 0
RightAt l None = Unit {0}
RightAt l (Some m) = answered l m.key.fid m.key.address ≡ Ok m.port

abbrev pub AllRight : List Entry → List (Option Remembered) → Type 0
AllRight l slots = (i : ℕ) → RightAt l (slice_index_or slots i None)

-- The same, as a word that proofs open only where they need it.
unfoldable pub Right : List Entry → List (Option Remembered) → Type 0
Right l slots = AllRight l slots

-- An answer, where there is one, is what find answers for the pair.
abbrev pub IsRight : List Entry → ℕ → List ℕ → Option (Option ℕ) → Type 0
IsRight l f a None = Unit {0}
IsRight l f a (Some p) = Ok p ≡ answered l f a

-- Right has one proof at most, as a fact that a type keeps must: an answer is a number or none.

back : {E : Type 0} (r : Result (Option ℕ) E) (v : Option ℕ) → result_ok r ≡ Some v → r ≡ Ok v
back (Ok x) v e = ap (λ o. Ok (unwrap_or o v)) e
back (Err x) v e = let z : ◌≡◌ {A = ℕ} 0 1 = cc in absurd (omega arith)

back_ok : {E : Type 0} (r : Result (Option ℕ) E) (v : Option ℕ) (q : r ≡ Ok v) → back r v (ap result_ok q) ≡ q
unfolding back
back_ok r v q = path_j' (λ s p. back s v (ap result_ok p) ≡ p) refl q

one : (x y : Option (Option ℕ)) → IsProp (x ≡ y)
one x y = hlevel props

ok-prop : {E : Type 0} (r : Result (Option ℕ) E) (v : Option ℕ) → IsProp (r ≡ Ok v)
ok-prop r v p q = sym (back_ok r v p) ∙ ap (back r v) (one (result_ok r) (Some v) (ap result_ok p) (ap result_ok q)) ∙ back_ok r v q

at-prop : (l : List Entry) (s : Option Remembered) → IsProp (RightAt l s)
at-prop l None = Unit-prop
at-prop l (Some m) = ok-prop (answered l m.key.fid m.key.address) m.port

pub Right-prop : (l : List Entry) (slots : List (Option Remembered)) → IsProp (Right l slots)
unfolding Right
Right-prop l slots = Π_prop (λ i. at-prop l (slice_index_or slots i None))
