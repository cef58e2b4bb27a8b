-- What goes through a slot that is looked into: its answer, if it has one.
use Rattle.std.proofs.Common.{◌≡◌, Bool, true, false, cond, IsTrue, List, [], ◌∷◌, length, Some, None, Option, Bor, refl, sym, ap, ◌∙◌, subst}
use Rattle.std.specs.Bool.{MatchBool}
use Rattle.std.proofs.lemmas.Bool.{true≢false}
use Rattle.std.proofs.lemmas.Option.{none-some}
use Rattle.std.specs.Option.{option_to_list}
use Rattle.std.specs.Iterator.Adapters.{option_iter_item, option_iter_done, option_iter_steps}
use Rattle.std.specs.declared.option.Iter.{OptionIter}
use Rattle.std.proofs.lemmas.Iterator.{YieldsList}
use Rattle.std.proofs.lemmas.Iterator.Consumers.{YieldsList-from_shown}

abbrev shown : {T : Type 0} → Bool → Option T → List T
shown b o = cond b [] (option_to_list o)

ends : {T : Type 0} (b : Bool) (o : Option T) → MatchBool b (◌≡◌ {A = Option (Bor T)} None None) (◌≡◌ {A = Option T} None o) → length (shown b o) ≡ 0
ends true o h = refl
ends false None h = refl
ends false (Some x) h = absurd (none-some x h)

turn : {T : Type 0} (b d : Bool) (o p : Option T) (x : Bor T) → IsTrue d → MatchBool b (◌≡◌ {A = Option (Bor T)} (Some x) None) (Some x.now ≡ o) → shown b o ≡ x.now ∷ shown d p
turn true d o p x i h = absurd (none-some x (sym h))
turn false true o p x i h = ap option_to_list (sym h)
turn false false o p x i h = absurd (true≢false (sym i))

pub option_gives : {T : Type 0} (s : OptionIter T) (o : Option T) → option_iter_item s ≡ o → option_iter_done s ≡ false → YieldsList option_iter_steps (λ y. y.now) s (option_to_list o)
option_gives s o e d = subst (YieldsList option_iter_steps (λ y. y.now) s) (ap (λ b. shown b (option_iter_item s)) d ∙ ap option_to_list e) (YieldsList-from_shown option_iter_steps (λ y. y.now) (λ t. shown (option_iter_done t) (option_iter_item t)) (λ t u k. ends (option_iter_done t) (option_iter_item t) k.1) (λ t x u k. turn (option_iter_done t) (option_iter_done u) (option_iter_item t) (option_iter_item u) x k.0 k.1) s)
