-- What holds of each port of a set, by the ports in it.
use Rattle.std.proofs.Common.{◌≡◌, ℕ, Bool, true, false, cond, not, ◌&&◌, ◌||◌, List, [], ◌∷◌, length, filter, nat_lt, refl, ap, sym, ◌∙◌}
use Rattle.std.specs.List.{list_all, range_with_len}
use Rattle.sets.specs.Sets.{holds, members}
use Rattle.rules.specs.Ports.{Ports, has, sixteen}
use Rattle.rules.specs.Setup.{all_below, all_in}

asked : (t b rest : Bool) → (not t || b) && rest ≡ cond t (b && rest) rest
asked true b rest = refl
asked false b rest = refl

among : (p : ℕ → Bool) (x : ℕ) (xs : List ℕ) (t : Bool) → list_all p (cond t (x ∷ xs) xs) ≡ cond t (p x && list_all p xs) (list_all p xs)
among p x xs true = refl
among p x xs false = refl

below_among : (set : Ports) (n : ℕ) (xs : List ℕ) → list_all (λ p. nat_lt p n) (filter (holds set) xs) ≡ all_below set n xs
below_among set n [] = refl
below_among set n (x ∷ xs) =
    among (λ p. nat_lt p n) x (filter (holds set) xs) (holds set x)
    ∙ ap (λ (rest : Bool). cond (holds set x) (nat_lt x n && rest) rest) (below_among set n xs)
    ∙ sym (asked (holds set x) (nat_lt x n) (all_below set n xs))

in_among : (set other : Ports) (xs : List ℕ) → list_all (has other) (filter (holds set) xs) ≡ all_in set other xs
in_among set other [] = refl
in_among set other (x ∷ xs) =
    among (has other) x (filter (holds set) xs) (holds set x)
    ∙ ap (λ (rest : Bool). cond (holds set x) (has other x && rest) rest) (in_among set other xs)
    ∙ sym (asked (holds set x) (has other x) (all_in set other xs))

pub each_below : (set : Ports) (n : ℕ) → length set ≡ 16 → list_all (λ p. nat_lt p n) (members set) ≡ all_below set n sixteen
each_below set n long =
    ap (λ (m : ℕ). list_all (λ p. nat_lt p n) (filter (holds set) (range_with_len 0 m))) long ∙ below_among set n sixteen

pub each_in : (set other : Ports) → length set ≡ 16 → list_all (has other) (members set) ≡ all_in set other sixteen
each_in set other long =
    ap (λ (m : ℕ). list_all (has other) (filter (holds set) (range_with_len 0 m))) long ∙ in_among set other sixteen
