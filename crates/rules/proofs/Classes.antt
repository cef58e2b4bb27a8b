-- A class is below the number of classes, for every row of the table by one argument: the entry for n classes is
-- at most n - 1.
use Rattle.std.proofs.Common.{◌≡◌, ℕ, zero, suc, ◌+◌, ◌-◌, ◌≤◌, Bool, true, ◌&&◌, leb, List, [], ◌∷◌, get_or, refl, arith}
use Rattle.std.specs.List.{list_all}
use Rattle.std.proofs.lemmas.Bool.{and_parts, leb-true}
use Rattle.rules.specs.Egress.{ClassBelow, class_of, class_table}

-- each number is at most its place, counted from k
climbs : ℕ → List ℕ → Bool
climbs k [] = true
climbs k (c ∷ cs) = leb c k && climbs (suc k) cs

at_most : (k : ℕ) (cs : List ℕ) (i : ℕ) → climbs k cs ≡ true → get_or cs i 0 ≤ k + i
unfolding climbs
at_most k [] i h = omega arith
at_most k (c ∷ cs) zero h = omega (arith, leb-true c k (and_parts _ _ h).0)
at_most k (c ∷ cs) (suc i) h = omega (arith, at_most (suc k) cs i (and_parts _ _ h).1)

-- a test that each element passes, and so what any place gives
pub passes_at : {X : Type 0} (test : X → Bool) (xs : List X) (i : ℕ) (d : X) → test d ≡ true → list_all test xs ≡ true → test (get_or xs i d) ≡ true
passes_at test [] i d e h = e
passes_at test (x ∷ xs) zero d e h = (and_parts _ _ h).0
passes_at test (x ∷ xs) (suc i) d e h = passes_at test xs i d e (and_parts _ _ h).1

row_climbs : (priority : ℕ) → climbs 0 (get_or class_table priority []) ≡ true
unfolding climbs
row_climbs priority = passes_at (climbs 0) class_table priority [] refl refl

pub class_below : ClassBelow
unfolding class_of
class_below classes priority some =
    omega (arith, at_most 0 (get_or class_table priority []) (classes - 1) (row_climbs priority))
