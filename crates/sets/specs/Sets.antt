-- A set of numbers is a list of flags: the flag at place 0 is for 0, and so on. Past the end of the list
-- every flag counts as false, so no other number is in it. What the methods of a set answer is said of
-- these flags alone, and of the order in which they look at the numbers.
use Rattle.std.specs.Prelude.{ℕ, ◌+◌, ◌%◌, zero, suc, Bool, false, true, cond, not, ◌&&◌, ◌||◌, List, [], ◌∷◌, length, filter, find, map, Option, slice_index_or}
use Rattle.std.specs.List.{range_with_len}
use mathlib.Core.Bool.{beq}

-- whether the number is in the set
abbrev pub holds : List Bool → ℕ → Bool
holds held number = slice_index_or held number false

-- whether any number is in the set
abbrev pub any_in : List Bool → Bool
any_in [] = false
any_in (flag ∷ flags) = cond flag true (any_in flags)

-- whether two flags are the same
abbrev pub same_flag : Bool → Bool → Bool
same_flag = beq

-- two sets of one size, flag by flag
abbrev pub flag_by_flag : (Bool → Bool → Bool) → List Bool → List Bool → List Bool
flag_by_flag both [] others = []
flag_by_flag both (flag ∷ flags) [] = []
flag_by_flag both (flag ∷ flags) (other ∷ others) = both flag other ∷ flag_by_flag both flags others

abbrev pub union : List Bool → List Bool → List Bool
union = flag_by_flag (λ flag other. flag || other)

abbrev pub intersection : List Bool → List Bool → List Bool
intersection = flag_by_flag (λ flag other. flag && other)

-- the numbers of the first set that are not in the second
abbrev pub difference : List Bool → List Bool → List Bool
difference = flag_by_flag (λ flag other. flag && not other)

-- the numbers below n, the lowest first
abbrev pub rising : ℕ → List ℕ
rising n = range_with_len 0 n

-- the numbers below n, the highest first
abbrev pub falling : ℕ → List ℕ
falling zero = []
falling (suc n) = n ∷ falling n

-- the numbers below n in the order of their turns: upward from the one after `last`, and from n - 1 on to
-- 0, so that `last` itself comes last
abbrev pub going_round : ℕ → ℕ → List ℕ
going_round n last = map (λ steps. (last + steps) % n) (range_with_len 1 n)

-- the first number, in the order given, that is in the set
abbrev pub first_held : List ℕ → List Bool → Option ℕ
first_held order held = find (holds held) order

-- the numbers in the set, the lowest first
abbrev pub members : List Bool → List ℕ
members held = filter (holds held) (rising (length held))
