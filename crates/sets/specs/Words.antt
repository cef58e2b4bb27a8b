-- How a word keeps a set: the lowest bit is the flag of 0, the next that of 1, and so on. The word and
-- the flags say the same: `word_of` gives the word back (`Inverse`). No contract speaks of the word.
use Rattle.std.specs.Prelude.{ℕ, ◌+◌, ◌*◌, ◌/◌, ◌%◌, ◌==◌, Bool, cond, List, [], ◌∷◌, zero, suc, min}

-- the flags of the lowest n bits
abbrev pub flags_of : ℕ → ℕ → List Bool
flags_of zero word = []
flags_of (suc n) word = (word % 2 == 1) ∷ flags_of n (word / 2)

-- the word that has just these flags
abbrev pub word_of : List Bool → ℕ
word_of [] = 0
word_of (flag ∷ flags) = cond flag 1 0 + 2 * word_of flags

-- a set of numbers below n has this many flags, since its word has no more bits than sixteen
abbrev pub width : ℕ → ℕ
width n = min n 16
