-- A word below 2 ^ n is found again from its lowest n bits. So a set that is seen as its flags can be
-- copied and compared.
use Rattle.std.proofs.Common.{◌≡◌, ℕ, ◌/◌, ◌%◌, ◌^◌, ◌<◌, ◌==◌, zero, suc, cond, add-one, arith}
use Rattle.std.proofs.lemmas.Nat.{shr_below}
use Rattle.std.proofs.lemmas.Bool.Decides.{nat_tests}
use Rattle.sets.specs.Words.{flags_of, word_of}

lowest_bit : (word : ℕ) → cond (word % 2 == 1) 1 0 ≡ word % 2
lowest_bit word = grind (arith, nat_tests)

pub half_below : (n word : ℕ) → word < 2 ^ suc n → word / 2 < 2 ^ n
half_below n word h = shr_below word n 1 (rw add-one h)

pub word_of-flags_of : (n word : ℕ) → word < 2 ^ n → word_of (flags_of n word) ≡ word
word_of-flags_of zero word h = omega arith
word_of-flags_of (suc n) word h =
    let rest : word_of (flags_of n (word / 2)) ≡ word / 2 = word_of-flags_of n (word / 2) (half_below n word h) in
    omega (arith, lowest_bit word, rest)
