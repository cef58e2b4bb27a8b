use Rattle.std.proofs.Common.{◌≡◌, ℕ, zero, ◌-◌, ◌*◌, ◌%◌, ◌^◌, ◌<◌, ◌≤◌, min, subst, sym, ap, ◌∙◌, arith}
use Rattle.std.proofs.Math.Nat.{pow-le-pow_right}
use Rattle.std.proofs.Math.Pow.{pow-sub-lt}
use Rattle.std.proofs.lemmas.Nat.{one_shl}
use Rattle.sets.specs.Words.{flags_of, width}
use Rattle.sets.proofs.Flags.{flags_below}
use Rattle.sets.proofs.number_set.NumberSet.below.Goals as goal

ones : (k n : ℕ) → k ≤ n → n ≤ 16 → (1 * 2 ^ k % 2 ^ 32 - 1 ≡ 2 ^ k - 1) × (2 ^ k - 1 < 2 ^ n)
ones k n within fits =
    let less : 2 ^ k - 1 < 2 ^ k = pow-sub-lt k (omega arith) in
    let most : 2 ^ k ≤ 2 ^ n = pow-le-pow_right (omega arith) within in
    (ap (λ (word : ℕ). word - 1) (one_shl k 32 (omega arith)), omega (arith, less, most))

pub invariant_of-result : goal.invariant_of-result
invariant_of-result g c =
    let k = c.min-bits.result in
    let n = width g.row.N in
    let o = ones k n (omega (arith, c.min-bits.ensures, c.min.ensures)) (omega arith) in
    subst (λ (word : ℕ). word < 2 ^ n) (sym o.0) o.1

pub returns : goal.returns
returns g c =
    let k = c.min-bits.result in
    let n = width g.row.N in
    let o = ones k n (omega (arith, c.min-bits.ensures, c.min.ensures)) (omega arith) in
    ap (flags_of n) o.0 ∙ flags_below n k c.args.end (omega (arith, c.min-bits.ensures, c.min.ensures, c.from.ensures))
