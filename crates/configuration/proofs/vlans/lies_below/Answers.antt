use Rattle.std.proofs.Common.{◌≡◌, true, false, nat_lt, sym, ◌∙◌, arith}
use Rattle.std.proofs.lemmas.Bool.{le-ltb}
use Rattle.std.specs.List.{list_all}
use Rattle.sets.specs.Sets.{members}
use Rattle.configuration.proofs.Members.{each_below}
use Rattle.configuration.proofs.vlans.lies_below.Goals as goal

pub returns-then-port-number : goal.returns-then-port-number
returns-then-port-number c =
    let none : list_all (λ p. nat_lt p c.args.number) (members c.args.set.now) ≡ false = grind (arith, le-ltb c.in-Some.port c.args.number c.if-port-number.true) in
    sym none ∙ each_below c.args.set.now c.args.number c.iter-port-items.ensures.size

pub returns : goal.returns
returns c =
    let all : list_all (λ p. nat_lt p c.args.number) (members c.args.set.now) ≡ true = grind arith in
    sym all ∙ each_below c.args.set.now c.args.number c.iter-port-items.ensures.size
