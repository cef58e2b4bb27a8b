use Rattle.std.proofs.Common.{List, refl, subst, sym, arith}
use Rattle.rules.specs.declared.vlans.Vlan.{Vlan}
use Rattle.configuration.specs.Indexed.{Indexed}
use Rattle.configuration.proofs.Index.{none_indexed}
use Rattle.configuration.proofs.vlans.Vlans.new.Goals as goal

pub invariant_of-result : goal.invariant_of-result
invariant_of-result c =
    let P : List Vlan → Type 0 = λ vs. Indexed c.in_ok-vec.field-0.items vs in (
      subst P (sym c.in_ok-with_capacity.ensures.items) (none_indexed c.in_ok-vec.field-0.items 4095 (c.in_ok-vec.ensures.items_if_clones_equal (λ y e. e)) refl),
      omega (arith, c.in_ok-with_capacity.ensures.exact),
    )
