use Rattle.std.proofs.Common.{◌≡◌, ◌∷◌, ◌++◌, [], suc, set, length, List, ap, subst, sym, arith}
use Rattle.rules.specs.declared.vlans.Vlan.{Vlan}
use Rattle.configuration.specs.Indexed.{Addable, Indexed}
use Rattle.configuration.proofs.Index.{one_more}
use Rattle.configuration.proofs.vlans.Vlans.put.Goals as goal

pub push_reserved-requires : goal.push_reserved-requires
push_reserved-requires c =
    omega (arith, c.requires.room, ap length c.self.view_is, c.self.inside.records.ok.0, c.self.invariant.1)

pub invariant_of-self : goal.invariant_of-self
invariant_of-self c =
    let vs : List Vlan = c.self.inside.records.items in
    let may : Addable vs c.args.vlan = let P : List Vlan → Type 0 = λ us. Addable us c.args.vlan in subst P (sym c.self.view_is) c.requires in
    let last : c.len.result ≡ suc (length vs) = omega (arith, c.len.ensures, c.push_reserved.ensures.len, c.self.inside.records.ok.0) in
    let more : Indexed (set c.self.inside.index.items c.args.vlan.vid c.len.result) (vs ++ c.args.vlan ∷ []) = one_more c.self.inside.index.items vs c.args.vlan c.len.result c.self.invariant.0 may last in
    (rw (c.from-vid.ensures, c.push_reserved.ensures.items) more, omega (arith, c.push_reserved.ensures.capacity, c.self.invariant.1))
