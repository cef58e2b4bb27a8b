use Rattle.std.proofs.Common.{◌≡◌, ◌∷◌, ◌++◌, [], true, List, map, set, arith, subst, sym, ap, ◌∙◌}
use Rattle.std.proofs.lemmas.List.{map-append}
use Rattle.rules.specs.declared.vlans.StaticEntry.{StaticEntry}
use Rattle.configuration.specs.Searched.{Fresh, Searched}
use Rattle.configuration.specs.declared.row.Row.{Row}
use Rattle.configuration.proofs.Entries.{one_searched}
use Rattle.configuration.proofs.statics.Statics.put.Goals as goal

pub invariant_of-self : goal.invariant_of-self
invariant_of-self c =
    let rows : List Row = c.self.inside.rows.items in
    let es : List StaticEntry = map (λ (row : Row). row.entry) rows in
    let may : Fresh es c.args.entry = let P : List StaticEntry → Type 0 = λ ds. Fresh ds c.args.entry in subst P (sym c.self.view_is) c.requires in
    let more : Searched (set c.self.inside.endings c.from.result true) (es ++ c.args.entry ∷ []) = one_searched c.self.inside.endings es c.args.entry c.from.result c.self.invariant.0 may c.from.ensures (omega (arith, c.self.told)) in
    let later : map (λ (row : Row). row.entry) c.push_reserved.new.self.items ≡ es ++ c.args.entry ∷ [] =
    ap (map (λ (row : Row). row.entry)) c.push_reserved.ensures.items ∙ map-append (λ (row : Row). row.entry) rows (c.new.result ∷ []) ∙ ap (λ (e : StaticEntry). es ++ e ∷ []) c.new.ensures in
    (let P : List StaticEntry → Type 0 = λ ds. Searched (set c.self.inside.endings c.from.result true) ds in subst P (sym later) more, omega (arith, c.push_reserved.ensures.capacity, c.self.invariant.1))
