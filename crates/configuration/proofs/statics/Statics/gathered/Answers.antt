use Rattle.std.proofs.Common.{◌≡◌, ◌&&◌, List, cond, subst, sym, ◌∙◌}
use Rattle.std.proofs.lemmas.Bool.{cond-true, cond-false}
use Rattle.std.specs.List.{AllByRecursion}
use Rattle.std.specs.Str.{bytes_eq}
use Rattle.rules.specs.Settings.{is_of, vlan_of}
use Rattle.rules.specs.declared.vlans.StaticEntry.{StaticEntry}
use Rattle.configuration.specs.Saying.{both_said, with_these}
use Rattle.configuration.specs.Searched.{Alone}
use Rattle.configuration.proofs.Entries.{gathered_all, last_row, next_row}
use Rattle.configuration.proofs.statics.Statics.gathered.Goals as goal
use Rattle.configuration.proofs.statics.Statics.gathered.Goals.{then-speaks_of, else-speaks_of}

pub loop-row-preserved : goal.loop-row-preserved
loop-row-preserved c =
    let l = c.loop-row in
    let row = c.row-item.result in
    let test = bytes_eq row.entry.address c.args.address && is_of c.args.fid (vlan_of c.args.vlans.now row.entry.vid) in
    let next : c.if-speaks_of.said ≡ cond test (both_said l.said row.said) l.said =
    elim c.if-speaks_of.branch [
      | then-speaks_of w ↦ w.said-is ∙ w.and-said.ensures ∙ sym (cond-true test (both_said l.said row.said) l.said (sym c.speaks_of.ensures ∙ w.if-speaks_of.true))
      | else-speaks_of w ↦ w.said-is ∙ sym (cond-false test (both_said l.said row.said) l.said (sym c.speaks_of.ensures ∙ w.if-speaks_of.false))
    ] in
    next_row c.args.vlans.now c.args.fid c.args.address c.deref-row-items.result.now l.row-index row l.said c.if-speaks_of.said c.loop-row-test.true c.row-item.is next
    ∙ l.invariant

pub returns : goal.returns
returns c σ =
    let vs = c.args.vlans.now in
    let es = c.args.self.now in
    let l = c.loop-row in
    let alone : AllByRecursion (Alone es) es = let P : List StaticEntry → Type 0 = λ ds. AllByRecursion (Alone ds) ds in subst P c.self.view_is c.self.invariant.0.alone in
    sym (last_row vs c.args.fid c.args.address c.deref-row-items.result.now l.row-index l.said c.loop-row-test.false)
    ∙ l.invariant
    ∙ gathered_all (with_these σ vs es) c.args.fid c.args.address alone
