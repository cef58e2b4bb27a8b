use Rattle.std.proofs.Common.{◌≡◌, ℕ, ◌+◌, ◌∙◌, ap, List, sym, refl, arith}
use Rattle.std.specs.List.{list_all}
use Rattle.table.specs.declared.entry.Entry.{Entry}
use Rattle.bridge.proofs.Flushing.{all_from_one, flushed_on, from_on, none_left}
use Rattle.bridge.proofs.learning.forget_all.Goals as goal

pub loop-fid-init : goal.loop-fid-init
loop-fid-init g c = record {
  left = all_from_one (g.T.Table.entries c.args.table.now) (g.met.T.Table.ranged c.args.table.now);
  share = refl;
}

pub loop-fid-preserved : goal.loop-fid-preserved
loop-fid-preserved g c =
    let l = c.loop-fid in
    record {
      left = ap (λ (es : List Entry). list_all (from_on (l.fid + 1)) es) c.flush.ensures.later ∙ flushed_on l.fid (g.T.Table.entries l.table) (omega arith) (omega arith) l.invariant.left;
      share = c.flush.ensures.share ∙ l.invariant.share;
    }

pub returns-clause-entries : goal.returns-clause-entries
returns-clause-entries g c =
    let l = c.loop-fid in
    let e : l.fid ≡ 17 = omega arith in
    none_left (g.T.Table.entries l.table) (g.met.T.Table.ranged l.table) (ap (λ (f : ℕ). list_all (from_on f) (g.T.Table.entries l.table)) (sym e) ∙ l.invariant.left)
