use Rattle.std.proofs.Common.{List, Some, get_or, sym, ap, ◌∙◌, arith}
use Rattle.table.specs.declared.entry.Entry.{Entry}
use Rattle.table.specs.Entries.{free_entry}
use Rattle.table.specs.Records.{Orderly}
use Rattle.table.specs.Rising.{rising}
use Rattle.table.proofs.Records.{orderly_written}
use Rattle.searched.specs.Sets.{renewed}
use Rattle.searched.specs.Records.{taken}
use Rattle.searched.proofs.Oldest.{oldest_written}
use Rattle.searched.specs.Sets.{orderly}
use Rattle.searched.proofs.Places.{looked, written_at, renewed_at}
use Rattle.searched.proofs.searched.Searched.refresh.Goals as goal

pub returns-in_err-at-clause-answer : goal.returns-in_err-at-clause-answer
returns-in_err-at-clause-answer c = let e = c.args.entry in c.from_residual.ensures ∙ sym (ap (λ o. renewed o e.port) (looked (taken c.args.self.now.rows) e.key.fid e.key.address free_entry c.in_err-at.was c.place.ensures))

pub invariant_of-self : goal.invariant_of-self
invariant_of-self c =
    let s = c.args.self.now in
    let e = c.args.entry in
    let w = c.write.ensures.later ∙ written_at (taken s.rows) e.key.fid e.key.address e.port e.heard c.in_ok-at.was c.place.ensures in
    let o : Orderly s.share (taken c.write.new.self) = orderly_written s.share (taken s.rows) (taken c.write.new.self) e.key.fid e.key.address e.port e.heard (orderly s) w in
    record {
      long = omega (arith, c.write.ensures.room, s.long);
      ranged = o.ranged;
      apart = o.apart;
      fair = o.fair;
      dated = oldest_written (taken s.rows) (taken c.write.new.self) e.key.fid e.key.address e.port e.heard _ _ w s.dated c.min-self.ensures;
    }

pub returns-clause-answer : goal.returns-clause-answer
returns-clause-answer c =
    let e = c.args.entry in
    ap Some c.again_at-mark.ensures ∙ ap (λ (l : List Entry). renewed (Some (get_or l c.in_ok-at.at _)) e.port) c.entries.ensures ∙ sym (ap (λ o. renewed o e.port) (looked (taken c.args.self.now.rows) e.key.fid e.key.address _ c.in_ok-at.was c.place.ensures))

pub returns-clause-later : goal.returns-clause-later
returns-clause-later c = let e = c.args.entry in ap rising c.write.ensures.later ∙ renewed_at (taken c.args.self.now.rows) e.key.fid e.key.address e.port e.heard c.in_ok-at.was c.place.ensures
