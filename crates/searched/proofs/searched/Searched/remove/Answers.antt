use Rattle.std.proofs.Common.{arith}
use Rattle.std.proofs.lemmas.List.{length-take-le}
use Rattle.table.specs.Records.{Orderly}
use Rattle.table.proofs.Records.{orderly_kept}
use Rattle.table.proofs.Implement.{gone_is, kept_is}
use Rattle.searched.specs.Records.{taken}
use Rattle.searched.specs.Sets.{orderly}
use Rattle.searched.proofs.searched.Searched.remove.Goals as goal

pub invariant_of-self : goal.invariant_of-self
invariant_of-self g c =
    let s = c.args.self.now in
    let o : Orderly s.share (taken c.retain-gone.new.self) = orderly_kept s.share g.test (taken s.rows) (taken c.retain-gone.new.self) (orderly s) c.retain-gone.ensures.later in
    record {
      long = omega (arith, c.retain-gone.ensures.room, s.long);
      ranged = o.ranged;
      apart = o.apart;
      fair = o.fair;
      dated = omega (arith, c.oldest-self.ensures);
    }

pub returns-clause-gone : goal.returns-clause-gone
returns-clause-gone g c =
    let s = c.args.self.now in
    let k = c.retain-gone.new.self in
    gone_is s.share g.test (taken s.rows) (taken k) _ (orderly s) c.retain-gone.ensures.later (omega (arith, c.retain-gone.ensures.gone, length-take-le s.rows.used s.rows.all.now s.rows.sits, length-take-le k.used k.all.now k.sits))

pub returns-clause-later : goal.returns-clause-later
returns-clause-later g c = kept_is _ g.test (taken c.args.self.now.rows) (taken c.retain-gone.new.self) (orderly c.args.self.now) c.retain-gone.ensures.later
