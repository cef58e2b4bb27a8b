use Rattle.std.proofs.Common.{arith}
use Rattle.std.proofs.lemmas.Bool.{leb-false}
use Rattle.table.specs.Calls.{heard_after}
use Rattle.table.proofs.Implement.{kept_is}
use Rattle.searched.specs.Records.{taken}
use Rattle.searched.proofs.Oldest.{none_due}
use Rattle.searched.specs.Sets.{orderly}
use Rattle.searched.proofs.searched.Searched.is_due.Goals as goal

pub returns-clause-idle : goal.returns-clause-idle
returns-clause-idle c =
    let s = c.args.self.now in
    λ h. kept_is _ (heard_after c.args.limit) (taken s.rows) (taken s.rows) (orderly s) (none_due c.args.limit (taken s.rows) (omega (arith, s.dated, leb-false s.oldest c.args.limit h)))
