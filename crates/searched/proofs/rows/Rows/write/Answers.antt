use Rattle.std.proofs.Math.Seq.{take-set-lt}
use Rattle.searched.proofs.rows.Rows.write.Goals as goal

pub returns-clause-later : goal.returns-clause-later
returns-clause-later c = take-set-lt _ _ _ _ c.requires
