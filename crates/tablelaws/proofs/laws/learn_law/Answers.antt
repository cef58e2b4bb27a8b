use Rattle.std.proofs.Common.{refl}
use Rattle.tablelaws.proofs.Follow.{learns}
use Rattle.tablelaws.proofs.laws.learn_law.Goals as goal

pub returns : goal.returns
returns g c = learns _ _ _ _ _ _ _ _ refl refl (g.met.T.Table.rising c.args.table.now) (g.met.T.Table.fair c.args.table.now)
