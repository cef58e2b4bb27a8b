use Rattle.std.proofs.Common.{◌∙◌}
use Rattle.hashed.proofs.Calls.{cuts, found, part_apart}
use Rattle.hashed.proofs.hashed.Hashed.port_at.Goals as goal

pub find-requires-clause-apart : goal.find-requires-clause-apart
find-requires-clause-apart c = part_apart (cuts c.args.self.now c.args.row c.stretch-stretch.ensures)

pub returns : goal.returns
returns c = c.find.ensures ∙ found (cuts c.args.self.now c.args.row c.stretch-stretch.ensures) c.args.key.fid c.args.key.address c.requires
