use Rattle.std.proofs.Common.{◌∙◌}
use Rattle.configuration.specs.Saying.{with_these}
use Rattle.configuration.proofs.Entries.{nothing_said}
use Rattle.configuration.proofs.statics.Statics.said.Goals as goal

pub returns-then-not-may_have : goal.returns-then-not-may_have
returns-then-not-may_have c σ =
    c.nothing.ensures ∙ nothing_said (with_these σ c.args.vlans.now c.args.self.now) c.args.vlan.now c.args.destination (c.may_have.ensures c.if-not-may_have.true)
