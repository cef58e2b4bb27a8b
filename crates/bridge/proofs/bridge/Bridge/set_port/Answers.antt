use Rattle.std.proofs.Common.{ℕ, List, ap, ◌∙◌, arith}
use Rattle.rules.specs.Setup.{with_port}
use Rattle.rules.specs.declared.ports.PortSettings.{PortSettings}
use Rattle.bridge.specs.View.{settings_of}
use Rattle.bridge.proofs.States.{as_made_still, priorities_set, settings_set}
use Rattle.bridge.proofs.bridge.Bridge.set_port.Goals as goal

pub invariant_of-self-clause-priorities : goal.invariant_of-self-clause-priorities
invariant_of-self-clause-priorities g c = priorities_set c.args.self.now.ports c.from.result _ (omega arith) c.args.self.now.priorities

pub invariant_of-self-clause-as_made : goal.invariant_of-self-clause-as_made
invariant_of-self-clause-as_made g c e =
    let b = c.args.self.now in as_made_still b.clock b.ports c.from.result c.args.settings b.queues (b.as_made e)

pub returns-clause-settings : goal.returns-clause-settings
returns-clause-settings g c =
    let b = c.args.self.now in
    let σ = settings_of b in
    ap (λ (port : List PortSettings). record σ { port = port }) (settings_set b.ports c.from.result c.args.settings)
    ∙ ap (λ (p : ℕ). with_port σ p c.args.settings) c.from.ensures
