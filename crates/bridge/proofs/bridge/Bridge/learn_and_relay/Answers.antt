use Rattle.std.proofs.Common.{◌≡◌, ℕ, true, List, map, get_or, sym, ap, ◌∙◌}
use Rattle.frame.specs.Reading.{picture}
use Rattle.table.specs.declared.entry.Entry.{Entry}
use Rattle.rules.specs.Calls.{relay}
use Rattle.rules.specs.Relay.{learns}
use Rattle.bridge.proofs.Learns.{laid_alike, learnings}
use Rattle.bridge.proofs.Relaying.{share_as}
use Rattle.bridge.proofs.States.{no_port, state_there}
use Rattle.bridge.specs.LaidBy.{laid_by}
use Rattle.bridge.specs.View.{settings_of, state_of}
use Rattle.bridge.specs.declared.port_state.Port.{Port}
use Rattle.bridge.proofs.bridge.Bridge.learn_and_relay.Goals as goal

pub returns-clause-step : goal.returns-clause-step
returns-clause-step g c =
    let b = c.args.self.now in
    let q = c.args.from in
    let v = c.args.vlan.now in
    let p = picture c.args.frame.now in
    let σ = settings_of b in
    let s = state_of b c.args.memory.now in
    let f : learns (get_or (map (λ (port : Port). port.state) b.ports) q no_port.state) ≡ true =
    ap learns (state_there b.ports q) ∙ ap (λ (i : ℕ). learns (get_or b.ports i no_port).state) (sym c.from.ensures) ∙ sym c.learns.ensures ∙ c.if-not-learns.false in
    c.relay.ensures.step ∙ ap (λ (n : ℕ). relay (share_as σ n) (record s { entries = g.T.Table.entries c.learn-mark.new.table }) q p v c.args.priority c.learn-mark.result) c.learn-mark.ensures.share
    ∙ ap (λ (es : List Entry). relay σ (record s { entries = es }) q p v c.args.priority c.learn-mark.result) c.learn-mark.ensures.later
    ∙ learnings σ s q p v c.args.priority c.is_learnable-learnable.result c.learn-mark.result f c.is_learnable-learnable.ensures c.learn-mark.ensures.answer

pub returns-clause-memory : goal.returns-clause-memory
returns-clause-memory g c =
    let b = c.args.self.now in
    let m = c.args.memory.now in
    let v = c.args.vlan.now in
    let p = picture c.args.frame.now in
    let σ = settings_of b in
    let s = state_of b m in
    let es = g.T.Table.entries c.learn-mark.new.table in
    c.relay.ensures.memory ∙ ap (λ (n : ℕ). laid_by (share_as σ n) (record s { entries = es }) p v c.relay.result m) c.learn-mark.ensures.share ∙ laid_alike σ s es p v c.relay.result m
