use Rattle.std.proofs.Common.{◌≡◌, ℕ, true, List, map, get_or, sym, ap, ◌∙◌}
use Rattle.frame.specs.Reading.{picture}
use Rattle.table.specs.declared.entry.Entry.{Entry}
use Rattle.rules.specs.Calls.{flood}
use Rattle.rules.specs.Relay.{decided, forwards}
use Rattle.rules.specs.declared.shape.Shape.{Shape}
use Rattle.bridge.proofs.Relaying.{decided_is, of_ports, relays, share_as}
use Rattle.bridge.proofs.States.{no_port, state_there}
use Rattle.bridge.specs.View.{settings_of, state_of}
use Rattle.bridge.specs.declared.port_state.Port.{Port}
use Rattle.bridge.proofs.bridge.Bridge.relay.Goals as goal

pub flood-requires-clause-ports : goal.flood-requires-clause-ports
flood-requires-clause-ports g c =
    let b = c.args.self.now in
    of_ports b.queues.shape.ports c.ports.result c.decided-decided.result (map (λ (port : Port). port.state) b.ports) c.args.from c.args.vlan.now.members c.said.result c.known_port.result
    (c.ports.ensures.value ∙ ap (λ (x : Shape). x.ports) c.shape.ensures) c.decided-decided.ensures

pub returns-clause-step : goal.returns-clause-step
returns-clause-step g c =
    let b = c.args.self.now in
    let q = c.args.from in
    let v = c.args.vlan.now in
    let p = picture c.args.frame.now in
    let σ = settings_of b in
    let s = state_of b c.args.memory.now in
    let set = c.decided-decided.result in
    let s1 = record s { entries = g.T.Table.entries c.known_port.new.table } in
    let f : forwards (get_or (map (λ (port : Port). port.state) b.ports) q no_port.state) ≡ true =
    ap forwards (state_there b.ports q) ∙ ap (λ (i : ℕ). forwards (get_or b.ports i no_port).state) (sym c.from.ensures) ∙ sym c.forwards.ensures ∙ c.if-not-forwards.false in
    let e : set ≡ decided σ s q v p.destination =
    c.decided-decided.ensures
    ∙ decided_is σ s q c.ports.result v p.destination c.said.result c.known_port.result (c.ports.ensures.value ∙ ap (λ (x : Shape). x.ports) c.shape.ensures) (c.said.ensures σ) c.known_port.ensures.answer in
    c.flood.ensures.step ∙ ap (λ (n : ℕ). flood (share_as σ n) s1 p v c.args.priority c.args.mark set) c.known_port.ensures.share
    ∙ ap (λ (es : List Entry). flood σ (record s { entries = es }) p v c.args.priority c.args.mark set) c.known_port.ensures.later
    ∙ relays σ s q p v c.args.priority c.args.mark set f (sym c.is_reserved.ensures ∙ c.if-is_reserved.false) e
