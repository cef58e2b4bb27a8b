use Rattle.std.proofs.Common.{◌≡◌, ◌<◌, ◌≤◌, false, length, replicate, sym, ap, ◌∙◌, arith, rules}
use Rattle.std.proofs.lemmas.List.{get_or_default, get_or_past}
use Rattle.queues.specs.Rings.{classes_in}
use Rattle.queues.proofs.queues.Queues.held.Goals as goal

pub returns-then-port-lt-PORTS : goal.returns-then-port-lt-PORTS
returns-then-port-lt-PORTS c =
    let b = c.args.self.now in
    let sixteen : length b.holding ≡ 16 = search rules in
    let small : c.from-port.result < length b.holding = omega (arith, sixteen, c.if-port-lt-PORTS.true) in
    get_or_default b.holding c.from-port.result c.index-self-port.result (replicate 8 false) small ∙ b.agree.each c.from-port.result ∙ ap (classes_in b.shape b.rings.items) c.from-port.ensures

pub returns-else-port-lt-PORTS : goal.returns-else-port-lt-PORTS
returns-else-port-lt-PORTS c =
    let b = c.args.self.now in
    let sixteen : length b.holding ≡ 16 = search rules in
    let past : length b.holding ≤ c.args.port = omega (arith, sixteen, c.if-port-lt-PORTS.false, c.from-port.ensures) in
    c.empty.ensures ∙ sym (get_or_past b.holding c.args.port (replicate 8 false) past) ∙ b.agree.each c.args.port
