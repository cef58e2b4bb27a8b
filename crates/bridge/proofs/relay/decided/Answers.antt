use Rattle.std.proofs.Common.{◌≡◌, ℕ, ◌+◌, List, Bool, true, not, ◌&&◌, ◌==◌, map, get_or, nat_lt, slice_set, sym, ap, ◌∙◌, arith}
use Rattle.sets.proofs.ByNumber.{tried_adds, tried_skips}
use Rattle.rules.specs.Ports.{has}
use Rattle.rules.specs.Relay.{forwards}
use Rattle.rules.specs.declared.ports.PortState.{PortState}
use Rattle.bridge.specs.Decided.{goes_to, lets}
use Rattle.bridge.specs.declared.port_state.Port.{Port}
use Rattle.bridge.proofs.Opening.{asked_last}
use Rattle.bridge.proofs.States.{no_port, state_there}
use Rattle.bridge.proofs.relay.decided.Goals as goal
use Rattle.bridge.proofs.relay.decided.Goals.{then-contains-forwards, else-contains-forwards}

pub loop-index-preserved : goal.loop-index-preserved
loop-index-preserved c =
    let l = c.loop-index in
    let i = l.index in
    let ports = c.args.ports.now in
    let way = c.args.way.now in
    let f = goes_to way.count (map (λ (port : Port). port.state) ports) way.from way.members way.said way.known in
    let state = (get_or ports i no_port).state in
    let e : (c.contains.result && c.forwards.result) ≡ f i =
    ap (λ (t : Bool). t && c.forwards.result) (c.contains.ensures ∙ c.candidates-candidates.ensures i (omega arith))
    ∙ ap (λ (t : Bool). (nat_lt i way.count && not (i == way.from) && has way.members i && lets way.said way.known i) && t) c.forwards.ensures
    ∙ asked_last (nat_lt i way.count) (not (i == way.from)) (forwards state) (has way.members i) (lets way.said way.known i)
    ∙ ap (λ (s : PortState). nat_lt i way.count && not (i == way.from) && forwards s && has way.members i && lets way.said way.known i) (sym (state_there ports i)) in
    elim c.if-contains-forwards.branch [
      | then-contains-forwards w ↦
          w.set-is ∙ w.insert.ensures ∙ ap (λ (set : List Bool). slice_set set i true) l.invariant
          ∙ tried_adds f 16 i (sym e ∙ w.if-contains-forwards.true)
      | else-contains-forwards w ↦ w.set-is ∙ l.invariant ∙ tried_skips f 16 i (sym e ∙ w.if-contains-forwards.false)
    ]
