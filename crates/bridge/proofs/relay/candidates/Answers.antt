use Rattle.std.proofs.Common.{◌≡◌, ℕ, ◌<◌, Bool, false, List, not, ◌&&◌, ◌==◌, nat_lt, ap, ◌∙◌, arith}
use Rattle.std.proofs.lemmas.List.FromFn.{get_or-map-range_with_len}
use Rattle.rules.specs.Ports.{Ports, has}
use Rattle.bridge.specs.Decided.{lets}
use Rattle.bridge.proofs.Opening.{same_either_way}
use Rattle.bridge.proofs.relay.candidates.Goals as goal

pub returns : goal.returns
returns c p l =
    let way = c.args.way.now in
    let below : has c.below.result p ≡ nat_lt p way.count =
    ap (λ (set : Ports). has set p) c.below.ensures ∙ get_or-map-range_with_len (λ (k : ℕ). nat_lt k way.count) 0 16 p p false l (omega arith) in
    c.let_through.ensures p l
    ∙ ap (λ (t : Bool). t && lets way.said way.known p)
    (c.intersection.ensures.each p
    ∙ ap (λ (t : Bool). t && has way.members p)
    (c.difference-others.ensures.each p
    ∙ ap (λ (t : Bool). t && not (has c.only.result p)) below
    ∙ ap (λ (t : Bool). nat_lt p way.count && not t) (c.only.ensures p l ∙ same_either_way way.from p)))
