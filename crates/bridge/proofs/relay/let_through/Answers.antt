use Rattle.std.proofs.Common.{◌≡◌, ℕ, ◌<◌, Bool, not, ◌&&◌, ◌||◌, ap, ◌∙◌}
use Rattle.rules.specs.Ports.{has}
use Rattle.rules.specs.Relay.{entry_lets}
use Rattle.bridge.proofs.Opening.{opened}
use Rattle.bridge.proofs.relay.let_through.Goals as goal

pub returns : goal.returns
returns c p l =
    let set = c.args.set.now in
    let said = c.args.said.now in
    let known = c.args.known in
    c.union.ensures.each p
    ∙ ap (λ (t : Bool). t || has c.intersection-forced.result p) (c.let_by_entry.ensures p l ∙ ap (λ (t : Bool). t && entry_lets known p) (c.difference-unfiltered.ensures.each p))
    ∙ ap (λ (t : Bool). ((has set p && not (has said.filter p)) && entry_lets known p) || t) (c.intersection-forced.ensures.each p)
    ∙ opened (has set p) (has said.forward p) (has said.filter p) (entry_lets known p)
