use Rattle.std.proofs.Common.{◌≡◌, ◌<◌, ◌≤◌, length, get_or, subst, sym, arith}
use Rattle.std.proofs.lemmas.List.{get_or_read}
use Rattle.queues.specs.declared.label.Label.{Label}
use Rattle.queues.specs.Rings.{no_label}
use Rattle.queues.proofs.queues.Queues.label.Goals as goal

pub returns : goal.returns
returns c =
    let b = c.args.self.now in
    let n = c.args.cell in
    let lt : n < length b.labels.items = omega (arith, b.labels.ok.0, c.requires) in
    let read : c.index.result.now ≡ get_or b.labels.items n no_label = get_or_read b.labels.items n c.index.result.now lt c.index.ensures no_label in
    record { is = read; short = subst (λ (r : Label). r.length ≤ 1518) (sym read) (b.short.each n) }
