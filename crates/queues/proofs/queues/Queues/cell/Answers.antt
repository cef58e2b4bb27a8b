use Rattle.std.proofs.Common.{◌≡◌, ◌<◌, ◌≤◌, ℕ, ◌+◌, ◌*◌, length, sym, subst, ap, ◌∙◌, arith}
use Rattle.queues.specs.Rings.{needed_for, number_of}
use Rattle.queues.proofs.Within.{cell_fits, label_within}
use Rattle.queues.proofs.queues.Queues.cell.Goals as goal

pub returns : goal.returns
returns c =
    let b = c.args.self.now in
    let n = number_of b.shape c.args.port c.args.class in
    let depth : c.from.result ≡ b.shape.depth = c.from.ensures ∙ c.depth.ensures.value in
    let is : c.number.result * c.from.result + c.from-2.result ≡ n * b.shape.depth + c.args.slot =
    ap (λ (k : ℕ). k * c.from.result + c.from-2.result) c.number.ensures.is ∙ ap (λ (k : ℕ). n * k + c.from-2.result) depth ∙ ap (λ (k : ℕ). n * b.shape.depth + k) c.from-2.ensures in
    let w : n * b.shape.depth + c.args.slot < length b.labels.items = label_within b c.args.port c.args.class c.args.slot c.requires.queue c.requires.slot in
    let f = cell_fits b c.args.port c.args.class c.args.slot c.requires.queue c.requires.slot (needed_for b.shape) (omega arith) in
    record {
      is = is;
      within = omega (arith, is, w, b.labels.ok.0);
      fits = subst (λ (k : ℕ). 1518 * k + 1518 ≤ needed_for b.shape) (sym is) f;
    }
