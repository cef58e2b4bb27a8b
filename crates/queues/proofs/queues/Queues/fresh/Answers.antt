use Rattle.std.proofs.Common.{◌≡◌, ℕ, ◌*◌, Bool, List, length, replicate, vec_len, sym, ap, ◌∙◌, arith}
use lib.ListN.{length-replicate}
use Rattle.queues.specs.declared.label.Label.{Label}
use Rattle.queues.specs.declared.ring.Ring.{Ring}
use Rattle.queues.specs.Standing.{queues_of, slots_of}
use Rattle.queues.proofs.Fresh.{fresh_agree, fresh_frames, fresh_round, fresh_short, fresh_slots}
use Rattle.queues.proofs.queues.Queues.fresh.Goals as goal

pub invariant_of-result : goal.invariant_of-result
invariant_of-result c =
    let shape = c.args.shape in
    let rings = c.args.rings in
    let labels = c.args.labels in
    let queues : vec_len rings ≡ shape.ports * shape.classes = omega (arith, rings.ok.0, simp length-replicate at (ap (length {A = Ring}) c.requires.rings)) in
    let slots : vec_len labels ≡ shape.ports * shape.classes * shape.depth = omega (arith, labels.ok.0, simp length-replicate at (ap (length {A = Label}) c.requires.labels)) in
    record {
      size = c.memory_needed.ensures;
      queues = queues;
      cells = slots ∙ ap (λ (k : ℕ). k * shape.depth) (sym queues);
      round = fresh_round shape rings.items _ c.requires.rings;
      short = fresh_short labels.items _ c.requires.labels;
      agree = fresh_agree shape rings.items _ c.requires.rings _ (ap (λ (x : List Bool). replicate 16 x) c.empty.ensures);
    }

pub returns-clause-queues : goal.returns-clause-queues
unfolding queues_of
returns-clause-queues c m = fresh_frames c.args.shape c.args.rings.items _ c.requires.rings c.args.labels.items m

pub returns-clause-slots : goal.returns-clause-slots
unfolding slots_of
returns-clause-slots c = fresh_slots c.args.shape c.args.rings.items _ c.requires.rings
