use Rattle.std.proofs.Common.{◌≡◌, ℕ, List, Bool, true, slice_set, slice_index, nat_lt, ap, ◌∙◌, arith}
use Rattle.std.proofs.lemmas.Bool.{lt-ltb, le-ltb}
use Rattle.sets.proofs.ByNumber.{tried_adds, tried_skips}
use Rattle.sets_checks.proofs.uses.queued.Goals as goal
use Rattle.sets_checks.proofs.uses.queued.Goals.{then-lengths-from-gt0, else-lengths-from-gt0}

pub loop-class-preserved : goal.loop-class-preserved
loop-class-preserved c =
    let l = c.loop-class in
    let f : ℕ → Bool = λ class. nat_lt 0 (slice_index c.args.lengths.now class) in
    let at : slice_index c.args.lengths.now c.from.result ≡ slice_index c.args.lengths.now l.class = ap (slice_index c.args.lengths.now) c.from.ensures in
    elim c.if-lengths-from-gt0.branch [
      | then-lengths-from-gt0 w ↦
          w.set-is ∙ w.insert.ensures ∙ ap (λ (set : List Bool). slice_set set l.class true) l.invariant
          ∙ tried_adds f 8 l.class (lt-ltb 0 (slice_index c.args.lengths.now l.class) (omega (arith, w.if-lengths-from-gt0.true, at)))
      | else-lengths-from-gt0 w ↦
          w.set-is ∙ l.invariant
          ∙ tried_skips f 8 l.class (le-ltb 0 (slice_index c.args.lengths.now l.class) (omega (arith, w.if-lengths-from-gt0.false, at)))
    ]
