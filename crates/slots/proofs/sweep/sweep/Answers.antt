use Rattle.std.proofs.Common.{arith, ap, ◌∙◌, length, ◌<◌, set}
use Rattle.std.proofs.lemmas.List.{get_or_default}
use Rattle.std.proofs.lemmas.List.Edits.{map_over_more}
use Rattle.slots.specs.Sweep.{heard_later}
use Rattle.slots.proofs.sweep.sweep.Goals as goal

pub loop-record-preserved : goal.loop-record-preserved
loop-record-preserved c =
    let ys = c.loop-record.records in
    let i = c.loop-record.record-index in
    let within : i < length ys = omega arith in
    ap (set ys i) c.sift.ensures ∙ map_over_more (heard_later c.args.limit) _ ys i _ c.loop-record-test.true c.loop-record.invariant (get_or_default ys i _ _ within)
