use Rattle.std.proofs.Common.{◌≡◌, sym, ap, ◌∙◌, rules}
use Rattle.std.proofs.lemmas.List.{take-append-drop}
use Rattle.frame.specs.Writing.{put_at, tag_bytes}
use Rattle.frame.proofs.Placed.{parts}
use Rattle.frame.proofs.write.fill.Goals as goal
use Rattle.frame.proofs.write.fill.Goals.{in-Some, in_default}

pub returns : goal.returns
returns c =
    let p = c.args.parts.now in
    let m = c.put-2.new.memory in
    let tagged : c.match-parts.frame ≡ put_at m 12 (tag_bytes p.tag) =
    elim c.match-parts.branch [
      | in-Some w ↦ rw w.in-Some.is (w.frame-is ∙ w.put-in-Some.ensures ∙ ap (put_at m 12) w.tag_bytes.ensures)
      | in_default w ↦ rw w.in_default.is (w.frame-is ∙ sym (take-append-drop 12 m))
    ] in
    parts c.args.frame.now p.destination p.source p.tag p.body.now _ _ _ _ _ c.places-places.ensures (search rules) (search rules)
    c.requires.size c.put.ensures c.put-2.ensures tagged c.put-3.ensures
