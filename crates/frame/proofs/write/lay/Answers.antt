use Rattle.std.proofs.Common.{◌≡◌, ◌+◌, ◌-◌, ◌≤◌, length, sym, ◌∙◌, arith, rules}
use Rattle.frame.specs.Reading.{picture}
use Rattle.frame.specs.Writing.{frame_of}
use Rattle.frame.proofs.Back.{reads_back, size_of_lem}
use Rattle.frame.proofs.Placed.{lent, stands}
use Rattle.frame.proofs.Room.{length_is, lies, shape_of}
use Rattle.frame.proofs.write.lay.Goals as goal

pub returns : goal.returns
returns c =
    let m = c.args.memory.now in
    let at = c.args.at in
    let n = c.args.size in
    let q = picture c.args.parts.now in
    let w = c.requires in
    let hd : length q.destination ≡ 6 = search rules in
    let hs : length q.source ≡ 6 = search rules in
    let l : length (frame_of q) ≡ n = size_of_lem q hd hs ∙ sym (length_is (length m) at n q w) in
    let k : (at + n) - at ≡ n = omega arith in
    let e = lent at ((at + n) - at) m _ (frame_of q) c.fill.ensures (l ∙ sym k) in
    let h : at ≤ length m = omega (arith, lies (length m) at n q w) in
    let s = stands m at (frame_of q) n h l in
    record { after = e; reads_back = rw (e, s) (reads_back q hd hs (shape_of (length m) at n q w)) }
