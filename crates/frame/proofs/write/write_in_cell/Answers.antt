use Rattle.std.proofs.Common.{◌≡◌, ℕ, ◌+◌, ◌-◌, ◌≤◌, length, take, drop, Ok, sym, refl, ◌∙◌, arith, length-drop, length-take, rules}
use Rattle.std.proofs.lemmas.Bool.Decides.{nat_tests}
use Rattle.frame.specs.Reading.{picture}
use Rattle.fault.specs.Asked.{changed}
use Rattle.frame.specs.Writing.{cell_room, frame_of, put_at, write_answer}
use Rattle.frame.proofs.Back.{size_of_lem}
use Rattle.frame.proofs.Placed.{cell as lend}
use Rattle.frame.proofs.Room.{in_a_cell, length_is}
use Rattle.frame.proofs.write.write_in_cell.Goals as goal

pub returns-clause-after : goal.returns-clause-after
returns-clause-after c =
    let m = c.args.memory.now in
    let a = c.args.place in
    let q = picture c.args.parts.now in
    let i : a + 1518 ≤ length m = c.requires in
    let r : cell_room (length m) a ≡ 1518 = grind (arith, nat_tests) in
    let k : (a + 1518) - a ≡ 1518 = omega arith in
    let l : length (take 1518 (drop a m)) ≡ 1518 = simp (length-take, length-drop) (omega arith) in
    let hd : length q.destination ≡ 6 = search rules in
    let hs : length q.source ≡ 6 = search rules in
    let n = size_of_lem q hd hs in
    let h : (j : ℕ) → write_answer 1518 0 q ≡ Ok j → length (frame_of q) ≤ 1518 =
    λ j e. omega (arith, n, length_is 1518 0 j q (sym e), in_a_cell 1518 0 j q (sym e)) in
    let after : c.write.new.memory ≡ changed (write_answer 1518 0 q) (take 1518 (drop a m)) (put_at (take 1518 (drop a m)) 0 (frame_of q)) =
    c.write.ensures.after ∙ rw k (rw l refl) in
    rw r (rw (after, k) (lend (write_answer 1518 0 q) m (frame_of q) a 1518 h i))
