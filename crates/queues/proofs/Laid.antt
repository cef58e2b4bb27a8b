-- What laying a frame into a queue leaves.
use Rattle.std.proofs.Common.{◌≡◌, ℕ, ◌+◌, ◌*◌, ◌%◌, ◌<◌, ◌≤◌, true, false, List, [], ◌∷◌, ◌++◌, length, set, Some, None, Err, Option, Result, refl, arith}
use Rattle.std.specs.Option.{is_none}
use Rattle.std.proofs.lemmas.Bool.{le-leb}
use Rattle.std.proofs.lemmas.Bool.Decides.{nat_tests}
use Rattle.fault.specs.declared.refusal.Refusal.{Refusal}
use Rattle.fault.specs.Asked.{before, unless}
use Rattle.frame.specs.Reading.{Picture}
use Rattle.frame.specs.Writing.{cell_answer, put_at, room_asked, shape_asked, size_of}
use Rattle.frame.specs.declared.parts.Tag.{Tag}
use Rattle.rules.specs.declared.shape.Shape.{Shape}
use Rattle.queues.specs.declared.label.Label.{Label}
use Rattle.queues.specs.declared.ring.Ring.{Ring}
use Rattle.queues.specs.Rings.{Round, counts_in, is_queue, number_of, ring_at, slots_in}
use Rattle.queues.specs.Standing.{frames_in, frames_of}
use Rattle.queues.specs.Laying.{counted_one, laid_one, next_one}
use Rattle.queues.proofs.Cells.{frames_laid, frames_other}
use Rattle.queues.proofs.Changed.{by_port, set_ring}

-- a frame that passes the questions of its shape fits into a cell, and is as long as it was measured
short : (d s : List ℕ) (t : Option Tag) (b : List ℕ) → shape_asked (record { destination = d; source = s; tag = t; body = b }) ≡ None → size_of (record { destination = d; source = s; tag = t; body = b }) ≤ 1518
short d s None b e = grind (arith, nat_tests)
short d s (Some t) b e = grind (arith, nat_tests)

pub in_cell : (p : Picture) → shape_asked p ≡ None → size_of p ≤ 1518
in_cell p e = short p.destination p.source p.tag p.body e

-- what writing into a cell of a memory that is large enough answers
pub cell_answered : (room place : ℕ) (p : Picture) → place + 1518 ≤ room → cell_answer room place p ≡ unless (shape_asked p) (size_of p)
cell_answered room place p h = rw (le-leb (place + 1518) room h) (by_shape (shape_asked p) (in_cell p))
  where
    by_shape : (o : Option Refusal) → (o ≡ None → size_of p ≤ 1518) → unless (before o (room_asked 1518 0 (size_of p))) (size_of p) ≡ unless o (size_of p)
    by_shape None f = let l : 0 + size_of p ≤ 1518 = omega (arith, f refl) in rw (le-leb (0 + size_of p) 1518 l) refl
    by_shape (Some r) f = refl

pub not_written : (o : Option Refusal) (n : ℕ) (e : Refusal) → ◌≡◌ {A = Result ℕ Refusal} (Err e) (unless o n) → is_none o ≡ false
not_written None n e h = cc
not_written (Some r) n e h = refl

pub written : (o : Option Refusal) → o ≡ None → is_none o ≡ true
written o e = rw e refl

module _ (shape : Shape) (rings : List Ring) (labels : List Label) (m : List ℕ) (port class q j : ℕ) (y : Ring) (x : Label) (f : List ℕ)
    (h : is_queue shape port class ≡ true) (is : q ≡ number_of shape port class) (lt : q < length rings) (round : Round shape.depth rings) (room : (ring_at rings q).count < shape.depth)
    (size : length f ≤ 1518) (fits : 1518 * j + 1518 ≤ length m) (lr : j < length labels) (xs : x.length ≡ length f)
    (at : j ≡ q * shape.depth + (ring_at rings q).next) (yn : y.next ≡ ((ring_at rings q).next + 1) % shape.depth) (yc : y.count ≡ (ring_at rings q).count + 1) where
  pub laid_frames : frames_in shape (set rings q y) (set labels j x) (put_at m (1518 * j) f) ≡ laid_one port class (record { vid = x.vid; bytes = f }) (frames_in shape rings labels m)
  unfolding frames_in
  laid_frames =
      let d = shape.depth in
      by_port shape [] (λ i. frames_of d (ring_at rings i) labels m i) (λ i. frames_of d (ring_at (set rings q y) i) (set labels j x) (put_at m (1518 * j) f) i) (λ fs. fs ++ (record { vid = x.vid; bytes = f } ∷ [])) port class q h is
      (set_ring (λ i r. frames_of d r labels m i) (λ i r. frames_of d r (set labels j x) (put_at m (1518 * j) f) i) (λ fs. fs ++ (record { vid = x.vid; bytes = f } ∷ [])) rings y q lt
      (frames_laid d (ring_at rings q) y labels x m f q j (round.each q).next room size fits lr xs at yn yc)
      (λ k r ne. frames_other d r labels x m f k q (ring_at rings q).next j (omega (arith, (round.each q).next)) (round.each q).next size fits at ne))

  pub laid_slots : slots_in shape (set rings q y) ≡ next_one shape.depth port class (slots_in shape rings)
  unfolding slots_in
  laid_slots =
      by_port shape 0 (λ i. (ring_at rings i).next) (λ i. (ring_at (set rings q y) i).next) (λ k. (k + 1) % shape.depth) port class q h is
      (set_ring (λ _ r. r.next) (λ _ r. r.next) (λ k. (k + 1) % shape.depth) rings y q lt yn (λ k r ne. refl))

  pub laid_counts : counts_in shape (set rings q y) ≡ counted_one port class (counts_in shape rings)
  unfolding counts_in
  laid_counts =
      by_port shape 0 (λ i. (ring_at rings i).count) (λ i. (ring_at (set rings q y) i).count) (λ k. k + 1) port class q h is
      (set_ring (λ _ r. r.count) (λ _ r. r.count) (λ k. k + 1) rings y q lt yc (λ k r ne. refl))
