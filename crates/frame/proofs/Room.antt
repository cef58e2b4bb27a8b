-- What the questions of writing say about lengths.
use Rattle.std.proofs.Common.{◌≡◌, ℕ, ◌+◌, ◌≤◌, List, Some, None, Ok, Option, Result, refl, arith}
use Rattle.std.proofs.Math.Nat.{add-sub_cancel_left}
use Rattle.std.proofs.lemmas.Bool.Decides.{nat_tests}
use Rattle.fault.specs.declared.refusal.Refusal.{Refusal}
use Rattle.fault.specs.Asked.{before, changed, unless}
use Rattle.fault.proofs.Asked.{answered}
use Rattle.frame.specs.Reading.{Picture}
use Rattle.frame.specs.Writing.{room_asked, shape_asked, size_of, write_answer}
use Rattle.frame.specs.declared.parts.Tag.{Tag}

-- a frame that passes them lies inside the memory, and inside a cell
within : (room at : ℕ) (d s : List ℕ) (t : Option Tag) (b : List ℕ)
    → before (shape_asked (record { destination = d; source = s; tag = t; body = b })) (room_asked room at (size_of (record { destination = d; source = s; tag = t; body = b }))) ≡ None
    → (at + size_of (record { destination = d; source = s; tag = t; body = b }) ≤ room)
    × (size_of (record { destination = d; source = s; tag = t; body = b }) ≤ 1518)
    × (56 ≤ size_of (record { destination = d; source = s; tag = t; body = b }))
within room at d s None b e = (grind (arith, nat_tests), grind (arith, nat_tests), grind (arith, nat_tests))
within room at d s (Some t) b e = (grind (arith, nat_tests), grind (arith, nat_tests), grind (arith, nat_tests))

module _ (room at : ℕ) (p : Picture) (e : before (shape_asked p) (room_asked room at (size_of p)) ≡ None) where
  fits : at + size_of p ≤ room
  fits = (within room at p.destination p.source p.tag p.body e).0

  in_cell : size_of p ≤ 1518
  in_cell = (within room at p.destination p.source p.tag p.body e).1

  not_empty : 56 ≤ size_of p
  not_empty = (within room at p.destination p.source p.tag p.body e).2

-- where writing answers n, that is the frame's length, and the n bytes lie inside the memory
pub length_is : (room at n : ℕ) (p : Picture) → ◌≡◌ {A = Result ℕ Refusal} (Ok n) (write_answer room at p) → n ≡ size_of p
length_is room at n p e = (answered (before (shape_asked p) (room_asked room at (size_of p))) n (size_of p) e).1

pub shape_of : (room at n : ℕ) (p : Picture) → ◌≡◌ {A = Result ℕ Refusal} (Ok n) (write_answer room at p) → shape_asked p ≡ None
shape_of room at n p e = first (shape_asked p) (answered (before (shape_asked p) (room_asked room at (size_of p))) n (size_of p) e).0
  where
    first : (o : Option Refusal) → before o (room_asked room at (size_of p)) ≡ None → o ≡ None
    first None h = refl
    first (Some r) h = h

pub lies : (room at n : ℕ) (p : Picture) → ◌≡◌ {A = Result ℕ Refusal} (Ok n) (write_answer room at p) → at + n ≤ room
lies room at n p e =
    let a = answered (before (shape_asked p) (room_asked room at (size_of p))) n (size_of p) e in
    omega (arith, fits room at p a.0, a.1)

pub in_a_cell : (room at n : ℕ) (p : Picture) → ◌≡◌ {A = Result ℕ Refusal} (Ok n) (write_answer room at p) → n ≤ 1518
in_a_cell room at n p e =
    let a = answered (before (shape_asked p) (room_asked room at (size_of p))) n (size_of p) e in
    omega (arith, in_cell room at p a.0, a.1)

-- from a position on to the end of n bytes there are n bytes
pub ruleset span = add-sub_cancel_left

-- with no room at all nothing is written
pub no_room : (p : Picture) (m f : List ℕ) → changed (write_answer 0 0 p) m f ≡ m
no_room p m f = refuses (before (shape_asked p) (room_asked 0 0 (size_of p))) (λ e. omega (arith, fits 0 0 p e, not_empty 0 0 p e))
  where
    refuses : (o : Option Refusal) → (o ≡ None → ⊥) → changed (unless o (size_of p)) m f ≡ m
    refuses None h = absurd (h refl)
    refuses (Some r) h = refl
