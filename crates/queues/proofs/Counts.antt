-- How many frames stand, without the memory that their bytes lie in.
use Rattle.std.proofs.Common.{◌≡◌, ℕ, zero, suc, ◌+◌, ◌≤◌, Bool, true, false, ◌&&◌, ltb, List, [], ◌∷◌, map, length, sym, refl, ap, ◌∙◌, ⊎_elim, arith}
use Rattle.std.proofs.lemmas.Bool.{cases_Bool, lt-ltb, le-ltb}
use Rattle.rules.specs.Ports.{eight}
use Rattle.rules.specs.State.{Queued, holds_frame, standing_in}
use Rattle.rules.specs.declared.shape.Shape.{Shape}
use Rattle.queues.specs.declared.queues.Queues.{Queues}
use Rattle.queues.specs.declared.label.Label.{Label}
use Rattle.queues.specs.declared.ring.Ring.{Ring}
use Rattle.queues.specs.Rings.{classes_in, counts_in, is_queue, number_of, ring_at}
use Rattle.queues.specs.Standing.{frames_at, counted_below, frames_in, queues_of}
use Rattle.queues.proofs.Cells.{length_frames}

counted_in : (shape : Shape) (rings : List Ring) (labels : List Label) (m : List ℕ) (p c : ℕ) → length (frames_in shape rings labels m p c) ≡ counts_in shape rings p c
unfolding frames_in counts_in
counted_in shape rings labels m p c =
    ⊎_elim (λ (e : is_queue shape p c ≡ true). rw e (length_frames shape.depth (ring_at rings (number_of shape p c)) labels m (number_of shape p c)))
    (λ (e : is_queue shape p c ≡ false). rw e refl)
    (cases_Bool (is_queue shape p c))

pub counted : (q : Queues) (m : List ℕ) (p c : ℕ) → length (queues_of q m p c) ≡ frames_at q p c
unfolding queues_of frames_at
counted q m p c = counted_in q.shape q.rings.items q.labels.items m p c

none_stand : (frames : List Queued) → length frames ≡ 0 → frames ≡ []
none_stand [] e = refl
none_stand (f ∷ fs) e = absurd (omega arith)

pub nothing : (q : Queues) (m : List ℕ) (p c : ℕ) → frames_at q p c ≡ 0 → queues_of q m p c ≡ []
nothing q m p c e = none_stand (queues_of q m p c) (counted q m p c ∙ e)

holds_some : (frames : List Queued) → holds_frame frames ≡ ltb 0 (length frames)
holds_some [] = refl
holds_some (f ∷ fs) = sym (lt-ltb 0 (length (f ∷ fs)) (omega arith))

-- the set that is kept, in the words of the rules
pub classes_are : (q : Queues) (m : List ℕ) (p : ℕ) → classes_in q.shape q.rings.items p ≡ map (λ c. holds_frame (queues_of q m p c)) eight
unfolding classes_in frames_at
classes_are q m p i = map (λ c. each c i) eight
  where
    each : (c : ℕ) → ltb 0 (counts_in q.shape q.rings.items p c) ≡ holds_frame (queues_of q m p c)
    each c = sym (holds_some (queues_of q m p c) ∙ ap (ltb 0) (counted q m p c))

-- and how many frames stand at a port
pub standing_is : (q : Queues) (m : List ℕ) (p : ℕ) → counted_below (frames_at q p) 8 ≡ standing_in (queues_of q m p) eight
standing_is q m p = omega (arith, counted q m p 0, counted q m p 1, counted q m p 2, counted q m p 3, counted q m p 4, counted q m p 5, counted q m p 6, counted q m p 7)

pub none_above : (q : Queues) (p c : ℕ) → q.shape.classes ≤ c → frames_at q p c ≡ 0
unfolding frames_at counts_in
none_above q p c h =
    let t : ltb c q.shape.classes ≡ false = le-ltb c q.shape.classes h in
    let e : is_queue q.shape p c ≡ false = rw t (either (ltb p q.shape.ports)) in rw e refl
  where
    either : (b : Bool) → (b && false) ≡ false
    either true = refl
    either false = refl

pub below_all : (n : ℕ → ℕ) (k j : ℕ) → ((c : ℕ) → k ≤ c → n c ≡ 0) → counted_below n (j + k) ≡ counted_below n k
below_all n k zero h = ap (counted_below n) (omega arith)
below_all n k (suc j) h =
    let e : suc j + k ≡ suc (j + k) = omega arith in
    let z : n (j + k) ≡ 0 = h (j + k) (omega arith) in
    ap (counted_below n) e ∙ omega (arith, below_all n k j h, z)
