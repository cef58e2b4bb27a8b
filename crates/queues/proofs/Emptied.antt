-- What emptying the queues of a port leaves.
use Rattle.std.proofs.Common.{◌≡◌, ℕ, ◌+◌, ◌<◌, ◌≤◌, Bool, true, false, cond, ◌==◌, ◌&&◌, ◌||◌, eqb, ltb, List, [], length, set, refl, ap, ◌∙◌, ⊎_elim, arith}
use Rattle.std.proofs.lemmas.Bool.{and_parts, and_right, cases_Bool, cases_lt, eqb-true, le-ltb, lt-ltb}
use Rattle.std.proofs.lemmas.Bool.Decides.{nat_tests}
use Rattle.rules.specs.State.{Queued}
use Rattle.rules.specs.declared.shape.Shape.{Shape}
use Rattle.queues.specs.declared.queues.Queues.{Queues}
use Rattle.queues.specs.declared.label.Label.{Label}
use Rattle.queues.specs.declared.ring.Ring.{Ring}
use Rattle.queues.specs.Rings.{is_queue, number_of, ring_at}
use Rattle.queues.specs.Standing.{frames_in, frames_of, queues_of}
use Rattle.queues.specs.Laying.{changed_at}
use Rattle.queues.proofs.Cells.{frames_empty}
use Rattle.queues.proofs.Changed.{by_port, set_ring}
use Rattle.queues.proofs.Counts.{none_above, nothing}
use Rattle.queues.proofs.Meaning.{count_none}

pub emptied_frames : (shape : Shape) (rings : List Ring) (labels : List Label) (m : List ℕ) (port class q : ℕ) (y : Ring) → is_queue shape port class ≡ true → q ≡ number_of shape port class → q < length rings → y.count ≡ 0
    → frames_in shape (set rings q y) labels m ≡ changed_at port class (λ _. []) (frames_in shape rings labels m)
unfolding frames_in
emptied_frames shape rings labels m port class q y h is lt e =
    let d = shape.depth in
    by_port shape [] (λ i. frames_of d (ring_at rings i) labels m i) (λ i. frames_of d (ring_at (set rings q y) i) labels m i) (λ _. []) port class q h is
    (set_ring (λ i r. frames_of d r labels m i) (λ i r. frames_of d r labels m i) (λ _. []) rings y q lt (frames_empty d y labels m q e) (λ i r ne. refl))

-- the classes of a port below k emptied, and one more
cleared : (s t u : Bool) (fs gs : List Queued) → gs ≡ cond (s && t) [] fs → cond (s && u) [] gs ≡ cond (s && (t || u)) [] fs
cleared true true true fs gs e = refl
cleared true true false fs gs e = e
cleared true false true fs gs e = refl
cleared true false false fs gs e = e
cleared false t u fs gs e = e

pub emptied_more : (port k p c : ℕ) (fs gs hs : List Queued) → gs ≡ cond (p == port && ltb c k) [] fs → hs ≡ cond (p == port && c == k) [] gs → hs ≡ cond (p == port && ltb c (k + 1)) [] fs
emptied_more port k p c fs gs hs e h =
    let t : (ltb c k || eqb c k) ≡ ltb c (k + 1) = grind (arith, nat_tests) in
    h ∙ cleared (eqb p port) (ltb c k) (eqb c k) fs gs e ∙ ap (λ (x : Bool). cond (eqb p port && x) [] fs) t

none_left : (s : Bool) (fs : List Queued) → fs ≡ [] → cond (s && false) [] fs ≡ cond s [] fs
none_left true fs e = e
none_left false fs e = refl

pub emptied_none : (port p c : ℕ) (fs : List Queued) → fs ≡ cond (p == port && ltb c 0) [] fs
emptied_none port p c fs = rw (le-ltb c 0 (omega arith), and_right (p == port) false refl) refl

all_left : (s : Bool) (fs : List Queued) → cond (s && true) [] fs ≡ cond s [] fs
all_left true fs = refl
all_left false fs = refl

-- all classes
pub emptied_all : (q after : Queues) (port k : ℕ) → q.shape.classes ≤ k → ((m : List ℕ) (p c : ℕ) → queues_of after m p c ≡ cond (p == port && ltb c k) [] (queues_of q m p c))
    → (m : List ℕ) → queues_of after m ≡ (λ p c. cond (p == port) [] (queues_of q m p c))
emptied_all q after port k le h m i p c = at p c i
  where
    at : (p c : ℕ) → queues_of after m p c ≡ cond (p == port) [] (queues_of q m p c)
    at p c = ⊎_elim (λ (lt : c < k). h m p c ∙ rw (lt-ltb c k lt) (all_left (eqb p port) (queues_of q m p c)))
        (λ (le' : k ≤ c). h m p c ∙ rw (le-ltb c k le') (none_left (eqb p port) (queues_of q m p c) (nothing q m p c (none_above q p c (omega arith)))))
        (cases_lt c k)

pub none_here : (q : Queues) (m : List ℕ) (port class p c : ℕ) → is_queue q.shape port class ≡ false → queues_of q m p c ≡ cond (p == port && c == class) [] (queues_of q m p c)
none_here q m port class p c e =
    ⊎_elim (λ (h : (p == port && c == class) ≡ true).
    let z = and_parts _ _ h in
    let same : is_queue q.shape p c ≡ false = ap (λ (x : ℕ). is_queue q.shape x c) (eqb-true p port z.0) ∙ ap (λ (x : ℕ). is_queue q.shape port x) (eqb-true c class z.1) ∙ e in
    rw h (nothing q m p c (count_none q p c same)))
    (λ (h : (p == port && c == class) ≡ false). rw h refl)
    (cases_Bool (p == port && c == class))
