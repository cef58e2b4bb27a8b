-- What is told by queue, told by port and class: where one queue changes, one port and class do.
use Rattle.std.proofs.Common.{◌≡◌, ℕ, ◌+◌, ◌*◌, ◌<◌, Bool, true, false, cond, ◌&&◌, eqb, ◌≢◌, List, length, set, refl, ap, ◌∙◌, ⊎_elim}
use Rattle.std.proofs.lemmas.List.{get_or-set_same, get_or-set_other}
use Rattle.std.proofs.lemmas.Bool.{and_left, and_right, and_parts, both_ways, cases_Bool, cases_eq, eq-eqb, ltb-true, ne_eqb}
use Rattle.rules.specs.declared.shape.Shape.{Shape}
use Rattle.queues.specs.declared.ring.Ring.{Ring}
use Rattle.queues.specs.Rings.{at_queue, is_queue, no_ring, number_of, ring_at}
use Rattle.queues.specs.Laying.{changed_at}
use Rattle.queues.proofs.Cells.{cells-apart}

pub class_below : (shape : Shape) (p c : ℕ) → is_queue shape p c ≡ true → c < shape.classes
class_below shape p c e = ltb-true c shape.classes (and_parts _ _ e).1

pub port_below : (shape : Shape) (p c : ℕ) → is_queue shape p c ≡ true → p < shape.ports
port_below shape p c e = ltb-true p shape.ports (and_parts _ _ e).0

-- two numbers are equal where the ports and the classes are
same_number : (n port class p c : ℕ) → class < n → c < n → eqb (p * n + c) (port * n + class) ≡ (eqb p port && eqb c class)
same_number n port class p c hk hc =
    ⊎_elim (λ (e : p * n + c ≡ port * n + class).
    let z = cells-apart n p port c class hc hk e in
    rw (eq-eqb _ _ e, eq-eqb p port z.0, eq-eqb c class z.1) refl)
    (λ (ne : p * n + c ≡ port * n + class → ⊥).
    ⊎_elim (λ (ep : p ≡ port).
    let y : eqb c class ≡ false = ne_eqb c class (λ e. ne (cc)) in
    rw (ne_eqb _ _ ne, eq-eqb p port ep, y) refl)
    (λ (np : p ≡ port → ⊥). rw (ne_eqb _ _ ne, ne_eqb p port np) refl)
    (cases_eq p port))
    (cases_eq (p * n + c) (port * n + class))

-- a port and a class that have a queue are not those of none
not_here : (shape : Shape) (port class p c : ℕ) → is_queue shape port class ≡ true → is_queue shape p c ≡ false → (eqb p port && eqb c class) ≡ false
not_here shape port class p c h n =
    ⊎_elim (λ (ep : p ≡ port).
    ⊎_elim (λ (ec : c ≡ class).
    let same : is_queue shape p c ≡ true = ap (λ (x : ℕ). is_queue shape x c) ep ∙ ap (λ (x : ℕ). is_queue shape port x) ec ∙ h in absurd (both_ways (is_queue shape p c) n same))
    (λ (nc : c ≡ class → ⊥). and_right _ _ (ne_eqb c class nc))
    (cases_eq c class))
    (λ (np : p ≡ port → ⊥). and_left _ _ (ne_eqb p port np))
    (cases_eq p port)

pub by_port : {X : Type 0} (shape : Shape) (none : X) (u v : ℕ → X) (g : X → X) (port class q : ℕ) → is_queue shape port class ≡ true → q ≡ number_of shape port class
    → ((i : ℕ) → v i ≡ cond (eqb i q) (g (u i)) (u i)) → at_queue shape none v ≡ changed_at port class g (at_queue shape none u)
by_port {X} shape none u v g port class q h is rows i p c = each p c i
  where
    each : (p c : ℕ) → at_queue shape none v p c ≡ changed_at port class g (at_queue shape none u) p c
    each p c =
        ⊎_elim (λ (e : is_queue shape p c ≡ true).
        rw e (rows (number_of shape p c) ∙ ap (λ (t : Bool). cond t (g (u (number_of shape p c))) (u (number_of shape p c)))
        (ap (eqb (number_of shape p c)) is ∙ same_number shape.classes port class p c (class_below shape port class h) (class_below shape p c e))))
        (λ (e : is_queue shape p c ≡ false). rw (e, not_here shape port class p c h e) refl)
        (cases_Bool (is_queue shape p c))

-- what one ring that is changed leaves
pub set_ring : {X : Type 0} (f g : ℕ → Ring → X) (h : X → X) (rings : List Ring) (y : Ring) (q : ℕ) → q < length rings → g q y ≡ h (f q (ring_at rings q))
    → ((i : ℕ) (r : Ring) → i ≢ q → g i r ≡ f i r) → (i : ℕ) → g i (ring_at (set rings q y) i) ≡ cond (eqb i q) (h (f i (ring_at rings i))) (f i (ring_at rings i))
set_ring f g h rings y q lt e o i =
    ⊎_elim (λ (same : i ≡ q).
    let a : ring_at (set rings q y) q ≡ y = get_or-set_same rings q y no_ring lt in
    rw (eq-eqb i q same, same, a) e)
    (λ (ne : i ≡ q → ⊥).
    let a : ring_at (set rings q y) i ≡ ring_at rings i = get_or-set_other rings q i y no_ring ne in
    rw (ne_eqb i q ne, a) (o i (ring_at rings i) ne))
    (cases_eq i q)

-- and where nothing of it changes that is told, nothing is told otherwise
pub same_told : {X : Type 0} (shape : Shape) (none : X) (u v : ℕ → X) → ((i : ℕ) → v i ≡ u i) → at_queue shape none v ≡ at_queue shape none u
same_told shape none u v h i p c = cond (is_queue shape p c) (h (number_of shape p c) i) none

cond_same : {X : Type 0} (b : Bool) (x : X) → cond b x x ≡ x
cond_same true x = refl
cond_same false x = refl

pub same_after_set : {X : Type 0} (f : Ring → X) (rings : List Ring) (y : Ring) (q : ℕ) → q < length rings → f y ≡ f (ring_at rings q) → (i : ℕ) → f (ring_at (set rings q y) i) ≡ f (ring_at rings i)
same_after_set f rings y q lt e i = set_ring (λ _ r. f r) (λ _ r. f r) (λ x. x) rings y q lt e (λ i r ne. refl) i ∙ cond_same (eqb i q) (f (ring_at rings i))

pub all_none : {X : Type 0} (shape : Shape) (none : X) (u : ℕ → X) → ((i : ℕ) → u i ≡ none) → at_queue shape none u ≡ (λ p c. none)
all_none {X} shape none u h i p c = each p c i
  where
    each : (p c : ℕ) → at_queue shape none u p c ≡ none
    each p c = ap (λ (x : X). cond (is_queue shape p c) x none) (h (number_of shape p c)) ∙ cond_same (is_queue shape p c) none
