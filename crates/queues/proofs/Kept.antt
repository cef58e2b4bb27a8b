-- Rings stay round, and the kept sets agree with them, when one ring changes.
use Rattle.std.proofs.Common.{◌≡◌, ℕ, ◌<◌, ◌≤◌, Bool, true, false, cond, ◌&&◌, eqb, ltb, ◌≢◌, List, map, length, get_or, set, replicate, sym, subst, refl, ap, ◌∙◌, ⊎_elim, arith, length-set}
use Rattle.std.specs.List.{range_with_len}
use Rattle.std.proofs.lemmas.List.{get_or_default, get_or-set_same, get_or-set_other, same_lists}
use Rattle.std.proofs.lemmas.List.FromFn.{get_or-map-range_with_len, length-map-range_with_len}
use Rattle.std.proofs.lemmas.Bool.{cases_eq, eq-eqb, ne_eqb}
use Rattle.rules.specs.Ports.{eight}
use Rattle.rules.specs.declared.shape.Shape.{Shape}
use Rattle.queues.specs.declared.label.Label.{Label}
use Rattle.queues.specs.declared.ring.Ring.{Ring}
use Rattle.queues.specs.Rings.{Agree, Round, Short, Turns, classes_in, counts_in, is_queue, no_label, no_ring, number_of, ring_at}
use Rattle.queues.specs.Laying.{changed_at}
use Rattle.queues.proofs.Changed.{by_port, class_below, port_below, set_ring}

pub round_set : (d : ℕ) (rings : List Ring) (q : ℕ) (y : Ring) → q < length rings → Round d rings → Turns d y → Round d (set rings q y)
round_set d rings q y lt round t = record {
  each = λ i. ⊎_elim (λ (same : i ≡ q).
      let a : ring_at (set rings q y) i ≡ y = ap (λ (j : ℕ). ring_at (set rings q y) j) same ∙ get_or-set_same rings q y no_ring lt in subst (Turns d) (sym a) t)
      (λ (ne : i ≡ q → ⊥). let a : ring_at (set rings q y) i ≡ ring_at rings i = get_or-set_other rings q i y no_ring ne in subst (Turns d) (sym a) (round.each i))
      (cases_eq i q);
}

pub short_set : (labels : List Label) (j : ℕ) (x : Label) → j < length labels → Short labels → x.length ≤ 1518 → Short (set labels j x)
short_set labels j x lt short h = record {
  each = λ i. ⊎_elim (λ (same : i ≡ j).
      let a : get_or (set labels j x) i no_label ≡ x = ap (λ (k : ℕ). get_or (set labels j x) k no_label) same ∙ get_or-set_same labels j x no_label lt in
      subst (λ (r : Label). r.length ≤ 1518) (sym a) h)
      (λ (ne : i ≡ j → ⊥).
      let a : get_or (set labels j x) i no_label ≡ get_or labels i no_label = get_or-set_other labels j i x no_label ne in
      subst (λ (r : Label). r.length ≤ 1518) (sym a) (short.each i))
      (cases_eq i j);
}

-- how many stand after one ring changed
pub counts_set : (shape : Shape) (rings : List Ring) (port class q : ℕ) (y : Ring) → is_queue shape port class ≡ true → q ≡ number_of shape port class → q < length rings
    → counts_in shape (set rings q y) ≡ changed_at port class (λ _. y.count) (counts_in shape rings)
unfolding counts_in
counts_set shape rings port class q y h is lt =
    by_port shape 0 (λ i. (ring_at rings i).count) (λ i. (ring_at (set rings q y) i).count) (λ _. y.count) port class q h is
    (set_ring (λ _ r. r.count) (λ _ r. r.count) (λ _. y.count) rings y q lt refl (λ i r ne. refl))

-- a flag that is set where the test is changed
flags_set : (f g : ℕ → Bool) (n k : ℕ) (v : Bool) → k < n → g k ≡ v → ((c : ℕ) → c ≢ k → g c ≡ f c) → set (map f (range_with_len 0 n)) k v ≡ map g (range_with_len 0 n)
flags_set f g n k v lt e o =
    let F = map f (range_with_len 0 n) in
    let lf : length F ≡ n = length-map-range_with_len f 0 n in
    let ls : length (set F k v) ≡ n = simp length-set lf in
    same_lists (set F k v) (map g (range_with_len 0 n)) (ls ∙ sym (length-map-range_with_len g 0 n))
    (λ i d h.
    let small : i < n = omega (arith, ls) in
    let r : get_or (map g (range_with_len 0 n)) i d ≡ g i = get_or-map-range_with_len g 0 n i i d small (omega arith) in
    ⊎_elim (λ (same : i ≡ k). ap (λ (j : ℕ). get_or (set F k v) j d) same ∙ get_or-set_same F k v d (omega (arith, lf)) ∙ sym e ∙ ap g (sym same) ∙ sym r)
    (λ (ne : i ≡ k → ⊥). get_or-set_other F k i v d ne ∙ get_or-map-range_with_len f 0 n i i d small (omega arith) ∙ sym (o i ne) ∙ sym r)
    (cases_eq i k))

module _ (shape : Shape) (rings : List Ring) (holding : List (List Bool)) (port class q : ℕ) (y : Ring) (h : is_queue shape port class ≡ true) (is : q ≡ number_of shape port class)
    (lt : q < length rings) (agree : Agree shape rings holding) (sixteen : length holding ≡ 16) where
  after : (p c : ℕ) → counts_in shape (set rings q y) p c ≡ cond (eqb p port && eqb c class) y.count (counts_in shape rings p c)
  after p c i = counts_set shape rings port class q y h is lt i p c

  here : set (classes_in shape rings port) class (ltb 0 y.count) ≡ classes_in shape (set rings q y) port
  unfolding classes_in
  here = flags_set (λ c. ltb 0 (counts_in shape rings port c)) (λ c. ltb 0 (counts_in shape (set rings q y) port c)) 8 class (ltb 0 y.count)
      (let l = class_below shape port class h in omega (arith, shape.classes_high))
      (ap (ltb 0) (after port class ∙ rw (eq-eqb port port refl, eq-eqb class class refl) refl))
      (λ c ne. ap (ltb 0) (after port c ∙ rw (eq-eqb port port refl, ne_eqb c class ne) refl))

  there : (p : ℕ) → p ≢ port → classes_in shape rings p ≡ classes_in shape (set rings q y) p
  unfolding classes_in
  there p ne i = map (λ c. ltb 0 (same c i)) eight
    where
      same : (c : ℕ) → counts_in shape rings p c ≡ counts_in shape (set rings q y) p c
      same c = sym (after p c ∙ rw (ne_eqb p port ne) refl)

  pub agree_set : (old : List Bool) → old ≡ get_or holding port old → Agree shape (set rings q y) (set holding port (set old class (ltb 0 y.count)))
  agree_set old read = record {
    each = λ p. ⊎_elim (λ (same : p ≡ port).
        let small : port < length holding = (let l = port_below shape port class h in omega (arith, shape.ports_high, sixteen)) in
        let r : old ≡ classes_in shape rings port = read ∙ get_or_default holding port old (replicate 8 false) small ∙ agree.each port in
        ap (λ (j : ℕ). get_or (set holding port (set old class (ltb 0 y.count))) j (replicate 8 false)) same
        ∙ get_or-set_same holding port (set old class (ltb 0 y.count)) (replicate 8 false) small
        ∙ ap (λ (z : List Bool). set z class (ltb 0 y.count)) r ∙ here ∙ ap (classes_in shape (set rings q y)) (sym same))
        (λ (ne : p ≡ port → ⊥). get_or-set_other holding port p (set old class (ltb 0 y.count)) (replicate 8 false) ne ∙ agree.each p ∙ there p ne)
        (cases_eq p port);
  }
