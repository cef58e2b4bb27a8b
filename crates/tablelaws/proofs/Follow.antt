-- The laws of each call, from what it answers and leaves.
use Rattle.std.proofs.Common.{◌≡◌, ℕ, ◌+◌, ◌≤◌, Bool, true, false, cond, eqb, ltb, List, [], ◌∷◌, length, Some, None, Ok, Err, Option, Result, Ordering, Less, Equal, Greater, sym, refl, ap, ◌∙◌, subst, arith}
use Rattle.std.specs.Ordering.{is_eq, is_lt}
use Rattle.std.proofs.lemmas.Bool.{and_parts, and_from, ltb-false, eq-eqb, both_ways, false_from_ne_true, true≢false}
use Rattle.fault.specs.declared.mark.Mark.{Mark}
use Rattle.fault.specs.declared.mark.Mark.TheVariants.{New, Known, Moved, Full}
use Rattle.fault.specs.declared.refusal.Refusal.{Refusal}
use Rattle.fault.specs.declared.refusal.Refusal.TheVariants.{FidOutOfRange}
use Rattle.table.specs.declared.entry.Entry.{Entry}
use Rattle.table.specs.declared.entry.Key.{Key}
use Rattle.table.specs.Entries.{is_fid, new_entry, has_key, lookup, entries_of, count_of}
use Rattle.table.specs.Rising.{order, insert_by, insert, comes_before, rises}
use Rattle.table.specs.Calls.{entry_port, answered, mark_at, learned_mark, learn_at, after_learn, heard_after, expired, after_expire, flushed, after_flush}
use Rattle.table.specs.Records.{has_pair}
use Rattle.table.proofs.Order.{order_key, key_order}
use Rattle.table.proofs.Records.{key_is, key_of, has_pair_none, has_pair_some, count_kept}
use Rattle.table.proofs.Rising.{is_less, less_not, before_far, look_insert, count_insert}
use Rattle.table.proofs.Views.{view_learn, view_flush, view_expire, own_answer, own_mark, own_learn, own_flushed, own_flush, flush_none}
use Rattle.table.proofs.After.{marked_at, full_at, answer_other, expired_rest}
use Rattle.tablelaws.specs.Laws.{Finds, is_new, Expires, Flushes, FoundAfter, Learns}

pub finds : (l k : List Entry) (f : ℕ) (a : List ℕ) (r : Result (Option ℕ) Refusal) → k ≡ l → r ≡ answered l f a → Finds l k f a r
finds l k f a r e h = record { answer = h ∙ own_answer f a l; same = e }

pub expires : (limit : ℕ) (l k : List Entry) (r : ℕ) → k ≡ after_expire limit l → r ≡ expired limit l → Expires limit l k r
expires limit l k r e h = record {
  gone = omega (arith, h, ap length e, expired_rest limit l);
  each = λ g. ap (entries_of g) e ∙ view_expire g limit l;
  fewer = λ g. omega (arith, ap (count_of g) e, count_kept (heard_after limit) g l);
}

pub flushes : (l k : List Entry) (f : ℕ) (r : Result ℕ Refusal) → k ≡ after_flush l f → r ≡ flushed l f → Flushes l k f r
flushes l k f r e h = record {
  answer = h ∙ own_flushed l f;
  own = ap (entries_of f) e ∙ own_flush l f;
  empty = λ q. ap (entries_of f) e ∙ flush_none l f q;
  others = λ g n. ap (entries_of g) e ∙ view_flush g f l n;
}

-- an entry that is written over that of its pair leaves each count

before_none : (e : Entry) (l : List Entry) → comes_before e l ≡ true → lookup l e.key.fid e.key.address ≡ None
before_none e [] h = refl
before_none e (x ∷ l) h = go (before_none e l (and_parts (is_lt (order e x)) (comes_before e l) h).1) (has_key e.key.fid e.key.address x) refl
  where
    go : lookup l e.key.fid e.key.address ≡ None → (b : Bool) → has_key e.key.fid e.key.address x ≡ b → cond b (Some x) (lookup l e.key.fid e.key.address) ≡ None
    go ih true q = let s = key_is e.key.fid e.key.address x q in absurd (less_not (order e x) (is_less _ (and_parts (is_lt (order e x)) (comes_before e l) h).0) (key_order e x (sym s.0) (sym s.1)))
    go ih false q = ih

not_own : (e x : Entry) → order e x ≡ Greater → has_key e.key.fid e.key.address x ≡ false
not_own e x q = false_from_ne_true (has_key e.key.fid e.key.address x) (λ k.
    let s = key_is e.key.fid e.key.address x k in
    true≢false (ap is_eq (sym (key_order e x (sym s.0) (sym s.1)) ∙ q)))

count_over : (g : ℕ) (e : Entry) (l : List Entry) → rises l ≡ true → has_pair l e.key.fid e.key.address ≡ true → count_of g (insert e l) ≡ count_of g l
count_over g e [] r h = absurd (true≢false (sym h))
count_over g e (x ∷ l) r h = go (count_over g e l) (and_parts (comes_before x l) (rises l) r) (order e x) refl
  where
    go : (rises l ≡ true → has_pair l e.key.fid e.key.address ≡ true → count_of g (insert e l) ≡ count_of g l) → (comes_before x l ≡ true) × (rises l ≡ true) → (o : Ordering) → order e x ≡ o → count_of g (insert_by o e x l (insert e l)) ≡ count_of g (x ∷ l)
    go ih s Less q =
        let u : comes_before e (x ∷ l) ≡ true = and_from (is_lt (order e x)) (comes_before e l) (ap is_lt q) (before_far e x l q s.0) in
        absurd (both_ways _ (has_pair_none (x ∷ l) e.key.fid e.key.address (before_none e (x ∷ l) u)) h)
    go ih s Equal q = ap (λ f. cond (eqb f g) (count_of g l + 1) (count_of g l)) (order_key e x q).0
    go ih s Greater q = ap (λ n. cond (eqb x.key.fid g) (n + 1) n) (ih s.1 (sym (ap (λ b. cond b true (has_pair l e.key.fid e.key.address)) (not_own e x q)) ∙ h))

count_learned : (share : ℕ) (l : List Entry) (f : ℕ) (a : List ℕ) (p t : ℕ) → rises l ≡ true → count_of f (after_learn share l f a p t) ≡ count_of f l + cond (is_new (learned_mark share l f a p)) 1 0
count_learned share l f a p t r = elim (is_fid f) as (λ b. count_of f (cond b (learn_at share l (new_entry f a p t) (lookup l f a)) l) ≡ count_of f l + cond (is_new (cond b (Ok (mark_at share (count_of f l) p (lookup l f a))) (Err FidOutOfRange))) 1 0) [ true ↦ at (lookup l f a) refl | false ↦ omega arith ]
  where
    room : (b : Bool) → lookup l f a ≡ None → count_of f (cond b (insert (new_entry f a p t) l) l) ≡ count_of f l + cond (is_new (Ok (cond b New Full))) 1 0
    room true h = count_insert f (new_entry f a p t) l (has_pair_none l f a h) ∙ ap (λ b. cond b (count_of f l + 1) (count_of f l)) (eq-eqb f f refl)
    room false h = omega arith

    old : (b : Bool) → count_of f (insert (new_entry f a p t) l) ≡ count_of f l → count_of f (insert (new_entry f a p t) l) ≡ count_of f l + cond (is_new (Ok (cond b Known Moved))) 1 0
    old true h = omega (arith, h)
    old false h = omega (arith, h)

    at : (o : Option Entry) → lookup l f a ≡ o → count_of f (learn_at share l (new_entry f a p t) o) ≡ count_of f l + cond (is_new (Ok (mark_at share (count_of f l) p o))) 1 0
    at None h = room (ltb (count_of f l) share) h
    at (Some e) h = old (eqb e.port p) (count_over f (new_entry f a p t) l r (has_pair_some l f a e h))

pub learns : (share : ℕ) (l k : List Entry) (f : ℕ) (a : List ℕ) (p t : ℕ) (r : Result Mark Refusal) → k ≡ after_learn share l f a p t → r ≡ learned_mark share l f a p → rises l ≡ true → ((g : ℕ) → count_of g l ≤ share) → Learns share l k f a p t r
learns share l k f a p t r e h up fair = record {
  answer = h ∙ own_mark share l f a p;
  own = ap (entries_of f) e ∙ own_learn share l f a p t up;
  others = λ g n. ap (entries_of g) e ∙ view_learn g share l f a p t n;
  full = λ q.
      let m = marked_at share l f a p Full (sym q ∙ h) in
      let s = full_at share (count_of f l) p l f a m.1 in
      omega (arith, fair f, ltb-false (count_of f l) share s.1);
  count = ap (count_of f) e ∙ count_learned share l f a p t up ∙ ap (λ x. count_of f l + cond (is_new x) 1 0) (sym h);
}

-- the pair that was just learned

own_look : (l : List Entry) (f : ℕ) (a : List ℕ) (p t : ℕ) → lookup (insert (new_entry f a p t) l) f a ≡ Some (new_entry f a p t)
own_look l f a p t = look_insert (new_entry f a p t) l f a ∙ ap (λ b. cond b (Some (new_entry f a p t)) (lookup l f a)) (key_of f a (new_entry f a p t) refl refl)

abbrev ok : Option Entry → Result (Option ℕ) Refusal
ok o = Ok (entry_port o)

found_own : (share : ℕ) (l : List Entry) (f : ℕ) (a : List ℕ) (p t : ℕ) → FoundAfter (learned_mark share l f a p) p (answered (after_learn share l f a p t) f a)
found_own share l f a p t = elim (is_fid f) as (λ b. FoundAfter (cond b (Ok (mark_at share (count_of f l) p (lookup l f a))) (Err FidOutOfRange)) p (cond b (ok (lookup (cond b (learn_at share l (new_entry f a p t) (lookup l f a)) l) f a)) (Err FidOutOfRange))) [ true ↦ at (lookup l f a) refl | false ↦ refl ]
  where
    room : (b : Bool) → lookup l f a ≡ None → FoundAfter (Ok (cond b New Full)) p (ok (lookup (cond b (insert (new_entry f a p t) l) l) f a))
    room true h = ap ok (own_look l f a p t)
    room false h = ap ok h

    old : (b : Bool) → FoundAfter (Ok (cond b Known Moved)) p (ok (lookup (insert (new_entry f a p t) l) f a))
    old true = ap ok (own_look l f a p t)
    old false = ap ok (own_look l f a p t)

    at : (o : Option Entry) → lookup l f a ≡ o → FoundAfter (Ok (mark_at share (count_of f l) p o)) p (ok (lookup (learn_at share l (new_entry f a p t) o) f a))
    at None h = room (ltb (count_of f l) share) h
    at (Some e) h = old (eqb e.port p)

-- the same, as the functions' proofs take it: of what a call answers and of the set that it leaves

pub find_follows : (l : List Entry) (f : ℕ) (a : List ℕ) → Finds l l f a (answered l f a)
find_follows l f a = finds l l f a (answered l f a) refl refl

pub expire_follows : (limit : ℕ) (l : List Entry) → Expires limit l (after_expire limit l) (expired limit l)
expire_follows limit l = expires limit l (after_expire limit l) (expired limit l) refl refl

pub flush_follows : (l : List Entry) (f : ℕ) → Flushes l (after_flush l f) f (flushed l f)
flush_follows l f = flushes l (after_flush l f) f (flushed l f) refl refl

pub found_same : (share : ℕ) (l : List Entry) (e : Entry) (k : Key) → k ≡ e.key → FoundAfter (learned_mark share l e.key.fid e.key.address e.port) e.port (answered (after_learn share l e.key.fid e.key.address e.port e.heard) k.fid k.address)
found_same share l e k q = subst (λ z. FoundAfter (learned_mark share l e.key.fid e.key.address e.port) e.port (answered (after_learn share l e.key.fid e.key.address e.port e.heard) z.fid z.address)) (sym q) (found_own share l e.key.fid e.key.address e.port e.heard)

-- any other pair
pub found_other : (share : ℕ) (l : List Entry) (e : Entry) (k : Key) → has_key k.fid k.address e ≡ false → answered (after_learn share l e.key.fid e.key.address e.port e.heard) k.fid k.address ≡ answered l k.fid k.address
found_other share l e k n = answer_other share l e.key.fid e.key.address e.port e.heard k.fid k.address n
