-- Entries of other databases before and after those of one: calls for that one pass them by.
use Rattle.std.proofs.Common.{◌≡◌, ℕ, ◌+◌, ◌<◌, ◌≤◌, Bool, true, cond, eqb, List, [], ◌∷◌, ◌++◌, length, Some, None, Ok, filter, sym, refl, ap, ◌∙◌, subst, arith}
use Rattle.std.proofs.lemmas.List.Elements.{filter-append}
use Rattle.std.proofs.lemmas.List.Folds.{find-append}
use Rattle.std.proofs.lemmas.List.{append_assoc}
use Rattle.std.proofs.lemmas.Bool.{lt-ltb, le-ltb}
use Rattle.std.proofs.lemmas.Bool.Decides.{nat_tests}
use Rattle.fault.specs.declared.mark.Mark.{Mark}
use Rattle.fault.specs.declared.mark.Mark.TheVariants.{New, Full}
use Rattle.table.specs.declared.entry.Entry.{Entry}
use Rattle.table.specs.Entries.{is_fid, has_key, lookup, count_of}
use Rattle.table.specs.Rising.{rising}
use Rattle.table.specs.Calls.{learned_mark, after_learn}
use Rattle.table.specs.Records.{distinct, written_over, Orderly}
use Rattle.table.proofs.Records.{count_flush, has_pair_front, orderly_written, orderly_in}
use Rattle.table.proofs.Implement.{mark_is, over_is, new_is, full_is}
use Rattle.hashed.specs.Stretch.{Learned}
use Rattle.hashed.specs.Stretch.Learned.{over, added, full}

pub count_append : (f : ℕ) (l m : List Entry) → count_of f (l ++ m) ≡ count_of f l + count_of f m
count_append f [] m = omega arith
count_append f (e ∷ l) m = grind (arith, nat_tests, count_append f l m)

look_clear : (f : ℕ) (a : List ℕ) (l : List Entry) → count_of f l ≡ 0 → lookup l f a ≡ None
look_clear f a [] h = refl
look_clear f a (e ∷ l) h = grind (arith, nat_tests, look_clear f a l)

pub look_mid : (f : ℕ) (a : List ℕ) (l m n : List Entry) → count_of f l ≡ 0 → count_of f n ≡ 0 → lookup (l ++ (m ++ n)) f a ≡ lookup m f a
look_mid f a l m n p q = let test = has_key f a in grind (arith, find-append test l (m ++ n), find-append test m n, look_clear f a l p, look_clear f a n q)

pub count_mid : (f : ℕ) (l m n : List Entry) → count_of f l ≡ 0 → count_of f n ≡ 0 → count_of f (l ++ (m ++ n)) ≡ count_of f m
count_mid f l m n p q = omega (arith, count_append f l (m ++ n), count_append f m n)

-- a test of the entries of one database, which all others pass
abbrev pub only : ℕ → (Entry → Bool) → Entry → Bool
only f p e = cond (eqb e.key.fid f) (p e) true

pass_by : (f : ℕ) (p : Entry → Bool) (l : List Entry) → count_of f l ≡ 0 → filter (only f p) l ≡ l
pass_by f p [] h = refl
pass_by f p (e ∷ l) h = grind (arith, nat_tests, pass_by f p l)

pass_own : (f : ℕ) (p : Entry → Bool) (l : List Entry) → count_of f l ≡ length l → filter (only f p) l ≡ filter p l
pass_own f p [] h = refl
pass_own f p (e ∷ l) h = grind (arith, nat_tests, pass_own f p l, count_flush f l)

-- the middle is tested, and so is the whole
pub sieve_mid : (f : ℕ) (p : Entry → Bool) (l m n : List Entry) → count_of f l ≡ 0 → count_of f n ≡ 0 → count_of f m ≡ length m → l ++ (filter p m ++ n) ≡ filter (only f p) (l ++ (m ++ n))
sieve_mid f p l m n h i own =
    let k = filter (only f p) in
    sym (filter-append (only f p) l (m ++ n) ∙ ap (λ x. x ++ k (m ++ n)) (pass_by f p l h) ∙ ap (λ x. l ++ x) (filter-append (only f p) m n ∙ ap (λ x. x ++ k n) (pass_own f p m own) ∙ ap (λ x. filter p m ++ x) (pass_by f p n i)))

-- distinct entries, and a part of them

distinct_back : (l m : List Entry) → distinct (l ++ m) ≡ true → distinct m ≡ true
distinct_back [] m d = d
distinct_back (e ∷ l) m d = grind (arith, nat_tests, distinct_back l m)

distinct_front : (l m : List Entry) → distinct (l ++ m) ≡ true → distinct l ≡ true
distinct_front [] m d = refl
distinct_front (e ∷ l) m d = grind (arith, nat_tests, distinct_front l m, has_pair_front l m e.key.fid e.key.address)

pub distinct_mid : (l m n : List Entry) → distinct (l ++ (m ++ n)) ≡ true → distinct m ≡ true
distinct_mid l m n d = distinct_front m n (distinct_back l (m ++ n) d)

-- an entry of the middle is written anew

written_past : (f : ℕ) (a : List ℕ) (p t : ℕ) (l m : List Entry) → count_of f l ≡ 0 → written_over (l ++ m) f a p t ≡ l ++ written_over m f a p t
written_past f a p t [] m h = refl
written_past f a p t (e ∷ l) m h = grind (arith, nat_tests, written_past f a p t l m)

written_before : (f : ℕ) (a : List ℕ) (p t : ℕ) (m n : List Entry) (old : Entry) → lookup m f a ≡ Some old → written_over (m ++ n) f a p t ≡ written_over m f a p t ++ n
written_before f a p t [] n old h = cc
written_before f a p t (e ∷ m) n old h = grind (arith, nat_tests, written_before f a p t m n old)

-- what learning does to the middle, it does to the whole
pub record Whole (share : ℕ) (l m : List Entry) (e : Entry) (r : Mark) : Type 0 where
  pub mark : Ok r ≡ learned_mark share (rising l) e.key.fid e.key.address e.port
  pub later : rising m ≡ after_learn share (rising l) e.key.fid e.key.address e.port e.heard
  pub orderly : Orderly share m

regroup : (a b c d : List Entry) → a ++ ((b ++ c) ++ d) ≡ (a ++ b) ++ (c ++ d)
regroup a b c d = simp append_assoc

pub learned : (share : ℕ) (l m front was is back : List Entry) (e : Entry) (r : Mark) → l ≡ front ++ (was ++ back) → m ≡ front ++ (is ++ back) → count_of e.key.fid front ≡ 0 → count_of e.key.fid back ≡ 0 → count_of e.key.fid was ≡ length was → is_fid e.key.fid ≡ true → Orderly share l → Learned share was is e r → Whole share l m e r
learned share l m front was is back e r le me p q own fid o (over old look re re') =
    let lk : lookup l e.key.fid e.key.address ≡ Some old = ap (λ x. lookup x e.key.fid e.key.address) le ∙ look_mid e.key.fid e.key.address front was back p q ∙ look in
    let w : m ≡ written_over l e.key.fid e.key.address e.port e.heard = me ∙ ap (λ x. front ++ (x ++ back)) re ∙ sym (ap (λ x. written_over x e.key.fid e.key.address e.port e.heard) le ∙ written_past e.key.fid e.key.address e.port e.heard front (was ++ back) p ∙ ap (λ x. front ++ x) (written_before e.key.fid e.key.address e.port e.heard was back old look)) in
    record {
      mark = mark_is share l e.key.fid e.key.address e.port (Some old) r o fid lk (sym re');
      later = over_is share l m e.key.fid e.key.address e.port e.heard old fid lk w;
      orderly = orderly_written share l m e.key.fid e.key.address e.port e.heard o w;
    }
learned share l m front was is back e r le me p q own fid o (added k n we ie look less re) =
    let lk : lookup l e.key.fid e.key.address ≡ None = ap (λ x. lookup x e.key.fid e.key.address) le ∙ look_mid e.key.fid e.key.address front was back p q ∙ look in
    let c : count_of e.key.fid l < share = omega (arith, ap (count_of e.key.fid) le, count_mid e.key.fid front was back p q) in
    let lw : l ≡ (front ++ k) ++ (n ++ back) = le ∙ ap (λ x. front ++ (x ++ back)) we ∙ regroup front k n back in
    let mw : m ≡ (front ++ k) ++ e ∷ (n ++ back) = me ∙ ap (λ x. front ++ (x ++ back)) ie ∙ regroup front k (e ∷ n) back in
    let lk' : lookup ((front ++ k) ++ (n ++ back)) e.key.fid e.key.address ≡ None = subst (λ x. lookup x e.key.fid e.key.address ≡ None) lw lk in
    let c' : count_of e.key.fid ((front ++ k) ++ (n ++ back)) < share = subst (λ x. count_of e.key.fid x < share) lw c in
    let o' : Orderly share ((front ++ k) ++ (n ++ back)) = subst (λ x. Orderly share x) lw o in
    record {
      mark = mark_is share l e.key.fid e.key.address e.port None r o fid lk (ap (λ b. cond b New Full) (lt-ltb _ _ c) ∙ sym re);
      later = ap rising mw ∙ new_is share (front ++ k) (n ++ back) e.key.fid e.key.address e.port e.heard fid o' lk' c' ∙ ap (λ x. after_learn share (rising x) e.key.fid e.key.address e.port e.heard) (sym lw);
      orderly = subst (λ x. Orderly share x) (sym mw) (orderly_in share (front ++ k) (n ++ back) e o' fid lk' c');
    }
learned share l m front was is back e r le me p q own fid o (full same look most re) =
    let lk : lookup l e.key.fid e.key.address ≡ None = ap (λ x. lookup x e.key.fid e.key.address) le ∙ look_mid e.key.fid e.key.address front was back p q ∙ look in
    let c : share ≤ count_of e.key.fid l = omega (arith, ap (count_of e.key.fid) le, count_mid e.key.fid front was back p q) in
    let ml : m ≡ l = me ∙ ap (λ x. front ++ (x ++ back)) same ∙ sym le in
    record {
      mark = mark_is share l e.key.fid e.key.address e.port None r o fid lk (ap (λ b. cond b New Full) (le-ltb _ _ c) ∙ sym re);
      later = ap rising ml ∙ full_is share l e.key.fid e.key.address e.port e.heard fid o lk c;
      orderly = subst (λ x. Orderly share x) (sym ml) o;
    }
