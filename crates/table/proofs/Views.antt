-- What a call leaves of one filtering database, and what it answers about it, is a matter of the entries of that database alone.
use Rattle.std.proofs.Common.{◌≡◌, ℕ, Bool, true, false, cond, List, [], ◌∷◌, length, filter, sym, refl, ◌∙◌, arith}
use Rattle.std.proofs.lemmas.Bool.{eq-eqb}
use Rattle.std.proofs.lemmas.Bool.Decides.{nat_tests}
use Rattle.std.proofs.lemmas.List.Sums.{length-filter}
use Rattle.table.specs.declared.entry.Entry.{Entry}
use Rattle.table.specs.Entries.{is_fid, new_entry, lookup, of_fid, not_of_fid, entries_of, count_of}
use Rattle.table.specs.Rising.{insert, rises}
use Rattle.table.specs.Calls.{answered, learned_mark, after_learn, after_expire, heard_after, flushed, after_flush}
use Rattle.table.proofs.Order.{order_key}
use Rattle.table.proofs.Records.{count_is, kept_both}
use Rattle.table.proofs.Rising.{kept_insert}

-- filters in either order
kept_kept : (p q : Entry → Bool) (l : List Entry) → filter p (filter q l) ≡ filter q (filter p l)
kept_kept p q l = kept_both q p (λ x. cond (p x) (q x) false) (λ x. grind arith) l ∙ sym (kept_both p q _ (λ x. refl) l)

-- a filter that lets pass all that another does is not seen past that
kept_within : (p q : Entry → Bool) (l : List Entry) → ((x : Entry) → p x ≡ true → q x ≡ true) → filter p (filter q l) ≡ filter p l
kept_within p q l h = kept_both q p p (λ x. grind (arith, h x)) l

-- what another database learns

view_insert : (g : ℕ) (e : Entry) (l : List Entry) → (e.key.fid ≡ g → ⊥) → entries_of g (insert e l) ≡ entries_of g l
view_insert g e [] h = grind (arith, nat_tests)
view_insert g e (x ∷ l) h = grind (arith, nat_tests, view_insert g e l h, order_key e x)

pub view_learn : (g share : ℕ) (l : List Entry) (f : ℕ) (a : List ℕ) (p t : ℕ) → (f ≡ g → ⊥) → entries_of g (after_learn share l f a p t) ≡ entries_of g l
view_learn g share l f a p t h = grind (arith, view_insert g (new_entry f a p t) l h)

-- what another database flushes
pub view_flush : (g f : ℕ) (l : List Entry) → (f ≡ g → ⊥) → entries_of g (after_flush l f) ≡ entries_of g l
view_flush g f l h = grind (arith, kept_within (of_fid g) (not_of_fid f) l (λ x q. grind (arith, nat_tests)))

-- what expires in a database is a matter of its own entries
pub view_expire : (g limit : ℕ) (l : List Entry) → entries_of g (after_expire limit l) ≡ after_expire limit (entries_of g l)
view_expire g limit l = kept_kept (of_fid g) (heard_after limit) l

-- what a database learns itself is put among its own entries
view_own : (e : Entry) (l : List Entry) → rises l ≡ true → entries_of e.key.fid (insert e l) ≡ insert e (entries_of e.key.fid l)
view_own e l r = kept_insert (of_fid e.key.fid) e l (eq-eqb e.key.fid e.key.fid refl) r

-- look-ups and counts read a database's own entries alone

pub view_look : (g : ℕ) (a : List ℕ) (l : List Entry) → lookup (entries_of g l) g a ≡ lookup l g a
view_look g a [] = refl
view_look g a (x ∷ l) = grind (arith, view_look g a l)

pub view_count : (g : ℕ) (l : List Entry) → count_of g l ≡ length (entries_of g l)
view_count g l = count_is g l ∙ sym (length-filter (of_fid g) l)

-- the answer to a look-up in one database stays where its entries do
pub view_answer : (g : ℕ) (a : List ℕ) (l m : List Entry) → entries_of g l ≡ entries_of g m → answered l g a ≡ answered m g a
view_answer g a l m h = rw (← view_look g a l, h, view_look g a m)

-- a database's own entries are all that a call for it reads, and its own part of what the call leaves

own_twice : (f : ℕ) (l : List Entry) → entries_of f (entries_of f l) ≡ entries_of f l
own_twice f l = kept_within (of_fid f) (of_fid f) l (λ x h. h)

count_own : (g : ℕ) (l : List Entry) → count_of g (entries_of g l) ≡ count_of g l
count_own g l = rw (view_count g l, view_count g (entries_of g l), own_twice g l)

pub own_answer : (f : ℕ) (a : List ℕ) (l : List Entry) → answered l f a ≡ answered (entries_of f l) f a
own_answer f a l = view_answer f a l (entries_of f l) (sym (own_twice f l))

pub own_mark : (share : ℕ) (l : List Entry) (f : ℕ) (a : List ℕ) (p : ℕ) → learned_mark share l f a p ≡ learned_mark share (entries_of f l) f a p
own_mark share l f a p = rw (count_own f l, view_look f a l)

pub own_learn : (share : ℕ) (l : List Entry) (f : ℕ) (a : List ℕ) (p t : ℕ) → rises l ≡ true → entries_of f (after_learn share l f a p t) ≡ after_learn share (entries_of f l) f a p t
own_learn share l f a p t r = grind (arith, count_own f l, view_look f a l, view_own (new_entry f a p t) l r)

pub own_flushed : (l : List Entry) (f : ℕ) → flushed l f ≡ flushed (entries_of f l) f
own_flushed l f = rw (count_own f l)

pub own_flush : (l : List Entry) (f : ℕ) → entries_of f (after_flush l f) ≡ after_flush (entries_of f l) f
own_flush l f = grind (arith, kept_kept (of_fid f) (not_of_fid f) l)

gone : (l : List Entry) (f : ℕ) → entries_of f (filter (not_of_fid f) l) ≡ []
gone [] f = refl
gone (x ∷ l) f = grind (arith, gone l f)

-- nothing is left of a database that was flushed
pub flush_none : (l : List Entry) (f : ℕ) → is_fid f ≡ true → entries_of f (after_flush l f) ≡ []
flush_none l f r = grind (arith, gone l f)
