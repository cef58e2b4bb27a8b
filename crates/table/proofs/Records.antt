-- Lists of entries in any order: keys, filters, an entry that is written anew, one entry more.
use Rattle.std.proofs.Common.{◌≡◌, ℕ, ◌+◌, ◌<◌, ◌≤◌, Bool, true, false, cond, eqb, List, [], ◌∷◌, ◌++◌, length, Some, None, filter, sym, refl, ap, ◌∙◌, arith}
use Rattle.std.specs.Bool.{Decides}
use Rattle.std.specs.List.{count_by}
use Rattle.std.specs.Option.{is_some}
use Rattle.std.proofs.lemmas.Bool.Decides.{Decides-and, Decides-eqb, Decides-like, nat_tests, same_from_decides}
use Rattle.std.proofs.lemmas.List.Filters.{length-filter_both}
use Rattle.std.proofs.lemmas.List.Folds.{list_all-append}
use Rattle.std.proofs.lemmas.List.Recursion.{is_count_by}
use Rattle.std.proofs.lemmas.List.Sums.{length-filter}
use Rattle.std.proofs.lemmas.Slice.Eq.{bytes_eq-Decides}
use Rattle.table.specs.declared.entry.Entry.{Entry}
use Rattle.table.specs.Entries.{is_fid, has_key, lookup, of_fid, not_of_fid, count_of, fids_in_range}
use Rattle.table.specs.Records.{has_pair, distinct, written_over, Orderly}

-- keys

keyed : (f : ℕ) (a : List ℕ) (e : Entry) → Decides (has_key f a e) ((e.key.fid ≡ f) × (e.key.address ≡ a))
keyed f a e = Decides-and _ _ (Decides-eqb e.key.fid f) (bytes_eq-Decides e.key.address a)

pub key_is : (f : ℕ) (a : List ℕ) (e : Entry) → has_key f a e ≡ true → (e.key.fid ≡ f) × (e.key.address ≡ a)
key_is f a e = (keyed f a e).0

pub key_of : (f : ℕ) (a : List ℕ) (e : Entry) → e.key.fid ≡ f → e.key.address ≡ a → has_key f a e ≡ true
key_of f a e p q = (keyed f a e).1 (p, q)

pub key_sym : (x e : Entry) → has_key x.key.fid x.key.address e ≡ has_key e.key.fid e.key.address x
key_sym x e = same_from_decides _ _ (keyed x.key.fid x.key.address e) (Decides-like _ (λ s. (sym s.0, sym s.1)) (λ s. (sym s.0, sym s.1)) (keyed e.key.fid e.key.address x))

-- the entry of a pair is there exactly where a look-up finds it

pub has_pair_is : (l : List Entry) (f : ℕ) (a : List ℕ) → has_pair l f a ≡ is_some (lookup l f a)
has_pair_is [] f a = refl
has_pair_is (e ∷ es) f a = grind (arith, has_pair_is es f a)

pub has_pair_some : (l : List Entry) (f : ℕ) (a : List ℕ) (e : Entry) → lookup l f a ≡ Some e → has_pair l f a ≡ true
has_pair_some l f a e h = has_pair_is l f a ∙ ap is_some h

pub has_pair_none : (l : List Entry) (f : ℕ) (a : List ℕ) → lookup l f a ≡ None → has_pair l f a ≡ false
has_pair_none l f a h = has_pair_is l f a ∙ ap is_some h

pub has_pair_front : (l m : List Entry) (f : ℕ) (a : List ℕ) → has_pair (l ++ m) f a ≡ false → has_pair l f a ≡ false
has_pair_front [] m f a h = refl
has_pair_front (e ∷ l) m f a h = grind (arith, has_pair_front l m f a)

-- counts

pub count_is : (f : ℕ) (l : List Entry) → count_of f l ≡ count_by (of_fid f) l
count_is f = is_count_by (count_of f) (of_fid f) refl (λ _ _. grind arith)

pub count_flush : (f : ℕ) (l : List Entry) → length (filter (not_of_fid f) l) + count_of f l ≡ length l
count_flush f l = omega (arith, count_is f l, length-filter (of_fid f) l, length-filter_both (not_of_fid f) (of_fid f) (λ x. grind arith) l)

-- filters

-- one filter after another, where a third passes what both do
pub kept_both : (p q r : Entry → Bool) → ((e : Entry) → cond (p e) (q e) false ≡ r e) → (l : List Entry) → filter q (filter p l) ≡ filter r l
kept_both p q r h [] = refl
kept_both p q r h (e ∷ es) = grind (arith, kept_both p q r h es, h e)

pub has_pair_kept : (p : Entry → Bool) (l : List Entry) (f : ℕ) (a : List ℕ) → has_pair l f a ≡ false → has_pair (filter p l) f a ≡ false
has_pair_kept p [] f a h = refl
has_pair_kept p (e ∷ es) f a h = grind (arith, has_pair_kept p es f a)

pub distinct_kept : (p : Entry → Bool) (l : List Entry) → distinct l ≡ true → distinct (filter p l) ≡ true
distinct_kept p [] h = refl
distinct_kept p (e ∷ es) h = grind (arith, distinct_kept p es, has_pair_kept p es e.key.fid e.key.address)

pub count_kept : (p : Entry → Bool) (f : ℕ) (l : List Entry) → count_of f (filter p l) ≤ count_of f l
count_kept p f [] = omega arith
count_kept p f (e ∷ es) = grind (arith, count_kept p f es)

in_kept : (p : Entry → Bool) (l : List Entry) → fids_in_range l ≡ true → fids_in_range (filter p l) ≡ true
in_kept p [] h = refl
in_kept p (e ∷ es) h = grind (arith, in_kept p es)

-- an entry is written anew

has_pair_written : (l : List Entry) (f : ℕ) (a : List ℕ) (p t g : ℕ) (b : List ℕ) → has_pair (written_over l f a p t) g b ≡ has_pair l g b
has_pair_written [] f a p t g b = refl
has_pair_written (e ∷ es) f a p t g b = grind (arith, has_pair_written es f a p t g b, key_is f a e)

distinct_written : (l : List Entry) (f : ℕ) (a : List ℕ) (p t : ℕ) → distinct (written_over l f a p t) ≡ distinct l
distinct_written [] f a p t = refl
distinct_written (e ∷ es) f a p t = grind (arith, distinct_written es f a p t, has_pair_written es f a p t e.key.fid e.key.address, key_is f a e)

count_written : (l : List Entry) (f : ℕ) (a : List ℕ) (p t g : ℕ) → count_of g (written_over l f a p t) ≡ count_of g l
count_written [] f a p t g = refl
count_written (e ∷ es) f a p t g = grind (arith, count_written es f a p t g, key_is f a e)

in_written : (l : List Entry) (f : ℕ) (a : List ℕ) (p t : ℕ) → fids_in_range (written_over l f a p t) ≡ fids_in_range l
in_written [] f a p t = refl
in_written (e ∷ es) f a p t = grind (arith, in_written es f a p t, key_is f a e)

-- one entry more, anywhere

count_in : (l m : List Entry) (x : Entry) (g : ℕ) → count_of g (l ++ x ∷ m) ≡ count_of g (l ++ m) + cond (eqb x.key.fid g) 1 0
count_in [] m x g = grind arith
count_in (y ∷ l) m x g = grind (arith, count_in l m x g)

fair_in : (share : ℕ) (l m : List Entry) (x : Entry) → ((g : ℕ) → count_of g (l ++ m) ≤ share) → count_of x.key.fid (l ++ m) < share → (g : ℕ) → count_of g (l ++ x ∷ m) ≤ share
fair_in share l m x h c g = grind (arith, nat_tests, count_in l m x g, h g)

range_in : (l m : List Entry) (x : Entry) → fids_in_range (l ++ m) ≡ true → is_fid x.key.fid ≡ true → fids_in_range (l ++ x ∷ m) ≡ true
range_in l m x h k = let p : Entry → Bool = λ e. is_fid e.key.fid in grind (arith, list_all-append p l (x ∷ m), list_all-append p l m)

has_pair_in : (l m : List Entry) (x : Entry) (g : ℕ) (b : List ℕ) → has_pair (l ++ m) g b ≡ false → has_key g b x ≡ false → has_pair (l ++ x ∷ m) g b ≡ false
has_pair_in [] m x g b h k = grind arith
has_pair_in (e ∷ l) m x g b h k = grind (arith, has_pair_in l m x g b)

distinct_in : (l m : List Entry) (x : Entry) → distinct (l ++ m) ≡ true → has_pair (l ++ m) x.key.fid x.key.address ≡ false → distinct (l ++ x ∷ m) ≡ true
distinct_in [] m x h k = grind arith
distinct_in (e ∷ l) m x h k = grind (arith, distinct_in l m x, has_pair_in l m x e.key.fid e.key.address, key_sym x e)

-- what is kept true of the entries stays true

pub orderly_none : (share : ℕ) → Orderly share []
orderly_none share = record { ranged = refl; apart = refl; fair = λ f. omega arith }

pub orderly_kept : (share : ℕ) (p : Entry → Bool) (l m : List Entry) → Orderly share l → m ≡ filter p l → Orderly share m
orderly_kept share p l m o e = record {
  ranged = ap fids_in_range e ∙ in_kept p l o.ranged;
  apart = ap distinct e ∙ distinct_kept p l o.apart;
  fair = λ f. omega (arith, ap (count_of f) e, count_kept p f l, o.fair f);
}

pub orderly_written : (share : ℕ) (l m : List Entry) (f : ℕ) (a : List ℕ) (p t : ℕ) → Orderly share l → m ≡ written_over l f a p t → Orderly share m
orderly_written share l m f a p t o e = record {
  ranged = ap fids_in_range e ∙ in_written l f a p t ∙ o.ranged;
  apart = ap distinct e ∙ distinct_written l f a p t ∙ o.apart;
  fair = λ g. omega (arith, ap (count_of g) e, count_written l f a p t g, o.fair g);
}

pub orderly_in : (share : ℕ) (k n : List Entry) (x : Entry) → Orderly share (k ++ n) → is_fid x.key.fid ≡ true → lookup (k ++ n) x.key.fid x.key.address ≡ None → count_of x.key.fid (k ++ n) < share → Orderly share (k ++ x ∷ n)
orderly_in share k n x o r h c = record {
  ranged = range_in k n x o.ranged r;
  apart = distinct_in k n x o.apart (has_pair_none (k ++ n) x.key.fid x.key.address h);
  fair = fair_in share k n x o.fair c;
}
