-- How early the entries were heard, over each change of the list.
use Rattle.std.proofs.Common.{◌≡◌, ℕ, ◌<◌, ◌≤◌, min, true, false, cond, List, [], ◌∷◌, ◌++◌, filter, map, sym, refl, ap, ◌∙◌, arith}
use Rattle.std.proofs.lemmas.Bool.{lt-ltb}
use Rattle.std.specs.List.{fold, reduce}
use Rattle.std.specs.Option.{unwrap_or}
use Rattle.table.specs.declared.entry.Entry.{Entry}
use Rattle.table.specs.Entries.{new_entry, has_key}
use Rattle.table.specs.Calls.{heard_after}
use Rattle.table.specs.Records.{written_over}
use Rattle.searched.specs.Records.{oldest_of}

pub oldest_written : (l m : List Entry) (f : ℕ) (a : List ℕ) (p t o r : ℕ) → m ≡ written_over l f a p t → o ≤ oldest_of l → r ≡ min o t → r ≤ oldest_of m
oldest_written l m f a p t o r e h k = omega (arith, ap oldest_of e, go l)
  where
    go : (l : List Entry) → min (oldest_of l) t ≤ oldest_of (written_over l f a p t)
    go [] = omega arith
    go (e ∷ es) = let i = go es in elim (has_key f a e) as (λ b. min (min e.heard (oldest_of es)) t ≤ oldest_of (cond b (new_entry f a p t ∷ es) (e ∷ written_over es f a p t))) [ true ↦ omega arith | false ↦ omega (arith, i) ]

pub oldest_push : (l m : List Entry) (x : Entry) (o r : ℕ) → m ≡ l ++ x ∷ [] → o ≤ oldest_of l → r ≡ min o x.heard → r ≤ oldest_of m
oldest_push l m x o r e h k = omega (arith, ap oldest_of e, go l)
  where
    go : (l : List Entry) → min (oldest_of l) x.heard ≤ oldest_of (l ++ x ∷ [])
    go [] = omega arith
    go (e ∷ es) = omega (arith, go es)

-- nothing is due before the oldest
pub none_due : (limit : ℕ) (l : List Entry) → limit < oldest_of l → l ≡ filter (heard_after limit) l
none_due limit [] h = refl
none_due limit (e ∷ es) h =
    let k : limit < e.heard = omega arith in
    let i = none_due limit es (omega arith) in
    ap (λ r. e ∷ r) i ∙ sym (ap (λ b. cond b (e ∷ filter (heard_after limit) es) (filter (heard_after limit) es)) (lt-ltb _ _ k))

-- the least of the times, as a chain of iterators takes it
pub oldest_least : (l : List Entry) (r : ℕ) → r < 18446744073709551616 → r ≡ unwrap_or (reduce min (map (λ e. e.heard) l)) 18446744073709551615 → r ≡ oldest_of l
oldest_least [] r h e = e
oldest_least (x ∷ es) r h e = omega (arith, e, go x.heard es)
  where
    go : (a : ℕ) (l : List Entry) → min a (oldest_of l) ≡ min (fold min a (map (λ e. e.heard) l)) 18446744073709551615
    go a [] = refl
    go a (e ∷ es) = omega (arith, go (min a e.heard) es)
