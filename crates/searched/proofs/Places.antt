-- The place of a pair among the entries, its entry written anew there, and the entries of a database.
use Rattle.std.proofs.Common.{◌≡◌, ℕ, List, [], ◌∷◌, length, get_or, set, Some, Option, sym, refl, ap, ◌∙◌, arith}
use Rattle.std.proofs.lemmas.Bool.Decides.{nat_tests}
use Rattle.std.proofs.lemmas.List.Folds.{find_at}
use Rattle.std.proofs.lemmas.Option.{cond_some, slice_get-get_or, slice_get_past}
use Rattle.std.specs.List.{position, position_or_len}
use Rattle.std.specs.Option.{option_map}
use Rattle.table.specs.declared.entry.Entry.{Entry}
use Rattle.table.specs.Entries.{new_entry, has_key, lookup, entries_of, count_of}
use Rattle.table.specs.Records.{written_over}
use Rattle.table.specs.Rising.{insert, rising}
use Rattle.table.proofs.Records.{has_pair_some}
use Rattle.table.proofs.Rising.{look_rising, count_rising, rising_written}
use Rattle.table.proofs.Views.{view_count}
use Rattle.searched.specs.declared.searched.Searched.{Searched}
use Rattle.searched.specs.Records.{taken}
use Rattle.searched.specs.Sets.{set_of}

placed : (l : List Entry) (f : ℕ) (a : List ℕ) (d : Entry) → lookup l f a ≡ option_map (λ i. get_or l i d) (position (has_key f a) l)
placed l f a d =
    let test = has_key f a in
    let n = position_or_len test l in
    find_at test l ∙ grind (arith, nat_tests, slice_get-get_or l n d, slice_get_past l n)

-- what a set that is kept as l answers of the pair, by its place in l
pub looked : (l : List Entry) (f : ℕ) (a : List ℕ) (d : Entry) {r o : Option ℕ} → r ≡ o → r ≡ position (has_key f a) l → lookup (rising l) f a ≡ option_map (λ i. get_or l i d) o
looked l f a d was place = look_rising l f a ∙ placed l f a d ∙ ap (option_map (λ i. get_or l i d)) (sym place ∙ was)

-- an entry over that of its pair: where there is none, its place is past the end
written : (l : List Entry) (f : ℕ) (a : List ℕ) (p t : ℕ) → written_over l f a p t ≡ set l (position_or_len (has_key f a) l) (new_entry f a p t)
written [] f a p t = refl
written (e ∷ es) f a p t = grind (arith, written es f a p t)

pub written_at : (l : List Entry) (f : ℕ) (a : List ℕ) (p t : ℕ) {i : ℕ} {r : Option ℕ} → r ≡ Some i → r ≡ position (has_key f a) l → set l i (new_entry f a p t) ≡ written_over l f a p t
written_at l f a p t was place = sym (written l f a p t ∙ ap (λ k. set l k (new_entry f a p t)) (cond_some _ _ _ (sym place ∙ was)).1)

pub renewed_at : (l : List Entry) (f : ℕ) (a : List ℕ) (p t : ℕ) {i : ℕ} {r : Option ℕ} → r ≡ Some i → r ≡ position (has_key f a) l → rising (set l i (new_entry f a p t)) ≡ insert (new_entry f a p t) (rising l)
renewed_at l f a p t was place = ap rising (written_at l f a p t was place) ∙ rising_written l f a p t (has_pair_some l f a _ (sym (look_rising l f a) ∙ looked l f a (new_entry f a p t) was place))

-- the entries of a database among the records are as many as in the set
pub counted : (s : Searched) (f : ℕ) → length (entries_of f (taken s.rows)) ≡ count_of f (set_of s)
counted s f =
    let l = taken s.rows in
    sym (count_rising f l s.apart ∙ view_count f l)
