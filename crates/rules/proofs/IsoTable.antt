-- Two sets of entries that one filtering database cannot tell apart, and that stay so.
use Rattle.std.proofs.Common.{◌≡◌, ℕ, Bool, true, false, cond, ltb, List, length, Some, None, Option, sym, refl, ap, ◌∙◌}
use Rattle.std.proofs.lemmas.Bool.{cond_both}
use Rattle.table.specs.declared.entry.Entry.{Entry}
use Rattle.table.specs.Entries.{is_fid, new_entry, lookup, not_of_fid, entries_of, count_of}
use Rattle.table.specs.Rising.{insert, rises}
use Rattle.table.specs.Calls.{answered, learn_at, after_learn, heard_after, after_expire, flushed, after_flush}
use Rattle.table.proofs.Rising.{rises_insert, rises_kept}
use Rattle.table.proofs.Views.{view_learn, view_flush, view_expire, view_look, view_count, view_answer, own_learn, own_flushed, own_flush}

-- both rise, and have the same entries of the database
pub record View (f : ℕ) (l m : List Entry) : Type 0 where
  pub left : rises l ≡ true
  pub right : rises m ≡ true
  pub own : entries_of f l ≡ entries_of f m

pub view_same : (f : ℕ) (l : List Entry) → rises l ≡ true → View f l l
view_same f l r = record { left = r; right = r; own = refl }

-- what is read of the database

pub view_lookup : (f : ℕ) (a : List ℕ) (l m : List Entry) → View f l m → lookup l f a ≡ lookup m f a
view_lookup f a l m v = sym (view_look f a l) ∙ ap (λ z. lookup z f a) v.own ∙ view_look f a m

pub view_number : (f : ℕ) (l m : List Entry) → View f l m → count_of f l ≡ count_of f m
view_number f l m v = view_count f l ∙ ap length v.own ∙ sym (view_count f m)

pub view_found : (f : ℕ) (a : List ℕ) (l m : List Entry) → View f l m → answered l f a ≡ answered m f a
view_found f a l m v = view_answer f a l m v.own

pub view_flushed : (f : ℕ) (l m : List Entry) → View f l m → flushed l f ≡ flushed m f
view_flushed f l m v = own_flushed l f ∙ ap (λ z. flushed z f) v.own ∙ sym (own_flushed m f)

-- what the calls leave rises

rises_learn : (share : ℕ) (l : List Entry) (f : ℕ) (a : List ℕ) (p t : ℕ) → rises l ≡ true → rises (after_learn share l f a p t) ≡ true
rises_learn share l f a p t r =
    let e = new_entry f a p t in
    let room : (b : Bool) → rises (cond b (insert e l) l) ≡ true = λ b. cond_both b _ _ (λ m. rises m ≡ true) (λ _. rises_insert e l r) (λ _. r) in
    let at : (o : Option Entry) → rises (learn_at share l e o) ≡ true = λ o. elim o as (λ o. rises (learn_at share l e o) ≡ true) [ None ↦ room (ltb (count_of f l) share) | Some old ↦ rises_insert e l r ] in
    cond_both (is_fid f) _ _ (λ m. rises m ≡ true) (λ _. at (lookup l f a)) (λ _. r)

rises_flush : (l : List Entry) (f : ℕ) → rises l ≡ true → rises (after_flush l f) ≡ true
rises_flush l f r = cond_both (is_fid f) _ _ (λ m. rises m ≡ true) (λ _. rises_kept (not_of_fid f) l r) (λ _. r)

-- the database's own calls

pub view_learned : (f share : ℕ) (a : List ℕ) (p t : ℕ) (l m : List Entry) → View f l m → View f (after_learn share l f a p t) (after_learn share m f a p t)
view_learned f share a p t l m v =
    record {
      left = rises_learn share l f a p t v.left;
      right = rises_learn share m f a p t v.right;
      own = own_learn share l f a p t v.left ∙ ap (λ z. after_learn share z f a p t) v.own ∙ sym (own_learn share m f a p t v.right);
    }

pub view_left : (f : ℕ) (l m : List Entry) → View f l m → View f (after_flush l f) (after_flush m f)
view_left f l m v =
    record {
      left = rises_flush l f v.left;
      right = rises_flush m f v.right;
      own = own_flush l f ∙ ap (λ z. after_flush z f) v.own ∙ sym (own_flush m f);
    }

-- entries go as time does, or there was too little of it
pub view_aged : (f limit : ℕ) (b : Bool) (l m : List Entry) → View f l m → View f (cond b (after_expire limit l) l) (cond b (after_expire limit m) m)
view_aged f limit true l m v =
    record {
      left = rises_kept (heard_after limit) l v.left;
      right = rises_kept (heard_after limit) m v.right;
      own = view_expire f limit l ∙ ap (after_expire limit) v.own ∙ sym (view_expire f limit m);
    }
view_aged f limit false l m v = v

-- the calls of another database

pub view_other_learned : (f share g : ℕ) (a : List ℕ) (p t : ℕ) (l : List Entry) → (g ≡ f → ⊥) → rises l ≡ true → View f (after_learn share l g a p t) l
view_other_learned f share g a p t l n r =
    record { left = rises_learn share l g a p t r; right = r; own = view_learn f share l g a p t n }

pub view_other_flushed : (f g : ℕ) (l : List Entry) → (g ≡ f → ⊥) → rises l ≡ true → View f (after_flush l g) l
view_other_flushed f g l n r = record { left = rises_flush l g r; right = r; own = view_flush f g l n }
