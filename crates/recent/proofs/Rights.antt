-- The remembered answers stay right over each call.
use Rattle.std.proofs.Common.{◌≡◌, ℕ, zero, suc, replicate, ◌<◌, ◌≤◌, Bool, true, false, cond, ◌≢◌, List, [], ◌∷◌, map, length, get_or, set, is_some, Some, None, Ok, Option, Result, sym, refl, ap, ◌∙◌, subst, ⊎_elim, arith}
use Rattle.std.proofs.lemmas.List.{get_or-set_same, get_or-set_other, set_past, get_or_past, get_or-map, length-map}
use Rattle.std.proofs.lemmas.Bool.{cases_eq, cases_lt, eqb-false, true≢false}
use Rattle.std.proofs.lemmas.Option.{none-some, same_Some}
use Rattle.std.specs.List.{find, flat_map}
use Rattle.std.specs.Option.{option_map, option_to_list}
use Rattle.fault.specs.declared.refusal.Refusal.{Refusal}
use Rattle.fault.specs.declared.mark.Mark.{Mark}
use Rattle.fault.specs.declared.mark.Mark.TheVariants.{New, Known, Moved, Full, Unlearned}
use Rattle.table.specs.declared.entry.Entry.{Entry}
use Rattle.table.specs.Entries.{new_entry}
use Rattle.table.specs.Calls.{answered, learned_mark, after_learn, expired, after_expire, after_flush}
use Rattle.table.proofs.Records.{key_is, key_sym}
use Rattle.table.proofs.Views.{view_flush, view_answer}
use Rattle.table.proofs.After.{answer_other, answer_known, after_full, answer_expired, expired_none}
use Rattle.recent.specs.declared.remembered.Remembered.{Remembered}
use Rattle.recent.specs.Remembered.{alters, is_for, in_fid, has_port, or_else, recalled, left}
use Rattle.recent.specs.Right.{RightAt, AllRight, Right, IsRight}

abbrev ok : Option ℕ → Result (Option ℕ) Refusal
ok x = Ok x

-- what is recalled is right
all_recalled : (l : List Entry) (ms : List (Option Remembered)) (f : ℕ) (a : List ℕ) (p : Option ℕ) → AllRight l ms → Some p ≡ recalled ms f a → Ok p ≡ answered l f a
all_recalled l [] f a p r h = absurd (none-some p (sym h))
all_recalled l (None ∷ ms) f a p r h = all_recalled l ms f a p (λ i. r (suc i)) h
all_recalled l (Some m ∷ ms) f a p r h = go (λ k. all_recalled l ms f a p (λ i. r (suc i)) k) (is_for f a m) refl h
  where
    go : (Some p ≡ recalled ms f a → Ok p ≡ answered l f a) → (b : Bool) → is_for f a m ≡ b → Some p ≡ or_else (cond b (Some m.port) None) (recalled ms f a) → Ok p ≡ answered l f a
    go ih true q k =
        let s = key_is f a (new_entry m.key.fid m.key.address 0 0) q in
        ap ok (same_Some p m.port k) ∙ sym (r 0) ∙ ap (λ x. answered l x m.key.address) s.0 ∙ ap (λ x. answered l f x) s.1
    go ih false q k = ih k

-- one more answer
all_set : (l : List Entry) (ms : List (Option Remembered)) (n : ℕ) (m : Remembered) → AllRight l ms → answered l m.key.fid m.key.address ≡ Ok m.port → AllRight l (set ms n (Some m))
all_set l ms n m r e i = ⊎_elim
    (λ (s : i ≡ n). ⊎_elim
    (λ (w : n < length ms). subst (RightAt l) (sym (ap (λ k. get_or (set ms n (Some m)) k None) s ∙ get_or-set_same ms n (Some m) None w)) e)
    (λ (w : length ms ≤ n). subst (RightAt l) (sym (ap (λ x. get_or x i None) (set_past ms n (Some m) w))) (r i))
    (cases_lt n (length ms)))
    (λ (s : i ≢ n). subst (RightAt l) (sym (get_or-set_other ms n i (Some m) None s)) (r i))
    (cases_eq i n)

-- the answers that a test does not pick are the same after a change
right_map : (l k : List Entry) (test : Remembered → Bool) (ms : List (Option Remembered)) → ((m : Remembered) → test m ≡ false → answered l m.key.fid m.key.address ≡ Ok m.port → answered k m.key.fid m.key.address ≡ Ok m.port) → AllRight l ms → AllRight k (map (left test) ms)
right_map l k test ms same r i = ⊎_elim
    (λ (w : i < length ms). subst (RightAt k) (sym (get_or-map (left test) ms i None None w)) (one (get_or ms i None) (r i)))
    (λ (w : length ms ≤ i). subst (RightAt k) (sym (get_or_past (map (left test) ms) i None (omega (arith, length-map ms (left test))))) tt)
    (cases_lt i (length ms))
  where
    go : (m : Remembered) → answered l m.key.fid m.key.address ≡ Ok m.port → (b : Bool) → test m ≡ b → RightAt k (cond b None (Some m))
    go m h true q = tt
    go m h false q = same m q h

    one : (o : Option Remembered) → RightAt l o → RightAt k (left test o)
    one None h = tt
    one (Some m) h = go m h (test m) refl

right_flush : (l : List Entry) (f : ℕ) (ms : List (Option Remembered)) → AllRight l ms → AllRight (after_flush l f) (map (left (in_fid f)) ms)
right_flush l f ms r = right_map l (after_flush l f) (in_fid f) ms (λ m q h. view_answer m.key.fid m.key.address _ l (view_flush m.key.fid f l (λ z. eqb-false m.key.fid f q (sym z))) ∙ h) r

right_expire : (l : List Entry) (limit : ℕ) (ms : List (Option Remembered)) → AllRight l ms → AllRight (after_expire limit l) (map (left has_port) ms)
right_expire l limit ms r = right_map l (after_expire limit l) has_port ms (λ m q h. go m m.port refl q h) r
  where
    go : (m : Remembered) (o : Option ℕ) → m.port ≡ o → is_some m.port ≡ false → answered l m.key.fid m.key.address ≡ Ok m.port → answered (after_expire limit l) m.key.fid m.key.address ≡ Ok m.port
    go m None e q h =
        let w : Ok None ≡ Ok m.port = ap ok (sym e) in
        answer_expired limit l m.key.fid m.key.address (h ∙ sym w) ∙ w
    go m (Some p) e q h = absurd (true≢false (ap is_some (sym e) ∙ q))

right_learn : (share : ℕ) (l : List Entry) (f : ℕ) (a : List ℕ) (p t : ℕ) (ms : List (Option Remembered)) → AllRight l ms → AllRight (after_learn share l f a p t) (map (left (is_for f a)) ms)
right_learn share l f a p t ms r = right_map l (after_learn share l f a p t) (is_for f a) ms (λ m q h. answer_other share l f a p t m.key.fid m.key.address (key_sym (new_entry m.key.fid m.key.address 0 0) (new_entry f a p t) ∙ q) ∙ h) r

-- where each answer is as it was
same_right : (l k : List Entry) (ms : List (Option Remembered)) → ((g : ℕ) (b : List ℕ) → answered k g b ≡ answered l g b) → AllRight l ms → AllRight k ms
same_right l k ms same r i = one (get_or ms i None) (r i)
  where
    one : (o : Option Remembered) → RightAt l o → RightAt k o
    one None h = tt
    one (Some m) h = same m.key.fid m.key.address ∙ h

right_unaltered : (m : Mark) (l k : List Entry) (ms : List (Option Remembered)) (share f : ℕ) (a : List ℕ) (p t : ℕ) → alters m ≡ false → k ≡ after_learn share l f a p t → Ok m ≡ learned_mark share l f a p → AllRight l ms → AllRight k ms
right_unaltered New l k ms share f a p t n e h r = absurd (true≢false n)
right_unaltered Known l k ms share f a p t n e h r = same_right l k ms (λ g b. ap (λ z. answered z g b) e ∙ answer_known share l f a p t g b h) r
right_unaltered Moved l k ms share f a p t n e h r = absurd (true≢false n)
right_unaltered Full l k ms share f a p t n e h r = same_right l k ms (λ g b. ap (λ z. answered z g b) (e ∙ after_full share l f a p t h)) r
right_unaltered Unlearned l k ms share f a p t n e h r = absurd (true≢false n)

-- the same, as the functions over the slots say it

shut : (l k : List Entry) (ms ns : List (Option Remembered)) → k ≡ l → ns ≡ ms → AllRight l ms → Right k ns
unfolding Right
shut l k ms ns e f r = subst (λ z. AllRight z ns) (sym e) (subst (AllRight l) (sym f) r)

opened : (l : List Entry) (ms : List (Option Remembered)) → Right l ms → AllRight l ms
unfolding Right
opened l ms r = r

pub right_empty : (l : List Entry) → Right l (replicate 8 None)
right_empty l = shut l l (replicate 8 None) (replicate 8 None) refl refl (λ i. subst (RightAt l) (sym (nothing 8 i)) tt)
  where
    nothing : (n i : ℕ) → get_or (replicate n (let o : Option Remembered = None in o)) i None ≡ None
    nothing zero i = refl
    nothing (suc n) zero = refl
    nothing (suc n) (suc i) = nothing n i

pub recalled_right : (l : List Entry) (ms : List (Option Remembered)) (f : ℕ) (a : List ℕ) (o : Option (Option ℕ)) → o ≡ recalled ms f a → Right l ms → IsRight l f a o
recalled_right l ms f a None h r = tt
recalled_right l ms f a (Some p) h r = all_recalled l ms f a p (opened l ms r) h

-- the chain that looks for an answer
pub recalled_find : (ms : List (Option Remembered)) (f : ℕ) (a : List ℕ) → option_map (λ m. m.port) (find (is_for f a) (flat_map option_to_list ms)) ≡ recalled ms f a
recalled_find [] f a = refl
recalled_find (None ∷ ms) f a = recalled_find ms f a
recalled_find (Some m ∷ ms) f a = go (recalled_find ms f a) (is_for f a m)
  where
    go : option_map (λ m. m.port) (find (is_for f a) (flat_map option_to_list ms)) ≡ recalled ms f a → (b : Bool) → option_map (λ m. m.port) (cond b (Some m) (find (is_for f a) (flat_map option_to_list ms))) ≡ or_else (cond b (Some m.port) None) (recalled ms f a)
    go ih true = refl
    go ih false = ih

pub remembers : (l k : List Entry) (ms : List (Option Remembered)) (n : ℕ) (m : Remembered) → k ≡ l → Right l ms → Ok m.port ≡ answered l m.key.fid m.key.address → Right k (set ms n (Some m))
remembers l k ms n m e r h = shut l k _ _ e refl (all_set l ms n m (opened l ms r) (sym h))

pub unaltered : (m : Mark) (l k : List Entry) (ms : List (Option Remembered)) (share f : ℕ) (a : List ℕ) (p t : ℕ) → alters m ≡ false → k ≡ after_learn share l f a p t → Ok m ≡ learned_mark share l f a p → Right l ms → Right k ms
unaltered m l k ms share f a p t n e h r = shut k k ms ms refl refl (right_unaltered m l k ms share f a p t n e h (opened l ms r))

pub forgets_learned : (l k : List Entry) (ms ns : List (Option Remembered)) (share f : ℕ) (a : List ℕ) (p t : ℕ) → ns ≡ map (left (is_for f a)) ms → k ≡ after_learn share l f a p t → Right l ms → Right k ns
forgets_learned l k ms ns share f a p t e h r = shut _ k _ ns h e (right_learn share l f a p t ms (opened l ms r))

pub forgets_flushed : (l k : List Entry) (ms ns : List (Option Remembered)) (f : ℕ) → ns ≡ map (left (in_fid f)) ms → k ≡ after_flush l f → Right l ms → Right k ns
forgets_flushed l k ms ns f e h r = shut _ k _ ns h e (right_flush l f ms (opened l ms r))

pub forgets_expired : (l k : List Entry) (ms ns : List (Option Remembered)) (limit : ℕ) → ns ≡ map (left has_port) ms → k ≡ after_expire limit l → Right l ms → Right k ns
forgets_expired l k ms ns limit e h r = shut _ k _ ns h e (right_expire l limit ms (opened l ms r))

-- where nothing expired, every answer is as it was
pub none_expired : (l k : List Entry) (ms : List (Option Remembered)) (limit : ℕ) → k ≡ after_expire limit l → expired limit l ≡ 0 → Right l ms → Right k ms
none_expired l k ms limit e n r = shut l k ms ms (e ∙ expired_none limit l n) refl (opened l ms r)
