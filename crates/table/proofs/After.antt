-- What the mark of a learn says, and what find answers after each call.
use Rattle.std.proofs.Common.{◌≡◌, ℕ, ◌+◌, Bool, true, false, ltb, List, [], ◌∷◌, length, None, Ok, filter, refl, ap, arith}
use Rattle.std.proofs.lemmas.Bool.Decides.{nat_tests}
use Rattle.std.proofs.lemmas.List.Filters.{length-filter_both}
use Rattle.fault.specs.declared.mark.Mark.{Mark}
use Rattle.fault.specs.declared.mark.Mark.TheVariants.{Known, Full}
use Rattle.table.specs.declared.entry.Entry.{Entry}
use Rattle.table.specs.Entries.{is_fid, new_entry, has_key, lookup, count_of}
use Rattle.table.specs.Calls.{answered, mark_at, learned_mark, after_learn, heard_by, heard_after, expired, after_expire}
use Rattle.table.proofs.Records.{key_is}
use Rattle.table.proofs.Rising.{look_insert}

-- the mark

pub marked_at : (share : ℕ) (l : List Entry) (f : ℕ) (a : List ℕ) (p : ℕ) (m : Mark) → Ok m ≡ learned_mark share l f a p → (is_fid f ≡ true) × (m ≡ mark_at share (count_of f l) p (lookup l f a))
marked_at share l f a p m h = (grind arith, grind arith)

pub full_at : (share n p : ℕ) (l : List Entry) (f : ℕ) (a : List ℕ) → Full ≡ mark_at share n p (lookup l f a) → (lookup l f a ≡ None) × (ltb n share ≡ false)
full_at share n p l f a h = (grind arith, grind arith)

-- find after learn

-- another pair
pub answer_other : (share : ℕ) (l : List Entry) (f : ℕ) (a : List ℕ) (p t g : ℕ) (b : List ℕ) → has_key g b (new_entry f a p t) ≡ false → answered (after_learn share l f a p t) g b ≡ answered l g b
answer_other share l f a p t g b h = grind (arith, look_insert (new_entry f a p t) l g b)

-- any pair, where the port was the same
pub answer_known : (share : ℕ) (l : List Entry) (f : ℕ) (a : List ℕ) (p t g : ℕ) (b : List ℕ) → Ok Known ≡ learned_mark share l f a p → answered (after_learn share l f a p t) g b ≡ answered l g b
answer_known share l f a p t g b h =
    let e = new_entry f a p t in
    grind (arith, nat_tests, look_insert e l g b, key_is g b e)

-- any pair, where there was no room
pub after_full : (share : ℕ) (l : List Entry) (f : ℕ) (a : List ℕ) (p t : ℕ) → Ok Full ≡ learned_mark share l f a p → after_learn share l f a p t ≡ l
after_full share l f a p t h = grind arith

-- a pair that has no entry has none after others are removed
look_kept_none : (q : Entry → Bool) (l : List Entry) (f : ℕ) (a : List ℕ) → lookup l f a ≡ None → lookup (filter q l) f a ≡ None
look_kept_none q [] f a h = refl
look_kept_none q (e ∷ es) f a h = grind (arith, look_kept_none q es f a)

pub answer_expired : (limit : ℕ) (l : List Entry) (f : ℕ) (a : List ℕ) → answered l f a ≡ Ok None → answered (after_expire limit l) f a ≡ Ok None
answer_expired limit l f a h = grind (arith, look_kept_none (heard_after limit) l f a)

-- expire: what goes and what stays are all that there was

pub expired_rest : (limit : ℕ) (l : List Entry) → length (after_expire limit l) + expired limit l ≡ length l
expired_rest limit l = length-filter_both (heard_after limit) (heard_by limit) (λ e. grind (arith, nat_tests)) l

-- where all stay, none goes, and the other way round

pub all_stay : (limit : ℕ) (l : List Entry) → l ≡ after_expire limit l → expired limit l ≡ 0
all_stay limit l h = omega (arith, ap length h, expired_rest limit l)

pub expired_none : (limit : ℕ) (l : List Entry) → expired limit l ≡ 0 → after_expire limit l ≡ l
expired_none limit [] h = refl
expired_none limit (e ∷ es) h = grind (arith, nat_tests, expired_none limit es)
