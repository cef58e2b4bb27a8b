-- For tables that keep entries l in any order, no two of one pair: what they answer and leave is what the rising list of l says.
use Rattle.std.proofs.Common.{◌≡◌, ℕ, ◌+◌, ◌<◌, ◌≤◌, Bool, true, false, List, ◌∷◌, ◌++◌, length, Some, None, Ok, filter, Option, sym, ap, ◌∙◌, arith}
use Rattle.std.proofs.lemmas.Bool.Decides.{nat_tests}
use Rattle.fault.specs.declared.mark.Mark.{Mark}
use Rattle.table.specs.declared.entry.Entry.{Entry}
use Rattle.table.specs.Entries.{is_fid, new_entry, lookup, not_of_fid, count_of, fids_in_range}
use Rattle.table.specs.Rising.{rising}
use Rattle.table.specs.Calls.{mark_at, learned_mark, after_learn, flushed, after_flush}
use Rattle.table.specs.Records.{distinct, has_pair, written_over, Orderly}
use Rattle.table.proofs.Records.{distinct_kept, has_pair_some, has_pair_none, has_pair_front}
use Rattle.table.proofs.Rising.{look_rising, count_rising, size_rising, kept_rising, range_rising, rising_in, rising_written}

pub fair_rising : (share : ℕ) (l : List Entry) → Orderly share l → (f : ℕ) → count_of f (rising l) ≤ share
fair_rising share l o f = omega (arith, count_rising f l o.apart, o.fair f)

pub ranged_rising : (share : ℕ) (l : List Entry) → Orderly share l → fids_in_range (rising l) ≡ true
ranged_rising share l o = range_rising l o.ranged

-- learn

pub mark_is : (share : ℕ) (l : List Entry) (f : ℕ) (a : List ℕ) (p : ℕ) (o : Option Entry) (m : Mark) → Orderly share l → is_fid f ≡ true → lookup l f a ≡ o → mark_at share (count_of f l) p o ≡ m → Ok m ≡ learned_mark share (rising l) f a p
mark_is share l f a p o m d r e k = grind (arith, look_rising l f a, count_rising f l d.apart)

-- the entry of the pair is written anew
pub over_is : (share : ℕ) (l m : List Entry) (f : ℕ) (a : List ℕ) (p t : ℕ) (e : Entry) → is_fid f ≡ true → lookup l f a ≡ Some e → m ≡ written_over l f a p t → rising m ≡ after_learn share (rising l) f a p t
over_is share l m f a p t e r h w = grind (arith, look_rising l f a, rising_written l f a p t (has_pair_some l f a e h))

-- a new entry is written anywhere among them
pub new_is : (share : ℕ) (k n : List Entry) (f : ℕ) (a : List ℕ) (p t : ℕ) → is_fid f ≡ true → Orderly share (k ++ n) → lookup (k ++ n) f a ≡ None → count_of f (k ++ n) < share → rising (k ++ new_entry f a p t ∷ n) ≡ after_learn share (rising (k ++ n)) f a p t
new_is share k n f a p t r d h c =
    let no' : has_pair k f a ≡ false = has_pair_front k n f a (has_pair_none (k ++ n) f a h) in
    grind (arith, nat_tests, look_rising (k ++ n) f a, count_rising f (k ++ n) d.apart, rising_in k n (new_entry f a p t) no')

-- there is no room
pub full_is : (share : ℕ) (l : List Entry) (f : ℕ) (a : List ℕ) (p t : ℕ) → is_fid f ≡ true → Orderly share l → lookup l f a ≡ None → share ≤ count_of f l → rising l ≡ after_learn share (rising l) f a p t
full_is share l f a p t r d h c = grind (arith, nat_tests, look_rising l f a, count_rising f l d.apart)

-- expire and flush

pub kept_is : (share : ℕ) (p : Entry → Bool) (l m : List Entry) → Orderly share l → m ≡ filter p l → rising m ≡ filter p (rising l)
kept_is share p l m d e = ap rising e ∙ sym (kept_rising p l d.apart)

-- as many go from the set as from the records
pub gone_is : (share : ℕ) (p : Entry → Bool) (l m : List Entry) (n : ℕ) → Orderly share l → m ≡ filter p l → n + length m ≡ length l → n + length (rising m) ≡ length (rising l)
gone_is share p l m n d e h =
    let apart : distinct m ≡ true = ap distinct e ∙ distinct_kept p l d.apart in
    omega (arith, h, size_rising l d.apart, size_rising m apart)

pub flush_is : (share : ℕ) (l m : List Entry) (f : ℕ) → is_fid f ≡ true → Orderly share l → m ≡ filter (not_of_fid f) l → rising m ≡ after_flush (rising l) f
flush_is share l m f r d e = grind (arith, kept_is share (not_of_fid f) l m d e)

pub flushed_is : (share : ℕ) (l : List Entry) (f n : ℕ) → is_fid f ≡ true → Orderly share l → n ≡ count_of f l → Ok n ≡ flushed (rising l) f
flushed_is share l f n r d e = grind (arith, count_rising f l d.apart)
