-- Sixteen filtering databases with a share each: how many entries there are at most.
use Rattle.std.proofs.Common.{◌≡◌, ℕ, zero, suc, ◌+◌, ◌*◌, ◌<◌, ◌≤◌, Bool, true, leb, List, [], ◌∷◌, length, filter, refl, arith}
use Rattle.std.proofs.lemmas.Bool.Decides.{nat_tests}
use Rattle.table.specs.declared.entry.Entry.{Entry}
use Rattle.table.specs.Entries.{is_fid, count_of, fids_in_range}
use Rattle.table.specs.Records.{Orderly}

-- the entry is of one of the databases 1 to n
abbrev upto : ℕ → Entry → Bool
upto n e = leb e.key.fid n

one_more : (n : ℕ) (l : List Entry) → length (filter (upto (suc n)) l) ≡ length (filter (upto n) l) + count_of (suc n) l
one_more n [] = refl
one_more n (e ∷ es) = grind (arith, nat_tests, one_more n es)

none : (l : List Entry) → fids_in_range l ≡ true → length (filter (upto 0) l) ≡ 0
none [] h = refl
none (e ∷ es) h = grind (arith, nat_tests, none es)

whole : (l : List Entry) → fids_in_range l ≡ true → length (filter (upto 16) l) ≡ length l
whole [] h = refl
whole (e ∷ es) h = grind (arith, nat_tests, whole es)

most : (n : ℕ) (l : List Entry) (share : ℕ) → Orderly share l → length (filter (upto n) l) ≤ n * share
most zero l share o = omega (arith, none l o.ranged)
most (suc n) l share o = grind (arith, one_more n l, o.fair (suc n), most n l share o)

less : (n : ℕ) (l : List Entry) (share f : ℕ) → Orderly share l → 1 ≤ f → f ≤ n → count_of f l < share → length (filter (upto n) l) < n * share
less zero l share f o lo hi k = omega arith
less (suc n) l share f o lo hi k = grind (arith, one_more n l, o.fair (suc n), most n l share o, λ (h : f ≤ n). less n l share f o lo h k)

-- while a database has less than its share, there are fewer entries than sixteen shares
pub fewer : (l : List Entry) (share f : ℕ) → Orderly share l → is_fid f ≡ true → count_of f l < share → length l < 16 * share
fewer l share f o r k = grind (arith, nat_tests, whole l o.ranged, λ (lo : 1 ≤ f) (hi : f ≤ 16). less 16 l share f o lo hi k)

pub few : (l : List Entry) (share : ℕ) → Orderly share l → length l ≤ 16 * share
few l share o = grind (arith, whole l o.ranged, most 16 l share o)
