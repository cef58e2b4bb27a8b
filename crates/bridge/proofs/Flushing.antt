-- Flushing every filtering database leaves nothing.
use Rattle.std.proofs.Common.{◌≡◌, ℕ, ◌+◌, ◌≤◌, Bool, true, nat_le, List, [], ◌∷◌, filter, refl, arith}
use Rattle.std.specs.List.{list_all}
use Rattle.std.proofs.lemmas.Bool.{le-leb}
use Rattle.std.proofs.lemmas.Bool.Decides.{nat_tests}
use Rattle.table.specs.Calls.{after_flush}
use Rattle.table.specs.Entries.{fids_in_range, not_of_fid}
use Rattle.table.specs.declared.entry.Entry.{Entry}

abbrev pub from_on : ℕ → Entry → Bool
from_on f e = nat_le f e.key.fid

pub all_from_one : (l : List Entry) → fids_in_range l ≡ true → list_all (from_on 1) l ≡ true
all_from_one [] h = refl
all_from_one (e ∷ es) h = let r = all_from_one es in grind (arith, nat_tests)

without : (f : ℕ) (l : List Entry) → list_all (from_on f) l ≡ true → list_all (from_on (f + 1)) (filter (not_of_fid f) l) ≡ true
without f [] h = refl
without f (e ∷ es) h = let r = without f es in grind (arith, nat_tests)

pub flushed_on : (f : ℕ) (l : List Entry) → 1 ≤ f → f ≤ 16 → list_all (from_on f) l ≡ true → list_all (from_on (f + 1)) (after_flush l f) ≡ true
flushed_on f l a b h = rw (le-leb 1 f a, le-leb f 16 b) (without f l h)

pub none_left : (l : List Entry) → fids_in_range l ≡ true → list_all (from_on 17) l ≡ true → l ≡ []
none_left [] h k = refl
none_left (e ∷ es) h k = grind (arith, nat_tests)
