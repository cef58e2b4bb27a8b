-- A table means a set of entries, at most one for each pair of a filtering database (by its number,
-- the FID) and an address. The set is written as a list. This file has the words for looking into it.
use Rattle.std.specs.Prelude.{ℕ, ◌+◌, Bool, cond, not, ◌&&◌, List, [], ◌∷◌, filter, Option, ◌==◌, nat_le}
use Rattle.std.specs.List.{find, list_all}
use Rattle.std.specs.Str.{bytes_eq}
use Rattle.table.specs.declared.entry.Entry.{Entry}

-- There are filtering databases 1 to 16.
abbrev pub is_fid : ℕ → Bool
is_fid f = nat_le 1 f && nat_le f 16

abbrev pub new_entry : ℕ → List ℕ → ℕ → ℕ → Entry
new_entry f a p t = record { key = record { fid = f; address = a }; port = p; heard = t }

-- A record of lent memory that holds no entry says so by the FID 0.
abbrev pub free_entry : Entry
free_entry = new_entry 0 (0 ∷ 0 ∷ 0 ∷ 0 ∷ 0 ∷ 0 ∷ []) 0 0

abbrev pub is_free : Entry → Bool
is_free e = e.key.fid == 0

-- The entry is that of this pair.
abbrev pub has_key : ℕ → List ℕ → Entry → Bool
has_key f a e = e.key.fid == f && bytes_eq e.key.address a

-- The entry of a pair, if there is one.
abbrev pub lookup : List Entry → ℕ → List ℕ → Option Entry
lookup l f a = find (has_key f a) l

abbrev pub of_fid : ℕ → Entry → Bool
of_fid f e = e.key.fid == f

abbrev pub not_of_fid : ℕ → Entry → Bool
not_of_fid f e = not (e.key.fid == f)

-- The entries of one filtering database.
abbrev pub entries_of : ℕ → List Entry → List Entry
entries_of f l = filter (of_fid f) l

-- How many entries a filtering database has. By recursion on the list: inductions over std's
-- count_by, which folds, do not close.
abbrev pub count_of : ℕ → List Entry → ℕ
count_of f [] = 0
count_of f (e ∷ es) = cond (e.key.fid == f) (count_of f es + 1) (count_of f es)

-- Each entry is of a filtering database that there is.
abbrev pub fids_in_range : List Entry → Bool
fids_in_range l = list_all (λ e. is_fid e.key.fid) l
