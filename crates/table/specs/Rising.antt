-- One set has one list: its entries rising by FID, and within a filtering database by address, byte by
-- byte from the first. This file has the order, the place of an entry in a rising list, and the
-- rising list of entries that are given in any order.
use Rattle.std.specs.Prelude.{Bool, true, ◌&&◌, List, [], ◌∷◌}
use Rattle.std.specs.declared.cmp.Ordering.TheVariants.{Less, Equal, Greater}
use Rattle.std.specs.declared.cmp.Ordering.{Ordering}
use Rattle.std.specs.List.{list_all}
use Rattle.std.specs.Ordering.{is_lt, nat_cmp, ordering_then}
use Rattle.std.specs.Cmp.Lexicographic.{slice_cmp}
use Rattle.table.specs.declared.entry.Entry.{Entry}

-- The FID counts first, then the address. Port and time do not count.
unfoldable pub order : Entry → Entry → Ordering
order x y = ordering_then (nat_cmp x.key.fid y.key.fid) (slice_cmp nat_cmp x.key.address y.key.address)

abbrev pub insert_by : Ordering → Entry → Entry → List Entry → List Entry → List Entry
insert_by Less e x xs rest = e ∷ x ∷ xs
insert_by Equal e x xs rest = e ∷ xs
insert_by Greater e x xs rest = x ∷ rest

-- The list with an entry in its place, where it replaces the entry of its pair if there is one.
abbrev pub insert : Entry → List Entry → List Entry
insert e [] = e ∷ []
insert e (x ∷ xs) = insert_by (order e x) e x xs (insert e xs)

-- The rising list of entries in any order.
abbrev pub rising : List Entry → List Entry
rising [] = []
rising (e ∷ es) = insert e (rising es)

-- The entry comes before each of a list.
abbrev pub comes_before : Entry → List Entry → Bool
comes_before e l = list_all (λ x. is_lt (order e x)) l

-- Each entry comes before those that follow it. A test that computes, where std's words for sorted
-- lists are types.
abbrev pub rises : List Entry → Bool
rises [] = true
rises (e ∷ es) = comes_before e es && rises es
