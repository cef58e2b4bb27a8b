-- Addresses are six bytes, written here as the list of their values.
use Rattle.std.specs.Prelude.{ℕ, ◌%◌, Bool, ◌&&◌, List, ◌==◌, nat_lt, slice_index}

-- a group address has the lowest bit of its first byte set; any other is individual
abbrev pub group : List ℕ → Bool
group a = slice_index a 0 % 2 == 1

-- 01-80-C2-00-00-00 to 01-80-C2-00-00-0F
abbrev pub reserved : List ℕ → Bool
reserved a =
    (slice_index a 0 == 0x01) && slice_index a 1 == 0x80 && slice_index a 2 == 0xC2 && slice_index a 3 == 0 && slice_index a 4 == 0
    && nat_lt (slice_index a 5) 0x10
