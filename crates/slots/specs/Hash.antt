-- Where an entry belongs. Its home among n records is its hash as a fraction of all hashes; from there
-- a search goes up record by record, and after the last record on with the first.
use Rattle.std.specs.Prelude.{ℕ, ◌+◌, ◌-◌, ◌*◌, ◌/◌, ◌%◌, ◌^◌, cond, List, bit_xor, nat_le, nat_lt, slice_index}

-- The database and the six bytes of the address as one number.
abbrev pub pair_number : ℕ → List ℕ → ℕ
pair_number f a = 0 * 72057594037927936 + f * 281474976710656 + slice_index a 0 * 1099511627776 + slice_index a 1 * 4294967296 + slice_index a 2 * 16777216 + slice_index a 3 * 65536 + slice_index a 4 * 256 + slice_index a 5

abbrev pub spread : ℕ → ℕ
spread k = k * 0x9e3779b97f4a7c15 % 2 ^ 64

abbrev pub folded : ℕ → ℕ
folded s = bit_xor s (s / 4294967296) * 0xbf58476d1ce4e5b9 % 2 ^ 64

unfoldable pub hash_of : ℕ → List ℕ → ℕ
hash_of f a = folded (spread (pair_number f a))

unfoldable pub home_of : ℕ → ℕ → List ℕ → ℕ
home_of n f a = hash_of f a * n / 2 ^ 64

-- The place d steps past h, going round n places.
abbrev pub turned : ℕ → ℕ → ℕ → ℕ
turned n h d = cond (nat_lt d (n - h)) (h + d) (d - (n - h))

-- How many steps the place i is past h, going round n places.
abbrev pub gap : ℕ → ℕ → ℕ → ℕ
gap n h i = cond (nat_le h i) (i - h) (i + (n - h))
