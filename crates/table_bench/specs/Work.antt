-- The work that is timed, as what it does to a table's set. Every kind of table does the same, so that its
-- checksum is one number for all of them. Entries are counted through all sixteen filtering databases, so
-- that neighbours are of different ones; the same addresses stand in each.
use Rattle.std.specs.Prelude.{ℕ, zero, suc, ◌+◌, ◌-◌, ◌/◌, ◌%◌, ◌^◌, cond, List, [], ◌∷◌, Some, Ok, Option, Result, ◌==◌, nat_lt}
use Rattle.fault.specs.declared.mark.Mark.{Mark}
use Rattle.fault.specs.declared.mark.Mark.TheVariants.{Known}
use Rattle.fault.specs.declared.refusal.Refusal.{Refusal}
use Rattle.table.specs.declared.entry.Entry.{Entry}
use Rattle.table.specs.Calls.{answered, learned_mark, after_learn, expired, after_expire}
use Rattle.table.specs.Entries.{new_entry}

-- The filtering database and the port of the entry with a number.
abbrev pub fid_at : ℕ → ℕ
fid_at i = i % 16 + 1

abbrev pub port_at : ℕ → ℕ
port_at i = i / 16 % 16

-- The address with a number, of one maker's block.
abbrev pub address_at : ℕ → List ℕ
address_at n = 0 ∷ 27 ∷ 33 ∷ 0 ∷ n / 256 % 256 ∷ n % 256 ∷ []

-- The number that comes after another where n entries are gone through in strides, going round.
abbrev pub strode : ℕ → ℕ → ℕ → ℕ
strode n stride at = cond (nat_lt (at + stride) n) (at + stride) (at + stride - n)

-- The entry with a number, heard at a time.
abbrev pub entry_at : ℕ → ℕ → Entry
entry_at i t = new_entry (fid_at i) (address_at (i / 16)) (port_at i) t

-- The entry that has its turn at a step.
unfoldable pub at_step : ℕ → ℕ → ℕ → ℕ
at_step n stride zero = 0
at_step n stride (suc k) = strode n stride (at_step n stride k)

-- The set after k entries were learned at the time 1.
unfoldable pub filled : ℕ → ℕ → List Entry
filled share zero = []
filled share (suc k) = after_learn share (filled share k) (fid_at k) (address_at (k / 16)) (port_at k) 1

-- What an answer counts in a checksum: one more than the port, or 1 for an address that was known.
abbrev pub worth_of : Result (Option ℕ) Refusal → ℕ
worth_of (Ok (Some p)) = p + 1
worth_of _ = 0

abbrev pub worth_of_mark : Result Mark Refusal → ℕ
worth_of_mark (Ok Known) = 1
worth_of_mark _ = 0

-- Checksums wrap at 64 bits.
abbrev pub plus : ℕ → ℕ → ℕ
plus sum x = (sum + x) % 2 ^ 64

-- A find leaves the set as it was, and is worth what it answers, from the address with the number `from` on.
abbrev pub unaltered : ℕ → List Entry → ℕ → ℕ → List Entry
unaltered share l at k = l

abbrev pub found_worth : ℕ → ℕ → List Entry → ℕ → ℕ
found_worth from share l at = worth_of (answered l (fid_at at) (address_at (from + at / 16)))

-- A learn hears an entry again, at the time of its step.
abbrev pub heard_again : ℕ → List Entry → ℕ → ℕ → List Entry
heard_again share l at k = after_learn share l (fid_at at) (address_at (at / 16)) (port_at at) k

abbrev pub learned_worth : ℕ → List Entry → ℕ → ℕ
learned_worth share l at = worth_of_mark (learned_mark share l (fid_at at) (address_at (at / 16)) (port_at at))

-- An expire of what was heard at the time 0 is worth 1 where nothing went.
abbrev pub aged : ℕ → List Entry → ℕ → ℕ → List Entry
aged share l at k = after_expire 0 l

abbrev pub aged_worth : ℕ → List Entry → ℕ → ℕ
aged_worth share l at = cond (expired 0 l == 0) 1 0

-- The set after k of n entries had their turn.
unfoldable pub set_after : (ℕ → List Entry → ℕ → ℕ → List Entry) → ℕ → List Entry → ℕ → ℕ → ℕ → List Entry
set_after later share l n stride zero = l
set_after later share l n stride (suc k) = later share (set_after later share l n stride k) (at_step n stride k) k

-- The checksum of k entries.
unfoldable pub sum_of : (ℕ → List Entry → ℕ → ℕ → List Entry) → (ℕ → List Entry → ℕ → ℕ) → ℕ → List Entry → ℕ → ℕ → ℕ → ℕ
sum_of later worth share l n stride zero = 0
sum_of later worth share l n stride (suc k) = plus (sum_of later worth share l n stride k) (worth share (set_after later share l n stride k) (at_step n stride k))
