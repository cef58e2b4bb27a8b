-- What a call of the benchmark answers: the checksum of its task, done by a table with the share 256.
use Rattle.std.specs.Prelude.{ℕ, ◌*◌, ◌%◌, min, max, cond, List, nat_lt}
use Rattle.table.specs.declared.entry.Entry.{Entry}
use Rattle.table_bench.specs.Work.{filled, sum_of}

-- The entries in all databases, for a load of each: at least 1 and at most the share.
abbrev pub entries_for : ℕ → ℕ
entries_for load = 16 * max 1 (min load 256)

-- The stride is a prime above every number of entries, so that each entry has its turn in each round.
abbrev pub stride_of : ℕ → ℕ
stride_of n = 7919 % n

-- What a task comes to that leaves a set and adds to a checksum so at each entry.
abbrev pub performed : (ℕ → List Entry → ℕ → ℕ → List Entry) → (ℕ → List Entry → ℕ → ℕ) → ℕ → ℕ → ℕ
performed later worth n rounds = sum_of later worth 256 (filled 256 n) n (stride_of n) (rounds * n)

-- There are four kinds of tables. They all come to the same.
abbrev pub timed : ℕ → ℕ → ℕ
timed kind sum = cond (nat_lt kind 4) sum 0
