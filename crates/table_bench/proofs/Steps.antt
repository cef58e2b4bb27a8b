-- One step more of each count.
use Rattle.std.proofs.Common.{◌≡◌, ℕ, ◌+◌, ◌/◌, List, add-one}
use Rattle.table.specs.declared.entry.Entry.{Entry}
use Rattle.table.specs.Calls.{after_learn}
use Rattle.table_bench.specs.Work.{fid_at, port_at, address_at, strode, at_step, filled, set_after, sum_of, plus}

pub turn_more : (n stride k : ℕ) → at_step n stride (k + 1) ≡ strode n stride (at_step n stride k)
unfolding at_step
turn_more n stride k = rw (add-one k)

pub filled_more : (share k : ℕ) → filled share (k + 1) ≡ after_learn share (filled share k) (fid_at k) (address_at (k / 16)) (port_at k) 1
unfolding filled
filled_more share k = rw (add-one k)

pub set_more : (later : ℕ → List Entry → ℕ → ℕ → List Entry) (share : ℕ) (l : List Entry) (n stride k : ℕ) → set_after later share l n stride (k + 1) ≡ later share (set_after later share l n stride k) (at_step n stride k) k
unfolding set_after
set_more later share l n stride k = rw (add-one k)

pub sum_more : (later : ℕ → List Entry → ℕ → ℕ → List Entry) (worth : ℕ → List Entry → ℕ → ℕ) (share : ℕ) (l : List Entry) (n stride k : ℕ) → sum_of later worth share l n stride (k + 1) ≡ plus (sum_of later worth share l n stride k) (worth share (set_after later share l n stride k) (at_step n stride k))
unfolding sum_of
sum_more later worth share l n stride k = rw (add-one k)
