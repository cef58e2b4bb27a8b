-- What is asked before a table is made: first about the share, then about the memory. Where both answers are
-- yes, the memory is handed on in two parts, each as it was: the records that the table takes, and the rest.
-- With a refusal all of it is given back, as it was.
use Rattle.std.specs.Prelude.{◌≡◌, ℕ, ◌*◌, cond, ◌&&◌, List, length, take, drop, Ok, Err, Result, nat_le}
use denote.Ref.{MutBor}
use Rattle.fault.specs.declared.refusal.Refusal.{Refusal}
use Rattle.fault.specs.declared.refusal.Refusal.TheVariants.{ShareOutOfRange, TableMemoryTooSmall}
use Rattle.table.specs.declared.entry.Entry.{Entry}
use Rattle.table.specs.declared.checked.Checked.{Checked}
use Rattle.table.specs.declared.checked.Refused.{Refused}

-- The share of one filtering database is 1 to 256 entries. A kind of table says how many records it
-- takes for each entry of the share, all sixteen databases together.
abbrev pub checked_share : ℕ → ℕ → ℕ → Result ℕ Refusal
checked_share each share records = cond (nat_le 1 share && nat_le share 256) (cond (nat_le (each * share) records) (Ok share) (Err TableMemoryTooSmall)) (Err ShareOutOfRange)

abbrev pub answer_of : {each : ℕ} → Result (Checked each × MutBor (List Entry)) Refused → Result ℕ Refusal
answer_of (Ok c) = Ok c.0.share
answer_of (Err e) = Err e.refusal

-- Where the memory is after the check.
abbrev pub HandsOn : {each : ℕ} → ℕ → MutBor (List Entry) → Result (Checked each × MutBor (List Entry)) Refused → Type 0
HandsOn taken records (Ok c) = (c.0.records.now ≡ take taken records.now) × (c.1.now ≡ drop taken records.now)
HandsOn taken records (Err e) = e.records ≡ records

pub record Answers (each share : ℕ) (records : MutBor (List Entry)) (r : Result (Checked each × MutBor (List Entry)) Refused) : Type 0 where
  pub answer : answer_of r ≡ checked_share each share (length records.now)
  pub memory : HandsOn (each * share) records r
