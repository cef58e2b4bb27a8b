-- A number where the number of a filtering database is wanted: 1 to 16, or the refusal.
use Rattle.std.specs.Prelude.{◌≡◌, ℕ, cond, Ok, Err, Result}
use Rattle.fault.specs.declared.refusal.Refusal.{Refusal}
use Rattle.fault.specs.declared.refusal.Refusal.TheVariants.{FidOutOfRange}
use Rattle.table.specs.Entries.{is_fid}
use Rattle.table.specs.declared.fid.Fid.{Fid}

abbrev pub fid_number : Result Fid Refusal → Result ℕ Refusal
fid_number (Ok fid) = Ok fid.number
fid_number (Err e) = Err e

abbrev pub Names : ℕ → Result Fid Refusal → Type 0
Names n r = fid_number r ≡ cond (is_fid n) (Ok n) (Err FidOutOfRange)
