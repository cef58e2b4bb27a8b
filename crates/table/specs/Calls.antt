-- What each call of a table answers, and which set it leaves. A call for a filtering database that
-- there is not is refused, and leaves the set as it was.
use Rattle.std.specs.Prelude.{ℕ, Bool, cond, List, Some, None, Ok, Err, filter, length, Option, Result, ◌==◌, nat_le, nat_lt}
use Rattle.fault.specs.declared.mark.Mark.{Mark}
use Rattle.fault.specs.declared.mark.Mark.TheVariants.{New, Known, Moved, Full}
use Rattle.fault.specs.declared.refusal.Refusal.{Refusal}
use Rattle.fault.specs.declared.refusal.Refusal.TheVariants.{FidOutOfRange}
use Rattle.table.specs.declared.entry.Entry.{Entry}
use Rattle.table.specs.Entries.{is_fid, new_entry, lookup, not_of_fid, count_of}
use Rattle.table.specs.Rising.{insert}

abbrev pub entry_port : Option Entry → Option ℕ
entry_port None = None
entry_port (Some e) = Some e.port

-- What `find` answers: the port of the pair, or none.
abbrev pub answered : List Entry → ℕ → List ℕ → Result (Option ℕ) Refusal
answered l f a = cond (is_fid f) (Ok (entry_port (lookup l f a))) (Err FidOutOfRange)

-- The mark for a pair that was heard before, by the port then and the port now.
abbrev pub again : ℕ → ℕ → Mark
again before p = cond (before == p) Known Moved

-- The mark for a pair that stands in the set, or for one that does not, where its filtering
-- database has n entries.
abbrev pub mark_at : ℕ → ℕ → ℕ → Option Entry → Mark
mark_at share n p None = cond (nat_lt n share) New Full
mark_at share n p (Some e) = again e.port p

-- What `learn` answers.
abbrev pub learned_mark : ℕ → List Entry → ℕ → List ℕ → ℕ → Result Mark Refusal
learned_mark share l f a p = cond (is_fid f) (Ok (mark_at share (count_of f l) p (lookup l f a))) (Err FidOutOfRange)

-- The set with an entry learned, where `old` is the entry that its pair had.
abbrev pub learn_at : ℕ → List Entry → Entry → Option Entry → List Entry
learn_at share l e None = cond (nat_lt (count_of e.key.fid l) share) (insert e l) l
learn_at share l e (Some old) = insert e l

-- What `learn` leaves.
abbrev pub after_learn : ℕ → List Entry → ℕ → List ℕ → ℕ → ℕ → List Entry
after_learn share l f a p t = cond (is_fid f) (learn_at share l (new_entry f a p t) (lookup l f a)) l

-- The entry was heard at the limit or before it; or after it.
abbrev pub heard_by : ℕ → Entry → Bool
heard_by limit e = nat_le e.heard limit

abbrev pub heard_after : ℕ → Entry → Bool
heard_after limit e = nat_lt limit e.heard

-- What `expire` answers, and what it leaves.
abbrev pub expired : ℕ → List Entry → ℕ
expired limit l = length (filter (heard_by limit) l)

abbrev pub after_expire : ℕ → List Entry → List Entry
after_expire limit l = filter (heard_after limit) l

-- What `flush` answers, and what it leaves.
abbrev pub flushed : List Entry → ℕ → Result ℕ Refusal
flushed l f = cond (is_fid f) (Ok (count_of f l)) (Err FidOutOfRange)

abbrev pub after_flush : List Entry → ℕ → List Entry
after_flush l f = cond (is_fid f) (filter (not_of_fid f) l) l
