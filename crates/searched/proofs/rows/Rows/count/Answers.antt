use Rattle.std.proofs.Common.{◌^◌, ℕ, cond, rules, tests, arith, length, sym, ap, ◌∙◌}
use Rattle.std.proofs.lemmas.Iterator.{YieldsList-from_slice, YieldsList-from_map}
use Rattle.std.proofs.lemmas.Iterator.Consumers.{sum_by_from_yields_List, fits_by_from_yields_list}
use Rattle.std.proofs.lemmas.List.Sums.{length-filter, count_by-le-length}
use Rattle.table.specs.declared.entry.Entry.{Entry}
use Rattle.table.specs.Entries.{entries_of, of_fid}
use Rattle.searched.proofs.rows.Rows.count.Goals as goal

abbrev one : ℕ → Entry → ℕ
one f e = cond (of_fid f e) 1 0

pub sum-requires-clause-fits : goal.sum-requires-clause-fits
sum-requires-clause-fits c =
    fits_by_from_yields_list (one c.args.fid) c.entries.result.now _ (2 ^ 64)
    (YieldsList-from_map _ (one c.args.fid) (YieldsList-from_slice c.entries.result.now cc) c.map.ensures.closure (λ x r q k. search (rules, tests)))
    (omega (arith, count_by-le-length (of_fid c.args.fid) c.entries.result.now, c.iter.ensures.bound))

pub returns : goal.returns
returns c =
    sum_by_from_yields_List (one c.args.fid) c.entries.result.now _ _ c.sum.ensures.ran
    (YieldsList-from_map _ (one c.args.fid) (YieldsList-from_slice c.entries.result.now cc) c.map.ensures.closure (λ x r q k. search (rules, tests)))
    ∙ sym (length-filter (of_fid c.args.fid) c.entries.result.now)
    ∙ ap (λ l. length (entries_of c.args.fid l)) c.entries.ensures
