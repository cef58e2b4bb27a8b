use Rattle.std.proofs.Common.{◌≡◌}
use Rattle.std.proofs.lemmas.List.Filters.{FiltersInPlace}
use Rattle.searched.proofs.rows.Rows.retain.Given as goal

abbrev pub invariant-loop-i : goal.invariant-loop-i
invariant-loop-i g l = record {
  used : l.self.used ≡ l.initial.self.used;
  filters : FiltersInPlace g.test l.initial.self.all.now l.self.all.now l.kept l.i;
}
