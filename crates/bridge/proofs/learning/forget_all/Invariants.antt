use Rattle.std.proofs.Common.{◌≡◌, true}
use Rattle.std.specs.List.{list_all}
use Rattle.bridge.proofs.Flushing.{from_on}
use Rattle.bridge.proofs.learning.forget_all.Given as goal

-- what is left is of the databases that are still to be flushed
abbrev pub invariant-loop-fid : goal.invariant-loop-fid
invariant-loop-fid g l = record {
  left : list_all (from_on l.fid) (g.T.Table.entries l.table) ≡ true;
  share : g.T.Table.share l.table ≡ g.T.Table.share l.initial.table;
}
