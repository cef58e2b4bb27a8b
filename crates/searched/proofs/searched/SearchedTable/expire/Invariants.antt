use Rattle.table.specs.Calls.{heard_after}
use Rattle.searched.proofs.searched.SearchedTable.expire.Given as goal

abbrev pub ghost-remove : goal.ghost-remove
ghost-remove a = heard_after a.keep.0.now
