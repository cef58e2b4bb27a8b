use Rattle.table.specs.Entries.{not_of_fid}
use Rattle.searched.proofs.searched.SearchedTable.flush.Given as goal

abbrev pub ghost-remove : goal.ghost-remove
ghost-remove a = not_of_fid a.keep.0.now
