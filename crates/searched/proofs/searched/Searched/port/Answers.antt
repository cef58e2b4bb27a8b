use Rattle.std.proofs.Common.{List, Some, get_or, sym, ap, ◌∙◌}
use Rattle.table.specs.declared.entry.Entry.{Entry}
use Rattle.table.specs.Entries.{free_entry}
use Rattle.table.specs.Calls.{entry_port}
use Rattle.searched.specs.Records.{taken}
use Rattle.searched.proofs.Places.{looked}
use Rattle.searched.proofs.searched.Searched.port.Goals as goal

pub returns-in_err-at : goal.returns-in_err-at
returns-in_err-at c = c.from_residual.ensures ∙ sym (ap entry_port (looked (taken c.args.self.now.rows) c.args.key.fid c.args.key.address free_entry c.in_err-at.was c.place.ensures))

pub returns : goal.returns
returns c = ap (λ (l : List Entry). entry_port (Some (get_or l c.in_ok-at.at _))) c.entries.ensures ∙ sym (ap entry_port (looked (taken c.args.self.now.rows) c.args.key.fid c.args.key.address _ c.in_ok-at.was c.place.ensures))
