use Rattle.std.proofs.Common.{◌≡◌, drop, map}
use Rattle.configuration.specs.Saying.{unsaid}
use Rattle.configuration.proofs.Entries.{gathered}
use Rattle.configuration.specs.declared.row.Row.{Row}
use Rattle.configuration.proofs.statics.Statics.gathered.Given as goal

abbrev pub invariant-loop-row : goal.invariant-loop-row
invariant-loop-row l =
    gathered l.vlans l.fid l.address (map (λ (row : Row). row.entry) (drop l.row-index l.row-items)) l.said ≡ gathered l.vlans l.fid l.address l.self unsaid
