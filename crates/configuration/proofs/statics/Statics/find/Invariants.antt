use Rattle.std.proofs.Common.{◌≡◌, drop, map}
use Rattle.rules.specs.Settings.{static_of}
use Rattle.configuration.specs.declared.row.Row.{Row}
use Rattle.configuration.proofs.statics.Statics.find.Given as goal

abbrev pub invariant-loop-row : goal.invariant-loop-row
invariant-loop-row l =
    static_of (map (λ (row : Row). row.entry) (drop l.row-index l.row-items)) l.vid l.address ≡ static_of l.self l.vid l.address
