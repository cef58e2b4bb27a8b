use Rattle.std.proofs.Common.{◌≡◌}
use Rattle.sets.proofs.ByNumber.{tried}
use Rattle.rules.specs.Settings.{is_filter, is_forward}
use Rattle.configuration.specs.Saying.{says_at}
use Rattle.configuration.proofs.said.Said.by.Given as goal

abbrev pub invariant-loop-port : goal.invariant-loop-port
invariant-loop-port l =
    record {
      forward : l.said.forward ≡ tried (says_at is_forward l.verdicts) 16 l.port;
      filter : l.said.filter ≡ tried (says_at is_filter l.verdicts) 16 l.port;
    }
