-- That isolation speaks of something. Two bridges that differ meet its premise: the second has a VLAN more, of another
-- database, and static entries outside the first database. On the first bridge two databases' calls alternate, on the
-- second the calls of one database come alone. The same station is heard in both databases, at different ports.
use Rattle.std.specs.Prelude.{◌≡◌, ◌+◌, List, [], ◌∷◌, ◌++◌, map, length, None}
use Rattle.rules.specs.Calls.{Call, find, flush, perform, receive}
use Rattle.rules.specs.Laws.{Alike, concerning}
use Rattle.rules.specs.Runs.{Run, Step}
use Rattle.rules.specs.Settings.{Settings}
use Rattle.rules.specs.State.{State, at_start}
use Rattle.examples.specs.Bridges.{A', B', a_vlan, entry_for, memory, small, small_open, tagged, untagged}

-- a bridge like the small one for database 1: VLAN 20 has other members and entries, and VLAN 30 is new
abbrev pub other : Settings
other =
    record small {
      vlans =
          a_vlan 10 1 (0 ∷ 1 ∷ 2 ∷ []) (0 ∷ 1 ∷ []) ∷ a_vlan 20 2 (1 ∷ 2 ∷ []) (2 ∷ []) ∷ a_vlan 30 3 (0 ∷ 2 ∷ []) [] ∷ [];
      statics = entry_for 20 A' [] (1 ∷ []) ∷ entry_for 30 B' (2 ∷ []) [] ∷ [];
    }

-- the steps of calls among which there is no send
abbrev pub steps_of : Settings → State → List Call → List Step
steps_of σ s [] = []
steps_of σ s (c ∷ cs) = record { call = c; answer = (perform σ s c None).answer } ∷ steps_of σ (perform σ s c None).after cs

-- A to B in VLAN 10 and in VLAN 20, each followed by where A is, and a flush of the second database
abbrev pub mixed : List Call
mixed =
    small_open
    ++ (receive 0 (untagged A' B' 60) memory ∷ receive 2 (tagged A' B' 0x0014 60) memory ∷ find 1 A' ∷ find 2 A' ∷ flush 2
    ∷ receive 1 (untagged B' A' 60) memory ∷ find 1 A' ∷ [])

abbrev pub single : List Call
single =
    small_open ++ (receive 0 (untagged A' B' 60) memory ∷ find 1 A' ∷ receive 1 (untagged B' A' 60) memory ∷ find 1 A' ∷ [])

pub record PremiseMet : Type 0 where
  pub mixed_run : Run small (steps_of small at_start mixed)
  pub single_run : Run other (steps_of other at_start single)
  pub alike : Alike 1 small other
  pub same_calls :
      map (λ x. x.call) (concerning small 1 (steps_of small at_start mixed)) ≡ map (λ x. x.call) (concerning other 1 (steps_of other at_start single))
  -- three calls more, which do not concern the database
  pub more : length mixed ≡ length single + 3
