-- The frame memory after a receive, and the VLAN that it answers, by what it returned.
use Rattle.std.specs.Prelude.{◌≡◌, ℕ, List, Ok, Err, Result}
use Rattle.fault.specs.declared.refusal.Refusal.{Refusal}
use Rattle.frame.specs.Reading.{Picture}
use Rattle.rules.specs.Egress.{laid_memory, sendable}
use Rattle.rules.specs.Ports.{sixteen}
use Rattle.rules.specs.Settings.{Settings}
use Rattle.rules.specs.State.{State}
use Rattle.rules.specs.declared.answers.Received.{Received}
use Rattle.rules.specs.declared.vlans.Vlan.{Vlan}

unfoldable pub laid_by : Settings → State → Picture → Vlan → Result Received Refusal → List ℕ → List ℕ
laid_by σ s frame v (Ok r) m =
    let priority = r.classified.1 in laid_memory σ s r.decided r.no_room priority (sendable frame v priority) sixteen m
laid_by σ s frame v (Err e) m = m

-- an accepted frame is placed in this VLAN
abbrev pub PlacedIn : Vlan → Result Received Refusal → Type 0
PlacedIn v (Ok r) = r.classified.0 ≡ v.vid
PlacedIn v (Err e) = Unit {0}
