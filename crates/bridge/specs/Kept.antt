-- What is always true of a bridge: no port has a priority above 7, and a bridge that was not started yet is as it was
-- made, except for its settings: its clock stands at 0, its ports are Disabled, and no frame stands in it.
use Rattle.std.specs.Prelude.{◌≡◌, ℕ, ◌≤◌, List, [], map, replicate, slice_index_or}
use Rattle.queues.specs.declared.queues.Queues.{Queues}
use Rattle.queues.specs.Standing.{queues_of, slots_of}
use Rattle.rules.specs.Settings.{fresh_port}
use Rattle.rules.specs.declared.ports.PortState.TheVariants.{Disabled}
use Rattle.bridge.specs.declared.port_state.Port.{Port}

-- a port as it is when the bridge is made
abbrev pub fresh : Port
fresh = record { settings = fresh_port; state = Disabled }

abbrev pub Priorities : List Port → Type 0
Priorities ports = (p : ℕ) → (slice_index_or ports p fresh).settings.priority ≤ 7

pub record AsMade (clock : ℕ) (ports : List Port) (queues : Queues) : Type 0 where
  pub clock_is : clock ≡ 0
  pub states_are : map (λ port. port.state) ports ≡ replicate 16 Disabled
  pub queues_are : (memory : List ℕ) → queues_of queues memory ≡ (λ p c. [])
  pub slots_are : slots_of queues ≡ (λ p c. 0)
