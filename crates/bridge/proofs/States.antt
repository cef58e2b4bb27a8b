-- The states and settings of the ports, one by one, and after one of them changed.
use Rattle.std.proofs.Common.{◌≡◌, ℕ, zero, suc, ◌≤◌, false, List, [], ◌∷◌, map, set, get_or, refl, ◌∙◌}
use Rattle.std.proofs.Math.ListN.{get_or-map}
use Rattle.std.proofs.Math.Seq.{map-set_same}
use Rattle.std.proofs.lemmas.List.{map-set}
use Rattle.queues.specs.declared.queues.Queues.{Queues}
use Rattle.rules.specs.declared.ports.PortSettings.{PortSettings}
use Rattle.rules.specs.declared.ports.PortState.{PortState}
use Rattle.rules.specs.declared.ports.PortState.TheVariants.{Disabled}
use Rattle.bridge.specs.Kept.{AsMade, Priorities}
use Rattle.bridge.specs.declared.port_state.Port.{Port}

-- what a place past the ports would hold
abbrev pub no_port : Port
no_port = record { settings = record { pvid = 0; admit_all = false; ingress_filtering = false; priority = 0 }; state = Disabled }

pub state_there : (ports : List Port) (p : ℕ) → get_or (map (λ port. port.state) ports) p Disabled ≡ (get_or ports p no_port).state
state_there ports p = get_or-map (λ (port : Port). port.state) ports p no_port

-- a port with other settings
abbrev pub set_up : List Port → ℕ → PortSettings → List Port
set_up ports p settings = set ports p (record { settings = settings; state = (get_or ports p no_port).state })

pub settings_set : (ports : List Port) (p : ℕ) (settings : PortSettings) → map (λ port. port.settings) (set_up ports p settings) ≡ set (map (λ port. port.settings) ports) p settings
settings_set ports p settings = map-set (λ (port : Port). port.settings) ports p (record { settings = settings; state = (get_or ports p no_port).state })

pub states_kept : (ports : List Port) (p : ℕ) (settings : PortSettings) → map (λ port. port.state) (set_up ports p settings) ≡ map (λ port. port.state) ports
states_kept ports p settings =
    map-set_same (λ (port : Port). port.state) ports p (record { settings = settings; state = (get_or ports p no_port).state }) no_port refl

-- a port in another state
abbrev pub moved_to : List Port → ℕ → PortState → List Port
moved_to ports p state = set ports p (record { settings = (get_or ports p no_port).settings; state = state })

pub states_set : (ports : List Port) (p : ℕ) (state : PortState) → map (λ port. port.state) (moved_to ports p state) ≡ set (map (λ port. port.state) ports) p state
states_set ports p state = map-set (λ (port : Port). port.state) ports p (record { settings = (get_or ports p no_port).settings; state = state })

pub settings_kept : (ports : List Port) (p : ℕ) (state : PortState) → map (λ port. port.settings) (moved_to ports p state) ≡ map (λ port. port.settings) ports
settings_kept ports p state =
    map-set_same (λ (port : Port). port.settings) ports p (record { settings = (get_or ports p no_port).settings; state = state }) no_port refl

pub priorities_set : (ports : List Port) (p : ℕ) (port : Port) → port.settings.priority ≤ 7 → Priorities ports → Priorities (set ports p port)
priorities_set [] p port low kept q = kept q
priorities_set (x ∷ xs) zero port low kept zero = low
priorities_set (x ∷ xs) zero port low kept (suc q) = kept (suc q)
priorities_set (x ∷ xs) (suc p) port low kept zero = kept 0
priorities_set (x ∷ xs) (suc p) port low kept (suc q) = priorities_set xs p port low (λ i. kept (suc i)) q

pub as_made_still : (clock : ℕ) (ports : List Port) (p : ℕ) (settings : PortSettings) (queues : Queues) → AsMade clock ports queues → AsMade clock (set_up ports p settings) queues
as_made_still clock ports p settings queues made = record {
  clock_is = made.clock_is;
  states_are = states_kept ports p settings ∙ made.states_are;
  queues_are = made.queues_are;
  slots_are = made.slots_are;
}
