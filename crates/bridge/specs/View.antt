-- A bridge as the rules see it: its settings, which stay from its start on, and its state over a frame memory.
use Rattle.std.specs.Prelude.{ℕ, Bool, false, cond, ◌&&◌, List, [], length, map, replicate, Option, nat_le, nat_lt}
use Rattle.table.specs.declared.table.Table
use Rattle.table.specs.declared.entry.Entry.{Entry}
use Rattle.selector.specs.declared.selector.Selector
use Rattle.queues.specs.Standing.{queues_of, slots_of}
use Rattle.rules.specs.declared.ports.PortState.TheVariants.{Disabled}
use Rattle.rules.specs.Egress.{memory_needed}
use Rattle.rules.specs.Settings.{Settings}
use Rattle.rules.specs.State.{State, frame_stands, standing_classes}
use Rattle.bridge.specs.declared.bridge.Bridge.{Bridge}

abbrev pub settings_of : {T S : Type 0} {t : Table.Ghosts T} {s : Selector.Ghosts S} → Bridge T S t s → Settings
settings_of {t} bridge =
    record {
      ports = bridge.queues.shape.ports;
      classes = bridge.queues.shape.classes;
      depth = bridge.queues.shape.depth;
      share = t.share bridge.table;
      ageing = bridge.ageing;
      port = map (λ port. port.settings) bridge.ports;
      vlans = bridge.vlans;
      statics = bridge.statics;
    }

abbrev pub state_of : {T S : Type 0} {t : Table.Ghosts T} {s : Selector.Ghosts S} → Bridge T S t s → List ℕ → State
state_of {t} bridge memory =
    record {
      started = bridge.started;
      clock = bridge.clock;
      states = map (λ port. port.state) bridge.ports;
      entries = t.entries bridge.table;
      queues = queues_of bridge.queues memory;
      slots = slots_of bridge.queues;
    }

-- a bridge that was not started yet, with what its table holds
abbrev pub before_start : List Entry → State
before_start entries =
    record {
      started = false;
      clock = 0;
      states = replicate 16 Disabled;
      entries = entries;
      queues = λ p c. [];
      slots = λ p c. 0;
    }

-- the class that the selector picks at a port, of those in which a frame stands
abbrev pub choice_of : {T S : Type 0} {t : Table.Ghosts T} {s : Selector.Ghosts S} → Bridge T S t s → List ℕ → ℕ → Option ℕ
choice_of {s} bridge memory p = s.choice bridge.selector p (standing_classes (state_of bridge memory) p)

-- whether a send comes as far as asking the selector
abbrev pub is_picking : Settings → State → ℕ → ℕ → ℕ → Bool
is_picking σ s p memory output =
    s.started && nat_lt p σ.ports && nat_le (memory_needed σ) memory && nat_le 1518 output && frame_stands s p

-- the selector after a send: only where it was asked it may be another
abbrev pub selector_after : {T S : Type 0} {t : Table.Ghosts T} {s : Selector.Ghosts S} → Bridge T S t s → List ℕ → ℕ → ℕ → S
selector_after {s} bridge memory p output =
    let state = state_of bridge memory in
    cond (is_picking (settings_of bridge) state p (length memory) output) (s.after bridge.selector p (standing_classes state p)) bridge.selector
