-- Which ports a frame goes to, by what was asked once before: what the static entries say of its destination, and the
-- port that the table knows for it.
use Rattle.std.specs.Prelude.{ℕ, Bool, cond, not, ◌&&◌, ◌||◌, List, None, Option, ◌==◌, nat_lt, slice_index_or}
use Rattle.configuration.specs.declared.said.Said.{Said}
use Rattle.frame.specs.Address.{group}
use Rattle.table.specs.Calls.{entry_port}
use Rattle.table.specs.Entries.{lookup}
use Rattle.table.specs.declared.entry.Entry.{Entry}
use Rattle.rules.specs.Ports.{Ports, has}
use Rattle.rules.specs.Relay.{entry_lets, forwards}
use Rattle.rules.specs.declared.ports.PortState.{PortState}
use Rattle.rules.specs.declared.ports.PortState.TheVariants.{Disabled}

-- the port that the table knows for a destination; for a group it is not asked
abbrev pub known_port : List Entry → ℕ → List ℕ → Option ℕ
known_port entries f a = cond (group a) None (entry_port (lookup entries f a))

-- whether a frame is let through to a port
abbrev pub lets : Said → Option ℕ → ℕ → Bool
lets said known p = has said.forward p || (not (has said.filter p) && entry_lets known p)

-- of so many ports, one that the frame did not arrive at, that forwards, is a member and is let through to
abbrev pub goes_to : ℕ → List PortState → ℕ → Ports → Said → Option ℕ → ℕ → Bool
goes_to count states from members said known p =
    nat_lt p count && not (p == from) && forwards (slice_index_or states p Disabled) && has members p && lets said known p
