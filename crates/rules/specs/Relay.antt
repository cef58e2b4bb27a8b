-- What is learned from a frame, and which ports it goes to.
use Rattle.std.specs.Prelude.{ℕ, Bool, true, false, cond, not, ◌&&◌, List, [], ◌∷◌, Some, None, Option, ◌==◌, nat_lt}
use Rattle.std.specs.Str.{bytes_eq}
use Rattle.fault.specs.declared.mark.Mark.{Mark}
use Rattle.fault.specs.declared.mark.Mark.TheVariants.{Unlearned}
use Rattle.frame.specs.Address.{group}
use Rattle.table.specs.Calls.{after_learn, mark_at, entry_port}
use Rattle.table.specs.Entries.{count_of, lookup}
use Rattle.rules.specs.Ports.{Ports, ports_where}
use Rattle.rules.specs.declared.ports.PortState.{PortState}
use Rattle.rules.specs.declared.ports.PortState.TheVariants.{Learning, Forwarding}
use Rattle.rules.specs.declared.vlans.StaticEntry.{StaticEntry}
use Rattle.rules.specs.declared.vlans.Verdict.{Verdict}
use Rattle.rules.specs.declared.vlans.Vlan.{Vlan}
use Rattle.rules.specs.Settings.{Settings, is_filter, is_forward, is_member, is_of, is_silent, verdict_at, vlan_of}
use Rattle.rules.specs.State.{State, state_at}

abbrev pub learns : PortState → Bool
learns Learning = true
learns Forwarding = true
learns other = false

abbrev pub forwards : PortState → Bool
forwards Forwarding = true
forwards other = false

-- a source is learned if it is individual, and no static entry of its VLAN speaks of it at the port
abbrev pub learnable : Settings → ℕ → ℕ → List ℕ → Bool
learnable σ vid p source = not (group source) && is_silent (verdict_at σ vid source p)

abbrev pub mark_of : Settings → State → ℕ → Vlan → List ℕ → Mark
mark_of σ s p v source =
    cond (learnable σ v.vid p source)
    (mark_at σ.share (count_of v.fid s.entries) p (lookup s.entries v.fid source)) Unlearned

abbrev pub learned : Settings → State → ℕ → Vlan → List ℕ → State
learned σ s p v source =
    cond (learnable σ v.vid p source)
    (record s { entries = after_learn σ.share s.entries v.fid source p s.clock }) s

-- whether a static entry for this address, under any VID of the filtering database, says it of the port
abbrev pub any_says : (Verdict → Bool) → Settings → List StaticEntry → ℕ → List ℕ → ℕ → Bool
any_says is σ [] f a p = false
any_says is σ (e ∷ es) f a p =
    cond (bytes_eq e.address a && is_of f (vlan_of σ.vlans e.vid) && is (verdict_at σ e.vid a p)) true
    (any_says is σ es f a p)

-- an entry of the table lets only its own port through; without one every port is let through
abbrev pub entry_lets : Option ℕ → ℕ → Bool
entry_lets None p = true
entry_lets (Some port) p = port == p

-- whether a frame for this destination is let through to a port: forward wins over filter, and both over the table
abbrev pub let_through : Settings → State → Vlan → List ℕ → ℕ → Bool
let_through σ s v a p =
    cond (group a) (not (is_filter (verdict_at σ v.vid a p)))
    (cond (any_says is_forward σ σ.statics v.fid a p) true
    (cond (any_says is_filter σ σ.statics v.fid a p) false (entry_lets (entry_port (lookup s.entries v.fid a)) p)))

-- whether a frame that arrived at port q goes to port p
abbrev pub decides : Settings → State → ℕ → Vlan → List ℕ → ℕ → Bool
decides σ s q v a p =
    nat_lt p σ.ports && not (p == q) && forwards (state_at s p) && is_member v p && let_through σ s v a p

abbrev pub decided : Settings → State → ℕ → Vlan → List ℕ → Ports
decided σ s q v a = ports_where (decides σ s q v a)
