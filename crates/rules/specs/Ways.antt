-- Small laws of where a frame goes and lies, in the words of the subject. The definitions of Relay and Egress say
-- how the bridge finds out; these say what somebody who runs it may rely on.
use Rattle.std.specs.Prelude.{◌≡◌, ℕ, ◌+◌, ◌<◌, ◌≤◌, true, false, List, Some, Option, nat_eq}
use Rattle.frame.specs.Address.{group}
use Rattle.rules.specs.Egress.{cell_place, memory_needed}
use Rattle.rules.specs.Ports.{has}
use Rattle.rules.specs.Relay.{decided, let_through}
use Rattle.rules.specs.Settings.{Settings, is_member, is_of, verdict_at, vlan_of}
use Rattle.rules.specs.State.{State, state_at}
use Rattle.rules.specs.declared.ports.PortState.TheVariants.{Forwarding}
use Rattle.rules.specs.declared.vlans.Verdict.TheVariants.{Filter, Forward}
use Rattle.rules.specs.declared.vlans.Vlan.{Vlan}

-- a port that a frame from port q in a VLAN goes to
pub record Reached (σ : Settings) (s : State) (q : ℕ) (v : Vlan) (p : ℕ) : Type 0 where
  pub port : p < σ.ports
  pub elsewhere : nat_eq p q ≡ false
  pub forwarding : state_at s p ≡ Forwarding
  pub member : is_member v p ≡ true

-- a decided port is another one than the arrival port, is Forwarding, and is a member of the VLAN
abbrev pub DecidedPorts : Type 0
DecidedPorts =
    (σ : Settings) (s : State) (q : ℕ) (v : Vlan) (a : List ℕ) (p : ℕ) → has (decided σ s q v a) p ≡ true → Reached σ s q v p

-- forward wins over filter: an individual destination for which a static entry under some VID of the VLAN's
-- database says forward at a port is let through there, whatever else is said or learned
abbrev pub ForwardWins : Type 0
ForwardWins =
    (σ : Settings) (s : State) (v : Vlan) (a : List ℕ) (p vid : ℕ) → group a ≡ false
    → is_of v.fid (vlan_of σ.vlans vid) ≡ true → verdict_at σ vid a p ≡ Forward → let_through σ s v a p ≡ true

-- filter wins over the table: where none says forward and one says filter, the frame is kept from the port
abbrev pub FilterWins : Type 0
FilterWins =
    (σ : Settings) (s : State) (v : Vlan) (a : List ℕ) (p vid : ℕ) → group a ≡ false
    → ((other : ℕ) → is_of v.fid (vlan_of σ.vlans other) ≡ true → verdict_at σ other a p ≡ Forward → ⊥)
    → is_of v.fid (vlan_of σ.vlans vid) ≡ true → verdict_at σ vid a p ≡ Filter → let_through σ s v a p ≡ false

-- for a group address only the entry of the frame's own VID speaks: two bridges on which that entry says the same
-- at a port let the frame through there alike, whatever is said under other VIDs of the database
abbrev pub OwnGroupEntry : Type 0
OwnGroupEntry =
    (σ τ : Settings) (s t : State) (v : Vlan) (a : List ℕ) (p : ℕ) → group a ≡ true
    → verdict_at σ v.vid a p ≡ verdict_at τ v.vid a p → let_through σ s v a p ≡ let_through τ t v a p

-- cells that overlap are one cell: of one port, class and slot
abbrev pub CellsApart : Type 0
CellsApart =
    (σ : Settings) (p c k p' c' k' : ℕ) → c < σ.classes → c' < σ.classes → k < σ.depth → k' < σ.depth
    → cell_place σ p c k < cell_place σ p' c' k' + 1518 → cell_place σ p' c' k' < cell_place σ p c k + 1518
    → (p ≡ p') × (c ≡ c') × (k ≡ k')

-- each cell lies in a frame memory of the size that is asked for
abbrev pub CellsWithin : Type 0
CellsWithin =
    (σ : Settings) (p c k : ℕ) → p < σ.ports → c < σ.classes → k < σ.depth → cell_place σ p c k + 1518 ≤ memory_needed σ
