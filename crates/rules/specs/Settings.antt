-- How a bridge is set up: its ports, traffic classes and queues, its VLANs and static entries.
-- Everything here is fixed from the start of the bridge on.
use Rattle.std.specs.Prelude.{ℕ, Bool, true, false, cond, ◌&&◌, List, [], ◌∷◌, Some, None, Option, ◌==◌, slice_index_or}
use Rattle.std.specs.Str.{bytes_eq}
use Rattle.rules.specs.Ports.{has}
use Rattle.rules.specs.declared.ports.PortSettings.{PortSettings}
use Rattle.rules.specs.declared.vlans.StaticEntry.{StaticEntry}
use Rattle.rules.specs.declared.vlans.Verdict.{Verdict}
use Rattle.rules.specs.declared.vlans.Verdict.TheVariants.{Forward, Filter, Silent}
use Rattle.rules.specs.declared.vlans.Vlan.{Vlan}

pub record Settings : Type 0 where
  -- how many ports, traffic classes, and frames to a queue
  pub ports : ℕ
  pub classes : ℕ
  pub depth : ℕ
  -- the most entries of one filtering database
  pub share : ℕ
  -- seconds until an entry that is not heard again goes
  pub ageing : ℕ
  pub port : List PortSettings
  pub vlans : List Vlan
  pub statics : List StaticEntry

-- a port as it is before anything is set up
abbrev pub fresh_port : PortSettings
fresh_port = record { pvid = 1; admit_all = true; ingress_filtering = false; priority = 0 }

abbrev pub port_settings : Settings → ℕ → PortSettings
port_settings σ p = slice_index_or σ.port p fresh_port

-- the VLAN of a VID, where it is created
abbrev pub vlan_of : List Vlan → ℕ → Option Vlan
vlan_of [] vid = None
vlan_of (v ∷ vs) vid = cond (v.vid == vid) (Some v) (vlan_of vs vid)

-- whether a port is a member of a VLAN
abbrev pub is_member : Vlan → ℕ → Bool
is_member v p = has v.members p

-- the static entry for a VID and an address, where there is one
abbrev pub static_of : List StaticEntry → ℕ → List ℕ → Option StaticEntry
static_of [] vid a = None
static_of (e ∷ es) vid a = cond (e.vid == vid && bytes_eq e.address a) (Some e) (static_of es vid a)

-- what it says of a port; without an entry nothing is said
abbrev pub says : Option StaticEntry → ℕ → Verdict
says None p = Silent
says (Some e) p = slice_index_or e.verdicts p Silent

abbrev pub verdict_at : Settings → ℕ → List ℕ → ℕ → Verdict
verdict_at σ vid a p = says (static_of σ.statics vid a) p

abbrev pub is_forward : Verdict → Bool
is_forward Forward = true
is_forward other = false

abbrev pub is_filter : Verdict → Bool
is_filter Filter = true
is_filter other = false

abbrev pub is_silent : Verdict → Bool
is_silent Silent = true
is_silent other = false

-- whether a created VLAN belongs to a filtering database
abbrev pub is_of : ℕ → Option Vlan → Bool
is_of f None = false
is_of f (Some v) = v.fid == f
