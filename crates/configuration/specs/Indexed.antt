-- VLANs are found by an index that has a place for each VID: 0 where there is no such VLAN, else one more than where
-- the VLAN stands in the list of them all.
use Rattle.std.specs.Prelude.{◌≡◌, ℕ, ◌<◌, ◌≤◌, true, List, length, zero, suc, None, Ok, Err, Option, Result, slice_get, slice_index, IfSome}
use denote.Ref.{Bor}
use Rattle.fault.specs.declared.refusal.Refusal.{Refusal}
use Rattle.rules.specs.Settings.{vlan_of}
use Rattle.rules.specs.declared.vlans.Vlan.{Vlan}
use Rattle.table.specs.Entries.{is_fid}

-- the VLAN that a place of the index stands for
abbrev pub vlan_at : List Vlan → ℕ → Option Vlan
vlan_at vlans zero = None
vlan_at vlans (suc k) = slice_get vlans k

-- a VLAN whose VID and FID are in range
pub record Numbered (v : Vlan) : Type 0 where
  pub vid_low : 1 ≤ v.vid
  pub vid_high : v.vid ≤ 4094
  pub fid : is_fid v.fid ≡ true

-- a VLAN that can be added
pub record Addable (vlans : List Vlan) (v : Vlan) : Type 0 where
  pub numbered : Numbered v
  pub absent : vlan_of vlans v.vid ≡ None
  pub room : length vlans < 64

-- an index of a list of VLANs
pub record Indexed (index : List ℕ) (vlans : List Vlan) : Type 0 where
  pub long : length index ≡ 4095
  pub found : (vid : ℕ) → vlan_of vlans vid ≡ vlan_at vlans (slice_index index vid)
  pub within : (vid : ℕ) → slice_index index vid ≤ length vlans
  pub numbered : (vid : ℕ) → IfSome (vlan_of vlans vid) Numbered

-- what a reference to a VLAN points to, or the refusal
abbrev pub vlan_behind : Result (Bor Vlan) Refusal → Result Vlan Refusal
vlan_behind (Ok vlan) = Ok vlan.now
vlan_behind (Err e) = Err e
