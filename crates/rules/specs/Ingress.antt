-- How a frame that arrives at a port is read and placed in a VLAN, and whether the port takes it.
use Rattle.std.specs.Prelude.{ℕ, Bool, cond, not, ◌||◌, List, Some, None, Ok, Err, Option, Result, ◌==◌, nat_lt}
use Rattle.fault.specs.declared.refusal.Refusal.{Refusal}
use Rattle.fault.specs.declared.refusal.Refusal.TheVariants.{FrameNotAdmitted, VlanNotCreated, NotMember}
use Rattle.frame.specs.Reading.{Picture, parse}
use Rattle.frame.specs.declared.parts.Tag.{Tag}
use Rattle.rules.specs.declared.ports.PortSettings.{PortSettings}
use Rattle.rules.specs.declared.vlans.Vlan.{Vlan}
use Rattle.rules.specs.Settings.{Settings, is_member, port_settings, vlan_of}

-- a frame as it is read at the port where it arrived
abbrev pub read_at : Settings → ℕ → List ℕ → Result Picture Refusal
read_at σ p frame = parse frame

-- classification: the VID and the priority of a frame. They are its tag's, but the VID is the port's PVID
-- where the tag names no VLAN, and both are the port's own for a frame without a tag
abbrev pub classified : PortSettings → Option Tag → ℕ × ℕ
classified port None = (port.pvid, port.priority)
classified port (Some t) = (cond (t.vid == 0) port.pvid t.vid, t.priority)

abbrev pub classified_at : Settings → ℕ → Option Tag → ℕ × ℕ
classified_at σ p tag = classified (port_settings σ p) tag

-- whether the port takes frames like this one: those that name a VLAN, or all
abbrev pub admitted : PortSettings → Option Tag → Bool
admitted port None = port.admit_all
admitted port (Some t) = nat_lt 0 t.vid || port.admit_all

-- the VLAN is created (9), and the port is a member or does not filter (10)
abbrev pub of_member : PortSettings → ℕ → Option Vlan → Result Vlan Refusal
of_member port p None = Err VlanNotCreated
of_member port p (Some v) = cond (is_member v p || not port.ingress_filtering) (Ok v) (Err NotMember)

-- the VLAN of an arriving frame, or the first no of questions 8, 9 and 10
abbrev pub ingress : Settings → ℕ → Option Tag → Result Vlan Refusal
ingress σ p tag =
    cond (admitted (port_settings σ p) tag)
    (of_member (port_settings σ p) p (vlan_of σ.vlans (classified_at σ p tag).0)) (Err FrameNotAdmitted)
