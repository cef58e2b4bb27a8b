-- Setting up a bridge, before it is started: what each call asks, and which settings it leaves.
-- Every such call asks first whether the bridge is not yet started (22).
use Rattle.std.specs.Prelude.{ℕ, Bool, true, false, cond, not, ◌&&◌, ◌||◌, List, [], ◌∷◌, ◌++◌, length, set, replicate, Some, None, Option, nat_le, nat_lt}
use Rattle.fault.specs.declared.refusal.Refusal.{Refusal}
use Rattle.fault.specs.declared.refusal.Refusal.TheVariants.{PortOutOfRange, VlanNotCreated, FidOutOfRange, AlreadyStarted, PortCountOutOfRange, ClassCountOutOfRange, DepthOutOfRange, VidOutOfRange, PriorityOutOfRange, MemberOutOfRange, UntaggedNotMember, AlreadyThere, TooMany, AgeingOutOfRange}
use Rattle.table.specs.Entries.{is_fid}
use Rattle.rules.specs.Ports.{Ports, has, sixteen}
use Rattle.rules.specs.Settings.{Settings, fresh_port, static_of, vlan_of}
use Rattle.rules.specs.declared.ports.PortSettings.{PortSettings}
use Rattle.rules.specs.declared.vlans.StaticEntry.{StaticEntry}
use Rattle.rules.specs.declared.vlans.Vlan.{Vlan}

-- a question, and those that come after it
abbrev pub ask : Bool → Refusal → Option Refusal → Option Refusal
ask yes' r later = cond yes' later (Some r)

abbrev pub in_range : ℕ → ℕ → ℕ → Bool
in_range low high n = nat_le low n && nat_le n high

-- the check before a bridge is made
abbrev pub make_asked : ℕ → ℕ → ℕ → Option Refusal
make_asked ports classes depth =
    ask (in_range 2 16 ports) PortCountOutOfRange
    (ask (in_range 1 8 classes) ClassCountOutOfRange (ask (in_range 1 64 depth) DepthOutOfRange None))

-- a bridge as it is made
abbrev pub just_made : ℕ → ℕ → ℕ → ℕ → Settings
just_made ports classes depth share =
    record {
      ports = ports;
      classes = classes;
      depth = depth;
      share = share;
      ageing = 300;
      port = replicate 16 fresh_port;
      vlans = [];
      statics = [];
    }

-- a port's settings
abbrev pub port_asked : Bool → Settings → ℕ → PortSettings → Option Refusal
port_asked started σ p port =
    ask (not started) AlreadyStarted
    (ask (nat_lt p σ.ports) PortOutOfRange
    (ask (in_range 1 4094 port.pvid) VidOutOfRange (ask (nat_le port.priority 7) PriorityOutOfRange None)))

abbrev pub with_port : Settings → ℕ → PortSettings → Settings
with_port σ p settings = record σ { port = set σ.port p settings }

-- whether every port of one set is below a number, or in another set
abbrev pub all_below : Ports → ℕ → List ℕ → Bool
all_below set n [] = true
all_below set n (p ∷ ps) = (not (has set p) || nat_lt p n) && all_below set n ps

abbrev pub all_in : Ports → Ports → List ℕ → Bool
all_in set other [] = true
all_in set other (p ∷ ps) = (not (has set p) || has other p) && all_in set other ps

abbrev pub no_vlan : Option Vlan → Bool
no_vlan None = true
no_vlan (Some v) = false

abbrev pub no_static : Option StaticEntry → Bool
no_static None = true
no_static (Some e) = false

-- a VLAN: what is asked of it, by the number of ports and the VLANs that there are
abbrev pub asked_of_vlan : ℕ → List Vlan → Vlan → Option Refusal
asked_of_vlan ports vlans v =
    ask (in_range 1 4094 v.vid) VidOutOfRange
    (ask (is_fid v.fid) FidOutOfRange
    (ask (all_below v.members ports sixteen) MemberOutOfRange
    (ask (all_in v.untagged v.members sixteen) UntaggedNotMember
    (ask (no_vlan (vlan_of vlans v.vid)) AlreadyThere (ask (nat_lt (length vlans) 64) TooMany None)))))

abbrev pub vlan_asked : Bool → Settings → Vlan → Option Refusal
vlan_asked started σ v = ask (not started) AlreadyStarted (asked_of_vlan σ.ports σ.vlans v)

abbrev pub with_vlan : Settings → Vlan → Settings
with_vlan σ v = record σ { vlans = σ.vlans ++ (v ∷ []) }

-- a static entry: what is asked of it, by the VLANs and the static entries that there are
abbrev pub asked_of_static : List Vlan → List StaticEntry → StaticEntry → Option Refusal
asked_of_static vlans statics e =
    ask (not (no_vlan (vlan_of vlans e.vid))) VlanNotCreated
    (ask (no_static (static_of statics e.vid e.address)) AlreadyThere (ask (nat_lt (length statics) 64) TooMany None))

abbrev pub static_asked : Bool → Settings → StaticEntry → Option Refusal
static_asked started σ e = ask (not started) AlreadyStarted (asked_of_static σ.vlans σ.statics e)

abbrev pub with_static : Settings → StaticEntry → Settings
with_static σ e = record σ { statics = σ.statics ++ (e ∷ []) }

-- the ageing time in seconds
abbrev pub ageing_asked : Bool → ℕ → Option Refusal
ageing_asked started seconds = ask (not started) AlreadyStarted (ask (in_range 10 1000000 seconds) AgeingOutOfRange None)

abbrev pub with_ageing : Settings → ℕ → Settings
with_ageing σ seconds = record σ { ageing = seconds }

-- start asks nothing else; it leaves the bridge at `at_start`
abbrev pub start_asked : Bool → Option Refusal
start_asked started = ask (not started) AlreadyStarted None
