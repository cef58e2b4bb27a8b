-- Two small bridges, with stations and frames, that the worked examples play on.
--
-- `small` has 3 ports, 2 traffic classes, queues of 1 frame and a share of 1. VLAN 10 has database 1, all ports,
-- untagged at 0 and 1; VLAN 20 has database 2, all ports, tagged everywhere. Every port has PVID 10.
--
-- `shop` has 4 ports, 3 traffic classes, queues of 2 frames, a share of 2 and an ageing time of 10 seconds. Port 0, a
-- trunk, admits only frames that name a VLAN; port 1 filters at ingress, and its default priority is 5. VLANs 10 and
-- 11 share database 1: 10 has all ports, 11 has ports 0 to 2. VLAN 20 has database 2 and ports 0 and 3. Static entries:
-- for K, VID 10 says filter at port 2 and VID 11 says forward there; for L, VID 10 says filter at 1; for M, VID 10
-- says forward at 1; for the group G, VID 11 says filter at 2.
use Rattle.std.specs.Prelude.{ℕ, ◌-◌, ◌/◌, ◌%◌, Bool, true, false, cond, List, [], ◌∷◌, ◌++◌, map, replicate, ◌==◌}
use Rattle.rules.specs.Calls.{Call, event}
use Rattle.rules.specs.Ports.{Ports, ports_where, sixteen}
use Rattle.rules.specs.Settings.{Settings, fresh_port}
use Rattle.rules.specs.declared.ports.PortSettings.{PortSettings}
use Rattle.rules.specs.declared.vlans.StaticEntry.{StaticEntry}
use Rattle.rules.specs.declared.vlans.Verdict.{Verdict}
use Rattle.rules.specs.declared.vlans.Verdict.TheVariants.{Filter, Forward, Silent}
use Rattle.rules.specs.declared.vlans.Vlan.{Vlan}

abbrev pub any_equal : List ℕ → ℕ → Bool
any_equal [] p = false
any_equal (q ∷ qs) p = cond (q == p) true (any_equal qs p)

-- the ports of a list
abbrev pub ports : List ℕ → Ports
ports ps = ports_where (any_equal ps)

abbrev pub a_vlan : ℕ → ℕ → List ℕ → List ℕ → Vlan
a_vlan vid fid members untagged' = record { vid = vid; fid = fid; members = ports members; untagged = ports untagged' }

abbrev pub every_port : PortSettings
every_port = record { pvid = 10; admit_all = true; ingress_filtering = false; priority = 0 }

abbrev pub small : Settings
small =
    record {
      ports = 3;
      classes = 2;
      depth = 1;
      share = 1;
      ageing = 300;
      port = replicate 16 every_port;
      vlans = a_vlan 10 1 (0 ∷ 1 ∷ 2 ∷ []) (0 ∷ 1 ∷ []) ∷ a_vlan 20 2 (0 ∷ 1 ∷ 2 ∷ []) [] ∷ [];
      statics = [];
    }

-- the frame memory that it needs
abbrev pub memory : ℕ
memory = 9108

-- stations A, B, K, L and M: 02-00-00-00-00-0A and so on; G is a group, 01-00-5E-00-00-01
abbrev pub A' : List ℕ
A' = 2 ∷ 0 ∷ 0 ∷ 0 ∷ 0 ∷ 0x0A ∷ []

abbrev pub B' : List ℕ
B' = 2 ∷ 0 ∷ 0 ∷ 0 ∷ 0 ∷ 0x0B ∷ []

abbrev pub K' : List ℕ
K' = 2 ∷ 0 ∷ 0 ∷ 0 ∷ 0 ∷ 0x14 ∷ []

abbrev pub L' : List ℕ
L' = 2 ∷ 0 ∷ 0 ∷ 0 ∷ 0 ∷ 0x15 ∷ []

abbrev pub M' : List ℕ
M' = 2 ∷ 0 ∷ 0 ∷ 0 ∷ 0 ∷ 0x16 ∷ []

abbrev pub G' : List ℕ
G' = 1 ∷ 0 ∷ 0x5E ∷ 0 ∷ 0 ∷ 1 ∷ []

-- a reserved destination, by its last byte
abbrev pub reserved_to : ℕ → List ℕ
reserved_to last = 1 ∷ 0x80 ∷ 0xC2 ∷ 0 ∷ 0 ∷ last ∷ []

abbrev pub verdict_of : List ℕ → List ℕ → ℕ → Verdict
verdict_of forward filter p = cond (any_equal forward p) Forward (cond (any_equal filter p) Filter Silent)

abbrev pub entry_for : ℕ → List ℕ → List ℕ → List ℕ → StaticEntry
entry_for vid a forward filter = record { vid = vid; address = a; verdicts = map (verdict_of forward filter) sixteen }

abbrev pub shop : Settings
shop =
    record {
      ports = 4;
      classes = 3;
      depth = 2;
      share = 2;
      ageing = 10;
      port =
          record { pvid = 10; admit_all = false; ingress_filtering = false; priority = 0 }
          ∷ record { pvid = 10; admit_all = true; ingress_filtering = true; priority = 5 }
          ∷ record { pvid = 11; admit_all = true; ingress_filtering = false; priority = 0 }
          ∷ record { pvid = 20; admit_all = true; ingress_filtering = false; priority = 0 } ∷ replicate 12 fresh_port;
      vlans =
          a_vlan 10 1 (0 ∷ 1 ∷ 2 ∷ 3 ∷ []) (1 ∷ []) ∷ a_vlan 11 1 (0 ∷ 1 ∷ 2 ∷ []) (2 ∷ [])
          ∷ a_vlan 20 2 (0 ∷ 3 ∷ []) (3 ∷ []) ∷ [];
      statics =
          entry_for 10 K' [] (2 ∷ []) ∷ entry_for 11 K' (2 ∷ []) [] ∷ entry_for 10 L' [] (1 ∷ [])
          ∷ entry_for 10 M' (1 ∷ []) [] ∷ entry_for 11 G' [] (2 ∷ []) ∷ [];
    }

abbrev pub shop_memory : ℕ
shop_memory = 36432

-- from Disabled to Listening, to Learning, to Forwarding
abbrev pub listen : ℕ → List Call
listen p = event p 1 ∷ event p 3 ∷ []

abbrev pub learn : ℕ → List Call
learn p = listen p ++ (event p 5 ∷ [])

abbrev pub open_port : ℕ → List Call
open_port p = learn p ++ (event p 5 ∷ [])

abbrev pub open_ports : List ℕ → List Call
open_ports [] = []
open_ports (p ∷ ps) = open_port p ++ open_ports ps

abbrev pub small_open : List Call
small_open = open_ports (0 ∷ 1 ∷ 2 ∷ [])

abbrev pub shop_open : List Call
shop_open = open_ports (0 ∷ 1 ∷ 2 ∷ 3 ∷ [])

-- a frame of some length, zero bytes after its head
abbrev pub untagged : List ℕ → List ℕ → ℕ → List ℕ
untagged from to n = to ++ (from ++ replicate (n - 12) 0)

-- the same with a tag, given as the number in its two bytes
abbrev pub tagged : List ℕ → List ℕ → ℕ → ℕ → List ℕ
tagged from to word n = to ++ (from ++ (0x81 ∷ 0 ∷ (word / 256) ∷ (word % 256) ∷ replicate (n - 16) 0))
