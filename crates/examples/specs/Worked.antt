-- The worked examples, as one table: of a small bridge first, and then of one with static entries, VLANs that share a
-- database, a trunk, ingress filtering and a default priority. `Bridges` has the bridges, stations and frames, and
-- `Lines` says what a line means.
use Rattle.std.specs.Prelude.{ℕ, true, false, List, [], ◌∷◌, ◌++◌, replicate, Some, None}
use Rattle.fault.specs.declared.mark.Mark.TheVariants.{New, Known, Moved, Full, Unlearned}
use Rattle.fault.specs.declared.refusal.Refusal.TheVariants.{NotStarted, PortOutOfRange, FrameMemoryTooSmall, ReservedVid, CfiSet, FrameNotAdmitted, VlanNotCreated, NotMember, PortNotLearning, PortNotForwarding, ReservedDestination, NoEgressPort, OutputMemoryTooSmall, NoFrameStands, TimeBeforeClock, TimeTooLarge, UnknownEvent, NoTransition, FidOutOfRange}
use Rattle.rules.specs.Calls.{Call, advance, advanced, counted, emptied, event, find, flush, found, receive, refused, removed, send, standing}
use Rattle.rules.specs.Ports.{sixteen}
use Rattle.rules.specs.Setup.{ageing_asked, just_made, make_asked, port_asked, start_asked, static_asked, vlan_asked, with_ageing, with_port, with_static, with_vlan}
use Rattle.rules.specs.State.{at_start}
use Rattle.examples.specs.Bridges.{A', B', G', K', L', M', a_vlan, entry_for, every_port, learn, listen, memory, open_port, open_ports, reserved_to, shop, shop_memory, shop_open, small, small_open, tagged, untagged}
use Rattle.examples.specs.Lines.{AllHold, Example, Played, asks, got, leaves, lies, out, plays, reads, rewrites}

abbrev pub on_small : Played
on_small = record { settings = small; from = at_start; opened = small_open }

abbrev pub shop_with : List Call → Played
shop_with opened = record { settings = shop; from = at_start; opened = opened }

abbrev pub on_shop : Played
on_shop = shop_with shop_open

abbrev pub not_started : Played
not_started = record { settings = shop; from = record at_start { started = false }; opened = [] }

-- a frame of 60 bytes that the shop's bridge receives at a port, without a tag or with one
abbrev pub plain_at : ℕ → List ℕ → List ℕ → Call
plain_at p from to = receive p (untagged from to 60) shop_memory

abbrev pub tagged_at : ℕ → ℕ → List ℕ → List ℕ → Call
tagged_at p word from to = receive p (tagged from to word 60) shop_memory

abbrev pub send_at : ℕ → Call
send_at p = send p shop_memory 1518

abbrev pub table : List Example
table =
    -- THE SMALL BRIDGE
    -- 1. A to B at port 0, untagged: learned, and flooded to 1 and 2; port 2 sends it tagged, with 64 bytes
    plays on_small (receive 0 (untagged A' B' 60) memory ∷ send 2 memory 1518 ∷ [])
    (got 10 0 (1 ∷ 2 ∷ []) [] New ∷ out 64 10 0 (B' ++ (A' ++ (0x81 ∷ 0 ∷ 0 ∷ 0x0A ∷ replicate 48 0))) ∷ [])
    -- 2. then B to A at port 1: the database is full, and the frame goes to A's port alone
    ∷ plays on_small (receive 0 (untagged A' B' 60) memory ∷ receive 1 (untagged B' A' 60) memory ∷ [])
    (got 10 0 (1 ∷ 2 ∷ []) [] New ∷ got 10 0 (0 ∷ []) [] Full ∷ [])
    -- 3. then A to B in VLAN 20 at port 2: new in its own database; in the first, A stays at port 0
    ∷ plays on_small (receive 0 (untagged A' B' 60) memory ∷ receive 2 (tagged A' B' 0x0014 60) memory ∷ find 1 A' ∷ find 2 A' ∷ [])
    (got 10 0 (1 ∷ 2 ∷ []) [] New ∷ got 20 0 (0 ∷ 1 ∷ []) (1 ∷ []) New ∷ found (Some 0) ∷ found (Some 2) ∷ [])
    -- 4. A to A at port 0: there is no port to send it to (14), and A is learned all the same
    ∷ plays on_small (receive 0 (untagged A' A' 60) memory ∷ find 1 A' ∷ []) (refused (NoEgressPort New) ∷ found (Some 0) ∷ [])
    -- 5. tag 0xA00A: priority 5, VID 10, class 1
    ∷ plays on_small (receive 0 (tagged A' B' 0xA00A 60) memory ∷ send 1 memory 1518 ∷ [])
    (got 10 5 (1 ∷ 2 ∷ []) [] New ∷ out 56 10 1 (B' ++ (A' ++ replicate 44 0)) ∷ [])
    ∷ reads (tagged A' B' 0xA00A 60) (53258 ∷ [])
    -- 6. tag 0xB00A: the CFI bit (7)
    ∷ plays on_small (receive 0 (tagged A' B' 0xB00A 60) memory ∷ []) (refused CfiSet ∷ [])
    ∷ reads (tagged A' B' 0xB00A 60) (458752 ∷ 1 ∷ 14 ∷ [])
    -- 7. VID 4,095 (6), and VID 4,094, which is not created (9)
    ∷ plays on_small (receive 0 (tagged A' B' 0x0FFF 60) memory ∷ receive 0 (tagged A' B' 0x0FFE 60) memory ∷ [])
    (refused ReservedVid ∷ refused VlanNotCreated ∷ [])
    -- 8. tag 0x6000 names no VLAN: the port's VLAN 10, and priority 3
    ∷ plays on_small (receive 0 (tagged A' B' 0x6000 60) memory ∷ []) (got 10 3 (1 ∷ 2 ∷ []) [] New ∷ [])
    -- 9. a tagged frame of 60 bytes has 56 where it is sent untagged
    ∷ plays on_small (receive 2 (tagged A' B' 0x000A 60) memory ∷ send 0 memory 1518 ∷ [])
    (got 10 0 (0 ∷ 1 ∷ []) [] New ∷ out 56 10 0 (B' ++ (A' ++ replicate 44 0)) ∷ [])
    -- 10. heard at 0 and aged after 300 seconds: there at 299,999, gone at 300,000
    ∷ plays on_small (receive 0 (untagged A' B' 60) memory ∷ advance 299999 ∷ find 1 A' ∷ advance 300000 ∷ find 1 A' ∷ [])
    (got 10 0 (1 ∷ 2 ∷ []) [] New ∷ advanced ∷ found (Some 0) ∷ advanced ∷ found None ∷ [])
    -- 11. the first example twice without a send: known, and no room at 1 and 2
    ∷ plays on_small (receive 0 (untagged A' B' 60) memory ∷ receive 0 (untagged A' B' 60) memory ∷ [])
    (got 10 0 (1 ∷ 2 ∷ []) [] New ∷ got 10 0 (1 ∷ 2 ∷ []) (1 ∷ 2 ∷ []) Known ∷ [])
    -- the tags of 7 and 8 by themselves: refused with 6; VID 4,094; priority 3 and no VLAN
    ∷ reads (tagged A' B' 0x0FFF 60) (393216 ∷ 1 ∷ 14 ∷ [])
    ∷ reads (tagged A' B' 0x0FFE 60) (36862 ∷ [])
    ∷ reads (tagged A' B' 0x6000 60) (45056 ∷ [])
    -- lengths: 59 is refused with 4, and the place is the length; 1,514 is read and 1,515 refused with 5; tagged, 1,518 and 1,519
    ∷ reads (untagged A' B' 60) (0 ∷ [])
    ∷ reads (untagged A' B' 59) (262144 ∷ 1 ∷ 59 ∷ [])
    ∷ reads (tagged A' B' 0xA00A 59) (262144 ∷ 1 ∷ 59 ∷ [])
    ∷ reads (untagged A' B' 1514) (0 ∷ [])
    ∷ reads (untagged A' B' 1515) (327680 ∷ 1 ∷ 1515 ∷ [])
    ∷ reads (tagged A' B' 0x0014 1518) (32788 ∷ [])
    ∷ reads (tagged A' B' 0x0014 1519) (327680 ∷ 1 ∷ 1519 ∷ [])
    -- a tagged frame of 60 bytes has 56 without its tag, an untagged one 64 with a tag
    ∷ rewrites (tagged A' B' 0x000A 60) None (56 ∷ [])
    ∷ rewrites (untagged A' B' 60) (Some (record { priority = 0; vid = 10 })) (64 ∷ [])
    -- a tag with priority 8 or VID 4,095 is not written (35)
    ∷ rewrites (untagged A' B' 60) (Some (record { priority = 8; vid = 10 })) (0 ∷ 35 ∷ [])
    ∷ rewrites (untagged A' B' 60) (Some (record { priority = 0; vid = 4095 })) (0 ∷ 35 ∷ [])
    -- the frame of 1 lies in the frame memory as port 2 will send it, in the cell of port 2, class 0, slot 0
    ∷ lies on_small [] 0 (untagged A' B' 60) memory 6072 (B' ++ (A' ++ (0x81 ∷ 0 ∷ 0 ∷ 0x0A ∷ replicate 48 0)))
    -- setting up: numbers of ports (23), classes (24) and frames to a queue (26)
    ∷ asks (make_asked 3 2 1) 0
    ∷ asks (make_asked 1 9 65) 23
    ∷ asks (make_asked 16 9 65) 24
    ∷ asks (make_asked 16 8 65) 26
    -- a port: not after the start (22), below P (2), PVID (28), priority (29)
    ∷ asks (port_asked true small 3 every_port) 22
    ∷ asks (port_asked false small 3 every_port) 2
    ∷ asks (port_asked false small 2 (record every_port { pvid = 4095; priority = 8 })) 28
    ∷ asks (port_asked false small 2 (record every_port { pvid = 4094; priority = 8 })) 29
    ∷ asks (port_asked false small 2 every_port) 0
    -- a VLAN: VID (28), FID (21), members below P (30), untagged within members (31), not there yet (32)
    ∷ asks (vlan_asked false small (a_vlan 0 17 (3 ∷ []) (4 ∷ []))) 28
    ∷ asks (vlan_asked false small (a_vlan 10 17 (3 ∷ []) (4 ∷ []))) 21
    ∷ asks (vlan_asked false small (a_vlan 10 16 (3 ∷ []) (4 ∷ []))) 30
    ∷ asks (vlan_asked false small (a_vlan 10 16 (2 ∷ []) (1 ∷ []))) 31
    ∷ asks (vlan_asked false small (a_vlan 10 16 (2 ∷ []) (2 ∷ []))) 32
    ∷ asks (vlan_asked false small (a_vlan 30 16 (2 ∷ []) (2 ∷ []))) 0
    -- a static entry for a VLAN that is not created (9); the ageing time (34); a second start (22)
    ∷ asks (static_asked false small (entry_for 30 A' sixteen [])) 9
    ∷ asks (static_asked false small (entry_for 10 A' sixteen [])) 0
    ∷ asks (ageing_asked false 9) 34
    ∷ asks (ageing_asked false 1000000) 0
    ∷ asks (start_asked true) 22
    -- reserved destinations end at 01-80-C2-00-00-0F (13)
    ∷ plays on_small (receive 0 (untagged A' (reserved_to 0x0F) 60) memory ∷ receive 0 (untagged A' (reserved_to 0x10) 60) memory ∷ [])
    (refused (ReservedDestination New) ∷ got 10 0 (1 ∷ 2 ∷ []) [] Known ∷ [])
    -- THE SHOP'S BRIDGE
    -- a trunk admits only frames that name a VLAN (8): not one without a tag, nor one with a tag of priority alone
    ∷ plays on_shop (plain_at 0 A' B' ∷ tagged_at 0 0x6000 A' B' ∷ find 1 A' ∷ [])
    (refused FrameNotAdmitted ∷ refused FrameNotAdmitted ∷ found None ∷ [])
    -- a port that filters at ingress takes no frame of a VLAN that it is no member of (10); one that does not filter does
    ∷ plays on_shop (tagged_at 1 20 A' B' ∷ tagged_at 2 20 A' B' ∷ []) (refused NotMember ∷ got 20 0 (0 ∷ 3 ∷ []) [] New ∷ [])
    -- the default priority is that of frames without a tag, and shows in the tag of the frame sent
    ∷ plays on_shop (plain_at 1 A' B' ∷ send_at 2 ∷ [])
    (got 10 5 (0 ∷ 2 ∷ 3 ∷ []) [] New ∷ out 64 10 1 (tagged A' B' 0xA00A 64) ∷ [])
    -- a tag of priority alone has its own priority, and the port's VLAN
    ∷ plays on_shop (tagged_at 1 0x2000 A' B' ∷ []) (got 10 1 (0 ∷ 2 ∷ 3 ∷ []) [] New ∷ [])
    -- VLANs that share a database share what is learned; another database does not know it
    ∷ plays on_shop (plain_at 1 A' B' ∷ tagged_at 0 11 B' A' ∷ plain_at 3 B' A' ∷ [])
    (got 10 5 (0 ∷ 2 ∷ 3 ∷ []) [] New ∷ got 11 0 (1 ∷ []) [] New ∷ got 20 0 (0 ∷ []) [] New ∷ [])
    -- an address that moves is found where it was heard last
    ∷ plays on_shop (plain_at 1 A' B' ∷ plain_at 2 A' B' ∷ find 1 A' ∷ [])
    (got 10 5 (0 ∷ 2 ∷ 3 ∷ []) [] New ∷ got 11 0 (0 ∷ 1 ∷ []) [] Moved ∷ found (Some 2) ∷ [])
    -- a database has its own share: the third address of one is not learned, and the first of the other is
    ∷ plays on_shop (plain_at 1 A' B' ∷ plain_at 1 B' A' ∷ plain_at 1 K' A' ∷ plain_at 3 K' A' ∷ [])
    (got 10 5 (0 ∷ 2 ∷ 3 ∷ []) [] New ∷ refused (NoEgressPort New) ∷ refused (NoEgressPort Full) ∷ got 20 0 (0 ∷ []) [] New ∷ [])
    -- forward over filter: of the two VIDs of the database one says filter at port 2 and one says forward
    ∷ plays on_shop (tagged_at 0 10 A' K' ∷ []) (got 10 0 (1 ∷ 2 ∷ 3 ∷ []) [] New ∷ [])
    -- forward over the table: K was heard at 1, and its frames go to 2 too
    ∷ plays on_shop (plain_at 1 K' B' ∷ tagged_at 0 10 A' K' ∷ [])
    (got 10 5 (0 ∷ 2 ∷ 3 ∷ []) [] New ∷ got 10 0 (1 ∷ 2 ∷ []) [] New ∷ [])
    -- filter over the table: L was heard at 1 under VID 11, and VID 10 keeps its frames from there (14)
    ∷ plays on_shop (tagged_at 1 11 L' B' ∷ find 1 L' ∷ tagged_at 0 10 A' L' ∷ [])
    (got 11 0 (0 ∷ 2 ∷ []) [] New ∷ found (Some 1) ∷ refused (NoEgressPort New) ∷ [])
    -- another VID's entry counts for an individual destination: VID 10 keeps L's frames of VLAN 11 from port 1
    ∷ plays on_shop (tagged_at 0 11 A' L' ∷ []) (got 11 0 (2 ∷ []) [] New ∷ [])
    -- but not that of a VID of another database
    ∷ plays on_shop (tagged_at 0 20 A' L' ∷ []) (got 20 0 (3 ∷ []) [] New ∷ [])
    -- a group destination: VID 11 says filter at port 2, which counts in VLAN 11 alone
    ∷ plays on_shop (tagged_at 0 10 A' G' ∷ tagged_at 0 11 A' G' ∷ [])
    (got 10 0 (1 ∷ 2 ∷ 3 ∷ []) [] New ∷ got 11 0 (1 ∷ []) [] Known ∷ [])
    -- learning is held back at the port of which a static entry speaks, and nowhere else
    ∷ plays on_shop (plain_at 1 M' B' ∷ find 1 M' ∷ tagged_at 0 10 M' B' ∷ find 1 M' ∷ [])
    (got 10 5 (0 ∷ 2 ∷ 3 ∷ []) [] Unlearned ∷ found None ∷ got 10 0 (1 ∷ 2 ∷ 3 ∷ []) [] New ∷ found (Some 0) ∷ [])
    -- a group address is never learned
    ∷ plays on_shop (tagged_at 0 10 G' B' ∷ find 1 G' ∷ []) (got 10 0 (1 ∷ 2 ∷ 3 ∷ []) [] Unlearned ∷ found None ∷ [])
    -- a Listening port takes nothing, and nothing is learned (11)
    ∷ plays (shop_with (open_port 0 ++ listen 1)) (plain_at 1 A' B' ∷ find 1 A' ∷ []) (refused PortNotLearning ∷ found None ∷ [])
    -- a Learning port takes nothing on, and what was learned stays (12)
    ∷ plays (shop_with (open_port 0 ++ learn 1)) (plain_at 1 A' B' ∷ find 1 A' ∷ plain_at 1 A' B' ∷ [])
    (refused (PortNotForwarding New) ∷ found (Some 1) ∷ refused (PortNotForwarding Known) ∷ [])
    -- and no frame goes to it
    ∷ plays (shop_with (open_ports (0 ∷ 2 ∷ []) ++ learn 1)) (tagged_at 0 10 A' B' ∷ []) (got 10 0 (2 ∷ []) [] New ∷ [])
    -- a reserved destination is not relayed, and what was learned stays (13)
    ∷ plays on_shop (tagged_at 0 10 A' (reserved_to 0) ∷ find 1 A' ∷ []) (refused (ReservedDestination New) ∷ found (Some 0) ∷ [])
    -- a flush empties one database, and says how many went
    ∷ plays on_shop (plain_at 1 A' B' ∷ plain_at 3 A' B' ∷ flush 1 ∷ find 1 A' ∷ find 2 A' ∷ flush 1 ∷ [])
    (got 10 5 (0 ∷ 2 ∷ 3 ∷ []) [] New ∷ got 20 0 (0 ∷ []) [] New ∷ removed 1 ∷ found None ∷ found (Some 3) ∷ removed 0 ∷ [])
    -- a standing read counts frames of all classes; a full queue has no room for a third of its class
    ∷ plays on_shop (plain_at 1 A' B' ∷ plain_at 1 A' B' ∷ plain_at 1 A' B' ∷ plain_at 3 A' B' ∷ standing 0 ∷ standing 3 ∷ standing 1 ∷ [])
    (got 10 5 (0 ∷ 2 ∷ 3 ∷ []) [] New ∷ got 10 5 (0 ∷ 2 ∷ 3 ∷ []) [] Known ∷ got 10 5 (0 ∷ 2 ∷ 3 ∷ []) (0 ∷ 2 ∷ 3 ∷ []) Known
    ∷ got 20 0 (0 ∷ []) [] New ∷ counted 3 ∷ counted 2 ∷ counted 0 ∷ [])
    -- the highest class leaves first, and frames of one class in their order; then none stands (16)
    ∷ plays on_shop (plain_at 3 A' B' ∷ plain_at 1 A' B' ∷ plain_at 1 K' B' ∷ send_at 0 ∷ send_at 0 ∷ send_at 0 ∷ send_at 0 ∷ [])
    (got 20 0 (0 ∷ []) [] New ∷ got 10 5 (0 ∷ 2 ∷ 3 ∷ []) [] New ∷ got 10 5 (0 ∷ 2 ∷ 3 ∷ []) [] New
    ∷ out 64 10 1 (tagged A' B' 0xA00A 64) ∷ out 64 10 1 (tagged K' B' 0xA00A 64) ∷ out 64 20 0 (tagged A' B' 20 64) ∷ refused NoFrameStands ∷ [])
    -- a disable empties the port, and so does a drop; an event of a port that is not Forwarding empties nothing
    ∷ plays on_shop (plain_at 1 A' B' ∷ event 0 2 ∷ standing 0 ∷ event 2 4 ∷ event 2 2 ∷ standing 3 ∷ send_at 0 ∷ [])
    (got 10 5 (0 ∷ 2 ∷ 3 ∷ []) [] New ∷ emptied 1 ∷ counted 0 ∷ emptied 1 ∷ emptied 0 ∷ counted 1 ∷ refused NoFrameStands ∷ [])
    -- emptying does not move the slots: port 0's queue of class 1 goes on in its second cell
    ∷ lies on_shop (plain_at 1 A' B' ∷ event 0 4 ∷ event 0 3 ∷ event 0 5 ∷ event 0 5 ∷ []) 1 (untagged A' B' 60) shop_memory 4554 (tagged A' B' 0xA00A 64)
    -- entries age: heard at 0 and gone 10 seconds later
    ∷ plays on_shop (plain_at 1 A' B' ∷ advance 9999 ∷ find 1 A' ∷ advance 10000 ∷ find 1 A' ∷ [])
    (got 10 5 (0 ∷ 2 ∷ 3 ∷ []) [] New ∷ advanced ∷ found (Some 1) ∷ advanced ∷ found None ∷ [])
    -- a bridge that was not started refuses each call (1)
    ∷ plays not_started
    (plain_at 1 A' B' ∷ send_at 0 ∷ advance 0 ∷ event 0 1 ∷ flush 1 ∷ find 1 A' ∷ standing 0 ∷ [])
    (replicate 7 (refused NotStarted))
    -- there is no port 4 (2); the frame memory is a byte too small (3), and so is the output memory (15)
    ∷ plays on_shop
    (receive 4 [] 0 ∷ send 4 0 0 ∷ event 4 0 ∷ standing 4 ∷ receive 0 [] 36431 ∷ send 0 36431 0 ∷ send 0 36432 1517 ∷ [])
    (refused PortOutOfRange ∷ refused PortOutOfRange ∷ refused PortOutOfRange ∷ refused PortOutOfRange ∷ refused FrameMemoryTooSmall ∷ refused FrameMemoryTooSmall
    ∷ refused OutputMemoryTooSmall ∷ [])
    -- the clock does not go back (17), and ends below 1,099,511,627,776 (18)
    ∷ plays on_shop (advance 5 ∷ advance 4 ∷ advance 5 ∷ advance 1099511627776 ∷ advance 1099511627775 ∷ [])
    (advanced ∷ refused TimeBeforeClock ∷ advanced ∷ refused TimeTooLarge ∷ advanced ∷ [])
    -- events are 1 to 5 (19), and no state takes all of them (20)
    ∷ plays on_shop (event 0 0 ∷ event 0 6 ∷ event 0 1 ∷ event 0 3 ∷ event 0 5 ∷ event 0 2 ∷ event 0 2 ∷ event 0 4 ∷ [])
    (refused UnknownEvent ∷ refused UnknownEvent ∷ refused NoTransition ∷ refused NoTransition ∷ refused NoTransition ∷ emptied 0
    ∷ refused NoTransition ∷ refused NoTransition ∷ [])
    -- databases are 1 to 16 (21)
    ∷ plays on_shop (flush 0 ∷ flush 17 ∷ find 0 A' ∷ find 17 A' ∷ flush 16 ∷ find 16 A' ∷ [])
    (refused FidOutOfRange ∷ refused FidOutOfRange ∷ refused FidOutOfRange ∷ refused FidOutOfRange ∷ removed 0 ∷ found None ∷ [])
    -- setting up: at most 64 VLANs and 64 static entries (33), and none of the latter twice (32)
    ∷ asks (vlan_asked false (record shop { vlans = replicate 64 (a_vlan 10 1 [] []) }) (a_vlan 11 1 [] [])) 33
    ∷ asks (static_asked false (record shop { statics = replicate 64 (entry_for 10 K' [] []) }) (entry_for 10 L' [] [])) 33
    ∷ asks (static_asked false shop (entry_for 11 K' [] [])) 32
    -- what is made, and what the calls leave of it
    ∷ leaves (with_ageing (just_made 4 3 2 2) 10)
    (record { ports = 4; classes = 3; depth = 2; share = 2; ageing = 10; port = replicate 16 (record every_port { pvid = 1 }); vlans = []; statics = [] })
    ∷ leaves (with_port small 1 (record every_port { priority = 5 }))
    (record small { port = every_port ∷ record every_port { priority = 5 } ∷ replicate 14 every_port })
    ∷ leaves (with_vlan (record shop { vlans = [] }) (a_vlan 10 1 (0 ∷ []) [])) (record shop { vlans = a_vlan 10 1 (0 ∷ []) [] ∷ [] })
    ∷ leaves (with_vlan small (a_vlan 30 16 (2 ∷ []) []))
    (record small { vlans = a_vlan 10 1 (0 ∷ 1 ∷ 2 ∷ []) (0 ∷ 1 ∷ []) ∷ a_vlan 20 2 (0 ∷ 1 ∷ 2 ∷ []) [] ∷ a_vlan 30 16 (2 ∷ []) [] ∷ [] })
    ∷ leaves (with_static small (entry_for 10 K' (1 ∷ []) [])) (record small { statics = entry_for 10 K' (1 ∷ []) [] ∷ [] })
    ∷ []

abbrev pub ExamplesHold : Type 0
ExamplesHold = AllHold table
