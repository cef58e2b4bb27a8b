-- What is known of a VLAN or a static entry of which nothing was answered no.
use Rattle.std.proofs.Common.{◌≡◌, ℕ, ◌<◌, ◌≤◌, Bool, true, false, not, List, length, nat_lt, Some, None, Ok, Option, refl, arith}
use Rattle.std.proofs.lemmas.Bool.Decides.{nat_tests}
use Rattle.fault.specs.Asked.{unless}
use Rattle.fault.specs.declared.refusal.Refusal.{Refusal}
use Rattle.table.specs.Entries.{is_fid}
use Rattle.rules.specs.Ports.{sixteen}
use Rattle.rules.specs.Settings.{static_of, vlan_of}
use Rattle.rules.specs.Setup.{all_below, all_in, ask, asked_of_static, asked_of_vlan, in_range, no_static, no_vlan}
use Rattle.rules.specs.declared.vlans.StaticEntry.{StaticEntry}
use Rattle.rules.specs.declared.vlans.Vlan.{Vlan}
use Rattle.configuration.specs.Indexed.{Addable}
use Rattle.configuration.specs.Searched.{Fresh}

-- nothing was answered no
abbrev pub Accepted : Option Refusal → Type 0
Accepted asked = Ok (tt {0}) ≡ unless asked (tt {0})

pub first : (yes' : Bool) (r : Refusal) (later : Option Refusal) → Accepted (ask yes' r later) → yes' ≡ true
first true r later e = refl
first false r later e = cc

pub others : (yes' : Bool) (r : Refusal) (later : Option Refusal) → Accepted (ask yes' r later) → Accepted later
others true r later e = e
others false r later e = cc

not_there : (o : Option Vlan) → no_vlan o ≡ true → o ≡ None
not_there None e = refl
not_there (Some v) e = cc

ranged : (low high n : ℕ) → in_range low high n ≡ true → (low ≤ n) × (n ≤ high)
ranged low high n e = (grind (arith, nat_tests), grind (arith, nat_tests))

below : (n m : ℕ) → nat_lt n m ≡ true → n < m
below n m e = grind (arith, nat_tests)

pub addable : (ports : ℕ) (vs : List Vlan) (v : Vlan) → Accepted (asked_of_vlan ports vs v) → Addable vs v
addable ports vs v e =
    let a = others (in_range 1 4094 v.vid) _ _ e in
    let b = others (is_fid v.fid) _ _ a in
    let d = others (all_below v.members ports sixteen) _ _ b in
    let f = others (all_in v.untagged v.members sixteen) _ _ d in
    let g = others (no_vlan (vlan_of vs v.vid)) _ _ f in
    let r = ranged 1 4094 v.vid (first (in_range 1 4094 v.vid) _ _ e) in
    record {
      numbered = record { vid_low = r.0; vid_high = r.1; fid = first (is_fid v.fid) _ _ a };
      absent = not_there (vlan_of vs v.vid) (first (no_vlan (vlan_of vs v.vid)) _ _ f);
      room = below (length vs) 64 (first (nat_lt (length vs) 64) _ _ g);
    }

no_entry : (o : Option StaticEntry) → no_static o ≡ true → o ≡ None
no_entry None e = refl
no_entry (Some v) e = cc

pub fresh : (vs : List Vlan) (es : List StaticEntry) (e : StaticEntry) → Accepted (asked_of_static vs es e) → Fresh es e
fresh vs es e h =
    let a = others (not (no_vlan (vlan_of vs e.vid))) _ _ h in
    let b = others (no_static (static_of es e.vid e.address)) _ _ a in
    record {
      absent = no_entry (static_of es e.vid e.address) (first (no_static (static_of es e.vid e.address)) _ _ a);
      room = below (length es) 64 (first (nat_lt (length es) 64) _ _ b);
    }
