-- What static entries say of the ports, for frames to an address: two sets, of the ports where they say forward and of
-- those where they say filter.
use Rattle.std.specs.Prelude.{ℕ, Bool, cond, List, slice_index_or}
use Rattle.frame.specs.Address.{group}
use Rattle.sets.specs.Sets.{union}
use Rattle.rules.specs.Ports.{no_ports, ports_where}
use Rattle.rules.specs.Relay.{any_says}
use Rattle.rules.specs.Settings.{Settings, is_filter, is_forward, verdict_at}
use Rattle.rules.specs.declared.vlans.StaticEntry.{StaticEntry}
use Rattle.rules.specs.declared.vlans.Verdict.{Verdict}
use Rattle.rules.specs.declared.vlans.Verdict.TheVariants.{Silent}
use Rattle.rules.specs.declared.vlans.Vlan.{Vlan}
use Rattle.configuration.specs.declared.said.Said.{Said}

-- settings with these VLANs and static entries
abbrev pub with_these : Settings → List Vlan → List StaticEntry → Settings
with_these σ vlans statics = record σ { vlans = vlans; statics = statics }

-- by the entry for a VID and an address
abbrev pub said_under : Settings → ℕ → List ℕ → Said
said_under σ vid a =
    record {
      forward = ports_where (λ p. is_forward (verdict_at σ vid a p));
      filter = ports_where (λ p. is_filter (verdict_at σ vid a p));
    }

-- by the entries for an address under any VID of a filtering database
abbrev pub said_in : Settings → ℕ → List ℕ → Said
said_in σ f a =
    record {
      forward = ports_where (any_says is_forward σ σ.statics f a);
      filter = ports_where (any_says is_filter σ σ.statics f a);
    }

-- for frames of a VLAN: of a group address its own VID's entry speaks, of an individual one those of its database
abbrev pub said_for : Settings → Vlan → List ℕ → Said
said_for σ v a = cond (group a) (said_under σ v.vid a) (said_in σ v.fid a)

-- by nobody
abbrev pub unsaid : Said
unsaid = record { forward = no_ports; filter = no_ports }

-- by one entry's verdicts
abbrev pub says_at : (Verdict → Bool) → List Verdict → ℕ → Bool
says_at is verdicts p = is (slice_index_or verdicts p Silent)

abbrev pub said_by : List Verdict → Said
said_by verdicts =
    record { forward = ports_where (says_at is_forward verdicts); filter = ports_where (says_at is_filter verdicts) }

abbrev pub both_said : Said → Said → Said
both_said one other =
    record { forward = union one.forward other.forward; filter = union one.filter other.filter }
