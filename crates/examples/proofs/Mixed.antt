-- Calls without a send make a run, whatever they answer; and the two bridges are alike for database 1.
use Rattle.std.proofs.Common.{◌≡◌, ℕ, Bool, true, false, cond, eqb, List, [], ◌∷◌, Some, None, Option, refl, subst}
use Rattle.std.specs.List.{list_all}
use Rattle.std.proofs.lemmas.Bool.{and_parts, eqb-true, false≢true}
use Rattle.table.specs.Rising.{order}
use Rattle.rules.specs.Calls.{Call, perform, send}
use Rattle.rules.specs.Egress.{class_of}
use Rattle.rules.specs.Laws.{Alike, of_database}
use Rattle.rules.specs.Runs.{ChoosesAt, Path', go, stay}
use Rattle.rules.specs.Settings.{Settings, is_of, static_of, vlan_of}
use Rattle.rules.specs.State.{State, at_start}
use Rattle.rules.specs.declared.vlans.StaticEntry.{StaticEntry}
use Rattle.rules.specs.declared.vlans.Vlan.{Vlan}
use Rattle.examples.specs.Bridges.{a_vlan, small}
use Rattle.examples.specs.Mixed.{PremiseMet, mixed, other, single, steps_of}

abbrev is_no_send : Call → Bool
is_no_send (send p memory output) = false
is_no_send call = true

unchosen : (s : State) (c : Call) → is_no_send c ≡ true → ChoosesAt s c None
unchosen s (send p memory output) e = absurd (false≢true e)
unchosen s call e = tt

path : (σ : Settings) (s : State) (cs : List Call) → list_all is_no_send cs ≡ true → (t : State) × Path' σ s (steps_of σ s cs) t
path σ s [] e = (s, stay)
path σ s (c ∷ cs) e =
    let parts = and_parts _ _ e in
    let rest = path σ (perform σ s c None).after cs parts.1 in
    (rest.0, go (record { choice = None; chosen = unchosen s c parts.0; answers = refl; leaves = refl }) rest.1)

same_vlans : (vid : ℕ) → of_database 1 (vlan_of small.vlans vid) ≡ of_database 1 (vlan_of other.vlans vid)
same_vlans vid = go' (eqb 10 vid) (eqb 20 vid) (eqb 30 vid)
  where
    v10 : Vlan
    v10 = a_vlan 10 1 (0 ∷ 1 ∷ 2 ∷ []) (0 ∷ 1 ∷ [])

    go' : (a b c : Bool) → of_database 1 (cond a (Some v10) (cond b (Some (a_vlan 20 2 (0 ∷ 1 ∷ 2 ∷ []) [])) None)) ≡ of_database 1 (cond a (Some v10) (cond b (Some (a_vlan 20 2 (1 ∷ 2 ∷ []) (2 ∷ []))) (cond c (Some (a_vlan 30 3 (0 ∷ 2 ∷ []) [])) None)))
    go' true b c = refl
    go' false true c = refl
    go' false false true = refl
    go' false false false = refl

same_statics : (vid : ℕ) (a : List ℕ) → is_of 1 (vlan_of small.vlans vid) ≡ true → static_of small.statics vid a ≡ static_of other.statics vid a
same_statics vid a own = go' (eqb 10 vid) refl (eqb 20 vid) own
  where
    nothing : Option StaticEntry
    nothing = None

    go' : (b : Bool) → eqb 10 vid ≡ b → (c : Bool) → is_of 1 (cond b (Some (a_vlan 10 1 (0 ∷ 1 ∷ 2 ∷ []) (0 ∷ 1 ∷ []))) (cond c (Some (a_vlan 20 2 (0 ∷ 1 ∷ 2 ∷ []) [])) None)) ≡ true → static_of small.statics vid a ≡ static_of other.statics vid a
    go' true e c h = subst (λ v. static_of small.statics v a ≡ static_of other.statics v a) (eqb-true 10 vid e) refl
    go' false e true h = absurd (false≢true h)
    go' false e false h = absurd (false≢true h)

pub premise_met : PremiseMet
unfolding class_of order
premise_met =
    record {
      mixed_run = path small at_start mixed refl;
      single_run = path other at_start single refl;
      alike =
          record {
            ports = refl;
            classes = refl;
            depth = refl;
            share = refl;
            ageing = refl;
            port = refl;
            vlans = same_vlans;
            statics = same_statics;
          };
      same_calls = refl;
      more = refl;
    }
