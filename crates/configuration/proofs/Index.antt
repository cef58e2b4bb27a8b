-- An index of VLANs, with none of them and with one more.
use Rattle.std.proofs.Common.{◌≡◌, ℕ, ◌≤◌, ◌==◌, zero, suc, List, [], ◌∷◌, ◌++◌, length, replicate, set, get_or, Some, None, Option, refl, ap, subst, sym, ◌∙◌, inl, inr, arith, length-append, length-set, get_or-set_same, get_or-set_other}
use Rattle.std.proofs.lemmas.Bool.{cases_eq, cases_lt, cond-true, cond-false, eq-eqb, ne_eqb}
use Rattle.std.proofs.lemmas.List.{get_or-replicate, get_or_past, length-replicate}
use Rattle.std.specs.Option.{IfSome, option_or}
use Rattle.rules.specs.Settings.{vlan_of}
use Rattle.rules.specs.declared.vlans.Vlan.{Vlan}
use Rattle.configuration.specs.Indexed.{Addable, Indexed, Numbered, vlan_at}
use Rattle.configuration.proofs.Searches.{in_turn, slice_get_front, slice_get_last}

zeros : (index : List ℕ) (n : ℕ) → index ≡ replicate n 0 → (k : ℕ) → get_or index k 0 ≡ 0
zeros index n all k =
    ap (λ (xs : List ℕ). get_or xs k 0) all
    ∙ elim (cases_lt k n) [
      | inl within ↦ get_or-replicate n k 0 0 within
      | inr past ↦ get_or_past (replicate n 0) k 0 (omega (arith, length-replicate {A = ℕ} n 0))
    ]

-- zeros are the index of no VLAN
pub none_indexed : (index : List ℕ) (n : ℕ) → index ≡ replicate n 0 → n ≡ 4095 → Indexed index []
none_indexed index n all e =
    record {
      long = ap length all ∙ length-replicate n 0 ∙ e;
      found = λ vid. ap (vlan_at []) (sym (zeros index n all vid));
      within = λ vid. omega (arith, zeros index n all vid);
      numbered = λ vid. tt;
    }

vlan_of-append : (vs ws : List Vlan) (vid : ℕ) → vlan_of (vs ++ ws) vid ≡ option_or (vlan_of vs vid) (vlan_of ws vid)
vlan_of-append [] ws vid = refl
vlan_of-append (v ∷ vs) ws vid = in_turn (v.vid == vid) v (vlan_of vs vid) (vlan_of ws vid) (vlan_of-append vs ws vid)

added_there : (vs : List Vlan) (v : Vlan) (vid : ℕ) → vlan_of vs v.vid ≡ None → vid ≡ v.vid → vlan_of (vs ++ v ∷ []) vid ≡ Some v
added_there vs v vid absent same =
    ap (vlan_of (vs ++ v ∷ [])) same ∙ vlan_of-append vs (v ∷ []) v.vid ∙ ap (λ (o : Option Vlan). option_or o (vlan_of (v ∷ []) v.vid)) absent
    ∙ cond-true (v.vid == v.vid) (Some v) None (eq-eqb v.vid v.vid refl)

or_none : (o : Option Vlan) → option_or o None ≡ o
or_none None = refl
or_none (Some v) = refl

added_elsewhere : (vs : List Vlan) (v : Vlan) (vid : ℕ) → (vid ≡ v.vid → ⊥) → vlan_of (vs ++ v ∷ []) vid ≡ vlan_of vs vid
added_elsewhere vs v vid other =
    vlan_of-append vs (v ∷ []) vid
    ∙ ap (option_or (vlan_of vs vid)) (cond-false (v.vid == vid) (Some v) None (ne_eqb v.vid vid (λ e. other (sym e))))
    ∙ or_none (vlan_of vs vid)

vlan_at_front : (vs : List Vlan) (v : Vlan) (k : ℕ) → k ≤ length vs → vlan_at (vs ++ v ∷ []) k ≡ vlan_at vs k
vlan_at_front vs v zero h = refl
vlan_at_front vs v (suc k) h = slice_get_front vs v k (omega arith)

-- one more VLAN
pub one_more : (index : List ℕ) (vs : List Vlan) (v : Vlan) (place : ℕ) → Indexed index vs → Addable vs v → place ≡ suc (length vs) → Indexed (set index v.vid place) (vs ++ v ∷ [])
one_more index vs v place was may e =
    record {
      long = length-set index v.vid place ∙ was.long;
      found = found;
      within = within;
      numbered = numbered;
    }
  where
    here : (vid : ℕ) → vid ≡ v.vid → get_or (set index v.vid place) vid 0 ≡ suc (length vs)
    here vid same =
        ap (λ (k : ℕ). get_or (set index v.vid place) k 0) same
        ∙ get_or-set_same index v.vid place 0 (omega (arith, was.long, may.numbered.vid_high)) ∙ e

    found : (vid : ℕ) → vlan_of (vs ++ v ∷ []) vid ≡ vlan_at (vs ++ v ∷ []) (get_or (set index v.vid place) vid 0)
    found vid =
        elim (cases_eq vid v.vid) [
          | inl same ↦
              added_there vs v vid may.absent same
              ∙ sym (slice_get_last vs v)
              ∙ sym (ap (vlan_at (vs ++ v ∷ [])) (here vid same))
          | inr other ↦
              added_elsewhere vs v vid other ∙ was.found vid
              ∙ sym (vlan_at_front vs v (get_or index vid 0) (was.within vid))
              ∙ sym (ap (vlan_at (vs ++ v ∷ [])) (get_or-set_other index v.vid vid place 0 other))
        ]

    within : (vid : ℕ) → get_or (set index v.vid place) vid 0 ≤ length (vs ++ v ∷ [])
    within vid =
        elim (cases_eq vid v.vid) [
          | inl same ↦ omega (arith, here vid same, length-append vs (v ∷ []))
          | inr other ↦ omega (arith, get_or-set_other index v.vid vid place 0 other, was.within vid, length-append vs (v ∷ []))
        ]

    numbered : (vid : ℕ) → IfSome (vlan_of (vs ++ v ∷ []) vid) Numbered
    numbered vid =
        elim (cases_eq vid v.vid) [
          | inl same ↦ let P : Option Vlan → Type 0 = λ o. IfSome o Numbered in subst P (sym (added_there vs v vid may.absent same)) may.numbered
          | inr other ↦ let P : Option Vlan → Type 0 = λ o. IfSome o Numbered in subst P (sym (added_elsewhere vs v vid other)) (was.numbered vid)
        ]
