-- Where a frame goes, by what static entries and the table say, and where it lies.
use Rattle.std.proofs.Common.{◌≡◌, ℕ, suc, ◌+◌, ◌*◌, ◌/◌, ◌%◌, ◌<◌, ◌≤◌, Bool, true, false, not, ◌&&◌, eqb, List, Some, None, Option, refl, sym, ap, mul_comm, ◌∙◌, arith}
use Rattle.std.proofs.lemmas.Bool.{and_parts, cond-false, cond-true, false≢true, ltb-true, not-true}
use Rattle.std.proofs.lemmas.Nat.{div-mul-add, mod-mul-add, mul-add-lt}
use Rattle.frame.specs.Address.{group}
use Rattle.rules.specs.Egress.{cell_place}
use Rattle.rules.specs.Relay.{any_says, decides, forwards, let_through}
use Rattle.rules.specs.Settings.{Settings, is_filter, is_forward, is_of, verdict_at, vlan_of}
use Rattle.rules.specs.State.{state_at}
use Rattle.rules.specs.Ways.{CellsApart, CellsWithin, DecidedPorts, FilterWins, ForwardWins, OwnGroupEntry}
use Rattle.rules.specs.declared.ports.PortState.{PortState}
use Rattle.rules.specs.declared.ports.PortState.TheVariants.{Disabled, Blocking, Listening, Learning, Forwarding}
use Rattle.rules.specs.declared.vlans.Verdict.{Verdict}
use Rattle.rules.specs.declared.vlans.Verdict.TheVariants.{Filter, Forward, Silent}
use Rattle.rules.proofs.IsoSettings.{any_from, said}
use Rattle.rules.proofs.Numbers.{sixteen_has}

is_forwarding : (x : PortState) → forwards x ≡ true → x ≡ Forwarding
is_forwarding Forwarding e = refl
is_forwarding x e = absurd (false≢true e)

says_forward : (x : Verdict) → is_forward x ≡ true → x ≡ Forward
says_forward Forward e = refl
says_forward x e = absurd (false≢true e)

pub decided_ports : DecidedPorts
decided_ports σ s q v a p h =
    let all = and_parts _ _ (sixteen_has (decides σ s q v a) p h) in
    let member = and_parts _ _ all.0 in
    let forward = and_parts _ _ member.0 in
    let elsewhere = and_parts _ _ forward.0 in
    record {
      port = ltb-true p σ.ports elsewhere.0;
      elsewhere = not-true _ elsewhere.1;
      forwarding = is_forwarding (state_at s p) forward.1;
      member = member.1;
    }

pub forward_wins : ForwardWins
forward_wins σ s v a p vid g own e =
    let any = any_from is_forward σ v.fid a p refl (record { vid = vid; own = own; says' = ap is_forward e }) in
    cond-false (group a) _ _ g ∙ cond-true (any_says is_forward σ σ.statics v.fid a p) _ _ any

none_says : (b : Bool) → (b ≡ true → ⊥) → b ≡ false
none_says true h = absurd (h refl)
none_says false h = refl

pub filter_wins : FilterWins
filter_wins σ s v a p vid g none own e =
    let any = any_from is_filter σ v.fid a p refl (record { vid = vid; own = own; says' = ap is_filter e }) in
    let no_forward = none_says (any_says is_forward σ σ.statics v.fid a p) (λ h.
    let w = said is_forward σ v.fid a p σ.statics h in
    none w.vid w.own (says_forward (verdict_at σ w.vid a p) w.says')) in
    cond-false (group a) _ _ g
    ∙ cond-false (any_says is_forward σ σ.statics v.fid a p) _ _ no_forward
    ∙ cond-true (any_says is_filter σ σ.statics v.fid a p) _ _ any

pub own_group_entry : OwnGroupEntry
own_group_entry σ τ s t v a p g e =
    cond-true (group a) _ _ g ∙ ap (λ x. not (is_filter x)) e ∙ sym (cond-true (group a) _ _ g)

-- numbers whose stretches of 1,518 overlap are equal
overlapping : (m n : ℕ) → 1518 * m < 1518 * n + 1518 → 1518 * n < 1518 * m + 1518 → m ≡ n
overlapping m n l k = omega (arith, l, k)

-- the two parts of a number counted in rows
parts_same : (a b w x y : ℕ) → x < w → y < w → a * w + x ≡ b * w + y → (a ≡ b) × (x ≡ y)
parts_same a b w x y l k e = (
  sym (div-mul-add a w x l) ∙ ap (λ n. n / w) e ∙ div-mul-add b w y k,
  sym (mod-mul-add a w x l) ∙ ap (λ n. n % w) e ∙ mod-mul-add b w y k,
)

pub cells_apart : CellsApart
cells_apart σ p c k p' c' k' lc lc' lk lk' l m =
    let cell = parts_same (p * σ.classes + c) (p' * σ.classes + c') σ.depth k k' lk lk' (overlapping _ _ l m) in
    let queue = parts_same p p' σ.classes c c' lc lc' cell.0 in
    (queue.0, queue.1, cell.1)

within : (n m : ℕ) → n < m → 1518 * n + 1518 ≤ m * 1518
within n m l = omega (arith, l)

pub cells_within : CellsWithin
cells_within σ p c k lp lc lk =
    let queue : p * σ.classes + c < σ.ports * σ.classes = rw (mul_comm σ.ports σ.classes) (mul-add-lt p σ.classes c σ.ports lp lc) in
    let cell : (p * σ.classes + c) * σ.depth + k < σ.ports * σ.classes * σ.depth = rw (mul_comm (σ.ports * σ.classes) σ.depth) (mul-add-lt (p * σ.classes + c) σ.depth k (σ.ports * σ.classes) queue lk) in
    within ((p * σ.classes + c) * σ.depth + k) (σ.ports * σ.classes * σ.depth) cell
