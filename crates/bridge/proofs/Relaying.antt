-- Relaying, and the ports that a frame goes to.
use Rattle.std.proofs.Common.{◌≡◌, ℕ, ◌<◌, Bool, true, false, cond, not, ◌&&◌, ◌||◌, ◌==◌, nat_lt, List, length, None, Option, refl, sym, ap, ◌∙◌, inl, inr, arith}
use Rattle.std.proofs.lemmas.Bool.{cases_lt}
use Rattle.std.proofs.lemmas.List.{get_or_past}
use Rattle.std.proofs.lemmas.List.FromFn.{get_or-map-range_with_len}
use Rattle.configuration.specs.Saying.{said_for}
use Rattle.configuration.specs.declared.said.Said.{Said}
use Rattle.fault.specs.declared.mark.Mark.{Mark}
use Rattle.fault.specs.declared.refusal.Refusal.TheVariants.{ReservedDestination}
use Rattle.frame.specs.Address.{group, reserved}
use Rattle.frame.specs.Reading.{Picture}
use Rattle.sets.proofs.ByNumber.{map_same}
use Rattle.table.specs.Calls.{entry_port}
use Rattle.table.specs.Entries.{lookup}
use Rattle.rules.specs.Calls.{flood, refusing, relay}
use Rattle.rules.specs.Ports.{Ports, has, ports_where}
use Rattle.rules.specs.Relay.{any_says, decided, decides, entry_lets, forwards, let_through}
use Rattle.rules.specs.Settings.{Settings, is_filter, is_forward, is_member, verdict_at}
use Rattle.rules.specs.State.{State, state_at}
use Rattle.rules.specs.declared.ports.PortState.{PortState}
use Rattle.rules.specs.declared.vlans.Verdict.{Verdict}
use Rattle.rules.specs.declared.vlans.Verdict.TheVariants.{Forward, Filter, Silent}
use Rattle.rules.specs.declared.vlans.Vlan.{Vlan}
use Rattle.bridge.specs.Decided.{goes_to, known_port, lets}
use Rattle.bridge.specs.Flooding.{OfPorts}

by_group : (w : Verdict) → (is_forward w || (not (is_filter w) && true)) ≡ not (is_filter w)
by_group Forward = refl
by_group Filter = refl
by_group Silent = refl

by_all : (x y z : Bool) → (x || (not y && z)) ≡ cond x true (cond y false z)
by_all true y z = refl
by_all false true z = refl
by_all false false z = refl

lets_of : (f g : ℕ → Bool) (known : Option ℕ) (p : ℕ) → p < 16 → lets (record { forward = ports_where f; filter = ports_where g }) known p ≡ (f p || (not (g p) && entry_lets known p))
lets_of f g known p l =
    ap (λ (t : Bool). t || (not (has (ports_where g) p) && entry_lets known p)) (get_or-map-range_with_len f 0 16 p p false l (omega arith))
    ∙ ap (λ (t : Bool). f p || (not t && entry_lets known p)) (get_or-map-range_with_len g 0 16 p p false l (omega arith))

lets_by : (σ : Settings) (s : State) (v : Vlan) (a : List ℕ) (p : ℕ) → p < 16 → (t : Bool) → group a ≡ t → lets (said_for σ v a) (known_port s.entries v.fid a) p ≡ let_through σ s v a p
lets_by σ s v a p l true g =
    rw g (lets_of (λ q. is_forward (verdict_at σ v.vid a q)) (λ q. is_filter (verdict_at σ v.vid a q)) None p l ∙ by_group (verdict_at σ v.vid a p))
lets_by σ s v a p l false g =
    let known = entry_port (lookup s.entries v.fid a) in
    rw g (lets_of (any_says is_forward σ σ.statics v.fid a) (any_says is_filter σ σ.statics v.fid a) known p l
    ∙ by_all (any_says is_forward σ σ.statics v.fid a p) (any_says is_filter σ σ.statics v.fid a p) (entry_lets known p))

pub decided_is : (σ : Settings) (s : State) (q count : ℕ) (v : Vlan) (a : List ℕ) (said : Said) (known : Option ℕ) → count ≡ σ.ports → said ≡ said_for σ v a → known ≡ known_port s.entries v.fid a
    → ports_where (goes_to count s.states q v.members said known) ≡ decided σ s q v a
decided_is σ s q count v a said known n e k =
    ap (λ (c : ℕ). ports_where (goes_to c s.states q v.members said known)) n
    ∙ ap (λ (x : Said). ports_where (goes_to σ.ports s.states q v.members x known)) e
    ∙ ap (λ (o : Option ℕ). ports_where (goes_to σ.ports s.states q v.members (said_for σ v a) o)) k
    ∙ map_same (goes_to σ.ports s.states q v.members (said_for σ v a) (known_port s.entries v.fid a)) (decides σ s q v a) 16
    (λ p l. ap (λ (t : Bool). nat_lt p σ.ports && not (p == q) && forwards (state_at s p) && is_member v p && t) (lets_by σ s v a p l (group a) refl))

first_of_all : (a b c d e : Bool) → (a && b && c && d && e) ≡ true → a ≡ true
first_of_all true b c d e h = refl
first_of_all false b c d e h = h

pub of_ports : (n count : ℕ) (set : Ports) (states : List PortState) (q : ℕ) (members : Ports) (said : Said) (known : Option ℕ) → count ≡ n → set ≡ ports_where (goes_to count states q members said known) → OfPorts n set
of_ports n count set states q members said known c e = record {
  long = ap (λ (x : Ports). length x) e;
  below = λ p h. elim (cases_lt p 16) [
    | inl l ↦ ap (λ (m : ℕ). nat_lt p m) (sym c)
        ∙ first_of_all _ _ _ _ _ (sym (get_or-map-range_with_len (goes_to count states q members said known) 0 16 p p false l (omega arith)) ∙ ap (λ (x : Ports). has x p) (sym e) ∙ h)
    | inr l ↦ let x : true ≡ false = sym h ∙ get_or_past set p false (omega (arith, ap (λ (x : Ports). length x) e)) in cc
  ];
}

abbrev pub share_as : Settings → ℕ → Settings
share_as σ n = record σ { share = n }

pub relays : (σ : Settings) (s : State) (q : ℕ) (frame : Picture) (v : Vlan) (priority : ℕ) (mark : Mark) (set : Ports) → forwards (state_at s q) ≡ true → reserved frame.destination ≡ false
    → set ≡ decided σ s q v frame.destination → flood σ s frame v priority mark set ≡ relay σ s q frame v priority mark
relays σ s q frame v priority mark set f r e = ap (flood σ s frame v priority mark) e ∙ sym (rw (f, r) refl)

pub reserved_out : (σ : Settings) (s : State) (q : ℕ) (frame : Picture) (v : Vlan) (priority : ℕ) (mark : Mark) → forwards (state_at s q) ≡ true → reserved frame.destination ≡ true
    → relay σ s q frame v priority mark ≡ refusing (ReservedDestination mark) s
reserved_out σ s q frame v priority mark f r = rw (f, r) refl
