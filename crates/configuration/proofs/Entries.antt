-- Static entries: where none is for an address, and what those of a database say together.
use Rattle.std.proofs.Common.{◌≡◌, ℕ, ◌<◌, ◌≤◌, ◌+◌, ◌==◌, ◌&&◌, ◌||◌, Bool, true, false, cond, suc, List, [], ◌∷◌, ◌++◌, length, map, drop, set, get_or, slice_index, Some, None, Option, refl, ap, sym, ◌∙◌, inl, inr, arith, add-one, length-drop, get_or-set_same, get_or-set_other}
use Rattle.std.proofs.lemmas.Bool.{cases_Bool, cases_eq, cond-true, cond-false, eq-eqb}
use Rattle.std.proofs.lemmas.List.Folds.{list_any-append}
use Rattle.std.proofs.lemmas.List.{nil_from_length}
use Rattle.std.proofs.Math.Seq.{drop-cons}
use Rattle.std.proofs.lemmas.Slice.Eq.{bytes_eq-Decides}
use Rattle.std.specs.List.{AllByRecursion}
use Rattle.std.specs.Option.{option_or}
use Rattle.std.specs.Str.{bytes_eq}
use Rattle.frame.specs.Address.{group}
use Rattle.rules.specs.Ports.{Ports, ports_where}
use Rattle.rules.specs.Relay.{any_says}
use Rattle.rules.specs.Settings.{Settings, is_filter, is_forward, is_of, says, static_of, verdict_at, vlan_of}
use Rattle.rules.specs.declared.vlans.StaticEntry.{StaticEntry}
use Rattle.rules.specs.declared.vlans.Verdict.{Verdict}
use Rattle.rules.specs.declared.vlans.Vlan.{Vlan}
use Rattle.configuration.specs.Saying.{both_said, said_by, said_for, said_in, said_under, says_at, unsaid}
use Rattle.configuration.specs.Searched.{Alone, Fresh, Searched, is_for}
use Rattle.configuration.specs.declared.row.Row.{Row}
use Rattle.configuration.specs.declared.said.Said.{Said}
use Rattle.configuration.proofs.Searches.{in_turn}

-- two sets are what is said
sets_said : (s : Said) (f g : Ports) → s.forward ≡ f → s.filter ≡ g → s ≡ record { forward = f; filter = g }
sets_said s f g e d = λ i. record { forward = e i; filter = d i }

or_false : (x : Bool) → x || false ≡ x
or_false true = refl
or_false false = refl

-- what was said before, and what some entries say besides that are for the address and under a VID of the database
abbrev pub gathered : List Vlan → ℕ → List ℕ → List StaticEntry → Said → Said
gathered vlans f a [] so = so
gathered vlans f a (e ∷ es) so =
    gathered vlans f a es (cond (bytes_eq e.address a && is_of f (vlan_of vlans e.vid)) (both_said so (said_by e.verdicts)) so)

-- where no entry is for an address, none is found, and nothing is said
apart : (x y : Bool) → x || y ≡ false → (x ≡ false) × (y ≡ false)
apart true y e = cc
apart false y e = (refl, e)

not_both : (x y : Bool) → y ≡ false → x && y ≡ false
not_both true y e = e
not_both false y e = refl

not_all : (x y z : Bool) → x ≡ false → x && y && z ≡ false
not_all x y z e = ap (λ b. b && y && z) e

pub none_found : (es : List StaticEntry) (vid : ℕ) (a : List ℕ) → is_for a es ≡ false → None ≡ static_of es vid a
none_found [] vid a none = refl
none_found (e ∷ es) vid a none =
    let each = apart (bytes_eq e.address a) (is_for a es) none in
    none_found es vid a each.1
    ∙ sym (cond-false (e.vid == vid && bytes_eq e.address a) (Some e) (static_of es vid a) (not_both (e.vid == vid) (bytes_eq e.address a) each.0))

none_says : (is : Verdict → Bool) (σ : Settings) (f : ℕ) (a : List ℕ) (es : List StaticEntry) (p : ℕ) → is_for a es ≡ false → false ≡ any_says is σ es f a p
none_says is σ f a [] p none = refl
none_says is σ f a (e ∷ es) p none =
    let each = apart (bytes_eq e.address a) (is_for a es) none in
    none_says is σ f a es p each.1
    ∙ sym (cond-false (bytes_eq e.address a && is_of f (vlan_of σ.vlans e.vid) && is (verdict_at σ e.vid a p)) true (any_says is σ es f a p) (not_all (bytes_eq e.address a) (is_of f (vlan_of σ.vlans e.vid)) (is (verdict_at σ e.vid a p)) each.0))

-- where every port has the same answer to both tests
same_ports : (f g : ℕ → Bool) → ((p : ℕ) → f p ≡ g p) → ports_where f ≡ ports_where g
same_ports f g h = ap ports_where (λ i p. h p i)

by_group : (σ : Settings) (v : Vlan) (a : List ℕ) (s : Said) → (group a ≡ true → s ≡ said_under σ v.vid a) → (group a ≡ false → s ≡ said_in σ v.fid a) → s ≡ said_for σ v a
by_group σ v a s own all =
    elim (cases_Bool (group a)) [
      | inl yes' ↦ own yes' ∙ sym (cond-true (group a) (said_under σ v.vid a) (said_in σ v.fid a) yes')
      | inr no' ↦ all no' ∙ sym (cond-false (group a) (said_under σ v.vid a) (said_in σ v.fid a) no')
    ]

under_none : (σ : Settings) (vid : ℕ) (a : List ℕ) → None ≡ static_of σ.statics vid a → unsaid ≡ said_under σ vid a
under_none σ vid a none =
    ap (λ (o : Option StaticEntry). record { forward = ports_where (λ p. is_forward (says o p)); filter = ports_where (λ p. is_filter (says o p)) }) none

under_one : (σ : Settings) (vid : ℕ) (a : List ℕ) (e : StaticEntry) → Some e ≡ static_of σ.statics vid a → said_by e.verdicts ≡ said_under σ vid a
under_one σ vid a e one =
    ap (λ (o : Option StaticEntry). record { forward = ports_where (λ p. is_forward (says o p)); filter = ports_where (λ p. is_filter (says o p)) }) one

in_none : (σ : Settings) (f : ℕ) (a : List ℕ) → is_for a σ.statics ≡ false → unsaid ≡ said_in σ f a
in_none σ f a none =
    sets_said unsaid (ports_where (any_says is_forward σ σ.statics f a)) (ports_where (any_says is_filter σ σ.statics f a))
    (same_ports (λ p. false) (any_says is_forward σ σ.statics f a) (λ p. none_says is_forward σ f a σ.statics p none))
    (same_ports (λ p. false) (any_says is_filter σ σ.statics f a) (λ p. none_says is_filter σ f a σ.statics p none))

pub nothing_said : (σ : Settings) (v : Vlan) (a : List ℕ) → is_for a σ.statics ≡ false → unsaid ≡ said_for σ v a
nothing_said σ v a none =
    by_group σ v a unsaid (λ g. under_none σ v.vid a (none_found σ.statics v.vid a none)) (λ g. in_none σ v.fid a none)

pub none_said : (σ : Settings) (v : Vlan) (a : List ℕ) → group a ≡ true → None ≡ static_of σ.statics v.vid a → unsaid ≡ said_for σ v a
none_said σ v a g none = by_group σ v a unsaid (λ _. under_none σ v.vid a none) (λ h. absurd (let e : true ≡ false = sym g ∙ h in cc))

pub own_said : (σ : Settings) (v : Vlan) (a : List ℕ) (e : StaticEntry) (s : Said) → group a ≡ true → Some e ≡ static_of σ.statics v.vid a → s ≡ said_by e.verdicts → s ≡ said_for σ v a
own_said σ v a e s g one by' = by_group σ v a s (λ _. by' ∙ under_one σ v.vid a e one) (λ h. absurd (let d : true ≡ false = sym g ∙ h in cc))

pub all_said : (σ : Settings) (v : Vlan) (a : List ℕ) (s : Said) → group a ≡ false → s ≡ said_in σ v.fid a → s ≡ said_for σ v a
all_said σ v a s g all = by_group σ v a s (λ h. absurd (let e : false ≡ true = sym g ∙ h in cc)) (λ _. all)

-- what the entries of a database say, each for itself, is what the rules ask of each
abbrev sets : (ℕ → Bool) → (ℕ → Bool) → Said
sets g h = record { forward = ports_where g; filter = ports_where h }

abbrev besides : (Verdict → Bool) → Settings → ℕ → List ℕ → List StaticEntry → (ℕ → Bool) → ℕ → Bool
besides is σ f a es g p = g p || any_says is σ es f a p

same_address : (e : StaticEntry) (a : List ℕ) → bytes_eq e.address a ≡ true → e.address ≡ a
same_address e a h = (bytes_eq-Decides e.address a).0 h

own_verdict : (is : Verdict → Bool) (σ : Settings) (e : StaticEntry) (a : List ℕ) (p : ℕ) → Alone σ.statics e → bytes_eq e.address a ≡ true → is (verdict_at σ e.vid a p) ≡ says_at is e.verdicts p
own_verdict is σ e a p alone h =
    ap (λ (b : List ℕ). is (verdict_at σ e.vid b p)) (sym (same_address e a h)) ∙ ap (λ (o : Option StaticEntry). is (says o p)) alone

or_or : (x y z : Bool) → (x || y) || z ≡ x || cond y true z
or_or true y z = refl
or_or false true z = refl
or_or false false z = refl

-- one entry for the address in the database says what its verdicts say
besides_one : (is : Verdict → Bool) (σ : Settings) (f : ℕ) (a : List ℕ) (e : StaticEntry) (es : List StaticEntry) (g : ℕ → Bool) (p : ℕ) → Alone σ.statics e → bytes_eq e.address a ≡ true → is_of f (vlan_of σ.vlans e.vid) ≡ true
    → besides is σ f a es (λ k. g k || says_at is e.verdicts k) p ≡ besides is σ f a (e ∷ es) g p
besides_one is σ f a e es g p alone there here =
    or_or (g p) (says_at is e.verdicts p) (any_says is σ es f a p)
    ∙ ap (λ b. g p || cond b true (any_says is σ es f a p))
    (sym (own_verdict is σ e a p alone there)
    ∙ sym (ap (λ b. b && is (verdict_at σ e.vid a p)) (ap (λ b. b && is_of f (vlan_of σ.vlans e.vid)) there ∙ here)))

-- and any other says nothing
besides_none : (is : Verdict → Bool) (σ : Settings) (f : ℕ) (a : List ℕ) (e : StaticEntry) (es : List StaticEntry) (g : ℕ → Bool) (p : ℕ) → bytes_eq e.address a && is_of f (vlan_of σ.vlans e.vid) ≡ false
    → besides is σ f a es g p ≡ besides is σ f a (e ∷ es) g p
besides_none is σ f a e es g p none =
    ap (λ b. g p || cond (b && is (verdict_at σ e.vid a p)) true (any_says is σ es f a p)) (sym none)

both : (x y : Bool) → x && y ≡ true → (x ≡ true) × (y ≡ true)
both true y e = (refl, e)
both false y e = cc

abbrev so_far : Settings → ℕ → List ℕ → List StaticEntry → (ℕ → Bool) → (ℕ → Bool) → Said
so_far σ f a es g h = sets (besides is_forward σ f a es g) (besides is_filter σ f a es h)

gathers : (σ : Settings) (f : ℕ) (a : List ℕ) (es : List StaticEntry) (g h : ℕ → Bool) → AllByRecursion (Alone σ.statics) es → gathered σ.vlans f a es (sets g h) ≡ so_far σ f a es g h
gathers σ f a [] g h alone =
    sets_said (sets g h) (ports_where (besides is_forward σ f a [] g)) (ports_where (besides is_filter σ f a [] h))
    (same_ports g (besides is_forward σ f a [] g) (λ p. sym (or_false (g p))))
    (same_ports h (besides is_filter σ f a [] h) (λ p. sym (or_false (h p))))
gathers σ f a (e ∷ es) g h alone =
    elim (cases_Bool (bytes_eq e.address a && is_of f (vlan_of σ.vlans e.vid))) [
      | inl yes' ↦
          let parts = both (bytes_eq e.address a) (is_of f (vlan_of σ.vlans e.vid)) yes' in
          let g' : ℕ → Bool = λ p. g p || says_at is_forward e.verdicts p in
          let h' : ℕ → Bool = λ p. h p || says_at is_filter e.verdicts p in
          ap (gathered σ.vlans f a es) (cond-true (bytes_eq e.address a && is_of f (vlan_of σ.vlans e.vid)) (both_said (sets g h) (said_by e.verdicts)) (sets g h) yes')
          ∙ gathers σ f a es g' h' alone.1
          ∙ sets_said (so_far σ f a es g' h') (ports_where (besides is_forward σ f a (e ∷ es) g)) (ports_where (besides is_filter σ f a (e ∷ es) h))
          (same_ports (besides is_forward σ f a es g') (besides is_forward σ f a (e ∷ es) g) (λ p. besides_one is_forward σ f a e es g p alone.0 parts.0 parts.1))
          (same_ports (besides is_filter σ f a es h') (besides is_filter σ f a (e ∷ es) h) (λ p. besides_one is_filter σ f a e es h p alone.0 parts.0 parts.1))
      | inr no' ↦
          ap (gathered σ.vlans f a es) (cond-false (bytes_eq e.address a && is_of f (vlan_of σ.vlans e.vid)) (both_said (sets g h) (said_by e.verdicts)) (sets g h) no')
          ∙ gathers σ f a es g h alone.1
          ∙ sets_said (so_far σ f a es g h) (ports_where (besides is_forward σ f a (e ∷ es) g)) (ports_where (besides is_filter σ f a (e ∷ es) h))
          (same_ports (besides is_forward σ f a es g) (besides is_forward σ f a (e ∷ es) g) (λ p. besides_none is_forward σ f a e es g p no'))
          (same_ports (besides is_filter σ f a es h) (besides is_filter σ f a (e ∷ es) h) (λ p. besides_none is_filter σ f a e es h p no'))
    ]

pub gathered_all : (σ : Settings) (f : ℕ) (a : List ℕ) → AllByRecursion (Alone σ.statics) σ.statics → gathered σ.vlans f a σ.statics unsaid ≡ said_in σ f a
gathered_all σ f a alone = gathers σ f a σ.statics (λ p. false) (λ p. false) alone

-- rows, one after another
abbrev entries : List Row → List StaticEntry
entries rows = map (λ (row : Row). row.entry) rows

pub next_row : (vlans : List Vlan) (f : ℕ) (a : List ℕ) (rows : List Row) (i : ℕ) (row : Row) (so next : Said) → i < length rows → row ≡ get_or rows i row
    → next ≡ cond (bytes_eq row.entry.address a && is_of f (vlan_of vlans row.entry.vid)) (both_said so row.said) so
    → gathered vlans f a (entries (drop (i + 1) rows)) next ≡ gathered vlans f a (entries (drop i rows)) so
next_row vlans f a rows i row so next l here e =
    ap (gathered vlans f a (entries (drop (i + 1) rows))) (e ∙ ap (λ (s : Said). cond (bytes_eq row.entry.address a && is_of f (vlan_of vlans row.entry.vid)) (both_said so s) so) row.agrees)
    ∙ ap (λ (k : ℕ). gathered vlans f a (entries (drop k rows)) (cond (bytes_eq row.entry.address a && is_of f (vlan_of vlans row.entry.vid)) (both_said so (said_by row.entry.verdicts)) so)) (add-one i)
    ∙ ap (λ (r : Row). gathered vlans f a (entries (r ∷ drop (suc i) rows)) so) here
    ∙ ap (λ (rs : List Row). gathered vlans f a (entries rs) so) (sym (drop-cons rows i row l))

pub last_row : (vlans : List Vlan) (f : ℕ) (a : List ℕ) (rows : List Row) (i : ℕ) (so : Said) → length rows ≤ i → gathered vlans f a (entries (drop i rows)) so ≡ so
last_row vlans f a rows i so past =
    ap (λ (rs : List Row). gathered vlans f a (entries rs) so) (nil_from_length (drop i rows) (omega (arith, length-drop i rows)))

-- one entry more
static_of-append : (es ds : List StaticEntry) (vid : ℕ) (a : List ℕ) → static_of (es ++ ds) vid a ≡ option_or (static_of es vid a) (static_of ds vid a)
static_of-append [] ds vid a = refl
static_of-append (e ∷ es) ds vid a =
    in_turn (e.vid == vid && bytes_eq e.address a) e (static_of es vid a) (static_of ds vid a) (static_of-append es ds vid a)

alone_before : (es : List StaticEntry) (e d : StaticEntry) → Alone es d → Alone (es ++ e ∷ []) d
alone_before es e d alone = static_of-append es (e ∷ []) d.vid d.address ∙ ap (λ (o : Option StaticEntry). option_or o (static_of (e ∷ []) d.vid d.address)) alone

alone_last : (es : List StaticEntry) (e : StaticEntry) → static_of es e.vid e.address ≡ None → Alone (es ++ e ∷ []) e
alone_last es e absent =
    static_of-append es (e ∷ []) e.vid e.address ∙ ap (λ (o : Option StaticEntry). option_or o (static_of (e ∷ []) e.vid e.address)) absent
    ∙ cond-true (e.vid == e.vid && bytes_eq e.address e.address) (Some e) None (ap (λ b. b && bytes_eq e.address e.address) (eq-eqb e.vid e.vid refl) ∙ (bytes_eq-Decides e.address e.address).1 refl)

all_alone : (es ds : List StaticEntry) (e : StaticEntry) → AllByRecursion (Alone es) ds → static_of es e.vid e.address ≡ None → AllByRecursion (Alone (es ++ e ∷ [])) (ds ++ e ∷ [])
all_alone es [] e alone absent = (alone_last es e absent, tt)
all_alone es (d ∷ ds) e alone absent = (alone_before es e d alone.0, all_alone es ds e alone.1 absent)

pub none_searched : (endings : List Bool) → Searched endings []
none_searched endings = record { ended = λ a h. cc; alone = tt }

pub one_searched : (endings : List Bool) (es : List StaticEntry) (e : StaticEntry) (ending : ℕ) → Searched endings es → Fresh es e → ending ≡ slice_index e.address 5 → ending < length endings
    → Searched (set endings ending true) (es ++ e ∷ [])
one_searched endings es e ending was may is low =
    record {
      ended = ended;
      alone = all_alone es es e was.alone may.absent;
    }
  where
    at : (k : ℕ) → get_or endings k false ≡ true → get_or (set endings ending true) k false ≡ true
    at k h =
        elim (cases_eq k ending) [
          | inl same ↦ ap (λ (j : ℕ). get_or (set endings ending true) j false) same ∙ get_or-set_same endings ending true false low
          | inr other ↦ get_or-set_other endings ending k true false other ∙ h
        ]

    ended : (a : List ℕ) → is_for a (es ++ e ∷ []) ≡ true → get_or (set endings ending true) (slice_index a 5) false ≡ true
    ended a h =
        elim (cases_Bool (is_for a es)) [
          | inl there ↦ at (slice_index a 5) (was.ended a there)
          | inr absent' ↦
              let this : bytes_eq e.address a ≡ true = sym (or_false (bytes_eq e.address a)) ∙ sym (ap (λ b. b || (bytes_eq e.address a || false)) absent') ∙ sym (list_any-append (λ (d : StaticEntry). bytes_eq d.address a) es (e ∷ [])) ∙ h in
              let same : slice_index a 5 ≡ ending = ap (λ (b : List ℕ). slice_index b 5) (sym (same_address e a this)) ∙ sym is in
              ap (λ (k : ℕ). get_or (set endings ending true) k false) same ∙ get_or-set_same endings ending true false low
        ]
