-- Two bridges that are set up alike for a filtering database: its VLANs and what static entries say
-- for it are the same.
use Rattle.std.proofs.Common.{◌≡◌, ℕ, Bool, true, false, cond, ◌&&◌, eqb, List, [], ◌∷◌, Some, None, Option, sym, refl, ap, ◌∙◌}
use Rattle.std.proofs.lemmas.Bool.{true≢false, and_parts, and_from, cond_both, eqb-true}
use Rattle.std.proofs.lemmas.Option.{none-some, same_Some}
use Rattle.std.specs.Cmp.{both_ways}
use Rattle.std.specs.Str.{bytes_eq}
use Rattle.rules.specs.declared.vlans.StaticEntry.{StaticEntry}
use Rattle.rules.specs.declared.vlans.Verdict.{Verdict}
use Rattle.rules.specs.declared.vlans.Verdict.TheVariants.{Silent}
use Rattle.rules.specs.declared.vlans.Vlan.{Vlan}
use Rattle.rules.specs.Laws.{Alike, of_database}
use Rattle.rules.specs.Relay.{any_says}
use Rattle.rules.specs.Settings.{Settings, is_of, says, static_of, verdict_at, vlan_of}

-- the VLANs of the database

of_is : (f : ℕ) (v : Vlan) (b : Bool) → eqb v.fid f ≡ b → is_of f (cond b (Some v) None) ≡ b
of_is f v true h = h
of_is f v false h = refl

is_of_lem : (f : ℕ) (o : Option Vlan) → is_of f (of_database f o) ≡ is_of f o
is_of_lem f None = refl
is_of_lem f (Some v) = of_is f v (eqb v.fid f) refl

own_vlan : (f : ℕ) (o : Option Vlan) → is_of f o ≡ true → of_database f o ≡ o
own_vlan f None h = refl
own_vlan f (Some v) h = ap (λ b. cond b (Some v) None) h

pub same_of : (f : ℕ) (o p : Option Vlan) → of_database f o ≡ of_database f p → is_of f o ≡ is_of f p
same_of f o p h = sym (is_of_lem f o) ∙ ap (is_of f) h ∙ is_of_lem f p

pub same_vlan : (f : ℕ) (o p : Option Vlan) → of_database f o ≡ of_database f p → is_of f o ≡ true → o ≡ p
same_vlan f o p h k = sym (own_vlan f o k) ∙ h ∙ own_vlan f p (sym (same_of f o p h) ∙ k)

-- the VLAN that is found for a VID has it
found_vid : (vs : List Vlan) (vid : ℕ) (v : Vlan) → vlan_of vs vid ≡ Some v → v.vid ≡ vid
found_vid [] vid v h = absurd (none-some v h)
found_vid (x ∷ vs) vid v h = go (found_vid vs vid v) (eqb x.vid vid) refl h
  where
    go : (vlan_of vs vid ≡ Some v → v.vid ≡ vid) → (b : Bool) → eqb x.vid vid ≡ b → cond b (Some x) (vlan_of vs vid) ≡ Some v → v.vid ≡ vid
    go ih true q k = ap (λ y. y.vid) (sym (same_Some x v k)) ∙ eqb-true x.vid vid q
    go ih false q k = ih k

pub found_again : (vs : List Vlan) (vid : ℕ) (v : Vlan) → vlan_of vs vid ≡ Some v → vlan_of vs v.vid ≡ Some v
found_again vs vid v h = ap (vlan_of vs) (found_vid vs vid v h) ∙ h

-- static entries

pub flipped : {f : ℕ} {σ τ : Settings} → Alike f σ τ → Alike f τ σ
flipped {f} {σ} {τ} a =
    record {
      ports = sym a.ports;
      classes = sym a.classes;
      depth = sym a.depth;
      share = sym a.share;
      ageing = sym a.ageing;
      port = sym a.port;
      vlans = λ vid. sym (a.vlans vid);
      statics = λ vid b h. sym (a.statics vid b (same_of f (vlan_of σ.vlans vid) (vlan_of τ.vlans vid) (a.vlans vid) ∙ h));
    }

pub verdict_same : {f : ℕ} {σ τ : Settings} → Alike f σ τ → (vid : ℕ) (a : List ℕ) (p : ℕ) → is_of f (vlan_of σ.vlans vid) ≡ true → verdict_at σ vid a p ≡ verdict_at τ vid a p
verdict_same s vid a p h = ap (λ o. says o p) (s.statics vid a h)

-- a VID of the database whose static entry says it
pub record Said (is : Verdict → Bool) (σ : Settings) (f : ℕ) (a : List ℕ) (p : ℕ) : Type 0 where
  pub vid : ℕ
  pub own : is_of f (vlan_of σ.vlans vid) ≡ true
  pub says' : is (verdict_at σ vid a p) ≡ true

pub said : (is : Verdict → Bool) (σ : Settings) (f : ℕ) (a : List ℕ) (p : ℕ) (es : List StaticEntry) → any_says is σ es f a p ≡ true → Said is σ f a p
said is σ f a p [] h = absurd (true≢false (sym h))
said is σ f a p (e ∷ es) h =
    go (said is σ f a p es) (bytes_eq e.address a && is_of f (vlan_of σ.vlans e.vid) && is (verdict_at σ e.vid a p)) refl h
  where
    go : (any_says is σ es f a p ≡ true → Said is σ f a p) → (b : Bool) → bytes_eq e.address a && is_of f (vlan_of σ.vlans e.vid) && is (verdict_at σ e.vid a p) ≡ b → cond b true (any_says is σ es f a p) ≡ true → Said is σ f a p
    go ih true q k =
        let x = and_parts (bytes_eq e.address a && is_of f (vlan_of σ.vlans e.vid)) (is (verdict_at σ e.vid a p)) q in
        let y = and_parts (bytes_eq e.address a) (is_of f (vlan_of σ.vlans e.vid)) x.0 in
        record { vid = e.vid; own = y.1; says' = x.1 }
    go ih false q k = ih k

says_any : (is : Verdict → Bool) (σ : Settings) (f : ℕ) (a : List ℕ) (p : ℕ) (x : StaticEntry) (w : Said is σ f a p) (es : List StaticEntry) → static_of es w.vid a ≡ Some x → any_says is σ es f a p ≡ true
says_any is σ f a p x w [] h = absurd (none-some x h)
says_any is σ f a p x w (e ∷ es) h = go (says_any is σ f a p x w es) (eqb e.vid w.vid && bytes_eq e.address a) refl h
  where
    test : ℕ → Bool
    test vid = bytes_eq e.address a && is_of f (vlan_of σ.vlans vid) && is (verdict_at σ vid a p)

    go : (static_of es w.vid a ≡ Some x → any_says is σ es f a p ≡ true) → (b : Bool) → eqb e.vid w.vid && bytes_eq e.address a ≡ b → cond b (Some e) (static_of es w.vid a) ≡ Some x → cond (test e.vid) true (any_says is σ es f a p) ≡ true
    go ih true q k =
        let y = and_parts (eqb e.vid w.vid) (bytes_eq e.address a) q in
        let t : test w.vid ≡ true = and_from (bytes_eq e.address a && is_of f (vlan_of σ.vlans w.vid)) (is (verdict_at σ w.vid a p)) (and_from (bytes_eq e.address a) (is_of f (vlan_of σ.vlans w.vid)) y.1 w.own) w.says' in
        ap (λ b. cond b true (any_says is σ es f a p)) (ap test (eqb-true e.vid w.vid y.0) ∙ t)
    go ih false q k = cond_both (test e.vid) true _ (λ x. x ≡ true) (λ _. refl) (λ _. ih k)

-- where nothing is said there is nothing to find, so that the look-up of a VID that says it finds an entry
pub any_from : (is : Verdict → Bool) (σ : Settings) (f : ℕ) (a : List ℕ) (p : ℕ) → is Silent ≡ false → Said is σ f a p → any_says is σ σ.statics f a p ≡ true
any_from is σ f a p n w = go (static_of σ.statics w.vid a) refl w.says'
  where
    go : (o : Option StaticEntry) → static_of σ.statics w.vid a ≡ o → is (says o p) ≡ true → any_says is σ σ.statics f a p ≡ true
    go None q k = absurd (true≢false (sym k ∙ n))
    go (Some x) q k = says_any is σ f a p x w σ.statics q

any_over : (is : Verdict → Bool) {f : ℕ} {σ τ : Settings} → Alike f σ τ → (a : List ℕ) (p : ℕ) → is Silent ≡ false → any_says is σ σ.statics f a p ≡ true → any_says is τ τ.statics f a p ≡ true
any_over is {f} {σ} {τ} s a p n h =
    let w = said is σ f a p σ.statics h in
    any_from is τ f a p n
    (record {
      vid = w.vid;
      own = sym (same_of f (vlan_of σ.vlans w.vid) (vlan_of τ.vlans w.vid) (s.vlans w.vid)) ∙ w.own;
      says' = ap is (sym (verdict_same s w.vid a p w.own)) ∙ w.says';
    })

pub any_same : (is : Verdict → Bool) {f : ℕ} {σ τ : Settings} → Alike f σ τ → (a : List ℕ) (p : ℕ) → is Silent ≡ false → any_says is σ σ.statics f a p ≡ any_says is τ τ.statics f a p
any_same is s a p n = both_ways _ _ (any_over is s a p n) (any_over is (flipped s) a p n)
