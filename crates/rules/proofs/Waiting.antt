-- Which receipts the frames that stand at a port belong to, and which its deliveries pair with.
use Rattle.std.proofs.Common.{◌≡◌, ℕ, ◌<◌, true, false, eqb, List, [], ◌∷◌, ◌++◌, length, Some, Ok, refl, ap, ◌∙◌}
use Rattle.std.specs.List.{slice_get}
use Rattle.std.proofs.lemmas.List.Elements.{All-head, All-tail}
use Rattle.frame.specs.Reading.{Picture}
use Rattle.frame.specs.Writing.{frame_of}
use Rattle.rules.specs.declared.vlans.Vlan.{Vlan}
use Rattle.rules.specs.Egress.{egress_tag}
use Rattle.rules.specs.Ingress.{read_at}
use Rattle.rules.specs.Laws.{Pair}
use Rattle.rules.specs.Steps.{Delivery, Receipt}
use Rattle.rules.specs.Settings.{Settings, is_member, vlan_of}
use Rattle.rules.specs.State.{Queued}
use Rattle.rules.proofs.Order.{Before}

-- the first delivery pairs with the first receipt, the second with the second, and so on
abbrev pub Paired : Settings → ℕ → List Delivery → List Receipt → Type 0
Paired σ p [] rs = Unit {0}
Paired σ p (d ∷ ds) [] = ⊥
Paired σ p (d ∷ ds) (r ∷ rs) = Pair σ p d r × Paired σ p ds rs

-- a frame that stands is the one that a receipt tells of
pub record Awaits (σ : Settings) (p : ℕ) (r : Receipt) (x : Queued) : Type 0 where
  pub elsewhere : eqb r.port p ≡ false
  pub vid : x.vid ≡ r.answer.classified.0
  pub vlan : Vlan
  pub created : vlan_of σ.vlans x.vid ≡ Some vlan
  pub member : is_member vlan p ≡ true
  pub picture : Picture
  pub read : read_at σ r.port r.frame ≡ Ok picture
  pub written :
      x.bytes ≡ frame_of (record picture { tag = egress_tag vlan r.answer.classified.1 p })

pair_of : (σ : Settings) (p : ℕ) (r : Receipt) (x : Queued) (d : Delivery) → Awaits σ p r x → r.at < d.at → d.answer.vid ≡ x.vid → d.bytes ≡ x.bytes → d.answer.length ≡ length d.bytes → Pair σ p d r
pair_of σ p r x d a earlier vid bytes size =
    record {
      earlier = earlier;
      elsewhere = a.elsewhere;
      vid = vid ∙ a.vid;
      vlan = a.vlan;
      created = ap (vlan_of σ.vlans) vid ∙ a.created;
      member = a.member;
      picture = a.picture;
      read = a.read;
      written = bytes ∙ a.written;
      length' = size;
    }

-- deliveries pair with the first receipts, and what stands is what the others tell of
pub data Walk (σ : Settings) (p : ℕ) : List Delivery → List Receipt → List Queued → Type 0 where
  done : Walk σ p [] [] []
  waits : {r : Receipt} {x : Queued} {rs : List Receipt} {q : List Queued} → Awaits σ p r x → Walk σ p [] rs q → Walk σ p [] (r ∷ rs) (x ∷ q)
  pairs : {d : Delivery} {r : Receipt} {ds : List Delivery} {rs : List Receipt} {q : List Queued} → Pair σ p d r → Walk σ p ds rs q → Walk σ p (d ∷ ds) (r ∷ rs) q

pub walk_lay : {σ : Settings} {p : ℕ} (r : Receipt) (x : Queued) → Awaits σ p r x → {ds : List Delivery} {rs : List Receipt} {q : List Queued} → Walk σ p ds rs q → Walk σ p ds (rs ++ (r ∷ [])) (q ++ (x ∷ []))
walk_lay r x a done = waits a done
walk_lay r x a (waits b w) = waits b (walk_lay r x a w)
walk_lay r x a (pairs b w) = pairs b (walk_lay r x a w)

pub walk_hand : {σ : Settings} {p : ℕ} (d : Delivery) (x : Queued) → d.answer.vid ≡ x.vid → d.bytes ≡ x.bytes → d.answer.length ≡ length d.bytes → {ds : List Delivery} {rs : List Receipt} {q : List Queued} → Walk σ p ds rs (x ∷ q) → Before (λ r. r.at) d.at rs → Walk σ p (ds ++ (d ∷ [])) rs q
walk_hand {σ} {p} d x vid bytes size (waits {r = r} {rs = rs} a w) h = pairs (pair_of σ p r x d a (All-head (λ z. z.at < d.at) r rs h) vid bytes size) w
walk_hand d x vid bytes size (pairs {r = r} {rs = rs} b w) h = pairs b (walk_hand d x vid bytes size w (All-tail (λ z. z.at < d.at) r rs h))

pub walk_paired : {σ : Settings} {p : ℕ} {ds : List Delivery} {rs : List Receipt} {q : List Queued} → Walk σ p ds rs q → Paired σ p ds rs
walk_paired done = tt
walk_paired (waits a w) = tt
walk_paired (pairs b w) = (b, walk_paired w)

-- the receipt of the last delivery
pub last_pair : {σ : Settings} {p : ℕ} (ds : List Delivery) (d : Delivery) (rs : List Receipt) → Paired σ p (ds ++ (d ∷ [])) rs → (r : Receipt) × (slice_get rs (length ds) ≡ Some r) × Pair σ p d r
last_pair [] d [] h = absurd h
last_pair [] d (r ∷ rs) h = (r, refl, h.0)
last_pair (x ∷ ds) d [] h = absurd h
last_pair (x ∷ ds) d (r ∷ rs) h = last_pair ds d rs h.1
