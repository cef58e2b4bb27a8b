-- Cells of the memory, slots of a queue, and what a write to one leaves.
use Rattle.std.proofs.Common.{◌≡◌, ℕ, zero, suc, ◌+◌, ◌-◌, ◌*◌, ◌/◌, ◌%◌, ◌<◌, ◌≤◌, ◌≢◌, List, [], ◌∷◌, ◌++◌, map, length, get_or, take, drop, set, sym, refl, ap, ◌∙◌, subst, ⊎_elim, add_assoc, add-zero, mod-lt, mul-le-mul_left, mul-one, mul-add, arith, length-take}
use native.Mathlib.Nat.{mod-add-mod, div-add-mod}
use Rattle.std.proofs.Math.Nat.{mod_self, add-mod_right, mod-eq_of_lt}
use lib.Arith.{digits_div, digits_mod}
use Rattle.std.specs.List.{range_with_len}
use Rattle.std.proofs.lemmas.List.{drop-drop, drop-take, take-append-le, get_or-set_same, get_or-set_other, take-take, take_at, drop_at, length-take-le}
use Rattle.std.proofs.lemmas.Slice.{drop-put_mid}
use Rattle.std.proofs.lemmas.List.FromFn.{map-range_with_len_more, length-map-range_with_len}
use Rattle.std.proofs.lemmas.Bool.{cases_lt}
use Rattle.frame.specs.Writing.{put_at}
use Rattle.rules.specs.State.{Queued}
use Rattle.queues.specs.declared.label.Label.{Label}
use Rattle.queues.specs.declared.ring.Ring.{Ring}
use Rattle.queues.specs.Rings.{no_label, oldest}
use Rattle.queues.specs.Standing.{cell, frame_at, frames_of}

put-past : (m f : List ℕ) (a n : ℕ) → a + length f ≤ n → a ≤ length m → drop n (put_at m a f) ≡ drop n m
put-past m f a n h l =
    ap (λ (z : List ℕ). drop n (take a m ++ (f ++ z))) (sym (drop-drop (length f) a m)) ∙ drop-put_mid a (length f) m f n h l refl

put-before : (m f : List ℕ) (a n : ℕ) → n ≤ a → a ≤ length m → take n (put_at m a f) ≡ take n m
put-before m f a n h l = take-append-le n (take a m) _ (simp length-take (omega arith)) ∙ take-take n a m h

-- a write to one cell leaves the others
pub cell_other : (m f : List ℕ) (i j : ℕ) → length f ≤ 1518 → 1518 * j + 1518 ≤ length m → i ≢ j → cell (put_at m (1518 * j) f) i ≡ cell m i
cell_other m f i j h l ne =
    ⊎_elim (λ (lt : i < j). sym (drop-take (1518 * i) 1518 _) ∙ ap (drop (1518 * i)) (put-before m f (1518 * j) (1518 * i + 1518) (omega arith) (omega arith)) ∙ drop-take (1518 * i) 1518 m)
    (λ (le : j ≤ i). ap (take 1518) (put-past m f (1518 * j) (1518 * i) (let lt : j < i = omega (arith, ne) in omega arith) (omega arith)))
    (cases_lt i j)

-- and puts its bytes into that one
pub cell_same : (m f : List ℕ) (j : ℕ) → length f ≤ 1518 → 1518 * j + 1518 ≤ length m → take (length f) (cell (put_at m (1518 * j) f) j) ≡ f
cell_same m f j h l =
    let e : length (take (1518 * j) m) ≡ 1518 * j = length-take-le (1518 * j) m (omega arith) in
    take-take (length f) 1518 _ h ∙ ap (take (length f)) (drop_at (take (1518 * j) m) _ (1518 * j) e) ∙ take_at f _ (length f) refl

-- two turns less than a round apart have different slots
pub turns-apart : (d k n : ℕ) → 0 < d → k < n → n < k + d → k % d ≡ n % d → ⊥
turns-apart d k n h l u e =
    let x = k / d in
    let y = n / d in
    let ek = div-add-mod k d in
    let en = div-add-mod n d in
    ⊎_elim (λ (lt : x < y). omega (arith, mul-le-mul_left d lt, mul-add d x 1, mul-one d))
    (λ (le : y ≤ x). omega (arith, mul-le-mul_left d le))
    (cases_lt x y)

-- the slots of different queues are different cells
pub cells-apart : (d p q s t : ℕ) → s < d → t < d → p * d + s ≡ q * d + t → (p ≡ q) × (s ≡ t)
cells-apart d p q s t hs ht e =
    (sym (digits_div p hs) ∙ ap (λ (x : ℕ). x / d) e ∙ digits_div q ht, sym (digits_mod p hs) ∙ ap (λ (x : ℕ). x % d) e ∙ digits_mod q ht)

pub map_same : {X : Type 0} (f g : ℕ → X) (a n : ℕ) → ((k : ℕ) → a ≤ k → k < a + n → f k ≡ g k) → map f (range_with_len a n) ≡ map g (range_with_len a n)
map_same f g a zero h = refl
map_same f g a (suc n) h =
    let x : f a ≡ g a = h a (omega arith) (omega arith) in
    let r = map_same f g (a + 1) n (λ k l u. h k (omega arith) (omega arith)) in
    cc

-- a write of a label and its bytes leaves the frames of the other cells
pub frame-other : (rs : List Label) (x : Label) (m f : List ℕ) (i j : ℕ) → length f ≤ 1518 → 1518 * j + 1518 ≤ length m → i ≢ j → frame_at (set rs j x) (put_at m (1518 * j) f) i ≡ frame_at rs m i
unfolding frame_at
frame-other rs x m f i j h l ne =
    let r : get_or (set rs j x) i no_label ≡ get_or rs i no_label = get_or-set_other rs j i x no_label ne in
    let e = cell_other m f i j h l ne in
    cc

pub frame_same : (rs : List Label) (x : Label) (m f : List ℕ) (j : ℕ) → length f ≤ 1518 → 1518 * j + 1518 ≤ length m → j < length rs → x.length ≡ length f → frame_at (set rs j x) (put_at m (1518 * j) f) j ≡ record { vid = x.vid; bytes = f }
unfolding frame_at
frame_same rs x m f j h l u s =
    let r : get_or (set rs j x) j no_label ≡ x = get_or-set_same rs j x no_label u in
    let e = cell_same m f j h l in
    cc

map-shift : {X : Type 0} (f : ℕ → X) (a b n : ℕ) → ((k : ℕ) → f (a + k) ≡ f (b + k)) → map f (range_with_len a n) ≡ map f (range_with_len b n)
map-shift f a b zero h = refl
map-shift f a b (suc n) h =
    let x : f a ≡ f b = simp add-zero at (h 0) in
    let r = map-shift f (a + 1) (b + 1) n (λ k. ap f (add_assoc a 1 k) ∙ h (1 + k) ∙ ap f (sym (add_assoc b 1 k))) in
    cc

-- laying moves the oldest frame's turn by whole rounds
oldest_laid : (d : ℕ) (g y : Ring) → g.next < d → g.count < d → y.next ≡ (g.next + 1) % d → y.count ≡ g.count + 1 → oldest d y % d ≡ oldest d g % d
oldest_laid d g y n c yn yc =
    ⊎_elim (λ (lt : g.next + 1 < d).
    let e : (g.next + 1) % d ≡ g.next + 1 = mod-eq_of_lt lt in
    let z : oldest d y ≡ oldest d g = omega arith in ap (λ (k : ℕ). k % d) z)
    (λ (le : d ≤ g.next + 1).
    let s : g.next + 1 ≡ d = omega arith in
    let e : (g.next + 1) % d ≡ 0 = rw s (mod_self d) in
    let z : oldest d g ≡ oldest d y + d = omega arith in
    sym (ap (λ (k : ℕ). k % d) z ∙ add-mod_right (oldest d y) d))
    (cases_lt (g.next + 1) d)

-- a frame is laid into the next slot
pub frames_laid : (d : ℕ) (g y : Ring) (rs : List Label) (x : Label) (m f : List ℕ) (q j : ℕ) → g.next < d → g.count < d → length f ≤ 1518 → 1518 * j + 1518 ≤ length m → j < length rs → x.length ≡ length f → j ≡ q * d + g.next → y.next ≡ (g.next + 1) % d → y.count ≡ g.count + 1
    → frames_of d y (set rs j x) (put_at m (1518 * j) f) q ≡ frames_of d g rs m q ++ (record { vid = x.vid; bytes = f } ∷ [])
unfolding frames_of
frames_laid d g y rs x m f q j p c h l u s e yf yc =
    let F : ℕ → Queued = λ k. frame_at (set rs j x) (put_at m (1518 * j) f) (q * d + k % d) in
    let G : ℕ → Queued = λ k. frame_at rs m (q * d + k % d) in
    let a = oldest d g in
    let last : a + g.count ≡ g.next + d = omega arith in
    let turn : (a + g.count) % d ≡ g.next = ap (λ (k : ℕ). k % d) last ∙ add-mod_right g.next d ∙ mod-eq_of_lt p in
    let n = map-range_with_len_more F a g.count (a + g.count) refl in
    let o : map F (range_with_len a g.count) ≡ map G (range_with_len a g.count) =
    map_same F G a g.count (λ k lo hi. frame-other rs x m f (q * d + k % d) j h l (λ same. turns-apart d k (a + g.count) (omega arith) hi (omega arith) (cells-apart d q q _ _ (mod-lt k (omega arith)) (mod-lt (a + g.count) (omega arith)) (same ∙ e ∙ ap (λ (t : ℕ). q * d + t) (sym turn))).1)) in
    let w : F (a + g.count) ≡ record { vid = x.vid; bytes = f } =
    subst (λ (i : ℕ). frame_at (set rs j x) (put_at m (1518 * j) f) i ≡ record { vid = x.vid; bytes = f }) (e ∙ ap (λ (t : ℕ). q * d + t) (sym turn)) (frame_same rs x m f j h l u s) in
    let v : map F (range_with_len (oldest d y) (g.count + 1)) ≡ map F (range_with_len a (g.count + 1)) =
    map-shift F (oldest d y) a (g.count + 1) (λ k. ap (λ (t : ℕ). frame_at (set rs j x) (put_at m (1518 * j) f) (q * d + t)) (sym (mod-add-mod (oldest d y) d k) ∙ ap (λ (t : ℕ). (t + k) % d) (oldest_laid d g y p c yf yc) ∙ mod-add-mod a d k)) in
    let z : map F (range_with_len (oldest d y) y.count) ≡ map F (range_with_len (oldest d y) (g.count + 1)) = rw yc refl in
    z ∙ v ∙ n ∙ cc

-- and the other queues stay
pub frames_other : (d : ℕ) (g : Ring) (rs : List Label) (x : Label) (m f : List ℕ) (i q s j : ℕ) → 0 < d → s < d → length f ≤ 1518 → 1518 * j + 1518 ≤ length m → j ≡ q * d + s → i ≢ q → frames_of d g (set rs j x) (put_at m (1518 * j) f) i ≡ frames_of d g rs m i
unfolding frames_of
frames_other d g rs x m f i q s j p sd h l e ne =
    map_same _ _ (oldest d g) g.count (λ k lo hi. frame-other rs x m f (i * d + k % d) j h l (λ same. ne (cells-apart d i q _ s (mod-lt k p) sd (same ∙ e)).0))

-- the oldest frame goes, and the rest stays
pub frames_taken : (d : ℕ) (g y : Ring) (rs : List Label) (m : List ℕ) (q : ℕ) → 0 < g.count → g.count ≤ d → y.next ≡ g.next → y.count ≡ g.count - 1
    → frames_of d g rs m q ≡ frame_at rs m (q * d + oldest d g % d) ∷ frames_of d y rs m q
unfolding frames_of
frames_taken d g y rs m q p l yf yc =
    let F : ℕ → Queued = λ k. frame_at rs m (q * d + k % d) in
    let e : g.count ≡ suc (g.count - 1) = omega arith in
    let a : map F (range_with_len (oldest d g) g.count) ≡ map F (range_with_len (oldest d g) (suc (g.count - 1))) = ap (λ (n : ℕ). map F (range_with_len (oldest d g) n)) e in
    let s : oldest d g + 1 ≡ oldest d y = omega arith in
    a ∙ ap (λ (z : List Queued). F (oldest d g) ∷ z) (rw (s, yc) refl)

pub frames_empty : (d : ℕ) (y : Ring) (rs : List Label) (m : List ℕ) (q : ℕ) → y.count ≡ 0 → frames_of d y rs m q ≡ []
unfolding frames_of
frames_empty d y rs m q e = rw e refl

pub length_frames : (d : ℕ) (g : Ring) (rs : List Label) (m : List ℕ) (q : ℕ) → length (frames_of d g rs m q) ≡ g.count
unfolding frames_of
length_frames d g rs m q = length-map-range_with_len _ _ _
