-- Bytes laid into a memory: a stretch that was lent, one stretch after another, and what lies there afterwards.
use Rattle.std.proofs.Common.{◌≡◌, ℕ, ◌+◌, ◌≤◌, List, [], ◌++◌, length, take, drop, Some, None, Ok, Err, Option, Result, sym, refl, ap, ◌∙◌, append_assoc, append-nil, arith, length-append, length-drop, length-take}
use mathlib.Core.Path.{subst⁻¹}
use borrow.Rule.Slice.PartMut.{put_mid}
use lib.Seq.{paste}
use Rattle.std.proofs.lemmas.List.Edits.{paste_all, paste-paste}
use Rattle.std.proofs.lemmas.List.{drop_all, drop_at, drop-drop, drop-append-le, length-take-le, take-append-drop, take_at}
use Rattle.std.proofs.lemmas.Slice.{put_mid-paste}
use Rattle.fault.specs.declared.refusal.Refusal.{Refusal}
use Rattle.fault.specs.Asked.{changed}
use Rattle.frame.specs.Reading.{places_of}
use Rattle.frame.specs.Writing.{put_at, tag_bytes}
use Rattle.frame.specs.declared.parts.Places.{Places}
use Rattle.frame.specs.declared.parts.Tag.{Tag}

-- a stretch was lent, and holds zs now
pub lent : (a k : ℕ) (xs ys zs : List ℕ) → ys ≡ zs → length zs ≡ k → put_mid a k xs ys ≡ put_at xs a zs
lent a k xs ys zs e h = put_mid-paste a k xs ys zs (length zs) e h refl ∙ paste_all xs a zs (length zs) refl

-- one piece right after another is both pieces
after_length : (m : List ℕ) (at : ℕ) (s t : List ℕ) → at ≤ length m → put_at (put_at m at s) (at + length s) t ≡ put_at m at (s ++ t)
after_length m at s t h =
    sym (paste_all (put_at m at s) (at + length s) t (length t) refl)
    ∙ ap (λ (x : List ℕ). paste x (at + length s) t (length t)) (sym (paste_all m at s (length s) refl))
    ∙ paste-paste m at s t (length s) (length t) refl refl h
    ∙ paste_all m at (s ++ t) (length s + length t) (sym (length-append s t))
    ∙ ap (λ (n : ℕ). take at m ++ ((s ++ t) ++ drop (at + n) m)) (sym (length-append s t))

-- where the pieces so far are n bytes from the front
next : (m s t m1 m2 : List ℕ) (n : ℕ) → length s ≡ n → m1 ≡ put_at m 0 s → m2 ≡ put_at m1 n t → m2 ≡ put_at m 0 (s ++ t)
next m s t m1 m2 n h e1 e2 =
    let k : n ≡ 0 + length s = omega arith in
    let z : 0 ≤ length m = omega arith in
    let j = after_length m 0 s t z in
    rw (e2, e1) (subst⁻¹ (λ (i : ℕ). put_at (put_at m 0 s) i t ≡ put_at m 0 (s ++ t)) k j)

-- pieces that fill the memory are all that it holds
whole : (m f : List ℕ) → length f ≡ length m → put_at m 0 f ≡ f
whole m f e =
    ap (λ (x : List ℕ). f ++ x) (drop_all (0 + length f) m (omega arith)) ∙ append-nil f

-- two addresses, a tag's bytes and a body, laid one after another where they fill the memory
filled : (m d s t b m1 m2 m3 m4 : List ℕ) (k : ℕ) → length d ≡ 6 → length s ≡ 6 → 12 + length t ≡ k → length m ≡ k + length b
    → m1 ≡ put_at m 0 d → m2 ≡ put_at m1 6 s → m3 ≡ put_at m2 12 t → m4 ≡ put_at m3 k b → m4 ≡ d ++ (s ++ (t ++ b))
filled m d s t b m1 m2 m3 m4 k hd hs ht hm e1 e2 e3 e4 =
    let two = next m d s m1 m2 6 hd e1 e2 in
    let three = next m (d ++ s) t m2 m3 12 (simp length-append (omega arith)) two e3 in
    let four = next m ((d ++ s) ++ t) b m3 m4 k (simp length-append (omega arith)) three e4 in
    four ∙ whole m (((d ++ s) ++ t) ++ b) (simp length-append (omega arith)) ∙ simp append_assoc

-- the same where each part lies at its place
pub parts : (m d s : List ℕ) (t : Option Tag) (b m1 m2 m3 m4 : List ℕ) (p : Places) → p ≡ places_of t → length d ≡ 6 → length s ≡ 6
    → length m ≡ (places_of t).body + length b
    → m1 ≡ put_at m p.destination d → m2 ≡ put_at m1 p.source s → m3 ≡ put_at m2 12 (tag_bytes t) → m4 ≡ put_at m3 p.body b
    → m4 ≡ d ++ (s ++ (tag_bytes t ++ b))
parts m d s None b m1 m2 m3 m4 p e hd hs hm e1 e2 e3 e4 =
    filled m d s [] b m1 m2 m3 m4 12 hd hs refl hm (rw e at e1) (rw e at e2) e3 (rw e at e4)
parts m d s (Some t) b m1 m2 m3 m4 p e hd hs hm e1 e2 e3 e4 =
    filled m d s (tag_bytes (Some t)) b m1 m2 m3 m4 16 hd hs refl hm (rw e at e1) (rw e at e2) e3 (rw e at e4)

-- what was laid at a place is what stands there
pub stands : (m : List ℕ) (at : ℕ) (f : List ℕ) (n : ℕ) → at ≤ length m → length f ≡ n → take n (drop at (put_at m at f)) ≡ f
stands m at f n h e =
    ap (λ (x : List ℕ). take n x) (drop_at (take at m) (f ++ drop (at + length f) m) at (length-take-le at m h)) ∙ take_at f (drop (at + length f) m) n e

-- a cell in the middle of the memory, in which a frame was written or not
pub cell : (r : Result ℕ Refusal) (m f : List ℕ) (a k : ℕ) → ((n : ℕ) → r ≡ Ok n → length f ≤ k) → a + k ≤ length m
    → put_mid a k m (changed r (take k (drop a m)) (put_at (take k (drop a m)) 0 f)) ≡ changed r m (put_at m a f)
cell (Err e) m f a k h i = ap (λ (x : List ℕ). take a m ++ x) (take-append-drop k (drop a m)) ∙ take-append-drop a m
cell (Ok n) m f a k h i =
    let l : length (take k (drop a m)) ≡ k = simp (length-take, length-drop) (omega arith) in
    let j = h n refl in
    let e : drop (0 + length f) (take k (drop a m)) ++ drop k (drop a m) ≡ drop (a + length f) m =
    sym (drop-append-le (0 + length f) (take k (drop a m)) (drop k (drop a m)) (omega arith))
    ∙ ap (λ (x : List ℕ). drop (0 + length f) x) (take-append-drop k (drop a m)) ∙ ap (λ (n : ℕ). drop n (drop a m)) (omega arith)
    ∙ drop-drop (length f) a m in
    ap (λ (x : List ℕ). take a m ++ x) (append_assoc f (drop (0 + length f) (take k (drop a m))) (drop k (drop a m)) ∙ ap (λ (x : List ℕ). f ++ x) e)
