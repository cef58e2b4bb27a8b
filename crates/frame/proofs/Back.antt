-- Written parts read back as they were.
use Rattle.std.proofs.Common.{◌≡◌, ℕ, ◌+◌, ◌*◌, ◌/◌, ◌%◌, ◌≤◌, true, false, List, ◌++◌, length, get_or, take, drop, Some, None, Ok, Decides, Option, sym, refl, ap, ◌∙◌, append_assoc, arith, length-append}
use Rattle.std.proofs.lemmas.List.{take_at, drop_at, drop-drop, get_or-drop}
use Rattle.std.proofs.lemmas.Bool.{cond-true, true_from_ne_false}
use Rattle.std.proofs.lemmas.Bool.Decides.{nat_tests}
use Rattle.std.proofs.lemmas.Option.{none-some}
use Rattle.fault.proofs.Asked.{answered}
use Rattle.frame.specs.Reading.{Picture, frame_asked, cfi_in, parse, places_of, priority_in, tag_in, tag_word, is_tagged, vid_in}
use Rattle.frame.specs.Writing.{frame_of, readable, shape_asked, size_of, tag_bytes}
use Rattle.frame.specs.declared.parts.Tag.{Tag}

-- what stands after two addresses
module _ (d s r : List ℕ) (hd : length d ≡ 6) (hs : length s ≡ 6) where
  twelve : length (d ++ s) ≡ 12
  twelve = simp length-append (omega arith)

  rest : drop 12 (d ++ (s ++ r)) ≡ r
  rest = ap (λ (x : List ℕ). drop 12 x) (sym (append_assoc d s r)) ∙ drop_at (d ++ s) r 12 twelve

  past : (k : ℕ) → get_or (d ++ (s ++ r)) (12 + k) 0 ≡ get_or r k 0
  past k = sym (get_or-drop 12 (d ++ (s ++ r)) k 0) ∙ ap (λ (x : List ℕ). get_or x k 0) rest

  first : take 6 (d ++ (s ++ r)) ≡ d
  first = take_at d (s ++ r) 6 hd

  second : take 6 (drop 6 (d ++ (s ++ r))) ≡ s
  second = ap (λ (x : List ℕ). take 6 x) (drop_at d (s ++ r) 6 hd) ∙ take_at s r 6 hs

  size : length (d ++ (s ++ r)) ≡ 12 + length r
  size = simp length-append (omega arith)

-- the parts of a frame whose tag and body are known
parts : (f d s : List ℕ) (t : Option Tag) (b : List ℕ) → frame_asked f ≡ None → take 6 f ≡ d → take 6 (drop 6 f) ≡ s → tag_in f ≡ t
    → drop (places_of t).body f ≡ b
    → parse f ≡ Ok (record { destination = d; source = s; tag = t; body = b })
parts f d s t b a ed es et eb = rw a (ap (λ (p : Picture). Ok p) (rw (ed, es, et, eb) refl))

back : (d s : List ℕ) (t : Option Tag) (b : List ℕ) → length d ≡ 6 → length s ≡ 6
    → shape_asked (record { destination = d; source = s; tag = t; body = b }) ≡ None
    → readable (record { destination = d; source = s; tag = t; body = b }) ≡ true
    → parse (d ++ (s ++ (tag_bytes t ++ b))) ≡ Ok (record { destination = d; source = s; tag = t; body = b })
back d s None b hd hs w h =
    let f = d ++ (s ++ b) in
    let z = size d s b hd hs in
    let t0 : get_or f 12 0 ≡ get_or b 0 0 = past d s b hd hs 0 in
    let t1 : get_or f 13 0 ≡ get_or b 1 0 = past d s b hd hs 1 in
    let n : is_tagged f ≡ false = grind (arith, nat_tests) in
    let a : frame_asked f ≡ None = grind (arith, nat_tests) in
    parts f d s None b a (first d s b hd hs) (second d s b hd hs) (rw n refl) (rest d s b hd hs)
back d s (Some t) b hd hs w h =
    let r = tag_bytes (Some t) ++ b in
    let f = d ++ (s ++ r) in
    let z = size d s r hd hs in
    let t0 : get_or f 12 0 ≡ 0x81 = past d s r hd hs 0 in
    let t1 : get_or f 13 0 ≡ 0 = past d s r hd hs 1 in
    let t2 : get_or f 14 0 ≡ (t.priority * 8192 + t.vid) / 256 = past d s r hd hs 2 in
    let t3 : get_or f 15 0 ≡ (t.priority * 8192 + t.vid) % 256 = past d s r hd hs 3 in
    let p : t.priority ≤ 7 = grind (arith, nat_tests) in
    let v : t.vid ≤ 4094 = grind (arith, nat_tests) in
    let n : is_tagged f ≡ true = grind (arith, nat_tests) in
    let word : tag_word f ≡ t.priority * 8192 + t.vid = omega (arith, t2, t3) in
    let a : priority_in (tag_word f) ≡ t.priority = omega (arith, word, v) in
    let c : cfi_in (tag_word f) ≡ 0 = omega (arith, word, v) in
    let i : vid_in (tag_word f) ≡ t.vid = omega (arith, word, v) in
    let g : frame_asked f ≡ None = grind (arith, nat_tests) in
    let e : drop 16 f ≡ b = sym (drop-drop 4 12 f) ∙ ap (λ (x : List ℕ). drop 4 x) (rest d s r hd hs) in
    parts f d s (Some t) b g (first d s r hd hs) (second d s r hd hs) (rw n (rw (a, i) refl)) e

long : (d s : List ℕ) (t : Option Tag) (b : List ℕ) → length d ≡ 6 → length s ≡ 6
    → length (d ++ (s ++ (tag_bytes t ++ b))) ≡ (places_of t).body + length b
long d s None b hd hs = size d s b hd hs
long d s (Some t) b hd hs = size d s (tag_bytes (Some t) ++ b) hd hs ∙ omega arith

-- and parts that are not readable do not
not_back : (d s : List ℕ) (t : Option Tag) (b : List ℕ) → length d ≡ 6 → length s ≡ 6
    → readable (record { destination = d; source = s; tag = t; body = b }) ≡ false
    → parse (d ++ (s ++ (tag_bytes t ++ b))) ≡ Ok (record { destination = d; source = s; tag = t; body = b }) → ⊥
not_back d s (Some t) b hd hs h e =
    let f = d ++ (s ++ (tag_bytes (Some t) ++ b)) in
    let z = long d s (Some t) b hd hs in
    let a : frame_asked f ≡ None = (answered (frame_asked f) _ _ (sym e)).0 in
    grind (arith, nat_tests)
not_back d s None b hd hs h e =
    let f = d ++ (s ++ b) in
    let z = long d s None b hd hs in
    let a = answered (frame_asked f) _ _ (sym e) in
    let t0 : get_or f 12 0 ≡ get_or b 0 0 = past d s b hd hs 0 in
    let t1 : get_or f 13 0 ≡ get_or b 1 0 = past d s b hd hs 1 in
    let n : 60 ≤ length f = grind (arith, nat_tests, a.0) in
    let y : is_tagged f ≡ true = grind (arith, nat_tests) in
    none-some _ (ap (λ (p : Picture). p.tag) a.1 ∙ cond-true (is_tagged f) _ _ y)

-- so they read back exactly if they are readable
pub reads_back : (p : Picture) → length p.destination ≡ 6 → length p.source ≡ 6 → shape_asked p ≡ None → Decides (readable p) (parse (frame_of p) ≡ Ok p)
reads_back p hd hs w = (
  back p.destination p.source p.tag p.body hd hs w,
  λ e. true_from_ne_false (readable p) (λ q. not_back p.destination p.source p.tag p.body hd hs q e),
)

pub size_of_lem : (p : Picture) → length p.destination ≡ 6 → length p.source ≡ 6 → length (frame_of p) ≡ size_of p
size_of_lem p hd hs = long p.destination p.source p.tag p.body hd hs
