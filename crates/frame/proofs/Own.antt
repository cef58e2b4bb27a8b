-- A frame that is read has its own bytes again when its parts are written.
use Rattle.std.proofs.Common.{◌≡◌, ℕ, ◌+◌, ◌*◌, ◌/◌, ◌%◌, ◌<◌, ◌≤◌, Bool, true, false, List, ◌∷◌, ◌++◌, length, get_or, take, drop, None, Ok, sym, refl, ap, ◌∙◌, arith, length-drop, drop-cons}
use Rattle.std.proofs.lemmas.List.{drop-drop, take-append-drop}
use Rattle.std.proofs.lemmas.Bool.{le-leb}
use Rattle.std.proofs.lemmas.Bool.Decides.{nat_tests}
use Rattle.frame.specs.Reading.{Picture, frame_asked, cfi_in, parts_of, places_of, priority_in, tag_in, tag_word, is_tagged, vid_in}
use Rattle.frame.specs.Writing.{OwnBytes, frame_of, longest, shape_asked, size_of, tag_bytes, tag_fits}

-- the four bytes of a tag, and what follows
four : (f : List ℕ) → 16 ≤ length f → drop 12 f ≡ get_or f 12 0 ∷ get_or f 13 0 ∷ get_or f 14 0 ∷ get_or f 15 0 ∷ drop 16 f
four f h =
    drop-cons f 12 0 (omega arith)
    ∙ ap (λ (x : List ℕ). get_or f 12 0 ∷ x) (drop-cons f 13 0 (omega arith)
    ∙ ap (λ (x : List ℕ). get_or f 13 0 ∷ x) (drop-cons f 14 0 (omega arith)
    ∙ ap (λ (x : List ℕ). get_or f 14 0 ∷ x) (drop-cons f 15 0 (omega arith))))

-- two addresses and the rest
rejoin : (f r : List ℕ) → drop 12 f ≡ r → take 6 f ++ (take 6 (drop 6 f) ++ r) ≡ f
rejoin f r e =
    ap (λ (x : List ℕ). take 6 f ++ (take 6 (drop 6 f) ++ x)) (sym e ∙ sym (drop-drop 6 6 f))
    ∙ ap (λ (x : List ℕ). take 6 f ++ x) (take-append-drop 6 (drop 6 f)) ∙ take-append-drop 6 f

-- the questions of writing, for parts of the right shape
asks : (n : ℕ) (p : Picture) → tag_fits p.tag ≡ true → size_of p ≡ n → 56 ≤ n → n ≤ longest p.tag → shape_asked p ≡ None
asks n p t e low' high' = let l = le-leb 56 n low' in let h = le-leb n (longest p.tag) high' in rw (t, e, l, h) refl

module _ (f : List ℕ) (yes' : frame_asked f ≡ None) (bytes : (i : ℕ) → get_or f i 0 < 256) where
  rest : (b : Bool) → is_tagged f ≡ b → drop 12 f ≡ tag_bytes (tag_in f) ++ drop (places_of (tag_in f)).body f
  rest false e = rw e refl
  rest true e =
      let n : 16 ≤ length f = grind (arith, nat_tests) in
      let z : cfi_in (tag_word f) ≡ 0 = grind (arith, nat_tests) in
      let a : get_or f 12 0 ≡ 0x81 = grind (arith, nat_tests) in
      let b : get_or f 13 0 ≡ 0 = grind (arith, nat_tests) in
      let w : priority_in (tag_word f) * 8192 + vid_in (tag_word f) ≡ tag_word f = omega arith in
      let h : tag_word f / 256 ≡ get_or f 14 0 = omega (arith, bytes 15) in
      let l : tag_word f % 256 ≡ get_or f 15 0 = omega (arith, bytes 15) in
      four f n ∙ rw e (rw (a, b, w, h, l) refl)

  own : frame_of (parts_of f) ≡ f
  own = rejoin f (tag_bytes (tag_in f) ++ drop (places_of (tag_in f)).body f) (rest (is_tagged f) refl)

  same_size : size_of (parts_of f) ≡ length f
  same_size = at (is_tagged f) refl
    where
      at : (b : Bool) → is_tagged f ≡ b → size_of (parts_of f) ≡ length f
      at false e = let n : 60 ≤ length f = grind (arith, nat_tests) in rw e (simp length-drop (omega arith))
      at true e = let n : 60 ≤ length f = grind (arith, nat_tests) in rw e (simp length-drop (omega arith))

  fits : (b : Bool) → is_tagged f ≡ b → tag_fits (tag_in f) ≡ true
  fits false e = rw e refl
  fits true e =
      let h = bytes 14 in
      let l = bytes 15 in
      let v : vid_in (tag_word f) ≤ 4094 = grind (arith, nat_tests) in
      let p : priority_in (tag_word f) ≤ 7 = omega arith in
      let lp = le-leb (priority_in (tag_word f)) 7 p in
      let lv = le-leb (vid_in (tag_word f)) 4094 v in
      rw e (rw (lp, lv) refl)

  short : (b : Bool) → is_tagged f ≡ b → length f ≤ longest (tag_in f)
  short false e = rw e (grind (arith, nat_tests))
  short true e = rw e (grind (arith, nat_tests))

  shape : shape_asked (parts_of f) ≡ None
  shape =
      let n : 56 ≤ length f = grind (arith, nat_tests) in
      asks (length f) (parts_of f) (fits (is_tagged f) refl) same_size n (short (is_tagged f) refl)

  pub own_bytes : OwnBytes f (Ok (parts_of f))
  own_bytes = (own, same_size, shape)
