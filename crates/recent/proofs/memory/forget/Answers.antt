use Rattle.std.proofs.Common.{◌≡◌, Bool, false, cond, Some, None, Option, get_or, set, sym, ap, ◌∙◌, arith, map}
use Rattle.std.specs.Option.{MatchOption}
use Rattle.std.proofs.lemmas.List.{get_or_default}
use Rattle.std.proofs.lemmas.List.Edits.{map_over_more}
use Rattle.std.proofs.lemmas.Grind.{common_steps}
use Rattle.recent.specs.declared.remembered.Remembered.{Remembered}
use Rattle.recent.specs.Remembered.{Touches, left, is_for, in_fid, has_port}
use Rattle.recent.proofs.Rights.{forgets_learned, forgets_flushed, forgets_expired}
use Rattle.recent.proofs.memory.forget.Goals as goal
use Rattle.recent.proofs.memory.forget.Goals.{then-is_some_and, else-is_some_and}

-- one slot, by what the closure answers for it
left_is : (test : Remembered → Bool) (Says : Remembered → Bool → Type 0) (s : Option Remembered) (r : Bool) → ((m : Remembered) (b : Bool) → Says m b → b ≡ test m) → MatchOption s (r ≡ false) (λ m. Says m r) → left test s ≡ cond r None s
left_is test Says None r h k = ap (λ b. cond b None None) (sym k)
left_is test Says (Some m) r h k = ap (λ b. cond b None (Some m)) (sym (h m r k))

pub loop-slot-preserved : goal.loop-slot-preserved
loop-slot-preserved g c = λ test h.
    let s = get_or c.loop-slot.slots c.loop-slot.slot-index None in
    let e : left test s ≡ cond c.is_some_and.result None s = left_is test _ _ _ h c.is_some_and.ensures in
    let w : c.if-is_some_and.slots ≡ set c.loop-slot.slots c.loop-slot.slot-index (left test s) = elim c.if-is_some_and.branch [ then-is_some_and w ↦ w.slots-is ∙ ap (set c.loop-slot.slots c.loop-slot.slot-index) (sym (e ∙ ap (λ b. cond b None s) w.if-is_some_and.true)) | else-is_some_and w ↦ w.slots-is ∙ ap (set c.loop-slot.slots c.loop-slot.slot-index) (sym (e ∙ ap (λ b. cond b None s) w.if-is_some_and.false)) ] in
    w ∙ map_over_more (left test) c.args.slots.now c.loop-slot.slots c.loop-slot.slot-index s c.loop-slot-test.true (c.loop-slot.invariant test h) (get_or_default c.loop-slot.slots c.loop-slot.slot-index None _ (omega arith))

pub returns : goal.returns
returns g c =
    let xs = c.args.slots.now in
    let e : (test : Remembered → Bool) → Touches g.F.Fn c.args.touched test → c.loop-slot.slots ≡ map (left test) xs = λ test h. let i = c.loop-slot.invariant test h in grind (arith, common_steps) in
    record {
      slots = e;
      learned = λ l k share f a p t q r h. forgets_learned l k xs _ share f a p t (e (is_for f a) h) q r;
      flushed = λ l k f q r h. forgets_flushed l k xs _ f (e (in_fid f) h) q r;
      expired = λ l k limit q r h. forgets_expired l k xs _ limit (e has_port h) q r;
    }
