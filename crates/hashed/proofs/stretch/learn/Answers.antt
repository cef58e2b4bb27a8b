use Rattle.std.proofs.Common.{◌≡◌, ◌<◌, false, sym, refl, ap, ◌∙◌, arith}
use Rattle.std.proofs.lemmas.List.{get_or_default}
use Rattle.std.proofs.lemmas.Bool.{ltb-true, ltb-false, ne_eqb}
use Rattle.table.specs.Entries.{free_entry, is_free}
use Rattle.table.specs.Calls.{again}
use Rattle.hashed.specs.Stretch.Learned.{over, added, full}
use Rattle.hashed.proofs.Held.{hit_look, over_held, added_held}
use Rattle.hashed.proofs.Kept.{absent, kept_over, kept_added, room}
use Rattle.hashed.proofs.stretch.learn.Goals as goal

pub returns-in-Some : goal.returns-in-Some
returns-in-Some c =
    let xs = c.args.records.now in
    let e = c.args.entry in
    let at = c.in-Some.spot.at in
    let h = c.in-Some.ensures in
    let d = c.requires.apart in
    let k = c.requires.kept in
    record {
      learned = over _ (hit_look xs at e.key.fid e.key.address d k.low h.2 h.3) (over_held xs at e.key.fid e.key.address e.port e.heard d k.low h.2 h.3) (c.again_at-mark.ensures ∙ ap (λ x. again x.port e.port) (get_or_default xs at _ free_entry h.2));
      kept = kept_over xs e.key.fid at e.key.address e.port e.heard c.args.bounds.now _ k d h.2 h.3 c.with_heard.ensures;
    }

pub returns-then-not-has_room-clause-learned : goal.returns-then-not-has_room-clause-learned
returns-then-not-has_room-clause-learned c =
    let k = c.requires.kept in
    full refl (absent c.args.records.now c.args.entry.key.fid c.args.entry.key.address c.args.bounds.now k c.in_default.ensures) (omega (arith, k.held, ltb-false _ _ (sym c.if-not-has_room.ensures))) refl

pub unreachable-requires : goal.unreachable-requires
unreachable-requires c =
    let k = c.requires.kept in
    room c.args.records.now c.args.entry.key.fid c.args.entry.key.fid c.args.entry.key.address c.args.bounds.now k (omega (arith, ltb-true _ _ (sym c.if-not-has_room.ensures))) c.in-None.ensures

pub returns : goal.returns
returns c =
    let xs = c.args.records.now in
    let e = c.args.entry in
    let at = c.in-Some-vacant.spot.at in
    let k = c.requires.kept in
    let h = c.in-Some-vacant.ensures in
    let u : is_free e ≡ false = ne_eqb e.key.fid 0 (λ z. omega (arith, k.low)) in
    let less : c.args.bounds.now.held < c.args.share = ltb-true _ _ (sym c.if-not-has_room.ensures) in
    let r = added_held xs at e h.2 h.3 u in
    record {
      learned = added r.0 r.1 r.2 r.3 (absent xs e.key.fid e.key.address c.args.bounds.now k c.in_default.ensures) (omega (arith, k.held)) refl;
      kept = kept_added xs e.key.fid at c.in-Some-vacant.spot.steps c.args.bounds.now _ e k refl h.2 h.3 h.1 h.0 (c.with_new.ensures.small (omega arith) (omega arith));
    }
