use Rattle.std.proofs.Common.{◌≡◌, ℕ, ◌<◌, false, true, leb, List, [], ◌∷◌, ◌++◌, None, sym, ap, ◌∙◌, subst, arith}
use Rattle.std.proofs.lemmas.List.{append-nil, length-take-le}
use Rattle.std.proofs.lemmas.Bool.{leb-false}
use Rattle.table.specs.declared.entry.Entry.{Entry}
use Rattle.table.specs.Entries.{is_fid, count_of, lookup}
use Rattle.table.specs.Records.{Orderly}
use Rattle.table.specs.Rising.{insert, rising}
use Rattle.table.proofs.Room.{fewer}
use Rattle.table.proofs.Records.{has_pair_none, orderly_in}
use Rattle.table.proofs.Rising.{look_rising, count_rising, rising_in}
use Rattle.searched.specs.Records.{taken}
use Rattle.searched.specs.Sets.{orderly}
use Rattle.searched.proofs.Oldest.{oldest_push}
use Rattle.searched.proofs.searched.Searched.add.Goals as goal

less : (share : ℕ) (l : List Entry) (f : ℕ) → Orderly share l → leb share (count_of f (rising l)) ≡ false → count_of f l < share
less share l f o h = omega (arith, count_rising f l o.apart, leb-false _ _ h)

none : (l : List Entry) (e : Entry) → lookup (rising l) e.key.fid e.key.address ≡ None → lookup l e.key.fid e.key.address ≡ None
none l e h = sym (look_rising l e.key.fid e.key.address) ∙ h

-- one entry more, after the others
more : (share : ℕ) (l : List Entry) (e : Entry) → Orderly share l → is_fid e.key.fid ≡ true → lookup (rising l) e.key.fid e.key.address ≡ None → leb share (count_of e.key.fid (rising l)) ≡ false → Orderly share (l ++ e ∷ [])
more share l e o r h k =
    let z = append-nil l in
    orderly_in share l [] e (subst (Orderly share) (sym z) o) r (ap (λ m. lookup m e.key.fid e.key.address) z ∙ none l e h) (subst (λ m. count_of e.key.fid m < share) (sym z) (less share l e.key.fid o k))

pub push-requires : goal.push-requires
push-requires c =
    let s = c.args.self.now in
    let l = taken s.rows in
    let f = c.args.entry.key.fid in
    omega (arith, s.long, length-take-le s.rows.used s.rows.all.now s.rows.sits, fewer l s.share f (orderly s) c.requires.ranged (less s.share l f (orderly s) c.requires.room))

pub invariant_of-self : goal.invariant_of-self
invariant_of-self c =
    let s = c.args.self.now in
    let w = c.push.ensures.later in
    let o : Orderly s.share (taken c.push.new.self) = subst (Orderly s.share) (sym w) (more s.share (taken s.rows) c.args.entry (orderly s) c.requires.ranged c.requires.absent c.requires.room) in
    record {
      long = omega (arith, c.push.ensures.room, s.long);
      ranged = o.ranged;
      apart = o.apart;
      fair = o.fair;
      dated = oldest_push (taken s.rows) _ c.args.entry _ _ w s.dated c.min-self.ensures;
    }

pub returns-clause-later : goal.returns-clause-later
returns-clause-later c =
    let l = taken c.args.self.now.rows in
    let e = c.args.entry in
    ap rising c.push.ensures.later ∙ rising_in l [] e (has_pair_none l e.key.fid e.key.address (none l e c.requires.absent)) ∙ ap (λ m. insert e (rising m)) (append-nil l)
