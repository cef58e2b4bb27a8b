use Rattle.slots.proofs.Probing.{hit_after, hit_before, miss}
use Rattle.slots.proofs.probe.search.Goals as goal

pub returns-in-Some : goal.returns-in-Some
returns-in-Some g c =
    hit_after (g.T.Sought.matches c.args.sought.now) c.args.records.now _ _ _ _ _ c.home.ensures.value c.home.ensures.within c.split_at.ensures.front_len (rw c.split_at.ensures.back at c.in-Some.ensures.value)

pub returns-in_err-at : goal.returns-in_err-at
returns-in_err-at g c =
    miss (g.T.Sought.matches c.args.sought.now) c.args.records.now _ _ _ _ _ _ c.home.ensures.value c.home.ensures.within c.split_at.ensures.back_len c.saturating_sub.ensures (rw c.split_at.ensures.back at c.in_default.ensures.value) (rw c.split_at.ensures.front at c.in_err-at.ensures.value) c.from_residual.ensures

pub returns : goal.returns
returns g c =
    hit_before (g.T.Sought.matches c.args.sought.now) c.args.records.now _ _ _ _ _ _ _ c.home.ensures.value c.home.ensures.within c.split_at.ensures.back_len c.saturating_sub.ensures (rw c.split_at.ensures.back at c.in_default.ensures.value) (rw c.split_at.ensures.front at c.in_ok-at.ensures.value) c.gone_round.ensures
