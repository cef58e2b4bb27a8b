-- Paths join and split, and a started bridge stays started.
use Rattle.std.proofs.Common.{◌≡◌, true, List, [], ◌∷◌, ◌++◌, ◌∙◌}
use Rattle.rules.specs.Calls.{Answer, Call}
use Rattle.rules.specs.Runs.{Goes, Path', Step}
use Rattle.rules.specs.Runs.Path'.{stay, go}
use Rattle.rules.specs.Settings.{Settings}
use Rattle.rules.specs.State.{State}
use Rattle.rules.proofs.Effects.{Did, did}
use Rattle.rules.proofs.Effects.Did.{cleared, handed, laying, rested, shifted}

pub join : {σ : Settings} {s t u : State} {xs ys : List Step} → Path' σ s xs t → Path' σ t ys u → Path' σ s (xs ++ ys) u
join stay path = path
join (go g rest) path = go g (join rest path)

pub split : {σ : Settings} (xs : List Step) {s u : State} {ys : List Step} → Path' σ s (xs ++ ys) u → (t : State) × Path' σ s xs t × Path' σ t ys u
split [] {s} path = (s, stay, path)
split (x ∷ xs) (go g path) =
    let parts = split xs path in
    (parts.0, go g parts.1, parts.2)

started : {σ : Settings} {s t : State} {call : Call} {a : Answer} → Did σ s call a t → t.started ≡ s.started
started (rested plain e) = e.started
started (laying e) = e.started
started (handed e) = e.started
started (cleared e) = e.started
started (shifted e) = e.started

pub step_started : {σ : Settings} {s t : State} {step : Step} → Goes σ s step t → t.started ≡ s.started
step_started g = started (did g)

pub stays_started : {σ : Settings} {s t : State} {steps : List Step} → Path' σ s steps t → s.started ≡ true → t.started ≡ true
stays_started stay e = e
stays_started (go g path) e = stays_started path (step_started g ∙ e)
