-- There is a run with any calls: at each send the highest class that holds a frame is a choice that a selector may make.
use Rattle.std.proofs.Common.{◌≡◌, ℕ, Bool, List, [], ◌∷◌, map, Some, None, Option, refl, ap}
use Rattle.selector.specs.Orders.{highest_is, highest_none}
use Rattle.selector.specs.Strict.{highest}
use Rattle.rules.specs.Calls.{Call, perform, send}
use Rattle.rules.specs.Runs.{Chooses, ChoosesAt, Path', RunsExist, Step}
use Rattle.rules.specs.Runs.Path'.{stay, go}
use Rattle.rules.specs.Settings.{Settings}
use Rattle.rules.specs.State.{State, at_start, standing_classes}

chooses_highest : (held : List Bool) → Chooses held (highest held)
chooses_highest held = go' (highest held) refl
  where
    go' : (o : Option ℕ) → highest held ≡ o → Chooses held o
    go' None e = highest_none held e
    go' (Some c) e = (highest_is held c e).1.stands

choice : State → Call → Option ℕ
choice s (send p memory output) = highest (standing_classes s p)
choice s call = None

chosen : (s : State) (call : Call) → ChoosesAt s call (choice s call)
unfolding choice
chosen s (send p memory output) = chooses_highest (standing_classes s p)
chosen s call = tt

record Played (σ : Settings) (s : State) (calls : List Call) : Type 0 where
  steps : List Step
  end : State
  path : Path' σ s steps end
  same : map (λ x. x.call) steps ≡ calls

play : (σ : Settings) (s : State) (calls : List Call) → Played σ s calls
play σ s [] = record { steps = []; end = s; path = stay; same = refl }
play σ s (c ∷ cs) =
    let done = perform σ s c (choice s c) in
    let rest = play σ done.after cs in
    record {
      steps = record { call = c; answer = done.answer } ∷ rest.steps;
      end = rest.end;
      path = go (record { choice = choice s c; chosen = chosen s c; answers = refl; leaves = refl }) rest.path;
      same = ap (λ xs. c ∷ xs) rest.same;
    }

pub runs_exist : RunsExist
runs_exist σ calls =
    let played = play σ at_start calls in
    (played.steps, (played.end, played.path), played.same)
