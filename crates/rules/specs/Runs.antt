-- A run is a list of calls with their answers, oldest first, from the start of a bridge on; refused
-- calls are in it. Which class a send takes is the selector's choice: any class that holds a frame,
-- and none exactly when none does.
use Rattle.std.specs.Prelude.{◌≡◌, ℕ, Bool, true, List, [], ◌∷◌, map, Some, None, Option}
use Rattle.rules.specs.Calls.{Answer, Call, perform, send}
use Rattle.rules.specs.Settings.{Settings}
use Rattle.rules.specs.State.{State, at_start, standing_classes}
use Rattle.selector.specs.Classes.{NoneHeld}
use Rattle.sets.specs.Sets.{holds}

pub record Step : Type 0 where
  pub call : Call
  pub answer : Answer

-- what every selector shows of its choice
abbrev pub Chooses : List Bool → Option ℕ → Type 0
Chooses held None = NoneHeld held
Chooses held (Some c) = holds held c ≡ true

-- the selector chooses of the classes that hold a frame at the port of a send
abbrev pub ChoosesAt : State → Call → Option ℕ → Type 0
ChoosesAt s (send p memory output) choice = Chooses (standing_classes s p) choice
ChoosesAt s call choice = Unit {0}

-- a bridge goes from one state to another by a call and its answer
pub record Goes (σ : Settings) (s : State) (step : Step) (t : State) : Type 0 where
  pub choice : Option ℕ
  pub chosen : ChoosesAt s step.call choice
  pub answers : (perform σ s step.call choice).answer ≡ step.answer
  pub leaves : (perform σ s step.call choice).after ≡ t

-- and by a list of them
pub data Path' (σ : Settings) : State → List Step → State → Type 0 where
  stay : {s : State} → Path' σ s [] s
  go : {s t u : State} {step : Step} {steps : List Step} → Goes σ s step t → Path' σ t steps u → Path' σ s (step ∷ steps) u

-- these steps are a run of a bridge that is set up like this
abbrev pub Run : Settings → List Step → Type 0
Run σ steps = (t : State) × Path' σ at_start steps t

-- whatever way of setting up, and whatever list of calls, there is a run with just these calls
abbrev pub RunsExist : Type 0
RunsExist = (σ : Settings) (calls : List Call) → (steps : List Step) × Run σ steps × (map (λ x. x.call) steps ≡ calls)
