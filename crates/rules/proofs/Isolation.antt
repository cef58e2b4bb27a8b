-- The answers to a filtering database's calls are those that it would get alone, so that two runs
-- with the same of its calls answer them alike.
use Rattle.std.proofs.Common.{◌≡◌, ℕ, Bool, true, false, cond, List, [], ◌∷◌, map, None, sym, refl, ap, ◌∙◌, subst, ap₂}
use Rattle.table.specs.Rising.{rises}
use Rattle.rules.specs.Calls.{Answer, Call, perform}
use Rattle.rules.specs.Laws.{Alike, Isolation, but_room, concerning, concerns}
use Rattle.rules.specs.Runs.{Path', Step}
use Rattle.rules.specs.Runs.Path'.{stay, go}
use Rattle.rules.specs.Settings.{Settings}
use Rattle.rules.specs.State.{State, at_start}
use Rattle.rules.proofs.IsoStep.{Same, step_agrees}
use Rattle.rules.proofs.IsoSkip.{same_self, skip}

-- the answers to calls made one after the other, and no others
abbrev alone : Settings → State → List Call → List Answer
alone σ s [] = []
alone σ s (c ∷ cs) = but_room (perform σ s c None).answer ∷ alone σ (perform σ s c None).after cs

abbrev calls : List Step → List Call
calls steps = map (λ x. x.call) steps

abbrev answers : List Step → List Answer
answers steps = map (λ x. but_room x.answer) steps

-- each call concerns the database
abbrev Concern : Settings → ℕ → List Call → Type 0
Concern σ f [] = Unit {0}
Concern σ f (c ∷ cs) = (concerns σ f c ≡ true) × Concern σ f cs

concern_kept : (σ : Settings) (f : ℕ) (steps : List Step) → Concern σ f (calls (concerning σ f steps))
concern_kept σ f [] = tt
concern_kept σ f (x ∷ xs) = one (concern_kept σ f xs) (concerns σ f x.call) refl
  where
    one : Concern σ f (calls (concerning σ f xs)) → (b : Bool) → concerns σ f x.call ≡ b → Concern σ f (calls (cond b (x ∷ concerning σ f xs) (concerning σ f xs)))
    one ih true h = (h, ih)
    one ih false h = ih

alike_self : (f : ℕ) (σ : Settings) → Alike f σ σ
alike_self f σ =
    record {
      ports = refl;
      classes = refl;
      depth = refl;
      share = refl;
      ageing = refl;
      port = refl;
      vlans = λ vid. refl;
      statics = λ vid a h. refl;
    }

-- bridges and states that look alike to the database answer alike
alone_same : {f : ℕ} {σ τ : Settings} (cs : List Call) {s t : State} → Concern σ f cs → Alike f σ τ → Same f s t → alone σ s cs ≡ alone τ t cs
alone_same [] k a h = refl
alone_same (c ∷ cs) k a h =
    let e = step_agrees a h c k.0 None None in
    ap₂ (λ x xs. x ∷ xs) e.answer (alone_same cs k.1 a e.after)

-- in every run, what concerns the database is answered as if it were alone
path_alone : (f : ℕ) {σ : Settings} {s u : State} {steps : List Step} → Path' σ s steps u → rises s.entries ≡ true → answers (concerning σ f steps) ≡ alone σ s (calls (concerning σ f steps))
path_alone f stay r = refl
path_alone f {σ} (go {s = s} {t = t} {step = x} {steps = xs} g p) r = one (path_alone f p) (concerns σ f x.call) refl
  where
    kept : List Step
    kept = concerning σ f xs

    one : (rises t.entries ≡ true → answers kept ≡ alone σ t (calls kept)) → (b : Bool) → concerns σ f x.call ≡ b → answers (cond b (x ∷ kept) kept) ≡ alone σ s (calls (cond b (x ∷ kept) kept))
    one ih true i =
        let e = step_agrees (alike_self f σ) (same_self f s r) x.call i g.choice None in
        let h : Same f t (perform σ s x.call None).after = subst (λ z. Same f z (perform σ s x.call None).after) g.leaves e.after in
        ap₂ (λ y ys. y ∷ ys) (ap but_room (sym g.answers) ∙ e.answer) (ih h.entries.left ∙ alone_same (calls kept) (concern_kept σ f xs) (alike_self f σ) h)
    one ih false i =
        let h : Same f t s = subst (λ z. Same f z s) g.leaves (skip f σ s x.call g.choice i r) in
        ih h.entries.left ∙ alone_same (calls kept) (concern_kept σ f xs) (alike_self f σ) h

pub isolation : Isolation
isolation f σ τ r s run run' alike same =
    path_alone f run.1 refl
    ∙ alone_same (calls (concerning σ f r)) (concern_kept σ f r) alike (same_self f at_start refl)
    ∙ ap (alone τ at_start) same
    ∙ sym (path_alone f run'.1 refl)
