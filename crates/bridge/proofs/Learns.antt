-- Learning, and what is laid after it.
use Rattle.std.proofs.Common.{◌≡◌, ℕ, Bool, true, false, cond, List, [], ◌∷◌, Ok, Err, Result, refl, sym, ap, ◌∙◌}
use Rattle.fault.specs.declared.mark.Mark.{Mark}
use Rattle.fault.specs.declared.mark.Mark.TheVariants.{Unlearned}
use Rattle.fault.specs.declared.refusal.Refusal.{Refusal}
use Rattle.frame.specs.Reading.{Picture}
use Rattle.table.specs.Calls.{after_learn, mark_at}
use Rattle.table.specs.Entries.{count_of, lookup}
use Rattle.table.specs.declared.entry.Entry.{Entry}
use Rattle.rules.specs.Calls.{learning, relay}
use Rattle.rules.specs.Egress.{laid_memory, sendable}
use Rattle.rules.specs.Ports.{Ports, sixteen}
use Rattle.rules.specs.Relay.{learnable, learns}
use Rattle.rules.specs.Settings.{Settings}
use Rattle.rules.specs.State.{Queued, State, state_at}
use Rattle.rules.specs.declared.answers.Received.{Received}
use Rattle.rules.specs.declared.vlans.Vlan.{Vlan}
use Rattle.bridge.specs.LaidBy.{laid_by}

-- what is laid hangs on the slots, and not on what the table holds
slots_alone : (σ : Settings) (s : State) (es : List Entry) (set full : Ports) (priority : ℕ) (form : ℕ → Queued) (ps m : List ℕ)
    → laid_memory σ (record s { entries = es }) set full priority form ps m ≡ laid_memory σ s set full priority form ps m
slots_alone σ s es set full priority form [] m = refl
slots_alone σ s es set full priority form (p ∷ ps) m = slots_alone σ s es set full priority form ps _

pub laid_alike : (σ : Settings) (s : State) (es : List Entry) (frame : Picture) (v : Vlan) (r : Result Received Refusal) (m : List ℕ) → laid_by σ (record s { entries = es }) frame v r m ≡ laid_by σ s frame v r m
unfolding laid_by
laid_alike σ s es frame v (Ok r) m = slots_alone σ s es r.decided r.no_room r.classified.1 (sendable frame v r.classified.1) sixteen m
laid_alike σ s es frame v (Err x) m = refl

entries_if : (t : Bool) (s : State) (es : List Entry) → ◌≡◌ {A = State} (record s { entries = cond t es s.entries }) (cond t (record s { entries = es }) s)
entries_if true s es = refl
entries_if false s es = refl

pub learnings : (σ : Settings) (s : State) (q : ℕ) (frame : Picture) (v : Vlan) (priority : ℕ) (t : Bool) (mark : Mark) → learns (state_at s q) ≡ true → t ≡ learnable σ v.vid q frame.source
    → mark ≡ cond t (mark_at σ.share (count_of v.fid s.entries) q (lookup s.entries v.fid frame.source)) Unlearned
    → relay σ (record s { entries = cond t (after_learn σ.share s.entries v.fid frame.source q s.clock) s.entries }) q frame v priority mark ≡ learning σ s q frame v priority
learnings σ s q frame v priority t mark l te me =
    let later = after_learn σ.share s.entries v.fid frame.source q s.clock in
    let known = mark_at σ.share (count_of v.fid s.entries) q (lookup s.entries v.fid frame.source) in
    ap (λ (x : State). relay σ x q frame v priority mark) (entries_if t s later)
    ∙ ap (λ (k : Mark). relay σ (cond t (record s { entries = later }) s) q frame v priority k) me
    ∙ ap (λ (u : Bool). relay σ (cond u (record s { entries = later }) s) q frame v priority (cond u known Unlearned)) te
    ∙ sym (rw l refl)
