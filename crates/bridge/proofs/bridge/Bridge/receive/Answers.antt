use Rattle.std.proofs.Common.{◌≡◌, ℕ, ◌≤◌, cond, length, Ok, Err, Result, sym, ap, subst, ◌∙◌}
use Rattle.fault.specs.declared.refusal.Refusal.{Refusal}
use Rattle.fault.specs.declared.refusal.Refusal.TheVariants.{FrameNotAdmitted}
use Rattle.frame.specs.Reading.{picture}
use Rattle.rules.specs.Calls.{learning}
use Rattle.rules.specs.Ingress.{admitted, classified, classified_at, ingress, of_member}
use Rattle.rules.specs.Settings.{vlan_of}
use Rattle.rules.specs.declared.ports.PortSettings.{PortSettings}
use Rattle.rules.specs.declared.vlans.Vlan.{Vlan}
use Rattle.bridge.proofs.Receives.{priority_low, received_memory, receives, writable}
use Rattle.bridge.specs.View.{settings_of, state_of}
use Rattle.bridge.proofs.bridge.Bridge.receive.Goals as goal

pub learn_and_relay-requires-clause-priority : goal.learn_and_relay-requires-clause-priority
learn_and_relay-requires-clause-priority g c =
    let b = c.args.self.now in
    let q = picture c.in_ok-parts.parts in
    let e : c.classify-vid.result.1 ≡ (classified_at (settings_of b) c.args.port q.tag).1 =
    ap (λ (x : ℕ × ℕ). x.1) (c.classify-vid.ensures ∙ ap (λ (x : PortSettings). classified x q.tag) c.settings_at-settings.ensures) in
    let P : ℕ → Type 0 = λ n. n ≤ 7 in
    subst P (sym e) (priority_low q.destination q.source q.body q.tag b.ports c.args.port c.in_ok-parts.ensures.own_bytes.2 b.priorities)

pub learn_and_relay-requires-clause-form : goal.learn_and_relay-requires-clause-form
learn_and_relay-requires-clause-form g c =
    let b = c.args.self.now in
    let q = picture c.in_ok-parts.parts in
    let e : c.classify-vid.result.1 ≡ (classified_at (settings_of b) c.args.port q.tag).1 =
    ap (λ (x : ℕ × ℕ). x.1) (c.classify-vid.ensures ∙ ap (λ (x : PortSettings). classified x q.tag) c.settings_at-settings.ensures) in
    let P : ℕ → Type 0 = λ n. n ≤ 7 in
    writable c.args.frame.now q.destination q.source q.body q.tag c.in_ok-vlan.field-0.now c.classify-vid.result.1 (sym c.in_ok-parts.ensures.answer) c.in_ok-parts.ensures.own_bytes.1
    c.in_ok-parts.ensures.own_bytes.2 (subst P (sym e) (priority_low q.destination q.source q.body q.tag b.ports c.args.port c.in_ok-parts.ensures.own_bytes.2 b.priorities))
    c.in_ok-vlan.ensures.numbers.vid_high

pub returns-clause-step : goal.returns-clause-step
returns-clause-step g c =
    let b = c.args.self.now in
    let m = c.args.memory.now in
    let q = picture c.in_ok-parts.parts in
    let p = c.args.port in
    let v = c.in_ok-vlan.field-0.now in
    let σ = settings_of b in
    let s = state_of b m in
    let e : c.classify-vid.result.1 ≡ (classified_at σ p q.tag).1 =
    ap (λ (x : ℕ × ℕ). x.1) (c.classify-vid.ensures ∙ ap (λ (x : PortSettings). classified x q.tag) c.settings_at-settings.ensures) in
    let i : ◌≡◌ {A = Result Vlan Refusal} (Ok v) (ingress σ p q.tag) =
    c.in_ok-vlan.ensures.vlan ∙ ap (λ (x : ℕ × ℕ). cond (admitted c.settings_at-settings.result q.tag) (of_member c.settings_at-settings.result p (vlan_of σ.vlans x.0)) (Err FrameNotAdmitted)) c.classify-vid.ensures
    ∙ ap (λ (x : PortSettings). cond (admitted x q.tag) (of_member x p (vlan_of σ.vlans (classified x q.tag).0)) (Err FrameNotAdmitted)) c.settings_at-settings.ensures in
    c.learn_and_relay.ensures.step ∙ ap (λ (n : ℕ). learning σ s p q v n) e
    ∙ receives σ s p c.args.frame.now (length m) q v c.if-not-self.false (sym c.has_port.ensures ∙ c.if-not-has_port.false) (sym c.fits_in.ensures ∙ c.if-not-fits_in.false) (sym c.in_ok-parts.ensures.answer) (sym i)

pub returns-clause-memory : goal.returns-clause-memory
returns-clause-memory g c =
    let b = c.args.self.now in
    let m = c.args.memory.now in
    let q = picture c.in_ok-parts.parts in
    let p = c.args.port in
    let v = c.in_ok-vlan.field-0.now in
    let σ = settings_of b in
    let i : ◌≡◌ {A = Result Vlan Refusal} (Ok v) (ingress σ p q.tag) =
    c.in_ok-vlan.ensures.vlan ∙ ap (λ (x : ℕ × ℕ). cond (admitted c.settings_at-settings.result q.tag) (of_member c.settings_at-settings.result p (vlan_of σ.vlans x.0)) (Err FrameNotAdmitted)) c.classify-vid.ensures
    ∙ ap (λ (x : PortSettings). cond (admitted x q.tag) (of_member x p (vlan_of σ.vlans (classified x q.tag).0)) (Err FrameNotAdmitted)) c.settings_at-settings.ensures in
    c.learn_and_relay.ensures.memory ∙ received_memory σ (state_of b m) p c.args.frame.now q v c.learn_and_relay.result m (sym c.in_ok-parts.ensures.answer) (sym i) c.learn_and_relay.ensures.placed
