use Rattle.std.proofs.Common.{ℕ, Result, sym, refl, ap, ◌∙◌}
use Rattle.fault.specs.declared.refusal.Refusal.{Refusal}
use Rattle.rules.specs.Calls.{outcome}
use Rattle.bridge.specs.Told.{told_emptied}
use Rattle.bridge.specs.View.{settings_of, state_of}
use Rattle.bridge.proofs.Happening.{err_is, event_left, event_refused, event_stayed}
use Rattle.bridge.proofs.States.{settings_kept}
use Rattle.bridge.proofs.Views.{with_ports}
use Rattle.bridge.proofs.bridge.Bridge.port_event.Goals as goal

pub returns-in_err-self-clause-step : goal.returns-in_err-self-clause-step
returns-in_err-self-clause-step g c memory =
    let b = c.args.self.now in
    ap (λ (x : Result ℕ Refusal). outcome (told_emptied x) (state_of b memory)) (err_is c.from_residual-in_err-self.result c.in_err-self.field-0.0 c.from_residual-in_err-self.ensures.1)
    ∙ event_refused (settings_of b) (state_of b memory) c.args.port c.from-place.result c.args.number b.ports c.in_ok-event.event c.if-not-self.false (sym c.has_port.ensures ∙ c.if-not-has_port.false) c.from-place.ensures
    (sym c.event_of.ensures ∙ c.in_ok-event.was) refl _ (sym c.next_state.ensures ∙ c.in_err-self.was)

pub returns-then-forwards-clause-step : goal.returns-then-forwards-clause-step
returns-then-forwards-clause-step g c memory =
    let b = c.args.self.now in
    event_left (settings_of b) (state_of b memory) c.args.port c.from-place.result c.args.number b.ports c.in_ok-event.event c.if-not-self.false (sym c.has_port.ensures ∙ c.if-not-has_port.false) c.from-place.ensures
    (sym c.event_of.ensures ∙ c.in_ok-event.was) refl c.in_ok-self.field-0 _ _ _ (sym c.next_state.ensures ∙ c.in_ok-self.was)
    (sym c.forwards.ensures ∙ c.if-forwards.true) (c.empty.ensures.answer memory) (c.empty.ensures.queues memory) c.empty.ensures.slots

pub returns-clause-step : goal.returns-clause-step
returns-clause-step g c memory =
    let b = c.args.self.now in
    event_stayed (settings_of b) (state_of b memory) c.args.port c.from-place.result c.args.number b.ports c.in_ok-event.event c.if-not-self.false (sym c.has_port.ensures ∙ c.if-not-has_port.false) c.from-place.ensures
    (sym c.event_of.ensures ∙ c.in_ok-event.was) refl c.in_ok-self.field-0 (sym c.next_state.ensures ∙ c.in_ok-self.was) (sym c.forwards.ensures ∙ c.if-forwards.false)

pub returns-then-forwards-clause-settings : goal.returns-then-forwards-clause-settings
returns-then-forwards-clause-settings g c =
    let b = c.args.self.now in
    with_ports (settings_of b) c.empty.new.self.shape b.queues.shape _ c.empty.ensures.shape refl refl refl (settings_kept b.ports c.from-place.result c.in_ok-self.field-0)

pub returns-clause-settings : goal.returns-clause-settings
returns-clause-settings g c =
    let b = c.args.self.now in
    with_ports (settings_of b) b.queues.shape b.queues.shape _ refl refl refl refl (settings_kept b.ports c.from-place.result c.in_ok-self.field-0)
