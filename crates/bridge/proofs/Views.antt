-- Settings whose parts are equal.
use Rattle.std.proofs.Common.{◌≡◌, List, refl, ap, ◌∙◌}
use Rattle.rules.specs.Settings.{Settings}
use Rattle.rules.specs.declared.ports.PortSettings.{PortSettings}
use Rattle.rules.specs.declared.shape.Shape.{Shape}

-- a bridge's settings after a call that keeps its queues' shape and its ports' settings
pub with_ports : (σ : Settings) (new old : Shape) (port : List PortSettings) → new ≡ old → old.ports ≡ σ.ports → old.classes ≡ σ.classes → old.depth ≡ σ.depth → port ≡ σ.port
    → ◌≡◌ {A = Settings} (record σ { ports = new.ports; classes = new.classes; depth = new.depth; port = port }) σ
with_ports σ new old port e p c d s =
    ap (λ (x : Shape). record σ { ports = x.ports; classes = x.classes; depth = x.depth; port = port }) e ∙ rw (p, c, d, s) refl
