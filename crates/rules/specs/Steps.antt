-- What can be told from a run, without a look into the bridge: which receives queued a frame at a port, and
-- which sends handed one out there. A port restarts at each accepted disable or drop; from then on what is
-- counted there is counted anew.
use Rattle.std.specs.Prelude.{ℕ, suc, Bool, true, false, cond, ◌&&◌, List, [], ◌∷◌, ◌++◌, Some, None, Option, ◌==◌}
use Rattle.rules.specs.Calls.{Answer, Call, emptied, event, receive, received, send, sent}
use Rattle.rules.specs.Egress.{lays_in}
use Rattle.rules.specs.Runs.{Step}
use Rattle.rules.specs.Settings.{Settings}
use Rattle.rules.specs.declared.answers.Received.{Received}
use Rattle.rules.specs.declared.answers.Sent.{Sent}

abbrev pub as_received : Answer → Option Received
as_received (received r) = Some r
as_received a = None

abbrev pub as_sent : Answer → Option (Sent × List ℕ)
as_sent (sent x bytes) = Some (x, bytes)
as_sent a = None

abbrev pub as_emptied : Answer → Option ℕ
as_emptied (emptied n) = Some n
as_emptied a = None

-- a frame that was received and queued, with its place in the run
pub record Receipt : Type 0 where
  pub at : ℕ
  pub port : ℕ
  pub frame : List ℕ
  pub answer : Received

-- a frame that was handed out, with its place in the run
pub record Delivery : Type 0 where
  pub at : ℕ
  pub answer : Sent
  pub bytes : List ℕ

-- an accepted receive queues its frame at a port, in the class that its priority has there
abbrev pub receipt_of : Settings → ℕ → ℕ → ℕ → ℕ → List ℕ → Option Received → List Receipt
receipt_of σ p c at q frame None = []
receipt_of σ p c at q frame (Some r) =
    cond (lays_in σ r.decided r.no_room r.classified.1 p c) (record { at = at; port = q; frame = frame; answer = r } ∷ []) []

abbrev pub receipt_in : Settings → ℕ → ℕ → ℕ → Call → Answer → List Receipt
receipt_in σ p c at (receive q frame memory) a = receipt_of σ p c at q frame (as_received a)
receipt_in σ p c at call a = []

-- an accepted send at the port hands a frame of the class out
abbrev pub delivery_of : ℕ → ℕ → ℕ → ℕ → Option (Sent × List ℕ) → List Delivery
delivery_of p c at q None = []
delivery_of p c at q (Some x) = cond (q == p && x.0.class == c) (record { at = at; answer = x.0; bytes = x.1 } ∷ []) []

abbrev pub delivery_in : ℕ → ℕ → ℕ → Call → Answer → List Delivery
delivery_in p c at (send q memory output) a = delivery_of p c at q (as_sent a)
delivery_in p c at call a = []

abbrev pub accepted : Option ℕ → Bool
accepted None = false
accepted (Some n) = true

-- an accepted disable (2) or drop (4) of the port
abbrev pub restarts : ℕ → Call → Answer → Bool
restarts p (event q n) a = q == p && cond (n == 2) true (n == 4) && accepted (as_emptied a)
restarts p call a = false

-- what was queued at a port in a class since the port restarted last, oldest first
abbrev pub queued_from : Settings → ℕ → ℕ → ℕ → List Receipt → List Step → List Receipt
queued_from σ p c at so [] = so
queued_from σ p c at so (x ∷ xs) =
    queued_from σ p c (suc at) (cond (restarts p x.call x.answer) [] (so ++ receipt_in σ p c at x.call x.answer)) xs

abbrev pub queued_at : Settings → ℕ → ℕ → List Step → List Receipt
queued_at σ p c steps = queued_from σ p c 0 [] steps

-- and what was handed out there
abbrev pub handed_from : ℕ → ℕ → ℕ → List Delivery → List Step → List Delivery
handed_from p c at so [] = so
handed_from p c at so (x ∷ xs) =
    handed_from p c (suc at) (cond (restarts p x.call x.answer) [] (so ++ delivery_in p c at x.call x.answer)) xs

abbrev pub handed_at : ℕ → ℕ → List Step → List Delivery
handed_at p c steps = handed_from p c 0 [] steps
