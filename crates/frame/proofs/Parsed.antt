-- What `parse` hands out makes the frame's own bytes.
use Rattle.std.proofs.Common.{◌≡◌, ℕ, ◌<◌, List, get_or, Some, None, Option, refl}
use Rattle.fault.specs.declared.refusal.Refusal.{Refusal}
use Rattle.fault.specs.Asked.{unless}
use Rattle.frame.specs.Reading.{frame_asked, parse, parts_of}
use Rattle.frame.specs.Writing.{OwnBytes}
use Rattle.frame.proofs.Own.{own_bytes}

pub parsed_own : (f : List ℕ) → ((i : ℕ) → get_or f i 0 < 256) → OwnBytes f (parse f)
parsed_own f bytes = at (frame_asked f) refl
  where
    at : (o : Option Refusal) → frame_asked f ≡ o → OwnBytes f (unless o (parts_of f))
    at None e = own_bytes f e bytes
    at (Some r) e = tt
