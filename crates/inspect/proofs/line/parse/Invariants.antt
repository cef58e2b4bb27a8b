-- The bytes so far, and then those of the rest of the line, are the bytes of the line.
use Rattle.std.proofs.Common.{◌≡◌, drop, vec_items}
use Rattle.inspect.specs.Text.{bytes_from, bytes_in, prefixed}
use Rattle.inspect.proofs.line.parse.Given as goal

abbrev pub invariant-loop-place : goal.invariant-loop-place
invariant-loop-place l = prefixed (vec_items l.frame) (bytes_from l.place l.waiting (drop l.place l.text)) ≡ bytes_in l.text
