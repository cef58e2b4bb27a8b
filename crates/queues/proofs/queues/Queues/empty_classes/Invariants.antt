use Rattle.std.proofs.Common.{◌≡◌, ℕ, ◌==◌, ◌&&◌, cond, ltb, List, []}
use Rattle.queues.specs.Standing.{queues_of, slots_of}
use Rattle.queues.proofs.queues.Queues.empty_classes.Given as goal

abbrev pub invariant-loop-class : goal.invariant-loop-class
invariant-loop-class l = record {
  queues : (memory : List ℕ) (p c : ℕ) → queues_of l.self memory p c ≡ cond (p == l.port && ltb c l.class) [] (queues_of l.initial.self memory p c);
  slots : slots_of l.self ≡ slots_of l.initial.self;
  shape : l.self.shape ≡ l.initial.self.shape;
}
