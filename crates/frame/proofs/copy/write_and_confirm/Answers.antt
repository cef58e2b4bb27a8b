use Rattle.std.proofs.Common.{length, rules}
use Rattle.frame.specs.Reading.{picture}
use Rattle.frame.proofs.Room.{lies}
use Rattle.frame.proofs.copy.write_and_confirm.Goals as goal

pub overflow_add-at : goal.overflow_add-at
overflow_add-at c =
    let h = lies (length c.args.memory.now) c.args.at _ (picture c.args.parts.now) c.in_ok-length.ensures.answer in
    search rules
