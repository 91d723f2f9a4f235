-- `store` is safe: the head before it has an answer less than commands, and PROCESSED is stored as 0.
use Rattle.std.proofs.Common.{arith}
use Rattle.slot.specs.Stored.{kind_of}
use Rattle.vectors.proofs.store.Goals as goal

pub answer_slot-requires : goal.answer_slot-requires
unfolding kind_of
answer_slot-requires c =
    let few = rw c.get_head-head.ensures at c.if-head-lt-COMMANDS.true in
    (omega arith, omega arith, few, omega arith)
