-- `word::closed_index` meets its contract.
use mathlib.Core.Path.{◌≡◌}
use mathlib.Core.Bool.{true, ◌&&◌}
use lib.Dec.{eqb}
use Rattle.word.specs.Word.{closed_index}
use Rattle.word.proofs.closed_index.Goals as goal

pub returns-then-is_index-byte_at : goal.returns-then-is_index-byte_at
unfolding closed_index
returns-then-is_index-byte_at c =
    let closes : (c.is_index.result && eqb c.byte_at.result 93) ≡ true = c.if-is_index-byte_at.true in
    rw (← c.digits_end-end.ensures.is, ← c.is_index.ensures, ← c.byte_at.ensures, closes)

pub returns : goal.returns
unfolding closed_index
returns c = rw (← c.digits_end-end.ensures.is, ← c.is_index.ensures, ← c.byte_at.ensures, c.if-is_index-byte_at.false)
