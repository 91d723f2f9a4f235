-- `word::group_at` meets its contract: a byte that is a comma stands within the bytes.
use mathlib.Core.Path.{◌≡◌}
use mathlib.Core.Bool.{true, ◌&&◌}
use lib.Dec.{eqb}
use Rattle.word.specs.Word.{group_read}
use Rattle.word.proofs.Groups.{inside}
use Rattle.word.proofs.group_at.Goals as goal

pub closed_index-requires : goal.closed_index-requires
unfolding group_read
closed_index-requires c = search inside

pub returns-then-is_index-byte_at : goal.returns-then-is_index-byte_at
unfolding group_read
returns-then-is_index-byte_at c =
    let parts : (c.is_index.result && eqb c.byte_at.result 44) ≡ true = c.if-is_index-byte_at.true in
    rw (← c.digits_end-end.ensures.is, ← c.is_index.ensures, ← c.byte_at.ensures, parts) c.closed_index.ensures

pub returns : goal.returns
unfolding group_read
returns c =
    rw (← c.digits_end-end.ensures.is, ← c.is_index.ensures, ← c.byte_at.ensures, c.if-is_index-byte_at.false) c.closed_index-2.ensures
