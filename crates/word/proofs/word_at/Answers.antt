-- `word::word_at` meets its contract.
use mathlib.Core.Path.{sym, ◌∙◌}
use Prim.Native.Nat.{◌+◌}
use borrow.Author.Tests.{lt-ltb, le-ltb}
use Rattle.counts.specs.Limits.{word_bytes}
use Rattle.laws.proofs.Choose.{choose}
use Rattle.word.specs.Word.{word_read}
use Rattle.word.proofs.word_at.Goals as goal

pub returns-then-has_at : goal.returns-then-has_at
unfolding word_read
returns-then-has_at c = search choose depth 9

pub returns-then-i-end : goal.returns-then-i-end
unfolding word_read
returns-then-i-end c = rw (sym c.has_at.ensures ∙ c.if-has_at.false, ← c.word_end-end.ensures.is, lt-ltb (c.args.i + word_bytes) _ c.if-i-end.true)

pub returns : goal.returns
unfolding word_read
returns c = rw (
  sym c.has_at.ensures ∙ c.if-has_at.false,
  ← c.word_end-end.ensures.is,
  le-ltb _ _ c.if-i-end.false,
  c.which_word.ensures,
)
