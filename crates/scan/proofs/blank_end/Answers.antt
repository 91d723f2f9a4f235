use native.Mathlib.Omega.{arith}
use Rattle.scan.proofs.Blanks.{blanks}
use Rattle.scan.proofs.blank_end.Goals as goal

pub loop-i-init : goal.loop-i-init
loop-i-init c = search blanks

pub bounds-s-i : goal.bounds-s-i
bounds-s-i c = search blanks

pub is_separator-requires : goal.is_separator-requires
is_separator-requires c = search blanks

pub overflow_add-i : goal.overflow_add-i
overflow_add-i c = search blanks

pub loop-i-smaller-then-is_separator : goal.loop-i-smaller-then-is_separator
loop-i-smaller-then-is_separator c = search blanks

pub loop-i-preserved-then-is_separator : goal.loop-i-preserved-then-is_separator
loop-i-preserved-then-is_separator c = (search blanks, omega arith, omega arith)

pub comment_at-requires : goal.comment_at-requires
comment_at-requires c = search blanks

pub overflow_add-i-then-comment_at : goal.overflow_add-i-then-comment_at
overflow_add-i-then-comment_at c = search blanks

pub comment_end-i-requires : goal.comment_end-i-requires
comment_end-i-requires c = search blanks

pub loop-i-smaller : goal.loop-i-smaller
loop-i-smaller c = omega (arith, c.comment_end-i.ensures.from)

pub loop-i-preserved : goal.loop-i-preserved
loop-i-preserved c = (search blanks, omega (arith, c.comment_end-i.ensures.from), omega (arith, c.comment_end-i.ensures.to))

pub returns-else-comment_at : goal.returns-else-comment_at
returns-else-comment_at c = record { is = search blanks; from = omega arith; to = omega arith }

pub returns : goal.returns
returns c = record { is = search blanks; from = omega arith; to = omega arith }
