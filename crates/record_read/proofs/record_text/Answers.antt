-- `record_read::record_text` meets its contract.
use native.Mathlib.Omega.{arith}
use Rattle.record_read.proofs.Shown.{no_text, the_text, text_inside}
use Rattle.record_read.proofs.record_text.Goals as goal

pub returns-in_default : goal.returns-in_default
returns-in_default c = search no_text

pub overflow_add-end : goal.overflow_add-end
overflow_add-end c = omega (arith, text_inside _ _ c.read_record.ensures _ c.in-Ok.is)

pub slice_bounds-result-end-2 : goal.slice_bounds-result-end-2
slice_bounds-result-end-2 c = omega (arith, text_inside _ _ c.read_record.ensures _ c.in-Ok.is)

pub returns : goal.returns
returns c = search the_text
