-- `scan::is_all_text` meets its contract: at every turn it is known whether the run has ended before this byte.
use Rattle.scan.specs.Kinds.{is_text_byte}
use Rattle.scan.proofs.Runs.{Passed}
use Rattle.scan.proofs.is_all_text.Given as goal

abbrev pub invariant-loop-b : goal.invariant-loop-b
invariant-loop-b l = Passed is_text_byte l.s l.b-index l.all
