use mathlib.Core.Path.{refl, ap}
use native.Mathlib.Omega.{arith}
use Rattle.slot.specs.Stored.{kind_of, code_of}
use Rattle.slot.proofs.numbers_of.Goals as goal

pub overflow_add-result : goal.overflow_add-result
unfolding kind_of
overflow_add-result c = omega (arith, ap kind_of c.in-Error.is)

pub returns-in-Processed : goal.returns-in-Processed
unfolding kind_of code_of
returns-in-Processed c = rw c.in-Processed.is (refl, refl)

pub returns-in-Error : goal.returns-in-Error
unfolding kind_of code_of
returns-in-Error c = rw c.in-Error.is (refl, refl)
