-- `record::record_length` meets its contract.
use native.Mathlib.Omega.{arith}
use Rattle.record.proofs.Lengths.{fixed_le, ten_digits}
use Rattle.record.proofs.record_length.Goals as goal

pub overflow_add-result : goal.overflow_add-result
overflow_add-result c =
    let fixed = fixed_le c.args.outcome _ c.fixed_length.ensures in
    omega (arith, ten_digits _ _ (omega arith) c.plain_width.ensures)

pub overflow_add-result-2 : goal.overflow_add-result-2
overflow_add-result-2 c =
    let fixed = fixed_le c.args.outcome _ c.fixed_length.ensures in
    omega (arith, ten_digits _ _ (omega arith) c.plain_width.ensures)
