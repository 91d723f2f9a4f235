-- `job::read_job` meets its contract.
use mathlib.Core.Path.{refl}
use native.Mathlib.Omega.{arith}
use Rattle.counts.specs.Result.Result.{done as whole}
use Rattle.statement.proofs.Passed.{handed_on}
use Rattle.job.proofs.Answers.{too_long, refused_first, first_in_file, taken_first, refused_later}
use Rattle.job.proofs.read_job.Goals as goal

pub returns-then-file-gt-FILE_BYTES : goal.returns-then-file-gt-FILE_BYTES
returns-then-file-gt-FILE_BYTES c =
    let a = c.args in
    rw c.into.ensures (too_long a.clause a.file.now a.offsets.now c.if-file-gt-FILE_BYTES.true)

pub returns-in_err-next : goal.returns-in_err-next
returns-in_err-next c =
    let a = c.args in
    rw (handed_on (λ n. n) c.from_residual.result c.in_err-next.field-0.0 c.from_residual.ensures)
    (refused_first a.clause a.file.now a.offsets.now c.if-file-gt-FILE_BYTES.false _ c.next_item-t.ensures.is _ c.in_err-next.ensures _ _ refl)

pub returns-in_err-taken : goal.returns-in_err-taken
returns-in_err-taken c =
    let a = c.args in
    rw (handed_on (λ n. n) c.from_residual-in_err-taken.result c.in_err-taken.field-0.0 c.from_residual-in_err-taken.ensures)
    (refused_later a.clause a.file.now a.offsets.now c.if-file-gt-FILE_BYTES.false _ c.next_item-t.ensures.is (whole (c.in_ok-next.field-0-0, c.in_ok-next.next)) c.in_ok-next.ensures _ _ refl _ _
    c.in_err-taken.ensures _ _ refl)

pub overflow_cast-offsets : goal.overflow_cast-offsets
overflow_cast-offsets c =
    let a = c.args in
    omega (
      arith,
      first_in_file a.clause a.file.now a.offsets.now c.if-file-gt-FILE_BYTES.false _ c.next_item-t.ensures.is (whole (c.in_ok-next.field-0-0, c.in_ok-next.next))
          c.in_ok-next.ensures _ _ refl,
    )

pub returns : goal.returns
returns c =
    let a = c.args in
    taken_first a.clause a.file.now a.offsets.now c.if-file-gt-FILE_BYTES.false _ c.next_item-t.ensures.is (whole (c.in_ok-next.field-0-0, c.in_ok-next.next)) c.in_ok-next.ensures _ _ refl _ _
    c.in_ok-taken.ensures _ refl c.rest_of.auto.offsets
