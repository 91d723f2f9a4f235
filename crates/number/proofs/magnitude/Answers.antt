-- `number::magnitude` meets its contract.
use mathlib.Core.Path.{sym, ◌∙◌}
use native.Mathlib.Omega.{arith}
use lib.ListN.{get_or}
use Rattle.decimal.proofs.Laws.{digit_high}
use Rattle.number.proofs.Digits.{digit_on, other_on, all_read, starts, grows, room, most}
use Rattle.number.proofs.magnitude.Goals as goal
use Rattle.number.proofs.magnitude.Goals.{then-is_ascii_digit, else-is_ascii_digit}

pub loop-b-init : goal.loop-b-init
loop-b-init c = (omega arith, starts _)

pub overflow_mul-m : goal.overflow_mul-m
overflow_mul-m c = omega (arith, room _ _ _ c.loop-b.invariant.0 c.loop-b-test.true c.requires)

pub overflow_add-m : goal.overflow_add-m
overflow_add-m c =
    omega (
      arith,
      room _ _ _ c.loop-b.invariant.0 c.loop-b-test.true c.requires,
      digit_high (get_or c.args.bytes.now c.loop-b.b-index 0) (sym c.is_ascii_digit.ensures.value ∙ c.if-is_ascii_digit.true),
      c.from.ensures,
    )

pub loop-b-preserved : goal.loop-b-preserved
loop-b-preserved c =
    let now = c.loop-b.invariant in
    let b = get_or c.args.bytes.now c.loop-b.b-index 0 in
    let is = sym c.is_ascii_digit.ensures.value in
    elim c.if-is_ascii_digit.branch [
      | then-is_ascii_digit w ↦ rw w.m-is (
        grows _ _ _ now.0 (omega (arith, digit_high b (is ∙ w.if-is_ascii_digit.true), w.from.ensures)),
        digit_on _ _ _ now.1 _ c.loop-b-test.true (is ∙ w.if-is_ascii_digit.true) w.from.ensures,
      )
      | else-is_ascii_digit w ↦ rw w.m-is (
        omega (arith, grows _ _ 0 now.0 (omega arith)),
        other_on _ _ _ now.1 c.loop-b-test.true (is ∙ w.if-is_ascii_digit.false),
      )
    ]

pub returns : goal.returns
returns c = (all_read _ _ _ c.loop-b.invariant.1 c.loop-b-test.false, most _ _ c.loop-b.invariant.0 (omega arith))
