use Prim.Native.Nat.{ℕ, ◌^◌, ◌≤◌, ◌<◌}
use mathlib.Core.Path.{◌≡◌}
use native.Mathlib.Omega.{arith}
use Rattle.decimal.specs.Digits.{plain_width}
use Rattle.decimal.proofs.Laws.{tenfold}
use Rattle.decimal.proofs.PlainLaws.{plain_some, plain_le, plain_more}
use Rattle.decimal.proofs.plain_width.Goals as goal

too_narrow : (n w p : ℕ) → p ≤ n → p ≡ 10 ^ w → w < plain_width n
too_narrow n w p h e = plain_more n w (omega arith)

wide_enough : (n w p : ℕ) → n < p → p ≡ 10 ^ w → n < 10 ^ w
wide_enough n w p h e = omega arith

pub loop-power-init : goal.loop-power-init
loop-power-init c = omega (arith, plain_some c.args.n)

pub overflow_add-width : goal.overflow_add-width
overflow_add-width c = omega (arith, plain_le c.args.n 16 (omega arith) c.requires)

pub loop-power-smaller : goal.loop-power-smaller
loop-power-smaller c = omega (arith, too_narrow c.args.n c.loop-power.width c.loop-power.power c.loop-power-test.true c.loop-power.invariant.2)

pub loop-power-preserved : goal.loop-power-preserved
loop-power-preserved c =
    let l = c.loop-power in
    let narrow = too_narrow c.args.n l.width l.power c.loop-power-test.true l.invariant.2 in
    (omega arith, omega arith, omega (arith, l.invariant.2, tenfold l.width))

pub returns : goal.returns
returns c =
    let l = c.loop-power in
    let n = c.args.n in
    omega (arith, plain_le n l.width l.invariant.0 (wide_enough n l.width l.power c.loop-power-test.false l.invariant.2))
