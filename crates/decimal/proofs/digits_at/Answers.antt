use mathlib.Core.Path.{sym, ◌∙◌}
use Prim.Native.Nat.{ℕ, ◌+◌, ◌-◌, ◌*◌, ◌^◌, ◌≤◌, ◌<◌}
use native.Mathlib.Omega.{arith}
use mathlib.Core.List.{List}
use lib.ListN.{length, take, drop, length-take}
use Rattle.decimal.proofs.Laws.{tenfold, ten_le}
use Rattle.decimal.proofs.ReadLaws.{read_start, read_end, read_short, field_is, read_stop, read_on, low_byte, high_byte, digit_byte}
use Rattle.decimal.proofs.digits_at.Goals as goal

-- a number of fewer than sixteen digits has room for one more
room : (acc i w : ℕ) → acc < 10 ^ i → i < w → w ≤ 16 → acc < 10 ^ 15
room acc i w h hi hw =
    let le : i ≤ 15 = omega arith in
    omega (arith, ten_le i 15 le)

in_field : (s : List ℕ) (at w : ℕ) → length (take (at + w - at) (drop at s)) ≤ w
in_field s at w = omega (arith, length-take (at + w - at) (drop at s))

-- one digit more
more : (acc i x : ℕ) → acc < 10 ^ i → x < 10 → acc * 10 + x < 10 ^ (i + 1)
more acc i x h hx = omega (arith, tenfold i)

pub returns-then-s-at : goal.returns-then-s-at
returns-then-s-at c = read_short _ _ _ (omega arith) (omega arith)

pub returns-then-s-at-2 : goal.returns-then-s-at-2
returns-then-s-at-2 c = read_short _ _ _ (omega arith) (omega arith)

pub loop-b-init : goal.loop-b-init
loop-b-init c = (omega arith, read_start c.args.s.now c.args.at c.args.width (omega arith))

pub returns-then-b-lt48 : goal.returns-then-b-lt48
returns-then-b-lt48 c =
    let l = c.loop-b in
    let a = c.args in
    sym (read_stop (field_is a.s.now a.at a.width) l.b-index l.acc (omega arith) (low_byte _ c.if-b-lt48.true)) ∙ l.invariant.1

pub returns-then-b-gt57 : goal.returns-then-b-gt57
returns-then-b-gt57 c =
    let l = c.loop-b in
    let a = c.args in
    sym (read_stop (field_is a.s.now a.at a.width) l.b-index l.acc (omega arith) (high_byte _ c.if-b-gt57.true)) ∙ l.invariant.1

pub overflow_mul-acc : goal.overflow_mul-acc
overflow_mul-acc c =
    let l = c.loop-b in
    omega (arith, room l.acc l.b-index c.args.width l.invariant.0 (omega (arith, in_field c.args.s.now c.args.at c.args.width)) (omega arith))

pub overflow_add-acc : goal.overflow_add-acc
overflow_add-acc c =
    let l = c.loop-b in
    omega (arith, room l.acc l.b-index c.args.width l.invariant.0 (omega (arith, in_field c.args.s.now c.args.at c.args.width)) (omega arith))

pub loop-b-preserved : goal.loop-b-preserved
loop-b-preserved c =
    let l = c.loop-b in
    let a = c.args in
    let digit = digit_byte _ c.if-b-lt48.false (omega arith) in (
      more l.acc l.b-index c.from.result l.invariant.0 (omega (arith, c.from.ensures)),
      rw c.from.ensures (sym (read_on (field_is a.s.now a.at a.width) l.b-index l.acc (omega arith) digit)) ∙ l.invariant.1,
    )

pub returns : goal.returns
returns c =
    let l = c.loop-b in
    let a = c.args in
    sym (read_end (field_is a.s.now a.at a.width) l.b-index l.acc (omega arith)) ∙ l.invariant.1
