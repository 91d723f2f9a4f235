use mathlib.Core.Path.{◌≡◌, refl, sym, ap, ◌∙◌}
use mathlib.Core.List.{List}
use Prim.Native.Nat.{ℕ, zero, suc, ◌+◌, ◌-◌, ◌*◌, ◌/◌, ◌%◌, ◌^◌, ◌≤◌, ◌<◌}
use native.Mathlib.Nat.{pow-suc, mod-lt, div-lt_iff_lt-mul}
use native.Mathlib.Omega.{arith}
use lib.ListN.{set, length-set}
use Rattle.decimal.specs.Digits.{digits}
use Rattle.field.specs.Part.{put}
use Rattle.field.proofs.Put.{put_nil, put_cons}
use Rattle.decimal.proofs.Laws.{ten_pos, ten_le, digits_first, length_digits}
use Rattle.decimal.proofs.put_digits.Goals as goal

-- the power below goes less than ten times into what is left
below_ten : (left rest power : ℕ) → 0 < left → rest < 10 ^ left → power ≡ 10 ^ (left - 1) → rest < 10 * power
below_ten zero rest power some h e = absurd (omega arith)
below_ten (suc k) rest power some h e =
    let f : suc k - 1 ≡ k = omega arith in
    omega (arith, h, rw f at e, pow-suc 10 k)

-- so that is one digit
one_digit : (rest power q : ℕ) → rest < 10 * power → q ≡ rest / power → q < 10
one_digit rest power q h e = rw e ((div-lt_iff_lt-mul {k = power} (omega arith)).1 h)

-- the power below is the sixteenth at most
sixteenth : (left power : ℕ) → left ≤ 16 → power ≡ 10 ^ (left - 1) → power ≤ 10 ^ 15
sixteenth left power h e =
    let le : left - 1 ≤ 15 = omega arith in
    omega (arith, ten_le (left - 1) 15 le)

-- one turn
turn : (out : List ℕ) (next left rest power q v : ℕ) → 0 < left → rest < 10 ^ left → power ≡ 10 ^ (left - 1) → q ≡ rest / power → v ≡ rest % power
    → put (set out next (48 + q)) (next + 1) (digits (left - 1) v) ≡ put out next (digits left rest)
turn out next zero rest power q v some h p e f = absurd (omega arith)
turn out next (suc k) rest power q v some h p e f =
    let less : suc k - 1 ≡ k = omega arith in
    let is : power ≡ 10 ^ k = rw less at p in
    rw less
    (sym (put_cons out next (48 + q) (digits k v))
    ∙ ap (put out next) (digits_first k rest q v h (e ∙ ap (λ (m : ℕ). rest / m) is) (f ∙ ap (λ (m : ℕ). rest % m) is)))

-- what is left fits the places left
fits : (left rest power v : ℕ) → power ≡ 10 ^ (left - 1) → v ≡ rest % power → v < 10 ^ (left - 1)
fits left rest power v p e = rw (e, p) (mod-lt rest (ten_pos (left - 1)))

-- no digit is left
done : (out : List ℕ) (next left rest : ℕ) → left ≤ 0 → put out next (digits left rest) ≡ out
unfolding digits
done out next zero rest h = put_nil out next
done out next (suc k) rest h = absurd (omega arith)

pub loop-i-init : goal.loop-i-init
loop-i-init c =
    let a = c.args in
    let e : a.width - 0 ≡ a.width = omega arith in
    let f : a.at + 0 ≡ a.at = omega arith in
    rw (e, f) (c.requires.1, refl, refl)

pub take_out-digit-requires : goal.take_out-digit-requires
take_out-digit-requires c =
    let l = c.loop-i in
    let left = c.args.width - l.i in
    let power = c.ten_to in
    (below_ten left l.rest power.result (omega arith) l.invariant.0 power.ensures, sixteenth left power.result (omega arith) power.ensures)

pub overflow_add-out : goal.overflow_add-out
overflow_add-out c =
    let l = c.loop-i in
    let left = c.args.width - l.i in
    let power = c.ten_to in
    let digit = c.take_out-digit in
    let less = below_ten left l.rest power.result (omega arith) l.invariant.0 power.ensures in
    omega (arith, one_digit l.rest power.result digit.result.times less digit.ensures.0)

pub loop-i-preserved : goal.loop-i-preserved
loop-i-preserved c =
    let l = c.loop-i in
    let a = c.args in
    let left = a.width - l.i in
    let power = c.ten_to in
    let digit = c.take_out-digit in
    let e : a.width - (l.i + 1) ≡ left - 1 = omega arith in
    let f : a.at + (l.i + 1) ≡ a.at + l.i + 1 = omega arith in
    rw (e, f) (
      fits left l.rest power.result digit.result.rest power.ensures digit.ensures.1,
      simp length-set l.invariant.1,
      turn l.out (a.at + l.i) left l.rest power.result digit.result.times digit.result.rest (omega arith) l.invariant.0 power.ensures
          digit.ensures.0 digit.ensures.1
          ∙ l.invariant.2,
    )

pub returns : goal.returns
returns c =
    let l = c.loop-i in
    let a = c.args in
    let next : l.i ≡ a.width = omega arith in
    record {
      next = ap (λ (k : ℕ). a.at + k) (sym (length_digits a.width a.n));
      bytes = sym (done l.out (a.at + l.i) (a.width - l.i) l.rest (omega (arith, next))) ∙ l.invariant.2;
    }
