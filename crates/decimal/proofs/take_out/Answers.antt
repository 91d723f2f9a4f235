use Prim.Native.Nat.{ℕ, ◌+◌, ◌-◌, ◌*◌, ◌≤◌, ◌<◌}
use mathlib.Core.Path.{◌≡◌}
use native.Mathlib.Nat.{add-mul, lt_of_mul-lt-mul_right}
use native.Mathlib.Omega.{arith}
use Rattle.laws.proofs.Parted.{parted}
use Rattle.decimal.proofs.take_out.Goals as goal

-- a power goes nine times at most into what is less than ten of it
few : (n power times rest : ℕ) → times * power + rest ≡ n → n < 10 * power → times < 10
few n power times rest e small =
    let less : times * power < 10 * power = omega arith in
    lt_of_mul-lt-mul_right power less

module _ (n power times rest : ℕ) (taken : times * power + rest ≡ n) where
  -- two more
  two_more : power + power ≤ rest → (times + 2) * power + (rest - (power + power)) ≡ n
  two_more h = omega (arith, add-mul times 2 power)

  two_fit : power + power ≤ rest → n < 10 * power → times + 2 < 10
  two_fit h small = few n power (times + 2) (rest - (power + power)) (two_more h) small

  -- one more
  one_more : power ≤ rest → (times + 1) * power + (rest - power) ≡ n
  one_more h = omega (arith, add-mul times 1 power)

  one_fits : power ≤ rest → n < 10 * power → times + 1 < 10
  one_fits h small = few n power (times + 1) (rest - power) (one_more h) small

pub overflow_add-times : goal.overflow_add-times
overflow_add-times c =
    let l = c.loop-rest in
    let a = c.args in
    omega (arith, two_fit a.n a.power l.times l.rest l.invariant c.if-two-rest.true c.requires.0)

pub loop-rest-preserved-then-two-rest : goal.loop-rest-preserved-then-two-rest
loop-rest-preserved-then-two-rest c =
    let l = c.loop-rest in
    let a = c.args in
    two_more a.n a.power l.times l.rest l.invariant c.if-two-rest.true

pub overflow_add-times-else-two-rest : goal.overflow_add-times-else-two-rest
overflow_add-times-else-two-rest c =
    let l = c.loop-rest in
    let a = c.args in
    omega (arith, one_fits a.n a.power l.times l.rest l.invariant (omega arith) c.requires.0)

pub loop-rest-preserved : goal.loop-rest-preserved
loop-rest-preserved c =
    let l = c.loop-rest in
    let a = c.args in
    one_more a.n a.power l.times l.rest l.invariant (omega arith)

pub returns : goal.returns
returns c =
    let l = c.loop-rest in
    let a = c.args in
    parted l.times a.power l.rest a.n l.invariant c.loop-rest-test.false
