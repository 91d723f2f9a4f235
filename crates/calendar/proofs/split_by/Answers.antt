-- `calendar::split_by` meets its contract: what is counted and what is left are the number.
use Prim.Native.Nat.{ℕ, ◌+◌, ◌-◌, ◌*◌, ◌/◌, ◌%◌, ◌≤◌, ◌<◌}
use mathlib.Core.Path.{◌≡◌}
use native.Mathlib.Nat.{add-mul, div-le_self}
use native.Mathlib.Omega.{arith}
use Rattle.laws.proofs.Parted.{parted}
use Rattle.calendar.proofs.split_by.Goals as goal

-- all were counted
all_counted : (n power some : ℕ) → some * power ≤ n → n - some * power < power → (some ≡ n / power) × (n - some * power ≡ n % power)
all_counted n power some le less = parted some power (n - some * power) n (omega arith) less

-- one was not
one_more : (n power some : ℕ) → some * power ≤ n → n < some * power + 2 * power → power ≤ n - some * power
    → (some + 1 ≡ n / power) × (n - some * power - power ≡ n % power)
one_more n power some le most more =
    let e : (some + 1) * power ≡ some * power + power = omega (arith, add-mul some 1 power) in
    parted (some + 1) power (n - some * power - power) n (omega arith) (omega arith)

pub returns-then-rest-power : goal.returns-then-rest-power
returns-then-rest-power c = all_counted _ _ _ c.requires.0 c.if-rest-power.true

pub overflow_add-result : goal.overflow_add-result
overflow_add-result c =
    let a = c.args in
    omega (arith, (one_more a.n a.power a.some c.requires.0 c.requires.1 c.if-rest-power.false).0, div-le_self a.n a.power)

pub returns : goal.returns
returns c = one_more _ _ _ c.requires.0 c.requires.1 c.if-rest-power.false
