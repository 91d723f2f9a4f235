use Prim.Native.Nat.{ℕ, ◌^◌, ◌≤◌}
use mathlib.Core.Path.{◌≡◌}
use native.Mathlib.Omega.{arith}
use Rattle.decimal.proofs.Laws.{ten_le}
use Rattle.decimal.proofs.ten_to.Goals as goal

-- below the last place a power has room for one more digit
room : (i power : ℕ) → i ≤ 14 → power ≡ 10 ^ i → power ≤ 10 ^ 14
room i power h e = omega (arith, ten_le i 14 h)

pub overflow_mul-power : goal.overflow_mul-power
overflow_mul-power c =
    let l = c.loop-i in
    omega (arith, room l._i l.power (omega arith) l.invariant)
