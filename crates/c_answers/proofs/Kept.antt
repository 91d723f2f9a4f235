-- What a C program gets for a refusal is not 0, and holds the number and the place whole.
use Prim.Native.Nat.{ℕ, ◌/◌, ◌%◌, ◌≤◌, ◌<◌}
use mathlib.Core.Path.{◌≡◌}
use native.Mathlib.Omega.{arith}
use Rattle.counts.specs.Result.{refused}
use Rattle.c_answers.specs.Returned.{place_limit, returned}

module _ (number place : ℕ) (low : 1 ≤ number) (high : number ≤ 14) (inside : place < place_limit) where
  pub refusal_is_told : 0 < returned {A = ℕ} (refused number place)
  refusal_is_told = omega arith

  pub number_is_kept : returned {A = ℕ} (refused number place) % 256 ≡ number
  number_is_kept = omega arith

  pub place_is_kept : returned {A = ℕ} (refused number place) / 256 ≡ place
  place_is_kept = omega arith
