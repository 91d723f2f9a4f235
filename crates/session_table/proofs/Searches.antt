-- What a search found, as the calls' laws ask for it.
use Prim.Native.Nat.{ℕ}
use mathlib.Core.Path.{◌≡◌, ap, sym}
use native.Mathlib.Omega.{arith}
use Rattle.sessions.specs.Find.{Found, none, at, or_none}

pub none≢at : {s : ℕ} → none ≡ at s → ⊥
none≢at e = let z : ◌≡◌ {A = ℕ} 0 1 = cc in omega arith

pub found_number : {f : Found} {s : ℕ} (n : ℕ) → f ≡ at s → s ≡ or_none f n
found_number n e = sym (ap (λ f. or_none f n) e)
