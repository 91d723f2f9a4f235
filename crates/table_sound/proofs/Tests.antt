-- What the library's tests of all say, as tests of every number below n.
use Prim.Native.Nat.{ℕ, ◌<◌}
use mathlib.Core.Path.{◌≡◌, ap, sym}
use mathlib.Core.Bool.{Bool, true, false, not}
use mathlib.Core.List.{List}
use native.Mathlib.Omega.{arith}
use lib.Dec.{eqb}
use lib.ListN.{length, get_or}
use Rattle.std.proofs.lemmas.List.FromFn.{length-range_with_len, get_or-range_with_len}
use Rattle.std.specs.Bool.{MatchBool}
use Rattle.std.specs.List.{AllWithin, HoldsAt, range_with_len}
use Rattle.sessions.proofs.Loops.{all_holds, all_fails}
use Rattle.sessions.specs.Find.{all}

-- a ticket is none of those seen
pub new_is : (xs : List ℕ) (t : ℕ) (r : Bool)
    → MatchBool r ((k : ℕ) × (k < length xs) × HoldsAt (λ y. eqb y t ≡ true) xs k) (AllWithin (λ y. eqb y t ≡ false) xs 0 (length xs))
    → not r ≡ all (length xs) (λ i. not (eqb (get_or xs i 0) t))
new_is xs t true h = sym (all_fails _ (length xs) {i = h.0} h.1 (ap not (h.2 0)))
new_is xs t false h = sym (all_holds _ (length xs) (λ i l. ap not (h i 0 (omega arith) l)))

-- each number of a range passes
module _ (p : ℕ → Bool) (n : ℕ) where
  abbrev pub numbers : List ℕ
  numbers = range_with_len 0 n

  its_place : (i d : ℕ) → i < n → get_or numbers i d ≡ i
  its_place i d l = omega (arith, get_or-range_with_len 0 n i d l)

  pub all_is : (r : Bool)
      → MatchBool r (AllWithin (λ i. i < n → p i ≡ true) numbers 0 (length numbers))
      ((k : ℕ) × (k < length numbers) × HoldsAt (λ i. i < n → p i ≡ false) numbers k)
      → r ≡ all n p
  all_is true h =
      sym (all_holds p n
      (λ i l. (rw (its_place i 0 l) at (h i 0 (omega arith) (omega (arith, length-range_with_len 0 n)))) l))
  all_is false h =
      let l : h.0 < n = omega (arith, h.1, length-range_with_len 0 n) in
      sym (all_fails p n {i = h.0} l ((rw (its_place h.0 0 l) at (h.2 0)) l))
