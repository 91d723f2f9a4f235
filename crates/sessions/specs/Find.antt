-- The lowest number below n that passes a test; a test of every number below n; a function changed at one number; the first n values of
-- a function.
use Rattle.std.specs.Prelude.{ℕ, zero, suc, Bool, true, ◌&&◌, cond, List, [], ◌∷◌, ◌++◌, eqb}

pub data Found : Type 0 where
  none : Found
  at : ℕ → Found

abbrev pub or_else : Found → Found → Found
or_else none g = g
or_else (at i) g = at i

-- the number found, and n where there is none
abbrev pub or_none : Found → ℕ → ℕ
or_none none n = n
or_none (at i) n = i

unfoldable pub find : ℕ → (ℕ → Bool) → Found
find zero p = none
find (suc n) p = or_else (find n p) (cond (p n) (at n) none)

unfoldable pub all : ℕ → (ℕ → Bool) → Bool
all zero p = true
all (suc n) p = all n p && p n

unfoldable pub replaced : {A : Type 0} → (ℕ → A) → ℕ → A → ℕ → A
replaced f s x i = cond (eqb i s) x (f i)

unfoldable pub first : {A : Type 0} → ℕ → (ℕ → A) → List A
first zero f = []
first (suc n) f = first n f ++ (f n ∷ [])
