-- The laws that a loop cites: over a test of every number below n, over a search for the lowest, over the first n values.
use Prim.Native.Nat.{ℕ, zero, suc, ◌+◌, ◌<◌}
use mathlib.Core.Path.{◌≡◌, refl, sym, ◌∙◌, ap}
use mathlib.Core.Bool.{Bool, true, false, ◌&&◌, and-false, and-true, and_assoc}
use mathlib.Core.Logic.{⊎_elim}
use mathlib.Core.List.{List, [], ◌∷◌, ◌++◌}
use native.Mathlib.Nat.{eq-or-lt_of_le}
use native.Mathlib.Numerals.{add-one}
use native.Mathlib.Omega.{arith}
use lib.ListN.{length, length-append}
use Rattle.sessions.specs.Find.{Found, none, at, find, all, first}
use Rattle.sessions.specs.Sound.{in_range_and_real, all_real}
use Rattle.sessions.specs.declared.Answer.{Answer}
use Rattle.sessions.proofs.Laws.{Search, hit, search_find}

-- ---- every number below n

pub all_none : (p : ℕ → Bool) → all 0 p ≡ true
unfolding all
all_none p = refl

pub all_more : (p : ℕ → Bool) {n : ℕ} → all n p ≡ true → p n ≡ true → all (n + 1) p ≡ true
unfolding all
all_more p {n} h e = rw (add-one, h, e)

pub all_holds : (p : ℕ → Bool) (n : ℕ) → ((i : ℕ) → i < n → p i ≡ true) → all n p ≡ true
unfolding all
all_holds p zero h = refl
all_holds p (suc n) h = rw (all_holds p n (λ i l. h i (omega arith)), h n (omega arith))

pub all_fails : (p : ℕ → Bool) (n : ℕ) {i : ℕ} → i < n → p i ≡ false → all n p ≡ false
unfolding all
all_fails p zero h e = absurd (omega arith)
all_fails p (suc n) {i} h e =
    ⊎_elim (λ q. rw (← q, e, and-false)) (λ l. rw (all_fails p n l e)) (eq-or-lt_of_le {n = i} {m = n} (omega arith))

pub all_end : (p : ℕ → Bool) {i n : ℕ} → all i p ≡ true → i ≡ n → all n p ≡ true
all_end p h e = rw (← e) h

pub all_same : (p q : ℕ → Bool) (n : ℕ) → ((i : ℕ) → i < n → p i ≡ q i) → all n p ≡ all n q
unfolding all
all_same p q zero h = refl
all_same p q (suc n) h = rw (all_same p q n (λ i l. h i (omega arith)), h n (omega arith))

-- ---- the lowest number below n

pub find_nothing : (p : ℕ → Bool) (n : ℕ) → ((i : ℕ) → i < n → p i ≡ false) → find n p ≡ none
unfolding find
find_nothing p zero h = refl
find_nothing p (suc n) h = rw (find_nothing p n (λ i l. h i (omega arith)), h n (omega arith))

-- where a search ends
pub find_hit : (p : ℕ → Bool) (m : ℕ) {n : ℕ} → find n p ≡ none → p n ≡ true → n < m → find m p ≡ at n
unfolding find
find_hit p zero h e l = absurd (omega arith)
find_hit p (suc m) {n} h e l =
    ⊎_elim (λ q. rw (← q, h, e)) (λ k. rw (find_hit p m h e k)) (eq-or-lt_of_le {n = n} {m = m} (omega arith))

-- what a search says that found one
pub find_at : (p : ℕ → Bool) (n : ℕ) {i : ℕ} → find n p ≡ at i → (i < n) × (p i ≡ true)
find_at p n {i} e = go (find n p) (search_find n p) e
  where
    go : (f : Found) → Search n p f → f ≡ at i → (i < n) × (p i ≡ true)
    go none w q = let z : ◌≡◌ {A = ℕ} 0 1 = cc in absurd (omega arith)
    go (at j) (hit k t m) q = let z : j ≡ i = cc in rw (← z) (k, t)

-- ---- the first n values

pub length_first : {A : Type 0} (n : ℕ) (f : ℕ → A) → length (first n f) ≡ n
unfolding first
length_first zero f = refl
length_first (suc n) f = rw (length-append, length_first n f, add-one)

pub first_same : {A : Type 0} (n : ℕ) (f g : ℕ → A) → ((i : ℕ) → i < n → f i ≡ g i) → first n f ≡ first n g
unfolding first
first_same zero f g h = refl
first_same (suc n) f g h = rw (first_same n f g (λ i l. h i (omega arith)), h n (omega arith))

pub all_real_append : (l m : List Answer) → all_real (l ++ m) ≡ (all_real l && all_real m)
unfolding all_real
all_real_append [] m = refl
all_real_append (a ∷ l) m = ap (λ r. in_range_and_real a && r) (all_real_append l m) ∙ sym (and_assoc (in_range_and_real a) (all_real l) (all_real m))

pub all_real_lem : (n : ℕ) (f : ℕ → Answer) → all_real (first n f) ≡ all n (λ i. in_range_and_real (f i))
unfolding first all all_real
all_real_lem zero f = refl
all_real_lem (suc n) f = all_real_append (first n f) (f n ∷ []) ∙ rw (all_real_lem n f, and-true)
