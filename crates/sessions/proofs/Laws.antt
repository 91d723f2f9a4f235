-- The laws of find, all, replaced and numbered, and what the tests of the calls say.
use Prim.Native.Nat.{ℕ, zero, suc, ◌+◌, ◌-◌, ◌≤◌, ◌<◌}
use mathlib.Core.Path.{◌≡◌, refl, ap, sym}
use mathlib.Core.Bool.{Bool, true, false, cond, ◌&&◌, ◌||◌, not}
use mathlib.Core.Logic.{◌⊎◌, inl, inr, ⊎_elim}
use mathlib.Core.List.{List, [], ◌∷◌, ◌++◌, append_assoc}
use native.Mathlib.Nat.{eq-or-lt_of_le, eq-zero-or-pos, add-zero, add-suc, suc-add}
use native.Mathlib.Omega.{arith}
use borrow.Author.Tests.{eq-eqb, ne_eqb, eqb-true, eqb-false, leb-true, not-true}
use lib.Dec.{eqb, leb}
use lib.ListN.{length}
use Rattle.laws.proofs.Choose.{halves}
use Rattle.sessions.specs.Find.{Found, none, at, or_else, find, all, replaced}
use Rattle.sessions.specs.declared.Answer.{Answer}
use Rattle.sessions.specs.Table.{Session, within, lowest, names, is_closed, is_ready, numbered, records}

-- what a search found
pub data Search (n : ℕ) (p : ℕ → Bool) : Found → Type 0 where
  miss : ((j : ℕ) → j < n → p j ≡ false) → Search n p none
  hit : {i : ℕ} → i < n → p i ≡ true → ((j : ℕ) → j < i → p j ≡ false) → Search n p (at i)

more : (n : ℕ) (p : ℕ → Bool) (f : Found) (b : Bool) → Search n p f → p n ≡ b → Search (suc n) p (or_else f (cond b (at n) none))
more n p none true (miss h) e = hit {i = n} (omega arith) e h
more n p none false (miss h) e =
    miss (λ j l. ⊎_elim (λ q. rw q e) (λ k. h j k) (eq-or-lt_of_le {n = j} {m = n} (omega arith)))
more n p (at i) b (hit l t h) e = hit {i = i} (omega arith) t h

pub search_find : (n : ℕ) (p : ℕ → Bool) → Search n p (find n p)
unfolding find
search_find zero p = miss (λ j l. absurd (omega arith))
search_find (suc n) p = more n p (find n p) (p n) (search_find n p) refl

-- what was found, where to have found nothing cannot be
pub record Finds (n : ℕ) (p : ℕ → Bool) (P : Found → Type 0) : Type 0 where
  pub number : ℕ
  pub found : find n p ≡ at number
  pub below : number < n
  pub passes : p number ≡ true
  pub so : P (at number)

pub must_find : (n : ℕ) (p : ℕ → Bool) (P : Found → Type 0) → (P none → ⊥) → P (find n p) → Finds n p P
must_find n p P not_None h = go (find n p) refl (search_find n p) h
  where
    go : (f : Found) → find n p ≡ f → Search n p f → P f → Finds n p P
    go none e w d = absurd (not_None d)
    go (at i) e (hit l t m) d = record { number = i; found = e; below = l; passes = t; so = d }

pub either : (a b : ℕ) → (a ≡ b) ⊎ (a ≡ b → ⊥)
either a b =
    ⊎_elim (λ e. ⊎_elim (λ f. inl (omega arith)) (λ l. inr (λ z. omega arith)) (eq-zero-or-pos (b - a))) (λ l. inr (λ z. omega arith)) (eq-zero-or-pos (a - b))

module _ {A : Type 0} (f : ℕ → A) (s : ℕ) (x : A) where
  pub replaced_same : replaced f s x s ≡ x
  unfolding replaced
  replaced_same = rw (eq-eqb s s refl)

  pub replaced_other : {i : ℕ} → (i ≡ s → ⊥) → replaced f s x i ≡ f i
  unfolding replaced
  replaced_other {i} n = rw (ne_eqb i s n)

  -- whatever holds of the new one and of each other holds of all
  pub replaced_all : (P : ℕ → A → Type 0) → P s x → ((i : ℕ) → (i ≡ s → ⊥) → P i (f i)) → (i : ℕ) → P i (replaced f s x i)
  replaced_all P h g i = ⊎_elim (λ (e : i ≡ s). rw e (rw replaced_same h)) (λ (n : i ≡ s → ⊥). rw (replaced_other n) (g i n)) (either i s)

pub or_cases : (a b : Bool) → (a || b) ≡ true → (a ≡ true) ⊎ (b ≡ true)
or_cases true b h = inl refl
or_cases false b h = inr h

pub differ_true : (a b : ℕ) → not (eqb a b) ≡ true → a ≡ b → ⊥
differ_true a b h = eqb-false a b (not-true (eqb a b) h)

-- each one of a whole that holds, and the whole of what holds of each
pub all_at : (p : ℕ → Bool) (n : ℕ) {i : ℕ} → all n p ≡ true → i < n → p i ≡ true
unfolding all
all_at p zero h l = absurd (omega arith)
all_at p (suc n) {i} h l =
    let k = halves (all n p) (p n) h in
    ⊎_elim (λ q. rw q k.1) (λ m. all_at p n k.0 m) (eq-or-lt_of_le {n = i} {m = n} (omega arith))

pub all_make : (p : ℕ → Bool) (n : ℕ) → ((i : ℕ) → i < n → p i ≡ true) → all n p ≡ true
unfolding all
all_make p zero h = refl
all_make p (suc n) h = rw (all_make p n (λ i l. h i (omega arith)), h n (omega arith))

-- what the tests of the calls say
pub in_range_lem : (a n b : ℕ) → within a n b ≡ true → (a ≤ n) × (n ≤ b)
in_range_lem a n b e = let h = halves (leb a n) (leb n b) e in (leb-true a n h.0, leb-true n b h.1)

pub are_named : (x : Session) (t c : ℕ) → names x t c ≡ true → (x.ticket ≡ t) × (lowest x ≡ c)
unfolding names
are_named x t c e = let h = halves (eqb x.ticket t) (eqb (lowest x) c) e in (eqb-true _ _ h.0, eqb-true _ _ h.1)

pub is_ready_lem : (p t : ℕ) (x : Session) → is_ready p t x ≡ true → (x.program ≡ p) × (x.ticket ≡ t) × (length x.answers ≡ x.count)
unfolding is_ready is_closed
is_ready_lem p t x e =
    let h = halves (eqb x.program p && eqb x.ticket t) (is_closed x) e in
    let k = halves (eqb x.program p) (eqb x.ticket t) h.0 in
    (eqb-true _ _ k.0, eqb-true _ _ k.1, eqb-true _ _ (halves x.taken (eqb (length x.answers) x.count) h.1).1)

pub head_same : {A : Type 0} {x y : A} {l m : List A} → x ∷ l ≡ y ∷ m → x ≡ y
head_same e = cc

pub nil≢cons : {A : Type 0} {x : A} {l : List A} → [] ≡ x ∷ l → ⊥
nil≢cons e = let z : ◌≡◌ {A = ℕ} 0 1 = cc in omega arith

pub nil≢mid : {A : Type 0} (l m : List A) (x : A) → [] ≡ l ++ (x ∷ m) → ⊥
nil≢mid [] m x e = nil≢cons e
nil≢mid (y ∷ l) m x e = nil≢cons e

pub tail_same : {A : Type 0} {x y : A} {l m : List A} → x ∷ l ≡ y ∷ m → l ≡ m
tail_same e = cc

pub snoc_alone : {A : Type 0} (l : List A) (x y : A) → l ++ (x ∷ []) ≡ y ∷ [] → l ≡ []
snoc_alone [] x y e = refl
snoc_alone (z ∷ l) x y e = absurd (nil≢mid l [] x (sym (tail_same e)))

-- by cases on a test
pub if_cond : {A : Type 0} (P : A → Type 0) (b : Bool) {x y : A} → (b ≡ true → P x) → (b ≡ false → P y) → P (cond b x y)
if_cond P true f g = f refl
if_cond P false f g = g refl

-- one more answer has the next number
pub numbered_more : (k : ℕ) (l : List Answer) (a : Answer) → numbered k (l ++ (a ∷ [])) ≡ numbered k l ++ ((k + length l, a) ∷ [])
unfolding numbered
numbered_more k [] a = rw add-zero
numbered_more k (b ∷ l) a = rw (add-suc, ← suc-add) (ap (λ (r : List (ℕ × Answer)). (k, b) ∷ r) (numbered_more (suc k) l a))

-- the records of two lists, one after the other
pub records_append : (xs ys : List (ℕ × Answer)) → records (xs ++ ys) ≡ records xs ++ records ys
unfolding records
records_append [] ys = refl
records_append (x ∷ xs) ys = rw (records_append xs ys, append_assoc)
