-- How demand 1 is said of one call.
use Rattle.std.specs.Prelude.{ℕ, ◌≡◌}
use Rattle.counts.specs.Result.{Result, refused}

-- `Row v` has a case for each row of document 01 that gives the answer v: the answer x is a row's, and no row gives another.
abbrev pub Exactly : {A : Type 0} → Result A → (Result A → Type 0) → Type 0
Exactly {A} x Row = Row x × ((v : Result A) → Row v → x ≡ v)

-- A call that was lent `lent` gave an answer and left memory: "A refusal comes exactly where 01 says, gives its number .. and leaves all lent memory as
-- it found it."
pub record Obeys {A M : Type 0} (Row : Result A → Type 0) (lent : M) (result : Result A × M) : Type 0 where
  pub answers : Exactly result.0 Row
  pub refusal_leaves : (number place : ℕ) → result.0 ≡ refused number place → result.1 ≡ lent

-- A contract says the paper's value of the answer and the memory at exit: "show that no two different results satisfy it". M is the memory lent.
abbrev pub Meets : {A B M : Type 0} → (A → B) → B → M → A → M → Type 0
Meets says v memory r exit = (says r ≡ v) × (exit ≡ memory)

abbrev pub OneResult : (M : Type 0) {A B : Type 0} → (A → B) → Type 0
OneResult M {A} {B} says =
    (v : B) (memory : M) (a b : A) (exit exit' : M) → Meets says v memory a exit → Meets says v memory b exit' → (a ≡ b) × (exit ≡ exit')
