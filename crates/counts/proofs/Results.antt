-- Laws of `Result`: what is known of a call that was not refused.
use Prim.Native.Nat.{ℕ, suc}
use mathlib.Core.Path.{◌≡◌, refl, sym, ap, ◌∙◌}
use Rattle.std.specs.declared.result.Result.{Result as Returned}
use Rattle.std.specs.declared.result.Result.TheVariants.{Ok, Err}
use mathlib.Core.Bool.{Bool, true, false, cond}
use mathlib.Core.List.{List, [], ◌∷◌}
use native.Mathlib.Omega.{arith}
use Rattle.std.proofs.lemmas.Bool.{false≢true}
use Rattle.std.specs.Prelude.{get_or, IsErr, IsErrAnd}
use Rattle.counts.specs.Refusals.{number_of, refusal}
use Rattle.counts.specs.Result.{Result, refused, done, refused_as, paper}
use Rattle.counts.specs.declared.Reason.{Reason}
use Rattle.counts.specs.declared.Reason.TheVariants.{FileTooLong, TooFewPlaces, NoToken, Unexpected, NotReal, TooManyStatements, NotARecord, TooLittleRoom, AllTaken, NotTheOne, OutOfRange, NoTicketLeft, Unsound, NothingUnanswered, OpenString, BrokenString, Misshapen, EndOfFile, NotComparable}
use Rattle.counts.specs.declared.Refusal.{Refusal}

module _ {A : Type 0} where
  pub refused_not_done : {n p : ℕ} {a : A} → refused n p ≡ done a → ⊥
  refused_not_done h = let z : ◌≡◌ {A = ℕ} 0 1 = cc in omega arith

  pub done_same : {x y : A} → done x ≡ done y → x ≡ y
  done_same e = cc

  -- a test that would have refused was passed
  pub passed : (t : Bool) (x : Result A) (n p : ℕ) {a : A} → cond t x (refused n p) ≡ done a → (t ≡ true) × (x ≡ done a)
  passed true x n p h = (refl, h)
  passed false x n p h = absurd (refused_not_done h)

-- a refusal is its number and its place
pub refused_as_is : {A : Type 0} (reason : Reason) (place : ℕ) → refused_as {A = A} (refusal reason place) ≡ refused (number_of reason) place
refused_as_is reason place = refl

-- ---- numbers tell reasons apart, so that an answer's paper value loses nothing

-- the reasons by their numbers, of which none is 0
reasons : List Reason
reasons =
    FileTooLong
    ∷ FileTooLong
    ∷ TooFewPlaces
    ∷ NoToken
    ∷ Unexpected
    ∷ NotReal
    ∷ TooManyStatements
    ∷ NotARecord
    ∷ TooLittleRoom
    ∷ AllTaken
    ∷ NotTheOne
    ∷ OutOfRange
    ∷ NoTicketLeft
    ∷ Unsound
    ∷ NothingUnanswered
    ∷ OpenString
    ∷ BrokenString
    ∷ Misshapen
    ∷ EndOfFile
    ∷ NotComparable
    ∷ []

reason_of : ℕ → Reason
reason_of n = get_or reasons n FileTooLong

reason_back : (reason : Reason) → reason_of (number_of reason) ≡ reason
unfolding reason_of reasons
reason_back FileTooLong = refl
reason_back TooFewPlaces = refl
reason_back NoToken = refl
reason_back Unexpected = refl
reason_back NotReal = refl
reason_back TooManyStatements = refl
reason_back NotARecord = refl
reason_back TooLittleRoom = refl
reason_back AllTaken = refl
reason_back NotTheOne = refl
reason_back OutOfRange = refl
reason_back NoTicketLeft = refl
reason_back Unsound = refl
reason_back NothingUnanswered = refl
reason_back OpenString = refl
reason_back BrokenString = refl
reason_back Misshapen = refl
reason_back EndOfFile = refl
reason_back NotComparable = refl

pub same_reason : {r t : Reason} → number_of r ≡ number_of t → r ≡ t
same_reason {r} {t} e = sym (reason_back r) ∙ ap reason_of e ∙ reason_back t

pub same_refusal : {r t : Refusal} → number_of r.reason ≡ number_of t.reason → r.place ≡ t.place → r ≡ t
same_refusal p q = λ i. record { reason = same_reason p i; place = q i }

pub paper_says_all : {T A : Type 0} (values : T → A) → ((x y : T) → values x ≡ values y → x ≡ y) → (a b : Returned T Refusal)
    → paper values a ≡ paper values b → a ≡ b
paper_says_all values same (Ok x) (Ok y) h = ap Ok (same x y (done_same h))
paper_says_all values same (Ok x) (Err r) h = absurd (refused_not_done (sym h))
paper_says_all values same (Err r) (Ok y) h = absurd (refused_not_done h)
paper_says_all values same (Err r) (Err t) h = ap Err (same_refusal (cc) (cc))

pub number_not_0 : (reason : Reason) → number_of reason ≡ 0 → ⊥
number_not_0 FileTooLong h = absurd (omega arith)
number_not_0 TooFewPlaces h = absurd (omega arith)
number_not_0 NoToken h = absurd (omega arith)
number_not_0 Unexpected h = absurd (omega arith)
number_not_0 NotReal h = absurd (omega arith)
number_not_0 TooManyStatements h = absurd (omega arith)
number_not_0 NotARecord h = absurd (omega arith)
number_not_0 TooLittleRoom h = absurd (omega arith)
number_not_0 AllTaken h = absurd (omega arith)
number_not_0 NotTheOne h = absurd (omega arith)
number_not_0 OutOfRange h = absurd (omega arith)
number_not_0 NoTicketLeft h = absurd (omega arith)
number_not_0 Unsound h = absurd (omega arith)
number_not_0 NothingUnanswered h = absurd (omega arith)
number_not_0 OpenString h = absurd (omega arith)
number_not_0 BrokenString h = absurd (omega arith)
number_not_0 Misshapen h = absurd (omega arith)
number_not_0 EndOfFile h = absurd (omega arith)
number_not_0 NotComparable h = absurd (omega arith)

-- what `?` makes of a reason
pub refused_plainly : {T A : Type 0} (values : T → A) (r : Returned T Refusal) (reason : Reason)
    → IsErr r × IsErrAnd r (λ e. e ≡ refusal reason 0) → paper values r ≡ refused (number_of reason) 0
refused_plainly values (Ok x) reason h = absurd (false≢true h.0)
refused_plainly values (Err e) reason h = ap refused_as h.1

-- a refusal number that is 0 came by the first way
pub first_way : (t : Bool) (x k : ℕ) → cond t x (suc k) ≡ 0 → (t ≡ true) × (x ≡ 0)
first_way true x k h = (refl, h)
first_way false x k h = absurd (omega arith)
