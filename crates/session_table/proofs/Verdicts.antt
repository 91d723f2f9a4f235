-- A call is a verdict and then an effect: what its two halves say together.
use Prim.Native.Nat.{ℕ}
use mathlib.Core.Path.{◌≡◌, refl, ◌∙◌, ap, sym}
use mathlib.Core.Bool.{Bool, true, false, cond, false≢true}
use mathlib.Core.List.{List}
use borrow.Author.Tests.{ne_eqb}
use Rattle.counts.proofs.Results.{refused_not_done, refused_plainly}
use Rattle.counts.specs.Result.{Result, refused, done, refused_as, paper}
use Rattle.counts.specs.Refusals.{number_of, refusal}
use Rattle.counts.specs.declared.Reason.{Reason}
use Rattle.counts.specs.declared.Refusal.{Refusal}
use Rattle.std.specs.Option.{ok_or}
use Rattle.std.specs.Prelude.{IsErr, IsErrAnd, MatchResult}
use Rattle.std.specs.declared.option.Option.{Option}
use Rattle.std.specs.declared.option.Option.TheVariants.{None}
use Rattle.std.specs.declared.result.Result.{Result as Returned}
use Rattle.std.specs.declared.result.Result.TheVariants.{Ok, Err}
use Rattle.sessions.specs.Table.{State}
use Rattle.session_table.specs.Calls.{after, only, verdict}

module _ {A : Type 0} where
  the_refusal : (x : Result A) (k i : ℕ) → refused k i ≡ only x → x ≡ refused k i
  the_refusal (refused k' i') k i e = cc
  the_refusal (done y) k i e = absurd (refused_not_done e)

  module _ (x : Result A) (no : ℕ) (said : verdict no ≡ only x) where
    -- no refusal, or the one that was found
    pub is_done : no ≡ 0 → only x ≡ done tt
    is_done e = sym said ∙ rw e

    pub is_refused : (no ≡ 0 → ⊥) → x ≡ refused no 0
    is_refused n = the_refusal x no 0 (rw (ne_eqb no 0 n) at said)

    -- and then no byte has changed
    pub keeps_bytes : (b : List ℕ) (f : A → List ℕ) → (no ≡ 0 → ⊥) → b ≡ after x b f
    keeps_bytes b f n = rw (is_refused n)

  -- a test that a call without refusal has passed
  pub passed : (t : Bool) (x : Result A) (k i : ℕ) → only (cond t x (refused k i)) ≡ done tt → (t ≡ true) × (only x ≡ done tt)
  passed true x k i e = (refl, e)
  passed false x k i e = absurd (refused_not_done e)

  pub passed_both : (t : Bool) (x : Result A × State) (k i : ℕ) (σ : State) → only (cond t x (refused k i, σ)).0 ≡ done tt
      → (t ≡ true) × (only x.0 ≡ done tt)
  passed_both true x k i σ e = (refl, e)
  passed_both false x k i σ e = absurd (refused_not_done e)

-- ---- a refusal of a reason alone

pub plainly : {A : Type 0} {f : Refusal} {reason : Reason} → f ≡ refusal reason 0 → refused_as {A = A} f ≡ refused (number_of reason) 0
plainly e = ap refused_as e

-- where there was nothing to go on with
pub its_reason : {X : Type 0} (o : Option X) (e reason : Reason) → o ≡ None → ◌≡◌ {A = Returned X Reason} (Err e) (ok_or o reason) → e ≡ reason
its_reason {X} o e reason n v =
    let w : ◌≡◌ {A = Returned X Reason} (Err e) (Err reason) = v ∙ ap (λ o. ok_or o reason) n in
    cc

pub none_left : {T X A : Type 0} (values : T → A) (r : Returned T Refusal) (o : Option X) {e : Reason} (reason : Reason)
    → IsErr r × IsErrAnd r (λ f. f ≡ refusal e 0) → o ≡ None → ◌≡◌ {A = Returned X Reason} (Err e) (ok_or o reason)
    → paper values r ≡ refused (number_of reason) 0
none_left values r o {e = e} reason h n v = refused_plainly values r e h ∙ ap (λ x. refused (number_of x) 0) (its_reason o e reason n v)

-- a reason that is passed on
pub passed_on : {T : Type 0} (P : T → Type 0) (Q : Reason → Type 0) (r : Returned T Reason) {e reason : Reason} → IsErr r × IsErrAnd r (λ x. x ≡ e)
    → e ≡ reason → Q reason → MatchResult r P Q
passed_on P Q (Ok x) h q a = absurd (false≢true h.0)
passed_on P Q (Err x) h q a = rw (h.1, q) a
