-- What stands at the start of a file, and what stands after its first statement.
use Prim.Native.Nat.{ℕ, ◌≤◌, ◌<◌}
use mathlib.Core.Path.{◌≡◌, refl}
use mathlib.Core.Bool.{Bool, true, false, cond}
use mathlib.Core.List.{List}
use native.Mathlib.Omega.{arith}
use borrow.Author.Tests.{eqb-false, ltb-false, lt-ltb, le-ltb, ne_eqb}
use lib.Dec.{eqb, ltb}
use Rattle.std.specs.declared.option.Option.TheVariants.{None}
use Rattle.counts.specs.Limits.{statements}
use Rattle.counts.specs.Refusals.{unexpected, too_many_statements}
use Rattle.counts.specs.Result.Result.{done}
use Rattle.grammar.specs.declared.StartClause.{StartClause}
use Rattle.grammar.specs.Grammar.{class_no}
use Rattle.grammar.specs.Grammar.Class.{JOB}
use Rattle.item.specs.Items.{code_no, end_no, refusal_no}
use Rattle.item.specs.declared.Class.{Class}
use Rattle.item.specs.declared.Class.TheVariants as code
use Rattle.item.specs.declared.Item.{Item}
use Rattle.item.proofs.Shows.{no_token_numbers}
use Rattle.token.specs.declared.Why.{Why}
use Rattle.statement.specs.Statement.{statement_of}
use Rattle.job.specs.Loop.{refuse, step_read, step_into, step_of}

-- what is no end and no absence of a token is a token, and is refused with 4
token_below : (c : Class) → (c ≡ code.End → ⊥) → ((why : Why) → c ≡ code.NoToken why → ⊥) → code_no c < end_no
token_below code.Job p q = omega arith
token_below code.Response p q = omega arith
token_below code.Upload p q = omega arith
token_below code.Download p q = omega arith
token_below code.GetInfo p q = omega arith
token_below code.Abort p q = omega arith
token_below code.Report p q = omega arith
token_below code.Event p q = omega arith
token_below code.Start p q = omega arith
token_below code.Active p q = omega arith
token_below code.Immediate p q = omega arith
token_below code.Reserved p q = omega arith
token_below code.Name p q = omega arith
token_below code.TimeGe p q = omega arith
token_below code.Number p q = omega arith
token_below code.Date p q = omega arith
token_below code.UnrealDate p q = omega arith
token_below code.Time p q = omega arith
token_below code.UnrealTime p q = omega arith
token_below code.Text p q = omega arith
token_below code.Operator p q = omega arith
token_below code.Semicolon p q = omega arith
token_below code.End p q = absurd (p refl)
token_below (code.NoToken why) p q = absurd (q why refl)

-- a token is refused with 4
token_refusal : (n : ℕ) → n < end_no → refusal_no n ≡ unexpected
token_refusal n l =
    rw (ne_eqb n 22 (λ e. omega arith), ne_eqb n 23 (λ e. omega arith), ne_eqb n 24 (λ e. omega arith), ne_eqb n 25 (λ e. omega arith), ne_eqb n 26 (λ e. omega arith))

module _ (clause : StartClause) (s : List ℕ) (t : Item) where
  pub first_is_job : code_no t.class ≡ class_no JOB → step_read (statement_of 0 s clause t) ≡ step_of clause s 0 t
  unfolding step_of step_into
  first_is_job e = rw e

  pub first_is_other : (code_no t.class ≡ class_no JOB → ⊥) → refuse (refusal_no (code_no t.class)) t ≡ step_of clause s 0 t
  unfolding step_of step_into
  first_is_other none = go (eqb (code_no t.class) end_no) (ltb end_no (code_no t.class)) refl refl
    where
      go : (a b : Bool) → eqb (code_no t.class) end_no ≡ a → ltb end_no (code_no t.class) ≡ b
          → refuse (refusal_no (code_no t.class)) t
          ≡ cond a (refuse (refusal_no (code_no t.class)) t)
          (cond b (refuse (refusal_no (code_no t.class)) t) (cond (eqb (code_no t.class) (class_no JOB)) (step_read (statement_of 0 s clause t)) (refuse unexpected t)))
      go true b p q = refl
      go false true p q = refl
      go false false p q =
          let other = eqb-false (code_no t.class) end_no p in
          let below : code_no t.class < end_no = omega (arith, ltb-false end_no (code_no t.class) q) in
          rw (ne_eqb (code_no t.class) (class_no JOB) none, token_refusal (code_no t.class) below)

  -- after k statements, by the tests
  pub later : (k : ℕ) → 1 ≤ k
      → cond (eqb (code_no t.class) end_no) (done None)
      (cond (ltb end_no (code_no t.class)) (refuse (refusal_no (code_no t.class)) t)
      (cond (eqb k statements) (refuse too_many_statements t)
      (cond (eqb (code_no t.class) (class_no JOB)) (refuse unexpected t) (step_read (statement_of 0 s clause t)))))
      ≡ step_of clause s k t
  unfolding step_of step_into
  later k some = rw (ne_eqb k 0 (λ e. omega arith))

  pub at_none : (k : ℕ) (why : Why) → t.class ≡ code.NoToken why → refuse (refusal_no (code_no t.class)) t ≡ step_of clause s k t
  unfolding step_of
  at_none k why e =
      let above : 22 < code_no t.class = rw e (no_token_numbers why).0 in
      rw (ne_eqb (code_no t.class) end_no (λ x. omega arith), lt-ltb end_no (code_no t.class) above)

  pub at_token : (k : ℕ) → 1 ≤ k → (t.class ≡ code.End → ⊥) → ((why : Why) → t.class ≡ code.NoToken why → ⊥)
      → cond (eqb k statements) (refuse too_many_statements t)
      (cond (eqb (code_no t.class) (class_no JOB)) (refuse unexpected t) (step_read (statement_of 0 s clause t)))
      ≡ step_of clause s k t
  at_token k some p q =
      let below = token_below t.class p q in
      rw (← later k some, ne_eqb (code_no t.class) end_no (λ x. omega arith), le-ltb end_no (code_no t.class) (omega arith))
