-- Which moment is later, as code tests it, is P3's sentence.
use Prim.Native.Nat.{ℕ}
use mathlib.Core.Path.{◌≡◌, refl, ◌∙◌}
use mathlib.Core.Bool.{Bool, true, false, cond}
use mathlib.Core.Logic.{◌↔◌, inl, inr}
use native.Mathlib.Omega.{arith}
use lib.Dec.{eqb, leb, ltb}
use borrow.Author.Tests.{ltb-true, leb-true, eqb-true, lt-ltb, le-leb, eq-eqb, ne_eqb}
use Rattle.moment.specs.Moment.{AtOrAfter, at_or_after}

module _ (date time fromDate fromTime : ℕ) where
  tested : (b : Bool) → eqb date fromDate ≡ b → cond b (leb fromTime time) (ltb fromDate date) ≡ true → AtOrAfter date time fromDate fromTime
  tested true e h = inr (eqb-true _ _ e, leb-true _ _ h)
  tested false e h = inl (ltb-true _ _ h)

  said : AtOrAfter date time fromDate fromTime → cond (eqb date fromDate) (leb fromTime time) (ltb fromDate date) ≡ true
  said (inl h) = rw (ne_eqb date fromDate (λ e. omega arith)) (lt-ltb _ _ h)
  said (inr h) = rw (eq-eqb date fromDate h.0) (le-leb _ _ h.1)

  pub at_or_after_lem : at_or_after date time fromDate fromTime ≡ true ↔ AtOrAfter date time fromDate fromTime
  unfolding at_or_after
  at_or_after_lem = (tested (eqb date fromDate) refl, said)

-- what is at or after a moment is at or after each that this one is at or after
pub at_or_after_on : (d t date time fromDate fromTime : ℕ) → AtOrAfter d t date time → AtOrAfter date time fromDate fromTime → AtOrAfter d t fromDate fromTime
at_or_after_on d t date time fromDate fromTime (inl h) (inl k) = inl (omega arith)
at_or_after_on d t date time fromDate fromTime (inl h) (inr k) = inl (omega arith)
at_or_after_on d t date time fromDate fromTime (inr h) (inl k) = inl (omega arith)
at_or_after_on d t date time fromDate fromTime (inr h) (inr k) = inr (h.0 ∙ k.0, omega arith)
