-- Laws of a class as code has it, by its number; and of the numbers that dates and times are.
use Prim.Native.Nat.{ℕ, ◌+◌, ◌-◌, ◌*◌, ◌^◌, ◌<◌}
use mathlib.Core.Path.{◌≡◌, refl, sym, ap, ◌∙◌}
use mathlib.Core.Bool.{true, false, cond}
use mathlib.Core.List.{List, [], ◌∷◌}
use borrow.Author.Tests.{eq-eqb, ne_eqb, eqb-true}
use lib.Dec.{eqb}
use lib.ListN.{get_or}
use Rattle.calendar.specs.Calendar.{real_date}
use Rattle.decimal.specs.Read.{digits_read}
use Rattle.decimal.proofs.ReadLaws.{read_back}
use Rattle.laws.proofs.Choose.{choose}
use Rattle.grammar.specs.Grammar.{Class, class_no}
use Rattle.grammar.specs.Grammar.Class.{number, date, unreal_date}
use Rattle.grammar.proofs.Apart.{at_class}
use Rattle.token.specs.declared.Why.TheVariants.{Stray, OpenString, BrokenString, Misshapen}
use Rattle.item.specs.declared.Class.{Class as Code}
use Rattle.item.specs.declared.Class.TheVariants as code
use Rattle.item.specs.Items.{code_of, code_no}
use Rattle.field.specs.Part.{part}
use Rattle.std.specs.Prelude.{unwrap_or}
use native.Mathlib.Omega.{arith}
use Rattle.item.specs.Tokens.{value_of, eight_at, number_class, date_number, two_at, time_number}
use Rattle.std.specs.declared.option.Option.{Option}
use Rattle.std.specs.declared.option.Option.TheVariants.{Some, None}

-- a class as code has it has its number
pub code_same : (c : Class) → code_no (code_of c) ≡ class_no c
code_same c = eqb-true _ _ (at_class (λ d. eqb (code_no (code_of d)) (class_no d)) refl c)

-- and its number tells it from others
codes : List Code
codes =
    code.Job
    ∷ code.Response
    ∷ code.Upload
    ∷ code.Download
    ∷ code.GetInfo
    ∷ code.Abort
    ∷ code.Report
    ∷ code.Event
    ∷ code.Start
    ∷ code.Active
    ∷ code.Immediate
    ∷ code.Reserved
    ∷ code.Name
    ∷ code.TimeGe
    ∷ code.Number
    ∷ code.Date
    ∷ code.UnrealDate
    ∷ code.Time
    ∷ code.UnrealTime
    ∷ code.Text
    ∷ code.Operator
    ∷ code.Semicolon
    ∷ code.End
    ∷ code.NoToken Stray
    ∷ code.NoToken OpenString
    ∷ code.NoToken BrokenString
    ∷ code.NoToken Misshapen
    ∷ []

code_back : (c : Code) → get_or codes (code_no c) code.End ≡ c
unfolding codes
code_back code.Job = refl
code_back code.Response = refl
code_back code.Upload = refl
code_back code.Download = refl
code_back code.GetInfo = refl
code_back code.Abort = refl
code_back code.Report = refl
code_back code.Event = refl
code_back code.Start = refl
code_back code.Active = refl
code_back code.Immediate = refl
code_back code.Reserved = refl
code_back code.Name = refl
code_back code.TimeGe = refl
code_back code.Number = refl
code_back code.Date = refl
code_back code.UnrealDate = refl
code_back code.Time = refl
code_back code.UnrealTime = refl
code_back code.Text = refl
code_back code.Operator = refl
code_back code.Semicolon = refl
code_back code.End = refl
code_back (code.NoToken Stray) = refl
code_back (code.NoToken OpenString) = refl
code_back (code.NoToken BrokenString) = refl
code_back (code.NoToken Misshapen) = refl

pub same_code : (c d : Code) → code_no c ≡ code_no d → c ≡ d
same_code c d e = sym (code_back c) ∙ ap (λ (n : ℕ). get_or codes n code.End) e ∙ code_back d

-- a choice by a class's number, where it is known which class it is, or is not
module _ (A : Type 0) (x y z : A) (c d : Code) (n : ℕ) where
  pub yes_class : c ≡ d → code_no d ≡ n → x ≡ y → x ≡ cond (eqb (code_no c) n) y z
  yes_class p q e = rw (p, q, eq-eqb n n refl) e

  pub no_class : (c ≡ d → ⊥) → code_no d ≡ n → x ≡ z → x ≡ cond (eqb (code_no c) n) y z
  no_class p q e = rw (ne_eqb (code_no c) n (λ m. p (same_code c d (m ∙ sym q)))) e

pub ruleset by_class = (choose, yes_class, no_class)

-- what a number from a to b is
pub record Dated (s : List ℕ) (a b : ℕ) (c : Class) (n : ℕ) : Type 0 where
  pub class : number_class s a b ≡ c
  pub value : date_number s a b ≡ n

module _ (s : List ℕ) (a b : ℕ) where
  pub other_length : (b - a ≡ 8 → ⊥) → Dated s a b number 0
  unfolding number_class date_number
  other_length h = record { class = rw (ne_eqb _ _ h); value = rw (ne_eqb _ _ h) }

  pub not_bare : b - a ≡ 8 → eight_at s a ≡ None → Dated s a b number 0
  unfolding number_class date_number
  not_bare h e = record { class = rw (eq-eqb _ _ h, e); value = rw (eq-eqb _ _ h, e) }

  pub a_date : (n : ℕ) → b - a ≡ 8 → eight_at s a ≡ Some n → real_date n ≡ true → Dated s a b date n
  unfolding number_class date_number
  a_date n h e r = record { class = rw (eq-eqb _ _ h, e, r); value = rw (eq-eqb _ _ h, e) }

  pub no_date : (n : ℕ) → b - a ≡ 8 → eight_at s a ≡ Some n → real_date n ≡ false → Dated s a b unreal_date n
  unfolding number_class date_number
  no_date n h e r = record { class = rw (eq-eqb _ _ h, e, r); value = rw (eq-eqb _ _ h, e) }

-- a field of digits fits its width
pub field_fits : (w : ℕ) (p : List ℕ) (n : ℕ) (r : Option ℕ) → r ≡ digits_read w p → r ≡ Some n → n < 10 ^ w
field_fits w p n r d e = (read_back w p n (sym d ∙ e)).1

pub value_or : (r : Option ℕ) → unwrap_or r 0 ≡ value_of r
value_or (Some n) = refl
value_or None = refl

pub two_fits : (s : List ℕ) (a : ℕ) → two_at s a < 100
two_fits s a = go (digits_read 2 (part s a 2)) refl
  where
    go : (r : Option ℕ) → digits_read 2 (part s a 2) ≡ r → value_of r < 100
    go (Some n) e = omega (arith, field_fits 2 _ n _ refl e)
    go None e = omega arith

-- a time's number, from its three fields
pub timed : (s : List ℕ) (a x y z : ℕ) → x ≡ two_at s a → y ≡ two_at s (a + 3) → z ≡ two_at s (a + 6) → x * 10000 + y * 100 + z ≡ time_number s a
unfolding time_number
timed s a x y z p q r = rw (p, q, r)
