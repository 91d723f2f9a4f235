-- Dates and times say what their digits are (document 01, "Bytes and tokens").
use Prim.Native.Nat.{ℕ, ◌+◌, ◌-◌, ◌*◌, ◌^◌, ◌<◌}
use mathlib.Core.Path.{◌≡◌, refl, sym, ap, ◌∙◌}
use mathlib.Core.Bool.{Bool, true, false, cond}
use mathlib.Core.List.{List, ◌++◌}
use native.Mathlib.Omega.{arith}
use lib.Dec.{eqb}
use lib.ListN.{take, drop}
use lib.Seq.{drop-drop, take_at}
use borrow.Author.Tests.{eqb-true}
use Rattle.calendar.specs.Calendar.{real_date}
use Rattle.decimal.specs.Digits.{digits}
use Rattle.decimal.specs.Read.{digits_read}
use Rattle.decimal.proofs.Laws.{length_digits}
use Rattle.decimal.proofs.ReadLaws.{read_done, read_back}
use Rattle.field.specs.Bytes.{ascii}
use Rattle.field.specs.Part.{part}
use Rattle.grammar.specs.Grammar.Class.{number, date, unreal_date}
use Rattle.item.specs.Tokens.{value_of, date_class, eight_at, number_class, two_at, time_number}
use Rattle.item.proofs.Classes.{Dated, a_date, no_date, timed}
use Rattle.std.specs.declared.option.Option.{Option}
use Rattle.std.specs.declared.option.Option.TheVariants.{Some, None}

-- "A date is eight bare digits yyyymmdd": a number of these bytes
pub date_says : (s ys : List ℕ) (a n : ℕ) → n < 10 ^ 8 → drop a s ≡ digits 8 n ++ ys → Dated s a (a + 8) (cond (real_date n) date unreal_date) n
unfolding part
date_says s ys a n l e = go (real_date n) refl
  where
    eight : eight_at s a ≡ Some n
    eight = ap (λ (p : List ℕ). digits_read 8 (take 8 p)) e ∙ ap (digits_read 8) (take_at (digits 8 n) ys 8 (length_digits 8 n)) ∙ read_done 8 n l

    go : (t : Bool) → real_date n ≡ t → Dated s a (a + 8) (cond t date unreal_date) n
    go true r = a_date s a (a + 8) n (omega arith) eight r
    go false r = no_date s a (a + 8) n (omega arith) eight r

-- and no other number is one
pub no_other_date : (s : List ℕ) (a b : ℕ) → ((n : ℕ) → n < 10 ^ 8 → b ≡ a + 8 → part s a 8 ≡ digits 8 n → ⊥) → number_class s a b ≡ number
unfolding number_class
no_other_date s a b none = go (eqb (b - a) 8) refl (eight_at s a) refl
  where
    go : (t : Bool) → eqb (b - a) 8 ≡ t → (d : Option ℕ) → eight_at s a ≡ d → cond t (date_class d) number ≡ number
    go false p d e = refl
    go true p None e = refl
    go true p (Some n) e =
        let r = read_back 8 (part s a 8) n e in
        absurd (none n r.1 (omega (arith, eqb-true (b - a) 8 p)) r.0)

-- "dd:dd:dd": hours, minutes and seconds
two_say : (s ys : List ℕ) (a n : ℕ) → n < 100 → drop a s ≡ ys → take 2 ys ≡ digits 2 n → two_at s a ≡ n
unfolding part
two_say s ys a n l e d =
    ap (λ (p : List ℕ). value_of (digits_read 2 (take 2 p))) e ∙ ap (λ (p : List ℕ). value_of (digits_read 2 p)) d ∙ ap value_of (read_done 2 n l)

pub time_says : (s ys : List ℕ) (a h m k : ℕ) → h < 100 → m < 100 → k < 100
    → drop a s ≡ digits 2 h ++ (ascii ":" ++ (digits 2 m ++ (ascii ":" ++ (digits 2 k ++ ys)))) → time_number s a ≡ h * 10000 + m * 100 + k
unfolding digits
time_says s ys a h m k h-low m-low k-low e =
    let on : (i : ℕ) → drop (a + i) s ≡ drop i (digits 2 h ++ (ascii ":" ++ (digits 2 m ++ (ascii ":" ++ (digits 2 k ++ ys))))) =
    λ i. sym (drop-drop i a s) ∙ ap (drop i) e in
    sym
    (timed s a h m k (sym (two_say s _ a h h-low e refl)) (sym (two_say s _ (a + 3) m m-low (on 3) refl)) (sym (two_say s _ (a + 6) k k-low (on 6) refl)))
