-- The kinds of byte as code tests them: first what most bytes of a run answer.
use Prim.Native.Nat.{ℕ, ◌≤◌, ◌<◌}
use mathlib.Core.Path.{◌≡◌, refl, sym, ◌∙◌}
use mathlib.Core.Bool.{Bool, true, false, not, ◌&&◌, ◌||◌}
use native.Mathlib.Omega.{arith}
use borrow.Author.Tests.{le-leb, lt-leb, ne_eqb}
use lib.Dec.{eqb, leb}
use Rattle.laws.proofs.Choose.{choose}
use Rattle.scan.specs.Kinds.{is_letter, is_digit, is_word_byte, is_numeric_byte, is_text_byte, is_comment_byte}

pub letter_first : (b : ℕ) (r : Bool) → r ≡ is_letter b → r ≡ true → true ≡ is_word_byte b
letter_first b r q t = rw (sym q ∙ t)

pub no_letter : (b : ℕ) (r d : Bool) → r ≡ is_letter b → r ≡ false → d ≡ is_digit b → (d || eqb b 95) ≡ is_word_byte b
no_letter b r d q t p = rw (sym q ∙ t, p)

or_false : (x : Bool) → x ≡ (x || false)
or_false true = refl
or_false false = refl

or-true : (x : Bool) → true ≡ (x || true)
or-true true = refl
or-true false = refl

pub digit_first : (b : ℕ) (d : Bool) → d ≡ is_digit b → d ≡ true → true ≡ is_numeric_byte b
digit_first b d q t = rw (sym q ∙ t, ← or-true (is_letter b))

pub no_digit : (b : ℕ) (d l : Bool) → d ≡ is_digit b → d ≡ false → l ≡ is_letter b → (l || eqb b 95 || eqb b 46 || eqb b 58) ≡ is_numeric_byte b
no_digit b d l q t p = rw (sym q ∙ t, ← or_false (is_letter b), p)

pub above_quote : (b : ℕ) → 34 < b → leb b 254 ≡ is_text_byte b
above_quote b h = rw (lt-leb b 33 (omega arith), le-leb 32 b (omega arith), le-leb 35 b (omega arith))

pub up_to_quote : (b : ℕ) → b ≤ 34 → (leb 32 b && leb b 33) ≡ is_text_byte b
up_to_quote b h = rw (lt-leb 35 b (omega arith)) (or_false (leb 32 b && leb b 33))

pub above_ends : (b : ℕ) → 13 < b → true ≡ is_comment_byte b
above_ends b h = rw (ne_eqb b 13 (omega arith), ne_eqb b 10 (omega arith))

pub neither_end : (x y : Bool) → (not x && not y) ≡ not (x || y)
neither_end true y = refl
neither_end false y = refl

pub ruleset kinds = (choose, letter_first, no_letter, digit_first, no_digit, above_quote, up_to_quote, above_ends, neither_end)
