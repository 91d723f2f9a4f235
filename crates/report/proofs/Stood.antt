-- Fields as code finds them: by the word at a place, or the ends of runs, as the callee answered them.
use Prim.Native.Nat.{ℕ, ◌+◌, ◌-◌, ◌≤◌}
use mathlib.Core.Path.{◌≡◌, refl, sym, ◌∙◌}
use Rattle.std.specs.Bool.{then_some}
use mathlib.Core.Bool.{Bool, true, false, cond, ◌&&◌}
use mathlib.Core.List.{List}
use borrow.Author.Rules.{rules}
use borrow.Author.Tests.{eq-eqb, ne_eqb}
use lib.Dec.{eqb, ltb, leb}
use lib.ListN.{length, get_or, get_or-eq_default}
use Rattle.counts.specs.Limits.{text_bytes, number_digits}
use Rattle.scan.specs.Kinds.{is_digit, is_letter}
use Rattle.scan.specs.Run.{run_end}
use Rattle.word.specs.Word.{is_name, word_read}
use Rattle.word.specs.declared.Word.{Word}
use Rattle.token.specs.Token.{content_end, is_text_at}
use Rattle.report.specs.Reading.{name_at, figures_at, numeral_at, string_end, value_at, cell_at}
use Rattle.std.specs.declared.option.Option.{Option}
use Rattle.std.specs.declared.option.Option.TheVariants.{Some, None}
use Rattle.report.proofs.Fields.{no_value_past}

some_if : (t : Bool) (e : ℕ) → then_some t e ≡ cond t (Some e) None
some_if true e = refl
some_if false e = refl

module _ (s : List ℕ) (i : ℕ) where
  -- the word that begins with the letter at i
  module _ {l : Bool} (letter : l ≡ is_letter (get_or s i 0)) where
    pub no_word : l ≡ true → None ≡ word_read s i → None ≡ name_at s i
    unfolding name_at
    no_word t h = rw (sym letter ∙ t, sym h)

    pub a_word : (w : Word) (end : ℕ) → l ≡ true → Some (w, end) ≡ word_read s i → {n : Bool} → n ≡ is_name w → {x : Option ℕ} → x ≡ then_some n end
        → x ≡ name_at s i
    unfolding name_at
    a_word w end t h {n} name q = q ∙ rw (sym letter ∙ t, sym h, name) (some_if (is_name w) end)

    pub no_letter : l ≡ false → None ≡ name_at s i
    unfolding name_at
    no_letter t = rw (sym letter ∙ t)

  pub nothing_there : length s ≤ i → None ≡ name_at s i
  unfolding name_at
  nothing_there h = rw (get_or-eq_default s 0 h)

-- ---- digits from d on, which end at m, and those after a point there, which end at e

module _ (s : List ℕ) (d m : ℕ) (digits : m ≡ run_end is_digit s d) where
  pub no_figures : m ≡ d → None ≡ figures_at s d
  unfolding figures_at
  no_figures h = rw (← digits, eq-eqb m d h)

  module _ (some : m ≡ d → ⊥) (b : ℕ) (byte : b ≡ get_or s m 0) where
    pub pointed : b ≡ 46 → (e : ℕ) → e ≡ run_end is_digit s (m + 1) → {x : Option ℕ} → x ≡ then_some (ltb (m + 1) e && leb e (d + number_digits + 1)) e
        → x ≡ figures_at s d
    unfolding figures_at
    pointed point e more h =
        h ∙ rw (← digits, ne_eqb m d some, ← byte, eq-eqb b 46 point, ← more) (some_if (ltb (m + 1) e && leb e (d + number_digits + 1)) e)

    pub whole : (b ≡ 46 → ⊥) → {x : Option ℕ} → x ≡ then_some (leb m (d + number_digits)) m → x ≡ figures_at s d
    unfolding figures_at
    whole no_point h = h ∙ rw (← digits, ne_eqb m d some, ← byte, ne_eqb b 46 no_point) (some_if (leb m (d + number_digits)) m)

-- ---- a string that opens at i, whose content ends at e

pub string_stood : (s : List ℕ) (i e b : ℕ) → get_or s i 0 ≡ 34 → e ≡ content_end s i → b ≡ get_or s e 0 → {x : Option ℕ}
    → x ≡ then_some (leb (e - (i + 1)) text_bytes && eqb b 34) (e + 1) → x ≡ string_end s i
unfolding string_end is_text_at
string_stood s i e b quote content byte h =
    h ∙ rw (← content, eq-eqb (get_or s i 0) 34 quote, ← byte) (some_if (leb (e - (i + 1)) text_bytes && eqb b 34) (e + 1))

-- ---- a value, by its first byte

module _ (s : List ℕ) (i b : ℕ) (byte : b ≡ get_or s i 0) {x : Option ℕ} where
  pub a_string : b ≡ 34 → x ≡ string_end s i → x ≡ value_at s i
  unfolding value_at
  a_string q h = rw (← byte, eq-eqb b 34 q) h

  pub a_signed : b ≡ 45 → x ≡ figures_at s (i + 1) → x ≡ value_at s i
  unfolding value_at numeral_at
  a_signed q h = rw (← byte, q) h

  pub an_unsigned : (b ≡ 34 → ⊥) → (b ≡ 45 → ⊥) → x ≡ figures_at s i → x ≡ value_at s i
  unfolding value_at numeral_at
  an_unsigned n q h = rw (← byte, ne_eqb b 34 n, ne_eqb b 45 q) h

pub no_value_there : (s : List ℕ) (i : ℕ) → length s ≤ i → None ≡ value_at s i
no_value_there s i h = sym (no_value_past s i h)

-- either, by whether the byte b there is a letter
module _ (s : List ℕ) (i b : ℕ) (r : Bool) (byte : b ≡ get_or s i 0) (letter : r ≡ is_letter b) (x : Option ℕ) where
  pub cell_name : r ≡ true → x ≡ name_at s i → x ≡ cell_at s i
  unfolding cell_at
  cell_name t h = rw (← byte, sym letter ∙ t) h

  pub cell_value : r ≡ false → x ≡ value_at s i → x ≡ cell_at s i
  unfolding cell_at
  cell_value t h = rw (← byte, sym letter ∙ t) h

pub ruleset field = (rules, no_word, a_word, no_letter, nothing_there, cell_name, cell_value, no_figures, pointed, whole, string_stood, a_string, a_signed, an_unsigned, no_value_there)
