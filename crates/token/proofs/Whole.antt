-- A whole string stands at a place exactly where the test says so, its content is the one shown, and it is what a string token is. Assumes
-- nothing.
use Rattle.word.specs.Word.{WordRead}
use Prim.Native.Nat.{ℕ, suc, ◌+◌, ◌-◌, ◌≤◌}
use mathlib.Core.Path.{◌≡◌, refl, sym, ◌∙◌, ap}
use mathlib.Core.Bool.{Bool, true, false, false≢true, cond, ◌&&◌, ◌||◌}
use mathlib.Core.List.{List, ◌∷◌, ◌++◌}
use mathlib.Core.Logic.{◌↔◌}
use native.Mathlib.Numerals.{add-one}
use native.Mathlib.Omega.{arith}
use borrow.Author.Tests.{lt-ltb, leb-true, leb-false, le-leb, eqb-true, eq-eqb}
use lib.Dec.{eqb, leb, ltb}
use lib.ListN.{length, get_or, take, drop, length-take, take-append-drop}
use lib.Seq.{drop-cons, drop-drop, get_or-drop, get_or-append_seam, take-append_seam}
use Rattle.laws.proofs.Choose.{and_left, and_right}
use Rattle.counts.specs.Limits.{text_bytes}
use Rattle.scan.specs.Kinds.{is_digit, is_letter, is_text_byte}
use Rattle.scan.specs.Run.{run, run_end}
use Rattle.scan.proofs.Runs.{run_fits, run_passes, run_whole}
use Rattle.token.specs.Token.{ContentByte, WholeString, content_end, content_fits, is_text_at, content_at, word_token, string_at, shaped_at, numeric_at, sign_at, token_at}
use Rattle.std.specs.declared.option.Option.TheVariants.{Some, None}
use Rattle.token.specs.declared.Token.{Token}
use Rattle.token.specs.declared.Token.TheVariants.{End, NoToken, Word, Number, Time, Text, Sign, Semicolon}
use Rattle.token.proofs.Ahead.{in_range_lem, text_inside}

-- ---- "bytes from 32 to 254 other than 34"

from_to : (low high b : ℕ) → (leb low b && leb b high) ≡ true → (low ≤ b) × (b ≤ high)
from_to low high b h = (leb-true low b (and_left _ _ h), leb-true b high (and_right (leb low b) (leb b high) h))

pub text_byte : (b : ℕ) → is_text_byte b ≡ true → ContentByte b
text_byte b = go (leb 32 b && leb b 33) refl
  where
    go : (t : Bool) → (leb 32 b && leb b 33) ≡ t → (t || (leb 35 b && leb b 254)) ≡ true → ContentByte b
    go true e h = omega (arith, from_to 32 33 b e)
    go false e h = omega (arith, from_to 35 254 b h)

pub byte_text : (b : ℕ) → ContentByte b → is_text_byte b ≡ true
byte_text b h = go (leb b 33) refl
  where
    go : (t : Bool) → leb b 33 ≡ t → is_text_byte b ≡ true
    go true e = rw (le-leb 32 b h.0, e)
    go false e = rw (le-leb 32 b h.0, e, le-leb 35 b (omega (arith, leb-false b 33 e)), le-leb b 254 h.1)

-- ---- the content's end, by the bytes after the opening quote

module _ (s : List ℕ) (i : ℕ) where
  content_length : content_end s i - (i + 1) ≡ run is_text_byte (drop (i + 1) s)
  unfolding run_end
  content_length = omega arith

  shown : content_at s i ≡ take (run is_text_byte (drop (i + 1) s)) (drop (i + 1) s)
  unfolding content_at
  shown = ap (λ (n : ℕ). take n (drop (i + 1) s)) content_length

  closing : get_or (drop (i + 1) s) (run is_text_byte (drop (i + 1) s)) 0 ≡ get_or s (content_end s i) 0
  unfolding run_end
  closing = get_or-drop (i + 1) s (run is_text_byte (drop (i + 1) s)) 0

  -- where a whole string stands the test holds, and its content is shown
  module _ (c : List ℕ) (w : WholeString s i c) where
    opening : get_or s i 0 ≡ 34
    opening =
        let e : i + 0 ≡ i = omega arith in
        sym (rw e at (get_or-drop i s 0 0)) ∙ ap (λ (l : List ℕ). get_or l 0 0) w.stands

    rest : drop (i + 1) s ≡ c ++ (34 ∷ w.after)
    rest = sym (drop-drop 1 i s) ∙ ap (λ (l : List ℕ). drop 1 l) w.stands

    counted : run is_text_byte (drop (i + 1) s) ≡ length c
    unfolding run
    counted = rw rest (run_whole is_text_byte c (34 ∷ w.after) (λ b m. byte_text b (w.each b m)) refl)

    closed : get_or s (content_end s i) 0 ≡ 34
    closed = sym closing ∙ rw (counted, rest) (get_or-append_seam c 34 w.after 0)

    tested : is_text_at s i ≡ true
    unfolding is_text_at
    tested =
        let few : length c ≤ 255 = w.few in
        rw (eq-eqb _ _ opening, content_length, counted, le-leb _ 255 few, eq-eqb _ _ closed)

    content_is : content_at s i ≡ c
    content_is = shown ∙ rw (counted, rest) (take-append_seam c (34 ∷ w.after))

  -- and the other way
  module _ (t : is_text_at s i ≡ true) where
    begins : get_or s i 0 ≡ 34
    unfolding is_text_at
    begins = eqb-true _ 34 (and_left (eqb (get_or s i 0) 34) (content_fits s i)
        (and_left (eqb (get_or s i 0) 34 && content_fits s i) (eqb (get_or s (content_end s i) 0) 34) t))

    fits : run is_text_byte (drop (i + 1) s) ≤ 255
    unfolding is_text_at
    fits =
        let h = and_right (eqb (get_or s i 0) 34) (content_fits s i) (and_left (eqb (get_or s i 0) 34 && content_fits s i) (eqb (get_or s (content_end s i) 0) 34) t) in
        omega (arith, content_length, leb-true (content_end s i - (i + 1)) text_bytes h)

    ends : get_or s (content_end s i) 0 ≡ 34
    unfolding is_text_at
    ends = eqb-true _ 34 (and_right (eqb (get_or s i 0) 34 && content_fits s i) (eqb (get_or s (content_end s i) 0) 34) t)

    at_end_here : drop (content_end s i) s ≡ 34 ∷ drop (suc (content_end s i)) s
    at_end_here =
        drop-cons s (content_end s i) 0 (in_range_lem s i (λ b. eqb b 34) (content_end s i) refl (eq-eqb _ _ ends))
        ∙ ap (λ (b : ℕ). b ∷ drop (suc (content_end s i)) s) ends

    split : drop (i + 1) s ≡ content_at s i ++ (34 ∷ drop (suc (content_end s i)) s)
    unfolding run_end
    split =
        sym (take-append-drop (run is_text_byte (drop (i + 1) s)) (drop (i + 1) s))
        ∙ ap (λ (l : List ℕ). l ++ drop (run is_text_byte (drop (i + 1) s)) (drop (i + 1) s)) (sym shown)
        ∙ ap (λ (l : List ℕ). content_at s i ++ l) (drop-drop (run is_text_byte (drop (i + 1) s)) (i + 1) s ∙ at_end_here)

    whole : WholeString s i (content_at s i)
    whole = record {
      after = drop (suc (content_end s i)) s;
      stands = drop-cons s i 0 (text_inside s i t) ∙ rw (begins, ← add-one i) (ap (λ (l : List ℕ). 34 ∷ l) split);
      few = rw shown (omega (arith, fits, length-take (run is_text_byte (drop (i + 1) s)) (drop (i + 1) s)));
      each = λ b m. text_byte b (run_passes is_text_byte (drop (i + 1) s) b (rw shown at m));
    }

-- A whole string with the content c begins at i exactly where the test holds and c is the content shown: so it has one content.
pub whole_string_exactly : (s : List ℕ) (i : ℕ) (c : List ℕ) → WholeString s i c ↔ ((is_text_at s i ≡ true) × (content_at s i ≡ c))
whole_string_exactly s i c = (λ w. (tested s i c w, content_is s i c w), λ h. rw h.1 at (whole s i h.0))

-- ---- the token at a place

abbrev is_string : Token → Bool
is_string (End p) = false
is_string (NoToken w p) = false
is_string (Word a b w) = false
is_string (Number a b) = false
is_string (Time a b) = false
is_string (Text a b) = true
is_string (Sign o a b) = false
is_string (Semicolon a b) = false

string_cond : (b : Bool) (x y : Token) → is_string (cond b x y) ≡ cond b (is_string x) (is_string y)
string_cond true x y = refl
string_cond false x y = refl

both_no : (b : Bool) → cond b false false ≡ false
both_no true = refl
both_no false = refl

yes_or_no : (b : Bool) → cond b true false ≡ b
yes_or_no true = refl
yes_or_no false = refl

last_of : (l a n q t : Bool) → cond l (cond a false (cond n false (cond q t false))) false ≡ true → t ≡ true
last_of true false false true t h = h
last_of true false false false t h = absurd (false≢true h)
last_of true false true q t h = absurd (false≢true h)
last_of true true n q t h = absurd (false≢true h)
last_of false a n q t h = absurd (false≢true h)

no_word : (i : ℕ) (r : WordRead) → is_string (word_token i r) ≡ false
no_word i (Some (w, e)) = refl
no_word i None = refl

module _ (s : List ℕ) (i : ℕ) where
  no_shape : (d : ℕ) → is_string (shaped_at s i d) ≡ false
  unfolding shaped_at
  no_shape d = simp (string_cond, both_no)

  no_numeric : is_string (numeric_at s i) ≡ false
  unfolding numeric_at
  no_numeric = simp (string_cond, no_shape, both_no)

  no_sign : is_string (sign_at s i) ≡ false
  unfolding sign_at
  no_sign = simp (string_cond, both_no)

  the_text : is_string (string_at s i) ≡ is_text_at s i
  unfolding string_at
  the_text = simp (string_cond, both_no, yes_or_no)

  of_string : is_string (token_at s i) ≡ true → is_text_at s i ≡ true
  unfolding token_at
  of_string h =
      last_of (ltb i (length s)) (is_letter (get_or s i 0)) (is_digit (get_or s i 0) || eqb (get_or s i 0) 45) (eqb (get_or s i 0) 34) (is_text_at s i)
      (simp (string_cond, no_word, no_numeric, no_sign, the_text) at h)

  to_string : is_text_at s i ≡ true → token_at s i ≡ Text i (content_end s i + 1)
  unfolding token_at string_at
  to_string t = rw (lt-ltb _ _ (text_inside s i t), begins s i t, t)

  -- the closing quote stands just after the content
  pub end_of : is_text_at s i ≡ true → content_end s i + 1 ≡ i + length (content_at s i) + 2
  unfolding run_end
  end_of t = rw (shown s i) (omega (arith, length-take (run is_text_byte (drop (i + 1) s)) (drop (i + 1) s), run_fits is_text_byte (drop (i + 1) s)))

-- A string token from a to b stands at i exactly where a whole string does; it begins there, and b is the place after the closing quote.
pub string_token_exactly : (s : List ℕ) (i a b : ℕ)
    → token_at s i ≡ Text a b ↔ ((is_text_at s i ≡ true) × (a ≡ i) × (b ≡ i + length (content_at s i) + 2))
string_token_exactly s i a b = (to, λ h. to_string s i h.0 ∙ rw (h.1, h.2) (ap (λ (n : ℕ). Text i n) (end_of s i h.0)))
  where
    to : token_at s i ≡ Text a b → (is_text_at s i ≡ true) × (a ≡ i) × (b ≡ i + length (content_at s i) + 2)
    to e =
        let t = of_string s i (ap is_string e) in
        let k = to_string s i t in
        let l = end_of s i t in
        (t, cc, cc)
