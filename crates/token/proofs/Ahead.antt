-- Where a token stands: at the place where it was looked for, and it ends after it, within the file.
use Prim.Native.Nat.{ℕ, ◌+◌, ◌≤◌, ◌<◌, max}
use mathlib.Core.Path.{◌≡◌, refl, sym, ◌∙◌, ap}
use mathlib.Core.Bool.{Bool, true, false, true≢false, cond, ◌||◌, ◌&&◌}
use mathlib.Core.List.{List}
use mathlib.Core.Logic.{◌⊎◌, inl, inr, ⊎_elim}
use native.Mathlib.Omega.{arith}
use borrow.Author.Tests.{ltb-true, ltb-false, leb-true, eqb-true}
use lib.Dec.{ltb, leb, eqb}
use lib.ListN.{length, get_or, get_or-eq_default}
use Rattle.counts.specs.Limits.{number_digits}
use Rattle.laws.proofs.Choose.{and_left, and_right}
use Rattle.scan.specs.Kinds.{is_digit, is_letter, is_numeric_byte, is_text_byte}
use Rattle.scan.specs.Run.{run_end, blank_end}
use Rattle.scan.proofs.Runs.{run_some, run_inside}
use Rattle.scan.proofs.Settled.{Onward, onward}
use Rattle.token.specs.Token.{content_end, content_fits, word_token, string_at, is_text_at, is_time_at, is_number_at, NumericRun, shaped_at, numeric_at, sign_at, token_at, next_token, Short}
use Rattle.word.specs.Word.{WordRead, word_read}
use Rattle.word.specs.declared.Word.{Word as ReservedOrName}
use Rattle.std.specs.declared.option.Option.TheVariants.{Some, None}
use Rattle.word.proofs.Words.{EndsAfter, ends_after}
use Rattle.token.specs.declared.Operator.{Operator}
use Rattle.token.specs.declared.Why.{Why}
use Rattle.token.specs.declared.Token.{Token}
use Rattle.token.specs.declared.Token.TheVariants.{End, NoToken, Word, Number, Time, Text, Sign, Semicolon}

-- from i up to b, within the file
pub record Span (s : List ℕ) (i b : ℕ) : Type 0 where
  pub ahead : i < b
  pub inside : b ≤ length s

-- a numeric run from i to b that is a number
pub record Figures (s : List ℕ) (i b : ℕ) : Type 0 where
  pub run : NumericRun s i b
  pub number : is_number_at s run.first b ≡ true

-- the token, if there is one, stands at i and ends after it, within the file
pub data Ahead (s : List ℕ) (i : ℕ) : Token → Type 0 where
  the_end : length s ≤ i → Ahead s i (End i)
  no_token_here : {w : Why} → i < length s → Ahead s i (NoToken w i)
  a_word : {w : ReservedOrName} {b : ℕ} → Span s i b → Ahead s i (Word i b w)
  a_number : {b : ℕ} → Span s i b → Figures s i b → Ahead s i (Number i b)
  a_time : {b : ℕ} → Span s i b → Ahead s i (Time i b)
  a_text : {b : ℕ} → Span s i b → Ahead s i (Text i b)
  a_sign : {o : Operator} {b : ℕ} → Span s i b → Ahead s i (Sign o i b)
  a_semicolon : {b : ℕ} → Span s i b → Ahead s i (Semicolon i b)

-- a choice, each way
pub choice : (P : Token → Type 0) (b : Bool) {x y : Token} → (b ≡ true → P x) → (b ≡ false → P y) → P (cond b x y)
choice P true f g = f refl
choice P false f g = g refl

pub first_of : (a b : Bool) → (a || b) ≡ true → b ≡ false → a ≡ true
first_of true b e f = refl
first_of false b e f = sym f ∙ e

-- a digit is a numeric byte, letter or not
pub numeric_byte : (a u v w : Bool) → ((a || true || u) || v || w) ≡ true
numeric_byte true u v w = refl
numeric_byte false u v w = refl

-- of two ways to pass a test, each bounds e
short_of : (b x : Bool) (m n e : ℕ) → cond b (leb e m) (x && leb e n) ≡ true → m ≤ n → e ≤ n
short_of true x m n e k l = omega (arith, leb-true e m k)
short_of false x m n e k l = leb-true e n (and_right x (leb e n) k)

module _ (s : List ℕ) (i : ℕ) where
  either : (b : Bool) {x y : Token} → Ahead s i x → Ahead s i y → Ahead s i (cond b x y)
  either b p q = choice (Ahead s i) b (λ e. p) (λ e. q)

  from : (p : ℕ → Bool) (j : ℕ) → j ≤ run_end p s j
  unfolding run_end
  from p j = omega arith

  -- a byte that passes a test that 0 does not pass
  pub in_range_lem : (p : ℕ → Bool) (k : ℕ) → p 0 ≡ false → p (get_or s k 0) ≡ true → k < length s
  in_range_lem p k z e = go (ltb k (length s)) refl
    where
      go : (b : Bool) → ltb k (length s) ≡ b → k < length s
      go true l = ltb-true _ _ l
      go false l = absurd (true≢false (sym e ∙ ap p (get_or-eq_default s 0 (ltb-false _ _ l)) ∙ z))

  word : i < length s → (r : WordRead) → EndsAfter s i r → Ahead s i (word_token i r)
  word l (Some (w, b)) h = a_word {b = b} (omega arith)
  word l None h = no_token_here l

  -- a number has at most 16 digits and a point, and a sign before its first digit
  number_short : (d e : ℕ) → is_number_at s d e ≡ true → e ≤ d + number_digits + 1
  unfolding is_number_at
  number_short d e h =
      short_of (eqb (run_end is_digit s d) e)
      (eqb (get_or s (run_end is_digit s d) 0) 46 && is_digit (get_or s (run_end is_digit s d + 1) 0) && eqb (run_end is_digit s (run_end is_digit s d + 1)) e)
      (d + number_digits) (d + number_digits + 1) e h (omega arith)

  shaped : (d : ℕ) → (d ≡ i) ⊎ ((d ≡ i + 1) × (get_or s i 0 ≡ 45)) → is_digit (get_or s d 0) ≡ true → i < length s → d ≤ length s → i < run_end is_numeric_byte s d
      → Ahead s i (shaped_at s i d)
  unfolding shaped_at
  shaped d n f k m l =
      let r : Span s i (run_end is_numeric_byte s d) = omega (arith, run_inside is_numeric_byte s d m) in
      either (is_time_at s i (run_end is_numeric_byte s d)) (a_time r)
      (choice (Ahead s i) (is_number_at s d (run_end is_numeric_byte s d))
      (λ h. a_number r (record { run = record { first = d; sign = n; digit = f; longest = refl }; number = h })) (λ h. no_token_here k))

  numeric : i < length s → (is_digit (get_or s i 0) || eqb (get_or s i 0) 45) ≡ true → Ahead s i (numeric_at s i)
  unfolding numeric_at
  numeric l e =
      choice (Ahead s i) (eqb (get_or s i 0) 45)
      (λ m. choice (Ahead s i) (is_digit (get_or s (i + 1) 0)) (λ d. shaped (i + 1) (inr (refl, eqb-true _ 45 m)) d l (omega arith)
      (omega (arith, from is_numeric_byte (i + 1)))) (λ d. no_token_here l))
      (λ m.
      let d = first_of (is_digit (get_or s i 0)) (eqb (get_or s i 0) 45) e m in
      shaped i (inl refl) d l (omega arith) (run_some is_numeric_byte s i l
      (rw d (numeric_byte (is_letter (get_or s i 0)) (eqb (get_or s i 0) 95) (eqb (get_or s i 0) 46) (eqb (get_or s i 0) 58)))))

  text : i < length s → Ahead s i (string_at s i)
  unfolding string_at is_text_at
  text l =
      choice (Ahead s i) (is_text_at s i)
      (λ e. a_text (omega (
        arith,
        from is_text_byte (i + 1),
        in_range_lem (λ b. eqb b 34) (content_end s i) refl
            (and_right (eqb (get_or s i 0) 34 && content_fits s i) (eqb (get_or s (content_end s i) 0) 34) e),
      )))
      (λ e. search (either, no_token_here))

  one : i < length s → Span s i (i + 1)
  one l = omega arith

  two : eqb (get_or s (i + 1) 0) 61 ≡ true → Span s i (i + 2)
  two e = omega (arith, in_range_lem (λ b. eqb b 61) (i + 1) refl e)

  sign : i < length s → Ahead s i (sign_at s i)
  unfolding sign_at
  sign l =
      choice (Ahead s i) (eqb (get_or s (i + 1) 0) 61)
      (λ e. search (either, a_sign, a_semicolon, no_token_here, two, one) depth 12)
      (λ e. search (either, a_sign, a_semicolon, no_token_here, one) depth 9)

  pub ahead : Ahead s i (token_at s i)
  unfolding token_at
  ahead =
      choice (Ahead s i) (ltb i (length s))
      (λ l. choice (Ahead s i) (is_letter (get_or s i 0)) (λ e. word (ltb-true _ _ l) (word_read s i) (ends_after s i (ltb-true _ _ l) e))
      (λ n. choice (Ahead s i) (is_digit (get_or s i 0) || eqb (get_or s i 0) 45) (λ e. numeric (ltb-true _ _ l) e)
      (λ m. either (eqb (get_or s i 0) 34) (text (ltb-true _ _ l)) (sign (ltb-true _ _ l)))))
      (λ l. the_end (ltb-false _ _ l))

-- a token's first byte and the place after it; of the end and of no token, its place
abbrev pub start_of : Token → ℕ
start_of (End p) = p
start_of (NoToken w p) = p
start_of (Word a b w) = a
start_of (Number a b) = a
start_of (Time a b) = a
start_of (Text a b) = a
start_of (Sign o a b) = a
start_of (Semicolon a b) = a

abbrev pub end_of : Token → ℕ
end_of (End p) = p
end_of (NoToken w p) = p
end_of (Word a b w) = b
end_of (Number a b) = b
end_of (Time a b) = b
end_of (Text a b) = b
end_of (Sign o a b) = b
end_of (Semicolon a b) = b

-- where the next token from i on lies
pub record Lies (s : List ℕ) (i a b : ℕ) : Type 0 where
  pub from : i ≤ a
  pub ordered : a ≤ b
  pub to : b ≤ max i (length s)

lies_from : {s : List ℕ} {i : ℕ} {t : Token} → Ahead s i t → Lies s i (start_of t) (end_of t)
lies_from (the_end l) = omega arith
lies_from (no_token_here l) = omega arith
lies_from (a_word r) = omega arith
lies_from (a_number r f) = omega arith
lies_from (a_time r) = omega arith
lies_from (a_text r) = omega arith
lies_from (a_sign r) = omega arith
lies_from (a_semicolon r) = omega arith

wider : (s : List ℕ) (i j a b : ℕ) → Onward s i j → Lies s j a b → Lies s i a b
wider s i j a b o l = record { from = omega arith; ordered = l.ordered; to = omega arith }

-- the same of a token that a caller has taken apart
next_ahead : (s : List ℕ) (i : ℕ) (r t : Token) → r ≡ next_token s i → r ≡ t → Ahead s (blank_end false s i) t
unfolding next_token
next_ahead s i r t d e = rw (sym d ∙ e) at (ahead s (blank_end false s i))

pub lies : (s : List ℕ) (i : ℕ) (r t : Token) → r ≡ next_token s i → r ≡ t → Lies s i (start_of t) (end_of t)
lies s i r t d e = wider s i (blank_end false s i) _ _ (onward s i) (lies_from (next_ahead s i r t d e))

time_within : {s : List ℕ} {i a b : ℕ} → Ahead s i (Time a b) → b ≤ length s
time_within (a_time r) = r.inside

pub time_inside : (s : List ℕ) (i a b : ℕ) (r : Token) → r ≡ next_token s i → r ≡ Time a b → b ≤ length s
time_inside s i a b r d e = time_within (next_ahead s i r (Time a b) d e)

the_figures : {s : List ℕ} {i a b : ℕ} → Ahead s i (Number a b) → (a ≡ i) × Span s a b × Figures s a b
the_figures (a_number r f) = (refl, r, f)

pub figures : (s : List ℕ) (i a b : ℕ) → token_at s i ≡ Number a b → (a ≡ i) × Span s a b × Figures s a b
figures s i a b e = the_figures (rw e at (ahead s i))

pub number_inside : (s : List ℕ) (i a b : ℕ) (r : Token) → r ≡ next_token s i → r ≡ Number a b → Short s a b
number_inside s i a b r d e =
    let h = the_figures (next_ahead s i r (Number a b) d e) in
    let n = number_short s i h.2.run.first b h.2.number in
    record { ahead = h.1.ahead; inside = h.1.inside; short = ⊎_elim (λ p. omega arith) (λ p. omega arith) h.2.run.sign }

-- a string's opening quote stands within the file
pub text_inside : (s : List ℕ) (i : ℕ) → is_text_at s i ≡ true → i < length s
unfolding is_text_at
text_inside s i e =
    in_range_lem s i (λ b. eqb b 34) i refl
    (and_left (eqb (get_or s i 0) 34) (content_fits s i) (and_left (eqb (get_or s i 0) 34 && content_fits s i) (eqb (get_or s (content_end s i) 0) 34) e))
