-- Why no token stands at a place is what the bytes there say, in document 02's words, and nothing else.
use Prim.Native.Nat.{ℕ, ◌+◌, ◌-◌, ◌<◌}
use mathlib.Core.Path.{◌≡◌, refl, sym, ◌∙◌, ap, subst}
use mathlib.Core.Bool.{Bool, true, false, true≢false, cond, ◌&&◌, ◌||◌}
use mathlib.Core.List.{List}
use mathlib.Core.Logic.{◌⊎◌, inl, inr, ⊎_elim, ◌↔◌}
use native.Mathlib.Omega.{arith}
use borrow.Author.Tests.{ltb-true, lt-ltb, eqb-true, eqb-false, eq-eqb, ne_eqb}
use lib.Dec.{eqb, leb, ltb}
use lib.ListN.{length, get_or}
use Rattle.counts.specs.Limits.{word_bytes}
use Rattle.field.specs.Bytes.{has_at, ascii}
use Rattle.scan.specs.Kinds.{is_digit, is_letter, is_word_byte, is_numeric_byte}
use Rattle.scan.specs.Run.{run_end}
use Rattle.word.specs.Word.{which_word, word_read}
use Rattle.std.specs.declared.option.Option.TheVariants.{Some, None}
use Rattle.word.specs.declared.Word.TheVariants.{TimeGe}
use Rattle.word.proofs.Alone.{time_letters}
use Rattle.token.specs.Token.{content_end, content_fits, is_text_at, is_time_at, is_number_at, NumericRun, word_token, string_at, shaped_at, numeric_at, one_sign, sign_at, token_at}
use Rattle.token.specs.declared.Why.{Why}
use Rattle.token.specs.declared.Why.TheVariants.{Stray, OpenString, BrokenString, Misshapen}
use Rattle.token.specs.declared.Token.{Token}
use Rattle.token.specs.declared.Token.TheVariants.{End, NoToken, Word, Number, Time, Text, Sign, Semicolon}
use Rattle.token.proofs.Ahead.{choice, first_of, in_range_lem}
use Rattle.item.specs.NoToken.{StartsNoToken, StringMeetsEnd, StringBreaks, OverlongWord, MisshapenRun}
use Rattle.item.proofs.NumeralTokens.{by_digit, by_minus}
use Rattle.item.proofs.NumberTokens.{number_token_exactly}
use Rattle.item.proofs.NoStrings.{met_end, met_other, is_open, is_broken}

-- ---- what is found: a token or the end, or no token with its reason

abbrev is_none : Token → Bool
is_none (End p) = false
is_none (NoToken w p) = true
is_none (Word a b w) = false
is_none (Number a b) = false
is_none (Time a b) = false
is_none (Text a b) = false
is_none (Sign o a b) = false
is_none (Semicolon a b) = false

-- a numeric run that neither test takes
record Shapeless (s : List ℕ) (i : ℕ) : Type 0 where
  pub end : ℕ
  pub run : NumericRun s i end
  pub no_time : is_time_at s i end ≡ false
  pub no_number : is_number_at s run.first end ≡ false

data Found (s : List ℕ) (i : ℕ) : Token → Type 0 where
  some : {t : Token} → is_none t ≡ false → Found s i t
  stray : StartsNoToken s i → Found s i (NoToken Stray i)
  meets_end : StringMeetsEnd s i → Found s i (NoToken OpenString i)
  breaks : StringBreaks s i → Found s i (NoToken BrokenString i)
  overlong : OverlongWord s i → Found s i (NoToken Misshapen i)
  shapeless : Shapeless s i → Found s i (NoToken Misshapen i)

neither : (a b : Bool) → (a || b) ≡ false → (a ≡ false) × (b ≡ false)
neither false b e = (refl, e)
neither true b e = absurd (true≢false e)

module _ (s : List ℕ) (i : ℕ) where
  string_found : i < length s → get_or s i 0 ≡ 34 → Found s i (string_at s i)
  unfolding string_at
  string_found inside quote =
      choice (Found s i) (is_text_at s i) (λ t. some refl)
      (λ t. choice (Found s i) (content_fits s i && leb (length s) (content_end s i)) (λ e. meets_end (met_end s i inside quote e))
      (λ e. breaks (met_other s i inside quote t e)))

  -- a sign of one byte, of two, or none
  module _ (inside : i < length s) (no_word : is_letter (get_or s i 0) ≡ false) (no_digit : is_digit (get_or s i 0) ≡ false)
      (no_minus : eqb (get_or s i 0) 45 ≡ false) (no_quote : eqb (get_or s i 0) 34 ≡ false) where
    no_sign : ((get_or s i 0 ≡ 33) → get_or s (i + 1) 0 ≡ 61 → ⊥) → eqb (get_or s i 0) 59 ≡ false → eqb (get_or s i 0) 61 ≡ false → eqb (get_or s i 0) 62 ≡ false
        → eqb (get_or s i 0) 60 ≡ false → StartsNoToken s i
    no_sign lone semicolon equal above below = record {
      inside = inside;
      no_word = no_word;
      no_run = no_digit;
      lone_minus = λ e. absurd (eqb-false _ 45 no_minus e);
      no_string = eqb-false _ 34 no_quote;
      no_operator = (eqb-false _ 61 equal, eqb-false _ 62 above, eqb-false _ 60 below);
      lone_not = lone;
      no_semicolon = eqb-false _ 59 semicolon;
    }

    one_found : ((get_or s i 0 ≡ 33) → get_or s (i + 1) 0 ≡ 61 → ⊥) → Found s i (one_sign (get_or s i 0) i)
    one_found lone =
        choice (Found s i) (eqb (get_or s i 0) 59) (λ e. some refl)
        (λ semicolon. choice (Found s i) (eqb (get_or s i 0) 61) (λ e. some refl)
        (λ equal. choice (Found s i) (eqb (get_or s i 0) 62) (λ e. some refl)
        (λ above. choice (Found s i) (eqb (get_or s i 0) 60) (λ e. some refl)
        (λ below. stray (no_sign lone semicolon equal above below)))))

    sign_found : Found s i (sign_at s i)
    unfolding sign_at
    sign_found =
        choice (Found s i) (eqb (get_or s (i + 1) 0) 61)
        (λ e. choice (Found s i) (eqb (get_or s i 0) 33) (λ f. some refl)
        (λ f. choice (Found s i) (eqb (get_or s i 0) 62) (λ g. some refl)
        (λ g. choice (Found s i) (eqb (get_or s i 0) 60) (λ h. some refl) (λ h. one_found (λ x y. eqb-false _ 33 f x)))))
        (λ e. one_found (λ x y. eqb-false _ 61 e y))

  -- a numeric run with its first digit at d
  shaped_found : (d : ℕ) → (d ≡ i) ⊎ ((d ≡ i + 1) × (get_or s i 0 ≡ 45)) → is_digit (get_or s d 0) ≡ true → Found s i (shaped_at s i d)
  unfolding shaped_at
  shaped_found d sign digit =
      choice (Found s i) (is_time_at s i (run_end is_numeric_byte s d)) (λ t. some refl)
      (λ t. choice (Found s i) (is_number_at s d (run_end is_numeric_byte s d)) (λ n. some refl)
      (λ n. shapeless (record {
        end = run_end is_numeric_byte s d;
        run = record { first = d; sign = sign; digit = digit; longest = refl };
        no_time = t;
        no_number = n;
      })))

  lone_minus_starts_none : i < length s → get_or s i 0 ≡ 45 → is_digit (get_or s (i + 1) 0) ≡ false → StartsNoToken s i
  lone_minus_starts_none inside minus next = record {
    inside = inside;
    no_word = rw minus;
    no_run = rw minus;
    lone_minus = λ e. next;
    no_string = λ e. omega arith;
    no_operator = (λ e. omega arith, λ e. omega arith, λ e. omega arith);
    lone_not = λ e f. omega arith;
    no_semicolon = λ e. omega arith;
  }

  numeric_found : i < length s → (is_digit (get_or s i 0) || eqb (get_or s i 0) 45) ≡ true → Found s i (numeric_at s i)
  unfolding numeric_at
  numeric_found inside e =
      choice (Found s i) (eqb (get_or s i 0) 45)
      (λ m. choice (Found s i) (is_digit (get_or s (i + 1) 0)) (λ d. shaped_found (i + 1) (inr (refl, eqb-true _ 45 m)) d)
      (λ d. stray (lone_minus_starts_none inside (eqb-true _ 45 m) d)))
      (λ m. shaped_found i (inl refl) (first_of (is_digit (get_or s i 0)) (eqb (get_or s i 0) 45) e m))

  word_found : is_letter (get_or s i 0) ≡ true → Found s i (word_token i (word_read s i))
  unfolding word_read
  word_found letter = go (has_at s i (ascii "TIME>=")) (ltb (i + word_bytes) (run_end is_word_byte s i)) refl
    where
      go : (a b : Bool) → ltb (i + word_bytes) (run_end is_word_byte s i) ≡ b
          → Found s i (word_token i (cond a (Some (TimeGe, i + 6)) (cond b None (Some (which_word s i (run_end is_word_byte s i - i), run_end is_word_byte s i)))))
      go true b e = some refl
      go false true e = overlong (record { letter = letter; overlong = ltb-true (i + word_bytes) (run_end is_word_byte s i) e })
      go false false e = some refl

  found : Found s i (token_at s i)
  unfolding token_at
  found =
      choice (Found s i) (ltb i (length s))
      (λ l. choice (Found s i) (is_letter (get_or s i 0)) (λ e. word_found e)
      (λ n. choice (Found s i) (is_digit (get_or s i 0) || eqb (get_or s i 0) 45) (λ e. numeric_found (ltb-true _ _ l) e)
      (λ m.
      let no = neither (is_digit (get_or s i 0)) (eqb (get_or s i 0) 45) m in
      choice (Found s i) (eqb (get_or s i 0) 34) (λ q. string_found (ltb-true _ _ l) (eqb-true _ 34 q))
      (λ q. sign_found (ltb-true _ _ l) n no.0 no.1 q))))
      (λ l. some refl)

  -- ---- and from the reason to the token

  is_stray : StartsNoToken s i → token_at s i ≡ NoToken Stray i
  unfolding token_at numeric_at sign_at
  is_stray r = go (eqb (get_or s i 0) 45) (eqb (get_or s (i + 1) 0) 61) (eqb (get_or s i 0) 33) refl refl refl
    where
      sign : (eqb (get_or s i 0) 59 ≡ false) × (eqb (get_or s i 0) 61 ≡ false) × (eqb (get_or s i 0) 62 ≡ false) × (eqb (get_or s i 0) 60 ≡ false)
      sign = (ne_eqb _ 59 r.no_semicolon, ne_eqb _ 61 r.no_operator.0, ne_eqb _ 62 r.no_operator.1, ne_eqb _ 60 r.no_operator.2)

      go : (m e n : Bool) → eqb (get_or s i 0) 45 ≡ m → eqb (get_or s (i + 1) 0) 61 ≡ e → eqb (get_or s i 0) 33 ≡ n → token_at s i ≡ NoToken Stray i
      go true e n p q f = rw (lt-ltb _ _ r.inside, r.no_word, r.no_run, p, r.lone_minus (eqb-true _ 45 p))
      go false true true p q f = absurd (r.lone_not (eqb-true _ 33 f) (eqb-true _ 61 q))
      go false true false p q f =
          rw (lt-ltb _ _ r.inside, r.no_word, r.no_run, p, ne_eqb _ 34 r.no_string, q, f, sign.0, sign.1, sign.2, sign.3)
      go false false n p q f = rw (lt-ltb _ _ r.inside, r.no_word, r.no_run, p, ne_eqb _ 34 r.no_string, q, sign.0, sign.1, sign.2, sign.3)

  is_overlong : OverlongWord s i → token_at s i ≡ NoToken Misshapen i
  unfolding token_at word_read
  is_overlong r = rw (lt-ltb _ _ (in_range_lem s i is_letter i refl r.letter), r.letter, no_time, lt-ltb (i + word_bytes) _ r.overlong)
    where
      no_time : has_at s i (ascii "TIME>=") ≡ false
      no_time = go (has_at s i (ascii "TIME>=")) refl
        where
          go : (b : Bool) → has_at s i (ascii "TIME>=") ≡ b → b ≡ false
          go true h = absurd (omega (arith, r.overlong, time_letters s i h))
          go false h = refl

  -- a numeric run is a token by its shape alone
  by_run : (e : ℕ) (r : NumericRun s i e) → token_at s i ≡ shaped_at s i r.first
  by_run e r = ⊎_elim (λ p. by_digit' p) (λ p. by_minus' p.0 p.1) r.sign
    where
      by_digit' : r.first ≡ i → token_at s i ≡ shaped_at s i r.first
      by_digit' p = let d : is_digit (get_or s i 0) ≡ true = ap (λ (k : ℕ). is_digit (get_or s k 0)) (sym p) ∙ r.digit in
          by_digit s i (in_range_lem s i is_digit i refl d) d ∙ ap (shaped_at s i) (sym p)

      by_minus' : r.first ≡ i + 1 → get_or s i 0 ≡ 45 → token_at s i ≡ shaped_at s i r.first
      by_minus' p m = let d : is_digit (get_or s (i + 1) 0) ≡ true = ap (λ (k : ℕ). is_digit (get_or s k 0)) (sym p) ∙ r.digit in
          by_minus s i (in_range_lem s i (λ b. eqb b 45) i refl (eq-eqb _ _ m)) m d ∙ ap (shaped_at s i) (sym p)

  is_shapeless : Shapeless s i → token_at s i ≡ NoToken Misshapen i
  unfolding shaped_at
  is_shapeless r = by_run r.end r.run ∙ rw (← r.run.longest, r.no_time, r.no_number)

  none≢number : {w : Why} {p a b : ℕ} → NoToken w p ≡ Number a b → ⊥
  none≢number e = let z : ◌≡◌ {A = Bool} true false = ap is_none e in true≢false z

  to_misshapen : Shapeless s i → MisshapenRun s i
  to_misshapen r = record {
    end = r.end;
    run = r.run;
    no_number = λ n. none≢number (sym (is_shapeless r) ∙ (number_token_exactly s i i r.end).1 (refl, n));
    no_time = r.no_time;
  }

  from_misshapen : MisshapenRun s i → Shapeless s i
  unfolding shaped_at
  from_misshapen r = record { end = r.end; run = r.run; no_time = r.no_time; no_number = go (is_number_at s r.run.first r.end) refl }
    where
      go : (b : Bool) → is_number_at s r.run.first r.end ≡ b → b ≡ false
      go true n = absurd (r.no_number
          ((number_token_exactly s i i r.end).0 (by_run r.end r.run ∙ rw (← r.run.longest, r.no_time, n))).1)
      go false n = refl

-- ---- both ways

module _ (s : List ℕ) (i p : ℕ) where
  there : {w : Why} → token_at s i ≡ NoToken w p → Found s i (NoToken w p)
  there e = subst (Found s i) e (found s i)

  pub stray_exactly : token_at s i ≡ NoToken Stray p ↔ ((p ≡ i) × StartsNoToken s i)
  stray_exactly = (λ e. from (there e), λ h. rw h.0 (is_stray s i h.1))
    where
      from : {q : ℕ} → Found s i (NoToken Stray q) → (q ≡ i) × StartsNoToken s i
      from (some e) = absurd (true≢false e)
      from (stray r) = (refl, r)

  pub open_string_exactly : token_at s i ≡ NoToken OpenString p ↔ ((p ≡ i) × StringMeetsEnd s i)
  open_string_exactly = (λ e. from (there e), λ h. rw h.0 (is_open s i h.1))
    where
      from : {q : ℕ} → Found s i (NoToken OpenString q) → (q ≡ i) × StringMeetsEnd s i
      from (some e) = absurd (true≢false e)
      from (meets_end r) = (refl, r)

  pub broken_string_exactly : token_at s i ≡ NoToken BrokenString p ↔ ((p ≡ i) × StringBreaks s i)
  broken_string_exactly = (λ e. from (there e), λ h. rw h.0 (is_broken s i h.1))
    where
      from : {q : ℕ} → Found s i (NoToken BrokenString q) → (q ≡ i) × StringBreaks s i
      from (some e) = absurd (true≢false e)
      from (breaks r) = (refl, r)

  pub misshapen_exactly : token_at s i ≡ NoToken Misshapen p ↔ ((p ≡ i) × (OverlongWord s i ⊎ MisshapenRun s i))
  misshapen_exactly = (λ e. from (there e), λ h. rw h.0 (⊎_elim (is_overlong s i) (λ r. is_shapeless s i (from_misshapen s i r)) h.1))
    where
      from : {q : ℕ} → Found s i (NoToken Misshapen q) → (q ≡ i) × (OverlongWord s i ⊎ MisshapenRun s i)
      from (some e) = absurd (true≢false e)
      from (overlong r) = (refl, inl r)
      from (shapeless r) = (refl, inr (to_misshapen s i r))
