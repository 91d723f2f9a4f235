-- Where a numeral ends its numeric run, it is the token that stands there.
use Prim.Native.Nat.{ℕ, zero, suc, ◌+◌, ◌-◌, ◌≤◌, ◌<◌}
use mathlib.Core.Path.{◌≡◌, refl, sym, ap, ◌∙◌}
use mathlib.Core.Bool.{Bool, true, false, true≢false, ◌&&◌}
use mathlib.Core.List.Memᴰ
use mathlib.Core.List.{List, [], ◌∷◌, ◌++◌, append_assoc, Memᴰ}
use mathlib.Core.Logic.{◌⊎◌, inl, inr, ⊎_elim}
use native.Mathlib.Omega.{arith}
use borrow.Author.Tests.{lt-ltb, ltb-true, ltb-false, leb-true, le-leb, lt-leb, eqb-true, eq-eqb, ne_eqb}
use lib.Dec.{eqb, leb, ltb}
use lib.ListN.{length, get_or, drop, length-append, drop_of_length-le, get_or-append}
use lib.Seq.{drop-cons, drop-drop, drop-append_seam, get_or-drop}
use Rattle.laws.proofs.Choose.{and_left, and_right}
use Rattle.field.specs.Part.{part}
use Rattle.field.proofs.Parts.{head_at, length_part, length_part_in, is_part}
use Rattle.decimal.specs.Digits.{all_digits}
use Rattle.number.specs.Number.{unsigned, spelled, Numeral}
use Rattle.scan.specs.Kinds.{is_digit, is_letter, is_numeric_byte}
use Rattle.scan.specs.Run.{run, run_end}
use Rattle.scan.proofs.Runs.{run_whole}
use Rattle.token.specs.Token.{pair_at, is_time_at, is_number_at, shaped_at, numeric_at, token_at}
use Rattle.token.specs.declared.Token.TheVariants.{Number}
use Rattle.token.proofs.Ahead.{numeric_byte}

-- ---- the bytes of a numeral

pub digit_range : (b : ℕ) → is_digit b ≡ true → (48 ≤ b) × (b ≤ 57)
digit_range b h = (leb-true 48 b (and_left (leb 48 b) (leb b 57) h), leb-true b 57 (and_right (leb 48 b) (leb b 57) h))

pub digit_each : (ds : List ℕ) → all_digits ds ≡ true → (b : ℕ) → Memᴰ b ds → is_digit b ≡ true
unfolding all_digits
digit_each [] h b m = absurd (Memᴰ.not-nil m)
digit_each (d ∷ ds) h b m =
    ⊎_elim (λ e. rw e (and_left (is_digit d) (all_digits ds) h)) (digit_each ds (and_right (is_digit d) (all_digits ds) h) b) (Memᴰ.cases_cons m)

figure : (w f : List ℕ) → all_digits w ≡ true → all_digits f ≡ true → (b : ℕ) → Memᴰ b (unsigned w f) → (is_digit b ≡ true) ⊎ (b ≡ 46)
figure w [] h k b m = inl (digit_each w h b m)
figure w (x ∷ f) h k b m =
    ⊎_elim (λ n. inl (digit_each w h b n))
    (λ n. ⊎_elim (λ e. inr e) (λ o. inl (digit_each (x ∷ f) k b o)) (Memᴰ.cases_cons n))
    (Memᴰ.append_cases w m)

numeric_figure : (b : ℕ) → (is_digit b ≡ true) ⊎ (b ≡ 46) → is_numeric_byte b ≡ true
numeric_figure b (inl e) = rw e (numeric_byte (is_letter b) (eqb b 95) (eqb b 46) (eqb b 58))
numeric_figure b (inr e) = rw e

low_figure : (b : ℕ) → (is_digit b ≡ true) ⊎ (b ≡ 46) → b ≤ 57
low_figure b (inl e) = (digit_range b e).1
low_figure b (inr e) = omega arith

low_spelled : (minus : Bool) (w f : List ℕ) → all_digits w ≡ true → all_digits f ≡ true → (b : ℕ) → Memᴰ b (spelled minus w f) → b ≤ 57
low_spelled false w f h k b m = low_figure b (figure w f h k b m)
low_spelled true w f h k b m = ⊎_elim (λ e. omega arith) (λ n. low_figure b (figure w f h k b n)) (Memᴰ.cases_cons m)

low_at : (l : List ℕ) → ((b : ℕ) → Memᴰ b l → b ≤ 57) → (k : ℕ) → get_or l k 0 ≤ 57
low_at [] h k = omega arith
low_at (x ∷ l) h zero = h x (Memᴰ.head refl)
low_at (x ∷ l) h (suc k) = low_at l (λ b m. h b (Memᴰ.tail m)) k

-- ---- where the numeric run has ended

module _ (s : List ℕ) (b : ℕ) (stop : is_numeric_byte (get_or s b 0) ≡ false) where
  none_left : (p : ℕ → Bool) → p (get_or s b 0) ≡ false → run p (drop b s) ≡ 0
  unfolding run
  none_left p e = go (ltb b (length s)) refl
    where
      go : (t : Bool) → ltb b (length s) ≡ t → run p (drop b s) ≡ 0
      go true l = rw (drop-cons s b 0 (ltb-true _ _ l), run, e)
      go false l = rw (drop_of_length-le s (ltb-false _ _ l))

  no_digit : is_digit (get_or s b 0) ≡ false
  no_digit = go (is_digit (get_or s b 0)) refl
    where
      go : (t : Bool) → is_digit (get_or s b 0) ≡ t → is_digit (get_or s b 0) ≡ false
      go true e = absurd (true≢false (sym (numeric_figure (get_or s b 0) (inl e)) ∙ stop))
      go false e = e

  -- from the first digit d on
  module _ (d : ℕ) (some : d ≤ b) (w : List ℕ) (whole : all_digits w ≡ true) where
    module _ (f : List ℕ) (after : all_digits f ≡ true) (stands : drop d s ≡ unsigned w f ++ drop b s) (long : length (unsigned w f) ≡ b - d) where
      numeric_end : run_end is_numeric_byte s d ≡ b
      unfolding run_end
      numeric_end =
          rw (stands, run_whole is_numeric_byte (unsigned w f) (drop b s) (λ x m. numeric_figure x (figure w f whole after x m)) (none_left is_numeric_byte stop))
          (omega arith)

    bare : drop d s ≡ w ++ drop b s → length w ≡ b - d → length w ≤ 16 → is_number_at s d b ≡ true
    unfolding is_number_at run_end
    bare stands long few =
        let e : d + length w ≡ b = omega arith in
        rw (stands, run_whole is_digit w (drop b s) (digit_each w whole) (none_left is_digit no_digit), e, eq-eqb b b refl, le-leb b (d + 16) (omega arith))

    module _ (x : ℕ) (f : List ℕ) (after : all_digits (x ∷ f) ≡ true) (stands : drop d s ≡ (w ++ (46 ∷ (x ∷ f))) ++ drop b s)
        (long : length (w ++ (46 ∷ (x ∷ f))) ≡ b - d) where
      apart : drop d s ≡ w ++ (46 ∷ ((x ∷ f) ++ drop b s))
      apart = stands ∙ append_assoc w (46 ∷ (x ∷ f)) (drop b s)

      counted : length w + suc (suc (length f)) ≡ b - d
      counted = sym (length-append w (46 ∷ (x ∷ f))) ∙ long

      mid : run_end is_digit s d ≡ d + length w
      unfolding run_end run
      mid = rw (apart, run_whole is_digit w (46 ∷ ((x ∷ f) ++ drop b s)) (digit_each w whole) refl)

      from_point : drop (d + length w) s ≡ 46 ∷ ((x ∷ f) ++ drop b s)
      from_point =
          sym (drop-drop (length w) d s) ∙ ap (λ (l : List ℕ). drop (length w) l) apart ∙ drop-append_seam w (46 ∷ ((x ∷ f) ++ drop b s))

      after_point : drop (d + length w + 1) s ≡ (x ∷ f) ++ drop b s
      after_point = sym (drop-drop 1 (d + length w) s) ∙ ap (λ (l : List ℕ). drop 1 l) from_point

      last : run_end is_digit s (d + length w + 1) ≡ b
      unfolding run_end
      last =
          rw (after_point, run_whole is_digit (x ∷ f) (drop b s) (digit_each (x ∷ f) after) (none_left is_digit no_digit)) (omega (arith, counted))

      pointed : length w + suc (length f) ≤ 16 → is_number_at s d b ≡ true
      unfolding is_number_at
      pointed few =
          let more : d + length w < b = omega (arith, counted) in
          rw (
            mid,
            ne_eqb (d + length w) b (λ e. omega arith),
            head_at s (d + length w) 46 ((x ∷ f) ++ drop b s) from_point,
            head_at s (d + length w + 1) x (f ++ drop b s) after_point,
            digit_each (x ∷ f) after x (Memᴰ.head refl),
            last,
            eq-eqb b b refl,
            le-leb b (d + 16 + 1) (omega (arith, counted)),
          )

    number_at : (f : List ℕ) → all_digits f ≡ true → drop d s ≡ unsigned w f ++ drop b s → length (unsigned w f) ≡ b - d → length w + length f ≤ 16
        → is_number_at s d b ≡ true
    number_at [] after stands long few = bare stands long (omega arith)
    number_at (x ∷ f) after stands long few = pointed x f after stands long few

    shaped : (f : List ℕ) → all_digits f ≡ true → drop d s ≡ unsigned w f ++ drop b s → length (unsigned w f) ≡ b - d → length w + length f ≤ 16
        → (i : ℕ) → is_time_at s i b ≡ false → shaped_at s i d ≡ Number i b
    unfolding shaped_at
    shaped f after stands long few i no_time = rw (numeric_end f after stands long, no_time, number_at f after stands long few)

-- a time has eight bytes, and the third is a colon
colon_at : (s : List ℕ) (i b : ℕ) → is_time_at s i b ≡ true → (b - i ≡ 8) × (get_or s (i + 2) 0 ≡ 58)
unfolding is_time_at
colon_at s i b h =
    let eight = eqb (b - i) 8 in
    let hours = pair_at s i in
    let colon = eqb (get_or s (i + 2) 0) 58 in
    let minutes = pair_at s (i + 3) in
    let second = eqb (get_or s (i + 5) 0) 58 in
    let e = and_left (eight && hours && colon) minutes (and_left (eight && hours && colon && minutes) second
    (and_left (eight && hours && colon && minutes && second) (pair_at s (i + 6)) h)) in
    (eqb-true (b - i) 8 (and_left eight hours (and_left (eight && hours) colon e)), eqb-true (get_or s (i + 2) 0) 58 (and_right (eight && hours) colon e))

-- no numeral is a time: it has no colon
no_time : (s : List ℕ) (i b : ℕ) (l : List ℕ) → ((x : ℕ) → Memᴰ x l → x ≤ 57) → drop i s ≡ l ++ drop b s → length l ≡ b - i → is_time_at s i b ≡ false
no_time s i b l low stands long = go (is_time_at s i b) refl
  where
    third : get_or s (i + 2) 0 ≡ 58 → 2 < length l → ⊥
    third colon h =
        let e : get_or s (i + 2) 0 ≡ get_or l 2 0 =
        sym (get_or-drop i s 2 0) ∙ ap (λ (k : List ℕ). get_or k 2 0) stands ∙ get_or-append l (drop b s) 0 2 h
        in
        omega (arith, low_at l low 2)

    go : (t : Bool) → is_time_at s i b ≡ t → is_time_at s i b ≡ false
    go true e = let h = colon_at s i b e in absurd (third h.1 (omega arith))
    go false e = e

-- ---- the token, by its first byte

pub first_digit : (s : List ℕ) (d : ℕ) (w f rest : List ℕ) → all_digits w ≡ true → 1 ≤ length w → drop d s ≡ unsigned w f ++ rest → is_digit (get_or s d 0) ≡ true
first_digit s d [] f rest h some e = absurd (omega arith)
first_digit s d (y ∷ w) [] rest h some e = rw (head_at s d y (w ++ rest) e) (digit_each (y ∷ w) h y (Memᴰ.head refl))
first_digit s d (y ∷ w) (x ∷ f) rest h some e =
    rw (head_at s d y ((w ++ (46 ∷ (x ∷ f))) ++ rest) e) (digit_each (y ∷ w) h y (Memᴰ.head refl))

pub no_letter : (b : ℕ) → is_digit b ≡ true → is_letter b ≡ false
no_letter b h =
    let r = digit_range b h in
    rw (lt-leb 65 b (omega arith), lt-leb 97 b (omega arith))

pub no_minus : (b : ℕ) → is_digit b ≡ true → eqb b 45 ≡ false
no_minus b h = ne_eqb b 45 (λ e. omega (arith, digit_range b h))

pub by_digit : (s : List ℕ) (i : ℕ) → i < length s → is_digit (get_or s i 0) ≡ true → token_at s i ≡ shaped_at s i i
unfolding token_at numeric_at
by_digit s i l h = rw (lt-ltb _ _ l, no_letter (get_or s i 0) h, h, no_minus (get_or s i 0) h)

pub by_minus : (s : List ℕ) (i : ℕ) → i < length s → get_or s i 0 ≡ 45 → is_digit (get_or s (i + 1) 0) ≡ true → token_at s i ≡ shaped_at s i (i + 1)
unfolding token_at numeric_at
by_minus s i l q h = rw (lt-ltb _ _ l, q, h)

module _ (s : List ℕ) (i b : ℕ) (room : b ≤ length s) (stop : is_numeric_byte (get_or s b 0) ≡ false) (more : i < b) (w f : List ℕ) where
  by_sign : (minus : Bool) → Numeral (part s i (b - i)) minus w f → drop i s ≡ spelled minus w f ++ drop b s → length (spelled minus w f) ≡ b - i
      → is_time_at s i b ≡ false → token_at s i ≡ Number i b
  by_sign false n stands long time =
      by_digit s i (omega arith) (first_digit s i w f (drop b s) n.whole n.some stands)
      ∙ shaped s b stop i (omega arith) w n.whole f n.after stands long n.few i time
  by_sign true n stands long time =
      let rest : drop (i + 1) s ≡ unsigned w f ++ drop b s = sym (drop-drop 1 i s) ∙ ap (λ (l : List ℕ). drop 1 l) stands in
      let short : length (unsigned w f) ≡ b - (i + 1) = omega arith in
      by_minus s i (omega arith) (head_at s i 45 (unsigned w f ++ drop b s) stands) (first_digit s (i + 1) w f (drop b s) n.whole n.some rest)
      ∙ shaped s b stop (i + 1) (omega arith) w n.whole f n.after rest short n.few i time

pub some_bytes : (minus : Bool) (w f : List ℕ) → 1 ≤ length w → 1 ≤ length (spelled minus w f)
some_bytes false w [] h = h
some_bytes false w (x ∷ f) h = omega (arith, length-append w (46 ∷ (x ∷ f)))
some_bytes true w f h = omega arith

-- A numeral from i to b with no byte of a numeric run after it is the number token at i.
pub numeral_token : (s : List ℕ) (i b : ℕ) {minus : Bool} {w f : List ℕ} → Numeral (part s i (b - i)) minus w f → b ≤ length s
    → is_numeric_byte (get_or s b 0) ≡ false → token_at s i ≡ Number i b
numeral_token s i b {minus} {w} {f} n room stop =
    let more : i < b = omega (arith, length_part s i (b - i), ap length n.bytes, some_bytes minus w f n.some) in
    let long : length (spelled minus w f) ≡ b - i = sym (ap length n.bytes) ∙ length_part_in s i (b - i) (omega arith) in
    let stands : drop i s ≡ spelled minus w f ++ drop b s = is_part s i (spelled minus w f) (b - i) long b (omega arith) n.bytes in
    by_sign s i b room stop more w f minus n stands long (no_time s i b (spelled minus w f) (low_spelled minus w f n.whole n.after) stands long)
