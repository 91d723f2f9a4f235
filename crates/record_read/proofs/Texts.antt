-- The text of a record is the run of a string's bytes that a quote ends; and the digits of its number are a run that a space ends.
use Prim.Native.Nat.{ℕ, zero, suc, ◌+◌, ◌-◌, ◌/◌, ◌%◌, ◌^◌, ◌≤◌, ◌<◌}
use mathlib.Core.Path.{◌≡◌, refl, sym, ap, ◌∙◌}
use mathlib.Core.Bool.{Bool, true, false}
use mathlib.Core.List.{List, [], ◌∷◌, ◌++◌}
use native.Mathlib.Omega.{arith}
use lib.Dec.{leb, eqb}
use lib.ListN.{length, take, drop, take-append-drop}
use lib.Seq.{drop-drop, length-take-le}
use borrow.Author.Tests.{eqb-true, le-leb, eq-eqb}
use Rattle.laws.proofs.Choose.{and_right, and_both}
use Rattle.counts.specs.Limits.{text_bytes}
use Rattle.field.specs.Part.{part}
use Rattle.decimal.specs.Digits.{digits}
use Rattle.decimal.proofs.Laws.{length_digits}
use Rattle.scan.specs.Kinds.{is_digit, is_text_byte}
use Rattle.scan.specs.Run.{run, run_end}
use Rattle.scan.proofs.Runs.{run_fits}
use Rattle.record.specs.Record.{is_text}

-- ---- runs

module _ (p : ℕ → Bool) where
  -- a whole run, and a byte that ends it
  run_done : (xs : List ℕ) (y : ℕ) (ys : List ℕ) → run p xs ≡ length xs → p y ≡ false → run p (xs ++ y ∷ ys) ≡ length xs
  unfolding run
  run_done [] y ys h t = rw (run, t)
  run_done (x ∷ xs) y ys h t = go (λ e. run_done xs y ys e t) (p x) h
    where
      go : (run p xs ≡ length xs → run p (xs ++ y ∷ ys) ≡ length xs) → (b : Bool)
          → elim b [ true ↦ suc (run p xs) | false ↦ 0 ] ≡ suc (length xs)
          → elim b [ true ↦ suc (run p (xs ++ y ∷ ys)) | false ↦ 0 ] ≡ suc (length xs)
      go more true e = ap suc (more (omega arith))
      go more false e = absurd (omega arith)

  -- the bytes of a run are a run
  run_take : (xs : List ℕ) → run p (take (run p xs) xs) ≡ run p xs
  unfolding run
  run_take [] = refl
  run_take (x ∷ xs) = go (run_take xs) (p x) refl
    where
      go : run p (take (run p xs) xs) ≡ run p xs → (b : Bool) → p x ≡ b
          → run p (take (elim b [ true ↦ suc (run p xs) | false ↦ 0 ]) (x ∷ xs)) ≡ elim b [ true ↦ suc (run p xs) | false ↦ 0 ]
      go more true e = rw (run, e) (ap suc more)
      go more false e = refl

  -- from the very start
  run_from_start : (xs : List ℕ) → run_end p xs 0 ≡ run p xs
  unfolding run_end
  run_from_start xs = omega arith

  run_one : (x : ℕ) (xs : List ℕ) → p x ≡ true → run p (x ∷ xs) ≡ suc (run p xs)
  unfolding run
  run_one x xs e = rw (run, e)

-- ---- the text

whole_text : (text : List ℕ) → is_text text ≡ true → run is_text_byte text ≡ length text
unfolding is_text
whole_text text ok =
    sym (run_from_start is_text_byte text)
    ∙ eqb-true (run_end is_text_byte text 0) (length text) (and_right (leb (length text) text_bytes) (eqb (run_end is_text_byte text 0) (length text)) ok)

text_ok : (text : List ℕ) → length text ≤ text_bytes → run is_text_byte text ≡ length text → is_text text ≡ true
unfolding is_text
text_ok text small whole =
    and_both (le-leb (length text) text_bytes small) (eq-eqb (run_end is_text_byte text 0) (length text) (run_from_start is_text_byte text ∙ whole))

module _ (s : List ℕ) (start : ℕ) where
  -- a quote ends it
  pub text_end : (text ys : List ℕ) → is_text text ≡ true → drop start s ≡ text ++ 34 ∷ ys → run_end is_text_byte s start ≡ start + length text
  unfolding run_end
  text_end text ys ok h =
      ap (λ (k : ℕ). start + k) (ap (run is_text_byte) h ∙ run_done is_text_byte text 34 ys (whole_text text ok) refl)

  -- what a run of at most 255 such bytes is
  pub record TextIs (end : ℕ) : Type 0 where
    pub from : start ≤ end
    pub ok : is_text (part s start (end - start)) ≡ true
    pub bytes : drop start s ≡ part s start (end - start) ++ drop end s
    pub long : length (part s start (end - start)) ≡ end - start

  pub text_back : run_end is_text_byte s start - start ≤ text_bytes → TextIs (run_end is_text_byte s start)
  unfolding run_end part
  text_back small =
      let l = drop start s in
      let w = run is_text_byte l in
      let e : start + w - start ≡ w = omega arith in
      let long : length (take w l) ≡ w = length-take-le w l (run_fits is_text_byte l) in
      record {
        from = omega arith;
        ok = rw e (text_ok (take w l) (omega arith) (run_take is_text_byte l ∙ sym long));
        bytes = rw e (sym (take-append-drop w l) ∙ ap (λ (x : List ℕ). take w l ++ x) (drop-drop w start s));
        long = rw e long;
      }

-- ---- the digits of the number

digit_kind : (x : ℕ) → x < 10 → is_digit (48 + x) ≡ true
digit_kind x h = and_both (le-leb 48 (48 + x) (omega arith)) (le-leb (48 + x) 57 (omega arith))

none : run is_digit [] ≡ 0
unfolding run
none = refl

run_digits : (w n : ℕ) → run is_digit (digits w n) ≡ w
unfolding digits
run_digits zero n = none
run_digits (suc w) n = run_one is_digit (48 + n / 10 ^ w % 10) (digits w n) (digit_kind (n / 10 ^ w % 10) (omega arith)) ∙ ap suc (run_digits w n)

-- a space ends them
pub digits_end : (s : List ℕ) (at w n : ℕ) (ys : List ℕ) → drop at s ≡ digits w n ++ 32 ∷ ys → run_end is_digit s at - at ≡ w
unfolding run_end
digits_end s at w n ys h =
    let e : run is_digit (drop at s) ≡ w =
    ap (run is_digit) h ∙ run_done is_digit (digits w n) 32 ys (run_digits w n ∙ sym (length_digits w n)) refl ∙ length_digits w n in
    omega arith
