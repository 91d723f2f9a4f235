-- The reader's answer, one byte at a time, as its loop finds it.
use mathlib.Core.Path.{◌≡◌, refl, sym, ap, ap₂, ◌∙◌, subst, subst₂}
use mathlib.Core.Bool.{Bool, true, false, cond, ◌&&◌}
use mathlib.Core.List.{List, [], ◌∷◌}
use Prim.Native.Nat.{ℕ, zero, suc, ◌+◌, ◌-◌, ◌*◌, ◌/◌, ◌%◌, ◌^◌, ◌≤◌, ◌<◌}
use native.Mathlib.Nat.{pow-succ', mul_assoc, add-mul, add_assoc, mul-one}
use native.Mathlib.Omega.{arith}
use lib.ListN.{length, get_or, take, drop, drop_of_length-le}
use lib.Seq.{drop-cons}
use lib.Dec.{eqb}
use borrow.Author.Tests.{eq-eqb, ne_eqb, eqb-true, le-leb, lt-leb}
use Rattle.decimal.proofs.Laws.{length_digits, value_digits, digits_value, value_lt}
use Rattle.decimal.specs.Digits.{digits, value, is_digit, all_digits}
use Rattle.laws.proofs.Choose.{and_left, and_right}
use Rattle.field.specs.Part.{part}
use Rattle.decimal.specs.Read.{digits_read}
use Rattle.field.proofs.Parts.{length_part, length_part_in}
use Rattle.std.specs.declared.option.Option.{Option}
use Rattle.std.specs.declared.option.Option.TheVariants.{Some, None}

-- acc, and the bytes still to be read
unfoldable pub read_from : ℕ → List ℕ → Option ℕ
read_from acc [] = Some acc
read_from acc (d ∷ ds) = cond (is_digit d) (read_from (acc * 10 + (d - 48)) ds) None

-- Horner's step
horner : (acc x k v : ℕ) → (acc * 10 + x) * 10 ^ k + v ≡ acc * 10 ^ suc k + (x * 10 ^ k + v)
horner acc x k v =
    ap (λ (m : ℕ). m + v) (add-mul (acc * 10) x (10 ^ k) ∙ ap (λ (m : ℕ). m + x * 10 ^ k)
    (mul_assoc acc 10 (10 ^ k) ∙ ap (λ (m : ℕ). acc * m) (sym (pow-succ' 10 k))))
    ∙ add_assoc (acc * 10 ^ suc k) (x * 10 ^ k) v

pick_all : (t b : Bool) (u v : Option ℕ) → u ≡ cond b v None → cond t u None ≡ cond (t && b) v None
pick_all true b u v e = e
pick_all false b u v e = refl

read_from_lem : (ds : List ℕ) (acc : ℕ) → read_from acc ds ≡ cond (all_digits ds) (Some (acc * 10 ^ length ds + value ds)) None
unfolding read_from all_digits value
read_from_lem [] acc = ap Some (omega (arith, mul-one acc))
read_from_lem (d ∷ ds) acc =
    pick_all (is_digit d) (all_digits ds) _ _
    (read_from_lem ds (acc * 10 + (d - 48))
    ∙ ap (λ (m : ℕ). cond (all_digits ds) (Some m) None) (horner acc (d - 48) (length ds) (value ds)))

-- where the loop begins
pub read_start : (s : List ℕ) (at w : ℕ) → at + w ≤ length s → read_from 0 (part s at w) ≡ digits_read w (part s at w)
unfolding digits_read
read_start s at w h =
    let ds = part s at w in
    rw (eq-eqb (length ds) w (length_part_in s at w h))
    (read_from_lem ds 0 ∙ ap (λ (m : ℕ). cond (all_digits ds) (Some m) None) (omega arith))

-- the bytes that the loop runs over are the field
pub field_is : (s : List ℕ) (at w : ℕ) → take (at + w - at) (drop at s) ≡ part s at w
unfolding part
field_is s at w = let e : at + w - at ≡ w = omega arith in ap (λ (k : ℕ). take k (drop at s)) e

module _ {ds ps : List ℕ} (is : ds ≡ ps) (i acc : ℕ) where
  -- a turn
  read_turn : i < length ds → read_from acc (drop i ds) ≡ cond (is_digit (get_or ds i 0)) (read_from (acc * 10 + (get_or ds i 0 - 48)) (drop (suc i) ds)) None
  unfolding read_from
  read_turn h = rw (drop-cons ds i 0 h)

  -- a byte that is no digit
  pub read_stop : i < length ds → is_digit (get_or ds i 0) ≡ false → read_from acc (drop i ps) ≡ None
  read_stop h no_digit = subst (λ (l : List ℕ). read_from acc (drop i l) ≡ None) is (read_turn h ∙ rw no_digit)

  -- a digit
  pub read_on : i < length ds → is_digit (get_or ds i 0) ≡ true → read_from acc (drop i ps) ≡ read_from (acc * 10 + (get_or ds i 0 - 48)) (drop (i + 1) ps)
  read_on h digit =
      let e : suc i ≡ i + 1 = omega arith in
      subst (λ (l : List ℕ). read_from acc (drop i l) ≡ read_from (acc * 10 + (get_or ds i 0 - 48)) (drop (i + 1) l)) is
      (read_turn h ∙ rw digit (ap (λ (k : ℕ). read_from (acc * 10 + (get_or ds i 0 - 48)) (drop k ds)) e))

  -- where it ends
  pub read_end : length ds ≤ i → read_from acc (drop i ps) ≡ Some acc
  unfolding read_from
  read_end h = subst (λ (l : List ℕ). read_from acc (drop i l) ≡ Some acc) is (rw (drop_of_length-le ds h))

-- too few bytes
pub read_short : (s : List ℕ) (at w : ℕ) → 0 < w → length s < at + w → None ≡ digits_read w (part s at w)
unfolding digits_read
read_short s at w h short =
    let e : eqb (length (part s at w)) w ≡ false = ne_eqb (length (part s at w)) w (λ p. omega (arith, length_part s at w)) in
    rw e

pub low_byte : (d : ℕ) → d < 48 → is_digit d ≡ false
low_byte d h = rw (lt-leb 48 d h)

pub high_byte : (d : ℕ) → 57 < d → is_digit d ≡ false
high_byte d h = rw (le-leb 48 d (omega arith), lt-leb d 57 h)

pub digit_byte : (d : ℕ) → 48 ≤ d → d ≤ 57 → is_digit d ≡ true
digit_byte d low high = rw (le-leb 48 d low, le-leb d 57 high)

-- ---- a field of w bytes reads as v exactly where its bytes are v's w digits

pub all_digits_lem : (w n : ℕ) → all_digits (digits w n) ≡ true
unfolding all_digits digits
all_digits_lem zero n = refl
all_digits_lem (suc w) n =
    let x = n / 10 ^ w % 10 in
    let small : x < 10 = omega arith in
    rw (digit_byte (48 + x) (omega arith) (omega arith), all_digits_lem w n)

pub read_done : (w v : ℕ) → v < 10 ^ w → digits_read w (digits w v) ≡ Some v
unfolding digits_read
read_done w v h = rw (eq-eqb (length (digits w v)) w (length_digits w v), all_digits_lem w v, value_digits w v h)

pub read_back : (w : ℕ) (p : List ℕ) (v : ℕ) → digits_read w p ≡ Some v → (p ≡ digits w v) × (v < 10 ^ w)
unfolding digits_read
read_back w p v h = go ((eqb (length p) w && all_digits p)) refl h
  where
    go : (b : Bool) → (eqb (length p) w && all_digits p) ≡ b → cond b (Some (value p)) None ≡ Some v → (p ≡ digits w v) × (v < 10 ^ w)
    go true t e =
        let long : length p ≡ w = eqb-true (length p) w (and_left (eqb (length p) w) (all_digits p) t) in
        let ds : all_digits p ≡ true = and_right (eqb (length p) w) (all_digits p) t in
        let same : value p ≡ v = cc in
        (sym (digits_value p ds) ∙ ap₂ digits long same, subst₂ (λ (a b : ℕ). a < 10 ^ b) same long (value_lt p ds))
    go false t e = let z : ◌≡◌ {A = ℕ} 0 1 = cc in absurd (omega arith)
