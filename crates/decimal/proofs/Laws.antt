-- Laws of decimal fields, each for every width.
use mathlib.Core.Path.{◌≡◌, refl, sym, ap, ap₂, ◌∙◌, subst}
use mathlib.Core.Bool.{true}
use mathlib.Core.List.{List, [], ◌∷◌}
use Prim.Native.Nat.{ℕ, zero, suc, ◌+◌, ◌-◌, ◌*◌, ◌/◌, ◌%◌, ◌^◌, ◌≤◌, ◌<◌}
use native.Mathlib.Nat.{pow-suc, pow-succ', pow-le-pow_right, mul_assoc, mod-eq_of_lt, mod-one, mul-add-div_right, mul-add-mod_self_right, div-add-mod', div-lt_iff_lt-mul}
use native.Mathlib.Numerals.{add-one}
use native.Mathlib.Omega.{arith}
use lib.Arith.{mod-mul, digits_div, digits_lt}
use lib.Dec.{leb}
use lib.ListN.{length}
use borrow.Author.Tests.{leb-true}
use Rattle.laws.proofs.Choose.{and_left, and_right}
use Rattle.decimal.specs.Digits.{digits, value, is_digit, all_digits}

pub ten_pos : (w : ℕ) → 0 < 10 ^ w
ten_pos zero = omega arith
ten_pos (suc w) = let h : 0 < 10 ^ w = ten_pos w in omega (arith, pow-suc 10 w)

-- a power is ten times the one below
pub tenfold : (k : ℕ) → 10 ^ (k + 1) ≡ 10 ^ k * 10
tenfold k = ap (λ (j : ℕ). 10 ^ j) (add-one k) ∙ pow-suc 10 k

pub ten_le : (k m : ℕ) → k ≤ m → 10 ^ k ≤ 10 ^ m
ten_le k m h = let ten : 0 < 10 = omega arith in pow-le-pow_right ten h

pub length_digits : (w n : ℕ) → length (digits w n) ≡ w
unfolding digits
length_digits zero n = refl
length_digits (suc w) n = ap suc (length_digits w n)

-- ---- a number written and read again

-- a digit's byte and back
digit_back : (q : ℕ) → 48 + q - 48 ≡ q
digit_back q = omega arith

value_mod : (w n : ℕ) → value (digits w n) ≡ n % 10 ^ w
unfolding digits value
value_mod zero n = sym (mod-one n)
value_mod (suc w) n =
    rw (digit_back, length_digits w n, value_mod w n)
    (sym (mod-mul n (omega arith) (ten_pos w)) ∙ ap (λ (k : ℕ). n % k) (sym (pow-succ' 10 w)))

pub value_digits : (w n : ℕ) → n < 10 ^ w → value (digits w n) ≡ n
value_digits w n h = value_mod w n ∙ mod-eq_of_lt h

-- ---- the first digit, and what it leaves

-- what stands above the field does not matter
digits_above : (w q v : ℕ) → digits w (q * 10 ^ w + v) ≡ digits w v
unfolding digits
digits_above zero q v = refl
digits_above (suc w) q v =
    let p : ℕ = 10 ^ w in
    let e : q * 10 ^ suc w + v ≡ (q * 10) * p + v = ap (λ (k : ℕ). q * k + v) (pow-succ' 10 w) ∙ ap (λ (k : ℕ). k + v) (sym (mul_assoc q 10 p)) in
    rw e
    (ap₂ (λ (k : ℕ) (l : List ℕ). (48 + k) ∷ l)
    (ap (λ (k : ℕ). k % 10) (mul-add-div_right (ten_pos w) (q * 10) v) ∙ mul-add-mod_self_right q 10 (v / p))
    (digits_above w (q * 10) v))

digits_low : (w n : ℕ) → digits w (n % 10 ^ w) ≡ digits w n
digits_low w n = sym (digits_above w (n / 10 ^ w) (n % 10 ^ w)) ∙ ap (digits w) (div-add-mod' n (10 ^ w))

pub digits_first : (w n q v : ℕ) → n < 10 ^ suc w → q ≡ n / 10 ^ w → v ≡ n % 10 ^ w → (48 + q) ∷ digits w v ≡ digits (suc w) n
unfolding digits
digits_first w n q v h e f =
    let small : n / 10 ^ w < 10 = (div-lt_iff_lt-mul (ten_pos w)).1 (subst (λ (k : ℕ). n < k) (pow-succ' 10 w) h) in
    ap₂ (λ (k : ℕ) (l : List ℕ). (48 + k) ∷ l) (e ∙ sym (mod-eq_of_lt small)) (ap (digits w) f ∙ digits_low w n)

-- ---- digit bytes read and written again

pub digit_low : (d : ℕ) → is_digit d ≡ true → 48 ≤ d
digit_low d h = leb-true 48 d (and_left (leb 48 d) (leb d 57) h)

pub digit_high : (d : ℕ) → is_digit d ≡ true → d ≤ 57
digit_high d h = leb-true d 57 (and_right (leb 48 d) (leb d 57) h)

pub value_lt : (ds : List ℕ) → all_digits ds ≡ true → value ds < 10 ^ length ds
unfolding value all_digits
value_lt [] h = omega arith
value_lt (d ∷ ds) h =
    let high : d ≤ 57 = digit_high d (and_left (is_digit d) (all_digits ds) h) in
    let small : d - 48 < 10 = omega arith in
    subst (λ (k : ℕ). value (d ∷ ds) < k) (sym (pow-succ' 10 (length ds))) (digits_lt small (value_lt ds (and_right (is_digit d) (all_digits ds) h)))

pub digits_value : (ds : List ℕ) → all_digits ds ≡ true → digits (length ds) (value ds) ≡ ds
unfolding digits value all_digits
digits_value [] h = refl
digits_value (d ∷ ds) h =
    let low : 48 ≤ d = digit_low d (and_left (is_digit d) (all_digits ds) h) in
    let high : d ≤ 57 = digit_high d (and_left (is_digit d) (all_digits ds) h) in
    let e : 48 + (d - 48) % 10 ≡ d = omega arith in
    ap₂ (λ (k : ℕ) (l : List ℕ). k ∷ l)
    (ap (λ (k : ℕ). 48 + k % 10) (digits_div (d - 48) (value_lt ds (and_right (is_digit d) (all_digits ds) h))) ∙ e)
    (digits_above (length ds) (d - 48) (value ds) ∙ digits_value ds (and_right (is_digit d) (all_digits ds) h))
