-- How far a number has come within its hundred, and within its ten thousand, as a part of 2 to the 32nd. A unit counts a little more than
-- its share, and what that adds up to stays below one unit: so a test of the part is a test of the remainder.
use Prim.Native.Nat.{ℕ, suc, ◌+◌, ◌-◌, ◌*◌, ◌/◌, ◌%◌, ◌≤◌, ◌<◌}
use mathlib.Core.Path.{◌≡◌, refl, sym, ap, ap₂, ◌∙◌}
use mathlib.Core.Logic.{◌⊎◌, inl, inr}
use mathlib.Core.Bool.{Bool, true, false, ◌&&◌}
use native.Mathlib.Nat.{add-mul, mul-add, mul_assoc, div-one, mul-le-mul_right, lt_of_mul-lt-mul_right, div-add-mod', mod-lt}
use native.Mathlib.Omega.{arith}
use lib.Dec.{leb, ltb}
use borrow.Author.Tests.{le-leb, lt-leb, leb-true, leb-false}
use Rattle.laws.proofs.Parted.{parted}
use Rattle.calendar.proofs.Laws.{in_fields}

same_leb : (a b c d : ℕ) → (a ≤ b → c ≤ d) → (b < a → d < c) → leb a b ≡ leb c d
same_leb a b c d f g = go (leb a b) refl
  where
    go : (t : Bool) → leb a b ≡ t → t ≡ leb c d
    go true e = sym (le-leb c d (f (leb-true a b e)))
    go false e = sym (lt-leb c d (g (leb-false a b e)))

-- fewer parts are fewer
fewer : (part a b : ℕ) → a * part < b * part + part → a ≤ b
fewer part a b h =
    let less : a * part < (b + 1) * part = omega (arith, add-mul b 1 part) in
    omega (arith, lt_of_mul-lt-mul_right part less)

-- a place of r parts, and less than one more, is in a range of parts where r is
within : (part place r rest low high : ℕ) → r * part + rest ≡ place → rest < part
    → (leb (low * part) place && ltb place (high * part + part)) ≡ (leb low r && leb r high)
within part place r rest low high e h =
    ap₂ ◌&&◌
    (same_leb (low * part) place low r (λ t. fewer part low r (omega arith)) (λ t. lt_of_mul-lt-mul_right part (omega arith)))
    (same_leb (suc place) (high * part + part) r high
    (λ t. fewer part r high (omega arith))
    (λ t. lt_of_mul-lt-mul_right part (omega (arith, add-mul high 1 part))))

-- As many parts as a unit has are the whole and a little more; over the units in n that adds up to less than a part.
module _
    (n unit part whole most : ℕ)
    (some : 0 < unit)
    (enough : whole ≤ unit * part)
    (few : n / unit < most)
    (little : most * (unit * part - whole) < part)
  where
    adds_little : n / unit * (unit * part - whole) + (unit * part - whole) < part
    adds_little =
        let over = unit * part - whole in
        let le : (n / unit + 1) * over ≤ most * over = mul-le-mul_right over (omega arith) in
        omega (arith, add-mul (n / unit) 1 over)

    parts : n % unit * part + n / unit * (unit * part - whole) ≡ n * part % whole
    parts =
        let q = n / unit in
        let r = n % unit in
        let over = unit * part - whole in
        let all : n * part ≡ q * unit * part + r * part = ap (λ (k : ℕ). k * part) (sym (div-add-mod' n unit)) ∙ add-mul (q * unit) r part in
        let shares : unit * part ≡ whole + over = omega arith in
        let units : q * unit * part ≡ q * whole + q * over = mul_assoc q unit part ∙ ap (λ (k : ℕ). q * k) shares ∙ mul-add q whole over in
        let last : (r + 1) * part ≤ unit * part = mul-le-mul_right part (omega (arith, mod-lt n some)) in
        let e : q * whole + (r * part + q * over) ≡ n * part = omega arith in
        (parted q whole (r * part + q * over) (n * part) e (omega (arith, adds_little, add-mul r 1 part))).1

module _ (n low high place part : ℕ) (small : n < 1000000) (at : place ≡ n * part % 4294967296) where
  pub low_is : 4294967296 ≤ 100 * part → 10000 * (100 * part - 4294967296) < part
      → (leb (low * part) place && ltb place (high * part + part)) ≡ (leb low (n % 100) && leb (n % 100) high)
  low_is enough little =
      let some : 0 < 100 = omega arith in
      let few : n / 100 < 10000 = omega arith in
      within part place (n % 100) (n / 100 * (100 * part - 4294967296)) low high
      (parts n 100 part 4294967296 10000 some enough few little ∙ sym at)
      (omega (arith, adds_little n 100 part 4294967296 10000 some enough few little))

  pub middle_is : 4294967296 ≤ 10000 * part → 100 * (10000 * part - 4294967296) < part
      → (leb (low * (100 * part)) place && ltb place (high * (100 * part) + 100 * part)) ≡ (leb low (n / 100 % 100) && leb (n / 100 % 100) high)
  middle_is enough little =
      let some : 0 < 10000 = omega arith in
      let few : n / 10000 < 100 = omega arith in
      let over = n / 10000 * (10000 * part - 4294967296) in
      let two = n / 100 % 100 in
      let m = (in_fields n (n / 10000) (n % 10000) (n % 10000 / 100) (n % 10000 % 100) (refl, refl) (refl, refl)).1 in
      let split : n % 10000 ≡ two * 100 + n % 100 = omega arith in
      let four : n % 10000 * part ≡ two * (100 * part) + n % 100 * part =
      ap (λ (k : ℕ). k * part) split ∙ add-mul (two * 100) (n % 100) part ∙ ap (λ (k : ℕ). k + n % 100 * part) (mul_assoc two 100 part) in
      let is = parts n 10000 part 4294967296 100 some enough few little ∙ sym at in
      let e : two * (100 * part) + (n % 100 * part + over) ≡ place = omega arith in
      let last : (n % 100 + 1) * part ≤ 100 * part = mul-le-mul_right part (omega arith) in
      within (100 * part) place two (n % 100 * part + over) low high e
      (omega (arith, add-mul (n % 100) 1 part, adds_little n 10000 part 4294967296 100 some enough few little))

-- the last two digits, and the two before them, with the part of each
abbrev pub Parted : (hundredth ten_thousandth unit part : ℕ) → Type 0
Parted hundredth ten_thousandth unit part = ((unit ≡ 1) × (part ≡ hundredth)) ⊎ ((unit ≡ 100) × (part ≡ ten_thousandth))

module _ (h t unit part : ℕ) where
  pub two_is : (n low high place : ℕ) → n < 1000000 → Parted h t unit part → place ≡ n * part % 4294967296
      → 4294967296 ≤ 100 * h → 10000 * (100 * h - 4294967296) < h → 4294967296 ≤ 10000 * t → 100 * (10000 * t - 4294967296) < t
      → (leb (low * (unit * part)) place && ltb place (high * (unit * part) + unit * part)) ≡ (leb low (n / unit % 100) && leb (n / unit % 100) high)
  two_is n low high place small (inl (u, p)) at enough little enough_t little_t =
      let one : 1 * h ≡ h = omega arith in
      rw (u, p, div-one, one) (low_is n low high place h small (rw (← p) at) enough little)
  two_is n low high place small (inr (u, p)) at enough_h little_h enough little =
      rw (u, p) (middle_is n low high place t small (rw (← p) at) enough little)

  -- a digit's width is small
  pub width_le : (most : ℕ) → Parted h t unit part → h ≤ most → 100 * t ≤ most → unit * part ≤ most
  width_le most (inl (u, p)) a b = rw (u, p) (omega arith)
  width_le most (inr (u, p)) a b = rw (u, p) (omega arith)
