-- A number token stands exactly where a numeral of at most 16 digits ends its numeric run: so what it reads as is small.
use Prim.Native.Nat.{ℕ, suc, ◌+◌, ◌-◌, ◌^◌, ◌≤◌, ◌<◌}
use mathlib.Core.Path.{◌≡◌, refl, ap, ◌∙◌}
use mathlib.Core.Bool.{Bool, true, false, cond, ◌&&◌}
use mathlib.Core.List.{List, [], ◌∷◌, ◌++◌, Memᴰ}
use mathlib.Core.Logic.{◌⊎◌, ⊎_elim, ◌↔◌}
use native.Mathlib.Omega.{arith}
use borrow.Author.Tests.{leb-true, eqb-true}
use lib.Dec.{eqb, leb}
use lib.IntN.{nat_abs}
use lib.ListN.{length, get_or, drop}
use lib.Seq.{get_or-drop}
use Rattle.laws.proofs.Choose.{and_left, and_right, and_both}
use Rattle.field.specs.Part.{part}
use Rattle.field.proofs.Parts.{part_cons, part_join, length_part_in}
use Rattle.decimal.specs.Digits.{all_digits}
use Rattle.number.specs.Number.{unsigned, Numeral, number_of}
use Rattle.number.proofs.Numerals.{numeral_small}
use Rattle.scan.specs.Kinds.{is_digit, is_numeric_byte}
use Rattle.scan.specs.Run.{run, run_end, blank_end}
use Rattle.scan.proofs.Runs.{run_passes, run_ends, run_some}
use Rattle.token.specs.Token.{is_number_at, token_at, next_token}
use Rattle.token.specs.declared.Token.TheVariants.{Number}
use Rattle.token.proofs.Ahead.{Span, Figures, figures, in_range_lem}
use Rattle.item.specs.Numbers.{NumberFrom}
use Rattle.item.proofs.NumeralTokens.{numeral_token}

all_from : (ds : List ℕ) → ((b : ℕ) → Memᴰ b ds → is_digit b ≡ true) → all_digits ds ≡ true
unfolding all_digits
all_from [] h = refl
all_from (d ∷ ds) h = and_both (h d (Memᴰ.head refl)) (all_from ds (λ b m. h b (Memᴰ.tail m)))

-- with digits after it there is a point
pointed : (w f : List ℕ) → 1 ≤ length f → w ++ (46 ∷ f) ≡ unsigned w f
pointed w [] h = absurd (omega arith)
pointed w (x ∷ f) h = refl

-- a numeral, whatever its parts
pub record Some (bs : List ℕ) (minus : Bool) : Type 0 where
  pub whole : List ℕ
  pub after : List ℕ
  pub numeral : Numeral bs minus whole after

module _ (s : List ℕ) where
  digits_from : (d : ℕ) → all_digits (part s d (run_end is_digit s d - d)) ≡ true
  unfolding part run_end
  digits_from d =
      let e : d + run is_digit (drop d s) - d ≡ run is_digit (drop d s) = omega arith in
      rw e (all_from _ (run_passes is_digit (drop d s)))

  some_digits : (d : ℕ) → is_digit (get_or s d 0) ≡ true → d < run_end is_digit s d
  some_digits d h = run_some is_digit s d (in_range_lem s d is_digit d refl h) h

  -- without a point
  pub whole_number : (d e : ℕ) → is_digit (get_or s d 0) ≡ true → e ≤ length s → run_end is_digit s d ≡ e → e ≤ d + 16 → Some (part s d (e - d)) false
  unfolding all_digits
  whole_number d e digit room end few =
      let l : length (part s d (e - d)) ≡ e - d = length_part_in s d (e - d) (omega (arith, some_digits d digit)) in
      record {
        whole = part s d (e - d);
        after = [];
        numeral = record {
          bytes = refl;
          whole = rw end at (digits_from d);
          after = refl;
          some = omega (arith, some_digits d digit);
          few = omega arith;
        };
      }

  -- with a point at m
  pub pointed_number : (d m e : ℕ) → is_digit (get_or s d 0) ≡ true → e ≤ length s → run_end is_digit s d ≡ m → get_or s m 0 ≡ 46 → is_digit (get_or s (m + 1) 0) ≡ true
      → run_end is_digit s (m + 1) ≡ e → e ≤ d + 16 + 1 → Some (part s d (e - d)) false
  pointed_number d m e digit room mid point next end few =
      let start : d < m = omega (arith, some_digits d digit) in
      let more : m + 1 < e = omega (arith, some_digits (m + 1) next) in
      let w : length (part s d (m - d)) ≡ m - d = length_part_in s d (m - d) (omega arith) in
      let f : length (part s (m + 1) (e - (m + 1))) ≡ e - (m + 1) = length_part_in s (m + 1) (e - (m + 1)) (omega arith) in
      record {
        whole = part s d (m - d);
        after = part s (m + 1) (e - (m + 1));
        numeral = record {
          bytes = apart ∙ pointed (part s d (m - d)) (part s (m + 1) (e - (m + 1))) (omega arith);
          whole = rw mid at (digits_from d);
          after = rw end at (digits_from (m + 1));
          some = omega arith;
          few = omega arith;
        };
      }
    where
      apart : part s d (e - d) ≡ part s d (m - d) ++ (46 ∷ part s (m + 1) (e - (m + 1)))
      apart =
          let start : d < m = omega (arith, some_digits d digit) in
          let more : m + 1 < e = omega (arith, some_digits (m + 1) next) in
          let j : e - d ≡ m - d + (e - m) = omega arith in
          let k : e - m ≡ suc (e - (m + 1)) = omega arith in
          let n : d + (m - d) ≡ m = omega arith in
          rw (j, part_join s d (m - d) (e - m), n, k, part_cons s m (e - (m + 1)) (omega arith), point)

  unsigned_number : (d e : ℕ) → is_digit (get_or s d 0) ≡ true → e ≤ length s → is_number_at s d e ≡ true → Some (part s d (e - d)) false
  unfolding is_number_at
  unsigned_number d e digit room h = go (eqb m e) refl h
    where
      m : ℕ
      m = run_end is_digit s d

      point : Bool
      point = eqb (get_or s m 0) 46

      next : Bool
      next = is_digit (get_or s (m + 1) 0)

      end : Bool
      end = eqb (run_end is_digit s (m + 1)) e

      few : Bool
      few = leb e (d + 16 + 1)

      go : (b : Bool) → eqb m e ≡ b → cond b (leb e (d + 16)) (point && next && end && few) ≡ true → Some (part s d (e - d)) false
      go true p q = whole_number d e digit room (eqb-true m e p) (leb-true e (d + 16) q)
      go false p q =
          let q3 = and_left (point && next && end) few q in
          let q2 = and_left (point && next) end q3 in
          pointed_number d m e digit room refl (eqb-true _ 46 (and_left point next q2)) (and_right point next q2)
          (eqb-true _ e (and_right (point && next) end q3)) (leb-true e (d + 16 + 1) (and_right (point && next && end) few q))

  -- with a sign
  pub signed_number : (i e : ℕ) → get_or s i 0 ≡ 45 → i < e → e ≤ length s → Some (part s (i + 1) (e - (i + 1))) false → Some (part s i (e - i)) true
  signed_number i e minus more room n =
      let k : e - i ≡ suc (e - (i + 1)) = omega arith in
      record {
        whole = n.whole;
        after = n.after;
        numeral = record {
          bytes = rw (k, part_cons s i (e - (i + 1)) (omega arith), minus) (ap (λ (l : List ℕ). 45 ∷ l) n.numeral.bytes);
          whole = n.numeral.whole;
          after = n.numeral.after;
          some = n.numeral.some;
          few = n.numeral.few;
        };
      }

  some_sign : (a b first : ℕ) → a < b → b ≤ length s → (first ≡ a) ⊎ ((first ≡ a + 1) × (get_or s a 0 ≡ 45)) → Some (part s first (b - first)) false
      → (minus : Bool) × Some (part s a (b - a)) minus
  some_sign a b first more room sign n =
      ⊎_elim (λ p. (false, rw p at n)) (λ p. (true, signed_number a b p.1 more room (rw p.0 at n))) sign

-- the byte after a run is none of its kind
end_stops : (p : ℕ → Bool) → p 0 ≡ false → (s : List ℕ) (i : ℕ) → p (get_or s (run_end p s i) 0) ≡ false
unfolding run_end
end_stops p z s i = rw (← get_or-drop i s (run p (drop i s)) 0) (run_ends p z (drop i s))

-- A number token from a to b stands at i exactly where a number does.
pub number_token_exactly : (s : List ℕ) (i a b : ℕ) → token_at s i ≡ Number a b ↔ ((a ≡ i) × NumberFrom s a b)
number_token_exactly s i a b = (λ e. to (figures s i a b e), λ h. rw (← h.0) (from h.1))
  where
    to : (a ≡ i) × Span s a b × Figures s a b → (a ≡ i) × NumberFrom s a b
    to (here, span, f) =
        let r = f.run in
        let u = unsigned_number s r.first b r.digit span.inside f.number in
        let n = some_sign s a b r.first span.ahead span.inside r.sign u in (
          here,
          record {
            minus = n.0;
            whole = n.1.whole;
            after = n.1.after;
            numeral = n.1.numeral;
            inside = span.inside;
            longest = rw r.longest (end_stops is_numeric_byte refl s r.first);
          },
        )

    from : NumberFrom s a b → token_at s a ≡ Number a b
    from n = numeral_token s a b n.numeral n.inside n.longest

-- "a signed whole number of at most 16 digits with the count of digits after the point"
pub number_is_small : (s : List ℕ) (i a b : ℕ) → next_token s i ≡ Number a b
    → (nat_abs (number_of (part s a (b - a))).mantissa < 10 ^ 16) × ((number_of (part s a (b - a))).scale ≤ 15)
unfolding next_token
number_is_small s i a b e = numeral_small ((number_token_exactly s (blank_end false s i) a b).0 e).1.numeral
