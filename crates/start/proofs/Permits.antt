-- What 01 permits, as code tests it: numbers of at most 16 digits, strings of at most 255 bytes that may stand in one.
use Prim.Native.Nat.{ℕ, ◌-◌, ◌^◌}
use mathlib.Core.Path.{◌≡◌, refl, sym, ap, ◌∙◌}
use mathlib.Core.Bool.{true, ◌&&◌}
use mathlib.Core.List.{List, [], ◌∷◌, ◌++◌, append-nil}
use mathlib.Core.Logic.{◌↔◌}
use native.Mathlib.Omega.{arith}
use lib.Dec.{eqb, leb, ltb}
use lib.IntN.{ℤ, pos, negsuc, nat_abs}
use lib.ListN.{length, take, drop, length-append, length-take, length-drop, take-append-drop}
use lib.Seq.{take-length}
use borrow.Author.Tests.{leb-true, le-leb, eqb-true, eq-eqb, ltb-true, lt-ltb}
use Rattle.counts.specs.Limits.{text_bytes, number_digits}
use Rattle.laws.proofs.Choose.{and_both, halves}
use Rattle.decimal.specs.Digits.{digits, is_digit, all_digits}
use Rattle.decimal.proofs.Laws.{length_digits, value_digits}
use Rattle.decimal.proofs.ReadLaws.{all_digits_lem}
use Rattle.scan.specs.Kinds.{is_text_byte}
use Rattle.scan.specs.Run.{run, run_end}
use Rattle.scan.proofs.Runs.{run_first, run_whole}
use Rattle.record.specs.Record.{is_text}
use Rattle.token.specs.Token.{WholeString}
use Rattle.token.proofs.Whole.{text_byte, byte_text}
use Rattle.number.specs.Number.{spelled, Numeral, signed_of}
use Rattle.number.proofs.Numerals.{numeral_reads, numeral_small}
use Rattle.grammar.specs.Statement.{Number}
use Rattle.item.specs.Tokens.{paper_number}
use Rattle.start.specs.Due.{Compared, number, text, Permitted, Spelled}
use Rattle.start.specs.Decision.{is_permitted, value_permitted, negative}

pub number_permitted : (n : Number) → is_permitted n ≡ true ↔ Permitted (number n)
unfolding is_permitted
number_permitted n = (
  λ h. let b = halves (ltb (nat_abs n.mantissa) (10 ^ number_digits)) (ltb n.scale number_digits) h in
      (ltb-true _ _ b.0, ltb-true _ _ b.1),
  λ p. and_both (lt-ltb (nat_abs n.mantissa) (10 ^ number_digits) p.0) (lt-ltb n.scale number_digits p.1),
)

-- ---- strings

from_start : (c : List ℕ) → run_end is_text_byte c 0 ≡ run is_text_byte c
unfolding run_end
from_start c = omega arith

text_permitted : (c : List ℕ) → is_text c ≡ true ↔ Permitted (text c)
unfolding is_text run
text_permitted c = (read, back)
  where
    read : (leb (length c) text_bytes && eqb (run_end is_text_byte c 0) (length c)) ≡ true → Permitted (text c)
    read h =
        let b = halves (leb (length c) text_bytes) (eqb (run_end is_text_byte c 0) (length c)) h in
        let whole : run is_text_byte c ≡ length c = sym (from_start c) ∙ eqb-true _ _ b.1 in
        (leb-true _ _ b.0, λ x m. text_byte x (run_first is_text_byte c (length c) (omega arith) x (rw (take-length c) m)))

    back : Permitted (text c) → (leb (length c) text_bytes && eqb (run_end is_text_byte c 0) (length c)) ≡ true
    back p =
        let whole : run is_text_byte (c ++ []) ≡ length c = run_whole is_text_byte c [] (λ x m. byte_text x (p.1 x m)) refl in
        and_both (le-leb _ _ p.0) (eq-eqb _ _ (from_start c ∙ (rw append-nil at whole)))

pub value_permitted_lem : (v : Compared) → value_permitted v ≡ true ↔ Permitted v
value_permitted_lem (number n) = number_permitted n
value_permitted_lem (text c) = text_permitted c

-- a string is permitted exactly where it is the content of a whole one
pub text_exactly : (c : List ℕ) → Permitted (text c) ↔ ((s : List ℕ) × WholeString s 0 c)
text_exactly c = (
  λ p. (34 ∷ (c ++ (34 ∷ [])), record { after = []; stands = refl; few = p.0; each = p.1 }),
  λ w. (w.1.few, w.1.each),
)

-- ---- numbers

both_digits : (w f : List ℕ) → all_digits (w ++ f) ≡ true → (all_digits w ≡ true) × (all_digits f ≡ true)
unfolding all_digits
both_digits [] f h = (refl, h)
both_digits (d ∷ w) f h =
    let b = halves (is_digit d) (all_digits (w ++ f)) h in
    let r = both_digits w f b.1 in
    (and_both b.0 r.0, r.1)

sign_and_size : (m : ℤ) → signed_of (negative m) (nat_abs m) ≡ m
sign_and_size (pos n) = refl
sign_and_size (negsuc n) = refl

-- its 16 digits, leading zeros among them, spell a number
spelled_out : (n : Number) → Permitted (number n) → Spelled n
spelled_out n p =
    let ds = digits number_digits (nat_abs n.mantissa) in
    let k = number_digits - n.scale in
    let joined : take k ds ++ drop k ds ≡ ds = take-append-drop k ds in
    let long : length ds ≡ number_digits = length_digits number_digits (nat_abs n.mantissa) in
    let b = both_digits (take k ds) (drop k ds) (rw joined (all_digits_lem number_digits (nat_abs n.mantissa))) in
    let scale : length (drop k ds) ≡ n.scale = simp length-drop (omega (arith, p.1, long)) in
    let bytes = spelled (negative n.mantissa) (take k ds) (drop k ds) in
    let is : Numeral bytes (negative n.mantissa) (take k ds) (drop k ds) = record {
      bytes = refl;
      whole = b.0;
      after = b.1;
      some = simp length-take (omega (arith, p.1, long));
      few = omega (arith, simp length-append at (ap length joined), long);
    } in (
      bytes,
      negative n.mantissa,
      take k ds,
      drop k ds,
      is,
      ap paper_number (numeral_reads is) ∙ rw (joined, value_digits number_digits (nat_abs n.mantissa) p.0, sign_and_size, scale),
    )

pub number_exactly : (n : Number) → Permitted (number n) ↔ Spelled n
number_exactly n = (spelled_out n, back)
  where
    back : Spelled n → Permitted (number n)
    back (bytes, minus, w, f, is, reads) = rw (← reads) (let small = numeral_small is in (small.0, omega (arith, small.1)))
