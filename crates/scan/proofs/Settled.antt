-- After the blanks no blank stands, and they lie within the file.
use Prim.Native.Nat.{ℕ, suc, ◌+◌, ◌≤◌, max}
use mathlib.Core.Path.{◌≡◌, refl}
use mathlib.Core.Bool.{Bool, true, false, not}
use mathlib.Core.List.{List, [], ◌∷◌}
use native.Mathlib.Omega.{arith}
use native.Mathlib.Nat.{add-zero}
use lib.ListN.{length, drop, length-drop}
use lib.Seq.{drop-drop}
use Rattle.scan.specs.Kinds.{is_separator, is_line_end}
use Rattle.scan.specs.Run.{comment_at, blank, blank_end}

module _ (x : ℕ) (xs : List ℕ) where
  separator : is_separator x ≡ true → blank false (x ∷ xs) ≡ suc (blank false xs)
  unfolding blank
  separator e = rw (blank, e)

  comment : is_separator x ≡ false → comment_at (x ∷ xs) 0 ≡ true → blank false (x ∷ xs) ≡ suc (blank true xs)
  unfolding blank
  comment e f = rw (blank, e, f)

  neither : is_separator x ≡ false → comment_at (x ∷ xs) 0 ≡ false → blank false (x ∷ xs) ≡ 0
  unfolding blank
  neither e f = rw (blank, e, f)

-- what holds of the number of blanks, by the three cases of a first byte outside comments
by_cases : (P : ℕ → Type 0) (x : ℕ) (xs : List ℕ) → P (suc (blank false xs)) → P (suc (blank true xs)) → (blank false (x ∷ xs) ≡ 0 → P 0)
    → P (blank false (x ∷ xs))
by_cases P x xs h k z = go (is_separator x) refl (comment_at (x ∷ xs) 0) refl
  where
    go : (a : Bool) → is_separator x ≡ a → (b : Bool) → comment_at (x ∷ xs) 0 ≡ b → P (blank false (x ∷ xs))
    go true e b f = rw (separator x xs e) h
    go false e true f = rw (comment x xs e f) k
    go false e false f = rw (neither x xs e f) (z (neither x xs e f))

no_blank : (c : Bool) (xs : List ℕ) → blank false (drop (blank c xs) xs) ≡ 0
unfolding blank
no_blank true [] = refl
no_blank false [] = refl
no_blank true (x ∷ xs) = no_blank (not (is_line_end x)) xs
no_blank false (x ∷ xs) = by_cases (λ (n : ℕ). blank false (drop n (x ∷ xs)) ≡ 0) x xs (no_blank false xs) (no_blank true xs) (λ e. e)

pub settled : (s : List ℕ) (i : ℕ) → blank_end false s (blank_end false s i) ≡ blank_end false s i
unfolding blank_end
settled s i = rw (← drop-drop (blank false (drop i s)) i s, no_blank false (drop i s)) (add-zero (i + blank false (drop i s)))

blank_fits : (c : Bool) (xs : List ℕ) → blank c xs ≤ length xs
unfolding blank
blank_fits true [] = omega arith
blank_fits false [] = omega arith
blank_fits true (x ∷ xs) = omega (arith, blank_fits (not (is_line_end x)) xs)
blank_fits false (x ∷ xs) =
    by_cases (λ (n : ℕ). n ≤ length (x ∷ xs)) x xs (omega (arith, blank_fits false xs)) (omega (arith, blank_fits true xs)) (λ e. omega arith)

-- the next token's place is not before the place looked from, and within the file if that is
pub record Onward (s : List ℕ) (i e : ℕ) : Type 0 where
  pub from : i ≤ e
  pub to : e ≤ max i (length s)

pub onward : (s : List ℕ) (i : ℕ) → Onward s i (blank_end false s i)
unfolding blank_end
onward s i = omega (arith, blank_fits false (drop i s), length-drop i s)
