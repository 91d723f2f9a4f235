-- Runs of bytes of one kind, and what separates tokens (document 01, "Bytes and tokens").
use Rattle.std.specs.Prelude.{ℕ, suc, ◌+◌, ◌≤◌, ◌<◌, max, ◌≡◌, Bool, true, false, not, ◌&&◌, List, [], ◌∷◌, length, get_or, drop, eqb}
use Rattle.scan.specs.Kinds.{is_separator, is_line_end}

-- how many bytes at the front pass the test
unfoldable pub run : (ℕ → Bool) → List ℕ → ℕ
run p [] = 0
run p (x ∷ xs) = elim (p x) [ true ↦ suc (run p xs) | false ↦ 0 ]

-- the first place from at on whose byte does not pass, or the end
unfoldable pub run_end : (ℕ → Bool) → List ℕ → ℕ → ℕ
run_end p s at = at + run p (drop at s)

-- "`//` outside a string begins a comment": it stands at i
abbrev pub comment_at : List ℕ → ℕ → Bool
comment_at s i = eqb (get_or s i 0) 47 && eqb (get_or s (i + 1) 0) 47

-- "a comment that runs up to CR, LF or the end": how many bytes at the front separate. In a comment every byte does, and CR or LF ends it;
-- elsewhere a separator, or the first / of //, which begins a comment.
unfoldable pub blank : Bool → List ℕ → ℕ
blank comment [] = 0
blank true (x ∷ xs) = suc (blank (not (is_line_end x)) xs)
blank false (x ∷ xs) =
    elim (is_separator x) [
      | true ↦ suc (blank false xs)
      | false ↦ elim (comment_at (x ∷ xs) 0) [ true ↦ suc (blank true xs) | false ↦ 0 ]
    ]

-- the place of the next token, or the end, from at on
unfoldable pub blank_end : Bool → List ℕ → ℕ → ℕ
blank_end comment s at = at + blank comment (drop at s)

-- ---- Need not be believed: it binds functions inside alone, and no claim cites it

-- what a scan from at answers: the place e, and where it lies, which callers use
pub record Reached (s : List ℕ) (at e r : ℕ) : Type 0 where
  pub is : r ≡ e
  pub from : at ≤ r
  pub to : r ≤ max at (length s)

-- what a code's test says of each byte is what the test p says
abbrev pub Tests : {F : Type 0} → (F → ℕ → Bool → Type 0) → F → (ℕ → Bool) → Type 0
Tests post f p = (b : ℕ) (r : Bool) → b < 256 → post f b r → r ≡ p b
