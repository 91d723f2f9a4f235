-- The string token as the code finds it: by its opening quote, the end e of its content and the byte b there.
use Prim.Native.Nat.{ℕ, ◌+◌, ◌-◌, ◌≤◌, ◌<◌}
use mathlib.Core.Path.{◌≡◌, ◌∙◌, ap}
use mathlib.Core.Bool.{true}
use mathlib.Core.List.{List}
use borrow.Author.Rules.{rules}
use borrow.Author.Tests.{le-leb, lt-leb, eq-eqb, ne_eqb}
use lib.ListN.{length, get_or}
use Rattle.counts.specs.Limits.{text_bytes}
use Rattle.token.specs.Token.{content_end, content_fits, is_text_at, string_at}
use Rattle.token.specs.declared.Token.TheVariants.{NoToken, Text}
use Rattle.token.specs.declared.Why.TheVariants.{OpenString, BrokenString}

module _ (s : List ℕ) (i e b : ℕ) (quote : get_or s i 0 ≡ 34) (end : e ≡ content_end s i) where
  fits : e - (i + 1) ≤ text_bytes → content_fits s i ≡ true
  fits h = rw (← end) (le-leb _ _ h)

  last : b ≡ get_or s e 0 → b ≡ get_or s (content_end s i) 0
  last d = d ∙ ap (λ (n : ℕ). get_or s n 0) end

  pub closed : e - (i + 1) ≤ text_bytes → b ≡ get_or s e 0 → b ≡ 34 → Text i (e + 1) ≡ string_at s i
  unfolding string_at is_text_at
  closed h d q = rw (eq-eqb _ _ quote, fits h, ← last d, eq-eqb _ _ q, ← end)

  pub forbidden : e - (i + 1) ≤ text_bytes → b ≡ get_or s e 0 → (b ≡ 34 → ⊥) → e < length s → NoToken BrokenString i ≡ string_at s i
  unfolding string_at is_text_at
  forbidden h d q l = rw (eq-eqb _ _ quote, fits h, ← last d, ne_eqb _ _ q, ← end, lt-leb _ _ l)

  pub unclosed : e - (i + 1) ≤ text_bytes → b ≡ get_or s e 0 → (b ≡ 34 → ⊥) → length s ≤ e → NoToken OpenString i ≡ string_at s i
  unfolding string_at is_text_at
  unclosed h d q l = rw (eq-eqb _ _ quote, fits h, ← last d, ne_eqb _ _ q, ← end, le-leb _ _ l)

  pub long : text_bytes < e - (i + 1) → NoToken BrokenString i ≡ string_at s i
  unfolding string_at is_text_at
  long h = rw (eq-eqb _ _ quote, ← end, lt-leb _ _ h)

pub ruleset string = (rules, closed, forbidden, unclosed, long)
