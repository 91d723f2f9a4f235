-- A part of a list of bytes, and a list of bytes with another written over it.
use Rattle.std.specs.Prelude.{◌≡◌, ℕ, ◌+◌, List, length, take, drop}
use Rattle.std.proofs.lemmas.List.Edits.{sets}

-- the w bytes of s from at on, or what there is of them
unfoldable pub part : List ℕ → ℕ → ℕ → List ℕ
part s at w = take w (drop at s)

-- d with the bytes of xs stored from at on, one after the other; all else stays
unfoldable pub put : List ℕ → ℕ → List ℕ → List ℕ
put d at xs = sets d at xs

-- ---- Need not be believed: it binds functions inside alone, and no claim cites it

-- d became e as xs was written from at on, and after is the place after it
pub record Wrote (d : List ℕ) (at : ℕ) (xs e : List ℕ) (after : ℕ) : Type 0 where
  pub next : after ≡ at + length xs
  pub bytes : e ≡ put d at xs
