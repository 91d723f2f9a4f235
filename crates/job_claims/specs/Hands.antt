-- What the number of a refusal alone tells of its place (document 02, P2): "An open quote and a stray byte need different hands, and so do a cut file and a
-- misplaced word."
use Rattle.std.specs.Prelude.{ℕ, ◌≡◌, List, ◌⊎◌, length}
use Rattle.counts.specs.Refusals.{no_token, unexpected, not_real, too_many_statements, open_string, broken_string, misshapen, end_of_file}
use Rattle.grammar.specs.Productions.{Placed}
use Rattle.item.specs.Tokens.{next_item}
use Rattle.item.specs.Tokens.Next.{item}
use Rattle.item.specs.NoToken.{StartsNoToken, StringMeetsEnd, StringBreaks, OverlongWord, MisshapenRun}

-- a token begins at p
abbrev pub TokenBegins : List ℕ → ℕ → Type 0
TokenBegins s p = (t : Placed) × (next_item s p ≡ item t) × (t.place ≡ p)

-- what stands at the place p, by the number
pub data Tells (s : List ℕ) (p : ℕ) : ℕ → Type 0 where
  three : StartsNoToken s p → Tells s p no_token
  fifteen : StringMeetsEnd s p → Tells s p open_string
  sixteen : StringBreaks s p → Tells s p broken_string
  seventeen : OverlongWord s p ⊎ MisshapenRun s p → Tells s p misshapen
  eighteen : p ≡ length s → Tells s p end_of_file
  four : TokenBegins s p → Tells s p unexpected
  five : TokenBegins s p → Tells s p not_real
  six : TokenBegins s p → Tells s p too_many_statements
