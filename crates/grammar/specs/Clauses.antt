-- A missing start clause (document 02, P7), in a file's tokens `ts`.
use Rattle.std.specs.Prelude.{ℕ, ◌≡◌, List, [], ◌∷◌, ◌++◌}
use Rattle.grammar.specs.Grammar.Class.{UPLOAD, DOWNLOAD, string, semicolon}
use Rattle.grammar.specs.Statement as read
use Rattle.grammar.specs.Productions.{Placed, Is, Source}
use Rattle.grammar.specs.Rows.{Stands}

-- "UPLOAD or DOWNLOAD, file spec, then ACTIVE or a file spec or a name", up to its start clause
pub data Transfer : List Placed → Type 0 where
  upload : {k f t : Placed} {x : read.Source} → Is UPLOAD k → Is string f → Source t x → Transfer (k ∷ f ∷ t ∷ [])
  download : {k f t : Placed} {x : read.Source} → Is DOWNLOAD k → Is string f → Source t x → Transfer (k ∷ f ∷ t ∷ [])

-- after the tokens a "the clause must begin"
abbrev pub ClauseDue : List Placed → Type 0
ClauseDue a = (before m : List Placed) × Transfer m × a ≡ before ++ m

-- at the place p, after the tokens a, "the `;` that stands where the clause must begin"
abbrev pub LacksAfter : List Placed → List Placed → ℕ → Type 0
LacksAfter ts a p = (e : Placed) × Stands ts p a e × Is semicolon e × ClauseDue a

-- an UPLOAD or DOWNLOAD lacks its clause
abbrev pub Lacks : List Placed → ℕ → Type 0
Lacks ts p = (a : List Placed) × LacksAfter ts a p

-- and none before it does
abbrev pub FirstLacks : List Placed → ℕ → Type 0
FirstLacks ts p = (a : List Placed) × LacksAfter ts a p × ((q : ℕ) → ¬ Lacks a q)

-- of one statement: the tokens begin with an UPLOAD or DOWNLOAD that lacks its clause, and its `;` stands at p
abbrev pub BeginsLacking : List Placed → ℕ → Type 0
BeginsLacking ts p = (m : List Placed) × (e : Placed) × Stands ts p m e × Is semicolon e × Transfer m
