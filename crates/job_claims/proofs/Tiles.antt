-- A statement that the grammar gives is read, from its offset on; so the statements of a legal file tile it, each read on its own.
use Prim.Native.Nat.{ℕ, ◌≤◌, ◌<◌}
use mathlib.Core.Path.{◌≡◌, refl, sym, ◌∙◌, ap, ap₂, subst}
use mathlib.Core.Bool.{false}
use mathlib.Core.List.{List, ◌∷◌, ◌++◌}
use native.Mathlib.Omega.{arith}
use borrow.Author.Tests.{le-leb}
use lib.ListN.{length}
use Rattle.counts.specs.Limits.{file_bytes}
use Rattle.counts.specs.Result.{Result}
use Rattle.counts.specs.Result.Result.{done}
use Rattle.scan.specs.Run.{blank_end}
use Rattle.scan.proofs.Settled.{settled}
use Rattle.token.specs.Token.{token_at, next_token}
use Rattle.grammar.specs.declared.StartClause.{StartClause}
use Rattle.grammar.specs.Statement as read
use Rattle.grammar.specs.Productions.{Placed, Job, Any, Ended, Others, File}
use Rattle.grammar.specs.Productions.Any.{the_job}
use Rattle.grammar.specs.Productions.Ended.{ended}
use Rattle.grammar.specs.Productions.Others.{none, more}
use Rattle.grammar.specs.Productions.File.{file}
use Rattle.grammar.specs.Reading.{Last}
use Rattle.grammar.specs.Reading.Last.{end}
use Rattle.grammar.proofs.Settings.{other_any}
use Rattle.item.specs.Tokens.{item_of, next_item, Tokens, After}
use Rattle.item.specs.Tokens.Next.{item}
use Rattle.item.specs.Tokens.After.{then}
use Rattle.item.specs.declared.Item.{Item}
use Rattle.item.proofs.Lines.{ahead, inside}
use Rattle.item.proofs.Shows.{from_there}
use Rattle.item.proofs.Tells.{tells}
use Rattle.statement.specs.declared.Statement.{Statement}
use Rattle.meaning.specs.Paper.{paper_statement}
use Rattle.statement.proofs.From.{statement_from}
use Rattle.meaning.proofs.Readings.{StatementReads, statement_reads}
use Rattle.job.specs.declared.StatementAt.{StatementAt}
use Rattle.job.specs.Statement.{placed, on_read, read_statement, Tiled}
use Rattle.job.specs.Statement.Tiled.{over, tile}
use Rattle.job_claims.specs.Rows.{One}
use Rattle.job_claims.proofs.One.{Cut, cut, next_end}

-- a token is found again from its own place
pub again : (s : List ℕ) (i : ℕ) (t : Placed) → next_item s i ≡ item t → next_item s t.place ≡ next_item s i
unfolding next_item next_token
again s i t e = ap (λ (j : ℕ). item_of s (token_at s j)) (ap (blank_end false s) (ahead s i t e).0 ∙ settled s i)

-- a JOB is a statement of any kind
job_any : {clause : StartClause} {a : List Placed} {y : read.Statement} → Ended Job a y → Ended (Any clause) a y
job_any (ended z o j) = ended z (the_job o) j

-- an answer that is read is one
pub same_read : {x y : StatementAt} → ◌≡◌ {A = Result StatementAt} (done x) (done y) → x ≡ y
same_read e = cc

module _ (clause : StartClause) (s : List ℕ) (short : length s ≤ file_bytes) where
  pub record ReadsOne (at : ℕ) (y : read.Statement) (o e : ℕ) : Type 0 where
    pub statement : Statement
    pub says : paper_statement statement ≡ y
    pub reads : read_statement clause s at ≡ done (placed statement o e)

  -- a statement of the grammar, from `at` on, is what is read there
  pub reads_one : (at : ℕ) → at ≤ length s → (y : read.Statement) (o e : ℕ) → One clause s at y o e → ReadsOne at y o e
  unfolding read_statement
  reads_one at l y o e w = go w.stand
    where
      r : StatementReads clause s at e y
      r = statement_reads clause s w.reads w.stand

      k : at ≤ at
      k = omega arith

      go : After s at (w.first ∷ w.more) e → ReadsOne at y o e
      go (then n f) =
          record {
            statement = r.statement;
            says = r.says;
            reads =
                rw (le-leb _ _ short, le-leb _ _ l)
                (ap₂ on_read (ap (λ (t : Item). t.place) (from_there at s at l k) ∙ (tells s at w.first n).place ∙ w.begins)
                (statement_from at s l clause at k ∙ r.reads));
          }

  -- one statement of a file: the tokens t and a from i on
  first_tile : {i : ℕ} {t : Placed} {a b : List Placed} {y : read.Statement} {z : Last} {os : List ℕ} {ys : List read.Statement} → Ended (Any clause) (t ∷ a) y
      → Tokens s i (t ∷ (a ++ b)) z → ((e : ℕ) → Tokens s e b z → Tiled clause s e os ys) → Tiled clause s i (t.place ∷ os) (y ∷ ys)
  first_tile {i} {t} {a} {b} {y} {z} {os} {ys} w d later = go c.first
    where
      c : Cut s i (t ∷ a) b z
      c = cut s (t ∷ a) d refl

      go : After s i (t ∷ a) c.place → Tiled clause s i (t.place ∷ os) (y ∷ ys)
      go (then n f) =
          let m : t.place < length s = inside s i t n in
          let o : One clause s t.place y t.place c.place =
          record { first = t; more = a; stand = then (again s i t n ∙ n) f; reads = w; begins = refl } in
          let r : ReadsOne t.place y t.place c.place = reads_one t.place (omega arith) y t.place c.place o in
          subst (λ (x : read.Statement). Tiled clause s i (t.place ∷ os) (x ∷ ys)) r.says
          (tile (again s i t n) r.reads (later c.place c.then_rest))

  other_tiles : {i p : ℕ} {ts : List Placed} {os : List ℕ} {ys : List read.Statement} → Others clause ts os ys → Tokens s i ts (end p) → Tiled clause s i os ys
  other_tiles none d = over (next_end s d)
  other_tiles (more w r) d = first_tile (other_any w) d (λ e f. other_tiles r f)

  pub tiles : {p : ℕ} {ts : List Placed} {os : List ℕ} {ys : List read.Statement} → File clause ts os ys → Tokens s 0 ts (end p) → Tiled clause s 0 os ys
  tiles (file w r) d = first_tile (job_any w) d (λ e f. other_tiles r f)

-- there is one way to tile a file
pub one_tiling : {clause : StartClause} {s : List ℕ} {i : ℕ} {os : List ℕ} {xs ys : List read.Statement} → Tiled clause s i os xs → Tiled clause s i os ys
    → xs ≡ ys
one_tiling (over e) (over f) = refl
one_tiling {clause} {s} (tile {e = a} {x = x} {os = os} {ys = xs} n r t) (tile {e = b} {x = y} {ys = ys} m q u) =
    let h : placed x _ a ≡ placed y _ b = same_read (sym r ∙ q) in
    let g : b ≡ a = ap (λ (w : StatementAt). w.next) (sym h) in
    ap₂ (λ (z : Statement) (zs : List read.Statement). paper_statement z ∷ zs) (ap (λ (w : StatementAt). w.statement) h)
    (one_tiling t (subst (λ (k : ℕ). Tiled clause s k os ys) g u))
