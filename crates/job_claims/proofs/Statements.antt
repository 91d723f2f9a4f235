-- Demand 2 for one statement: `read_statement`, which the contract of `job::read_statement` cites, gives an answer exactly when documents 01
-- and 02 say so. `ts` are the file's tokens from the offset on, and `z` ends them.
use Prim.Native.Nat.{ℕ, ◌≤◌, ◌<◌}
use mathlib.Core.Path.{◌≡◌, refl, sym, ◌∙◌, ap, subst, subst₂}
use mathlib.Core.Bool.{Bool, true, false, true≢false, cond}
use mathlib.Core.List.{List, [], ◌∷◌}
use mathlib.Core.Logic.{◌↔◌}
use native.Mathlib.Omega.{arith}
use borrow.Author.Tests.{leb-true, leb-false, le-leb, lt-leb}
use lib.Dec.{leb}
use lib.ListN.{length, drop}
use Rattle.counts.specs.Limits.{file_bytes}
use Rattle.counts.specs.Refusals.{file_too_long, out_of_range, no_token, unexpected, not_real, open_string, broken_string, misshapen, end_of_file}
use Rattle.counts.specs.Result.{Result}
use Rattle.counts.specs.Result.Result.{refused, done}
use Rattle.grammar.specs.declared.StartClause.{StartClause}
use Rattle.grammar.specs.Grammar.{Point, is_point}
use Rattle.grammar.specs.Grammar.Point.{statement, done as done_point}
use Rattle.grammar.specs.Statement as read
use Rattle.grammar.specs.Productions.{Placed}
use Rattle.grammar.specs.Reading.{Last}
use Rattle.grammar.specs.Reading.Last.{no_token_at}
use Rattle.token.specs.declared.Why.{Why}
use Rattle.grammar.proofs.Points.{any_walks}
use Rattle.item.specs.Tokens.{line_at}
use Rattle.item.proofs.Lines.{tokens_at}
use Rattle.item.specs.Items.{item_at}
use Rattle.statement.specs.Statement.{StatementRead, read_from, statement_of}
use Rattle.statement.specs.declared.Statement.{Statement}
use Rattle.statement.proofs.Along.{any_kind}
use Rattle.statement.proofs.From.{statement_from}
use Rattle.meaning.proofs.Lossless.{one_statement}
use Rattle.meaning.specs.Paper.{paper_statement}
use Rattle.job.specs.Statement.{placed, on_read, statement_in, read_statement}
use Rattle.job.specs.declared.StatementAt.{StatementAt}
use Rattle.job_claims.specs.Rows.{WholeOne, One, OneThree, OneFifteen, OneSixteen, OneSeventeen, OneEighteen, OneFour, OneFive}
use Rattle.job_claims.proofs.Places.{no_token_within, end_within, token_within}
use Rattle.job_claims.proofs.Tiles.{same_read, ReadsOne, reads_one}
use Rattle.job_claims.proofs.One.{end_of, Judged, says_one, one_says}
use Rattle.job_claims.proofs.One.Judged.{read, three, fifteen, sixteen, seventeen, eighteen, four, five}

-- an answer without the statement's values: the place after its `;`, or the refusal
abbrev ends : Result StatementAt → Result ℕ
ends (done x) = done x.next
ends (refused n p) = refused n p

of_read : (p : ℕ) (r : StatementRead) → ends (on_read p r) ≡ end_of r
of_read p (done (x, e)) = refl
of_read p (refused n q) = refl

ends_refused : (a : Result StatementAt) (n p : ℕ) → ends a ≡ refused n p → a ≡ refused n p
ends_refused (done x) n p e = let z : ◌≡◌ {A = ℕ} 0 1 = cc in absurd (omega arith)
ends_refused (refused m q) n p e = let a : m ≡ n = cc in let b : q ≡ p = cc in rw (a, b)

pub no_statement : {clause : StartClause} → WholeOne clause [] → ⊥
no_statement w = true≢false (sym (ap (λ (q : Point). is_point q done_point) (any_walks w.1)))

module _ (clause : StartClause) (s : List ℕ) (at : ℕ) where
  -- the tokens from the offset on, and what ends them
  abbrev ts : List Placed
  ts = (line_at s at).tokens

  abbrev z : Last
  z = (line_at s at).last

  pub data Verdict : Result ℕ → Type 0 where
    too_long : file_bytes < length s → Verdict (refused file_too_long 0)
    past : length s ≤ file_bytes → length s < at → Verdict (refused out_of_range 0)
    not_read : {n p : ℕ} → length s ≤ file_bytes → at ≤ length s → Judged clause s at ts z (refused n p) → Verdict (refused n p)
    is_read : {e : ℕ} → length s ≤ file_bytes → at ≤ length s → Judged clause s at ts z (done e) → Verdict (done e)

  in_part : at ≤ length s → ends (statement_in clause at (drop at s)) ≡ end_of (read_from 0 s (statement clause) tt at)
  in_part l =
      of_read (item_at at (drop at s) at).place (statement_of at (drop at s) clause (item_at at (drop at s) at))
      ∙ ap end_of (statement_from at s l clause at (omega arith) ∙ any_kind clause s at)

  judged : length s ≤ file_bytes → at ≤ length s → (x : Result ℕ) → Judged clause s at ts z x → Verdict x
  judged l m (done e) j = is_read l m j
  judged l m (refused n p) j = not_read l m j

  given : Verdict (ends (read_statement clause s at))
  unfolding read_statement
  given = go (leb (length s) file_bytes) refl (leb at (length s)) refl
    where
      go : (a : Bool) → leb (length s) file_bytes ≡ a → (b : Bool) → leb at (length s) ≡ b
          → Verdict (ends (cond a (cond b (statement_in clause at (drop at s)) (refused out_of_range 0)) (refused file_too_long 0)))
      go false e b f = too_long (leb-false _ _ e)
      go true e false f = past (leb-true _ _ e) (leb-false _ _ f)
      go true e true f =
          subst Verdict (sym (in_part (leb-true _ _ f)))
          (judged (leb-true _ _ e) (leb-true _ _ f) (end_of (read_from 0 s (statement clause) tt at)) (one_says clause s at (tokens_at s at)))

  only : (v : Result ℕ) → Verdict v → ends (read_statement clause s at) ≡ v
  unfolding read_statement
  only v (too_long l) = rw (lt-leb _ _ l)
  only v (past l m) = rw (le-leb _ _ l, lt-leb _ _ m)
  only v (not_read l m j) = rw (le-leb _ _ l, le-leb _ _ m) (in_part m ∙ says_one clause s at ts z (tokens_at s at) _ j)
  only v (is_read l m j) = rw (le-leb _ _ l, le-leb _ _ m) (in_part m ∙ says_one clause s at ts z (tokens_at s at) _ j)

  pub asked : {n p : ℕ} → read_statement clause s at ≡ refused n p → Verdict (refused n p)
  asked e = subst Verdict (ap ends e) given

  pub told : {n p : ℕ} → Verdict (refused n p) → read_statement clause s at ≡ refused n p
  told {n} {p} v = ends_refused (read_statement clause s at) n p (only (refused n p) v)

  -- A statement is answered when, and only when, the tokens from the offset on, up to and including their first `;`, are a production that reads
  -- it; with its own offset and the place after its `;`.
  pub reading_exactly : (x : Statement) (o e : ℕ)
      → read_statement clause s at ≡ done (placed x o e) ↔ (length s ≤ file_bytes) × (at ≤ length s) × One clause s at (paper_statement x) o e
  reading_exactly x o e = (λ h. from (subst Verdict (ap ends h) given) h, λ h. to h.0 h.1 h.2)
    where
      to : length s ≤ file_bytes → at ≤ length s → One clause s at (paper_statement x) o e → read_statement clause s at ≡ done (placed x o e)
      to l m w =
          let r : ReadsOne clause s l at (paper_statement x) o e = reads_one clause s l at m (paper_statement x) o e w in
          r.reads ∙ ap (λ (y : Statement). done (placed y o e)) (one_statement r.statement x r.says)

      -- some production ends there; it is what was read
      one : length s ≤ file_bytes → at ≤ length s → (y : read.Statement) (p : ℕ) → One clause s at y p e → read_statement clause s at ≡ done (placed x o e)
          → One clause s at (paper_statement x) o e
      one l m y p w h =
          let r : ReadsOne clause s l at y p e = reads_one clause s l at m y p e w in
          let q : placed r.statement p e ≡ placed x o e = same_read (sym r.reads ∙ h) in
          subst₂ (λ (v : read.Statement) (k : ℕ). One clause s at v k e) (sym r.says ∙ ap (λ (v : StatementAt). paper_statement v.statement) q)
          (ap (λ (v : StatementAt). v.offset) q) w

      from : Verdict (done e) → read_statement clause s at ≡ done (placed x o e)
          → (length s ≤ file_bytes) × (at ≤ length s) × One clause s at (paper_statement x) o e
      from (is_read l m (read ([], f, w))) h = absurd (no_statement w)
      from (is_read l m (read (t ∷ a, f, w))) h =
          (l, m, one l m w.0 t.place (record { first = t; more = a; stand = f; reads = w.1; begins = refl }) h)

  pub statement_one_exactly : (p : ℕ) → read_statement clause s at ≡ refused file_too_long p ↔ (file_bytes < length s) × p ≡ 0
  statement_one_exactly p = (λ e. from p (asked e), λ h. rw h.1 (told (too_long h.0)))
    where
      from : (p : ℕ) → Verdict (refused file_too_long p) → (file_bytes < length s) × p ≡ 0
      from p (too_long l) = (l, refl)
      from p (not_read _ _ x9) = elim x9 [ ]

  pub statement_eleven_exactly : (p : ℕ) → read_statement clause s at ≡ refused out_of_range p ↔ (length s ≤ file_bytes) × (length s < at) × p ≡ 0
  statement_eleven_exactly p = (λ e. from p (asked e), λ h. rw h.2 (told (past h.0 h.1)))
    where
      from : (p : ℕ) → Verdict (refused out_of_range p) → (length s ≤ file_bytes) × (length s < at) × p ≡ 0
      from p (past l m) = (l, m, refl)
      from p (not_read _ _ x9) = elim x9 [ ]

  pub statement_three_exactly : (p : ℕ)
      → read_statement clause s at ≡ refused no_token p ↔ (length s ≤ file_bytes) × (at ≤ length s) × OneThree clause (line_at s at).tokens (line_at s at).last p
  statement_three_exactly p = (λ e. from (asked e), λ h. told (not_read h.0 h.1 (three h.2)))
    where
      from : Verdict (refused no_token p) → (length s ≤ file_bytes) × (at ≤ length s) × OneThree clause (line_at s at).tokens (line_at s at).last p
      from (not_read l m (three r)) = (l, m, r)

  pub statement_five_exactly : (p : ℕ)
      → read_statement clause s at ≡ refused not_real p ↔ (length s ≤ file_bytes) × (at ≤ length s) × OneFive clause (line_at s at).tokens p
  statement_five_exactly p = (λ e. from (asked e), λ h. told (not_read h.0 h.1 (five h.2)))
    where
      from : Verdict (refused not_real p) → (length s ≤ file_bytes) × (at ≤ length s) × OneFive clause (line_at s at).tokens p
      from (not_read l m (five r)) = (l, m, r)

  pub statement_four_exactly : (p : ℕ)
      → read_statement clause s at ≡ refused unexpected p ↔ (length s ≤ file_bytes) × (at ≤ length s) × OneFour clause (line_at s at).tokens p
  statement_four_exactly p = (λ e. from (asked e), λ h. told (not_read h.0 h.1 (four h.2)))
    where
      from : Verdict (refused unexpected p) → (length s ≤ file_bytes) × (at ≤ length s) × OneFour clause (line_at s at).tokens p
      from (not_read l m (four r)) = (l, m, r)

  pub statement_fifteen_exactly : (p : ℕ)
      → read_statement clause s at ≡ refused open_string p
      ↔ (length s ≤ file_bytes) × (at ≤ length s) × OneFifteen clause (line_at s at).tokens (line_at s at).last p
  statement_fifteen_exactly p = (λ e. from (asked e), λ h. told (not_read h.0 h.1 (fifteen h.2)))
    where
      from : Verdict (refused open_string p) → (length s ≤ file_bytes) × (at ≤ length s) × OneFifteen clause (line_at s at).tokens (line_at s at).last p
      from (not_read l m (fifteen r)) = (l, m, r)

  pub statement_sixteen_exactly : (p : ℕ)
      → read_statement clause s at ≡ refused broken_string p
      ↔ (length s ≤ file_bytes) × (at ≤ length s) × OneSixteen clause (line_at s at).tokens (line_at s at).last p
  statement_sixteen_exactly p = (λ e. from (asked e), λ h. told (not_read h.0 h.1 (sixteen h.2)))
    where
      from : Verdict (refused broken_string p) → (length s ≤ file_bytes) × (at ≤ length s) × OneSixteen clause (line_at s at).tokens (line_at s at).last p
      from (not_read l m (sixteen r)) = (l, m, r)

  pub statement_seventeen_exactly : (p : ℕ)
      → read_statement clause s at ≡ refused misshapen p
      ↔ (length s ≤ file_bytes) × (at ≤ length s) × OneSeventeen clause (line_at s at).tokens (line_at s at).last p
  statement_seventeen_exactly p = (λ e. from (asked e), λ h. told (not_read h.0 h.1 (seventeen h.2)))
    where
      from : Verdict (refused misshapen p) → (length s ≤ file_bytes) × (at ≤ length s) × OneSeventeen clause (line_at s at).tokens (line_at s at).last p
      from (not_read l m (seventeen r)) = (l, m, r)

  pub statement_eighteen_exactly : (p : ℕ)
      → read_statement clause s at ≡ refused end_of_file p
      ↔ (length s ≤ file_bytes) × (at ≤ length s) × OneEighteen clause (line_at s at).tokens (line_at s at).last p
  statement_eighteen_exactly p = (λ e. from (asked e), λ h. told (not_read h.0 h.1 (eighteen h.2)))
    where
      from : Verdict (refused end_of_file p) → (length s ≤ file_bytes) × (at ≤ length s) × OneEighteen clause (line_at s at).tokens (line_at s at).last p
      from (not_read l m (eighteen r)) = (l, m, r)

  -- A refusal's number is from 1 to 18 and its place within the file.
  pub statement_refusal_fits : {n p : ℕ} → read_statement clause s at ≡ refused n p → (1 ≤ n) × (n ≤ 18) × (p ≤ file_bytes)
  statement_refusal_fits e = fits_in (asked e)
    where
      none_fits : {n p : ℕ} {why : Why} → length s ≤ file_bytes → at ≤ length s → 1 ≤ n → n ≤ 18 → (line_at s at).last ≡ no_token_at why p
          → (1 ≤ n) × (n ≤ 18) × (p ≤ file_bytes)
      none_fits l m a b z = (a, b, omega (arith, no_token_within (tokens_at s at) m z))

      fits_in : {n p : ℕ} → Verdict (refused n p) → (1 ≤ n) × (n ≤ 18) × (p ≤ file_bytes)
      fits_in (too_long l) = (omega arith, omega arith, omega arith)
      fits_in (past l m) = (omega arith, omega arith, omega arith)
      fits_in (not_read l m (three r)) = none_fits l m (omega arith) (omega arith) r.2
      fits_in (not_read l m (fifteen r)) = none_fits l m (omega arith) (omega arith) r.2
      fits_in (not_read l m (sixteen r)) = none_fits l m (omega arith) (omega arith) r.2
      fits_in (not_read l m (seventeen r)) = none_fits l m (omega arith) (omega arith) r.2
      fits_in (not_read l m (eighteen r)) = (omega arith, omega arith, omega (arith, end_within (tokens_at s at) m r.2))
      fits_in (not_read l m (four r)) = (omega arith, omega arith, omega (arith, token_within (tokens_at s at) r.2))
      fits_in (not_read l m (five r)) = (omega arith, omega arith, omega (arith, token_within (tokens_at s at) r.2))
