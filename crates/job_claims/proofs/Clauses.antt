-- A missing start clause, of job files: the two settings side by side.
use Prim.Native.Nat.{ℕ, ◌≤◌}
use mathlib.Core.Path.{◌≡◌, refl, sym, ◌∙◌, ap, ap₂, subst, subst₂}
use mathlib.Core.Bool.{true}
use mathlib.Core.List.{List, [], ◌∷◌, ◌++◌, append_assoc}
use mathlib.Core.Logic.{◌↔◌, ◌⊎◌, inl, inr}
use lib.ListN.{length}
use Rattle.counts.specs.Limits.{file_bytes}
use Rattle.counts.specs.Refusals.{unexpected, end_of_file}
use Rattle.counts.specs.Result.{Result}
use Rattle.counts.specs.Result.Result.{refused, done}
use Rattle.counts.proofs.Results.{refused_not_done}
use Rattle.grammar.specs.declared.StartClause.{StartClause}
use Rattle.grammar.specs.declared.StartClause.TheVariants.{Required, Optional}
use Rattle.grammar.specs.Grammar.{Point, walk, is_point}
use Rattle.grammar.specs.Grammar.Point.{statement as any_statement, move_start, done as done_point, dead}
use Rattle.grammar.specs.Statement as read
use Rattle.grammar.specs.Productions.{Placed, Any, Ended, classes, Begins}
use Rattle.grammar.specs.Reading.{OffsetsRead, Last}
use Rattle.grammar.specs.Reading.Last.{end}
use Rattle.grammar.specs.Rows.{Says}
use Rattle.grammar.specs.Clauses.{ClauseDue, LacksAfter, Lacks, FirstLacks, BeginsLacking}
use Rattle.grammar.proofs.Clauses as grammar
use Rattle.grammar.proofs.Settings.{any_too, legal_too, Bare, any_parts}
use Rattle.grammar.proofs.Clauses.{transfer_leads, ends_there, refused_there, Clauses, clauses, first_is_refused}
use Rattle.grammar.proofs.Clauses.Clauses.{all_stand, one_lacks}
use Rattle.item.specs.Tokens.{Tokens, After, line_at, line}
use Rattle.item.specs.Tokens.Tokens.{at_end_here, no_token_here, then as and_then}
use Rattle.item.specs.Tokens.After.{here, then}
use Rattle.item.proofs.Lines.{ended≢item, no_token≢item, tokens_at}
use Rattle.item.proofs.Ends.{end_is_length}
use Rattle.meaning.specs.Paper.{paper_statement}
use Rattle.job.specs.Job.{read_job}
use Rattle.job.specs.Statement.{read_statement, Tiled}
use Rattle.job.specs.Statement.Tiled.{over, tile}
use Rattle.job.specs.declared.StatementAt.{StatementAt}
use Rattle.job_claims.specs.Rows.{One}
use Rattle.job_claims.specs.Verdict.{Taken}
use Rattle.job_claims.specs.Verdict.Verdict.{broken}
use Rattle.job_claims.proofs.Tiles.{one_tiling}
use Rattle.job_claims.proofs.One.{Judged, barred}
use Rattle.job_claims.proofs.Claims.{only, taken_exactly, statements_exactly}
use Rattle.job_claims.proofs.Statements as statement
use Rattle.job_claims.proofs.Statements.{told, reading_exactly}

-- ---- what is taken and read where a clause must stand is so where it may be missing

one_too : {s : List ℕ} {at : ℕ} {y : read.Statement} {o e : ℕ} → One Required s at y o e → One Optional s at y o e
one_too w = record { first = w.first; more = w.more; stand = w.stand; reads = any_too w.reads; begins = w.begins }

pub stricter_is_read : (s : List ℕ) (at : ℕ) (x : StatementAt) → read_statement Required s at ≡ done x → read_statement Optional s at ≡ done x
stricter_is_read s at x e =
    let (l, m, w) = (reading_exactly Required s at x.statement x.offset x.next).0 e in
    (reading_exactly Optional s at x.statement x.offset x.next).1 (l, m, one_too w)

tiled_too : {s : List ℕ} {i : ℕ} {os : List ℕ} {ys : List read.Statement} → Tiled Required s i os ys → Tiled Optional s i os ys
tiled_too (over e) = over e
tiled_too {s} (tile {o = o} n r t) = tile n (stricter_is_read s o _ r) (tiled_too t)

pub stricter_is_taken : (s : List ℕ) (room : ℕ) (os : List ℕ) → read_job Required s room ≡ done os
    → (read_job Optional s room ≡ done os) × ((ys : List read.Statement) → Tiled Required s 0 os ys ↔ Tiled Optional s 0 os ys)
stricter_is_taken s room os e = (
  (taken_exactly Optional s room os).1 (record { short = t.short; whole = (t.whole.0, t.whole.1, legal_too t.whole.2); fits = t.fits }),
  λ ys. (tiled_too, λ u. subst (Tiled Required s 0 os) (one_tiling (tiled_too own) u) own),
)
  where
    t : Taken Required s room os
    t = (taken_exactly Required s room os).0 e

    own : Tiled Required s 0 os t.whole.2.reads
    own = (statements_exactly Required s room os e _).0 t.whole.2.file

-- ---- the other way

module _ (s : List ℕ) (room : ℕ) (os : List ℕ) (e : read_job Optional s room ≡ done os) where
  t : Taken Optional s room os
  t = (taken_exactly Optional s room os).0 e

  pub clause_is_all : read_job Required s room ≡ done os ↔ ((p : ℕ) → ¬ Lacks (line s).tokens p)
  clause_is_all =
      let all = grammar.clause_is_all t.whole.2 in (
        λ h. all.0 ((taken_exactly Required s room os).0 h).whole.2,
        λ none. (taken_exactly Required s room os).1 (record { short = t.short; whole = (t.whole.0, t.whole.1, all.1 none); fits = t.fits }),
      )

  pub first_is_named : (n p : ℕ) → read_job Required s room ≡ refused n p ↔ (n ≡ unexpected) × FirstLacks (line s).tokens p
  first_is_named n p = (λ h. to h (clauses t.whole.2), λ (m, f). from m f)
    where
      to : read_job Required s room ≡ refused n p → Clauses (line s).tokens os → (n ≡ unexpected) × FirstLacks (line s).tokens p
      to h (all_stand l) =
          absurd (refused_not_done
          (sym h ∙ (taken_exactly Required s room os).1 (record { short = t.short; whole = (t.whole.0, t.whole.1, l); fits = t.fits })))
      to h (one_lacks q f r) =
          let g : ◌≡◌ {A = OffsetsRead} (refused unexpected q) (refused n p) = sym (only Required s room _ (broken t.short (r (line s).last))) ∙ h in
          let a : q ≡ p = cc in
          (cc, subst (FirstLacks (line s).tokens) a f)

      from : n ≡ unexpected → FirstLacks (line s).tokens p → read_job Required s room ≡ refused n p
      from m f = rw m (only Required s room (refused unexpected p) (broken t.short (first_is_refused t.whole.2 p f (line s).last)))

-- ---- of any file that is in order up to where a clause must begin

module _ (s : List ℕ) (room : ℕ) (short : length s ≤ file_bytes) where
  pub clause_missing : (a : List Placed) (p : ℕ) → Begins Required a → LacksAfter (line s).tokens a p → read_job Required s room ≡ refused unexpected p
  clause_missing a p v w = only Required s room (refused unexpected p) (broken short (refused_there (line s).tokens a p (line s).last w v))

  pub clause_cut : (clause : StartClause) (p : ℕ) → Begins clause (line s).tokens → ClauseDue (line s).tokens → (line s).last ≡ end p
      → read_job clause s room ≡ refused end_of_file (length s)
  clause_cut clause p v d z =
      only clause s room (refused end_of_file (length s))
      (broken short
      (subst (λ (q : ℕ). Says clause (line s).tokens (line s).last (refused end_of_file q)) (end_is_length s p z)
      (subst (λ (x : Last). Says clause (line s).tokens x (refused end_of_file p)) (sym z) (ends_there clause (line s).tokens p d v))))

-- ---- of one statement

-- the tokens that stand next are the first of all
first_of_all : {s : List ℕ} {i j : ℕ} {a ts : List Placed} {z : Last} → After s i a j → Tokens s i ts z → (rest : List Placed) × ts ≡ a ++ rest
first_of_all here d = (_, refl)
first_of_all (then e r) (at_end_here n) = absurd (ended≢item (sym n ∙ e))
first_of_all (then e r) (no_token_here n) = absurd (no_token≢item (sym n ∙ e))
first_of_all {s} {z = z} (then {t = t} e r) (and_then {t = u} {ts = us} n d) =
    let g : u ≡ t = cc in
    let (rest, f) = first_of_all r (subst (λ (w : Placed). Tokens s w.end us z) g d) in
    (rest, ap₂ (λ (w : Placed) (l : List Placed). w ∷ l) g f)

module _ (s : List ℕ) (at : ℕ) where
  pub statement_missing : length s ≤ file_bytes → at ≤ length s → (p : ℕ) → BeginsLacking (line_at s at).tokens p
      → read_statement Required s at ≡ refused unexpected p
  statement_missing l m p (a, e, h, i, t) =
      told Required s at
      (statement.not_read l m
      (subst₂ (λ (us : List Placed) (q : ℕ). Judged Required s at us (line_at s at).last (refused unexpected q)) (sym h.parts) h.place
      (barred Required s at a e h.after (line_at s at).last (leads dead) (leads done_point) (rw (transfer_leads {clause = Required} t, i))
      true (rw (transfer_leads {clause = Required} t, i)))))
    where
      leads : (q : Point) → is_point (walk (any_statement Required) (classes a)) q ≡ is_point (move_start Required) q
      leads q = ap (λ (r : Point). is_point r q) (transfer_leads t)

  pub statement_is_named : (x : StatementAt) → read_statement Optional s at ≡ done x
      → (n p : ℕ) → read_statement Required s at ≡ refused n p ↔ (n ≡ unexpected) × BeginsLacking (line_at s at).tokens p
  statement_is_named x e n p = (λ h. to h (any_parts w.reads), λ (m, b). rw m (statement_missing r.0 r.1 p b))
    where
      r : (length s ≤ file_bytes) × (at ≤ length s) × One Optional s at (paper_statement x.statement) x.offset x.next
      r = (reading_exactly Optional s at x.statement x.offset x.next).0 e

      w : One Optional s at (paper_statement x.statement) x.offset x.next
      w = r.2

      to : read_statement Required s at ≡ refused n p
          → Ended (Any Required) (w.first ∷ w.more) (paper_statement x.statement) ⊎ Bare (w.first ∷ w.more)
          → (n ≡ unexpected) × BeginsLacking (line_at s at).tokens p
      to h (inl v) =
          absurd (refused_not_done
          (sym h ∙ (reading_exactly Required s at x.statement x.offset x.next).1
          (r.0, r.1, record { first = w.first; more = w.more; stand = w.stand; reads = v; begins = w.begins })))
      to h (inr (m, d, t, i, k)) =
          let (rest, f) = first_of_all w.stand (tokens_at s at) in
          let b : BeginsLacking (line_at s at).tokens d.place =
          (m, d, record { after = rest; parts = f ∙ ap (λ (us : List Placed). us ++ rest) k ∙ append_assoc m (d ∷ []) rest; place = refl }, i, t) in
          let g : ◌≡◌ {A = Result StatementAt} (refused unexpected d.place) (refused n p) = sym (statement_missing r.0 r.1 d.place b) ∙ h in
          let a : d.place ≡ p = cc in
          (cc, subst (BeginsLacking (line_at s at).tokens) a b)
