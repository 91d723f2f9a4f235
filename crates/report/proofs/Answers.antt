-- What the reader answers, by what its callees found.
use Prim.Native.Nat.{ℕ, suc, ◌+◌, ◌*◌, ◌≤◌, ◌<◌}
use mathlib.Core.Path.{◌≡◌, sym, ◌∙◌, ap}
use mathlib.Core.Bool.{true, false}
use mathlib.Core.List.{List}
use borrow.Author.Tests.{le-leb, lt-leb}
use lib.ListN.{length}
use Rattle.counts.specs.Limits.{columns}
use Rattle.counts.specs.Refusals.{out_of_range, not_a_record, too_little_room}
use Rattle.counts.specs.Result.{Result}
use Rattle.counts.specs.Result.Result.{refused, done}
use Rattle.delimited.specs.Lines.{is_delimiter}
use Rattle.report.specs.Report.{Told}
use Rattle.report.specs.Reading.{line_at, lines_from, judged, cells_from, tell, read_report}
use Rattle.report.specs.Answer.{sized, filled}
use Rattle.std.specs.declared.option.Option.TheVariants.{Some, None}
use Rattle.std.specs.declared.result.Result.{Result as Returned}
use Rattle.std.specs.declared.result.Result.TheVariants.{Ok, Err}
use Rattle.report.proofs.Reports.{line_found}

module _ (d : ℕ) (s : List ℕ) where
  pub no_names : None ≡ line_at false d s 0 → Err 0 ≡ judged d s
  unfolding judged
  no_names q = rw (sym q)

  module _ (m j : ℕ) (line : Some (m, j) ≡ line_at false d s 0) where
    pub names_inside : is_delimiter d ≡ true → j ≤ length s
    names_inside delimiter = (line_found d delimiter s false 0 m j (sym line)).stands.inside

    pub names_then : (x : Returned (ℕ × ℕ) ℕ) → m ≤ columns → x ≡ lines_from (suc (length s)) d s m j 0 → x ≡ judged d s
    unfolding judged
    names_then x few h = rw (sym line, le-leb m columns few) h

    pub too_many_names : columns < m → Err 0 ≡ judged d s
    unfolding judged
    too_many_names many = rw (sym line, lt-leb m columns many)

-- ---- by what was judged

module _ (d : ℕ) (s : List ℕ) (room : ℕ) where
  pub no_delimiter : is_delimiter d ≡ false → read_report d s room ≡ refused out_of_range 0
  unfolding read_report
  no_delimiter f = rw f

  module _ (is : is_delimiter d ≡ true) where
    by_judged : (x : Returned (ℕ × ℕ) ℕ) → x ≡ judged d s → read_report d s room ≡ tell d s room x
    unfolding read_report
    by_judged x q = rw (is, sym q)

    pub breaks_there : (p : ℕ) → Err p ≡ judged d s → read_report d s room ≡ refused not_a_record p
    breaks_there p q = by_judged (Err p) q

    abbrev all : ℕ → ℕ → Told
    all m k = record { columns = m; lines = k; cells = cells_from (length s) d s 0 }

    pub has_room : (m k : ℕ) → Ok (m, k) ≡ judged d s → 2 * (m * (k + 1)) ≤ room → read_report d s room ≡ done (all m k)
    has_room m k q h = by_judged (Ok (m, k)) q ∙ rw (le-leb _ _ h)

    pub little_room : (m k : ℕ) → Ok (m, k) ≡ judged d s → room < 2 * (m * (k + 1)) → read_report d s room ≡ refused too_little_room 0
    little_room m k q h = by_judged (Ok (m, k)) q ∙ rw (lt-leb _ _ h)

-- the answer and the cells at exit, by what the report reads as
pub both : (d : ℕ) (s lent exit : List ℕ) (v : Result (ℕ × ℕ)) (x : Result Told) → read_report d s (length lent) ≡ x → v ≡ sized x → exit ≡ filled x lent
    → (v ≡ sized (read_report d s (length lent))) × (exit ≡ filled (read_report d s (length lent)) lent)
both d s lent exit v x e p q = (p ∙ ap sized (sym e), q ∙ ap (λ (y : Result Told). filled y lent) (sym e))
