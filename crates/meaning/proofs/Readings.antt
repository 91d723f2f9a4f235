-- What the productions read is read along the grammar's table.
use Prim.Native.Nat.{ℕ}
use mathlib.Core.Path.{◌≡◌, refl, ◌∙◌, ap, ap₂}
use mathlib.Core.Bool.{Bool, true, false}
use mathlib.Core.List.{List, [], ◌∷◌, ◌++◌}
use Rattle.grammar.specs.declared.StartClause.{StartClause}
use Rattle.grammar.specs.declared.StartClause.TheVariants.{Optional}
use Rattle.grammar.specs.Grammar.{Class, Point, step, is_point}
use Rattle.grammar.specs.Grammar.Class.{JOB, RESPONSE, UPLOAD, DOWNLOAD, GETINFO, ABORT, REPORT, EVENT, START, ACTIVE, IMMEDIATE, name, TIME≥, number, date, unreal_date, time, string, operator, semicolon}
use Rattle.grammar.specs.Grammar.Point.{statement, job_name, job_response, job_file, move_file, move_source, move_start, start_kind, start_time, start_date, start_operator, start_value, info_file, abort_kind, abort_name, ending, done, dead}
use Rattle.grammar.specs.Statement as read
use Rattle.grammar.specs.Productions as production
use Rattle.grammar.specs.Productions.{Placed, name_at, Ended}
use Rattle.grammar.specs.Productions.Value.{plain, digits, unreal_digits, quoted}
use Rattle.grammar.specs.Productions.Start.{missing, immediate, at_time, at_time_on, when}
use Rattle.grammar.specs.Productions.Source.{active, file, program}
use Rattle.grammar.specs.Productions.Job.{job}
use Rattle.grammar.specs.Productions.Other.{upload, download, getinfo, abort_report, abort_event}
use Rattle.grammar.specs.Productions.Any.{the_job, another}
use Rattle.grammar.specs.Productions.Ended.{ended}
use Rattle.grammar.proofs.Apart.{done_alone}
use Rattle.grammar.proofs.Points.{elsewhere}
use Rattle.item.specs.Tokens.{next_item, After}
use Rattle.item.specs.Tokens.Next.{item}
use Rattle.item.specs.Tokens.After.{here, then}
use Rattle.item.specs.Items.{item_at}
use Rattle.item.specs.declared.Item.{Item}
use Rattle.item.proofs.Tells.{Tells, tells}
use Rattle.statement.specs.declared.Source.{Source}
use Rattle.statement.specs.declared.Source.TheVariants.{Active, File, Name}
use Rattle.std.specs.declared.option.Option.TheVariants.{Some, None}
use Rattle.statement.specs.declared.Operand.{Operand}
use Rattle.statement.specs.declared.Operand.TheVariants.{Number, Text}
use Rattle.statement.specs.declared.Start.{Start}
use Rattle.statement.specs.declared.Start.TheVariants.{Immediate, At}
use Rattle.statement.specs.declared.Aborted.TheVariants.{Report, Event}
use Rattle.statement.specs.declared.Statement.{Statement}
use Rattle.statement.specs.declared.Statement.TheVariants.{Job, Upload, Download, GetInfo, Abort}
use Rattle.statement.specs.declared.Transfer.{Transfer}
use Rattle.counts.specs.Result.Result.{done as whole}
use Rattle.statement.specs.Statement.{part_of, condition, transferred, transfer, Held, read_from, statement_of}
use Rattle.statement.proofs.Along.{is_whole, after, on_token, any_kind}
use Rattle.meaning.specs.Paper.{paper_name, paper_source, paper_value, paper_start, paper_statement}

name_is : {t : Item} {u : Placed} → Tells t u → paper_name (part_of t) ≡ name_at u
name_is h = ap₂ (λ (p e : ℕ). record { place = p; end = e }) h.place h.spans

module _ (clause : StartClause) (s : List ℕ) where
  -- along an edge: the token u stands next from i on, and is of the class c
  along : (q : Point) (c : Class) (i : ℕ) {u : Placed} (h : Held q) → is_point (step q c) dead ≡ false → next_item s i ≡ item u → production.Is c u
      → read_from 0 s q h i ≡ read_from 0 s (step q c) (after q c (item_at 0 s i) h) u.end
  along q c i {u} h l e k = rw (k, l) at (on_token s q h (elsewhere q done done_alone (c ∷ []) refl l) i u e)

  closes : (x : Statement) (i : ℕ) {u : Placed} → next_item s i ≡ item u → production.Is semicolon u → read_from 0 s ending x i ≡ whole (x, u.end)
  closes x i e k = along ending semicolon i x refl e k ∙ is_whole 0 s x _

  told : (i : ℕ) {u : Placed} → next_item s i ≡ item u → Tells (item_at 0 s i) u
  told i {u} e = tells s i u e

  -- number or string
  record ValueRead (i : ℕ) (u : Placed) (x : read.Value) : Type 0 where
    value : Operand
    says : paper_value value ≡ x
    reads : (h : Held start_value) → read_from 0 s start_value h i ≡ read_from 0 s ending (transferred h.0 (condition h.1 h.2 value)) u.end

  value_read : (i : ℕ) {u : Placed} {x : read.Value} → production.Value u x → next_item s i ≡ item u → ValueRead i u x
  value_read i (plain k) e = record { value = Number _; says = ap read.number (told i e).number; reads = λ h. along start_value number i h refl e k }
  value_read i (digits k) e = record { value = Number _; says = ap read.number (told i e).number; reads = λ h. along start_value date i h refl e k }
  value_read i (unreal_digits k) e =
      record { value = Number _; says = ap read.number (told i e).number; reads = λ h. along start_value unreal_date i h refl e k }
  value_read i (quoted k) e = record { value = Text _; says = ap read.text (told i e).place; reads = λ h. along start_value string i h refl e k }

  record SourceRead (i : ℕ) (u : Placed) (x : read.Source) : Type 0 where
    source : Source
    says : paper_source source ≡ x
    reads : (h : Held (move_source clause)) → read_from 0 s (move_source clause) h i ≡ read_from 0 s (move_start clause) (transfer h.0 h.1 source) u.end

  source_read : (i : ℕ) {u : Placed} {x : read.Source} → production.Source u x → next_item s i ≡ item u → SourceRead i u x
  source_read i (active k) e = record { source = Active; says = refl; reads = λ h. along (move_source clause) ACTIVE i h refl e k }
  source_read i (file k) e = record { source = File _; says = ap read.file (told i e).place; reads = λ h. along (move_source clause) string i h refl e k }
  source_read i (program k) e = record { source = Name _; says = ap read.named (name_is (told i e)); reads = λ h. along (move_source clause) name i h refl e k }

  -- the start clause y of the transfer m from i on, and the ; after it
  record StartRead (m : Transfer) (i e : ℕ) (y : read.Start) : Type 0 where
    start : Start
    says : paper_start start ≡ y
    reads : read_from 0 s (move_start clause) m i ≡ whole (transferred m start, e)

  start_read : (m : Transfer) {c : List Placed} {y : read.Start} → production.Start clause c y → (z : Placed) → production.Is semicolon z → {i e : ℕ}
      → After s i (c ++ (z ∷ [])) e → StartRead m i e y
  start_read m (missing optional) z j (then a here) =
      record { start = Immediate; says = refl; reads = rw optional (along (move_start Optional) semicolon _ m refl a j ∙ is_whole 0 s _ _) }
  start_read m (immediate f g) z j (then a (then b (then d here))) =
      record {
        start = Immediate;
        says = refl;
        reads = along (move_start clause) START _ m refl a f ∙ along start_kind IMMEDIATE _ m refl b g ∙ closes _ _ d j;
      }
  start_read m (at_time f g h) z j (then a (then b (then d (then k here)))) =
      record {
        start = At _ None;
        says = ap read.at_time (told _ d).moment;
        reads =
            along (move_start clause) START _ m refl a f
            ∙ along start_kind TIME≥ _ m refl b g
            ∙ along start_time time _ m refl d h
            ∙ along start_date semicolon _ _ refl k j
            ∙ is_whole 0 s _ _;
      }
  start_read m (at_time_on f g h l) z j (then a (then b (then d (then k (then q here))))) =
      record {
        start = At _ (Some _);
        says = ap₂ read.at_time_on (told _ d).moment (told _ k).moment;
        reads =
            along (move_start clause) START _ m refl a f
            ∙ along start_kind TIME≥ _ m refl b g
            ∙ along start_time time _ m refl d h
            ∙ along start_date date _ _ refl k l
            ∙ closes _ _ q j;
      }
  start_read m (when {k = w} {n = n} {o = o} {v = v} {x = x} f g h l) z j (then a (then b (then d (then k (then q here))))) =
      let r : ValueRead o.end v x = value_read _ l k in
      record {
        start = condition (part_of (item_at 0 s w.end)) (item_at 0 s n.end).operator r.value;
        says = rw (name_is (told w.end b), (told n.end d).operator, r.says);
        reads =
            along (move_start clause) START _ m refl a f
            ∙ along start_kind name _ m refl b g
            ∙ along start_operator operator _ _ refl d h
            ∙ r.reads _
            ∙ closes _ _ q j;
      }

  -- UPLOAD or DOWNLOAD: file spec, source, start clause
  record MoveRead (down : Bool) (i e file : ℕ) (x : read.Source) (y : read.Start) : Type 0 where
    at : ℕ
    source : Source
    start : Start
    says_file : at ≡ file
    says_source : paper_source source ≡ x
    says_start : paper_start start ≡ y
    reads : read_from 0 s (move_file clause) down i ≡ whole (transferred (transfer down at source) start, e)

  move_read : (down : Bool) {f t : Placed} {c : List Placed} {x : read.Source} {y : read.Start} → production.Is string f → production.Source t x
      → production.Start clause c y → (z : Placed) → production.Is semicolon z → {i e : ℕ} → After s i (f ∷ t ∷ (c ++ (z ∷ []))) e
      → MoveRead down i e f.place x y
  move_read down {f = f} {t = t} {x = x} {y = y} g h k z j {i} {e} (then a (then b d)) =
      let r : SourceRead f.end t x = source_read _ h b in
      let q : StartRead (transfer down (item_at 0 s i).place r.source) t.end e y = start_read (transfer down (item_at 0 s i).place r.source) k z j d in
      record {
        at = (item_at 0 s i).place;
        source = r.source;
        start = q.start;
        says_file = (told _ a).place;
        says_source = r.says;
        says_start = q.says;
        reads = along (move_file clause) string _ down refl a g ∙ r.reads _ ∙ q.reads;
      }

  -- the statement y from i on, with its ;
  pub record StatementReads (i e : ℕ) (y : read.Statement) : Type 0 where
    pub statement : Statement
    pub says : paper_statement statement ≡ y
    pub reads : statement_of 0 s clause (item_at 0 s i) ≡ whole (statement, e)

  other_read : {a : List Placed} {y : read.Statement} → production.Other clause a y → (z : Placed) → production.Is semicolon z → {i e : ℕ}
      → After s i (a ++ (z ∷ [])) e
      → StatementReads i e y
  other_read (upload {k = k} {f = f} {x = x} {y = y} g h l r) z j {i} {e} (then a b) =
      let q : MoveRead false k.end e f.place x y = move_read false h l r z j b in
      record {
        statement = Upload q.at q.source q.start;
        says = rw (q.says_file, q.says_source, q.says_start);
        reads = any_kind clause s i ∙ along (statement clause) UPLOAD _ tt refl a g ∙ q.reads;
      }
  other_read (download {k = k} {f = f} {x = x} {y = y} g h l r) z j {i} {e} (then a b) =
      let q : MoveRead true k.end e f.place x y = move_read true h l r z j b in
      record {
        statement = Download q.at q.source q.start;
        says = rw (q.says_file, q.says_source, q.says_start);
        reads = any_kind clause s i ∙ along (statement clause) DOWNLOAD _ tt refl a g ∙ q.reads;
      }
  other_read (getinfo g h) z j {i} (then a (then b (then d here))) =
      record {
        statement = GetInfo _;
        says = ap read.getinfo (told _ b).place;
        reads = any_kind clause s i ∙ along (statement clause) GETINFO _ tt refl a g ∙ along info_file string _ tt refl b h ∙ closes _ _ d j;
      }
  other_read (abort_report g h l) z j {i} (then a (then b (then d (then q here)))) =
      record {
        statement = Abort Report _;
        says = ap read.abort_report (name_is (told _ d));
        reads =
            any_kind clause s i
            ∙ along (statement clause) ABORT _ tt refl a g
            ∙ along abort_kind REPORT _ tt refl b h
            ∙ along abort_name name _ Report refl d l
            ∙ closes _ _ q j;
      }
  other_read (abort_event g h l) z j {i} (then a (then b (then d (then q here)))) =
      record {
        statement = Abort Event _;
        says = ap read.abort_event (name_is (told _ d));
        reads =
            any_kind clause s i
            ∙ along (statement clause) ABORT _ tt refl a g
            ∙ along abort_kind EVENT _ tt refl b h
            ∙ along abort_name name _ Event refl d l
            ∙ closes _ _ q j;
      }

  pub statement_reads : {a : List Placed} {y : read.Statement} → Ended (production.Any clause) a y → {i e : ℕ} → After s i a e → StatementReads i e y
  statement_reads (ended z (another o) j) f = other_read o z j f
  statement_reads (ended z (the_job (job g h l r)) j) {i} (then a (then b (then d (then q (then w here))))) =
      record {
        statement = Job _ _;
        says = ap₂ read.job (name_is (told _ b)) (told _ q).place;
        reads =
            any_kind clause s i
            ∙ along (statement clause) JOB _ tt refl a g
            ∙ along job_name name _ tt refl b h
            ∙ along job_response RESPONSE _ _ refl d l
            ∙ along job_file string _ _ refl q r
            ∙ closes _ _ w j;
      }
