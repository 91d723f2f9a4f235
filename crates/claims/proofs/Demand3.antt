-- DEMAND 3 on lent bytes: the calls of the session table meet it.
use Prim.Native.Nat.{ℕ, ◌≤◌}
use mathlib.Core.Path.{◌≡◌, refl, ◌∙◌, ap, sym}
use mathlib.Core.Bool.{true, false}
use mathlib.Core.List.{List, [], ◌∷◌, ◌++◌}
use native.Mathlib.Omega.{arith}
use lib.ListN.{length}
use lib.Seq.{take-append_seam, drop-append_seam}
use borrow.Author.Tests.{le-leb}
use Rattle.laws.proofs.Choose.{halves}
use Rattle.counts.specs.Limits.{commands}
use Rattle.counts.specs.Refusals.{out_of_range, unsound}
use Rattle.counts.specs.Result.{refused, done}
use Rattle.field.specs.Part.{part}
use Rattle.record_read.proofs.RoundTrip.{read_exactly}
use Rattle.record.specs.Record.{content, is_outcome, is_text, in_range, permitted}
use Rattle.scan.specs.Run.{run, run_end}
use Rattle.sessions.proofs.Agrees.{Agrees, fresh_agrees, agrees}
use Rattle.sessions.proofs.Claims as without-bytes
use Rattle.sessions.proofs.Did.{step_table, did, anew_exactly as anew_without}
use Rattle.sessions.proofs.Laws.{records_append}
use Rattle.sessions.proofs.Past.{accepted_at}
use Rattle.sessions.proofs.Progress.{taken_is_answered, unanswered_is_given}
use Rattle.sessions.proofs.Runs.{refuses_alike}
use Rattle.sessions.proofs.Told.{not_13}
use Rattle.sessions.specs.History.{itself, Call, to_make, to_place, to_take_up, to_answer, to_collect, Event, made, placed, answered, collected, written, collected_as, accepted, collections}
use Rattle.sessions.specs.Owed.{if_room}
use Rattle.sessions.specs.Records.{is_dated, record_of}
use Rattle.sessions.specs.Runs.{reached, history_of, makes_anew, never_anew, was_made, refused_with}
use Rattle.sessions.specs.Sound.{in_range_and_real}
use Rattle.sessions.specs.Table.{State, fresh, records}
use Rattle.sessions.specs.declared.Answer.{Answer}
use Rattle.session_table.specs.Calls.{making, fresh_bytes, made_bytes}
use Rattle.table_sound.specs.Bytes.{abs, sound_bytes}
use Rattle.claims.specs.Demands.{Happened, Says, Serves, Demand3}
use Rattle.session_histories.specs.Steps.{Step, step_bytes, bytes_after}
use Rattle.session_histories.proofs.Does.{KeptAs, does, same_bytes, fresh_kept}

-- the calls that are no call of a history are those that make the table anew
pub anew_exactly : (b : List ℕ) → sound_bytes b ≡ true → (c : Call) → makes_anew c ≡ was_made (step_bytes b c).0
anew_exactly b e c = anew_without (abs b) making c ∙ ap was_made (sym (does b (abs b) (record { sound = e; table = refl }) c).answers)

-- and a making that is refused changes nothing
pub refused_making_changes_nothing : (b : List ℕ) (max : ℕ) → makes_anew (to_make itself max) ≡ false
    → ◌≡◌ {A = Event × List ℕ} (step_bytes b (to_make itself max)) (made itself max (refused out_of_range 0), b)
unfolding step_bytes made_bytes making
refused_making_changes_nothing b max q = rw q

-- an answer that may be accepted is read from its record
says : (c : ℕ) (a : Answer) → 1 ≤ c → c ≤ commands → in_range_and_real a ≡ true → Says (record_of c a) c a
unfolding in_range_and_real permitted in_range is_text run_end run
says c a low high real =
    let k = halves (is_dated a) (is_outcome a.outcome) real in
    (read_exactly commands (omega arith) (record_of c a) (content c a.outcome [] a.date a.time)).1
    (rw (le-leb 1 c low, le-leb c commands high, k.0, k.1), refl)

-- the record of an answer stands after those of the answers before
in_place : (xs ys : List (ℕ × Answer)) (c : ℕ) (a : Answer)
    → part (records (xs ++ ((c, a) ∷ ys))) (length (records xs)) (length (record_of c a)) ≡ record_of c a
unfolding part records
in_place xs ys c a =
    rw (records_append xs ((c, a) ∷ ys), drop-append_seam (records xs) (record_of c a ++ records ys)) (take-append_seam (record_of c a) (records ys))

-- Bytes that hold the table without bytes which the calls have led to, from a start that owes nothing, serve as that table does.
served : (start : State) → Agrees start [] → (cs : List Call) (kept : never_anew cs ≡ true) (b : List ℕ) → KeptAs b (reached start (step_table making) cs)
    → Serves step_bytes b (history_of start (step_table making) cs)
served start begins cs kept b holds =
    let σ = reached start (step_table making) cs in
    let h = history_of start (step_table making) cs in
    let now = agrees making start begins cs kept in
    let same : (c : Call) → (step_bytes b c).0 ≡ (step_table making σ c).0 = λ c. (does b σ holds c).answers in
    record {
      always_sound = holds.sound;
      never_13 = λ c. ap (refused_with unsound) (same c) ∙ not_13 (did σ making c);
      reply_is_yours = without-bytes.reply_is_yours making start begins cs kept;
      record_in_place = λ t c a later earlier e.
          let r = without-bytes.accepted_in_range making start begins cs kept t c a later earlier e in
          let k = ap (accepted t) e ∙ accepted_at t c a later earlier in
          rw (k, in_place (accepted t earlier) (accepted t later) c a) (says c a r.0 r.1 r.2);
      collect_answers_what_is_owed = λ p t out. same (to_collect p t out) ∙ without-bytes.collect_answers_what_is_owed making start begins cs kept p t out;
      answers_in_order = without-bytes.answers_in_order making start begins cs kept;
      each_is_answered = without-bytes.each_is_answered making start begins cs kept;
      reply_is_there = λ p n s t later earlier e a newer older q f out.
          same (to_collect p t out) ∙ without-bytes.reply_is_there making start begins cs kept p n s t later earlier e a newer older q f out;
      reply_stays = without-bytes.reply_stays making start begins cs kept;
      is_given = λ t s p n e l. let x = unanswered_is_given making σ h now t s p n e l in (x.0, same to_take_up ∙ x.1);
      is_accepted = λ s t c a e real.
          (does _ _ (does b σ holds to_take_up).leaves (to_answer t c a)).answers ∙ taken_is_answered making σ s t c a (sym (same to_take_up) ∙ e) real;
      never_again = λ p t n out exit later earlier e.
          refuses_alike KeptAs step_bytes (step_table making) same t (without-bytes.never_again making start begins cs kept p t n out exit later earlier e);
      number_is_held = λ p n s t later earlier e f q m u g.
          without-bytes.number_is_held making start begins cs kept p n s t later earlier e f q m u (sym (same (to_place q m)) ∙ g);
    }

pub demand_3 : Demand3 fresh_bytes step_bytes
demand_3 max low high cs kept =
    let run = same_bytes (fresh_kept max low high) cs in
    rw run.history (served (fresh max) (fresh_agrees max low high) cs kept (bytes_after (fresh_bytes max) step_bytes cs) run.stands)

-- A complete reply for which there is room is written from the start of the lent output on, and all beyond it stays.
pub reply_is_written : (step : Step) (b : List ℕ) (h : List Event) → Serves step b h
    → (p n s t : ℕ) (later earlier : List Event) → Happened h (placed p n (done (s, t))) later earlier
    → (a : Answer) (newer older : List Event) → Happened later (answered t n a (done tt)) newer older → collections t later ≡ []
    → (out : List ℕ) → length (records (accepted t later)) ≤ length out
    → (step b (to_collect p t out)).0 ≡ collected p t out (done (length (records (accepted t later)))) (written out (records (accepted t later)))
reply_is_written step b h w p n s t later earlier e a newer older q f out l =
    let r = records (accepted t later) in
    let fits : if_room r (length out) ≡ done r = rw (le-leb (length r) (length out) l) in
    w.reply_is_there p n s t later earlier e a newer older q f out ∙ ap (collected_as p t out) fits
