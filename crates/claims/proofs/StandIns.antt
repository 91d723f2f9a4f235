-- No stand-in keeps the demand that document 01 says it breaks.
use Prim.Native.Nat.{ℕ, ◌+◌, ◌≤◌, ◌<◌}
use mathlib.Core.Path.{◌≡◌, refl, sym, ap, ◌∙◌}
use mathlib.Core.Bool.{true}
use mathlib.Core.List.{List, [], ◌∷◌, ◌++◌}
use native.Mathlib.Omega.{arith}
use lib.ListN.{length, length-append, replicate, length-replicate}
use borrow.Author.Tests.{eq-eqb, le-leb}
use Rattle.calendar.specs.Calendar.{february_length, month_length, real_date, real_time}
use Rattle.counts.specs.Result.{Result, done}
use Rattle.counts.proofs.Results.{refused_not_done, done_same}
use Rattle.decimal.specs.Digits.{digits, width_from, plain_width, plain}
use Rattle.moment.specs.Moment.{real_moment, moment_bytes}
use Rattle.record.specs.Record.{record_bytes}
use Rattle.record.specs.declared.Outcome.TheVariants.{Processed}
use Rattle.sessions.proofs.Owing.{length_numbered}
use Rattle.sessions.proofs.Did.{step_table}
use Rattle.sessions.proofs.Laws.{head_same}
use Rattle.sessions.proofs.Past.{gather_append}
use Rattle.sessions.proofs.Runs.{SameRun}
use Rattle.sessions.specs.Find.{find, replaced}
use Rattle.sessions.specs.History.{Call, to_place, to_take_up, to_answer, to_collect, Event, placed, took_up, collected, written, gather, placing, placings}
use Rattle.sessions.specs.Runs.{reached, history_of, never_anew}
use Rattle.sessions.specs.Table.{State, fresh as fresh_state, is_open, is_waiting, is_closed, is_ready, names, numbered, records, place_in, place, take_next, take_hand, take_up, answer_hand, answer, collect_from, collect}
use Rattle.sessions.specs.declared.Answer.{Answer}
use Rattle.session_table.specs.Calls.{fresh_bytes}
use Rattle.session_table.specs.Calls as calls
use Rattle.session_histories.specs.Steps.{Step, step_bytes, bytes_after}
use Rattle.session_histories.proofs.Does.{collecting_is, KeptAs, does, same_bytes, fresh_kept}
use Rattle.table_sound.specs.Bytes.{abs}
use Rattle.claims.specs.Demands.{Serves, Demand3}
use Rattle.claims.specs.StandIns.{Request, Run, bytes_by, history_by, SaysAccepted, DoesNothing, PlacesByRows, Invented, Invents, HandsOver, HoldsBack, PlaceCall, TakeUpCall, CollectCall, PlaceRefuses, TakeUpRefuses, CollectRefuses, IsRefused, Refuted}
use Rattle.claims.specs.TableRows.{PlaceRow, TakeUpRow, CollectRow}
use Rattle.claims.proofs.Demand1Table.{place_exactly, take_up_exactly, collect_exactly}
use Rattle.claims.proofs.StandInReaders.{reader_must_take, reader_must_look, statement_must_be_read, statement_must_look, statements_not_made_up}

-- ---- tables that calls reach on lent bytes: program 1 places a request of one command; it is taken up; it is answered

abbrev pub processed : Answer
processed = record { outcome = Processed; date = 20240430; time = 235959 }

abbrev placing_one : List Call
placing_one = to_place 1 1 ∷ []

abbrev pub answering_one : List Call
answering_one = to_answer 1 1 processed ∷ to_take_up ∷ placing_one

-- an output with room for a reply of one record
abbrev pub output : List ℕ
output = replicate 100 0

abbrev of_two : List Call → List ℕ
of_two = bytes_after (fresh_bytes 2) step_bytes

-- what calls on lent bytes give is computed on the table without bytes
pub same : (cs : List Call) → SameRun KeptAs step_bytes (step_table calls.making) (fresh_bytes 2) (fresh_state 2) cs
same = same_bytes (fresh_kept 2 (omega arith) (omega arith))

gives : (cs : List Call) (c : Call) → (step_bytes (of_two cs) c).0 ≡ (step_table calls.making (reached (fresh_state 2) (step_table calls.making) cs) c).0
gives cs c = (does _ _ (same cs).stands c).answers

kept_one : never_anew placing_one ≡ true
unfolding never_anew
kept_one = refl

placed_so : {p n : ℕ} {r v : Result (ℕ × ℕ)} → placed p n r ≡ placed p n v → r ≡ v
placed_so e = cc

took_so : {r v : Result (ℕ × ℕ × ℕ)} → took_up r ≡ took_up v → r ≡ v
took_so e = cc

places_first : calls.placing (fresh_bytes 2) 1 1 ≡ done (0, 1)
unfolding step_bytes step_table reached fresh_state is_open find replaced place_in place
places_first = placed_so (gives [] (to_place 1 1))

gives_first : calls.taking_up (of_two placing_one) ≡ done (0, 1, 1)
unfolding step_bytes step_table reached fresh_state is_open is_waiting find replaced place_in place take_next take_hand take_up
gives_first = took_so (gives placing_one to_take_up)

pub hands_over_first : calls.collecting (of_two answering_one) 1 1 (length output) ≡ done (records (numbered 1 (processed ∷ [])))
unfolding step_table reached fresh_state is_open is_waiting is_closed is_ready find replaced names place_in place take_next take_hand take_up answer_hand answer collect_from collect numbered records real_moment february_length month_length real_date real_time digits width_from plain_width plain moment_bytes record_bytes
hands_over_first =
    let w = (same answering_one).stands in
    collecting_is (of_two answering_one) w.sound 1 1 output ∙ ap (λ (σ : State). (collect σ 1 1 (length output)).0) w.table

-- ---- calls that always refuse

must : {A : Type 0} {x v : Result A} {a : A} → x ≡ v → x ≡ done a → IsRefused v → ⊥
must e d never = refused_not_done (sym never.2 ∙ sym e ∙ d)

place_must_take : (f : PlaceCall) → ((b : List ℕ) (p n : ℕ) → PlaceRow b (abs b) p n (f b p n).0) → PlaceRefuses f → ⊥
place_must_take f rows never = let b = fresh_bytes 2 in must ((place_exactly b 1 1).1 _ (rows b 1 1)) places_first (never b 1 1)

take_up_must_give : (f : TakeUpCall) → ((b : List ℕ) → TakeUpRow b (abs b) (f b).0) → TakeUpRefuses f → ⊥
take_up_must_give f rows never = let b = of_two placing_one in must ((take_up_exactly b).1 _ (rows b)) gives_first (never b)

collect_must_give : (f : CollectCall) → ((b : List ℕ) (p t room : ℕ) → CollectRow b (abs b) p t room (f b p t room).0) → CollectRefuses f → ⊥
collect_must_give f rows never =
    let b = of_two answering_one in
    let room = length output in
    must ((collect_exactly b 1 1 room).1 _ (rows b 1 1 room)) hands_over_first (never b 1 1 room)

-- ---- tables

-- what a collection answers
pub handed : {p t : ℕ} {out exit exit' : List ℕ} {r v : Result ℕ} → collected p t out r exit ≡ collected p t out v exit' → r ≡ v
handed e = cc

-- what stands in a list of one is that one
one_of : {A : Type 0} (l m : List A) {x y : A} → l ++ (x ∷ m) ≡ y ∷ [] → x ≡ y
one_of [] m e = head_same e
one_of (z ∷ l) m {x} e = absurd (omega (arith, ap length e, length-append l (x ∷ m)))

abbrev reply : List Answer → List ℕ
reply answers = records (numbered 1 answers)

module _ (fresh : ℕ → List ℕ) (step : Step) (meets : Demand3 fresh step) where
  serves : (r : Run) → Serves step (bytes_by fresh step r) (history_by fresh step r)
  serves r = meets r.max r.low r.high r.calls r.kept

  -- who owns a request that is answered whole is handed its records
  whole_is_there : (r : Run) (p t : ℕ) (answers : List Answer) (out : List ℕ) → Request (history_by fresh step r) p t answers
      → length (reply answers) ≤ length out
      → (step (bytes_by fresh step r) (to_collect p t out)).0 ≡ collected p t out (done (length (reply answers))) (written out (reply answers))
  whole_is_there r p t answers out w enough =
      (serves r).reply_is_there p (length answers) w.number t w.later w.earlier w.was_placed w.last w.newer w.older w.last_answered
      w.not_collected out
      ∙ rw (w.so_far, le-leb (length (reply answers)) (length out) enough)

  later_is_accepted : Invented fresh step → ⊥
  later_is_accepted w =
      let y = (serves w.run).reply_is_yours w.program w.ticket w.length_given w.output w.exit w.later w.earlier w.was_collected in
      w.not_so (y.its_records ∙ ap (λ (l : List (ℕ × Answer)). written w.output (records l)) (sym y.one_answer_each))

  stays : DoesNothing step → (start : List ℕ) (cs : List Call) → bytes_after start step cs ≡ start
  unfolding reached
  stays never start [] = refl
  stays never start (c ∷ cs) = never (bytes_after start step cs) c ∙ stays never start cs

  module _ (p t : ℕ) (w : SaysAccepted fresh step p t) where
    -- room for both
    abbrev both : List ℕ
    both = replicate (length (reply w.these) + length (reply w.those)) 0

    room_for_both : length both ≡ length (reply w.these) + length (reply w.those)
    room_for_both = length-replicate _ 0

    hands_these : (step (bytes_by fresh step w.run) (to_collect p t both)).0
        ≡ collected p t both (done (length (reply w.these))) (written both (reply w.these))
    hands_these = whole_is_there w.run p t w.these both w.so (omega (arith, room_for_both))

    hands_those : (step (bytes_by fresh step w.other) (to_collect p t both)).0
        ≡ collected p t both (done (length (reply w.those))) (written both (reply w.those))
    hands_those = whole_is_there w.other p t w.those both w.or_so (omega (arith, room_for_both))

    later_not_invented : (invented : ℕ → ℕ → List ℕ → ℕ × List ℕ) → Invents step invented → 1 < t → ⊥
    later_not_invented invented always later =
        w.they_differ
        (ap (λ (x : ℕ × List ℕ). x.0)
        (always (bytes_by fresh step w.run) p t both _ _ later hands_these ∙ sym (always (bytes_by fresh step w.other) p t both _ _ later hands_those)))

    table_must_hand_over : DoesNothing step → ⊥
    table_must_hand_over never =
        let e = stays never (fresh w.run.max) w.run.calls ∙ ap fresh w.one_max ∙ sym (stays never (fresh w.other.max) w.other.calls) in
        w.they_differ (done_same (handed (sym hands_these ∙ ap (λ (b : List ℕ). (step b (to_collect p t both)).0) e ∙ hands_those)))

  commands_not_made_up : (n k : ℕ) → (n ≡ k → ⊥) → HandsOver fresh step n k → ⊥
  unfolding history_of reached gather placing never_anew
  commands_not_made_up n k other w =
      let h = history_by fresh step w.run in
      let call = to_collect w.program w.ticket w.output in
      let r : Run = record { max = w.run.max; low = w.run.low; high = w.run.high; calls = call ∷ w.run.calls; kept = w.run.kept } in
      let e = collected w.program w.ticket w.output (done w.length_given) w.exit in
      let now : history_by fresh step r ≡ e ∷ h = ap (λ (x : Event). x ∷ h) w.given in
      let y = (serves r).reply_is_yours w.program w.ticket w.length_given w.output w.exit [] h now in
      let p = gather_append (placing w.ticket) w.later (placed w.program n (done (w.number, w.ticket)) ∷ w.earlier) in
      let q : placings w.ticket w.later ++ ((w.number, w.program, n) ∷ placings w.ticket w.earlier)
      ≡ (y.number, w.program, length y.answers) ∷ [] =
      sym (ap (placings w.ticket) w.was_placed ∙ p ∙ rw (eq-eqb w.ticket w.ticket refl)) ∙ y.one_placing in
      let asked : n ≡ length y.answers = ap (λ (x : ℕ × ℕ × ℕ). x.2) (one_of (placings w.ticket w.later) (placings w.ticket w.earlier) q) in
      other (asked ∙ sym (length_numbered 1 y.answers) ∙ sym (ap length y.one_answer_each) ∙ w.k_answered)

  commands_not_held_back : (answers : List Answer) → HoldsBack fresh step answers → ⊥
  commands_not_held_back answers w =
      refused_not_done (handed (sym w.kept ∙ whole_is_there w.run w.program w.ticket answers w.output w.whole w.enough))

table_must_do : (step : Step) → Demand3 fresh_bytes step → DoesNothing step → PlacesByRows step → ⊥
unfolding history_of reached gather
table_must_do step meets never rows =
    let r = rows (fresh_bytes 2) 1 1 in
    let e : (step (fresh_bytes 2) (to_place 1 1)).0 ≡ placed 1 1 (done (0, 1)) =
    r.2 ∙ ap (placed 1 1) (sym ((place_exactly (fresh_bytes 2) 1 1).1 _ r.1) ∙ places_first) in
    (meets 2 (omega arith) (omega arith) placing_one kept_one).number_is_held 1 1 0 1 [] [] (ap (λ (x : Event). x ∷ []) e) refl 1 1 1
    (ap (λ (b : List ℕ). (step b (to_place 1 1)).0) (never (fresh_bytes 2) (to_place 1 1)) ∙ e)

pub refuted : Refuted
refuted =
    record {
      reader_must_take = reader_must_take;
      reader_must_look = reader_must_look;
      statement_must_be_read = statement_must_be_read;
      statement_must_look = statement_must_look;
      place_must_take = place_must_take;
      take_up_must_give = take_up_must_give;
      collect_must_give = collect_must_give;
      table_must_hand_over = λ fresh step meets never p t w. table_must_hand_over fresh step meets p t w never;
      table_must_do = table_must_do;
      later_is_accepted = later_is_accepted;
      later_not_invented = λ fresh step meets invented always p t later w. later_not_invented fresh step meets p t w invented always later;
      statements_not_made_up = statements_not_made_up;
      commands_not_made_up = commands_not_made_up;
      commands_not_held_back = commands_not_held_back;
    }
