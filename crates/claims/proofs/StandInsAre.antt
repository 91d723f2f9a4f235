-- Each stand-in is one that there is: a function that does what document 01's sentence says, without the demand.
use Prim.Native.Nat.{ℕ}
use mathlib.Core.Path.{◌≡◌, refl, sym, ap, ◌∙◌}
use mathlib.Core.Bool.{Bool, true, cond}
use mathlib.Core.List.{List, [], ◌∷◌}
use native.Mathlib.Omega.{arith}
use lib.Dec.{leb}
use lib.ListN.{length, get_or, drop}
use borrow.Author.Tests.{lt-leb}
use Rattle.calendar.specs.Calendar.{february_length, month_length, real_date, real_time}
use Rattle.counts.specs.Refusals.{unexpected, all_taken, not_the_one, nothing_unanswered}
use Rattle.counts.specs.Result.{Result, refused, done, counted}
use Rattle.decimal.specs.Digits.{digits, width_from, plain_width, plain}
use Rattle.statement.specs.declared.Statement.TheVariants.{GetInfo}
use Rattle.moment.specs.Moment.{real_moment, moment_bytes}
use Rattle.record.specs.Record.{record_bytes}
use Rattle.sessions.proofs.Did.{step_table}
use Rattle.sessions.specs.Find.{find, replaced}
use Rattle.sessions.specs.History.{Call, to_make, to_place, to_take_up, to_answer, to_collect, Event, made, placed, took_up, answered, collected, written, gather, collection, accepted}
use Rattle.sessions.specs.Runs.{reached, history_of, never_anew}
use Rattle.sessions.specs.Table.{fresh as fresh_state, is_open, is_waiting, names, numbered, records, place_in, place, take_next, take_hand, take_up, answer_hand, answer}
use Rattle.sessions.specs.declared.Answer.{Answer}
use Rattle.session_table.specs.Calls.{fresh_bytes, placing, placed_bytes, collected_out}
use Rattle.session_histories.specs.Steps.{Step, step_bytes, bytes_after}
use Rattle.claims.specs.StandIns.{Request, Run, history_by, SaysAccepted, Invented, Invents, HandsOver, HoldsBack, Exhibited}
use Rattle.claims.proofs.StandIns.{processed, output, answering_one, same, hands_over_first}
use Rattle.claims.proofs.StandInReaders.{counts_one, makes_up, getinfo, only_getinfo}
use Rattle.claims.proofs.StandInIdle.{of_two, failed, differ, short, idle, idles, idle_accepts, answers_only, leaves_all, only_answers}

-- ---- tables that do what they should but for collections

but_collects : (List ℕ → ℕ → ℕ → List ℕ → Event × List ℕ) → Step
but_collects f b (to_make m max) = step_bytes b (to_make m max)
but_collects f b (to_place p n) = step_bytes b (to_place p n)
but_collects f b to_take_up = step_bytes b to_take_up
but_collects f b (to_answer t c a) = step_bytes b (to_answer t c a)
but_collects f b (to_collect p t out) = f b p t out

-- program 1's session is served; then program 2 places a request of one command, it is taken up and answered with a
second : Answer → List Call
second a = to_answer 2 1 a ∷ to_take_up ∷ to_place 2 1 ∷ answering_one

second_kept : (a : Answer) → never_anew (second a) ≡ true
unfolding second never_anew
second_kept a = refl

abbrev second_run : Answer → Run
second_run a = of_two (second a) (second_kept a)

first_events : List Event
first_events = answered 1 1 processed (done tt) ∷ took_up (done (0, 1, 1)) ∷ placed 1 1 (done (0, 1)) ∷ []

second_events : Answer → List Event
second_events a = answered 2 1 a (done tt) ∷ took_up (done (1, 2, 1)) ∷ placed 2 1 (done (1, 2)) ∷ first_events

serves : (history_of (fresh_bytes 2) step_bytes (second processed) ≡ second_events processed)
    × (history_of (fresh_bytes 2) step_bytes (second failed) ≡ second_events failed)
unfolding first_events second_events second history_of reached step_table fresh_state is_open is_waiting find replaced names place_in place take_next take_hand take_up answer_hand answer real_moment february_length month_length real_date real_time
serves = ((same (second processed)).history, (same (second failed)).history)

serves_first : history_of (fresh_bytes 2) step_bytes answering_one ≡ first_events
unfolding history_of second second_events
serves_first = ap (drop 3) serves.0

is_second : (a : Answer) {h : List Event} → h ≡ second_events a → Request h 2 2 (a ∷ [])
unfolding second_events accepted numbered gather collection
is_second a e =
    record {
      number = 1;
      later = answered 2 1 a (done tt) ∷ took_up (done (1, 2, 1)) ∷ [];
      earlier = first_events;
      was_placed = e;
      so_far = refl;
      last = a;
      newer = [];
      older = took_up (done (1, 2, 1)) ∷ [];
      last_answered = refl;
      not_collected = refl;
    }

-- in these calls nothing is collected
second_stands : (f : List ℕ → ℕ → ℕ → List ℕ → Event × List ℕ) (a : Answer) → history_of (fresh_bytes 2) step_bytes (second a) ≡ second_events a
    → Request (history_by fresh_bytes (but_collects f) (second_run a)) 2 2 (a ∷ [])
unfolding history_of reached but_collects second
second_stands f a e = is_second a e

accepts : (step : Step)
    → ((a : Answer) → history_of (fresh_bytes 2) step_bytes (second a) ≡ second_events a → Request (history_by fresh_bytes step (second_run a)) 2 2 (a ∷ []))
    → SaysAccepted fresh_bytes step 2 2
accepts step stands =
    record {
      these = processed ∷ [];
      those = failed ∷ [];
      run = second_run processed;
      other = second_run failed;
      one_max = refl;
      so = stands processed serves.0;
      or_so = stands failed serves.1;
      they_differ = differ;
    }

-- the first session is served, and later ones get an empty reply
invents : List ℕ → ℕ → ℕ → List ℕ → Event × List ℕ
invents b p t out = cond (leb t 1) (step_bytes b (to_collect p t out)) (collected p t out (done 0) out, b)

same_collected : {p t n m : ℕ} {out exit left : List ℕ} → collected p t out (done n) exit ≡ collected p t out (done m) left
    → ◌≡◌ {A = ℕ × List ℕ} (n, exit) (m, left)
same_collected e = cc

inventing : Invents (but_collects invents) (λ p t out. (0, out))
unfolding but_collects invents
inventing b p t out n exit later e =
    same_collected (sym e ∙ ap (λ (u : Bool). (cond u (step_bytes b (to_collect p t out)) (collected p t out (done 0) out, b)).0) (lt-leb t 1 later))

-- no reply is handed over
holds : List ℕ → ℕ → ℕ → List ℕ → Event × List ℕ
holds b p t out = (collected p t out (refused not_the_one 0) out, b)

held_back : HoldsBack fresh_bytes (but_collects holds) (processed ∷ [])
unfolding but_collects holds
held_back =
    record {
      run = second_run processed;
      program = 2;
      ticket = 2;
      whole = second_stands holds processed serves.0;
      output = output;
      enough = short;
      number = not_the_one;
      place = 0;
      exit = output;
      kept = refl;
    }

-- the second session is handed an empty reply: in the output stands no record
nothing_written : output ≡ written output (records (accepted 2 (second_events processed))) → ⊥
unfolding second_events first_events accepted records digits width_from plain_width plain moment_bytes record_bytes
nothing_written e = let n : ◌≡◌ {A = ℕ} 0 67 = ap (λ (l : List ℕ). get_or l 0 0) e in omega arith

one_invented : Invented fresh_bytes (but_collects invents)
unfolding history_of reached but_collects invents second never_anew
one_invented =
    record {
      run = of_two (to_collect 2 2 output ∷ second processed) refl;
      later = [];
      earlier = second_events processed;
      program = 2;
      ticket = 2;
      a_later_one = omega arith;
      output = output;
      length_given = 0;
      exit = output;
      was_collected = ap (λ (h : List Event). collected 2 2 output (done 0) output ∷ h) serves.0;
      not_so = nothing_written;
    }

-- ---- a table that keeps one command of each request

shortens : Step
shortens b (to_make m max) = step_bytes b (to_make m max)
shortens b (to_place p n) = (placed p n (placing b p 1), placed_bytes b p 1)
shortens b to_take_up = step_bytes b to_take_up
shortens b (to_answer t c a) = step_bytes b (to_answer t c a)
shortens b (to_collect p t out) = step_bytes b (to_collect p t out)

-- the same history, but for the count asked
asking : ℕ → List Event → List Event
asking m [] = []
asking m (made l max r ∷ h) = made l max r ∷ asking m h
asking m (placed p n r ∷ h) = placed p m r ∷ asking m h
asking m (took_up r ∷ h) = took_up r ∷ asking m h
asking m (answered t c a r ∷ h) = answered t c a r ∷ asking m h
asking m (collected p t out r exit ∷ h) = collected p t out r exit ∷ asking m h

shortened : List Call
shortened = to_answer 1 1 processed ∷ to_take_up ∷ to_place 1 2 ∷ []

shortened_kept : never_anew shortened ≡ true
unfolding shortened never_anew
shortened_kept = refl

shortened_events : history_by fresh_bytes shortens (of_two shortened shortened_kept)
    ≡ answered 1 1 processed (done tt) ∷ took_up (done (0, 1, 1)) ∷ placed 1 2 (done (0, 1)) ∷ []
unfolding history_of reached shortens shortened step_bytes first_events asking
shortened_events = ap (asking 2) serves_first

-- what the collection leaves in the output
abbrev left_over : List ℕ
left_over = collected_out (bytes_after (fresh_bytes 2) step_bytes answering_one) 1 1 output

hands_over : HandsOver fresh_bytes shortens 2 1
unfolding reached shortens shortened step_bytes accepted
hands_over =
    record {
      run = of_two shortened shortened_kept;
      later = answered 1 1 processed (done tt) ∷ took_up (done (0, 1, 1)) ∷ [];
      earlier = [];
      program = 1;
      number = 0;
      ticket = 1;
      was_placed = shortened_events;
      k_answered = ap (λ (h : List Event). length (accepted 1 h)) shortened_events;
      output = output;
      length_given = length (records (numbered 1 (processed ∷ [])));
      exit = left_over;
      given = ap (λ (r : Result (List ℕ)). collected 1 1 output (counted r) left_over) hands_over_first;
    }

pub exhibited : Exhibited
exhibited =
    record {
      a_reader_refuses = (λ file offsets. (refused unexpected 0, offsets), λ file offsets. (unexpected, 0, refl));
      a_reader_gives_one = (λ file offsets. (done 1, offsets), λ offsets. (done 1, offsets), λ file offsets. refl);
      a_statement_reader_refuses = (λ file at. refused unexpected 0, λ file at. (unexpected, 0, refl));
      a_statement_reader_gives_one = (getinfo, GetInfo 0, only_getinfo);
      a_place_refuses = (λ b p n. (refused all_taken 0, b), λ b p n. (all_taken, 0, refl));
      a_take_up_refuses = (λ b. (refused nothing_unanswered 0, b), λ b. (nothing_unanswered, 0, refl));
      a_collect_refuses = (λ b p t room. (refused not_the_one 0, b), λ b p t room. (not_the_one, 0, refl));
      a_table_does_nothing = (λ max. [], idle, idles, idle_accepts);
      a_table_only_answers = (answers_only, leaves_all, only_answers);
      a_table_invented = (but_collects invents, one_invented);
      a_table_invents = (but_collects invents, λ p t out. (0, out), inventing, accepts (but_collects invents) (second_stands invents));
      a_reader_makes_up = (counts_one, λ n offsets. 1, makes_up);
      a_table_makes_up = (shortens, hands_over);
      a_table_holds_back = (but_collects holds, processed ∷ [], held_back);
      this_table_accepts = accepts step_bytes (λ a e. is_second a e);
    }
