-- A table that does nothing and says that it accepts, and one that answers as it should and does nothing.
use Prim.Native.Nat.{◌≤◌}
use mathlib.Core.Path.{◌≡◌, refl}
use mathlib.Core.Bool.{true}
use mathlib.Core.List.{List, [], ◌∷◌}
use native.Mathlib.Omega.{arith}
use lib.ListN.{length}
use Rattle.counts.specs.Refusals.{out_of_range}
use Rattle.counts.specs.Result.{refused, done}
use Rattle.decimal.specs.Digits.{digits, width_from, plain_width, plain}
use Rattle.moment.specs.Moment.{moment_bytes}
use Rattle.record.specs.Record.{record_bytes}
use Rattle.record.specs.declared.Outcome.TheVariants.{Error}
use Rattle.sessions.specs.History.{Call, to_make, to_place, to_take_up, to_answer, to_collect, made, placed, took_up, answered, collected, gather, collection, accepted}
use Rattle.sessions.specs.Runs.{reached, history_of, never_anew}
use Rattle.sessions.specs.Table.{numbered, records}
use Rattle.sessions.specs.declared.Answer.{Answer}
use Rattle.session_table.specs.Calls.{placing}
use Rattle.session_histories.specs.Steps.{Step, step_bytes}
use Rattle.claims.specs.StandIns.{Request, Run, history_by, SaysAccepted, DoesNothing, PlacesByRows}
use Rattle.claims.proofs.Demand1Table.{place_exactly}
use Rattle.claims.proofs.StandIns.{processed, output}

abbrev pub of_two : (calls : List Call) → never_anew calls ≡ true → Run
of_two calls kept = record { max = 2; low = omega arith; high = omega arith; calls = calls; kept = kept }

-- an answer with another record than `processed`
abbrev pub failed : Answer
failed = record { outcome = Error 6 16; date = 20240430; time = 235959 }

pub differ : length (records (numbered 1 (processed ∷ []))) ≡ length (records (numbered 1 (failed ∷ []))) → ⊥
unfolding numbered records digits width_from plain_width plain moment_bytes record_bytes
differ e = omega arith

pub short : length (records (numbered 1 (processed ∷ []))) ≤ length output
unfolding numbered records digits width_from plain_width plain moment_bytes record_bytes
short = omega arith

-- ---- a table that does nothing, and says that it accepts

pub idle : Step
idle b (to_make m max) = (made m max (refused out_of_range 0), b)
idle b (to_place p n) = (placed p n (done (0, 1)), b)
idle b to_take_up = (took_up (done (0, 1, 1)), b)
idle b (to_answer t c a) = (answered t c a (done tt), b)
idle b (to_collect p t out) = (collected p t out (done 0) out, b)

pub idles : DoesNothing idle
unfolding idle
idles b (to_make m max) = refl
idles b (to_place p n) = refl
idles b to_take_up = refl
idles b (to_answer t c a) = refl
idles b (to_collect p t out) = refl

idle_calls : Answer → List Call
idle_calls a = to_answer 1 1 a ∷ to_take_up ∷ to_place 1 1 ∷ []

idle_kept : (a : Answer) → never_anew (idle_calls a) ≡ true
unfolding idle_calls never_anew
idle_kept a = refl

idle_run : Answer → Run
idle_run a = record { max = 1; low = omega arith; high = omega arith; calls = idle_calls a; kept = idle_kept a }

idle_stands : (a : Answer) → Request (history_by (λ max. []) idle (idle_run a)) 1 1 (a ∷ [])
unfolding history_of reached idle idle_calls idle_run accepted numbered gather collection
idle_stands a =
    record {
      number = 0;
      later = answered 1 1 a (done tt) ∷ took_up (done (0, 1, 1)) ∷ [];
      earlier = [];
      was_placed = refl;
      so_far = refl;
      last = a;
      newer = [];
      older = took_up (done (0, 1, 1)) ∷ [];
      last_answered = refl;
      not_collected = refl;
    }

pub idle_accepts : SaysAccepted (λ max. []) idle 1 1
unfolding idle_run
idle_accepts =
    record {
      these = processed ∷ [];
      those = failed ∷ [];
      run = idle_run processed;
      other = idle_run failed;
      one_max = refl;
      so = idle_stands processed;
      or_so = idle_stands failed;
      they_differ = differ;
    }

-- ---- one that answers as it should, and does nothing

pub answers_only : Step
answers_only b c = ((step_bytes b c).0, b)

pub leaves_all : DoesNothing answers_only
unfolding answers_only
leaves_all b c = refl

pub only_answers : PlacesByRows answers_only
unfolding answers_only step_bytes
only_answers b p n = (placing b p n, (place_exactly b p n).0, refl)
