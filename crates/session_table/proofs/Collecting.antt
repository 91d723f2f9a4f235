-- Collecting: the ways through its tests, and what it leaves.
use Prim.Native.Nat.{ℕ, ◌+◌, ◌≤◌, ◌<◌}
use mathlib.Core.Path.{◌≡◌, refl, ◌∙◌, ap, sym}
use mathlib.Core.Bool.{true, false}
use mathlib.Core.List.{List}
use native.Mathlib.Omega.{arith}
use lib.Dec.{leb}
use lib.ListN.{length}
use borrow.Author.Tests.{le-leb, lt-leb, leb-true}
use Rattle.counts.proofs.Results.{refused_not_done}
use Rattle.counts.specs.Limits.{commands, programs}
use Rattle.counts.specs.Refusals.{not_the_one, out_of_range, too_little_room, unsound}
use Rattle.counts.specs.Result.{refused, done}
use Rattle.counts.specs.declared.Refusal.{Refusal}
use Rattle.field.specs.Part.{put, Wrote}
use Rattle.sessions.proofs.Laws.{must_find, in_range_lem, is_ready_lem}
use Rattle.sessions.proofs.Loops.{find_at, all_real_lem}
use Rattle.sessions.specs.Find.{none, at, or_none, all}
use Rattle.sessions.specs.Table.{within, is_ready, reply, collect, collect_from}
use Rattle.slot.proofs.Told.{told_answers}
use Rattle.slot.specs.Fields.{head_of, entry_of, slot_of}
use Rattle.slot.specs.declared.Head.{Head}
use Rattle.table_layout.specs.Layout.{number, max_at}
use Rattle.table_reply.specs.Reply.{reply_of}
use Rattle.table_search.specs.Search.{ready_found}
use Rattle.table_search.proofs.Sounds.{Stands, stands}
use Rattle.sessions.specs.Sound.{in_range_and_real, all_real}
use Rattle.table_sound.specs.Bytes.{abs, sound_bytes}
use Rattle.session_table.specs.Calls.{only, verdict, collecting, ready_in, collected_at, collected_bytes, collected_out}
use Rattle.session_table.specs.Collect.{Collects}
use Rattle.session_table.specs.Paper.{paper_collected}
use Rattle.std.specs.declared.result.Result.{Result as Returned}
use Rattle.std.specs.declared.result.Result.TheVariants.{Ok}
use Rattle.session_table.proofs.Verdicts.{passed, passed_both, is_refused, keeps_bytes}

module _ (b : List ℕ) (p t room : ℕ) where
  pub collect_13 : sound_bytes b ≡ false → verdict unsound ≡ only (collecting b p t room)
  unfolding collecting
  collect_13 e = rw e

  pub collect_11 : sound_bytes b ≡ true → within 1 p programs ≡ false → verdict out_of_range ≡ only (collecting b p t room)
  unfolding collecting collect
  collect_11 e q = rw (e, q)

  module _ (sound : sound_bytes b ≡ true) (range : within 1 p programs ≡ true) where
    pub collect_10 : ready_found b p t ≡ none → verdict not_the_one ≡ only (collecting b p t room)
    unfolding collecting collect collect_from
    collect_10 e = rw (sound, range, e)

    module _ (s : ℕ) (found : ready_found b p t ≡ at s) where
      pub collect_8 : room < length (reply (slot_of b s)) → verdict too_little_room ≡ only (collecting b p t room)
      unfolding collecting collect collect_from
      collect_8 k = rw (sound, range, found, lt-leb (length (reply (slot_of b s))) room k)

      collect_is : length (reply (slot_of b s)) ≤ room → done (reply (slot_of b s)) ≡ collecting b p t room
      unfolding collecting collect collect_from
      collect_is k = rw (sound, range, found, le-leb (length (reply (slot_of b s))) room k)

  -- the refusal that was found, and no byte changed
  module _ (no : ℕ) (said : verdict no ≡ only (collecting b p t room)) where
    pub collect_refuses : (out : List ℕ) (f : Returned ℕ Refusal) → room ≡ length out → paper_collected f ≡ refused no 0 → (no ≡ 0 → ⊥)
        → Collects b p t out f b out
    unfolding collected_bytes collected_out
    collect_refuses out f q r d =
        let e = is_refused (collecting b p t room) no said d in
        record {
          answer = rw (← q, e, r);
          table = rw (← q) (keeps_bytes (collecting b p t room) no said b _ d);
          output = rw (← q) (keeps_bytes (collecting b p t room) no said out _ d);
        }

  -- what is known where there is no refusal
  pub record Collectable : Type 0 where
    pub sound : sound_bytes b ≡ true
    pub range : within 1 p programs ≡ true
    pub number_ready : ℕ
    pub found : ready_found b p t ≡ at number_ready
    pub below : number_ready < number b max_at
    pub ready : is_ready p t (slot_of b number_ready) ≡ true
    pub room_enough : length (reply (slot_of b number_ready)) ≤ room

  pub collectable_at : sound_bytes b ≡ true → within 1 p programs ≡ true → (s : ℕ) → ready_found b p t ≡ at s → length (reply (slot_of b s)) ≤ room
      → Collectable
  collectable_at sound range s e fits =
      let f = find_at (λ i. is_ready p t (slot_of b i)) (number b max_at) e in
      record { sound = sound; range = range; number_ready = s; found = e; below = f.0; ready = f.1; room_enough = fits }

  pub collectable : only (collecting b p t room) ≡ done tt → Collectable
  unfolding collecting collect collect_from
  collectable ok =
      let q = passed (sound_bytes b) _ unsound 0 ok in
      let r = passed_both (within 1 p programs) (collect_from (abs b) room (ready_found b p t)) out_of_range 0 (abs b) q.1 in
      let f = must_find (number b max_at) (λ s. is_ready p t (slot_of b s)) (λ f. only (collect_from (abs b) room f).0 ≡ done tt) refused_not_done r.1 in
      record {
        sound = q.0;
        range = r.0;
        number_ready = f.number;
        found = f.found;
        below = f.below;
        ready = f.passes;
        room_enough = leb-true _ _ (passed_both (leb (length (reply (slot_of b f.number))) room) _ too_little_room 0 (abs b) f.so).0;
      }

  module _ (w : Collectable) (s : ℕ) (found : s ≡ ready_in b p t) where
    is_number : s ≡ w.number_ready
    is_number = found ∙ ap (λ f. or_none f (number b max_at)) w.found

    pub collect_room : length (reply (slot_of b s)) ≤ room
    collect_room = rw is_number w.room_enough

    pub collect_done : done (reply (slot_of b s)) ≡ collecting b p t room
    collect_done = collect_is w.sound w.range s (w.found ∙ ap at (sym is_number)) collect_room

    pub collect_leaves : collected_at b s ≡ collected_bytes b p t room
    unfolding collected_bytes
    collect_leaves = rw (← collect_done) (ap (collected_at b) found)

-- the session that is collected, on its bytes
module _ (b : List ℕ) (p t : ℕ) (sound : sound_bytes b ≡ true) (range : within 1 p programs ≡ true) (s : ℕ) (found : ready_found b p t ≡ at s) where
  facts : ((slot_of b s).program ≡ p) × ((slot_of b s).ticket ≡ t) × (length (slot_of b s).answers ≡ (slot_of b s).count)
  facts = is_ready_lem p t (slot_of b s) (find_at (λ i. is_ready p t (slot_of b i)) (number b max_at) found).1

  pub ready_stands : Stands b sound s
  ready_stands = stands b sound (λ x. x.program) refl s (omega (arith, facts.0, (in_range_lem 1 p programs range).0))

  module _ (h : Head) (q : h ≡ head_of b s) where
    all_answered : h.count ≡ (head_of b s).answered
    all_answered =
        let e = ready_stands.held in
        omega (arith, ap (λ x. x.count) q, ap (λ x. x.count) e, ap (λ x. length x.answers) e, told_answers (head_of b s) (entry_of b s), facts.2)

    pub ready_few : h.count ≤ commands
    ready_few = omega (arith, ap (λ x. x.count) q, ap (λ x. x.count) ready_stands.held, ready_stands.session.count_high)

    pub ready_reply : reply_of b s h.count ≡ reply (slot_of b s)
    unfolding reply_of
    ready_reply = rw (all_answered, ready_stands.held)

    pub ready_real : all h.count (λ i. in_range_and_real (entry_of b s (i + 1))) ≡ true
    ready_real =
        rw all_answered
        (sym (all_real_lem (head_of b s).answered (λ i. entry_of b s (i + 1))) ∙ sym (ap (λ x. all_real x.answers) ready_stands.held)
        ∙ ready_stands.session.answers_real)

-- what was written, and the number open again, are what collecting leaves
pub collects_is : (b : List ℕ) (p t : ℕ) (out : List ℕ) (w : Collectable b p t (length out)) (s : ℕ) → s ≡ ready_in b p t → (bs f e : List ℕ) {n : ℕ}
    → bs ≡ reply (slot_of b s) → Wrote out 0 bs f n → e ≡ collected_at b s → Collects b p t out (Ok n) e f
unfolding collected_out
collects_is b p t out w s found bs f e q v r =
    let d = collect_done b p t (length out) w s found in
    record {
      answer = rw (← d) (ap done (omega (arith, v.next, ap length q)));
      table = r ∙ collect_leaves b p t (length out) w s found;
      output = rw (← d) (v.bytes ∙ ap (put out 0) q);
    }

-- what a call that collects says and leaves: the reply of that program and ticket, or the refusal and no byte changed
module _ {b : List ℕ} {p t : ℕ} {out : List ℕ} {r : Returned ℕ Refusal} {b' out' : List ℕ} (c : Collects b p t out r b' out') where
  pub collected_is_given : (bs : List ℕ) → collecting b p t (length out) ≡ done bs
      → (paper_collected r ≡ done (length bs)) × (b' ≡ collected_at b (ready_in b p t)) × (out' ≡ put out 0 bs)
  unfolding collected_bytes collected_out
  collected_is_given bs e = (rw e at c.answer, rw e at c.table, rw e at c.output)

  pub refused_collect_changes_nothing : (k i : ℕ) → collecting b p t (length out) ≡ refused k i → (paper_collected r ≡ refused k i) × (b' ≡ b) × (out' ≡ out)
  unfolding collected_bytes collected_out
  refused_collect_changes_nothing k i e = (rw e at c.answer, rw e at c.table, rw e at c.output)
