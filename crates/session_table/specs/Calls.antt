-- What each call of the table answers on lent bytes, and the bytes at its exit.
use Rattle.std.specs.Prelude.{ℕ, ◌+◌, ◌-◌, ◌*◌, ◌≤◌, ◌<◌, ◌≡◌, Bool, true, false, cond, List, ◌⊎◌, eqb, length, replicate}
use Rattle.counts.specs.Limits.{sessions}
use Rattle.counts.specs.Refusals.{out_of_range, unsound}
use Rattle.counts.specs.Result.{Result, refused, done}
use Rattle.field.specs.Part.{put}
use Rattle.sessions.specs.Table.{State, within, place, take_up, names, answer, is_ready, collect}
use Rattle.sessions.specs.Find.{Found, none, at, or_none, find}
use Rattle.counts.specs.declared.SessionNumber.{SessionNumber}
use Rattle.sessions.specs.declared.Answer.{Answer}
use Rattle.slot.specs.Fields.{is_taken_at, slot_of}
use Rattle.slot.specs.Stored.{new_head, put_head, with_entry, taken_out, put_slot}
use Rattle.table_layout.specs.Layout.{table_bytes, max_at, number, put_number, last_at, mark_at, hand_at, fresh_table, put_table}
use Rattle.table_sound.specs.Bytes.{hand_of, abs, sound_bytes}

-- a byte i outside the k numbers of four bytes that stand from the number `from` on
abbrev pub Beyond : ℕ → ℕ → ℕ → Type 0
Beyond i from k = (i < 4 * from) ⊎ (4 * (from + k) ≤ i)

-- the session whose command is in hand
abbrev pub in_hand : List ℕ → ℕ
in_hand b = number b hand_at - 1

-- ---- Need not be believed: the page of claims ties each answer to its rows (`makes`, `places` and the others) and what is left to the table without
-- bytes (`makes_fresh`, `place_leaves` and the others).

-- Refusal 13 goes before all others: "lent session table unsound".
abbrev pub if_sound : {A : Type 0} → List ℕ → Result A → Result A
if_sound b r = cond (sound_bytes b) r (refused unsound 0)

-- "A refusal .. changes no lent byte": b, or what the call leaves where it answers.
abbrev pub after : {A : Type 0} → Result A → List ℕ → (A → List ℕ) → List ℕ
after (refused number place) b f = b
after (done x) b f = f x

-- Whether a result is a refusal, and which: what the first half of a call finds. Its number is 0 for none, and none has a place. These two
-- bind only the halves of a call.
abbrev pub only : {A : Type 0} → Result A → Result (Unit {0})
only (refused number place) = refused number place
only (done x) = done tt

abbrev pub verdict : ℕ → Result (Unit {0})
verdict number = cond (eqb number 0) (done tt) (refused number 0)

-- "making tests 11, then 13 if the lent memory has not a table's size"
unfoldable pub making : List ℕ → ℕ → Result (Unit {0})
making b max = cond (within 1 max sessions) (cond (eqb (length b) table_bytes) (done tt) (refused unsound 0)) (refused out_of_range 0)

-- "A fresh table has no session, last ticket 0, nothing in hand, and 0 comes first in the turn."
unfoldable pub fresh_bytes : ℕ → List ℕ
fresh_bytes max = put_table (replicate table_bytes 0) (fresh_table max)

unfoldable pub made_bytes : List ℕ → ℕ → List ℕ
made_bytes b max = after (making b max) b (λ r. fresh_bytes max)

-- "Place": the head of the number that it gives, and the last ticket.
unfoldable pub placing : List ℕ → ℕ → ℕ → Result (ℕ × ℕ)
placing b p n = if_sound b (place (abs b) p n).0

abbrev pub placed_at : List ℕ → ℕ → ℕ → ℕ × ℕ → List ℕ
placed_at b p n r = put_number (put_head b r.0 (new_head p n (record { 0 = r.1 }))) last_at r.1

unfoldable pub placed_bytes : List ℕ → ℕ → ℕ → List ℕ
placed_bytes b p n = after (placing b p n) b (placed_at b p n)

-- "Take up: if a command is in hand, that one is given again and nothing changes." Otherwise the mark and what is in hand.
unfoldable pub taking_up : List ℕ → Result (ℕ × ℕ × ℕ)
taking_up b = if_sound b (take_up (abs b)).0

abbrev pub taken_at : List ℕ → ℕ × ℕ × ℕ → List ℕ
taken_at b r = cond (eqb (number b hand_at) 0) (put_number (put_number b mark_at r.0) hand_at (r.0 + 1)) b

unfoldable pub taken_bytes : List ℕ → List ℕ
taken_bytes b = after (taking_up b) b (taken_at b)

-- whether ticket and command are those of the command in hand
abbrev pub names_hand : State → ℕ → ℕ → Found → Bool
names_hand σ t c none = false
names_hand σ t c (at s) = names (σ.slot s) t c

-- the session that is in hand, where ticket and command are those of its command
abbrev pub IsNamed : List ℕ → ℕ → ℕ → SessionNumber → Type 0
IsNamed b t c s = (hand_of (number b hand_at) ≡ at s.0) × (names (slot_of b s.0) t c ≡ true)

-- "Answering changes one slot's entry and the in-hand mark, nothing else."
unfoldable pub answering : List ℕ → ℕ → ℕ → Answer → Result (Unit {0})
answering b t c a = if_sound b (answer (abs b) t c a).0

abbrev pub answered_as : List ℕ → Answer → List ℕ
answered_as b a = put_number (put_slot b (in_hand b) (with_entry (taken_out b (in_hand b)) a)) hand_at 0

unfoldable pub answered_bytes : List ℕ → ℕ → ℕ → Answer → List ℕ
answered_bytes b t c a = after (answering b t c a) b (λ r. answered_as b a)

-- "Collect": its number is open again. What is written is the reply, from the start of the lent output on.
unfoldable pub collecting : List ℕ → ℕ → ℕ → ℕ → Result (List ℕ)
collecting b p t room = if_sound b (collect (abs b) p t room).0

abbrev pub ready_in : List ℕ → ℕ → ℕ → ℕ
ready_in b p t = or_none (find (number b max_at) (λ s. is_ready p t (slot_of b s))) (number b max_at)

abbrev pub collected_at : List ℕ → ℕ → List ℕ
collected_at b s = put_number b (is_taken_at s) 0

unfoldable pub collected_bytes : List ℕ → ℕ → ℕ → ℕ → List ℕ
collected_bytes b p t room = after (collecting b p t room) b (λ r. collected_at b (ready_in b p t))

unfoldable pub collected_out : List ℕ → ℕ → ℕ → List ℕ → List ℕ
collected_out b p t out = after (collecting b p t (length out)) out (λ r. put out 0 r)
