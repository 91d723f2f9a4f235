-- What a history owes to who collects. The claims of demand 3 are about these words.
use Rattle.std.specs.Prelude.{ℕ, ◌≤◌, ◌≡◌, ◌&&◌, cond, List, [], ◌∷◌, eqb, leb, length}
use Rattle.counts.specs.Limits.{programs}
use Rattle.counts.specs.Refusals.{too_little_room, not_the_one, out_of_range}
use Rattle.counts.specs.Result.{Result, refused, done}
use Rattle.sessions.specs.History.{Event, written, placings, accepted, collections}
use Rattle.sessions.specs.Table.{within, numbered, records}
use Rattle.sessions.specs.declared.Answer.{Answer}

-- A reply where there is room for it, and else 8.
abbrev pub if_room : List ℕ → ℕ → Result (List ℕ)
if_room reply room = cond (leb (length reply) room) (done reply) (refused too_little_room 0)

-- For a ticket whose placing was by p, with every command answered and nothing collected: its records in order, if there is room.
unfoldable pub owed_of : ℕ → ℕ → List (ℕ × ℕ × ℕ) → List (ℕ × Answer) → List ℕ → Result (List ℕ)
owed_of p room [] qs rs = refused not_the_one 0
owed_of p room ((number, program, count) ∷ ps) qs [] =
    cond (eqb program p && eqb (length qs) count) (if_room (records qs) room) (refused not_the_one 0)
owed_of p room (x ∷ ps) qs (r ∷ rs) = refused not_the_one 0

-- What program p, who shows ticket t and has that room, gets after the history h.
unfoldable pub owed : List Event → ℕ → ℕ → ℕ → Result (List ℕ)
owed h p t room = cond (within 1 p programs) (owed_of p room (placings t h) (accepted t h) (collections t h)) (refused out_of_range 0)

-- A collection that was lent out, returned n and left exit gave program p its reply under ticket t: exactly one placing gave t, it was
-- by p; each of its commands, 1 to the last, has exactly one accepted answer; nothing was collected under t; the n bytes from the
-- start of the output on are their records in order, and all beyond is as it was.
pub record Yours (p t : ℕ) (out : List ℕ) (n : ℕ) (exit : List ℕ) (h : List Event) : Type 0 where
  pub number : ℕ
  pub answers : List Answer
  pub one_placing : placings t h ≡ (number, p, length answers) ∷ []
  pub one_answer_each : accepted t h ≡ numbered 1 answers
  pub not_collected : collections t h ≡ []
  pub its_length : n ≡ length (records (numbered 1 answers))
  pub in_the_output : n ≤ length out
  pub its_records : exit ≡ written out (records (numbered 1 answers))
