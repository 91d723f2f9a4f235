-- The calls of a table, with their answers, and what can be read off them. Lists of events have the newest first.
use Rattle.std.specs.Prelude.{ℕ, cond, List, [], ◌∷◌, ◌++◌, eqb, length, drop}
use Rattle.counts.specs.Result.{Result, refused, done}
use Rattle.sessions.specs.declared.Answer.{Answer}

-- What a making is lent: the memory in which this table stands, or other memory, of any size.
pub data Lent : Type 0 where
  itself : Lent
  other : List ℕ → Lent

-- Any public call of the table, with any arguments.
pub data Call : Type 0 where
  to_make : Lent → (max : ℕ) → Call
  to_place : (program count : ℕ) → Call
  to_take_up : Call
  to_answer : (ticket command : ℕ) → Answer → Call
  to_collect : (program ticket : ℕ) (output : List ℕ) → Call

-- A call with its answer. A collection has its lent output at entry, the length that it returns, and the output at exit.
pub data Event : Type 0 where
  made : Lent → (max : ℕ) → Result (Unit {0}) → Event
  placed : (program count : ℕ) → Result (ℕ × ℕ) → Event
  took_up : Result (ℕ × ℕ × ℕ) → Event
  answered : (ticket command : ℕ) → Answer → Result (Unit {0}) → Event
  collected : (program ticket : ℕ) (output : List ℕ) → Result ℕ → (exit : List ℕ) → Event

-- The output with a reply from its start on: "On success, places beyond those written stay."
abbrev pub written : List ℕ → List ℕ → List ℕ
written out reply = reply ++ drop (length reply) out

-- A collection that gives a reply or is refused: "A refusal .. changes no lent byte".
abbrev pub collected_as : ℕ → ℕ → List ℕ → Result (List ℕ) → Event
collected_as p t out (refused k i) = collected p t out (refused k i) out
collected_as p t out (done reply) = collected p t out (done (length reply)) (written out reply)

-- What f reads off each event, the newest first.
unfoldable pub gather : {A : Type 0} → (Event → List A) → List Event → List A
gather f [] = []
gather f (e ∷ h) = f e ++ gather f h

-- The placings that gave ticket t: number, program, count.
unfoldable pub placing : ℕ → Event → List (ℕ × ℕ × ℕ)
placing t (made m max r) = []
placing t (placed p n (done r)) = cond (eqb r.1 t) ((r.0, p, n) ∷ []) []
placing t (placed p n (refused k i)) = []
placing t (took_up r) = []
placing t (answered u c a r) = []
placing t (collected p u out r exit) = []

abbrev pub placings : ℕ → List Event → List (ℕ × ℕ × ℕ)
placings t = gather (placing t)

-- The programs that collected a reply under ticket t.
unfoldable pub collection : ℕ → Event → List ℕ
collection t (made m max r) = []
collection t (placed p n r) = []
collection t (took_up r) = []
collection t (answered u c a r) = []
collection t (collected p u out (done n) exit) = cond (eqb u t) (p ∷ []) []
collection t (collected p u out (refused k i) exit) = []

abbrev pub collections : ℕ → List Event → List ℕ
collections t = gather (collection t)

-- The answers accepted under ticket t, each with its command, in the order of acceptance.
unfoldable pub accepted : ℕ → List Event → List (ℕ × Answer)
accepted t [] = []
accepted t (made m max r ∷ h) = accepted t h
accepted t (placed p n r ∷ h) = accepted t h
accepted t (took_up r ∷ h) = accepted t h
accepted t (answered u c a (done r) ∷ h) = cond (eqb u t) (accepted t h ++ ((c, a) ∷ [])) (accepted t h)
accepted t (answered u c a (refused k i) ∷ h) = accepted t h
accepted t (collected p u out r exit ∷ h) = accepted t h
