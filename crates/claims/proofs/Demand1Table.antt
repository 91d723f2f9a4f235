-- Demand 1 for the calls of the session table: each answer is given exactly under its row's condition, in document 01's order. What a refused call leaves, and
-- that there is one result, is in `Demand1TableResults`.
use Prim.Native.Nat.{ℕ}
use mathlib.Core.Path.{◌≡◌, refl}
use mathlib.Core.Bool.{Bool, true, false, cond}
use mathlib.Core.List.{List}
use lib.Dec.{eqb, leb, ltb}
use lib.ListN.{length}
use borrow.Author.Tests.{eq-eqb, ne_eqb, eqb-true, eqb-false, lt-ltb, le-ltb, ltb-true, ltb-false, le-leb, lt-leb, leb-true, leb-false}
use Rattle.counts.specs.Limits.{programs, sessions, ticket_most}
use Rattle.counts.specs.Refusals.{out_of_range, unsound}
use Rattle.counts.specs.Result.{Result, refused, done}
use Rattle.sessions.specs.Find.{Found, none, at}
use Rattle.record.specs.Record.{is_outcome}
use Rattle.sessions.specs.Records.{is_dated}
use Rattle.sessions.specs.Table.{within, names, reply, place_in, place, take_next, take_hand, take_up, answer_hand, answer, collect_from, collect}
use Rattle.sessions.specs.declared.Answer.{Answer}
use Rattle.table_layout.specs.Layout.{table_bytes}
use Rattle.table_sound.specs.Bytes.{abs, sound_bytes}
use Rattle.session_table.specs.Calls.{making, placing, taking_up, answering, collecting}
use Rattle.claims.specs.Exactly.{Exactly}
use Rattle.claims.specs.TableRows.{MakeRow, eleven, thirteen, made, may_place, open_number, PlaceRow, nine, twelve, placed, next_in_turn, TakeUpRow, again, fourteen, taken_up, AnswerRow, ten_empty, ten_other, five, seven, answered, closed, CollectRow, ten, eight, collected}

pub make_exactly : (b : List ℕ) (max : ℕ) → Exactly (making b max) (MakeRow b max)
unfolding making
make_exactly b max = (go (within 1 max sessions) (eqb (length b) table_bytes) refl refl, is)
  where
    go : (t u : Bool) → within 1 max sessions ≡ t → eqb (length b) table_bytes ≡ u
        → MakeRow b max (cond t (cond u (done tt) (refused unsound 0)) (refused out_of_range 0))
    go true true p q = made p (eqb-true (length b) table_bytes q)
    go true false p q = thirteen p (eqb-false (length b) table_bytes q)
    go false u p q = eleven p

    is : (v : Result (Unit {0})) → MakeRow b max v → making b max ≡ v
    is v (eleven p) = rw p
    is v (thirteen p q) = rw (p, ne_eqb _ _ q)
    is v (made p q) = rw (p, eq-eqb _ _ q)

pub place_exactly : (b : List ℕ) (p n : ℕ) → Exactly (placing b p n) (PlaceRow b (abs b) p n)
unfolding placing place place_in
place_exactly b p n = (go (sound_bytes b) (may_place p n) (open_number (abs b)) (ltb (abs b).last ticket_most) refl refl refl refl, is)
  where
    go : (t u : Bool) (f : Found) (w : Bool) → sound_bytes b ≡ t → may_place p n ≡ u → open_number (abs b) ≡ f → ltb (abs b).last ticket_most ≡ w
        → PlaceRow b (abs b) p n (cond t (cond u (place_in (abs b) p n f) (refused out_of_range 0, abs b)).0 (refused unsound 0))
    go false u f w a c d e = thirteen a
    go true false f w a c d e = eleven a c
    go true true none w a c d e = nine a c d
    go true true (at s) true a c d e = rw e (placed s a c d (ltb-true _ _ e))
    go true true (at s) false a c d e = rw e (twelve s a c d (ltb-false _ _ e))

    is : (v : Result (ℕ × ℕ)) → PlaceRow b (abs b) p n v → placing b p n ≡ v
    is v (thirteen a) = rw a
    is v (eleven a c) = rw (a, c)
    is v (nine a c d) = rw (a, c, d)
    is v (twelve s a c d e) = rw (a, c, d, le-ltb _ _ e)
    is v (placed s a c d e) = rw (a, c, d, lt-ltb _ _ e)

pub take_up_exactly : (b : List ℕ) → Exactly (taking_up b) (TakeUpRow b (abs b))
unfolding taking_up take_up take_hand take_next
take_up_exactly b = (go (sound_bytes b) (abs b).hand (next_in_turn (abs b)) refl refl refl, is)
  where
    go : (t : Bool) (h f : Found) → sound_bytes b ≡ t → (abs b).hand ≡ h → next_in_turn (abs b) ≡ f
        → TakeUpRow b (abs b) (cond t (take_hand (abs b) h).0 (refused unsound 0))
    go false h f a c d = thirteen a
    go true (at s) f a c d = again s a c
    go true none none a c d = rw d (fourteen a c d)
    go true none (at i) a c d = rw d (taken_up i a c d)

    is : (v : Result (ℕ × ℕ × ℕ)) → TakeUpRow b (abs b) v → taking_up b ≡ v
    is v (thirteen a) = rw a
    is v (again s a c) = rw (a, c)
    is v (fourteen a c d) = rw (a, c, d)
    is v (taken_up i a c d) = rw (a, c, d)

pub answer_exactly : (b : List ℕ) (t c : ℕ) (x : Answer) → Exactly (answering b t c x) (AnswerRow b (abs b) t c x)
unfolding answering answer answer_hand
answer_exactly b t c x = (go (sound_bytes b) (abs b).hand refl refl, is)
  where
    in_hand : (s : ℕ) (n d o : Bool) → sound_bytes b ≡ true → (abs b).hand ≡ at s → names ((abs b).slot s) t c ≡ n → is_dated x ≡ d → is_outcome x.outcome ≡ o
        → AnswerRow b (abs b) t c x (answer_hand (abs b) t c x (at s)).0
    in_hand s false d o a h e f g = rw e (ten_other s a h e)
    in_hand s true false o a h e f g = rw (e, f) (five s a h e f)
    in_hand s true true false a h e f g = rw (e, f, g) (seven s a h e f g)
    in_hand s true true true a h e f g = rw (e, f, g) (answered s a h e f g)

    go : (u : Bool) (h : Found) → sound_bytes b ≡ u → (abs b).hand ≡ h → AnswerRow b (abs b) t c x (cond u (answer_hand (abs b) t c x h).0 (refused unsound 0))
    go false h a e = thirteen a
    go true none a e = ten_empty a e
    go true (at s) a e = in_hand s (names ((abs b).slot s) t c) (is_dated x) (is_outcome x.outcome) a e refl refl refl

    is : (v : Result (Unit {0})) → AnswerRow b (abs b) t c x v → answering b t c x ≡ v
    is v (thirteen a) = rw a
    is v (ten_empty a h) = rw (a, h)
    is v (ten_other s a h e) = rw (a, h, e)
    is v (five s a h e f) = rw (a, h, e, f)
    is v (seven s a h e f g) = rw (a, h, e, f, g)
    is v (answered s a h e f g) = rw (a, h, e, f, g)

pub collect_exactly : (b : List ℕ) (p t room : ℕ) → Exactly (collecting b p t room) (CollectRow b (abs b) p t room)
unfolding collecting collect collect_from
collect_exactly b p t room = (go (sound_bytes b) (within 1 p programs) (closed (abs b) p t) refl refl refl, is)
  where
    fits : (s : ℕ) (u : Bool) → sound_bytes b ≡ true → within 1 p programs ≡ true → closed (abs b) p t ≡ at s → leb (length (reply ((abs b).slot s))) room ≡ u
        → CollectRow b (abs b) p t room (collect_from (abs b) room (at s)).0
    fits s true a c d e = rw e (collected s a c d (leb-true _ _ e))
    fits s false a c d e = rw e (eight s a c d (leb-false _ _ e))

    go : (u w : Bool) (f : Found) → sound_bytes b ≡ u → within 1 p programs ≡ w → closed (abs b) p t ≡ f
        → CollectRow b (abs b) p t room (cond u (cond w (collect_from (abs b) room f) (refused out_of_range 0, abs b)).0 (refused unsound 0))
    go false w f a c d = thirteen a
    go true false f a c d = eleven a c
    go true true none a c d = ten a c d
    go true true (at s) a c d = fits s (leb (length (reply ((abs b).slot s))) room) a c d refl

    is : (v : Result (List ℕ)) → CollectRow b (abs b) p t room v → collecting b p t room ≡ v
    is v (thirteen a) = rw a
    is v (eleven a c) = rw (a, c)
    is v (ten a c d) = rw (a, c, d)
    is v (eight s a c d e) = rw (a, c, d, lt-leb _ _ e)
    is v (collected s a c d e) = rw (a, c, d, le-leb _ _ e)
