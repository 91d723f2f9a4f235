-- Placing: the ways through its tests, and what it leaves.
use Prim.Native.Nat.{ℕ, ◌+◌, ◌≤◌, ◌<◌}
use mathlib.Core.Path.{◌≡◌, ◌∙◌, ap, sym}
use mathlib.Core.Bool.{Bool, true, false, ◌&&◌}
use mathlib.Core.List.{List}
use native.Mathlib.Omega.{arith}
use lib.Dec.{ltb}
use borrow.Author.Tests.{lt-ltb, le-ltb, ltb-true}
use Rattle.counts.proofs.Results.{refused_not_done}
use Rattle.counts.specs.Limits.{commands, programs, sessions, ticket_most}
use Rattle.counts.specs.Refusals.{all_taken, out_of_range, no_ticket_left, unsound}
use Rattle.counts.specs.Result.{refused, done}
use Rattle.sessions.proofs.Laws.{must_find}
use Rattle.sessions.proofs.Loops.{find_at}
use Rattle.sessions.specs.Find.{none, at, or_none}
use Rattle.sessions.specs.Table.{within, is_open, place, place_in}
use Rattle.table_layout.specs.Layout.{number, put_number, max_at, last_at}
use Rattle.slot.specs.Fields.{slot_of}
use Rattle.slot.specs.Stored.{new_head, put_head}
use Rattle.slot.specs.declared.Head.{Head}
use Rattle.table_sound.specs.Bytes.{abs, sound_bytes}
use Rattle.session_table.specs.Calls.{only, verdict, placing, placed_at, placed_bytes}
use Rattle.table_search.proofs.Sounds.{sound_limited}
pub use Rattle.table_search.specs.Search.{open_in}
use Rattle.session_table.proofs.Verdicts.{passed, passed_both, is_refused, keeps_bytes}
use Rattle.counts.specs.declared.Refusal.{Refusal}
use Rattle.session_table.specs.Paper.{paper_placed}
use Rattle.counts.specs.declared.SessionNumber.{SessionNumber}
use Rattle.counts.specs.declared.Ticket.{Ticket}
use Rattle.std.specs.declared.result.Result.{Result as Returned}

pub place_below : (b : List ℕ) → sound_bytes b ≡ true → (s : ℕ) → open_in b ≡ at s → s < sessions
place_below b sound s e = omega (arith, (find_at (λ i. is_open (slot_of b i)) (number b max_at) e).0, (sound_limited b sound).limit)

module _ (b : List ℕ) (p n : ℕ) where
  abbrev ranges : Bool
  ranges = within 1 p programs && within 1 n commands

  pub place_13 : sound_bytes b ≡ false → verdict unsound ≡ only (placing b p n)
  unfolding placing
  place_13 e = rw e

  pub place_11 : sound_bytes b ≡ true → ranges ≡ false → verdict out_of_range ≡ only (placing b p n)
  unfolding placing place
  place_11 e q = rw (e, q)

  module _ (sound : sound_bytes b ≡ true) (range : ranges ≡ true) where
    pub place_9 : open_in b ≡ none → verdict all_taken ≡ only (placing b p n)
    unfolding placing place place_in
    place_9 e = rw (sound, range, e)

    pub place_12 : (s : ℕ) → open_in b ≡ at s → ticket_most ≤ number b last_at → verdict no_ticket_left ≡ only (placing b p n)
    unfolding placing place place_in
    place_12 s e k = rw (sound, range, e, le-ltb (number b last_at) ticket_most k)

    place_is : (s : ℕ) → open_in b ≡ at s → number b last_at < ticket_most → done (s, number b last_at + 1) ≡ placing b p n
    unfolding placing place place_in
    place_is s e k = rw (sound, range, e, lt-ltb (number b last_at) ticket_most k)

  -- the refusal that was found, and no byte changed
  module _ (no : ℕ) (said : verdict no ≡ only (placing b p n)) where
    pub place_refuses : (r : Returned (SessionNumber × Ticket) Refusal) → paper_placed r ≡ refused no 0 → (no ≡ 0 → ⊥)
        → (paper_placed r ≡ placing b p n) × (b ≡ placed_bytes b p n)
    unfolding placed_bytes
    place_refuses r e d = (e ∙ sym (is_refused (placing b p n) no said d), keeps_bytes (placing b p n) no said b _ d)

  -- what is known where there is no refusal
  pub record Placeable : Type 0 where
    pub sound : sound_bytes b ≡ true
    pub range : ranges ≡ true
    pub number_free : ℕ
    pub found : open_in b ≡ at number_free
    pub below : number_free < number b max_at
    pub room : number b last_at < ticket_most

  pub placeable_at : sound_bytes b ≡ true → ranges ≡ true → (s : ℕ) → open_in b ≡ at s → number b last_at < ticket_most → Placeable
  placeable_at sound range s e room =
      record { sound = sound; range = range; number_free = s; found = e; below = (find_at (λ i. is_open (slot_of b i)) (number b max_at) e).0; room = room }

  pub placeable : only (placing b p n) ≡ done tt → Placeable
  unfolding placing place place_in
  placeable ok =
      let q = passed (sound_bytes b) _ unsound 0 ok in
      let r = passed_both ranges (place_in (abs b) p n (open_in b)) out_of_range 0 (abs b) q.1 in
      let f = must_find (number b max_at) (λ s. is_open (slot_of b s)) (λ f. only (place_in (abs b) p n f).0 ≡ done tt) refused_not_done r.1 in
      record {
        sound = q.0;
        range = r.0;
        number_free = f.number;
        found = f.found;
        below = f.below;
        room = ltb-true (number b last_at) ticket_most (passed_both (ltb (number b last_at) ticket_most) _ no_ticket_left 0 (abs b) f.so).0;
      }

  module _ (w : Placeable) (s : ℕ) (found : s ≡ or_none (open_in b) (number b max_at)) where
    number_is : s ≡ w.number_free
    number_is = found ∙ ap (λ f. or_none f (number b max_at)) w.found

    pub place_done : done (s, number b last_at + 1) ≡ placing b p n
    place_done = place_is w.sound w.range s (w.found ∙ ap at (sym number_is)) w.room

    pub place_leaves : placed_at b p n (s, number b last_at + 1) ≡ placed_bytes b p n
    unfolding placed_bytes
    place_leaves = rw (← place_done)

  -- what code writes where the number s is open and a ticket is left
  module _ (sound : sound_bytes b ≡ true) (range : ranges ≡ true) (s : ℕ) (found : open_in b ≡ at s)
      (last : ℕ) (q : last ≡ number b last_at) (room : last < ticket_most) where
    its : Placeable
    its = placeable_at sound range s found (omega arith)

    pub place_gives : done (s, last + 1) ≡ placing b p n
    place_gives = ap (λ k. done (s, k + 1)) q ∙ place_is sound range s found (omega arith)

    pub place_writes : (h : Head) (d e : List ℕ) → h ≡ new_head p n (record { 0 = last + 1 }) → d ≡ put_head b s h → e ≡ put_number d last_at (last + 1)
        → e ≡ placed_bytes b p n
    unfolding its
    place_writes h d e r u v =
        v
        ∙ ap (λ x. put_number x last_at (last + 1)) (u ∙ ap (put_head b s) r)
        ∙ ap (λ k. placed_at b p n (s, k + 1)) q
        ∙ place_leaves its s (sym (ap (λ f. or_none f (number b max_at)) found))
