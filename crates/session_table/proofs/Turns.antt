-- Taking up: the ways through its tests, and what it leaves.
use Prim.Native.Nat.{ℕ, ◌+◌, ◌-◌}
use mathlib.Core.Path.{◌≡◌, refl, ◌∙◌, ap, sym, subst}
use mathlib.Core.Bool.{true, false}
use mathlib.Core.List.{List}
use borrow.Author.Tests.{eq-eqb, ne_eqb}
use Rattle.counts.proofs.Results.{refused_not_done}
use Rattle.counts.specs.Refusals.{nothing_unanswered, unsound}
use Rattle.counts.specs.Result.{refused, done}
use Rattle.counts.specs.declared.Refusal.{Refusal}
use Rattle.sessions.proofs.Loops.{find_at}
use Rattle.sessions.specs.Find.{Found, none, at, or_none}
use Rattle.sessions.specs.Table.{is_waiting, lowest, turn, given_from, take_next, take_hand, take_up}
use Rattle.slot.proofs.Told.{its_ticket, asked}
use Rattle.slot.specs.Fields.{head_of, slot_of, Tells}
use Rattle.slot.specs.declared.Head.{Head}
use Rattle.table_layout.specs.Layout.{number, max_at, mark_at, hand_at, put_number}
use Rattle.table_search.proofs.Sounds.{Waits, hand_waits}
use Rattle.table_sound.proofs.Slots.{hand_empty, hand_full}
use Rattle.table_sound.specs.Bytes.{hand_of, abs, sound_bytes}
use Rattle.session_table.specs.Calls.{only, verdict, taking_up, taken_bytes}
use Rattle.session_table.specs.Paper.{paper_taken_up}
use Rattle.counts.specs.declared.CommandNumber.{CommandNumber}
use Rattle.counts.specs.declared.SessionNumber.{SessionNumber}
use Rattle.counts.specs.declared.Ticket.{Ticket}
use Rattle.std.specs.declared.result.Result.{Result as Returned}
pub use Rattle.table_search.specs.Search.{next_in}
use Rattle.table_search.specs.Search.{turned, waiting_in}
use Rattle.session_table.proofs.Searches.{none≢at}
use Rattle.session_table.proofs.Verdicts.{passed, is_done, is_refused, keeps_bytes}

-- what a session gives
pub given_is : (b : List ℕ) (s : ℕ) (h : Head) {e : sound_bytes b ≡ true} → Waits b e s → h ≡ head_of b s → (low : ℕ) → Tells h lowest low
    → done (s, h.ticket.0, low) ≡ given_from (abs b) s
given_is b s h w q low said =
    let l = w.stands_there.below in
    let t = asked b s h q l (λ x. x.ticket) (λ answer. its_ticket h answer (ap (λ x. x.taken) q ∙ w.stands_there.taken)) refl in
    let c = asked b s h q l lowest said refl in
    λ k. done (s, sym t k, sym c k)

-- what is left where nothing was in hand and a session has been given
pub given_leaves : (b : List ℕ) (s : ℕ) → given_from (abs b) s ≡ taking_up b → number b hand_at ≡ 0
    → put_number (put_number b mark_at s) hand_at (s + 1) ≡ taken_bytes b
unfolding taken_bytes
given_leaves b s q e = rw (← q, eq-eqb (number b hand_at) 0 e)

module _ (b : List ℕ) where
  pub take_up_13 : sound_bytes b ≡ false → verdict unsound ≡ only (taking_up b)
  unfolding taking_up
  take_up_13 e = rw e

  module _ (sound : sound_bytes b ≡ true) where
    take_again : (number b hand_at ≡ 0 → ⊥) → given_from (abs b) (number b hand_at - 1) ≡ taking_up b
    unfolding taking_up take_up take_hand
    take_again n = rw (sound, hand_full (number b hand_at) n)

    pub take_up_again : (number b hand_at ≡ 0 → ⊥) → verdict 0 ≡ only (taking_up b)
    take_up_again n = rw (← (take_again n))

    module _ (e : number b hand_at ≡ 0) where
      pub take_up_14 : waiting_in b ≡ none → verdict nothing_unanswered ≡ only (taking_up b)
      unfolding taking_up take_up take_hand take_next
      take_up_14 q = go (next_in b) refl q
        where
          go : (f : Found) → next_in b ≡ f → turned (abs b) f ≡ none → verdict nothing_unanswered ≡ only (taking_up b)
          go none p d = rw (sound, hand_empty (number b hand_at) e, p)
          go (at i) p d = absurd (none≢at (sym d))

      take_next_lem : (i : ℕ) → next_in b ≡ at i → given_from (abs b) (turn (abs b) i) ≡ taking_up b
      unfolding taking_up take_up take_hand take_next
      take_next_lem i q = rw (sound, hand_empty (number b hand_at) e, q)

      -- the session that the search found
      pub take_up_0 : (s : ℕ) → waiting_in b ≡ at s → (only (taking_up b) ≡ done tt) × (is_waiting (slot_of b s) ≡ true) × (given_from (abs b) s ≡ taking_up b)
      take_up_0 s q = go (next_in b) refl q
        where
          go : (f : Found) → next_in b ≡ f → turned (abs b) f ≡ at s
              → (only (taking_up b) ≡ done tt) × (is_waiting (slot_of b s) ≡ true) × (given_from (abs b) s ≡ taking_up b)
          go none p d = absurd (none≢at d)
          go (at i) p d =
              let t : turn (abs b) i ≡ s = cc in
              let g = take_next_lem i p in
              (rw (← g), rw (← t) (find_at (λ k. is_waiting (slot_of b (turn (abs b) k))) (number b max_at) p).1, rw (← t) g)

  -- the two halves together: no refusal, or the one that was found and no byte changed
  module _ (no : ℕ) (said : verdict no ≡ only (taking_up b)) where
    pub take_up_passes : no ≡ 0 → only (taking_up b) ≡ done tt
    take_up_passes = is_done (taking_up b) no said

    pub take_up_refuses : (r : Returned (SessionNumber × Ticket × CommandNumber) Refusal) → paper_taken_up r ≡ refused no 0 → (no ≡ 0 → ⊥)
        → (paper_taken_up r ≡ taking_up b) × (b ≡ taken_bytes b)
    unfolding taken_bytes
    take_up_refuses r e d = (e ∙ sym (is_refused (taking_up b) no said d), keeps_bytes (taking_up b) no said b _ d)

  module _ (ok : only (taking_up b) ≡ done tt) where
    pub take_up_sound : sound_bytes b ≡ true
    unfolding taking_up
    take_up_sound = (passed (sound_bytes b) _ unsound 0 ok).0

    -- given again
    module _ (h : ℕ) (q : h ≡ number b hand_at) (n : h ≡ 0 → ⊥) where
      pub again_waits : is_waiting (slot_of b (h - 1)) ≡ true
      again_waits = hand_waits b take_up_sound (h - 1) (ap hand_of (sym q) ∙ hand_full h n)

      pub again_done : given_from (abs b) (h - 1) ≡ taking_up b
      again_done = ap (λ k. given_from (abs b) (k - 1)) q ∙ take_again take_up_sound (λ z. n (q ∙ z))

      pub again_leaves : b ≡ taken_bytes b
      unfolding taken_bytes
      again_leaves = rw (← again_done, ne_eqb (number b hand_at) 0 (λ z. n (q ∙ z)))

    -- taken up next
    module _ (e : number b hand_at ≡ 0) (i : ℕ) (found : i ≡ or_none (next_in b) (number b max_at)) where
      pub next_found : next_in b ≡ at i
      unfolding taking_up take_up take_hand take_next
      next_found =
          go (next_in b) refl (subst (λ (f : Found). only (take_hand (abs b) f).0 ≡ done tt) (hand_empty (number b hand_at) e)
          (passed (sound_bytes b) _ unsound 0 ok).1)
        where
          go : (f : Found) → next_in b ≡ f → only (take_next (abs b) f).0 ≡ done tt → next_in b ≡ at i
          go none q d = absurd (refused_not_done d)
          go (at k) q d = q ∙ ap at (sym (found ∙ ap (λ f. or_none f (number b max_at)) q))

      module _ (s : ℕ) (turned-to : s ≡ turn (abs b) i) where
        pub next_waits : is_waiting (slot_of b s) ≡ true
        next_waits = rw turned-to (find_at (λ k. is_waiting (slot_of b (turn (abs b) k))) (number b max_at) next_found).1

        next_done : given_from (abs b) s ≡ taking_up b
        next_done = rw turned-to (take_next_lem take_up_sound e i next_found)

        pub next_leaves : put_number (put_number b mark_at s) hand_at (s + 1) ≡ taken_bytes b
        unfolding taken_bytes
        next_leaves = rw (← next_done, eq-eqb (number b hand_at) 0 e)
