-- What is read off a history taken apart at one of its events.
use Prim.Native.Nat.{ℕ}
use mathlib.Core.Path.{◌≡◌, refl, ◌∙◌, sym}
use mathlib.Core.Bool.{Bool, true, false, cond}
use mathlib.Core.List.{List, [], ◌∷◌, ◌++◌, append_assoc, append-nil}
use borrow.Author.Tests.{eq-eqb}
use lib.Dec.{eqb}
use Rattle.sessions.specs.History.{Event, made, placed, took_up, answered, collected, gather, accepted}
use Rattle.sessions.specs.declared.Answer.{Answer}
use Rattle.counts.specs.Result.{refused, done}

pub gather_append : {A : Type 0} (f : Event → List A) (l h : List Event) → gather f (l ++ h) ≡ gather f l ++ gather f h
unfolding gather
gather_append f [] h = refl
gather_append f (e ∷ l) h = rw (gather_append f l h, append_assoc)

more : (b : Bool) (x : ℕ × Answer) (k l : List (ℕ × Answer)) → cond b ((k ++ l) ++ (x ∷ [])) (k ++ l) ≡ k ++ cond b (l ++ (x ∷ [])) l
more true x k l = append_assoc k l (x ∷ [])
more false x k l = refl

pub accepted_append : (t : ℕ) (l h : List Event) → accepted t (l ++ h) ≡ accepted t h ++ accepted t l
unfolding accepted
accepted_append t [] h = sym (append-nil _)
accepted_append t (made m max r ∷ l) h = accepted_append t l h
accepted_append t (placed p n r ∷ l) h = accepted_append t l h
accepted_append t (took_up r ∷ l) h = accepted_append t l h
accepted_append t (answered u c a (done r) ∷ l) h = rw (accepted_append t l h) (more (eqb u t) (c, a) (accepted t h) (accepted t l))
accepted_append t (answered u c a (refused k i) ∷ l) h = accepted_append t l h
accepted_append t (collected p u out r exit ∷ l) h = accepted_append t l h

-- an answer stands after those accepted before it
pub accepted_at : (t c : ℕ) (a : Answer) (l h : List Event)
    → accepted t (l ++ (answered t c a (done tt) ∷ h)) ≡ accepted t h ++ ((c, a) ∷ accepted t l)
unfolding accepted
accepted_at t c a l h =
    accepted_append t l (answered t c a (done tt) ∷ h) ∙ rw (eq-eqb t t refl) (append_assoc (accepted t h) ((c, a) ∷ []) (accepted t l))
