-- What holds of every run, over any start and any step: what each call keeps, a history taken apart at one of its events, and two ways to
-- keep a table that answer alike.
use Prim.Native.Nat.{ℕ}
use mathlib.Core.Path.{◌≡◌, refl, ◌∙◌, sym, subst, ap₂}
use mathlib.Core.Bool.{true, false, not}
use mathlib.Core.List.{List, [], ◌∷◌, ◌++◌}
use borrow.Author.Tests.{not-true}
use Rattle.laws.proofs.Choose.{halves}
use Rattle.sessions.specs.History.{Call, to_place, to_take_up, to_answer, to_collect, Event}
use Rattle.sessions.specs.Runs.{StepOf, reached, history_of, makes_anew, never_anew, Refuses}
use Rattle.sessions.proofs.Laws.{nil≢mid, head_same, tail_same}

-- the last of calls that make nothing anew, and those before it
anew_parts : (c : Call) (cs : List Call) → never_anew (c ∷ cs) ≡ true → (makes_anew c ≡ false) × (never_anew cs ≡ true)
unfolding never_anew
anew_parts c cs q = let k = halves (not (makes_anew c)) (never_anew cs) q in (not-true (makes_anew c) k.0, k.1)

-- What holds of the start with a history of nothing, and is kept by each call that makes nothing anew.
module _ {S : Type 0} (step : StepOf S) (P : S → List Event → Type 0) where
  abbrev pub Keeps : Type 0
  Keeps = (s : S) (h : List Event) (c : Call) → makes_anew c ≡ false → P s h → P (step s c).1 ((step s c).0 ∷ h)

  -- it held before each event of a history: of that table, with what came earlier; and the event is what the call answered there
  pub record Before (e : Event) (earlier : List Event) : Type 0 where
    pub table : S
    pub call : Call
    pub held : P table earlier
    pub answered_so : (step table call).0 ≡ e

  module _ (start : S) (first : P start []) (keeps : Keeps) where
    pub always : (cs : List Call) → never_anew cs ≡ true → P (reached start step cs) (history_of start step cs)
    unfolding reached history_of
    always [] q = first
    always (c ∷ cs) q = let k = anew_parts c cs q in keeps _ _ c k.0 (always cs k.1)

    pub before : (cs : List Call) → never_anew cs ≡ true → (later earlier : List Event) (e : Event) → history_of start step cs ≡ later ++ (e ∷ earlier)
        → Before e earlier
    unfolding history_of
    before [] q later earlier e r = absurd (nil≢mid later earlier e r)
    before (c ∷ cs) q [] earlier e r =
        record { table = _; call = c; held = subst (P _) (tail_same r) (always cs (anew_parts c cs q).1); answered_so = head_same r }
    before (c ∷ cs) q (x ∷ later) earlier e r = before cs (anew_parts c cs q).1 later earlier e (tail_same r)

-- Two ways to keep a table, and which states of one stand for which of the other.
module _ {S T : Type 0} (R : S → T → Type 0) (stepS : StepOf S) (stepT : StepOf T) where
  pub record Alike (x : Event × S) (y : Event × T) : Type 0 where
    pub answers : x.0 ≡ y.0
    pub leaves : R x.1 y.1

  pub record SameRun (s : S) (t : T) (cs : List Call) : Type 0 where
    pub stands : R (reached s stepS cs) (reached t stepT cs)
    pub history : history_of s stepS cs ≡ history_of t stepT cs

  -- THE ONE WAY FROM A TABLE TO ANOTHER: where each call answers alike and leaves what stands for what the other leaves, so do all.
  pub same_run : ((s : S) (t : T) → R s t → (c : Call) → Alike (stepS s c) (stepT t c)) → {s : S} {t : T} → R s t → (cs : List Call) → SameRun s t cs
  unfolding reached history_of
  same_run alike r [] = record { stands = r; history = refl }
  same_run alike r (c ∷ cs) =
      let w = same_run alike r cs in
      let a = alike _ _ w.stands c in
      record { stands = a.leaves; history = ap₂ (λ (e : Event) (h : List Event). e ∷ h) a.answers w.history }

  -- a ticket that one refuses the other refuses
  pub refuses_alike : {s : S} {t : T} → ((c : Call) → (stepS s c).0 ≡ (stepT t c).0) → (k : ℕ) → Refuses stepT t k → Refuses stepS s k
  refuses_alike same k w =
      record {
        no_answer = λ c a. same (to_answer k c a) ∙ w.no_answer c a;
        no_collect = λ p out r. same (to_collect p k out) ∙ w.no_collect p out r;
        no_place = λ p n number q. w.no_place p n number (sym (same (to_place p n)) ∙ q);
        no_take_up = λ number c q. w.no_take_up number c (sym (same to_take_up) ∙ q);
      }
