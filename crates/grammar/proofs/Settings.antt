-- One setting in the other: what is legal where clauses must stand is so where they may be missing, with the same statements; and what is legal where they
-- may be missing has them all, or an UPLOAD or DOWNLOAD is the first that lacks its own.
use Prim.Native.Nat.{ℕ, ◌<◌}
use mathlib.Core.Path.{◌≡◌, refl, sym, ◌∙◌, ap}
use mathlib.Core.List.{List, [], ◌∷◌, ◌++◌, append_assoc}
use mathlib.Core.Logic.{◌⊎◌, inl, inr}
use native.Mathlib.Omega.{arith}
use lib.ListN.{length}
use Rattle.grammar.specs.declared.StartClause.{StartClause}
use Rattle.grammar.specs.declared.StartClause.TheVariants.{Required, Optional}
use Rattle.grammar.specs.Grammar.Class.{semicolon}
use Rattle.grammar.specs.Statement as read
use Rattle.grammar.specs.Statement.{Statement}
use Rattle.grammar.specs.Productions.{Placed, Is, Start, Other, Any, Ended, Others, File, Legal}
use Rattle.grammar.specs.Productions.Start.{missing, immediate, at_time, at_time_on, when}
use Rattle.grammar.specs.Productions.Other.{upload, download, getinfo, abort_report, abort_event}
use Rattle.grammar.specs.Productions.Any.{the_job, another}
use Rattle.grammar.specs.Productions.Ended.{ended}
use Rattle.grammar.specs.Productions.Others.{none, more}
use Rattle.grammar.specs.Productions.File.{file}
use Rattle.grammar.specs.Clauses as transfer
use Rattle.grammar.specs.Clauses.{Transfer}

required≢optional : Required ≡ Optional → ⊥
required≢optional e = let z : ◌≡◌ {A = ℕ} 0 1 = cc in omega arith

-- a statement that is no JOB is one of any kind
pub other_any : {clause : StartClause} {k : List Placed} {x : Statement} → Ended (Other clause) k x → Ended (Any clause) k x
other_any (ended e o z) = ended e (another o) z

-- ---- where a clause may be missing, one may stand

start_too : {c : List Placed} {y : read.Start} → Start Required c y → Start Optional c y
start_too (missing e) = absurd (required≢optional e)
start_too (immediate h i) = immediate h i
start_too (at_time h i j) = at_time h i j
start_too (at_time_on h i j k) = at_time_on h i j k
start_too (when h i j v) = when h i j v

other_too : {k : List Placed} {x : Statement} → Other Required k x → Other Optional k x
other_too (upload h i s c) = upload h i s (start_too c)
other_too (download h i s c) = download h i s (start_too c)
other_too (getinfo h i) = getinfo h i
other_too (abort_report h i j) = abort_report h i j
other_too (abort_event h i j) = abort_event h i j

pub any_too : {k : List Placed} {x : Statement} → Ended (Any Required) k x → Ended (Any Optional) k x
any_too (ended e (the_job j) z) = ended e (the_job j) z
any_too (ended e (another o) z) = ended e (another (other_too o)) z

ended_too : {k : List Placed} {x : Statement} → Ended (Other Required) k x → Ended (Other Optional) k x
ended_too (ended e o z) = ended e (other_too o) z

others_too : {ts : List Placed} {os : List ℕ} {xs : List Statement} → Others Required ts os xs → Others Optional ts os xs
others_too none = none
others_too (more w r) = more (ended_too w) (others_too r)

file_too : {ts : List Placed} {os : List ℕ} {xs : List Statement} → File Required ts os xs → File Optional ts os xs
file_too (file j r) = file j (others_too r)

pub legal_too : {ts : List Placed} {os : List ℕ} → Legal Required ts os → Legal Optional ts os
legal_too l = record { reads = l.reads; file = file_too l.file; few = l.few }

-- ---- where a clause may be missing: each has its own, or one is the first that is missing

start_parts : {c : List Placed} {y : read.Start} → Start Optional c y → Start Required c y ⊎ (c ≡ [])
start_parts (missing e) = inr refl
start_parts (immediate h i) = inl (immediate h i)
start_parts (at_time h i j) = inl (at_time h i j)
start_parts (at_time_on h i j k) = inl (at_time_on h i j k)
start_parts (when h i j v) = inl (when h i j v)

-- the tokens k are a transfer without a clause, and its ;
abbrev pub Bare : List Placed → Type 0
Bare k = (m : List Placed) × (e : Placed) × Transfer m × Is semicolon e × k ≡ m ++ (e ∷ [])

-- a transfer with its clause, or without
transfer_parts : {k f t : Placed} {c : List Placed} {y : read.Start} {x : Statement} (e : Placed) → Is semicolon e → Transfer (k ∷ f ∷ t ∷ [])
    → (Start Required c y → Ended (Other Required) (k ∷ f ∷ t ∷ (c ++ (e ∷ []))) x) → Start Required c y ⊎ (c ≡ [])
    → Ended (Other Required) (k ∷ f ∷ t ∷ (c ++ (e ∷ []))) x ⊎ Bare (k ∷ f ∷ t ∷ (c ++ (e ∷ [])))
transfer_parts e z m whole (inl r) = inl (whole r)
transfer_parts {k} {f} {t} e z m whole (inr n) = inr (k ∷ f ∷ t ∷ [], e, m, z, ap (λ (l : List Placed). k ∷ f ∷ t ∷ (l ++ (e ∷ []))) n)

other_parts : {k : List Placed} {x : Statement} → Ended (Other Optional) k x → Ended (Other Required) k x ⊎ Bare k
other_parts (ended e (upload h i s b) z) = transfer_parts e z (transfer.upload h i s) (λ r. ended e (upload h i s r) z) (start_parts b)
other_parts (ended e (download h i s b) z) = transfer_parts e z (transfer.download h i s) (λ r. ended e (download h i s r) z) (start_parts b)
other_parts (ended e (getinfo h i) z) = inl (ended e (getinfo h i) z)
other_parts (ended e (abort_report h i j) z) = inl (ended e (abort_report h i j) z)
other_parts (ended e (abort_event h i j) z) = inl (ended e (abort_event h i j) z)

pub any_parts : {k : List Placed} {x : Statement} → Ended (Any Optional) k x → Ended (Any Required) k x ⊎ Bare k
any_parts (ended e (the_job j) z) = inl (ended e (the_job j) z)
any_parts {x = x} (ended {k = k} e (another o) z) = go (other_parts (ended e o z))
  where
    go : Ended (Other Required) (k ++ (e ∷ [])) x ⊎ Bare (k ++ (e ∷ [])) → Ended (Any Required) (k ++ (e ∷ [])) x ⊎ Bare (k ++ (e ∷ []))
    go (inl w) = inl (other_any w)
    go (inr b) = inr b

-- fewer statements, all with their clauses, then a transfer without one and its ;
pub record Lacking (P : List Placed → List ℕ → List Statement → Type 0) (ts : List Placed) (os : List ℕ) : Type 0 where
  pub before : List Placed
  pub offsets : List ℕ
  pub reads : List Statement
  pub whole : P before offsets reads
  pub fewer : length offsets < length os
  pub opened : List Placed
  pub transfer : Transfer opened
  pub last : Placed
  pub is_last : Is semicolon last
  pub after : List Placed
  pub parts : ts ≡ before ++ (opened ++ (last ∷ after))

-- one statement more before them
after_one : {P : List Placed → List ℕ → List Statement → Type 0} (t : Placed) (a : List Placed) (x : Statement) {b : List Placed} {os : List ℕ}
    → ((k : List Placed) (rs : List ℕ) (xs : List Statement) → Others Required k rs xs → P (t ∷ (a ++ k)) (t.place ∷ rs) (x ∷ xs))
    → Lacking (Others Required) b os → Lacking P (t ∷ (a ++ b)) (t.place ∷ os)
after_one t a x join l =
    let f = l.fewer in
    record {
      before = t ∷ (a ++ l.before);
      offsets = t.place ∷ l.offsets;
      reads = x ∷ l.reads;
      whole = join l.before l.offsets l.reads l.whole;
      fewer = omega arith;
      opened = l.opened;
      transfer = l.transfer;
      last = l.last;
      is_last = l.is_last;
      after = l.after;
      parts = ap (λ (k : List Placed). t ∷ (a ++ k)) l.parts ∙ ap (λ (k : List Placed). t ∷ k) (sym (append_assoc a l.before _));
    }

others_parts : {ts : List Placed} {os : List ℕ} {xs : List Statement} → Others Optional ts os xs → Others Required ts os xs ⊎ Lacking (Others Required) ts os
others_parts none = inl none
others_parts (more {t = t} {a = a} {b = b} {x = x} {os = os} {xs = xs} w r) = go (other_parts w) (others_parts r)
  where
    go : Ended (Other Required) (t ∷ a) x ⊎ Bare (t ∷ a) → Others Required b os xs ⊎ Lacking (Others Required) b os
        → Others Required (t ∷ (a ++ b)) (t.place ∷ os) (x ∷ xs) ⊎ Lacking (Others Required) (t ∷ (a ++ b)) (t.place ∷ os)
    go (inl v) (inl q) = inl (more v q)
    go (inl v) (inr l) = inr (after_one t a x (λ k rs ys y. more v y) l)
    go (inr (m, e, o, z, p)) later =
        inr (record {
          before = [];
          offsets = [];
          reads = [];
          whole = none;
          fewer = omega arith;
          opened = m;
          transfer = o;
          last = e;
          is_last = z;
          after = b;
          parts = ap (λ (l : List Placed). l ++ b) p ∙ append_assoc m (e ∷ []) b;
        })

pub file_parts : {ts : List Placed} {os : List ℕ} {xs : List Statement} → File Optional ts os xs → File Required ts os xs ⊎ Lacking (File Required) ts os
file_parts (file {t = t} {a = a} {b = b} {x = x} {os = os} {xs = xs} j r) = go (others_parts r)
  where
    go : Others Required b os xs ⊎ Lacking (Others Required) b os
        → File Required (t ∷ (a ++ b)) (t.place ∷ os) (x ∷ xs) ⊎ Lacking (File Required) (t ∷ (a ++ b)) (t.place ∷ os)
    go (inl q) = inl (file j q)
    go (inr l) = inr (after_one t a x (λ k rs ys y. file j y) l)
