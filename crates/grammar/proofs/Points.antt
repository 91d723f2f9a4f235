-- The productions and the points are one grammar, a statement at a time: a statement's tokens lead from its first point to `done`
-- exactly when they are a production with its ;
use mathlib.Core.Path.{◌≡◌, refl, sym, ◌∙◌, ap, subst}
use mathlib.Core.Logic.{◌⊎◌, inl, inr}
use mathlib.Core.Bool.{Bool, true, false, true≢false, cond}
use mathlib.Core.List.{List, [], ◌∷◌, ◌++◌}
use Prim.Native.Nat.{ℕ}
use native.Mathlib.Omega.{arith}
use Rattle.grammar.specs.declared.StartClause.{StartClause}
use Rattle.grammar.specs.declared.StartClause.TheVariants.{Required, Optional}
use Rattle.grammar.specs.Grammar.{Class, Point, Edge, Each, next, look, step, walk, is_class, is_point}
use Rattle.grammar.specs.Grammar.Class.{JOB, RESPONSE, UPLOAD, DOWNLOAD, GETINFO, ABORT, REPORT, EVENT, START, name, TIME≥, time, string, operator, semicolon}
use Rattle.grammar.specs.Grammar.Point.{first, between, statement, job_name, job_response, job_file, move_file, move_source, move_start, start_kind, start_time, start_date, start_operator, start_value, info_file, abort_kind, abort_name, ending, done, dead}
use Rattle.grammar.specs.Statement.{Statement}
use Rattle.grammar.specs.Statement as read
use Rattle.grammar.specs.Productions.{Placed, Is, Start, Source, Job, Other, Any, Ended, classes}
use Rattle.grammar.specs.Productions.Value.{plain, digits, unreal_digits, quoted}
use Rattle.grammar.specs.Productions.Start.{missing, immediate, at_time, at_time_on, when}
use Rattle.grammar.specs.Productions.Source.{active, file, program}
use Rattle.grammar.specs.Productions.Job.{job}
use Rattle.grammar.specs.Productions.Other.{upload, download, getinfo, abort_report, abort_event}
use Rattle.grammar.specs.Productions.Any.{the_job, another}
use Rattle.grammar.specs.Productions.Ended.{ended}
use Rattle.grammar.proofs.Apart.{Sole, is_class_lem, is_point_lem}

-- the productions, from each point on, up to the ;: whatever tokens of their classes stand before them, and whatever they read as
data Nothing : List Placed → Type 0 where
  nothing : Nothing []

-- file spec, then a source, then an optional start clause
data Move (clause : StartClause) : List Placed → Type 0 where
  move : {f t : Placed} {c : List Placed} {x : read.Source} {y : read.Start} → Is string f → Source t x → Start clause c y → Move clause (f ∷ t ∷ c)

abbrev Before : Class → (Placed → Type 0) → Type 0
Before c P = (t : Placed) → Is c t → P t

abbrev Starts : StartClause → List Placed → Type 0
Starts clause k = (y : read.Start) × Start clause k y

abbrev Jobs : List Placed → Type 0
Jobs k = (x : Statement) × Job k x

abbrev Further : StartClause → List Placed → Type 0
Further clause k = (x : Statement) × Other clause k x

abbrev Whatever : StartClause → List Placed → Type 0
Whatever clause k = (x : Statement) × Any clause k x

-- what is a clause that stands, and a statement without one, whatever the setting
abbrev Always : (StartClause → List Placed → Type 0) → List Placed → Type 0
Always P k = (clause : StartClause) → P clause k

abbrev Body : Point → List Placed → Type 0
Body first k = Jobs k
Body (between clause) k = Further clause k
Body (statement clause) k = Whatever clause k
Body job_name k = Before JOB (λ j. Jobs (j ∷ k))
Body job_response k = Before JOB (λ j. Before name (λ n. Jobs (j ∷ n ∷ k)))
Body job_file k = Before JOB (λ j. Before name (λ n. Before RESPONSE (λ r. Jobs (j ∷ n ∷ r ∷ k))))
Body (move_file clause) k = Move clause k
Body (move_source clause) k = Before string (λ f. Move clause (f ∷ k))
Body (move_start clause) k = Starts clause k
Body start_kind k = Before START (λ s. Always Starts (s ∷ k))
Body start_time k = Before START (λ s. Before TIME≥ (λ g. Always Starts (s ∷ g ∷ k)))
Body start_date k = Before START (λ s. Before TIME≥ (λ g. Before time (λ t. Always Starts (s ∷ g ∷ t ∷ k))))
Body start_operator k = Before START (λ s. Before name (λ n. Always Starts (s ∷ n ∷ k)))
Body start_value k = Before START (λ s. Before name (λ n. Before operator (λ o. Always Starts (s ∷ n ∷ o ∷ k))))
Body info_file k = Before GETINFO (λ g. Always Further (g ∷ k))
Body abort_kind k = Before ABORT (λ a. Always Further (a ∷ k))
Body abort_name k = Before ABORT (λ a. Before REPORT (λ w. Always Further (a ∷ w ∷ k)) × Before EVENT (λ w. Always Further (a ∷ w ∷ k)))
Body ending k = Nothing k
Body done k = ⊥
Body dead k = ⊥

-- and with the ;
data Closed (B : List Placed → Type 0) : List Placed → Type 0 where
  closed : {k : List Placed} (e : Placed) → B k → Is semicolon e → Closed B (k ++ (e ∷ []))

abbrev Tail : Point → List Placed → Type 0
Tail q k = cond (is_point q done) (Nothing k) (Closed (Body q) k)

-- each edge puts a token of its class in front
abbrev Joins : Point → Edge → Type 0
Joins q e = (t : Placed) → Is e.class t → (k : List Placed) → Tail e.to k → Tail q (t ∷ k)

on : {B D : List Placed → Type 0} {c : Class} → ((t : Placed) → Is c t → (k : List Placed) → B k → D (t ∷ k)) → (t : Placed) → Is c t
    → (k : List Placed) → Closed B k → Closed D (t ∷ k)
on f t i k (closed {k = a} e b s) = closed e (f t i a b) s

-- the last token before the ;, and the ;
closes : {D : List Placed → Type 0} {c : Class} → ((t : Placed) → Is c t → D (t ∷ [])) → (t : Placed) → Is c t → (k : List Placed) → Closed Nothing k
    → Closed D (t ∷ k)
closes d t i k (closed e nothing s) = closed e (d t i) s

ends : {D : List Placed → Type 0} → D [] → (t : Placed) → Is semicolon t → (k : List Placed) → Nothing k → Closed D (t ∷ k)
ends d t i k nothing = closed t d i

uploads : {clause : StartClause} (t : Placed) → Is UPLOAD t → (k : List Placed) → Move clause k → Further clause (t ∷ k)
uploads t i k (move f s c) = (_, upload i f s c)

downloads : {clause : StartClause} (t : Placed) → Is DOWNLOAD t → (k : List Placed) → Move clause k → Further clause (t ∷ k)
downloads t i k (move f s c) = (_, download i f s c)

any_other : {clause : StartClause} {k : List Placed} → Further clause k → Whatever clause k
any_other (x, o) = (x, another o)

edges : (q : Point) → Each (Joins q) (next q)
edges first = (on (λ t i k b. b t i), tt)
edges (between clause) = (on uploads, (on downloads, (on (λ t i k b. b t i clause), (on (λ t i k b. b t i clause), tt))))
edges (statement clause) = (
  on (λ t i k b. ((b t i).0, the_job (b t i).1)),
  (
    on (λ t i k b. any_other (uploads t i k b)),
    (
      on (λ t i k b. any_other (downloads t i k b)),
      (on (λ t i k b. any_other (b t i clause)), (on (λ t i k b. any_other (b t i clause)), tt)),
    ),
  ),
)
edges job_name = (on (λ n i k b j h. b j h n i), tt)
edges job_response = (on (λ r i k b j h n g. b j h n g r i), tt)
edges job_file = (closes (λ f i j h n g r e. (_, job h g e i)), tt)
edges (move_file clause) = (on (λ f i k b. b f i), tt)
edges (move_source clause) = (
  on (λ t i k b f h. move h (active i) b.1),
  (on (λ t i k b f h. move h (file i) b.1), (on (λ t i k b f h. move h (program i) b.1), tt)),
)
edges (move_start Required) = (on (λ s i k b. b s i Required), tt)
edges (move_start Optional) = (on (λ s i k b. b s i Optional), (ends (_, missing refl), tt))
edges start_kind = (closes (λ t i s h clause. (_, immediate h i)), (on (λ t i k b s h. b s h t i), (on (λ t i k b s h. b s h t i), tt)))
edges start_time = (on (λ t i k b s h g j. b s h g j t i), tt)
edges start_date = (closes (λ d i s h g j t l clause. (_, at_time_on h j l i)), (ends (λ s h g j t l clause. (_, at_time h j l)), tt))
edges start_operator = (on (λ o i k b s h n j. b s h n j o i), tt)
edges start_value = (
  closes (λ v i s h n j o l clause. (_, when h j l (plain i))),
  (
    closes (λ v i s h n j o l clause. (_, when h j l (digits i))),
    (
      closes (λ v i s h n j o l clause. (_, when h j l (unreal_digits i))),
      (closes (λ v i s h n j o l clause. (_, when h j l (quoted i))), tt),
    ),
  ),
)
edges info_file = (closes (λ f i g h clause. (_, getinfo h i)), tt)
edges abort_kind = (on (λ w i k b a h. (b a h).0 w i), (on (λ w i k b a h. (b a h).1 w i), tt))
edges abort_name = (closes (λ n i a h. (λ w j clause. (_, abort_report h j i), λ w j clause. (_, abort_event h j i))), tt)
edges ending = (ends nothing, tt)
edges done = tt
edges dead = tt

-- a class leads along an edge, or nowhere
along : (P : Edge → Type 0) (c : Class) (es : List Edge) → Each P es → (look c es ≡ dead) ⊎ P (record { class = c; to = look c es })
along P c [] ps = inl refl
along P c (e ∷ es) ps = go (along P c es ps.1) (is_class c e.class) refl
  where
    go : (look c es ≡ dead) ⊎ P (record { class = c; to = look c es }) → (b : Bool) → is_class c e.class ≡ b
        → (cond b e.to (look c es) ≡ dead) ⊎ P (record { class = c; to = cond b e.to (look c es) })
    go later true i = inr (subst (λ (d : Class). P (record { class = d; to = e.to })) (sym (is_class_lem _ _ i)) ps.0)
    go later false i = later

pub classes_append : (a b : List Placed) → classes (a ++ b) ≡ classes a ++ classes b
classes_append [] b = refl
classes_append (t ∷ a) b = ap (λ (k : List Class). t.class ∷ k) (classes_append a b)

pub walk_append : (q : Point) (k r : List Class) → walk q (k ++ r) ≡ walk (walk q k) r
walk_append q [] r = refl
walk_append q (c ∷ k) r = walk_append (step q c) k r

pub stays : (k : List Class) → walk dead k ≡ dead
stays [] = refl
stays (c ∷ k) = stays k

pub dead≢done : dead ≡ done → ⊥
dead≢done e = let z : ◌≡◌ {A = ℕ} 0 1 = cc in omega arith

-- a test that cannot hold
pub refuted : (b : Bool) → (b ≡ true → ⊥) → b ≡ false
refuted true h = absurd (h refl)
refuted false h = refl

-- a point from which k leads to a living point is none from which it leads nowhere
pub elsewhere : (q r : Point) → Sole r → (k : List Class) → walk r k ≡ dead → is_point (walk q k) dead ≡ false → is_point q r ≡ false
elsewhere q r one k d l =
    refuted (is_point q r) (λ e. true≢false (sym (ap (λ (p : Point). is_point p dead) (ap (λ (p : Point). walk p k) (is_point_lem q r one e) ∙ d)) ∙ l))

tail_at : (q : Point) → q ≡ done → Tail q []
tail_at q e = subst (λ (p : Point). Tail p []) (sym e) nothing

tail : (k : List Placed) (q : Point) → walk q (classes k) ≡ done → Tail q k
tail [] q w = tail_at q w
tail (t ∷ k) q w = go (tail k (step q t.class) w) (along (Joins q) t.class (next q) (edges q))
  where
    go : Tail (step q t.class) k → (step q t.class ≡ dead) ⊎ Joins q (record { class = t.class; to = step q t.class }) → Tail q (t ∷ k)
    go r (inl e) = absurd (dead≢done (sym (stays (classes k)) ∙ ap (λ (p : Point). walk p (classes k)) (sym e) ∙ w))
    go r (inr f) = f t refl k r

-- a production with its ;
whole : {P : List Placed → Statement → Type 0} {k : List Placed} → Closed (λ a. (x : Statement) × P a x) k → (x : Statement) × Ended P k x
whole (closed e b s) = (b.0, ended e b.1 s)

pub walked_job : (k : List Placed) → walk first (classes k) ≡ done → (x : Statement) × Ended Job k x
walked_job k w = whole (tail k first w)

pub walked_other : {clause : StartClause} (k : List Placed) → walk (between clause) (classes k) ≡ done → (x : Statement) × Ended (Other clause) k x
walked_other {clause} k w = whole (tail k (between clause) w)

pub walked_any : {clause : StartClause} (k : List Placed) → walk (statement clause) (classes k) ≡ done → (x : Statement) × Ended (Any clause) k x
walked_any {clause} k w = whole (tail k (statement clause) w)

-- the other way
start_walks : {clause : StartClause} {c : List Placed} {y : read.Start} → Start clause c y → (e : Placed) → Is semicolon e
    → walk (move_start clause) (classes (c ++ (e ∷ []))) ≡ done
start_walks (missing m) e z = rw (m, z)
start_walks (immediate h i) e z = rw (h, i, z)
start_walks (at_time h i j) e z = rw (h, i, j, z)
start_walks (at_time_on h i j k) e z = rw (h, i, j, k, z)
start_walks (when h i j (plain k)) e z = rw (h, i, j, k, z)
start_walks (when h i j (digits k)) e z = rw (h, i, j, k, z)
start_walks (when h i j (unreal_digits k)) e z = rw (h, i, j, k, z)
start_walks (when h i j (quoted k)) e z = rw (h, i, j, k, z)

pub source_walks : {clause : StartClause} {t : Placed} {x : read.Source} → Source t x → step (move_source clause) t.class ≡ move_start clause
source_walks (active i) = rw i
source_walks (file i) = rw i
source_walks (program i) = rw i

move_walks : {clause : StartClause} (f : Placed) {t : Placed} {c : List Placed} {x : read.Source} {y : read.Start} → Is string f → Source t x
    → Start clause c y → (e : Placed) → Is semicolon e → walk (move_file clause) (classes (f ∷ t ∷ (c ++ (e ∷ [])))) ≡ done
move_walks f {c = c} i s b e z = rw i (ap (λ (q : Point). walk q (classes (c ++ (e ∷ [])))) (source_walks s) ∙ start_walks b e z)

pub other_walks : {clause : StartClause} {k : List Placed} {x : Statement} → Ended (Other clause) k x → walk (between clause) (classes k) ≡ done
other_walks (ended e (upload {f = f} h i s c) z) = rw h (move_walks f i s c e z)
other_walks (ended e (download {f = f} h i s c) z) = rw h (move_walks f i s c e z)
other_walks (ended e (getinfo h i) z) = rw (h, i, z)
other_walks (ended e (abort_report h i j) z) = rw (h, i, j, z)
other_walks (ended e (abort_event h i j) z) = rw (h, i, j, z)

pub job_walks : {k : List Placed} {x : Statement} → Ended Job k x → walk first (classes k) ≡ done
job_walks (ended e (job h i j l) z) = rw (h, i, j, l, z)

pub any_walks : {clause : StartClause} {k : List Placed} {x : Statement} → Ended (Any clause) k x → walk (statement clause) (classes k) ≡ done
any_walks (ended e (the_job (job h i j l)) z) = rw (h, i, j, l, z)
any_walks (ended e (another (upload {f = f} h i s c)) z) = rw h (move_walks f i s c e z)
any_walks (ended e (another (download {f = f} h i s c)) z) = rw h (move_walks f i s c e z)
any_walks (ended e (another (getinfo h i)) z) = rw (h, i, z)
any_walks (ended e (another (abort_report h i j)) z) = rw (h, i, j, z)
any_walks (ended e (another (abort_event h i j)) z) = rw (h, i, j, z)
