-- Parts that come to no act 0 and leave words in all objects.
use Rattle.std.proofs.Common.{◌≡◌, ℕ, zero, suc, ◌^◌, ◌<◌, ◌==◌, nat_le, Bool, true, false, ◌&&◌, if◌then◌else◌, Option, Some, None, List, refl, sym, arith}
use Rattle.std.specs.Prelude.{⊤}
use Rattle.std.proofs.lemmas.Bool.{true≢false}
use Rattle.behaviour.specs.Behaviour.{Wrong, Undefined, Overstack, Trapped, Wild}
use Rattle.behaviour.specs.Run.{AreBytes}
use Rattle.c_tree.specs.declared.token.At.{At}
use Rattle.c_tree.specs.declared.typed.Variable.{Variable}
use Rattle.c_tree.specs.declared.typed.Variable.TheVariants as variable
use Rattle.c_meaning.specs.Operators.{Outcome, gives, undefined}
use Rattle.c_meaning.specs.Parts.{Store, State, Part, Gives, Cut, Fails, after, then_do, outcome, Value, word, absent, demand, put, load, store, fill}
use Rattle.c_meaning.specs.Expressions.{as_value, at_zero, set_or_act, Lvalue, read}
use Rattle.c_sound.proofs.Outcomes.{Given}

pub no : {A : Type 0} → false ≡ true → A
no e = absurd (true≢false (sym e))

pub left_of : (a b : Bool) → (a && b) ≡ true → a ≡ true
left_of true b e = refl
left_of false b e = no e

pub right_of : (a b : Bool) → (a && b) ≡ true → b ≡ true
right_of true b e = e
right_of false b e = no e

-- ---- states

abbrev pub Set : ℕ → Option ℕ → Type 0
Set w None = ⊤
Set w (Some v) = v < 2 ^ w

abbrev pub Holds : ℕ → Store → Type 0
Holds w st = (x i : ℕ) → Set w (st x i)

pub record Words (w : ℕ) (s : State) : Type 0 where
  pub statics : Holds w s.statics
  pub params : Holds w s.params
  pub locals : Holds w s.locals
  pub input : AreBytes s.input

put_holds : (w : ℕ) (st : Store) (x i : ℕ) (v : Option ℕ) → Holds w st → Set w v → Holds w (put st x i v)
put_holds w st x i v h k y j = by ((y == x) && (j == i))
  where
    by : (b : Bool) → Set w (if b then v else st y j)
    by true = k
    by false = h y j

pub load_set : (w : ℕ) (s : State) → Words w s → (x : Variable) (i : ℕ) → Set w (load s x i)
load_set w s q (variable.Static x) i = q.statics x i
load_set w s q (variable.Parameter x) i = q.params x i
load_set w s q (variable.Local x) i = q.locals x i

pub store_words : (w : ℕ) (s : State) (x : Variable) (i : ℕ) (v : Option ℕ) → Words w s → Set w v → Words w (store s x i v)
store_words w s (variable.Static x) i v q h = record { statics = put_holds w s.statics x i v q.statics h; params = q.params; locals = q.locals; input = q.input }
store_words w s (variable.Parameter x) i v q h = record { statics = q.statics; params = put_holds w s.params x i v q.params h; locals = q.locals; input = q.input }
store_words w s (variable.Local x) i v q h = record { statics = q.statics; params = q.params; locals = put_holds w s.locals x i v q.locals h; input = q.input }

fill_holds : (w : ℕ) (st : Store) (x i : ℕ) (v : Option ℕ) → Holds w st → Set w v → Holds w (λ y j. if (y == x) && nat_le i j then v else st y j)
fill_holds w st x i v h k y j = by ((y == x) && nat_le i j)
  where
    by : (b : Bool) → Set w (if b then v else st y j)
    by true = k
    by false = h y j

pub fill_words : (w : ℕ) (x i : ℕ) (v : Option ℕ) (s : State) → Words w s → Set w v → Words w (fill x i v s)
fill_words w x i v s q h = record { statics = q.statics; params = q.params; locals = fill_holds w s.locals x i v q.locals h; input = q.input }

-- ---- parts

-- an act of C's own, or no undefined act
abbrev pub Told : Wrong → Type 0
Told (Undefined what line column) = 0 < what
Told Overstack = ⊤
Told (Trapped kind place) = ⊤
Told Wild = ⊤

abbrev pub Goes : {A : Type 0} → ℕ → (A → Type 0) → Part A → Type 0
Goes w P (Gives out a s) = P a × Words w s
Goes w P (Cut out) = ⊤
Goes w P (Fails out why) = Told why

-- as a record, so that a lemma's arguments are found from it
pub record Fine {A : Type 0} (w : ℕ) (P : A → Type 0) (p : Part A) : Type 0 where
  pub goes : Goes w P p

after_goes : {A : Type 0} (w : ℕ) (P : A → Type 0) (out : List ℕ) (p : Part A) → Goes w P p → Goes w P (after out p)
after_goes w P out (Gives o a s) g = g
after_goes w P out (Cut o) g = g
after_goes w P out (Fails o why) g = g

pub then_fine : {A B : Type 0} (w : ℕ) (P : A → Type 0) (Q : B → Type 0) (p : Part A) (f : A → State → Part B)
    → Fine w P p → ((a : A) → P a → (s : State) → Words w s → Fine w Q (f a s)) → Fine w Q (then_do p f)
then_fine w P Q (Gives out a s) f g each = record { goes = after_goes w Q out (f a s) (each a g.goes.0 s g.goes.1).goes }
then_fine w P Q (Cut out) f g each = record { goes = tt }
then_fine w P Q (Fails out why) f g each = record { goes = g.goes }

pub zero_fine : {A : Type 0} (w : ℕ) (P : A → Type 0) (v : ℕ) (a b : State → Part A) (s : State) → Fine w P (a s) → Fine w P (b s) → Fine w P (at_zero v a b s)
zero_fine w P zero a b s g h = g
zero_fine w P (suc v) a b s g h = h

-- ---- values

abbrev pub IsWord : ℕ → ℕ → Type 0
IsWord w v = v < 2 ^ w

abbrev pub IsValue : ℕ → Value → Type 0
IsValue w (word v) = v < 2 ^ w
IsValue w (absent at) = ⊤

abbrev pub Any : {A : Type 0} → A → Type 0
Any a = ⊤

pub demand_fine : (w : ℕ) (v : Value) → IsValue w v → (s : State) → Words w s → Fine w (IsWord w) (demand v s)
demand_fine w (word v) h s q = record { goes = (h, q) }
demand_fine w (absent at) h s q = record { goes = omega arith }

pub outcome_fine : (w : ℕ) (o : Outcome) → Given w o → (at : At) (s : State) → Words w s → Fine w (IsWord w) (outcome o at s)
outcome_fine w (gives v) g at s q = record { goes = (g, q) }
outcome_fine w (undefined what) g at s q = record { goes = g }

pub as_value_fine : (w : ℕ) (p : Part ℕ) → Fine w (IsWord w) p → Fine w (IsValue w) (as_value p)
as_value_fine w p g = then_fine w (IsWord w) (IsValue w) p _ g (λ v h s q. record { goes = (h, q) })

set_fine : (w : ℕ) (o : Option ℕ) → Set w o → (at : At) (s : State) → Words w s → Fine w (IsWord w) (set_or_act o at s)
set_fine w None h at s q = record { goes = omega arith }
set_fine w (Some v) h at s q = record { goes = (h, q) }

pub read_fine : (w : ℕ) (x : Lvalue) (s : State) → Words w s → Fine w (IsWord w) (read x s)
read_fine w x s q = set_fine w (load s x.variable x.index) (load_set w s q x.variable x.index) x.at s q
