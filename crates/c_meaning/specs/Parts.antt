-- Parts of a run: what each prints, and what comes of it.
use Rattle.std.specs.Prelude.{ℕ, List, [], ◌++◌, Option, None, ◌==◌, ◌&&◌, nat_le, if◌then◌else◌}
use Rattle.c_tree.specs.declared.token.At.{At}
use Rattle.c_tree.specs.declared.typed.Variable.{Variable}
use Rattle.c_tree.specs.declared.typed.Variable.TheVariants as variable
use Rattle.c_tree.specs.declared.typed.Function.{Function}
use Rattle.behaviour.specs.Behaviour.{Wrong, Undefined}
use Rattle.c_meaning.specs.Operators.{Outcome, gives, undefined}

-- where a program runs: a word's bits, the stack in bytes, and what an active call of a function takes of it
pub record Setting : Type 0 where
  pub bits : ℕ
  pub stack : ℕ
  pub takes : Function → ℕ

-- by an object's number and an element's, of a scalar 0: the value, where it is set
abbrev pub Store : Type 0
Store = ℕ → ℕ → Option ℕ

-- the objects of the file, those of the call, and the input that is left
pub record State : Type 0 where
  pub statics : Store
  pub params : Store
  pub locals : Store
  pub input : List ℕ

-- what a part prints, and then: a value and the state after it, a cut by the bound, or a failure
pub data Part (A : Type 0) : Type 0 where
  Gives : List ℕ → A → State → Part A
  Cut : List ℕ → Part A
  Fails : List ℕ → Wrong → Part A

abbrev pub after : {A : Type 0} → List ℕ → Part A → Part A
after out (Gives more a s) = Gives (out ++ more) a s
after out (Cut more) = Cut (out ++ more)
after out (Fails more why) = Fails (out ++ more) why

-- one part, and then another
abbrev pub then_do : {A B : Type 0} → Part A → (A → State → Part B) → Part B
then_do (Gives out a s) go = after out (go a s)
then_do (Cut out) go = Cut out
then_do (Fails out why) go = Fails out why

abbrev pub give : {A : Type 0} → A → State → Part A
give a s = Gives [] a s

abbrev pub act : {A : Type 0} → ℕ → At → Part A
act what at = Fails [] (Undefined what at.line at.column)

-- what no typed tree comes to: a name, a callee or a constant that means nothing
abbrev pub nothing_meant : {A : Type 0} → At → Part A
nothing_meant at = act 0 at

abbrev pub outcome : Outcome → At → State → Part ℕ
outcome (gives v) at s = give v s
outcome (undefined what) at s = act what at

-- a word, or none: of the call that stands there of a void function, or of one that came to its `}`
pub data Value : Type 0 where
  word : ℕ → Value
  absent : At → Value

-- ACT U7, the value used of a function that came to its `}` (C11 6.9.1p12)
abbrev pub demand : Value → State → Part ℕ
demand (word v) s = give v s
demand (absent at) s = act 7 at

-- ---- objects

abbrev pub put : Store → ℕ → ℕ → Option ℕ → Store
put st x i v y j = if (y == x) && (j == i) then v else st y j

abbrev pub load : State → Variable → ℕ → Option ℕ
load s (variable.Static x) i = s.statics x i
load s (variable.Parameter x) i = s.params x i
load s (variable.Local x) i = s.locals x i

abbrev pub with_statics : Store → State → State
with_statics st s = record { statics = st; params = s.params; locals = s.locals; input = s.input }

abbrev pub with_params : Store → State → State
with_params st s = record { statics = s.statics; params = st; locals = s.locals; input = s.input }

abbrev pub with_locals : Store → State → State
with_locals st s = record { statics = s.statics; params = s.params; locals = st; input = s.input }

abbrev pub with_input : List ℕ → State → State
with_input bytes s = record { statics = s.statics; params = s.params; locals = s.locals; input = bytes }

abbrev pub store : State → Variable → ℕ → Option ℕ → State
store s (variable.Static x) i v = with_statics (put s.statics x i v) s
store s (variable.Parameter x) i v = with_params (put s.params x i v) s
store s (variable.Local x) i v = with_locals (put s.locals x i v) s

-- each element of a local object from the i-th on is so
abbrev pub fill : ℕ → ℕ → Option ℕ → State → State
fill x i v s = with_locals (λ y j. if (y == x) && nat_le i j then v else s.locals y j) s

abbrev pub unset : ℕ → State → State
unset x s = fill x 0 None s
