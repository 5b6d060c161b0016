-- The run of a source: within the bound n each execution of a loop makes at most n turns, and calls nest at most n deep.
use Rattle.std.specs.Prelude.{ℕ, zero, suc, ◌+◌, ◌%◌, List, [], ◌∷◌, Option, Some, None, Bool, true, false, codes, nat_lt, if◌then◌else◌, slice_get, unwrap_or}
use Rattle.std.specs.Str.{bytes_eq}
use Rattle.c_tree.specs.declared.token.At.{At}
use Rattle.c_tree.specs.declared.types.CType.{CType}
use Rattle.c_tree.specs.declared.typed.Variable.{Variable}
use Rattle.c_tree.specs.declared.typed.Variable.TheVariants as variable
use Rattle.c_tree.specs.declared.typed.Object.{Object}
use Rattle.c_tree.specs.declared.typed.Static.{Static}
use Rattle.c_tree.specs.declared.typed.Function.{Function}
use Rattle.c_tree.specs.declared.typed.Typed.{Typed}
use Rattle.behaviour.specs.Behaviour.{Behaviour, Running, Ended, Failed, Overstack}
use Rattle.behaviour.specs.Run.{Run, NeverFails}
use Rattle.c_meaning.specs.Operators.{as_type}
use Rattle.c_meaning.specs.Parts.{Setting, Store, State, Part, Gives, Cut, Fails, then_do, give, nothing_meant, Value, word, absent}
use Rattle.c_meaning.specs.Expressions.{Kind, missing, scalar, array, World, Calls}
use Rattle.c_meaning.specs.Statements.{Flow, returns, Does, execution}

-- ---- objects

abbrev pub kind_by : CType → Option ℕ → Kind
kind_by t None = scalar t
kind_by t (Some length) = array t length

abbrev pub kind_of : Option Object → Kind
kind_of None = missing
kind_of (Some o) = kind_by o.element o.length

abbrev pub object_of : Option Static → Option Object
object_of None = None
object_of (Some x) = Some x.object

abbrev pub kind_in : Typed → Function → Variable → Kind
kind_in t f (variable.Static x) = kind_of (object_of (slice_get t.statics x))
kind_in t f (variable.Parameter x) = kind_of (slice_get f.params x)
kind_in t f (variable.Local x) = kind_of (slice_get f.locals x)

-- nothing is set
abbrev pub blank : Store
blank x i = None

-- parameters are scalars
abbrev pub given : List ℕ → Store
given vs x zero = slice_get vs x
given vs x (suc i) = None

-- a static object has its listed values, and 0 elsewhere (C11 6.7.9p10)
abbrev pub listed : ℕ → Option Static → ℕ → Option ℕ
listed w None i = None
listed w (Some x) i = Some (as_type w x.object.element (unwrap_or (slice_get x.init i) 0))

abbrev pub at_start : ℕ → Typed → List ℕ → State
at_start w t input = record { statics = λ x i. listed w (slice_get t.statics x) i; params = blank; locals = blank; input = input }

-- ---- calls

abbrev pub is_main : Function → Bool
is_main f = bytes_eq f.name (codes "main")

-- `main` that comes to its `}` returns 0 (C11 5.1.2.2.3)
abbrev pub value_at : Bool → At → Flow → Value
value_at main at (returns (word v)) = word v
value_at true at _ = word 0
value_at false at _ = absent at

abbrev pub inside : List ℕ → State → State
inside vs s = record { statics = s.statics; params = given vs; locals = blank; input = s.input }

-- the caller has its own objects again
abbrev pub back : Bool → At → State → Flow → State → Part Value
back main at caller f s = give (value_at main at f) (record { statics = s.statics; params = caller.params; locals = caller.locals; input = s.input })

-- OVERSTACK, tested at entry; 256 bytes stand for a call of a helper
abbrev pub enter : Option Function → Setting → ℕ → (Function → Does) → At → List ℕ → State → Part Value
enter None m used body at vs s = nothing_meant at
enter (Some f) m used body at vs s =
    if nat_lt m.stack (256 + (used + m.takes f)) then Fails [] Overstack
    else then_do (body f (inside vs s)) (back (is_main f) at s)

abbrev pub taken : Setting → Option Function → ℕ
taken m None = 0
taken m (Some f) = m.takes f

abbrev pub world : Setting → Typed → Calls → Function → World
world m t call f = record { bits = m.bits; kind = kind_in t f; call = call }

-- a call, from which calls nest at most d deep, where the calls around it take so many bytes; loops make at most n turns
abbrev pub call_at : Setting → Typed → ℕ → ℕ → ℕ → Calls
call_at m t n zero used at f vs s = Cut []
call_at m t n (suc d) used at f vs s =
    let g = slice_get t.functions f in
    enter g m used (λ h. (execution (world m t (call_at m t n d (used + taken m g)) h) n h.body).does) at vs s

-- ---- the whole

-- the end of the first `main`
abbrev pub status_of : Value → ℕ
status_of (word v) = v % 256
status_of (absent at) = 0

abbrev pub seen : Part Value → Behaviour
seen (Gives out v s) = Ended out (status_of v)
seen (Cut out) = Running out
seen (Fails out why) = Failed out why

-- the number of the function that is called first
abbrev pub main_in : List Function → ℕ
main_in [] = 0
main_in (f ∷ fs) = if is_main f then 0 else suc (main_in fs)

abbrev pub begin : At
begin = record { line = 1; column = 1 }

-- the call of `main` is the first that counts
abbrev pub source_run : Setting → Typed → List ℕ → Run
source_run m t input n = seen (call_at m t n n 0 begin (main_in t.functions) [] (at_start m.bits t input))

-- CLEAN: nothing undefined, nothing unset is read, and the stack suffices
abbrev pub IsClean : Setting → Typed → List ℕ → Type 0
IsClean m t input = NeverFails (source_run m t input)
