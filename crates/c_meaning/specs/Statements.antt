-- What statements do (C11 6.8), where each execution of a loop makes at most n turns.
use Rattle.std.specs.Prelude.{ℕ, zero, suc, List, [], ◌∷◌, ◌++◌, length, Option, Some, None, Bool, true, false, ◌==◌, ◌||◌, if◌then◌else◌, map}
use Rattle.c_tree.specs.declared.token.At.{At}
use Rattle.c_tree.specs.declared.typed.Variable.TheVariants as variable
use Rattle.c_tree.specs.declared.typed.TypedExpr.{TypedExpr}
use Rattle.c_tree.specs.declared.typed.LocalInit.{LocalInit}
use Rattle.c_tree.specs.declared.typed.LocalInit.TheVariants as init
use Rattle.c_tree.specs.declared.typed.Local.{Local}
use Rattle.c_tree.specs.declared.typed.Start.{Start}
use Rattle.c_tree.specs.declared.typed.Start.TheVariants as start
use Rattle.c_tree.specs.declared.typed.Stat.{Stat}
use Rattle.c_tree.specs.declared.typed.Stat.TheOpen.{Stat-F, Block, Declare, Evaluate, If, While, DoWhile, For, Switch, Case, Default, Break, Continue, Return}
use Rattle.c_tree.specs.declared.typed.Stat.TheFolds.{fold-Stat}
use Rattle.c_meaning.specs.Parts.{State, Part, Cut, then_do, give, Value, word, absent, store, fill, unset}
use Rattle.c_meaning.specs.Expressions.{World, needed, at_zero, as_object, meaning}

-- how a statement is left
pub data Flow : Type 0 where
  next breaks continues : Flow
  returns : Value → Flow

abbrev pub Does : Type 0
Does = State → Part Flow

-- a statement: what it does, its labels in a switch (None: default), and the objects that it declares
pub record Execution : Type 0 where
  pub does : Does
  pub labels : List (Option ℕ)
  pub declares : List ℕ

abbrev pub nothing : Does
nothing s = give next s

abbrev pub plain : Does → Execution
plain d = record { does = d; labels = []; declares = [] }

abbrev pub go_on : Flow → Does → Does
go_on next d s = d s
go_on breaks d s = give breaks s
go_on continues d s = give continues s
go_on (returns v) d s = give (returns v) s

abbrev pub sequence : List Execution → Does
sequence [] s = give next s
sequence (a ∷ rest) s = then_do (a.does s) (λ f. go_on f (sequence rest))

-- ---- declarations (C11 6.2.4, 6.7.9)

-- at entry to a block its objects are unset
abbrev pub all_unset : List ℕ → State → State
all_unset [] s = s
all_unset (x ∷ xs) s = all_unset xs (unset x s)

abbrev pub numbers : List Local → List ℕ
numbers = map (λ l. l.number)

abbrev pub declared : List Execution → List ℕ
declared [] = []
declared (a ∷ rest) = a.declares ++ declared rest

-- an element, or the whole of a scalar
abbrev pub initialised : World → ℕ → ℕ → ℕ → State → State
initialised c x i v s = store s (variable.Local x) i (Some (as_object c (variable.Local x) v))

-- the listed elements one by one, from the i-th on
abbrev pub elements : World → ℕ → ℕ → List TypedExpr → Does
elements c x i [] s = give next s
elements c x i (e ∷ es) s = then_do (needed (meaning c e) s) (λ v s1. elements c x (suc i) es (initialised c x i v s1))

-- without an initialiser the object is unset; what a list leaves out is 0
abbrev pub initialise : World → ℕ → LocalInit → Does
initialise c x init.Absent s = give next (unset x s)
initialise c x (init.Value e) s = then_do (needed (meaning c e) s) (λ v s1. give next (initialised c x 0 v s1))
initialise c x (init.List es) s = then_do (elements c x 0 es s) (λ f s1. give next (fill x (length es) (Some 0) s1))

abbrev pub declare : World → List Local → Does
declare c [] s = give next s
declare c (l ∷ ls) s = then_do (initialise c l.number l.init s) (λ f. declare c ls)

-- ---- loops (C11 6.8.5)

-- after a turn of a loop's body
abbrev pub turned : Flow → Does → Does
turned next d s = d s
turned continues d s = d s
turned breaks d s = give next s
turned (returns v) d s = give (returns v) s

-- a test that is absent holds
abbrev pub tested : World → Option TypedExpr → State → Part ℕ
tested c None s = give 1 s
tested c (Some e) s = needed (meaning c e) s

-- an expression whose value isn't used
abbrev pub evaluated : World → Option TypedExpr → Does
evaluated c None s = give next s
evaluated c (Some e) s = then_do ((meaning c e).value s) (λ v. nothing)

abbrev pub cut : Does
cut s = Cut []

-- at most n turns, a test before each; behind the last one a test that holds is the cut
abbrev pub turns : ℕ → (State → Part ℕ) → Does → Does → Does
turns zero test body step s = then_do (test s) (λ v. at_zero v nothing cut)
turns (suc n) test body step s = then_do (test s) (λ v. at_zero v nothing (λ s1. then_do (body s1) (λ f. turned f (λ s2. then_do (step s2) (λ _. turns n test body step)))))

-- at most n turns, a test behind each
abbrev pub do_turns : ℕ → (State → Part ℕ) → Does → Does
do_turns zero test body s = Cut []
do_turns (suc n) test body s = then_do (body s) (λ f. turned f (λ s1. then_do (test s1) (λ v. at_zero v nothing (do_turns n test body))))

abbrev pub started : World → Start → Does
started c start.Absent s = give next s
started c (start.Value e) s = evaluated c (Some e) s
started c (start.Declared at ls) s = declare c ls (all_unset (numbers ls) s)

-- ---- switch (C11 6.8.4.2)

abbrev pub is_label : Option ℕ → Option ℕ → Bool
is_label (Some v) (Some x) = v == x
is_label None None = true
is_label (Some v) None = false
is_label None (Some x) = false

abbrev pub among : Option ℕ → List (Option ℕ) → Bool
among l [] = false
among l (x ∷ xs) = is_label l x || among l xs

-- the statements from a label on
abbrev pub from_label : Option ℕ → List Execution → Option (List Execution)
from_label l [] = None
from_label l (a ∷ rest) = if among l a.labels then Some (a ∷ rest) else from_label l rest

abbrev pub or_none : Option (List Execution) → Does
or_none None s = give next s
or_none (Some ss) s = sequence ss s

abbrev pub or_default : Option (List Execution) → Option (List Execution) → Does
or_default None b s = or_none b s
or_default (Some ss) b s = sequence ss s

-- a break leaves the switch
abbrev pub left : Flow → Does
left breaks s = give next s
left next s = give next s
left continues s = give continues s
left (returns v) s = give (returns v) s

-- ---- the nodes

abbrev pub or_else : Option Execution → Does
or_else None s = give next s
or_else (Some a) s = a.does s

abbrev pub returned : World → At → Option TypedExpr → Does
returned c at None s = give (returns (absent at)) s
returned c at (Some e) s = then_do (needed (meaning c e) s) (λ v s1. give (returns (word v)) s1)

abbrev pub statement : World → ℕ → Stat-F Execution → Execution
statement c n (Block at ss) = plain (λ s. sequence ss (all_unset (declared ss) s))
statement c n (Declare at ls) = record { does = declare c ls; labels = []; declares = numbers ls }
statement c n (Evaluate at e) = plain (evaluated c e)
statement c n (If at e a b) = plain (λ s. then_do (needed (meaning c e) s) (λ v. at_zero v (or_else b) a.does))
statement c n (While at e a) = plain (turns n (needed (meaning c e)) a.does nothing)
statement c n (DoWhile at a e) = plain (do_turns n (needed (meaning c e)) a.does)
statement c n (For at first test step a) = plain (λ s. then_do (started c first s) (λ _. turns n (tested c test) a.does (evaluated c step)))
statement c n (Switch at e ss) = plain (λ s. then_do (needed (meaning c e) s) (λ v s1. then_do (or_default (from_label (Some v) ss) (from_label None ss) (all_unset (declared ss) s1)) left))
statement c n (Case at v a) = record { does = a.does; labels = Some v ∷ a.labels; declares = [] }
statement c n (Default at a) = record { does = a.does; labels = None ∷ a.labels; declares = [] }
statement c n (Break at) = plain (give breaks)
statement c n (Continue at) = plain (give continues)
statement c n (Return at e) = plain (returned c at e)

abbrev pub execution : World → ℕ → Stat → Execution
execution c n = fold-Stat Execution (statement c n)
