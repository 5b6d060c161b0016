-- Typed trees in which each name stands for an object of the kind as which it is used, each callee for a function, and each constant for a word.
use Rattle.std.specs.Prelude.{ℕ, ◌^◌, length, Bool, true, false, ◌&&◌, nat_lt, Option, Some, None, List, [], ◌∷◌}
use Rattle.c_tree.specs.declared.typed.Variable.{Variable}
use Rattle.c_tree.specs.declared.typed.Callee.{Callee}
use Rattle.c_tree.specs.declared.typed.Callee.TheVariants as callee
use Rattle.c_tree.specs.declared.typed.Operation.{Operation}
use Rattle.c_tree.specs.declared.typed.Operation.TheVariants as operation
use Rattle.c_tree.specs.declared.typed.TypedExpr.{TypedExpr}
use Rattle.c_tree.specs.declared.typed.TypedExpr.TheOpen.{TypedExpr-F, Comma, Assign, Compound, Conditional, Binary, Unary, Before, After, Constant, Object, Element, Call, Convert}
use Rattle.c_tree.specs.declared.typed.TypedExpr.TheFolds.{fold-TypedExpr}
use Rattle.c_tree.specs.declared.typed.LocalInit.{LocalInit}
use Rattle.c_tree.specs.declared.typed.LocalInit.TheVariants as init
use Rattle.c_tree.specs.declared.typed.Local.{Local}
use Rattle.c_tree.specs.declared.typed.Start.{Start}
use Rattle.c_tree.specs.declared.typed.Start.TheVariants as start
use Rattle.c_tree.specs.declared.typed.Stat.{Stat}
use Rattle.c_tree.specs.declared.typed.Stat.TheOpen as s
use Rattle.c_tree.specs.declared.typed.Stat.TheFolds.{fold-Stat}
use Rattle.c_tree.specs.declared.typed.Function.{Function}
use Rattle.c_tree.specs.declared.typed.Typed.{Typed}
use Rattle.c_meaning.specs.Expressions.{Kind, missing, scalar, array}
use Rattle.c_meaning.specs.Run.{kind_in, main_in}

-- what is known around an expression: a word's bits, its objects, and how many functions there are
pub record Known : Type 0 where
  pub bits : ℕ
  pub kind : Variable → Kind
  pub functions : ℕ

-- of an expression: whether all that stands in it means something, and whether it is an object or an element
pub record Checked : Type 0 where
  pub sound : Bool
  pub place : Bool

abbrev pub value : Bool → Checked
value b = record { sound = b; place = false }

abbrev pub place : Bool → Checked
place b = record { sound = b; place = true }

abbrev pub is_scalar : Kind → Bool
is_scalar missing = false
is_scalar (scalar t) = true
is_scalar (array t n) = false

abbrev pub is_array : Kind → Bool
is_array missing = false
is_array (scalar t) = false
is_array (array t n) = true

-- a left side
abbrev pub assigned : Checked → Bool
assigned a = a.place && a.sound

abbrev pub each : List Checked → Bool
each [] = true
each (a ∷ as_) = a.sound && each as_

abbrev pub is_given : List Checked → Bool
is_given [] = false
is_given (a ∷ as_) = true

abbrev pub callee_stands : ℕ → Callee → List Checked → Bool
callee_stands n (callee.Defined f) as_ = nat_lt f n
callee_stands n callee.Getchar as_ = true
callee_stands n callee.Putchar as_ = is_given as_

abbrev pub operation_stands : ℕ → Operation → Bool
operation_stands n (operation.Operator o) = true
operation_stands n (operation.Helper f) = nat_lt f n

abbrev pub expression : Known → TypedExpr-F Checked → Checked
expression k (Constant h v) = value (nat_lt v (2 ^ k.bits))
expression k (Object h x) = place (is_scalar (k.kind x))
expression k (Element h x i) = place (is_array (k.kind x) && i.sound)
expression k (Assign h a b) = value (assigned a && b.sound)
expression k (Compound h a o b) = value (assigned a && (operation_stands k.functions o && b.sound))
expression k (Before h o a) = value (assigned a)
expression k (After h a o) = value (assigned a)
expression k (Binary h a o b) = value (a.sound && b.sound)
expression k (Unary h o a) = value a.sound
expression k (Convert h a) = value a.sound
expression k (Comma h a b) = value (a.sound && b.sound)
expression k (Conditional h a b d) = value (a.sound && (b.sound && d.sound))
expression k (Call h f as_) = value (callee_stands k.functions f as_ && each as_)

abbrev pub checked : Known → TypedExpr → Checked
checked k = fold-TypedExpr Checked (expression k)

abbrev pub is_sound : Known → TypedExpr → Bool
is_sound k e = (checked k e).sound

-- ---- statements

abbrev pub all_sound : Known → List TypedExpr → Bool
all_sound k [] = true
all_sound k (e ∷ es) = is_sound k e && all_sound k es

abbrev pub maybe_sound : Known → Option TypedExpr → Bool
maybe_sound k None = true
maybe_sound k (Some e) = is_sound k e

abbrev pub init_sound : Known → LocalInit → Bool
init_sound k init.Absent = true
init_sound k (init.Value e) = is_sound k e
init_sound k (init.List es) = all_sound k es

abbrev pub locals_sound : Known → List Local → Bool
locals_sound k [] = true
locals_sound k (l ∷ ls) = init_sound k l.init && locals_sound k ls

abbrev pub start_sound : Known → Start → Bool
start_sound k start.Absent = true
start_sound k (start.Value e) = is_sound k e
start_sound k (start.Declared at ls) = locals_sound k ls

abbrev pub all : List Bool → Bool
all [] = true
all (b ∷ bs) = b && all bs

abbrev pub maybe : Option Bool → Bool
maybe None = true
maybe (Some b) = b

abbrev pub statement : Known → s.Stat-F Bool → Bool
statement k (s.Block at bs) = all bs
statement k (s.Declare at ls) = locals_sound k ls
statement k (s.Evaluate at e) = maybe_sound k e
statement k (s.If at e a b) = is_sound k e && (a && maybe b)
statement k (s.While at e a) = is_sound k e && a
statement k (s.DoWhile at a e) = a && is_sound k e
statement k (s.For at i t u a) = start_sound k i && (maybe_sound k t && (maybe_sound k u && a))
statement k (s.Switch at e bs) = is_sound k e && all bs
statement k (s.Case at v a) = a
statement k (s.Default at a) = a
statement k (s.Break at) = true
statement k (s.Continue at) = true
statement k (s.Return at e) = maybe_sound k e

abbrev pub body_sound : Known → Stat → Bool
body_sound k = fold-Stat Bool (statement k)

-- ---- the whole

abbrev pub known_in : ℕ → Typed → Function → Known
known_in w t f = record { bits = w; kind = kind_in t f; functions = length t.functions }

abbrev pub functions_sound : ℕ → Typed → List Function → Bool
functions_sound w t [] = true
functions_sound w t (f ∷ fs) = body_sound (known_in w t f) f.body && functions_sound w t fs

-- the body of each function means something, and there is a `main`
abbrev pub is_meant : ℕ → Typed → Bool
is_meant w t = functions_sound w t t.functions && nat_lt (main_in t.functions) (length t.functions)
