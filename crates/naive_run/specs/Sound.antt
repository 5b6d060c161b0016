-- Typed trees as typing and lowering leave them: each value has the type that its place wants, where int and unsigned count as one.
use Rattle.std.specs.Prelude.{ℕ, zero, suc, ◌+◌, ◌==◌, ◌&&◌, ◌||◌, not, nat_le, Bool, true, false, List, [], ◌∷◌, length, slice_get, Option, Some, None}
use Rattle.std.specs.List.{list_all}
use Rattle.c_tree.specs.declared.types.CType.{CType}
use Rattle.c_tree.specs.declared.types.CType.TheVariants as type
use Rattle.c_tree.specs.declared.typed.Variable.TheVariants as variable
use Rattle.c_tree.specs.declared.typed.Object.{Object}
use Rattle.c_tree.specs.declared.typed.Callee.{Callee}
use Rattle.c_tree.specs.declared.typed.Callee.TheVariants as callee
use Rattle.c_tree.specs.declared.typed.Operation.{Operation}
use Rattle.c_tree.specs.declared.typed.Operation.TheVariants as operation
use Rattle.c_tree.specs.declared.typed.TypedExpr.{TypedExpr}
use Rattle.c_tree.specs.declared.typed.TypedExpr.TheOpen.{TypedExpr-F, Comma, Assign, Compound, Conditional, Binary, Unary, Before, After, Constant, Object as Name, Element, Call, Convert}
use Rattle.c_tree.specs.declared.typed.TypedExpr.TheFolds.{fold-TypedExpr}
use Rattle.c_tree.specs.declared.typed.LocalInit.{LocalInit}
use Rattle.c_tree.specs.declared.typed.LocalInit.TheVariants as init
use Rattle.c_tree.specs.declared.typed.Local.{Local}
use Rattle.c_tree.specs.declared.typed.Start.{Start}
use Rattle.c_tree.specs.declared.typed.Start.TheVariants as start
use Rattle.c_tree.specs.declared.typed.Stat.{Stat}
use Rattle.c_tree.specs.declared.typed.Stat.TheOpen.{Stat-F, Block, Declare, Evaluate, If, While, DoWhile, For, Switch, Case, Default, Break, Continue, Return}
use Rattle.c_tree.specs.declared.typed.Stat.TheFolds.{fold-Stat}
use Rattle.c_tree.specs.declared.typed.Function.{Function}
use Rattle.c_tree.specs.declared.typed.Typed.{Typed}
use Rattle.c_limits.specs.Frames.{frame_bytes, is_helper, word_bytes}
use Rattle.c_meaning.specs.Operators.{as_type}
use Rattle.c_meaning.specs.Expressions.{Kind, missing, scalar, array, type_in}
use Rattle.c_meaning.specs.Run.{kind_in, is_main}

abbrev pub is_word : CType → Bool
is_word type.Int = true
is_word type.Unsigned = true
is_word _ = false

-- each value of the one type is one of the other
abbrev pub alike : CType → CType → Bool
alike type.Schar type.Schar = true
alike type.Uchar type.Uchar = true
alike type.Void type.Void = true
alike a b = is_word a && is_word b

abbrev pub is_array : Kind → Bool
is_array missing = false
is_array (scalar of) = false
is_array (array of n) = true

-- an expression: its type, and whether it and all in it are sound
pub record Checked : Type 0 where
  pub of : CType
  pub sound : Bool

abbrev pub all_fit : List Checked → List Object → Bool
all_fit [] [] = true
all_fit (e ∷ es) (o ∷ os) = e.sound && alike e.of o.element && all_fit es os
all_fit (e ∷ es) [] = false
all_fit [] (o ∷ os) = false

-- a call has a value of this type, and its arguments those of the parameters
abbrev pub fits_function : CType → List Checked → Option Function → Bool
fits_function of es None = false
fits_function of es (Some g) = alike of g.result && all_fit es g.params

abbrev pub a_word : Checked
a_word = record { of = type.Int; sound = true }

-- what a statement may be left by, besides its end and a return
pub record Left : Type 0 where
  pub sound : Bool
  pub breaks : Bool
  pub continues : Bool

abbrev pub simple : Bool → Left
simple b = record { sound = b; breaks = false; continues = false }

abbrev pub both : Left → Left → Left
both a b = record { sound = a.sound && b.sound; breaks = a.breaks || b.breaks; continues = a.continues || b.continues }

abbrev pub all_left : List Left → Left
all_left [] = simple true
all_left (a ∷ rest) = both a (all_left rest)

abbrev pub or_simple : Option Left → Left
or_simple None = simple true
or_simple (Some a) = a

-- with a test or what else is evaluated
abbrev pub with : Bool → Left → Left
with b a = record { sound = b && a.sound; breaks = a.breaks; continues = a.continues }

-- a loop keeps both, a switch what breaks
abbrev pub in_loop : Left → Left
in_loop a = record { sound = a.sound; breaks = false; continues = false }

abbrev pub in_switch : Left → Left
in_switch a = record { sound = a.sound; breaks = false; continues = a.continues }

-- so many sound words
abbrev pub are_words : ℕ → List Checked → Bool
are_words zero [] = true
are_words (suc n) (e ∷ es) = e.sound && is_word e.of && are_words n es
are_words zero (e ∷ es) = false
are_words (suc n) [] = false

module _ (w : ℕ) (t : Typed) (f : Function) where
  -- a helper calls nothing
  abbrev pub fits_call : CType → Callee → List Checked → Bool
  fits_call of (callee.Defined g) es = not (is_helper f.name) && fits_function of es (slice_get t.functions g)
  fits_call of callee.Getchar es = is_word of && are_words 0 es
  fits_call of callee.Putchar es = is_word of && are_words 1 es

  abbrev pub fits_operation : Operation → Bool
  fits_operation (operation.Operator o) = true
  fits_operation (operation.Helper g) = not (is_helper f.name) && fits_function type.Int (a_word ∷ a_word ∷ []) (slice_get t.functions g)

  abbrev pub checked_by : TypedExpr-F Checked → Bool
  checked_by (Constant h v) = as_type w h.of v == v
  checked_by (Name h x) = alike h.of (type_in (kind_in t f x))
  checked_by (Element h x i) = i.sound && is_array (kind_in t f x) && alike h.of (type_in (kind_in t f x))
  checked_by (Assign h a b) = a.sound && b.sound && alike h.of a.of && alike b.of a.of
  checked_by (Compound h a o b) = a.sound && b.sound && alike h.of a.of && fits_operation o
  checked_by (Before h o a) = a.sound && alike h.of a.of
  checked_by (After h a o) = a.sound && alike h.of a.of
  checked_by (Binary h a o b) = a.sound && b.sound && is_word h.of
  checked_by (Unary h o a) = a.sound && is_word h.of
  checked_by (Convert h a) = a.sound
  checked_by (Comma h a b) = a.sound && b.sound && alike h.of b.of
  checked_by (Conditional h a b d) = a.sound && b.sound && d.sound && alike h.of b.of && alike h.of d.of
  checked_by (Call h g es) = fits_call h.of g es

  abbrev pub type_of : TypedExpr-F Checked → CType
  type_of (Constant h v) = h.of
  type_of (Name h x) = h.of
  type_of (Element h x i) = h.of
  type_of (Assign h a b) = h.of
  type_of (Compound h a o b) = h.of
  type_of (Before h o a) = h.of
  type_of (After h a o) = h.of
  type_of (Binary h a o b) = h.of
  type_of (Unary h o a) = h.of
  type_of (Convert h a) = h.of
  type_of (Comma h a b) = h.of
  type_of (Conditional h a b d) = h.of
  type_of (Call h g es) = h.of

  abbrev pub checked : TypedExpr → Checked
  checked = fold-TypedExpr Checked (λ e. record { of = type_of e; sound = checked_by e })

  abbrev pub has_type : CType → TypedExpr → Bool
  has_type of e = (checked e).sound && alike (checked e).of of

  abbrev pub is_sound_or_absent : Option TypedExpr → Bool
  is_sound_or_absent None = true
  is_sound_or_absent (Some e) = (checked e).sound

  -- a scalar is initialised by a value, an array by a list that it has room for
  abbrev pub fits_init : Kind → LocalInit → Bool
  fits_init kind init.Absent = true
  fits_init (scalar of) (init.Value e) = has_type of e
  fits_init (array of n) (init.List es) = list_all (has_type of) es && nat_le (length es) n
  fits_init kind other = false

  abbrev pub fit_locals : List Local → Bool
  fit_locals = list_all (λ l. fits_init (kind_in t f (variable.Local l.number)) l.init)

  abbrev pub fits_start : Start → Bool
  fits_start start.Absent = true
  fits_start (start.Value e) = (checked e).sound
  fits_start (start.Declared at ls) = fit_locals ls

  -- `main` returns with a value
  abbrev pub fits_return : Option TypedExpr → Bool
  fits_return None = not (is_main f)
  fits_return (Some e) = has_type f.result e

  abbrev pub left_by : Stat-F Left → Left
  left_by (Block at ss) = all_left ss
  left_by (Declare at ls) = simple (fit_locals ls)
  left_by (Evaluate at e) = simple (is_sound_or_absent e)
  left_by (If at e a b) = with (checked e).sound (both a (or_simple b))
  left_by (While at e a) = with (checked e).sound (in_loop a)
  left_by (DoWhile at a e) = with (checked e).sound (in_loop a)
  left_by (For at first test step a) = with (fits_start first && is_sound_or_absent test && is_sound_or_absent step) (in_loop a)
  left_by (Switch at e ss) = with (checked e).sound (in_switch (all_left ss))
  left_by (Case at v a) = a
  left_by (Default at a) = a
  left_by (Break at) = record { sound = true; breaks = true; continues = false }
  left_by (Continue at) = record { sound = true; breaks = false; continues = true }
  left_by (Return at e) = simple (fits_return e)

  abbrev pub left_of : Stat → Left
  left_of = fold-Stat Left left_by

abbrev pub is_scalar_by : Option ℕ → Bool
is_scalar_by None = true
is_scalar_by (Some n) = false

abbrev pub is_scalar : Object → Bool
is_scalar o = is_scalar_by o.length

-- `main` has no parameters, and the 256 bytes that each call leaves suffice for a helper
abbrev pub is_sound_function : (kept : List ℕ) → ℕ → Typed → Function → Bool
is_sound_function kept w t f =
    let body = left_of w t f f.body in
    body.sound && not body.breaks && not body.continues && list_all is_scalar f.params
    && (not (is_main f) || nat_le (length f.params) 0)
    && (not (is_helper f.name) || nat_le (frame_bytes kept w f + word_bytes w) 256)

abbrev pub is_sound : (kept : List ℕ) → ℕ → Typed → Bool
is_sound kept w t = list_all (is_sound_function kept w t) t.functions
