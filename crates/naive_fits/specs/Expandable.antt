-- Typed trees that naive code can be made of, where it may use these operators.
use Rattle.std.specs.Prelude.{◌≡◌, ℕ, ◌^◌, ◌&&◌, nat_lt, nat_le, Bool, true, List, [], ◌∷◌, length, Option, Some, None}
use Rattle.std.specs.List.{list_all}
use Rattle.rtl_tree.specs.declared.expressions.BinOp.{BinOp}
use Rattle.rtl_tree.specs.declared.expressions.BinOp.TheVariants as op
use Rattle.md_rows.specs.declared.description.RawDescription.{RawDescription}
use Rattle.c_tree.specs.Heads.{head_in}
use Rattle.c_tree.specs.declared.types.CType.{CType}
use Rattle.c_tree.specs.declared.syntax.Arithmetic.{Arithmetic}
use Rattle.c_tree.specs.declared.syntax.Arithmetic.TheVariants as arithmetic
use Rattle.c_tree.specs.declared.typed.Operation.{Operation}
use Rattle.c_tree.specs.declared.typed.Operation.TheVariants as operation
use Rattle.c_tree.specs.declared.typed.TypedExpr.{TypedExpr}
use Rattle.c_tree.specs.declared.typed.TypedExpr.TheOpen.{TypedExpr-F, Comma, Assign, Compound, Conditional, Binary, Unary, Before, After, Constant, Object, Element, Call, Convert}
use Rattle.c_tree.specs.declared.typed.TypedExpr.TheFolds.{fold-TypedExpr}
use Rattle.c_tree.specs.declared.typed.LocalInit.{LocalInit}
use Rattle.c_tree.specs.declared.typed.LocalInit.TheVariants as init
use Rattle.c_tree.specs.declared.typed.Local.{Local}
use Rattle.c_tree.specs.declared.typed.Start.{Start}
use Rattle.c_tree.specs.declared.typed.Start.TheVariants as start
use Rattle.c_tree.specs.declared.typed.Stat.TheOpen as stat
use Rattle.c_tree.specs.declared.typed.Stat.TheFolds.{fold-Stat}
use Rattle.c_tree.specs.declared.typed.Function.{Function}
use Rattle.c_tree.specs.declared.typed.Typed.{Typed}
use Rattle.c_meaning.specs.Operators.{Sort, computes, compares, logical, sort_of, computed_in}
use Rattle.naive_code.specs.Expressions.{by_type}
use Rattle.naive_builder.specs.Covered.{IsUsable}

-- each operator that is there is one that code may use
abbrev pub AreThere : RawDescription → (BinOp → Bool) → Type 0
AreThere d has = (o : BinOp) → has o ≡ true → IsUsable d o

-- the operator that a description needn't have, where an arithmetic operator in a type is one
abbrev pub optional : Arithmetic → CType → Option BinOp
optional arithmetic.Multiply of = Some op.Mul
optional arithmetic.Divide of = Some (by_type of op.Div op.Divu)
optional arithmetic.Remainder of = Some (by_type of op.Rem op.Remu)
optional arithmetic.Xor of = Some op.Xor
optional arithmetic.ShiftLeft of = Some op.Shl
optional arithmetic.ShiftRight of = Some (by_type of op.Shr op.Shru)
optional o of = None

-- an expression: its type, and whether all operators in it are there
pub record Used : Type 0 where
  pub of : CType
  pub there : Bool

abbrev pub all_there : List Used → Bool
all_there [] = true
all_there (e ∷ es) = e.there && all_there es

abbrev pub all_so : List Bool → Bool
all_so [] = true
all_so (b ∷ bs) = b && all_so bs

abbrev pub or_so : Option Bool → Bool
or_so None = true
or_so (Some b) = b

module _ (has : BinOp → Bool) where
  abbrev pub is_there : Option BinOp → Bool
  is_there None = true
  is_there (Some o) = has o

  abbrev pub sort_there : Sort → CType → Bool
  sort_there (computes o) of = is_there (optional o of)
  sort_there (compares r u) of = true
  sort_there (logical and) of = true

  abbrev pub operation_there : Operation → (of by : CType) → Bool
  operation_there (operation.Operator o) of by = is_there (optional o (computed_in o of by))
  operation_there (operation.Helper g) of by = true

  abbrev pub there_by : TypedExpr-F Used → Bool
  there_by (Constant h v) = true
  there_by (Object h x) = true
  there_by (Element h x i) = i.there
  there_by (Assign h a b) = a.there && b.there
  there_by (Compound h a o b) = a.there && b.there && operation_there o a.of b.of
  there_by (Before h o a) = a.there
  there_by (After h a o) = a.there
  there_by (Binary h a o b) = a.there && b.there && sort_there (sort_of o) a.of
  there_by (Unary h o a) = a.there
  there_by (Convert h a) = a.there
  there_by (Comma h a b) = a.there && b.there
  there_by (Conditional h a b d) = a.there && b.there && d.there
  there_by (Call h g es) = all_there es

  abbrev pub used_by : TypedExpr-F Used → Used
  used_by e = record { of = (head_in e).of; there = there_by e }

  abbrev pub is_there_in : TypedExpr → Bool
  is_there_in e = (fold-TypedExpr Used used_by e).there

  abbrev pub option_there : Option TypedExpr → Bool
  option_there None = true
  option_there (Some e) = is_there_in e

  abbrev pub init_there : LocalInit → Bool
  init_there init.Absent = true
  init_there (init.Value e) = is_there_in e
  init_there (init.List es) = list_all is_there_in es

  abbrev pub locals_there : List Local → Bool
  locals_there = list_all (λ l. init_there l.init)

  abbrev pub start_there : Start → Bool
  start_there start.Absent = true
  start_there (start.Value e) = is_there_in e
  start_there (start.Declared at ls) = locals_there ls

  -- each value of a case is a word besides
  abbrev pub expandable_by : ℕ → stat.Stat-F Bool → Bool
  expandable_by w (stat.Block at ss) = all_so ss
  expandable_by w (stat.Declare at ls) = locals_there ls
  expandable_by w (stat.Evaluate at e) = option_there e
  expandable_by w (stat.If at e a b) = is_there_in e && a && or_so b
  expandable_by w (stat.While at e a) = is_there_in e && a
  expandable_by w (stat.DoWhile at a e) = a && is_there_in e
  expandable_by w (stat.For at first test step a) = start_there first && option_there test && option_there step && a
  expandable_by w (stat.Switch at e ss) = is_there_in e && all_so ss
  expandable_by w (stat.Case at v a) = nat_lt v (2 ^ w) && a
  expandable_by w (stat.Default at a) = a
  expandable_by w (stat.Break at) = true
  expandable_by w (stat.Continue at) = true
  expandable_by w (stat.Return at e) = option_there e

  -- and a function has at most 16 parameters
  abbrev pub is_expandable_function : ℕ → Function → Bool
  is_expandable_function w f = nat_le (length f.params) 16 && fold-Stat Bool (expandable_by w) f.body

  abbrev pub is_expandable : ℕ → Typed → Bool
  is_expandable w t = list_all (is_expandable_function w) t.functions
