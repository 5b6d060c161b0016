-- Where a typed tree has an operator that isn't among these.
use Rattle.std.specs.Prelude.{◌≡◌, ℕ, Bool, not, List, [], ◌∷◌, map, Option, Some, None}
use Rattle.vp_io.specs.declared.answers.Reason.{Reason}
use Rattle.rtl_tree.specs.declared.expressions.BinOp.{BinOp}
use Rattle.c_tree.specs.Heads.{head_in}
use Rattle.c_tree.specs.declared.token.At.{At}
use Rattle.c_tree.specs.declared.types.CType.{CType}
use Rattle.c_tree.specs.declared.typed.TypedExpr.{TypedExpr}
use Rattle.c_tree.specs.declared.typed.TypedExpr.TheOpen.{TypedExpr-F, Comma, Assign, Compound, Conditional, Binary, Unary, Before, After, Constant, Object, Element, Call, Convert}
use Rattle.c_tree.specs.declared.typed.TypedExpr.TheFolds.{fold-TypedExpr}
use Rattle.c_tree.specs.declared.typed.LocalInit.{LocalInit}
use Rattle.c_tree.specs.declared.typed.LocalInit.TheVariants as init
use Rattle.c_tree.specs.declared.typed.Local.{Local}
use Rattle.c_tree.specs.declared.typed.Start.{Start}
use Rattle.c_tree.specs.declared.typed.Start.TheVariants as start
use Rattle.c_tree.specs.declared.typed.Stat.{Stat}
use Rattle.c_tree.specs.declared.typed.Stat.TheOpen as stat
use Rattle.c_tree.specs.declared.typed.Stat.TheFolds.{fold-Stat}
use Rattle.c_tree.specs.declared.typed.Function.{Function}
use Rattle.c_tree.specs.declared.typed.Typed.{Typed}
use Rattle.c_meaning.specs.Operators.{sort_of}
use Rattle.c_typing.specs.Faults.{Faults, sound, ◌also◌, Breaks, IsFirst, fault}
use Rattle.c_typing.specs.Expressions.{broken_if}
use Rattle.naive_fits.specs.Expandable.{sort_there, operation_there}

-- an expression's type, and the operators that it lacks, each told at the first token of its expression
pub record Lacking : Type 0 where
  pub of : CType
  pub faults : Faults

abbrev pub each_lacks : List Lacking → Faults
each_lacks [] = sound
each_lacks (e ∷ es) = e.faults also each_lacks es

abbrev pub all_lack : List Faults → Faults
all_lack [] = sound
all_lack (f ∷ fs) = f also all_lack fs

abbrev pub or_sound : Option Faults → Faults
or_sound None = sound
or_sound (Some f) = f

-- RULE 51, an operator that the description lacks
abbrev pub lacking : Bool → At → Faults
lacking there at = broken_if (not there) 51 at

module _ (has : BinOp → Bool) where
  abbrev pub lacks_by : TypedExpr-F Lacking → Faults
  lacks_by (Constant h v) = sound
  lacks_by (Object h x) = sound
  lacks_by (Element h x i) = i.faults
  lacks_by (Assign h a b) = a.faults also b.faults
  lacks_by (Compound h a o b) = a.faults also b.faults also lacking (operation_there has o a.of b.of) h.at
  lacks_by (Before h o a) = a.faults
  lacks_by (After h a o) = a.faults
  lacks_by (Binary h a o b) = a.faults also b.faults also lacking (sort_there has (sort_of o) a.of) h.at
  lacks_by (Unary h o a) = a.faults
  lacks_by (Convert h a) = a.faults
  lacks_by (Comma h a b) = a.faults also b.faults
  lacks_by (Conditional h a b c) = a.faults also b.faults also c.faults
  lacks_by (Call h g es) = each_lacks es

  abbrev pub lacking_by : TypedExpr-F Lacking → Lacking
  lacking_by e = record { of = (head_in e).of; faults = lacks_by e }

  abbrev pub seen_of : TypedExpr → Lacking
  seen_of = fold-TypedExpr Lacking lacking_by

  abbrev pub expression_lacks : TypedExpr → Faults
  expression_lacks e = (seen_of e).faults

  abbrev pub list_lacks : List TypedExpr → Faults
  list_lacks es = each_lacks (map seen_of es)

  abbrev pub option_lacks : Option TypedExpr → Faults
  option_lacks None = sound
  option_lacks (Some e) = expression_lacks e

  abbrev pub init_lacks : LocalInit → Faults
  init_lacks init.Absent = sound
  init_lacks (init.Value e) = expression_lacks e
  init_lacks (init.List es) = list_lacks es

  abbrev pub locals_lack : List Local → Faults
  locals_lack [] = sound
  locals_lack (l ∷ ls) = init_lacks l.init also locals_lack ls

  abbrev pub start_lacks : Start → Faults
  start_lacks start.Absent = sound
  start_lacks (start.Value e) = expression_lacks e
  start_lacks (start.Declared at ls) = locals_lack ls

  abbrev pub statement_lacks_by : stat.Stat-F Faults → Faults
  statement_lacks_by (stat.Block at ss) = all_lack ss
  statement_lacks_by (stat.Declare at ls) = locals_lack ls
  statement_lacks_by (stat.Evaluate at e) = option_lacks e
  statement_lacks_by (stat.If at e a b) = expression_lacks e also a also or_sound b
  statement_lacks_by (stat.While at e a) = expression_lacks e also a
  statement_lacks_by (stat.DoWhile at a e) = a also expression_lacks e
  statement_lacks_by (stat.For at first test step a) = start_lacks first also option_lacks test also option_lacks step also a
  statement_lacks_by (stat.Switch at e ss) = all_lack ss also expression_lacks e
  statement_lacks_by (stat.Case at v a) = a
  statement_lacks_by (stat.Default at a) = a
  statement_lacks_by (stat.Break at) = sound
  statement_lacks_by (stat.Continue at) = sound
  statement_lacks_by (stat.Return at e) = option_lacks e

  abbrev pub statement_lacks : Stat → Faults
  statement_lacks = fold-Stat Faults statement_lacks_by

  abbrev pub block_lacks : List Stat → Faults
  block_lacks ss = all_lack (map statement_lacks ss)

  abbrev pub else_lacks : Option Stat → Faults
  else_lacks None = sound
  else_lacks (Some s) = statement_lacks s

  abbrev pub functions_lack : List Function → Faults
  functions_lack [] = sound
  functions_lack (f ∷ fs) = statement_lacks f.body also functions_lack fs

  abbrev pub tree_lacks : Typed → Faults
  tree_lacks t = functions_lack t.functions

-- the reason tells the first of them
pub record IsToldOf (faults : Faults) (r : Reason) : Type 0 where
  pub first : IsFirst faults (fault r.rule (record { line = r.line; column = r.column }))
  pub detail : r.detail ≡ 0

abbrev pub IsSound : Faults → Type 0
IsSound faults = (rule : ℕ) (at : At) → Breaks faults rule at → ⊥
