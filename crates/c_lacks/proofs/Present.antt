-- What a tree lacks and what it has are told by the same test, node for node.
use Rattle.std.proofs.Common.{◌≡◌, Bool, true, false, ◌&&◌, List, [], ◌∷◌, map, Option, Some, None, inl, inr, refl, sym, ap, ◌∙◌}
use Rattle.std.specs.List.{list_all}
use Rattle.rtl_tree.specs.declared.expressions.BinOp.{BinOp}
use Rattle.c_tree.specs.declared.token.At.{At}
use Rattle.c_tree.specs.declared.typed.TypedExpr.{TypedExpr}
use Rattle.c_tree.specs.declared.typed.TypedExpr.TheOpen.{TypedExpr-F, Comma, Assign, Compound, Conditional, Binary, Unary, Before, After, Constant, Object, Element, Call, Convert}
use Rattle.c_tree.specs.declared.typed.TypedExpr.TheFolds.{map-TypedExpr}
use Rattle.c_tree.specs.declared.typed.LocalInit.{LocalInit}
use Rattle.c_tree.specs.declared.typed.LocalInit.TheVariants as init
use Rattle.c_tree.specs.declared.typed.Local.{Local}
use Rattle.c_tree.specs.declared.typed.Start.{Start}
use Rattle.c_tree.specs.declared.typed.Start.TheVariants as start
use Rattle.c_tree.specs.declared.typed.Stat.TheOpen as stat
use Rattle.c_tree.specs.declared.typed.Stat.TheFolds.{map-Stat}
use Rattle.c_tree.specs.declared.typed.Function.{Function}
use Rattle.c_tree.specs.declared.typed.Typed.{Typed}
use Rattle.c_tree.proofs.TypedFolds.{Both, expr_relates, stat_relates}
use Rattle.c_meaning.specs.Operators.{sort_of}
use Rattle.c_typing.specs.Faults.{Faults, sound, broken, ◌also◌, clean}
use Rattle.naive_fits.specs.Expandable.{Used, all_there, all_so, sort_there, operation_there, used_by, is_there_in, option_there, init_there, locals_there, start_there}
use Rattle.c_lacks.specs.Lacks.{Lacking, each_lacks, all_lack, lacking, lacking_by, expression_lacks, list_lacks, option_lacks, init_lacks, locals_lack, start_lacks, statement_lacks_by, functions_lack, tree_lacks, IsSound}
use Rattle.naive_regular.specs.Operators.{statement_there_by, function_there, operators_there}

-- what breaks nothing is clean
sound_is_clean : (fs : Faults) → IsSound fs → clean fs ≡ true
sound_is_clean sound h = refl
sound_is_clean (broken rule at) h = absurd (h rule at (refl, refl))
sound_is_clean (f also g) h =
    ap (λ b. b && clean g) (sound_is_clean f (λ rule at b. h rule at (inl b))) ∙ sound_is_clean g (λ rule at b. h rule at (inr b))

told_clean : (there : Bool) (at : At) → clean (lacking there at) ≡ there
told_clean true at = refl
told_clean false at = refl

both : {x y u v : Bool} → x ≡ u → y ≡ v → (x && y) ≡ (u && v)
both {x} {y} {u} {v} p q = ap (λ b. b && y) p ∙ ap (λ b. u && b) q

three : {x y z u v w : Bool} → x ≡ u → y ≡ v → z ≡ w → ((x && y) && z) ≡ ((u && v) && w)
three p q r = both (both p q) r

swapped : (x y : Bool) → (x && y) ≡ (y && x)
swapped true true = refl
swapped true false = refl
swapped false true = refl
swapped false false = refl

module _ (has : BinOp → Bool) where
  -- the types are the same, and nothing is lacked where all is there
  abbrev Alike : Lacking → Used → Type 0
  Alike a b = (a.of ≡ b.of) × (clean a.faults ≡ b.there)

  each_alike : (es : List (Both Alike)) → clean (each_lacks (map (λ e. e.0) es)) ≡ all_there (map (λ e. e.1) es)
  each_alike [] = refl
  each_alike (e ∷ es) = both e.2.1 (each_alike es)

  node_alike : (y : TypedExpr-F (Both Alike)) → Alike (lacking_by has (map-TypedExpr (Both Alike) Lacking (λ e. e.0) y)) (used_by has (map-TypedExpr (Both Alike) Used (λ e. e.1) y))
  node_alike (Constant h v) = (refl, refl)
  node_alike (Object h x) = (refl, refl)
  node_alike (Element h x i) = (refl, i.2.1)
  node_alike (Assign h a b) = (refl, both a.2.1 b.2.1)
  node_alike (Compound h a o b) = (
    refl,
    three a.2.1 b.2.1
        (told_clean (operation_there has o a.0.of b.0.of) h.at
        ∙ (ap (λ t. operation_there has o t b.0.of) a.2.0 ∙ ap (λ t. operation_there has o a.1.of t) b.2.0)),
  )
  node_alike (Before h o a) = (refl, a.2.1)
  node_alike (After h a o) = (refl, a.2.1)
  node_alike (Binary h a o b) = (
    refl,
    three a.2.1 b.2.1 (told_clean (sort_there has (sort_of o) a.0.of) h.at ∙ ap (λ t. sort_there has (sort_of o) t) a.2.0),
  )
  node_alike (Unary h o a) = (refl, a.2.1)
  node_alike (Convert h a) = (refl, a.2.1)
  node_alike (Comma h a b) = (refl, both a.2.1 b.2.1)
  node_alike (Conditional h a b c) = (refl, three a.2.1 b.2.1 c.2.1)
  node_alike (Call h g es) = (refl, each_alike es)

  expression_alike : (e : TypedExpr) → clean (expression_lacks has e) ≡ is_there_in has e
  expression_alike e = (expr_relates Lacking Used (lacking_by has) (used_by has) Alike node_alike e).1

  list_alike : (es : List TypedExpr) → clean (list_lacks has es) ≡ list_all (is_there_in has) es
  list_alike [] = refl
  list_alike (e ∷ es) = both (expression_alike e) (list_alike es)

  option_alike : (e : Option TypedExpr) → clean (option_lacks has e) ≡ option_there has e
  option_alike None = refl
  option_alike (Some e) = expression_alike e

  init_alike : (i : LocalInit) → clean (init_lacks has i) ≡ init_there has i
  init_alike init.Absent = refl
  init_alike (init.Value e) = expression_alike e
  init_alike (init.List es) = list_alike es

  locals_alike : (ls : List Local) → clean (locals_lack has ls) ≡ locals_there has ls
  locals_alike [] = refl
  locals_alike (l ∷ ls) = both (init_alike l.init) (locals_alike ls)

  start_alike : (s : Start) → clean (start_lacks has s) ≡ start_there has s
  start_alike start.Absent = refl
  start_alike (start.Value e) = expression_alike e
  start_alike (start.Declared at ls) = locals_alike ls

  abbrev Same : Faults → Bool → Type 0
  Same f b = clean f ≡ b

  all_alike : (ss : List (Both Same)) → clean (all_lack (map (λ e. e.0) ss)) ≡ all_so (map (λ e. e.1) ss)
  all_alike [] = refl
  all_alike (s ∷ ss) = both s.2 (all_alike ss)

  statement_step : (y : stat.Stat-F (Both Same)) → Same (statement_lacks_by has (map-Stat (Both Same) Faults (λ e. e.0) y)) (statement_there_by has (map-Stat (Both Same) Bool (λ e. e.1) y))
  statement_step (stat.Block at ss) = all_alike ss
  statement_step (stat.Declare at ls) = locals_alike ls
  statement_step (stat.Evaluate at e) = option_alike e
  statement_step (stat.If at e a None) = three (expression_alike e) a.2 refl
  statement_step (stat.If at e a (Some b)) = three (expression_alike e) a.2 b.2
  statement_step (stat.While at e a) = both (expression_alike e) a.2
  statement_step (stat.DoWhile at a e) = both a.2 (expression_alike e)
  statement_step (stat.For at first test step a) =
      both (three (start_alike first) (option_alike test) (option_alike step)) a.2
  statement_step (stat.Switch at e ss) =
      swapped (clean (all_lack (map (λ s. s.0) ss))) (clean (expression_lacks has e)) ∙ both (expression_alike e) (all_alike ss)
  statement_step (stat.Case at v a) = a.2
  statement_step (stat.Default at a) = a.2
  statement_step (stat.Break at) = refl
  statement_step (stat.Continue at) = refl
  statement_step (stat.Return at e) = option_alike e

  functions_alike : (fs : List Function) → clean (functions_lack has fs) ≡ list_all (function_there has) fs
  functions_alike [] = refl
  functions_alike (f ∷ fs) = both (stat_relates Faults Bool (statement_lacks_by has) (statement_there_by has) Same statement_step f.body) (functions_alike fs)

pub none_is_lacked : (has : BinOp → Bool) (t : Typed) → IsSound (tree_lacks has t) → operators_there has t ≡ true
none_is_lacked has t h = sym (functions_alike has t.functions) ∙ sound_is_clean (tree_lacks has t) h
