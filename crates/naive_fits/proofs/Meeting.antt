-- The example meets the premises.
use Rattle.std.proofs.Common.{◌≡◌, ◌≤◌, [], ◌∷◌, Some, refl, ap, ◌∙◌, arith, true}
use Rattle.std.proofs.lemmas.List.Elements.{All-from_recursion}
use Rattle.std.specs.Prelude.{Bool, ◌&&◌}
use Rattle.rtl_tree.specs.declared.expressions.BinOp.{BinOp}
use Rattle.rtl_tree.specs.declared.expressions.BinOp.TheVariants.{Mul}
use Rattle.c_tree.specs.declared.types.CType.TheVariants as type
use Rattle.c_tree.specs.declared.syntax.BinaryOperator.TheVariants.{Multiply}
use Rattle.c_tree.specs.declared.typed.TypedExpr.{TypedExpr}
use Rattle.c_tree.specs.declared.typed.TypedExpr.TheOpen.{Constant, Binary}
use Rattle.c_tree.specs.declared.typed.TypedExpr.TheFolds.{fold-TypedExpr, fold-roll-TypedExpr}
use Rattle.c_tree.specs.declared.typed.Stat.TheOpen.{Block, Return}
use Rattle.c_tree.specs.declared.typed.Stat.TheFolds.{fold-roll-Stat}
use Rattle.c_limits.specs.Frames.{frame_bytes}
use Rattle.c_meaning.specs.Sketches.{of_int, somewhere, number, two, return}
use Rattle.naive_run.specs.Sound.{is_sound}
use Rattle.naive_fits.specs.Expandable.{Used, used_by, all_so, expandable_by, is_expandable_function}
use Rattle.naive_fits.specs.Bounds.{IsBounded}
use Rattle.naive_fits.specs.Example.{starting, source, multiplies, nothing, PremisesAreMet}

frame : frame_bytes [] 16 starting ≡ 56
frame = simp (fold-roll-Stat, fold-roll-TypedExpr) refl

bounded : IsBounded [] 16 source
bounded = record {
  frames = All-from_recursion (λ f. frame_bytes [] 16 f ≤ 32000) (starting ∷ []) (omega (arith, frame), tt);
  functions = omega arith;
  statics = omega arith;
}

sound : is_sound [] 16 source ≡ true
sound = simp (fold-roll-Stat, fold-roll-TypedExpr) refl

module _ (has : BinOp → Bool) where
  abbrev used : TypedExpr → Used
  used = fold-TypedExpr Used (used_by has)

  abbrev product : TypedExpr
  product = two 1 (number 1 2) Multiply (number 1 3)

  product_is : used product ≡ record { of = type.Int; there = has Mul }
  product_is =
      fold-roll-TypedExpr Used (used_by has) (Binary (of_int 1) (number 1 2) Multiply (number 1 3))
      ∙ (ap (λ a. used_by has (Binary (of_int 1) a Multiply (used (number 1 3)))) (fold-roll-TypedExpr Used (used_by has) (Constant (of_int 1) 2))
      ∙ ap (λ b. used_by has (Binary (of_int 1) (record { of = type.Int; there = true }) Multiply b)) (fold-roll-TypedExpr Used (used_by has) (Constant (of_int 1) 3)))

  function_is : is_expandable_function has 16 starting ≡ (has Mul && true)
  function_is =
      fold-roll-Stat Bool (expandable_by has 16) (Block somewhere (return product ∷ []))
      ∙ (ap (λ b. all_so (b ∷ [])) (fold-roll-Stat Bool (expandable_by has 16) (Return somewhere (Some product)))
      ∙ ap (λ (u : Used). all_so (u.there ∷ [])) product_is)

pub premises_are_met : PremisesAreMet
premises_are_met = record {
  bounded = bounded;
  sound = sound;
  expandable = ap (λ b. b && true) (function_is multiplies);
  lacking = ap (λ b. b && true) (function_is nothing);
}
