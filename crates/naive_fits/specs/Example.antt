-- A source that meets the premises of these laws: `int main(void){return 2*3;}`
use Rattle.std.specs.Prelude.{◌≡◌, Bool, true, false, [], ◌∷◌}
use Rattle.rtl_tree.specs.declared.expressions.BinOp.{BinOp}
use Rattle.rtl_tree.specs.declared.expressions.BinOp.TheVariants.{Mul}
use Rattle.c_tree.specs.declared.syntax.BinaryOperator.TheVariants.{Multiply}
use Rattle.c_tree.specs.declared.typed.Function.{Function}
use Rattle.c_tree.specs.declared.typed.Typed.{Typed}
use Rattle.c_meaning.specs.Sketches.{number, two, return, main}
use Rattle.naive_run.specs.Sound.{is_sound}
use Rattle.naive_fits.specs.Expandable.{is_expandable}
use Rattle.naive_fits.specs.Bounds.{IsBounded}

abbrev pub starting : Function
starting = main [] (return (two 1 (number 1 2) Multiply (number 1 3)) ∷ [])

abbrev pub source : Typed
source = record { statics = []; functions = starting ∷ [] }

-- a machine that multiplies, and has no other operator that it needn't have
abbrev pub multiplies : BinOp → Bool
multiplies Mul = true
multiplies o = false

abbrev pub nothing : BinOp → Bool
nothing o = false

pub record PremisesAreMet : Type 0 where
  pub bounded : IsBounded [] 16 source
  pub sound : is_sound [] 16 source ≡ true
  pub expandable : is_expandable multiplies 16 source ≡ true
  -- where nothing multiplies, the operator has to be lowered first
  pub lacking : is_expandable nothing 16 source ≡ false
