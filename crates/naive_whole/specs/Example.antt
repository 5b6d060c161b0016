-- A program and its naive code, by which all premises of the law are met: `int s=7;int f(int a){return a+s;}int main(void){return f(5);}`
use Rattle.std.specs.Prelude.{◌≡◌, ℕ, zero, suc, ◌==◌, true, List, [], ◌∷◌, None, codes}
use Rattle.behaviour.specs.Behaviour.{Ended}
use Rattle.rtl_tree.specs.declared.cells.Cell.TheVariants.{Temp}
use Rattle.rtl_tree.specs.declared.cells.Lab.TheVariants as label
use Rattle.rtl_tree.specs.declared.expressions.BinOp.TheVariants as op
use Rattle.rtl_tree.specs.Moves.{Move}
use Rattle.md_shapes.specs.declared.patterns.Pattern.TheVariants as shape
use Rattle.md_shapes.specs.Shapes.{Frame as Fixed, shape_moves}
use Rattle.c_tree.specs.declared.types.CType.TheVariants as type
use Rattle.c_tree.specs.declared.syntax.BinaryOperator.TheVariants.{Add}
use Rattle.c_tree.specs.declared.typed.Callee.TheVariants.{Defined}
use Rattle.c_tree.specs.declared.typed.Variable.TheVariants as variable
use Rattle.c_tree.specs.declared.typed.TypedExpr.{TypedExpr}
use Rattle.c_tree.specs.declared.typed.TypedExpr.TheOpen as expr
use Rattle.c_tree.specs.declared.typed.TypedExpr.TheViews.{roll-TypedExpr}
use Rattle.c_tree.specs.declared.typed.Function.{Function}
use Rattle.c_tree.specs.declared.typed.Typed.{Typed}
use Rattle.c_limits.specs.Frames.{frame_bytes}
use Rattle.c_meaning.specs.Sketches.{of_int, number, two, call, return, object, function, main as main_function}
use Rattle.c_meaning.specs.Settings.{setting_of}
use Rattle.c_meaning.specs.Run.{IsClean}
use Rattle.temp_machine.specs.Routines.{Calls, Returns, BasicBlock, Routine, no_routine, Image, Target}
use Rattle.temp_machine.specs.Machine.{temporary_run}
use Rattle.naive_code.specs.Operations.{on_two, with_number, with_symbol}
use Rattle.naive_code.specs.Functions.{function_homes, slots_of, first_home_of}
use Rattle.naive_run.specs.Standing.{Shaped, shaped}
use Rattle.naive_run.specs.Sound.{is_sound}
use Rattle.naive_run.specs.Law.{IsFixedBy, IsSoundTarget, IsUnitOf, run_of}

-- ---- the source

abbrev pub parameter : ℕ → TypedExpr
parameter x = roll-TypedExpr (expr.Object (of_int 1) (variable.Parameter x))

abbrev pub static : ℕ → TypedExpr
static x = roll-TypedExpr (expr.Object (of_int 1) (variable.Static x))

abbrev pub adding : Function
adding = function (codes "f") (object type.Int None ∷ []) [] (return (two 1 (parameter 0) Add (static 0)) ∷ [])

abbrev pub starting : Function
starting = main_function [] (return (call 1 (Defined 0) (number 1 5 ∷ [])) ∷ [])

abbrev pub source : Typed
source = record { statics = record { object = object type.Int None; init = 7 ∷ [] } ∷ []; functions = adding ∷ starting ∷ [] }

-- ---- the machine: words of 16 bits, no link register, and none that is kept

abbrev pub target : Target
target = record { word = 16; memory = 60000; base = 1000; stack = 4000; sp = 6; result = 0; link = None; general = λ n. n == 1; kept = [] }

abbrev pub fixed : Fixed
fixed = record { bits = 16; stack = 6; result = 0; link = None; memory = 60000 }

-- ---- the code: each shape stands as it is

abbrev pub made : Shaped → List Move
made s = shape_moves fixed s.pattern s.at

abbrev pub adding_code : List BasicBlock
adding_code =
    record {
      label = 10;
      body = made (shaped shape.LoadHome (with_number 0 60)) ∷ made (shaped shape.Copy (on_two 1 0)) ∷ made (shaped shape.SetSymbol (with_symbol 2 0))
          ∷ made (shaped shape.Load (on_two 2 2)) ∷ made (shaped (shape.Operate op.Add) (on_two 1 2)) ∷ made (shaped shape.SetResult (on_two 1 1)) ∷ [];
      exit = Returns;
    }
    ∷ record { label = 11; body = []; exit = Returns } ∷ []

abbrev pub calling : List Move
calling = made (shaped shape.Call (record { a = Temp 0; b = Temp 0; number = 0; symbol = 0; label = label.Function 0 }))

abbrev pub starting_code : List BasicBlock
starting_code =
    record { label = 20; body = made (shaped shape.SetNumber (with_number 0 5)) ∷ made (shaped shape.StoreTop (on_two 0 0)) ∷ []; exit = Calls calling }
    ∷ record { label = 21; body = made (shaped shape.ReadResult (on_two 1 1)) ∷ made (shaped shape.SetResult (on_two 1 1)) ∷ []; exit = Returns }
    ∷ record { label = 22; body = made (shaped shape.SetNumber (with_number 2 0)) ∷ made (shaped shape.SetResult (on_two 2 2)) ∷ []; exit = Returns } ∷ []

abbrev pub routine : ℕ → Function → List BasicBlock → Routine
routine params f blocks = record {
  params = params;
  frame = frame_bytes [] 16 f;
  first_home = first_home_of [] 16 f;
  slots = slots_of f;
  homes = function_homes [] 16 source f;
  blocks = blocks;
}

abbrev pub routines : ℕ → Routine
routines zero = routine 1 adding adding_code
routines (suc zero) = routine 0 starting starting_code
routines (suc (suc g)) = no_routine

abbrev pub image : Image
image = record { routines = routines; main = 1; symbols = 1000 ∷ []; bytes = 7 ∷ 0 ∷ [] }

-- ---- the premises of the law

pub record PremisesAreMet : Type 0 where
  pub fixed_by : IsFixedBy target fixed
  pub machine : IsSoundTarget target image
  pub sound : is_sound [] 16 source ≡ true
  pub unit : IsUnitOf target fixed source image
  pub clean : IsClean (setting_of [] 16 4000) source []

-- the source ends with 12 within two turns, and so does the code within some number of blocks
abbrev pub EndsAsItsSource : Type 0
EndsAsItsSource = (run_of target source [] 2 ≡ Ended [] 12) × ((m : ℕ) × (temporary_run target image [] m ≡ Ended [] 12))
