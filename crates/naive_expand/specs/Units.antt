-- The code of a whole source.
use Rattle.std.specs.Prelude.{◌≡◌, ℕ, ◌-◌, Bool, true, List, [], ◌∷◌, ◌++◌, length, map, Some, All}
use Rattle.behaviour.specs.Run.{AreBytes, Same}
use Rattle.rtl_tree.specs.declared.expressions.BinOp.{BinOp}
use Rattle.md_rows.specs.declared.description.RawDescription.{RawDescription}
use Rattle.md_shapes.specs.Shapes.{Frame as Fixed}
use Rattle.md_covers.specs.Covers.{frame_in}
use Rattle.c_tree.specs.declared.typed.Typed.{Typed}
use Rattle.c_limits.specs.Limits.{static_faults}
use Rattle.c_meaning.specs.Settings.{setting_of}
use Rattle.c_meaning.specs.Run.{IsClean}
use Rattle.temp_machine.specs.Machine.{temporary_run}
use Rattle.temp_code.specs.declared.code.Code.{Code}
use Rattle.temp_code.specs.declared.code.Unit.{Unit as Program}
use Rattle.temp_code.specs.Realised.{AreRealised}
use Rattle.temp_code.specs.Routines.{image_of}
use Rattle.naive_code.specs.Functions.{numbers_from}
use Rattle.naive_run.specs.Law.{IsUnitOf, IsSoundTarget, run_of}
use Rattle.naive_builder.specs.Finished.{AreOnce}
use Rattle.naive_fits.specs.Expandable.{AreThere, is_expandable}
use Rattle.naive_units.specs.Trees.{IsProperTree}
use Rattle.naive_units.specs.Units.{IsGoodUnit}
use Rattle.naive_expand.specs.Codes.{machine_of, AreElementary}

-- What typing, the limits and the description give of a tree: it is sound and bounded, its objects have room, and the description has its
-- operators.
pub record MayBeExpanded (d : RawDescription) (t : Typed) : Type 0 where
  pub proper : IsProperTree [] d.word t
  pub room : static_faults d.word (d.memory - d.stack - d.base) 0 0 t.statics ≡ []
  pub has : BinOp → Bool
  pub there : AreThere d has
  pub expandable : is_expandable has d.word t ≡ true

-- the labels of all blocks
abbrev pub labels_of : List Code → List ℕ
labels_of [] = []
labels_of (c ∷ cs) = map (λ b. b.label) c.blocks ++ labels_of cs

-- the naive code of a tree: its names, functions and objects are the tree's, its transfers are those of instructions, each elementary; it is
-- such as each pass may ask; and wherever the source does nothing undefined it does what the source does
pub record IsNaiveCode (d : RawDescription) (t : Typed) (u : Program) : Type 0 where
  pub frame : Fixed
  pub fixed : frame_in d ≡ Some frame
  pub functions : u.names.functions ≡ map (λ f. f.name) t.functions
  pub objects : u.names.objects ≡ map (λ s. s.object.name) t.statics
  pub numbers : map (λ c. c.function) u.codes ≡ numbers_from 0 (length t.functions)
  pub addresses : length u.symbols ≡ length t.statics
  pub machine : IsSoundTarget (machine_of d frame) (image_of u)
  pub unit : IsUnitOf (machine_of d frame) frame t (image_of u)
  pub labels : AreOnce (labels_of u.codes)
  pub realised : All (AreRealised d) u.codes
  pub elementary : All (AreElementary d) u.codes
  pub good : IsGoodUnit [] d frame t u
  pub same : (input : List ℕ) → AreBytes input → IsClean (setting_of [] d.word d.stack) t input
      → Same (run_of (machine_of d frame) t input) (temporary_run (machine_of d frame) (image_of u) input)
