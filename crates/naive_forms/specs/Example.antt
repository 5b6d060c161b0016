-- A function that meets what is asked of functions: `int f(void){return 5;}`
use Rattle.std.specs.Prelude.{◌≡◌, ℕ, [], ◌∷◌, codes}
use Rattle.md_rows.specs.declared.description.RawDescription.{RawDescription}
use Rattle.md_shapes.specs.Shapes.{Frame as Fixed}
use Rattle.c_tree.specs.declared.typed.Function.{Function}
use Rattle.c_tree.specs.declared.typed.Typed.{Typed}
use Rattle.c_meaning.specs.Sketches.{number, return, function}
use Rattle.naive_forms.specs.Codes.{IsProper}

abbrev pub five : Function
five = function (codes "f") [] [] (return (number 1 5) ∷ [])

abbrev pub source : Typed
source = record { statics = []; functions = five ∷ [] }

-- on each machine with words of 16 bits
abbrev pub FiveIsProper : Type 0
FiveIsProper = (d : RawDescription) (m : Fixed) (label : ℕ) → d.word ≡ 16 → IsProper [] d m source five label
