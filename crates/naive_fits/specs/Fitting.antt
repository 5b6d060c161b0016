-- The operations of a function can be made.
use Rattle.std.specs.Prelude.{◌≡◌, ℕ, ◌/◌, Bool, true, List, Option, Some, slice_get}
use Rattle.rtl_word.specs.Words.{IsWordSize}
use Rattle.rtl_tree.specs.declared.expressions.BinOp.{BinOp}
use Rattle.md_rows.specs.declared.description.RawDescription.{RawDescription}
use Rattle.c_tree.specs.declared.typed.Function.{Function}
use Rattle.c_tree.specs.declared.typed.Typed.{Typed}
use Rattle.temp_machine.specs.Routines.{pushed_by}
use Rattle.naive_code.specs.Functions.{function_ops}
use Rattle.naive_run.specs.Sound.{is_sound}
use Rattle.naive_fits.specs.Doable.{AreDoable}
use Rattle.naive_fits.specs.Expandable.{AreThere, is_expandable}
use Rattle.naive_fits.specs.Bounds.{IsBounded}

-- those of each function of a sound tree whose operators the description has
abbrev pub OperationsFit : Type 0
OperationsFit =
    (kept : List ℕ) (d : RawDescription) (link : Option ℕ) (has : BinOp → Bool) (t : Typed) (n : ℕ) (f : Function) (label : ℕ) → IsWordSize d.word
    → AreThere d has → IsBounded kept d.word t → is_sound kept d.word t ≡ true → is_expandable has d.word t ≡ true → slice_get t.functions n ≡ Some f
    → AreDoable d (function_ops kept d.word (pushed_by link (d.word / 8)) t f label)
