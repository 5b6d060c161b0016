-- What is promised of typed trees before they are expanded.
use Rattle.std.specs.Prelude.{◌≡◌, ◌≤◌, ℕ, ◌+◌, List, true, Some, slice_get}
use Rattle.std.specs.List.{list_all}
use Rattle.rtl_word.specs.Words.{IsWordSize}
use Rattle.c_tree.specs.declared.syntax.Syntax.{Syntax}
use Rattle.c_tree.specs.declared.typed.Function.{Function}
use Rattle.c_tree.specs.declared.typed.Typed.{Typed}
use Rattle.c_typing.specs.Program.{IsTyped}
use Rattle.c_limits.specs.Weights.{function_weight}
use Rattle.naive_code.specs.Functions.{function_ops}
use Rattle.naive_run.specs.Sound.{is_sound}
use Rattle.naive_counts.specs.Names.{names_scalars}
use Rattle.naive_counts.specs.Counts.{most_in}

-- at any number of bits, and whatever registers are kept over calls: typing names no function as a helper
abbrev pub TypedIsSound : Type 0
TypedIsSound = (kept : List ℕ) (w : ℕ) (s : Syntax) (t : Typed) → IsTyped w s t → is_sound kept w t ≡ true

-- in no function an array is named but by its elements
abbrev pub TypedNamesScalars : Type 0
TypedNamesScalars = (w : ℕ) (s : Syntax) (t : Typed) → IsWordSize w → IsTyped w s t → list_all (λ f. names_scalars t f f.body) t.functions ≡ true

-- so the naive code of each has no more transfers than it weighs, with 16 to spare
abbrev pub TypedIsWithinWeight : Type 0
TypedIsWithinWeight =
    (kept : List ℕ) (w pushed : ℕ) (s : Syntax) (t : Typed) (g : ℕ) (f : Function) (label : ℕ) → IsWordSize w → IsTyped w s t → slice_get t.functions g ≡ Some f
    → most_in (function_ops kept w pushed t f label) + 16 ≤ function_weight kept f
