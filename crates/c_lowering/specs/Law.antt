-- On inputs on which the source never fails, the lowered program does the same.
use Rattle.std.specs.Prelude.{◌≡◌, ℕ, List, Bool, true, not, ◌||◌}
use Rattle.behaviour.specs.Run.{Same}
use Rattle.rtl_word.specs.Words.{IsWordSize}
use Rattle.c_tree.specs.declared.typed.Function.{Function}
use Rattle.c_tree.specs.declared.typed.Typed.{Typed}
use Rattle.c_limits.specs.Frames.{frame_bytes}
use Rattle.c_meaning.specs.Settings.{setting_of}
use Rattle.c_meaning.specs.Run.{source_run, IsClean}
use Rattle.c_lowering.specs.Lowering.{Operators, lower_function, lower}
use Rattle.c_lowering.specs.Holding.{holds_only}

-- where these registers are kept over calls, on words of w bits and so many bytes of stack
abbrev pub LoweredDoesTheSame : Type 0
LoweredDoesTheSame =
    (kept : List ℕ) (w stack : ℕ) → IsWordSize w → (p : Operators) (t : Typed) (input : List ℕ)
    → IsClean (setting_of kept w stack) t input → Same (source_run (setting_of kept w stack) t input) (source_run (setting_of kept w stack) (lower p w t) input)

-- no function takes more of the stack, or less, once it is lowered
abbrev pub FramesStay : Type 0
FramesStay = (kept : List ℕ) (w : ℕ) (p : Operators) (n : ℕ) (f : Function) → frame_bytes kept w (lower_function p n f) ≡ frame_bytes kept w f

-- where each operator that a machine lacks, of those that the program has, is lowered, none of them is left
abbrev pub NoneIsLeft : Type 0
NoneIsLeft =
    (lacks p : Operators) (w : ℕ) (t : Typed)
    → holds_only (λ k. not (lacks k) || p k) t ≡ true → holds_only (λ k. not (lacks k)) (lower p w t) ≡ true
