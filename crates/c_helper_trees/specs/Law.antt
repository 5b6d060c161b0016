-- What a call of a helper does, and what it takes of the stack.
use Rattle.std.specs.Prelude.{◌≡◌, ℕ, suc, ◌+◌, ◌*◌, ◌^◌, ◌<◌, ◌≤◌, List, [], ◌∷◌, length, Some, slice_get}
use Rattle.rtl_word.specs.Words.{IsWordSize}
use Rattle.c_tree.specs.declared.token.At.{At}
use Rattle.c_tree.specs.declared.typed.Typed.{Typed}
use Rattle.c_limits.specs.Frames.{call_bytes, frame_bytes, word_bytes}
use Rattle.c_meaning.specs.Parts.{Setting, State, give, word}
use Rattle.c_meaning.specs.Run.{call_at}
use Rattle.c_helpers.specs.declared.operator.Operator.{Operator}
use Rattle.c_helpers.specs.Operators.{given_by}
use Rattle.c_helper_trees.specs.Trees.{function_of}

-- wherever a helper stands in a program, its call gives what its operator gives, prints nothing and leaves all objects as they are
abbrev pub HelperCalls : Type 0
HelperCalls =
    (m : Setting) (t : Typed) → IsWordSize m.bits → (o : Operator) (f : ℕ) → slice_get t.functions f ≡ Some (function_of m.bits o) → m.takes (function_of m.bits o) ≡ 0
    → (x y v : ℕ) → x < 2 ^ m.bits → y < 2 ^ m.bits → given_by m.bits o x y ≡ Some v
    → (n d used : ℕ) → m.bits ≤ n → 256 + used ≤ m.stack
    → (at : At) (s : State) → call_at m t n (suc d) used at f (x ∷ y ∷ []) s ≡ give (word v) s

-- of the 256 bytes that stand for a call of a helper, 32 are left beside the registers that are kept over calls
abbrev pub HelperFrames : Type 0
HelperFrames =
    (kept : List ℕ) (w : ℕ) → IsWordSize w → (o : Operator)
    → frame_bytes kept w (function_of w o) + word_bytes w ≤ 224 + word_bytes w * length kept

-- the calls of a program take no more for the helpers that they make
abbrev pub HelpersTakeNothing : Type 0
HelpersTakeNothing = (kept : List ℕ) (w : ℕ) (o : Operator) → call_bytes kept w (function_of w o) ≡ 0
