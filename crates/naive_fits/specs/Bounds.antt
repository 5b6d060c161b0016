-- What the limits on sources say of what naive code names.
use Rattle.std.specs.Prelude.{◌≡◌, ◌≤◌, ◌^◌, ℕ, List, [], length, All}
use Rattle.rtl_word.specs.Words.{IsWordSize}
use Rattle.c_tree.specs.declared.typed.Typed.{Typed}
use Rattle.c_limits.specs.Frames.{frame_bytes}
use Rattle.c_limits.specs.Limits.{limit_faults}

-- offsets reach each word of a frame, and functions and objects have numbers of 16 bits
pub record IsBounded (kept : List ℕ) (w : ℕ) (t : Typed) : Type 0 where
  pub frames : All (λ f. frame_bytes kept w f ≤ 32000) t.functions
  pub functions : length t.functions ≤ 2 ^ 16
  pub statics : length t.statics ≤ 2 ^ 16

abbrev pub LimitsBound : Type 0
LimitsBound = (kept : List ℕ) (w room : ℕ) (t : Typed) → IsWordSize w → limit_faults kept w room t ≡ [] → IsBounded kept w t
