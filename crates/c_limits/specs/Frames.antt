-- How many bytes objects and frames take.
use Rattle.std.specs.Prelude.{ℕ, ◌+◌, ◌-◌, ◌*◌, ◌/◌, ◌==◌, ◌&&◌, max, Bool, true, false, List, [], ◌∷◌, length, Option, Some, None, if◌then◌else◌}
use Rattle.c_tree.specs.declared.types.CType.{CType}
use Rattle.c_tree.specs.declared.types.CType.TheVariants as type
use Rattle.c_tree.specs.declared.typed.Object.{Object}
use Rattle.c_tree.specs.declared.typed.Function.{Function}
use Rattle.c_limits.specs.Depths.{arguments_of, depth_of, greatest_in}

-- a word has 16 or 32 bits
abbrev pub word_bytes : ℕ → ℕ
word_bytes w = if w == 16 then 2 else 4

-- ---- objects

abbrev pub element_bytes : ℕ → CType → ℕ
element_bytes w type.Schar = 1
element_bytes w type.Uchar = 1
element_bytes w _ = word_bytes w

-- rounded up to a word
abbrev pub rounded : ℕ → ℕ → ℕ
rounded w n = (n + (word_bytes w - 1)) / word_bytes w * word_bytes w

abbrev pub array_bytes : ℕ → CType → ℕ → ℕ
array_bytes w t n = rounded w (n * element_bytes w t)

-- a scalar is a word, also one of a character type
abbrev pub bytes_by : ℕ → CType → Option ℕ → ℕ
bytes_by w t None = word_bytes w
bytes_by w t (Some n) = array_bytes w t n

abbrev pub object_bytes : ℕ → Object → ℕ
object_bytes w o = bytes_by w o.element o.length

-- ---- frames

abbrev pub scalar_in : Option ℕ → ℕ
scalar_in None = 1
scalar_in (Some n) = 0

abbrev pub scalars : List Object → ℕ
scalars [] = 0
scalars (o ∷ os) = scalar_in o.length + scalars os

abbrev pub array_in : ℕ → CType → Option ℕ → ℕ
array_in w t None = 0
array_in w t (Some n) = array_bytes w t n

abbrev pub arrays : ℕ → List Object → ℕ
arrays w [] = 0
arrays w (o ∷ os) = array_in w o.element o.length + arrays w os

-- the outgoing arguments, the link, the registers that are kept over calls, 16 homes in reserve, and a home for each scalar and
-- each depth of evaluation
abbrev pub frame_words : (kept : List ℕ) → Function → ℕ
frame_words kept f =
    max 2 (greatest_in arguments_of f.body) + 1 + length kept + 16 + length f.params + scalars f.locals + (greatest_in depth_of f.body + 4)

abbrev pub frame_bytes : (kept : List ℕ) → ℕ → Function → ℕ
frame_bytes kept w f = word_bytes w * frame_words kept f + arrays w f.locals

-- a helper's name begins with two underscores, as no name of a source does
abbrev pub is_helper : List ℕ → Bool
is_helper (a ∷ b ∷ rest) = (a == 95) && (b == 95)
is_helper _ = false

-- what an active call takes of the stack: its frame and the word of its return, and nothing for a helper
abbrev pub call_bytes : (kept : List ℕ) → ℕ → Function → ℕ
call_bytes kept w f = if is_helper f.name then 0 else frame_bytes kept w f + word_bytes w
