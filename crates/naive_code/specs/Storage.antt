-- Where the objects of a function are kept.
use Rattle.std.specs.Prelude.{ℕ, ◌+◌, ◌*◌, List, length, take, slice_get, Option, Some, None}
use Rattle.c_tree.specs.declared.types.CType.{CType}
use Rattle.c_tree.specs.declared.typed.Variable.{Variable}
use Rattle.c_tree.specs.declared.typed.Variable.TheVariants as variable
use Rattle.c_tree.specs.declared.typed.Object.{Object}
use Rattle.c_tree.specs.declared.typed.Static.{Static}
use Rattle.c_tree.specs.declared.typed.Function.{Function}
use Rattle.c_tree.specs.declared.typed.Typed.{Typed}
use Rattle.c_limits.specs.Frames.{arrays, scalars, word_bytes, frame_words}

-- where an array begins: at the address of an object, or so many bytes from the stack register on
pub data Base : Type 0 where
  Symbol : ℕ → Base
  Frame : ℕ → Base

-- a scalar of the function is in a temporary, one of the file a word of memory; the elements of an array are of a type
pub data Storage : Type 0 where
  Temporary : ℕ → Storage
  Word : (symbol : ℕ) → Storage
  Elements : Base → CType → Storage
  Missing : Storage

abbrev pub static_storage : ℕ → CType → Option ℕ → Storage
static_storage x t None = Word x
static_storage x t (Some n) = Elements (Symbol x) t

abbrev pub static_in : ℕ → Option Static → Storage
static_in x None = Missing
static_in x (Some s) = static_storage x s.object.element s.object.length

abbrev pub local_storage : ℕ → ℕ → CType → Option ℕ → Storage
local_storage temp offset t None = Temporary temp
local_storage temp offset t (Some n) = Elements (Frame offset) t

abbrev pub local_in : ℕ → ℕ → Option Object → Storage
local_in temp offset None = Missing
local_in temp offset (Some o) = local_storage temp offset o.element o.length

-- the temporaries of the parameters and local scalars
abbrev pub scalar_count : Function → ℕ
scalar_count f = length f.params + scalars f.locals

-- the arrays stand behind the words of the frame
abbrev pub arrays_from : (kept : List ℕ) → ℕ → Function → ℕ
arrays_from kept w f = word_bytes w * frame_words kept f

abbrev pub storage_of : (kept : List ℕ) → ℕ → Typed → Function → Variable → Storage
storage_of kept w t f (variable.Static x) = static_in x (slice_get t.statics x)
storage_of kept w t f (variable.Parameter x) = Temporary x
storage_of kept w t f (variable.Local x) =
    local_in (length f.params + scalars (take x f.locals)) (arrays_from kept w f + arrays w (take x f.locals)) (slice_get f.locals x)
