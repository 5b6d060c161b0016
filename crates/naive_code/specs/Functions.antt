-- The code of functions.
use Rattle.std.specs.Prelude.{ℕ, zero, suc, ◌+◌, ◌-◌, ◌*◌, Bool, true, false, List, [], ◌∷◌, ◌++◌, length, map}
use Rattle.c_tree.specs.declared.typed.Function.{Function}
use Rattle.c_tree.specs.declared.typed.Typed.{Typed}
use Rattle.c_limits.specs.Frames.{word_bytes, frame_bytes, frame_words}
use Rattle.c_limits.specs.Depths.{greatest_in, depth_of}
use Rattle.c_meaning.specs.Run.{is_main}
use Rattle.naive_code.specs.Operations.{Op, constant, load_home, set_result}
use Rattle.naive_code.specs.Storage.{storage_of, scalar_count}
use Rattle.naive_code.specs.Expressions.{Site}
use Rattle.naive_code.specs.Statements.{Steps, Around, steps_of}

abbrev pub site_of : (kept : List ℕ) → ℕ → Typed → Function → Site
site_of kept w t f = record { bits = w; storage = storage_of kept w t f }

-- parameter i is loaded into temporary i from i words above the frame and what a call pushed
abbrev pub entry_from : ℕ → ℕ → (i count : ℕ) → List Op
entry_from bytes offset i zero = []
entry_from bytes offset i (suc n) = load_home i (offset + bytes * i) ∷ entry_from bytes offset (suc i) n

abbrev pub body_steps : (kept : List ℕ) → ℕ → Typed → Function → Steps
body_steps kept w t f = steps_of (site_of kept w t f) f.locals f.body

-- `main` that comes to its `}` returns 0 (C11 5.1.2.2.3)
abbrev pub ending : Bool → ℕ → List Op
ending true t = constant t 0 ∷ set_result t ∷ []
ending false t = []

-- nothing around a function's body can be left by `break` or `continue`
abbrev pub nowhere : Around
nowhere = record { breaks = 0; continues = 0 }

-- The operations of a function up to its last return, where the label of its first block is given, and those behind it are fresh.
abbrev pub function_ops : (kept : List ℕ) → (w pushed : ℕ) → Typed → Function → (label : ℕ) → List Op
function_ops kept w pushed t f l =
    entry_from (word_bytes w) (frame_bytes kept w f + pushed) 0 (length f.params)
    ++ ((body_steps kept w t f).ops nowhere (scalar_count f) (l + 1)
    ++ ending (is_main f) (scalar_count f + (body_steps kept w t f).temps))

-- how many labels the function takes
abbrev pub function_labels : (kept : List ℕ) → ℕ → Typed → Function → ℕ
function_labels kept w t f = 1 + (body_steps kept w t f).labels

-- ---- homes

abbrev pub numbers_from : ℕ → ℕ → List ℕ
numbers_from n zero = []
numbers_from n (suc k) = n ∷ numbers_from (suc n) k

-- homes 0 to 15 are in reserve; each parameter and local scalar has one, and each depth of evaluation
abbrev pub function_homes : (kept : List ℕ) → ℕ → Typed → Function → List ℕ
function_homes kept w t f =
    numbers_from 16 (scalar_count f) ++ map (λ d. 16 + scalar_count f + d) ((body_steps kept w t f).depths ++ 0 ∷ [])

abbrev pub slots_of : Function → ℕ
slots_of f = 16 + scalar_count f + (greatest_in depth_of f.body + 4)

-- the homes stand behind the outgoing arguments and the link word
abbrev pub first_home_of : (kept : List ℕ) → ℕ → Function → ℕ
first_home_of kept w f = word_bytes w * (frame_words kept f - slots_of f)
