-- The limits on a source, and which of them is told where it passes some.
use Rattle.std.specs.Prelude.{ℕ, ◌≡◌, ◌⊎◌, ◌+◌, ◌-◌, ◌==◌, ◌&&◌, ◌||◌, nat_lt, Bool, true, false, List, [], ◌∷◌, ◌++◌, if◌then◌else◌}
use Rattle.vp_io.specs.declared.answers.Reason.{Reason}
use Rattle.c_tree.specs.declared.token.At.{At}
use Rattle.c_tree.specs.declared.typed.Static.{Static}
use Rattle.c_tree.specs.declared.typed.Function.{Function}
use Rattle.c_tree.specs.declared.typed.Typed.{Typed}
use Rattle.c_limits.specs.Weights.{function_weight}
use Rattle.c_limits.specs.Frames.{object_bytes, frame_bytes}

abbrev pub reason_at : ℕ → At → Reason
reason_at rule at = record { line = at.line; column = at.column; rule = rule; detail = 0 }

-- a rule that is broken here, and what is broken behind it
abbrev pub told_if : Bool → ℕ → At → List Reason → List Reason
told_if true rule at rest = reason_at rule at ∷ rest
told_if false rule at rest = rest

-- the weight of all functions
abbrev pub most_weight : ℕ → ℕ
most_weight w = if w == 16 then 12000 else 100000

-- RULE 41, a frame above 32,000 bytes; RULE 42, a function above 12,000 or one with which all pass their limit, where those before it weigh so much
abbrev pub function_faults : (kept : List ℕ) → ℕ → ℕ → List Function → List Reason
function_faults kept w before [] = []
function_faults kept w before (f ∷ fs) =
    told_if (nat_lt 32000 (frame_bytes kept w f)) 41 f.at
    (told_if (nat_lt 12000 (function_weight kept f) || nat_lt (most_weight w) (before + function_weight kept f)) 42 f.at
    (function_faults kept w (before + function_weight kept f) fs))

-- RULE 43, an object with which the statics pass the room for them, or 60,000, where those before it are so many and take so much
abbrev pub static_faults : ℕ → ℕ → ℕ → ℕ → List Static → List Reason
static_faults w room count before [] = []
static_faults w room count before (x ∷ xs) =
    told_if (nat_lt room (before + object_bytes w x.object) || nat_lt 60000 (count + 1)) 43 x.object.at
    (static_faults w room (count + 1) (before + object_bytes w x.object) xs)

-- where these registers are kept over calls, and the statics have so many bytes of room
abbrev pub limit_faults : (kept : List ℕ) → ℕ → ℕ → Typed → List Reason
limit_faults kept w room t = function_faults kept w 0 t.functions ++ static_faults w room 0 0 t.statics

-- the earlier place, and at one place the lesser rule
abbrev pub comes_before : Reason → Reason → Bool
comes_before a b = nat_lt a.line b.line || (a.line == b.line && (nat_lt a.column b.column || (a.column == b.column && nat_lt a.rule b.rule)))

abbrev pub Stands : Reason → List Reason → Type 0
Stands r [] = ⊥
Stands r (x ∷ xs) = (r ≡ x) ⊎ Stands r xs

-- none of them comes before it
pub record IsFirst (rs : List Reason) (r : Reason) : Type 0 where
  pub stands : Stands r rs
  pub first : (x : Reason) → Stands x rs → comes_before x r ≡ false
