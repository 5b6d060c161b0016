-- Within the limits on weights code has little room.
use Rattle.std.proofs.Common.{◌≡◌, ℕ, ◌+◌, ◌*◌, ◌^◌, ◌-◌, ◌≤◌, ◌==◌, ◌||◌, ◌++◌, if◌then◌else◌, nat_lt, Bool, true, false, List, [], ◌∷◌, refl, arith}
use Rattle.std.specs.Prelude.{All}
use Rattle.std.proofs.lemmas.Bool.{or_parts}
use Rattle.std.proofs.lemmas.Bool.Decides.{nat_tests}
use Rattle.std.proofs.lemmas.List.Elements.{All-nil, All-cons, All-head, All-tail}
use Rattle.vp_io.specs.declared.answers.Reason.{Reason}
use Rattle.md_rows.specs.declared.description.RawDescription.{RawDescription}
use Rattle.md_shapes.specs.Shapes.{Frame}
use Rattle.asm_program.specs.Rules.{instruction_limit}
use Rattle.c_tree.specs.declared.token.At.{At}
use Rattle.c_tree.specs.declared.typed.Function.{Function}
use Rattle.c_tree.specs.declared.typed.Typed.{Typed}
use Rattle.c_limits.specs.Weights.{function_weight}
use Rattle.c_limits.specs.Frames.{frame_bytes}
use Rattle.c_limits.specs.Limits.{reason_at, told_if, most_weight, function_faults, static_faults, limit_faults}
use Rattle.temp_machine.specs.Routines.{Routine, Target}
use Rattle.temp_machine.specs.Tidy.{room, padded_room}
use Rattle.temp_code.specs.declared.code.Code.{Code}
use Rattle.temp_code.specs.Routines.{routine_of, routine_in}
use Rattle.temp_laws.specs.Targets.{target_of}
use Rattle.link_runs.specs.Sizes.{rooms}
use Rattle.naive_units.specs.Units.{AreWithinWeights}

-- ---- weights

-- none is told
told_none : (b : Bool) (rule : ℕ) (at : At) (rest : List Reason) → told_if b rule at rest ≡ [] → (b ≡ false) × (rest ≡ [])
told_none true rule at rest e = absurd (let k : reason_at rule at ∷ rest ≡ [] = e in cc)
told_none false rule at rest e = (refl, e)

left_none : (xs ys : List Reason) → xs ++ ys ≡ [] → xs ≡ []
left_none [] ys e = refl
left_none (x ∷ xs) ys e = absurd (let k : x ∷ (xs ++ ys) ≡ [] = e in cc)

abbrev weight_of : Function → ℕ
weight_of f = function_weight [] f

abbrev weights : List Function → ℕ
weights [] = 0
weights (f ∷ fs) = weight_of f + weights fs

record AreLight (w before : ℕ) (fs : List Function) : Type 0 where
  each : All (λ f. function_weight [] f ≤ 12000) fs
  whole : before + weights fs ≤ most_weight w

light_by : (w before : ℕ) (fs : List Function) → before ≤ most_weight w → function_faults [] w before fs ≡ [] → AreLight w before fs
light_by w before [] l e = record { each = All-nil (λ f. function_weight [] f ≤ 12000); whole = omega (arith, l) }
light_by w before (f ∷ fs) l e =
    let n = weight_of f in
    let rest = function_faults [] w (before + n) fs in
    let heavy = nat_lt 12000 n || nat_lt (most_weight w) (before + n) in
    let first = told_none (nat_lt 32000 (frame_bytes [] w f)) 41 f.at (told_if heavy 42 f.at rest) e in
    let second = told_none heavy 42 f.at rest first.1 in
    let tests = or_parts (nat_lt 12000 n) (nat_lt (most_weight w) (before + n)) second.0 in
    joined f fs n (within n 12000 tests.0) (light_by w (before + n) fs (within (before + n) (most_weight w) tests.1) second.1)
  where
    within : (n m : ℕ) → nat_lt m n ≡ false → n ≤ m
    within n m e = grind (arith, nat_tests, e)

    joined : (f : Function) (fs : List Function) (n : ℕ) → function_weight [] f ≤ 12000 → AreLight w (before + function_weight [] f) fs → AreLight w before (f ∷ fs)
    joined f fs n l h = record { each = All-cons (λ f. function_weight [] f ≤ 12000) f fs l h.each; whole = let k = h.whole in omega (arith, k) }

pub light : (w room : ℕ) (t : Typed) → limit_faults [] w room t ≡ [] → All (λ f. function_weight [] f ≤ 12000) t.functions
light w room t e = (light_by w 0 t.functions (omega arith) (left_none (function_faults [] w 0 t.functions) (static_faults w room 0 0 t.statics) e)).each

-- ---- rooms

module _ (d : RawDescription) (frame : Frame) where
  abbrev machine : Target
  machine = target_of d frame []

  abbrev pub Within : List Function → List Code → Type 0
  Within fs cs = AreWithinWeights [] d frame fs cs

  small_room : (r : Routine) (n : ℕ) → padded_room machine r ≤ 5 * n → n ≤ 12000 → room r ≤ 2 ^ 32 - 2
  small_room r n l m = omega (arith, l, m)

  pub room_in : (fs : List Function) (cs : List Code) (f : ℕ) → Within fs cs → All (λ f. function_weight [] f ≤ 12000) fs → room (routine_in cs f) ≤ 2 ^ 32 - 2
  room_in [] [] f h l = omega arith
  room_in (x ∷ fs) (c ∷ cs) f h l =
      by (c.function == f) (small_room (routine_of c) (function_weight [] x) h.0.room (All-head (λ f. function_weight [] f ≤ 12000) x fs l))
      (room_in fs cs f h.1 (All-tail (λ f. function_weight [] f ≤ 12000) x fs l))
    where
      by : (b : Bool) → room (routine_of c) ≤ 2 ^ 32 - 2 → room (routine_in cs f) ≤ 2 ^ 32 - 2 → room (if b then routine_of c else routine_in cs f) ≤ 2 ^ 32 - 2
      by true h k = h
      by false h k = k
  room_in [] (c ∷ cs) f h l = absurd h
  room_in (x ∷ fs) [] f h l = absurd h

  rooms_within : (fs : List Function) (cs : List Code) → Within fs cs → rooms machine cs ≤ 5 * weights fs
  rooms_within [] [] h = omega arith
  rooms_within (x ∷ fs) (c ∷ cs) h = let k = h.0.room in let l = rooms_within fs cs h.1 in omega (arith, k, l)
  rooms_within [] (c ∷ cs) h = absurd h
  rooms_within (x ∷ fs) [] h = absurd h

  limited : (w n : ℕ) → n ≤ most_weight w → 3 + 5 * n ≤ instruction_limit w
  limited w n l = by (w == 16) l
    where
      by : (b : Bool) → n ≤ (if b then 12000 else 100000) → 3 + 5 * n ≤ (if b then 65535 else 1000000)
      by true l = omega (arith, l)
      by false l = omega (arith, l)

  -- with the start before it, what fits the room of the codes is within the limit
  pub within_limit : (w most : ℕ) (t : Typed) (cs : List Code) (n : ℕ) → limit_faults [] w most t ≡ [] → Within t.functions cs → n ≤ 3 + rooms machine cs → n ≤ instruction_limit w
  within_limit w most t cs n e h l =
      let a = (light_by w 0 t.functions (omega arith) (left_none (function_faults [] w 0 t.functions) (static_faults w most 0 0 t.statics) e)).whole in
      let b = rooms_within t.functions cs h in
      let c = limited w (weights t.functions) (let k : weights t.functions ≤ most_weight w = omega (arith, a) in k) in
      omega (arith, l, b, c)
