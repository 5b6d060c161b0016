-- A tree within the limits has no frame above 32,000 bytes, and few functions and objects.
use Rattle.std.proofs.Common.{◌≡◌, ℕ, ◌+◌, ◌*◌, ◌≤◌, List, [], ◌∷◌, ◌++◌, refl, arith, true, false}
use Rattle.std.proofs.lemmas.Bool.Decides.{nat_tests}
use Rattle.std.proofs.lemmas.List.Elements.{All-from_recursion}
use Rattle.std.specs.Prelude.{Bool, ◌||◌, nat_lt, length}
use Rattle.std.specs.List.{AllByRecursion}
use Rattle.rtl_word.proofs.Below.{by_size}
use Rattle.vp_io.specs.declared.answers.Reason.{Reason}
use Rattle.c_tree.specs.declared.token.At.{At}
use Rattle.c_tree.specs.declared.typed.Static.{Static}
use Rattle.c_tree.specs.declared.typed.Function.{Function}
use Rattle.c_limits.specs.Weights.{function_weight}
use Rattle.c_limits.specs.Frames.{object_bytes, frame_bytes}
use Rattle.c_limits.specs.Limits.{told_if, most_weight, function_faults, static_faults}
use Rattle.naive_fits.specs.Bounds.{LimitsBound}

both_empty : (xs ys : List Reason) → xs ++ ys ≡ [] → (xs ≡ []) × (ys ≡ [])
both_empty [] ys e = (refl, e)
both_empty (x ∷ xs) ys e = absurd (grind (arith, e))

not_told : (b : Bool) (rule : ℕ) (at : At) (rest : List Reason) → told_if b rule at rest ≡ [] → (b ≡ false) × (rest ≡ [])
not_told true rule at rest e = absurd (grind (arith, e))
not_told false rule at rest e = (refl, e)

neither : (a b : Bool) → (a || b) ≡ false → (a ≡ false) × (b ≡ false)
neither false b e = (refl, e)
neither true b e = absurd (grind (arith, e))

not_above : (a b : ℕ) → nat_lt a b ≡ false → b ≤ a
not_above a b e = grind (arith, nat_tests, e)

-- each function weighs 48 at least
functions_bound : (kept : List ℕ) (w before : ℕ) (fs : List Function) → before ≤ most_weight w → function_faults kept w before fs ≡ []
    → AllByRecursion (λ f. frame_bytes kept w f ≤ 32000) fs × (before + 48 * length fs ≤ most_weight w)
functions_bound kept w before [] le e = (tt, omega (arith, le))
functions_bound kept w before (f ∷ fs) le e =
    let n = function_weight kept f in
    let p = not_told (nat_lt 32000 (frame_bytes kept w f)) 41 f.at _ e in
    let q = not_told (nat_lt 12000 n || nat_lt (most_weight w) (before + n)) 42 f.at _ p.1 in
    let r = neither (nat_lt 12000 n) (nat_lt (most_weight w) (before + n)) q.0 in
    let small = not_above (most_weight w) (before + n) r.1 in
    let rest = functions_bound kept w (before + n) fs small q.1 in
    let some : 48 ≤ n = omega arith in let few = rest.1 in
    ((not_above 32000 (frame_bytes kept w f) p.0, rest.0), omega (arith, some, few))

statics_bound : (w room count before : ℕ) (xs : List Static) → count ≤ 60000 → static_faults w room count before xs ≡ [] → count + length xs ≤ 60000
statics_bound w room count before [] le e = omega (arith, le)
statics_bound w room count before (x ∷ xs) le e =
    let p = not_told (nat_lt room (before + object_bytes w x.object) || nat_lt 60000 (count + 1)) 43 x.object.at _ e in
    let q = neither (nat_lt room (before + object_bytes w x.object)) (nat_lt 60000 (count + 1)) p.0 in
    let small = not_above 60000 (count + 1) q.1 in
    let rest = statics_bound w room (count + 1) (before + object_bytes w x.object) xs small p.1 in
    omega (arith, rest)

pub limits_bound : LimitsBound
limits_bound kept w room t z e =
    let p = both_empty (function_faults kept w 0 t.functions) (static_faults w room 0 0 t.statics) e in
    let f = functions_bound kept w 0 t.functions (omega arith) p.0 in
    let s = statics_bound w room 0 0 t.statics (omega arith) p.1 in
    let few = f.1 in
    let most : most_weight w ≤ 100000 = by_size (λ w. most_weight w ≤ 100000) (omega arith) (omega arith) w z in
    record {
      frames = All-from_recursion (λ f. frame_bytes kept w f ≤ 32000) t.functions f.0;
      functions = omega (arith, few, most);
      statics = omega (arith, s);
    }
