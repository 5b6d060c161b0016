-- A typed tree within the limits meets what `expand` asks.
use Rattle.std.proofs.Common.{◌≡◌, ℕ, ◌+◌, ◌-◌, ◌≤◌, nat_lt, ◌||◌, Bool, true, false, List, [], ◌∷◌, ◌++◌, refl, arith}
use Rattle.std.specs.List.{AllByRecursion}
use Rattle.std.proofs.lemmas.Bool.Decides.{nat_tests}
use Rattle.std.proofs.lemmas.List.Elements.{All-from_recursion}
use Rattle.vp_io.specs.declared.answers.Reason.{Reason}
use Rattle.c_tree.specs.declared.token.At.{At}
use Rattle.c_tree.specs.declared.typed.Function.{Function}
use Rattle.c_limits.specs.Frames.{frame_bytes}
use Rattle.c_limits.specs.Weights.{function_weight}
use Rattle.c_limits.specs.Limits.{told_if, most_weight, function_faults, static_faults}
use Rattle.c_sound.specs.Laws.{TypedIsMeant}
use Rattle.naive_fits.specs.Bounds.{LimitsBound}
use Rattle.naive_typed.specs.Laws.{TypedIsSound, TypedNamesScalars}
use Rattle.naive_regular.specs.Laws.{TypedIsRegular, RegularIsExpandable, RegularFillsLists}
use Rattle.naive_ready.specs.Laws.{TypedMayBeExpanded}

both_empty : (xs ys : List Reason) → xs ++ ys ≡ [] → (xs ≡ []) × (ys ≡ [])
both_empty [] ys e = (refl, e)
both_empty (x ∷ xs) ys e = absurd (grind (arith, e))

not_told : (b : Bool) (rule : ℕ) (at : At) (rest : List Reason) → told_if b rule at rest ≡ [] → (b ≡ false) × (rest ≡ [])
not_told true rule at rest e = absurd (grind (arith, e))
not_told false rule at rest e = (refl, e)

left_false : (a b : Bool) → (a || b) ≡ false → a ≡ false
left_false false b e = refl
left_false true b e = absurd (grind (arith, e))

not_above : (a b : ℕ) → nat_lt a b ≡ false → b ≤ a
not_above a b e = grind (arith, nat_tests, e)

-- no function is above the limit on weights
light : (kept : List ℕ) (w before : ℕ) (fs : List Function) → function_faults kept w before fs ≡ [] → AllByRecursion (λ f. function_weight kept f ≤ 12000) fs
light kept w before [] e = tt
light kept w before (f ∷ fs) e =
    let n = function_weight kept f in
    let frame = not_told (nat_lt 32000 (frame_bytes kept w f)) 41 f.at _ e in
    let weight = not_told (nat_lt 12000 n || nat_lt (most_weight w) (before + n)) 42 f.at _ frame.1 in
    (not_above 12000 n (left_false (nat_lt 12000 n) (nat_lt (most_weight w) (before + n)) weight.0), light kept w (before + n) fs weight.1)

-- the laws that are cited
pub record AreLaws : Type 0 where
  pub meant : TypedIsMeant
  pub bound : LimitsBound
  pub filled : RegularFillsLists
  pub expandable : RegularIsExpandable
  pub regular : TypedIsRegular
  pub sound : TypedIsSound
  pub scalars : TypedNamesScalars

pub typed_may_be_expanded : AreLaws → TypedMayBeExpanded
typed_may_be_expanded laws d has ts s t size spelled typed within there operators =
    let w = d.word in
    let room = d.memory - d.stack - d.base in
    let parts = both_empty (function_faults [] w 0 t.functions) (static_faults w room 0 0 t.statics) within in
    let regular = laws.regular w ts s t size spelled typed in
    record {
      proper = record {
        sound = laws.sound [] w s t typed;
        meant = laws.meant w s t size typed;
        scalars = laws.scalars w s t size typed;
        filled = laws.filled w t regular;
        bounded = laws.bound [] w room t size within;
        light = All-from_recursion (λ f. function_weight [] f ≤ 12000) t.functions (light [] w 0 t.functions parts.0);
      };
      room = parts.1;
      has = has;
      there = there;
      expandable = laws.expandable has w t regular operators;
    }
