-- The frame of a function's naive code.
use Rattle.std.proofs.Common.{◌≡◌, ℕ, ◌+◌, ◌-◌, ◌*◌, ◌/◌, ◌%◌, ◌≤◌, List, [], ◌∷◌, Option, Some, None, arith}
use Rattle.std.specs.Prelude.{length, max}
use Rattle.std.proofs.Math.Nat.{le-max_left}
use Rattle.rtl_word.specs.Words.{IsWordSize}
use Rattle.rtl_word.proofs.Below.{by_size}
use Rattle.c_tree.specs.declared.types.CType.{CType}
use Rattle.c_tree.specs.declared.typed.Object.{Object}
use Rattle.c_tree.specs.declared.typed.Function.{Function}
use Rattle.c_limits.specs.Frames.{array_in, arrays, frame_bytes}
use Rattle.c_limits.specs.Depths.{greatest_in, arguments_of}
use Rattle.naive_code.specs.Functions.{slots_of, first_home_of}
use Rattle.naive_forms.specs.Operations.{most_arguments}

array_two : (t : CType) (o : Option ℕ) → array_in 16 t o % 2 ≡ 0
array_two t None = omega arith
array_two t (Some n) = omega arith

array_four : (t : CType) (o : Option ℕ) → array_in 32 t o % 4 ≡ 0
array_four t None = omega arith
array_four t (Some n) = omega arith

arrays_two : (os : List Object) → arrays 16 os % 2 ≡ 0
arrays_two [] = omega arith
arrays_two (o ∷ os) = let h = array_two o.element o.length in let k = arrays_two os in omega (arith, h, k)

arrays_four : (os : List Object) → arrays 32 os % 4 ≡ 0
arrays_four [] = omega arith
arrays_four (o ∷ os) = let h = array_four o.element o.length in let k = arrays_four os in omega (arith, h, k)

-- a frame's numbers, by the bits of a word
pub record HasFrame (kept : List ℕ) (f : Function) (w : ℕ) : Type 0 where
  pub whole_frame : frame_bytes kept w f % (w / 8) ≡ 0
  pub home_words : first_home_of kept w f % (w / 8) ≡ 0
  pub below_homes : w / 8 * (3 + length kept) ≤ first_home_of kept w f
  pub fits : first_home_of kept w f + w / 8 * slots_of f ≤ frame_bytes kept w f
  pub outgoing : (first_home_of kept w f - w / 8 * (1 + length kept)) / (w / 8) ≡ most_arguments f

module _ (kept : List ℕ) (f : Function) where
  two : 2 ≤ max 2 (greatest_in arguments_of f.body)
  two = le-max_left 2 (greatest_in arguments_of f.body)

  frame_two : HasFrame kept f 16
  frame_two =
      let a = arrays_two f.locals in let b = two in record {
        whole_frame = omega (arith, a);
        home_words = omega arith;
        below_homes = omega (arith, b);
        fits = omega (arith, b);
        outgoing = omega (arith, b);
      }

  frame_four : HasFrame kept f 32
  frame_four =
      let a = arrays_four f.locals in let b = two in record {
        whole_frame = omega (arith, a);
        home_words = omega arith;
        below_homes = omega (arith, b);
        fits = omega (arith, b);
        outgoing = omega (arith, b);
      }

  pub has_frame : (w : ℕ) → IsWordSize w → HasFrame kept f w
  has_frame = by_size (HasFrame kept f) frame_two frame_four

pub enough_slots : (f : Function) → 16 ≤ slots_of f
enough_slots f = omega arith
