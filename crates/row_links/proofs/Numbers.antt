-- The frame's bytes, up and down, and the place of the link register are numbers of the shapes.
use Rattle.std.proofs.Common.{◌≡◌, ℕ, ◌+◌, ◌-◌, ◌*◌, ◌/◌, ◌%◌, ◌^◌, ◌≤◌, length, inl, inr, arith}
use Rattle.rtl_word.proofs.Below.{by_size}
use Rattle.md_covers.specs.Numbers.{IsOf, multiples, negatives}
use Rattle.row_links.specs.Numbers.{FramesAreNumbers}

record Numbers (w first frame : ℕ) : Type 0 where
  up : IsOf (multiples w 32000) frame
  down : IsOf (negatives w 32000) (2 ^ w - frame)
  save : IsOf (multiples w 32255) (first - w / 8)

abbrev HaveNumbers : ℕ → Type 0
HaveNumbers w =
    (first slots frame kept : ℕ) → frame % (w / 8) ≡ 0 → first % (w / 8) ≡ 0 → w / 8 * (3 + kept) ≤ first → first + w / 8 * slots ≤ frame → frame ≤ 32000
    → Numbers w first frame

short : HaveNumbers 16
short first slots frame kept a b c d e = record {
  up = record { place = frame / 2 - 1; within = omega (arith, a, b, c, d, e); is = omega (arith, a, b, c, d, e) };
  down = record { place = (32000 - frame) / 2; within = omega (arith, a, b, c, d, e); is = omega (arith, a, b, c, d, e) };
  save = record { place = first / 2 - 2; within = omega (arith, a, b, c, d, e); is = omega (arith, a, b, c, d, e) };
}

long : HaveNumbers 32
long first slots frame kept a b c d e = record {
  up = record { place = frame / 4 - 1; within = omega (arith, a, b, c, d, e); is = omega (arith, a, b, c, d, e) };
  down = record { place = (32000 - frame) / 4; within = omega (arith, a, b, c, d, e); is = omega (arith, a, b, c, d, e) };
  save = record { place = first / 4 - 2; within = omega (arith, a, b, c, d, e); is = omega (arith, a, b, c, d, e) };
}

pub frames : FramesAreNumbers
frames t r size f =
    let n = by_size HaveNumbers short long t.word size r.first_home r.slots r.frame (length t.kept) f.frame_words f.home_words f.below_homes f.fits f.short in
    record { up = inl n.up; down = inr (inl n.down); save = inl n.save; fetch = inl n.save }
