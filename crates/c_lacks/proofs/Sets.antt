-- The bits of a set of operators.
use Rattle.std.proofs.Common.{◌≡◌, ℕ, ◌<◌, ◌==◌, true, Option, Some, sym, ap, subst, ◌∙◌, arith}
use Rattle.std.proofs.lemmas.Bool.Decides.{nat_tests}
use Rattle.std.proofs.lemmas.Option.{none-some, same_Some}
use Rattle.std.specs.Int.{bit_at}
use Rattle.rtl_tree.specs.declared.expressions.BinOp.{BinOp}
use Rattle.rtl_tree.specs.declared.expressions.BinOp.TheVariants.{Add, Sub, Mul, Div, Divu, Rem, Remu, And, Or, Xor, Shl, Shr, Shru, Cmp, Pair, When}
use Rattle.md_rows.specs.declared.description.RawDescription.{RawDescription}
use Rattle.md_check.specs.Checking.{HasBits}
use Rattle.c_lacks.specs.Operators.{AreOperators, place_of, has_place, has_in}

below : (k n : ℕ) → k < 10 → Some k ≡ Some n → n < 10
below k n lt e = subst (λ (m : ℕ). m < 10) (same_Some _ _ e) lt

place_below : (o : BinOp) (n : ℕ) → place_of o ≡ Some n → n < 10
place_below Mul n e = below 0 n (omega arith) e
place_below Div n e = below 1 n (omega arith) e
place_below Divu n e = below 2 n (omega arith) e
place_below Rem n e = below 3 n (omega arith) e
place_below Remu n e = below 4 n (omega arith) e
place_below Shl n e = below 5 n (omega arith) e
place_below Shr n e = below 6 n (omega arith) e
place_below Shru n e = below 7 n (omega arith) e
place_below Xor n e = below 8 n (omega arith) e
place_below Add n e = absurd (none-some _ e)
place_below Sub n e = absurd (none-some _ e)
place_below And n e = absurd (none-some _ e)
place_below Or n e = absurd (none-some _ e)
place_below (Cmp r) n e = absurd (none-some _ e)
place_below Pair n e = absurd (none-some _ e)
place_below When n e = absurd (none-some _ e)

one_if : (b n : ℕ) → (b == n) ≡ true → b ≡ n
one_if b n h = grind (arith, nat_tests, h)

if_one : (b n : ℕ) → b ≡ n → (b == n) ≡ true
if_one b n h = grind (arith, nat_tests, h)

has_by : (bits n : ℕ) (p : Option ℕ) → p ≡ Some n → has_place bits p ≡ (bit_at bits n == 1)
has_by bits n p e = ap (has_place bits) e

pub are_operators : (d : RawDescription) (bits : ℕ) → HasBits d bits 10 → AreOperators d (has_in bits)
are_operators d bits h = record {
  covered = λ o n e. (
    λ has. ((h n).0 (one_if (bit_at bits n) 1 (sym (has_by bits n (place_of o) e) ∙ has))).1,
    λ covers. has_by bits n (place_of o) e ∙ if_one (bit_at bits n) 1 ((h n).1 (place_below o n e, covers)),
  );
  others = λ o e. ap (has_place bits) e;
}
