use Rattle.std.proofs.Common.{◌≡◌, ◌*◌, ◌≤◌, take, min, arith, ap, ◌∙◌, ◌+◌, sym, get_or}
use Rattle.std.proofs.Math.Nat.{mul-le-mul}
use Rattle.c_lexer.specs.Constants.{number_of, digit_of}
use Rattle.c_lexer.proofs.Numbers.{number_more}
use Rattle.c_lexer.proofs.constants.number.Goals as goal

pub overflow_mul-value : goal.overflow_mul-value
overflow_mul-value c =
    let small : c.loop-byte.value ≤ 4294967296 = omega (arith, c.loop-byte.invariant) in
    let product : c.loop-byte.value * c.args.base ≤ 4294967296 * 16 = mul-le-mul small c.requires.small in
    omega arith

pub loop-byte-preserved : goal.loop-byte-preserved
loop-byte-preserved c =
    let more = number_more c.args.base c.args.digits.now c.loop-byte.byte-index c.requires.base c.loop-byte-test.true in
    let so_far : c.loop-byte.value ≡ number_of c.args.base (take c.loop-byte.byte-index c.args.digits.now) = c.loop-byte.invariant in
    let digit : c.digit.result ≡ digit_of (get_or c.args.digits.now c.loop-byte.byte-index 0) = c.digit.ensures.value in
    c.min-value.ensures ∙ ap (λ v. min (v * c.args.base + c.digit.result) 4294967296) so_far
    ∙ ap (λ d. min (number_of c.args.base (take c.loop-byte.byte-index c.args.digits.now) * c.args.base + d) 4294967296) digit ∙ sym more
