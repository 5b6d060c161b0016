use Rattle.std.proofs.Common.{arith, ◌≡◌}
use Rattle.rtl_token.specs.Length.{word_length, number_length}
use Rattle.rtl_token.proofs.Longest.{word_found, number_found, mark_found}
use Rattle.rtl_token.proofs.token.token_at.Goals as goal

pub returns-then-length-gt0-clause-found : goal.returns-then-length-gt0-clause-found
returns-then-length-gt0-clause-found c =
    word_found c.args.text.now c.word_length-length.result c.word_length-length.ensures.count c.if-length-gt0.true c.word_length-length.ensures.within

pub returns-then-length-gt0-2-clause-found : goal.returns-then-length-gt0-2-clause-found
returns-then-length-gt0-2-clause-found c =
    let none : word_length c.args.text.now ≡ 0 = omega arith in
    number_found c.args.text.now c.number_length-length.result c.number_length-length.ensures.count c.if-length-gt0-2.true
    c.number_length-length.ensures.within none

pub returns-in-Some-clause-found : goal.returns-in-Some-clause-found
returns-in-Some-clause-found c =
    let no_word : word_length c.args.text.now ≡ 0 = omega arith in
    let no_number : number_length c.args.text.now ≡ 0 = omega arith in
    mark_found c.args.text.now c.in-Some.sign c.in-Some.length c.in-Some.ensures.spelled c.in-Some.ensures.bytes c.in-Some.ensures.longest
    c.in-Some.ensures.some no_word no_number
