use Rattle.std.proofs.Common.{◌≡◌, ◌+◌, Bool, true, false, refl, arith}
use Rattle.asm_row.proofs.Walking.{empty_text}
use Rattle.asm_program.specs.Places.{after}
use Rattle.asm_program.specs.Rules.{word_bytes}
use Rattle.asm_labels.specs.Seen.{seen}
use Rattle.asm_faults.proofs.Reached.{Meets, meets, broken_here, passes_here, goes_on, at_end}
use Rattle.asm_faults.proofs.faults.first_fault.Goals as goal

not_both : (b : Bool) → b ≡ true → b ≡ false → ⊥
not_both b e f = cc

pub returns-in-Some : goal.returns-in-Some
returns-in-Some c all said labels =
    let m : Meets c.args.d.now all c.split_line.result.0.now c.split_line.result.1.now c.loop-rest.at c.said_on-said.result =
    meets c.args.d.now all c.says_one_thing.ensures c.loop-rest.rest.now c.split_line.result.0.now c.split_line.result.1.now c.loop-rest.at c.said_on-said.result
    c.split_line.ensures.lines c.said_on-said.ensures (c.loop-rest.invariant.reached all said labels) in
    broken_here c.args.d.now all c.split_line.result.0.now c.split_line.result.1.now c.loop-rest.at c.said_on-said.result m (c.loop-rest.at.place.line + 1) c.in-Some.rule
    (c.in-Some.ensures.checked all m.position m.tokens labels m.shows m.on) refl

pub returns-then-not-is_within : goal.returns-then-not-is_within
returns-then-not-is_within c all said labels =
    let m : Meets c.args.d.now all c.split_line.result.0.now c.split_line.result.1.now c.loop-rest.at c.said_on-said.result =
    meets c.args.d.now all c.says_one_thing.ensures c.loop-rest.rest.now c.split_line.result.0.now c.split_line.result.1.now c.loop-rest.at c.said_on-said.result
    c.split_line.ensures.lines c.said_on-said.ensures (c.loop-rest.invariant.reached all said labels) in
    passes_here c.args.d.now all c.split_line.result.0.now c.split_line.result.1.now c.loop-rest.at c.said_on-said.result m (c.loop-rest.at.place.line + 1)
    (c.in_default.ensures.checked all m.position m.tokens labels m.shows m.on)
    (λ w. not_both c.is_within.result
    ((c.is_within.ensures.within (after (word_bytes c.args.d.now) m.position (seen c.said_on-said.result m.tokens)) (c.in_ok-at.ensures.shows m.position m.tokens m.shows m.on)).1 w)
    c.if-not-is_within.true)
    refl

pub loop-rest-preserved : goal.loop-rest-preserved
loop-rest-preserved c =
    record {
      few = omega (arith, c.loop-rest.invariant.few, c.split_line.ensures.shorter, c.in_ok-at.ensures.line);
      small = c.is_within.ensures.small c.if-not-is_within.false;
      reached = λ all said labels.
          let m : Meets c.args.d.now all c.split_line.result.0.now c.split_line.result.1.now c.loop-rest.at c.said_on-said.result =
          meets c.args.d.now all c.says_one_thing.ensures c.loop-rest.rest.now c.split_line.result.0.now c.split_line.result.1.now c.loop-rest.at c.said_on-said.result
          c.split_line.ensures.lines c.said_on-said.ensures (c.loop-rest.invariant.reached all said labels) in
          goes_on c.args.d.now all c.split_line.result.0.now c.split_line.result.1.now c.loop-rest.at c.said_on-said.result m c.in_ok-at.at
          (c.in_default.ensures.checked all m.position m.tokens labels m.shows m.on)
          ((c.is_within.ensures.within (after (word_bytes c.args.d.now) m.position (seen c.said_on-said.result m.tokens)) (c.in_ok-at.ensures.shows m.position m.tokens m.shows m.on)).0
          c.if-not-is_within.false)
          (c.in_ok-at.ensures.shows m.position m.tokens m.shows m.on) c.in_ok-at.ensures.line;
    }

pub returns : goal.returns
returns c all said labels =
    at_end c.args.d.now all c.loop-rest.rest.now c.loop-rest.at (empty_text c.loop-rest.rest.now c.is_empty.result c.is_empty.ensures c.loop-rest-test.false)
    (c.loop-rest.invariant.reached all said labels)
