use Rattle.std.proofs.Common.{◌≡◌, length, ap, arith, length-append}
use Rattle.md_rows.specs.declared.instance.Bound.{Bound}
use Rattle.asm_line.specs.Answers.{HasNameValue}
use Rattle.asm_line.proofs.Growing.{adds_item, item_of, values_more}
use Rattle.asm_line.proofs.lines.bind.Goals as goal

pub bound_of-requires-clause-named : goal.bound_of-requires-clause-named
bound_of-requires-clause-named c = item_of HasNameValue c.args.values.now c.loop-value.value-index _ c.loop-value-test.true c.requires.named

pub returns-in_err-bound-clause-adds : goal.returns-in_err-bound-clause-adds
returns-in_err-bound-clause-adds c =
    adds_item c.args.values.now c.loop-value.value-index _ c.loop-value-test.true c.args.n.now c.loop-value.n c.bound_of.new.n c.loop-value.invariant.adds c.bound_of.ensures.adds

pub loop-value-preserved : goal.loop-value-preserved
loop-value-preserved c =
    let vs = c.args.values.now in
    let l = c.loop-value in
    let n = c.bound_of.new.n in
    record {
      adds = adds_item vs l.value-index _ c.loop-value-test.true c.args.n.now l.n n l.invariant.adds c.bound_of.ensures.adds;
      bound = values_more vs l.value-index _ c.loop-value-test.true l.n n l.list.items c.push.new.self.items c.in_ok-bound.bound c.bound_of.ensures.adds l.invariant.bound
          c.in_ok-bound.ensures.bound c.in_ok-push.ensures.ok;
      count = omega (arith, ap length c.in_ok-push.ensures.ok, length-append {A = Bound}, l.invariant.count);
      objects = omega (arith, c.bound_of.ensures.objects, l.invariant.objects);
      functions = omega (arith, c.bound_of.ensures.functions, l.invariant.functions);
    }
