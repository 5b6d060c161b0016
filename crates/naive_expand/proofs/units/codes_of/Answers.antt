use Rattle.std.proofs.Common.{◌+◌, ◌<◌, ◌≤◌, List, length, sym, subst, arith}
use Rattle.temp_code.specs.declared.code.Code.{Code}
use Rattle.naive_builder.specs.Appending.{fixed_in}
use Rattle.naive_expand.proofs.Codes.{Left, next_code, all_codes}
use Rattle.naive_expand.proofs.units.codes_of.Goals as goal

pub loop-i-preserved : goal.loop-i-preserved
loop-i-preserved g c =
    let d = c.args.m.now in
    let m = fixed_in d c.args.rows.now in
    let within : c.loop-i.i < length c.args.t.now.functions = omega (arith, c.loop-i-test.true, c.len-i-end.ensures) in
    record {
      site = c.in_ok-made.ensures.site;
      codes = subst (λ (cs : List Code). Left d m c.args.t.now (c.loop-i.i + 1) c.in_ok-made.made.next_label cs) (sym c.in_ok-push.ensures.ok)
          (next_code d m c.args.t.now c.loop-i.i c.loop-i.label c.loop-i.codes c.in_ok-made.made within c.in_ok-made.ensures.code c.loop-i.invariant.codes);
    }

pub returns : goal.returns
returns g c =
    let all : length c.args.t.now.functions ≤ c.loop-i.i = omega (arith, c.loop-i-test.false, c.len-i-end.ensures) in
    all_codes c.args.m.now (fixed_in c.args.m.now c.args.rows.now) c.args.t.now c.loop-i.i c.loop-i.label c.loop-i.codes all c.loop-i.invariant.codes
