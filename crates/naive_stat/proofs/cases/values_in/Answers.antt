use Rattle.std.proofs.Common.{◌≡◌, ◌<◌, ◌≤◌, length, subst, arith}
use Rattle.c_tree.specs.declared.typed.Stat.{Stat}
use Rattle.naive_code.specs.Statements.{steps_of, valued}
use Rattle.naive_stat.proofs.NoCases.{valued_next, valued_done}
use Rattle.naive_stat.proofs.cases.values_in.Goals as goal

pub loop-s-preserved : goal.loop-s-preserved
loop-s-preserved c = λ x locals.
    let ss = c.args.ss.now in
    let lt : c.loop-s.s-index < length ss = omega arith in
    let own = subst (λ (s : Stat). c.in_ok-values_of.field-0 ≡ valued x locals (steps_of x locals s).cases) c.get.ensures (c.in_ok-values_of.ensures x locals) in
    valued_next x locals ss c.loop-s.s-index c.s-item.result c.loop-s.count c.in_ok-count.count c.in_ok-values_of.field-0 _ lt c.s-item.is c.in_ok-count.ensures own (c.loop-s.invariant x locals)

pub returns : goal.returns
returns c = λ x locals.
    let le : length c.args.ss.now ≤ c.loop-s.s-index = omega arith in
    valued_done x locals c.args.ss.now c.loop-s.s-index c.loop-s.count _ le (c.loop-s.invariant x locals)
