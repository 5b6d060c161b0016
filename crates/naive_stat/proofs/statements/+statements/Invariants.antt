use Rattle.std.proofs.Common.{◌≡◌, ◌+◌, ◌*◌, ◌++◌, ◌<◌, ◌^◌, drop}
use Rattle.std.specs.Prelude.{max}
use Rattle.c_tree.proofs.typed.Stat.TheLaws.{the_size}
use Rattle.c_limits.specs.Depths.{depth_of, in_block}
use Rattle.naive_expr.specs.Seen.{site_of}
use Rattle.naive_stat.specs.Cases.{cases_of, placed}
use Rattle.naive_stat.specs.Runs.{around_of, block_steps}
use Rattle.naive_stat.proofs.Resting.{Rests}
use Rattle.naive_stat.proofs.statements.+statements.Given as goal

abbrev pub invariant-sequence-loop-s : goal.invariant-sequence-loop-s
invariant-sequence-loop-s l =
    (8 + in_block depth_of (drop l.s-index l.ss) < 2 ^ 16)
    × Rests l.fn.out l.out (block_steps (site_of l.site) l.locals l.ss) (block_steps (site_of l.site) l.locals (drop l.s-index l.ss)) (around_of l.around)
    × (cases_of l.cases ++ placed l.out.next_label (block_steps (site_of l.site) l.locals (drop l.s-index l.ss)).cases
    ≡ placed l.fn.out.next_label (block_steps (site_of l.site) l.locals l.ss).cases)

abbrev pub decreases-expand_stat : goal.decreases-expand_stat
decreases-expand_stat l = 4 * the_size l.s.now

abbrev pub decreases-sequence : goal.decreases-sequence
decreases-sequence l = 4 * goal.size-sequence l + 1

abbrev pub decreases-switch : goal.decreases-switch
decreases-switch l = 4 * goal.size-switch l + 2

abbrev pub decreases-choose_one : goal.decreases-choose_one
decreases-choose_one l = 4 * the_size l.a.now + 1

abbrev pub decreases-choose_between : goal.decreases-choose_between
decreases-choose_between l = 4 * max (the_size l.a.now) (the_size l.b.now) + 1

abbrev pub decreases-while_loop : goal.decreases-while_loop
decreases-while_loop l = 4 * the_size l.a.now + 1

abbrev pub decreases-do_loop : goal.decreases-do_loop
decreases-do_loop l = 4 * the_size l.a.now + 1

abbrev pub decreases-for_loop : goal.decreases-for_loop
decreases-for_loop l = 4 * the_size l.a.now + 1

abbrev pub decreases-labelled : goal.decreases-labelled
decreases-labelled l = 4 * the_size l.a.now + 1
