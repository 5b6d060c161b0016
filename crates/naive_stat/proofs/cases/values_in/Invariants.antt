use Rattle.std.proofs.Common.{◌≡◌, ◌+◌, drop, List}
use Rattle.c_tree.specs.declared.typed.Object.{Object}
use Rattle.naive_code.specs.Expressions.{Site}
use Rattle.naive_code.specs.Statements.{valued}
use Rattle.naive_stat.specs.Runs.{block_steps}
use Rattle.naive_stat.proofs.cases.values_in.Given as goal

abbrev pub invariant-loop-s : goal.invariant-loop-s
invariant-loop-s l =
    (c : Site) (locals : List Object) → l.count + valued c locals (block_steps c locals (drop l.s-index l.ss)).cases ≡ valued c locals (block_steps c locals l.ss).cases
