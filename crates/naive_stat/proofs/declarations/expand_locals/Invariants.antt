use Rattle.std.proofs.Common.{◌+◌, ◌<◌, ◌^◌, drop}
use Rattle.c_limits.specs.Depths.{depth_of, in_locals}
use Rattle.naive_code.specs.Statements.{Around, locals_steps}
use Rattle.naive_expr.specs.Seen.{site_of}
use Rattle.naive_stat.proofs.Resting.{Rests}
use Rattle.naive_stat.proofs.declarations.expand_locals.Given as goal

abbrev pub invariant-loop-local : goal.invariant-loop-local
invariant-loop-local l =
    (8 + in_locals depth_of (drop l.local-index l.declared) < 2 ^ 16)
    × ((a : Around) → Rests l.fn.out l.out (locals_steps (site_of l.site) l.locals l.declared) (locals_steps (site_of l.site) l.locals (drop l.local-index l.declared)) a)
