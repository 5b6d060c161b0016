use Rattle.std.proofs.Common.{◌+◌, ◌<◌, ◌^◌, drop}
use Rattle.c_limits.specs.Depths.{depth_of, in_list}
use Rattle.naive_code.specs.Statements.{Around, put_elements}
use Rattle.naive_expr.specs.Seen.{site_of, storage_of}
use Rattle.naive_stat.proofs.Resting.{Rests}
use Rattle.naive_stat.proofs.declarations.expand_elements.Given as goal

abbrev pub invariant-loop-e : goal.invariant-loop-e
invariant-loop-e l =
    (8 + in_list depth_of (drop l.e-index l.es) < 2 ^ 16)
    × ((a : Around) → Rests l.fn.out l.out (put_elements (site_of l.site) (storage_of l.storage) 0 l.es) (put_elements (site_of l.site) (storage_of l.storage) l.i (drop l.e-index l.es)) a)
