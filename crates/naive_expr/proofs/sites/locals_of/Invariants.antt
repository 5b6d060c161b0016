use Rattle.std.proofs.Common.{◌≡◌, ◌++◌, drop, map}
use Rattle.naive_expr.specs.Seen.{storage_of}
use Rattle.naive_expr.specs.Tables.{locals_from}
use Rattle.naive_expr.proofs.sites.locals_of.Given as goal

abbrev pub invariant-loop-object : goal.invariant-loop-object
invariant-loop-object l =
    map storage_of l.made ++ locals_from l.bits l.temp l.offset (drop l.object-index l.locals) ≡ locals_from l.bits l.fn.temp l.fn.offset l.locals
