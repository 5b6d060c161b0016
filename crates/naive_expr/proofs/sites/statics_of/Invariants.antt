use Rattle.std.proofs.Common.{◌≡◌, ◌++◌, drop, map}
use Rattle.naive_expr.specs.Seen.{storage_of}
use Rattle.naive_expr.specs.Tables.{statics_from}
use Rattle.naive_expr.proofs.sites.statics_of.Given as goal

abbrev pub invariant-loop-s : goal.invariant-loop-s
invariant-loop-s l = map storage_of l.made ++ statics_from l.x (drop l.s-index l.statics) ≡ statics_from 0 l.statics
