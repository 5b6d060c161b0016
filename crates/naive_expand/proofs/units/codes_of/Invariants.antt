use Rattle.naive_builder.specs.Appending.{fixed_in}
use Rattle.naive_expr.specs.Tables.{IsSiteOf}
use Rattle.naive_expand.proofs.Codes.{Left}
use Rattle.naive_expand.proofs.units.codes_of.Given as goal

abbrev pub invariant-loop-i : goal.invariant-loop-i
invariant-loop-i g l = record { site : IsSiteOf l.m.word l.t.statics l.site; codes : Left l.m (fixed_in l.m l.rows) l.t l.i l.label l.codes }
