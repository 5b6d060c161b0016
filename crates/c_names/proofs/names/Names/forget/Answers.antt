use Rattle.std.proofs.Common.{subst}
use Rattle.c_names.specs.Known.{Agrees}
use Rattle.c_names.proofs.Stack.{forgotten}
use Rattle.c_names.proofs.names.Names.forget.Goals as goal

pub invariant_of-result-in-Some : goal.invariant_of-result-in-Some
invariant_of-result-in-Some c =
    let a = subst (λ es. Agrees es c.args.self.table) c.in-Some.ensures.items c.args.self.agrees in
    record { agrees = forgotten c.args.self.table c.in_ok-table-in-Some.table c.pop.new.self.items c.in-Some.last a c.in_ok-table-in-Some.ensures }
