use Rattle.std.proofs.Common.{sym, ◌∙◌, length, ap, Option, ℕ, subst}
use Rattle.c_names.specs.declared.entry.Kept.{Kept}
use Rattle.c_names.specs.declared.entry.Known.{Known}
use Rattle.c_names.specs.Known.{Agrees, known_in}
use Rattle.c_names.proofs.Stack.{declared}
use Rattle.c_names.proofs.names.Names.declare.Goals as goal

pub invariant_of-result : goal.invariant_of-result
invariant_of-result c =
    let e : Kept = record { name = c.args.name; known = record { means = c.args.means; number = c.count.result }; hidden = c.known-hidden.result } in
    record {
      agrees = subst (λ es. Agrees es c.in_ok-table.table) (sym c.in_ok-push.ensures.items)
          (declared c.args.self.table c.in_ok-table.table c.args.self.entries.items e c.args.self.agrees (ap (λ (h : Option Known). (h, c.count.result)) c.known-hidden.ensures ∙ ap (λ (n : ℕ). (known_in c.args.self.entries.items c.args.name.now, n)) c.count.ensures) c.in_ok-table.ensures);
    }
