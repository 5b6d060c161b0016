use Rattle.std.proofs.Common.{map, rules}
use Rattle.md_lines.proofs.NamesRead.{name_taken, name_shorter, no_more, none_there, names_found}
use Rattle.md_lines.proofs.names.read_names.Goals as goal

pub returns-in_default-clause-refused : goal.returns-in_default-clause-refused
returns-in_default-clause-refused c = λ e others h.
    no_more c.args.text.now c.loop-rest.rest.now (map (λ name. name.now) c.loop-rest.names.items) (search rules) c.in_default.ensures.none c.loop-rest.invariant others h

pub loop-rest-smaller : goal.loop-rest-smaller
loop-rest-smaller c = name_shorter c.loop-rest.rest.now c.in-Some.name.now c.in-Some.back.now c.in-Some.ensures.found

pub loop-rest-preserved : goal.loop-rest-preserved
loop-rest-preserved c =
    name_taken c.args.text.now c.loop-rest.rest.now c.in-Some.back.now c.in-Some.name c.loop-rest.names.items c.push.new.self.items c.in_ok-push.ensures.items c.in-Some.ensures.found c.loop-rest.invariant

pub returns-then-is_empty-clause-refused : goal.returns-then-is_empty-clause-refused
returns-then-is_empty-clause-refused c = λ e others h.
    none_there c.args.text.now c.loop-rest.rest.now c.loop-rest.names.items (search rules) (search rules) c.loop-rest.invariant others h

pub returns-clause-found : goal.returns-clause-found
returns-clause-found c = names_found c.args.text.now c.loop-rest.rest.now c.loop-rest.names.items (search rules) (search rules) c.loop-rest.invariant
