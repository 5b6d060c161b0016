use Rattle.std.proofs.Common.{◌++◌, sym, ap, ◌∙◌}
use Rattle.c_tree.specs.declared.syntax.External.{External}
use Rattle.c_typing.specs.Functions.{headings_in, definition_from}
use Rattle.c_functions.specs.Tables.{number_at, first_of}
use Rattle.c_functions.proofs.Tables.{defined, declares}
use Rattle.c_functions.proofs.definitions.with_part.Goals as goal

pub returns-in_ok-more-in-Defined : goal.returns-in_ok-more-in-Defined
returns-in_ok-more-in-Defined c = λ rest name.
    defined (number_at c.args.known.table name) (number_at c.in_ok-more-in-Defined.more.table name) c.args.known.count c.in_ok-more-in-Defined.more.count _ _ name rest
    (c.in_ok-more-in-Defined.ensures.table name) c.in_ok-more-in-Defined.ensures.count c.as_slice.ensures
    ∙ ap (λ (x : External). first_of (number_at c.args.known.table name) (definition_from c.args.known.count (headings_in x ++ rest) name)) (sym c.in-Defined.is)

pub returns-in-Declared : goal.returns-in-Declared
returns-in-Declared c = λ rest name. declares (number_at c.args.known.table name) c.args.part.now c.in-Declared.field-0 c.args.known.count rest name c.in-Declared.is
