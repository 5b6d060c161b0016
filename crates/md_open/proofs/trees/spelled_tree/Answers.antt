use Rattle.std.proofs.Common.{refl, ◌∙◌}
use Rattle.rtl_tree.specs.Trees.{tree_of}
use Rattle.rtl_text.specs.Seen.{tokens_of}
use Rattle.md_open.proofs.Readings.{same_context, whole_tree, other_rest, no_tree, no_end}
use Rattle.md_open.proofs.trees.spelled_tree.Goals as goal

pub returns-then-is_end-clause-found : goal.returns-then-is_end-clause-found
returns-then-is_end-clause-found c =
    whole_tree _ c.args.bits c.args.names.now (tokens_of c.args.tokens.now) (tokens_of c.in-Ok.rest.now) (tree_of c.in-Ok.tree) c.requires.size
    (same_context c.args.bits c.no_names-empty.result c.args.names.now _ c.no_names-empty.ensures.objects c.no_names-empty.ensures.functions (c.as_slice.ensures.value ∙ c.in_ok-holes.ensures))
    c.in-Ok.ensures (c.if-is_end.ensures.0 refl)

pub returns-in-Ok-clause-refused : goal.returns-in-Ok-clause-refused
returns-in-Ok-clause-refused c = λ e.
    other_rest _ c.args.bits c.args.names.now (tokens_of c.args.tokens.now) (tokens_of c.in-Ok.rest.now) (tree_of c.in-Ok.tree) c.requires.size
    (same_context c.args.bits c.no_names-empty.result c.args.names.now _ c.no_names-empty.ensures.objects c.no_names-empty.ensures.functions (c.as_slice.ensures.value ∙ c.in_ok-holes.ensures))
    c.in-Ok.ensures (λ q. no_end (c.if-is_end.ensures.1 q))

pub returns-in-Err-Wrong-clause-refused : goal.returns-in-Err-Wrong-clause-refused
returns-in-Err-Wrong-clause-refused c = λ e.
    no_tree _ c.args.bits c.args.names.now (tokens_of c.args.tokens.now) _ c.requires.size
    (same_context c.args.bits c.no_names-empty.result c.args.names.now _ c.no_names-empty.ensures.objects c.no_names-empty.ensures.functions (c.as_slice.ensures.value ∙ c.in_ok-holes.ensures))
    (rw c.in-Err-Wrong.field-0-is at c.in-Err-Wrong.ensures)

pub returns-clause-refused : goal.returns-clause-refused
returns-clause-refused c = λ e.
    no_tree _ c.args.bits c.args.names.now (tokens_of c.args.tokens.now) _ c.requires.size
    (same_context c.args.bits c.no_names-empty.result c.args.names.now _ c.no_names-empty.ensures.objects c.no_names-empty.ensures.functions (c.as_slice.ensures.value ∙ c.in_ok-holes.ensures))
    (rw c.in-Err-Deep.field-0-is at c.in-Err-Deep.ensures)
