use Rattle.std.proofs.Common.{◌≡◌, Err, sym, ap, ◌∙◌}
use Rattle.rtl_tree.specs.Trees.{tree_of}
use Rattle.rtl_text.specs.Seen.{tokens_of}
use Rattle.md_text.specs.Forms.{hole_names}
use Rattle.md_open.specs.declared.fault.OpenFault.TheVariants.{NoForm}
use Rattle.md_open.proofs.Readings.{few_in, tree_not_spelled, tree_labelled, tree_at_slices}
use Rattle.md_open.proofs.trees.open_tree.Goals as goal

pub spelled_tree-requires-clause-few : goal.spelled_tree-requires-clause-few
spelled_tree-requires-clause-few c =
    few_in c.args.text.now (tokens_of c.in-Ok.tokens.items) c.as_slice-3.result.now c.in-Ok.ensures.found c.requires.short
    (c.as_slice-3.ensures ∙ c.in_ok-names.ensures ∙ ap (λ xs. hole_names (tokens_of xs)) c.as_slice.ensures.value)

pub returns-in-Err-spelled_tree-clause-refused : goal.returns-in-Err-spelled_tree-clause-refused
returns-in-Err-spelled_tree-clause-refused c = λ e.
    let fault : c.in-Err-spelled_tree.fault ≡ NoForm = cc in
    tree_not_spelled c.args.bits c.args.text.now (tokens_of c.in-Ok.tokens.items) c.in_ok-names.names c.in-Ok.ensures.found
    (c.in_ok-names.ensures ∙ ap (λ xs. hole_names (tokens_of xs)) c.as_slice.ensures.value)
    (λ t s. c.in-Err-spelled_tree.ensures.refused (ap Err fault) t (tree_at_slices c.args.bits _ _ _ _ t (sym c.as_slice-3.ensures) (ap tokens_of (sym c.as_slice-2.ensures.value)) s))

pub returns-clause-refused : goal.returns-clause-refused
returns-clause-refused c = λ e.
    tree_labelled c.args.bits c.args.text.now (tokens_of c.in-Ok.tokens.items) c.in_ok-names.names (tree_of c.in-Ok-spelled_tree.tree) c.requires.size c.in-Ok.ensures.found
    (c.in_ok-names.ensures ∙ ap (λ xs. hole_names (tokens_of xs)) c.as_slice.ensures.value)
    (tree_at_slices c.args.bits _ _ _ _ (tree_of c.in-Ok-spelled_tree.tree) c.as_slice-3.ensures (ap tokens_of c.as_slice-2.ensures.value) c.in-Ok-spelled_tree.ensures.found)
    (sym c.if-has_no_label.ensures)
