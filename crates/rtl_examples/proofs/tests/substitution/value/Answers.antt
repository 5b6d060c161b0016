use Rattle.std.proofs.Common.{◌≡◌, List, get_or, refl, sym, ap, ◌∙◌, subst, inl}
use Rattle.rtl_tree.specs.Trees.{tree_of}
use Rattle.rtl_tree.specs.Moves.{Move}
use Rattle.rtl_tree.specs.Sorts.{IsFitting}
use Rattle.rtl_text.specs.Seen.{printing_context}
use Rattle.rtl_examples.proofs.Reading.{IsRead, read_fits}
use Rattle.rtl_examples.proofs.tests.substitution.value.Goals as goal

pub returns : goal.returns
returns c =
    let moves : List Move = c.in_ok-transfer.transfer in
    let read : IsRead (printing_context 16 c.no_names.result) c.as_bytes.result.now moves =
    record { size = inl refl; closed = refl; says = c.in_ok-transfer.ensures.found } in
    let first : Move = c.index-deref_mut-0.result in
    let fits : IsFitting 16 (get_or moves 0 first).value = (read_fits _ _ _ read 0 first read.says.well_formed.nonempty).1 in
    let list = c.deref_mut.ensures.value ∙ c.transfer.view_is in
    let value : tree_of c.take.result ≡ (get_or moves 0 first).value =
    ap tree_of c.take.ensures.taken
    ∙ (ap (λ (m : Move). m.value) c.assignment.view_is ∙ ap (λ (ms : List Move). (get_or ms 0 first).value) list) in
    subst (IsFitting 16) (sym value) fits
