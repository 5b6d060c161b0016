use Rattle.std.proofs.Common.{refl, sym, subst}
use Rattle.rtl_tree.specs.WellFormed.{IsWellFormed}
use Rattle.rtl_spelling.specs.Printing.{IsPrintable}
use Rattle.rtl_spelling.specs.Contract.{said_of}
use Rattle.rtl_text.specs.Seen.{printing_context}
use Rattle.rtl_examples.proofs.Reading.{IsRead, read_fits, normal_is_formed, normal_is_printable, printed_alike, no_fault, handed_on}
use Rattle.rtl_examples.proofs.rewriting.normal_text.Goals as goal

pub normalise_effects-requires : goal.normalise_effects-requires
normalise_effects-requires g c =
    let r : IsRead (printing_context g.W.Word.BITS c.args.names.now) c.args.text.now c.in_ok-transfer.transfer =
    record { size = g.met.W.Word.sizes; closed = refl; says = c.in_ok-transfer.ensures.found } in
    read_fits _ _ _ r

pub print_transfer-requires-clause-well_formed : goal.print_transfer-requires-clause-well_formed
print_transfer-requires-clause-well_formed g c =
    let r : IsRead (printing_context g.W.Word.BITS c.args.names.now) c.args.text.now c.in_ok-transfer.transfer =
    record { size = g.met.W.Word.sizes; closed = refl; says = c.in_ok-transfer.ensures.found } in
    subst IsWellFormed (sym c.normalise_effects.ensures.moves) (normal_is_formed _ _ _ r)

pub print_transfer-requires-clause-printable : goal.print_transfer-requires-clause-printable
print_transfer-requires-clause-printable g c =
    let names = printing_context g.W.Word.BITS c.args.names.now in
    let r : IsRead names c.args.text.now c.in_ok-transfer.transfer =
    record { size = g.met.W.Word.sizes; closed = refl; says = c.in_ok-transfer.ensures.found } in
    subst (IsPrintable names) (sym c.normalise_effects.ensures.moves) (normal_is_printable _ _ _ r)

pub returns-in_err-transfer-clause-only : goal.returns-in_err-transfer-clause-only
returns-in_err-transfer-clause-only g c ms says =
    let names = printing_context g.W.Word.BITS c.args.names.now in
    let told = c.in_err-transfer.ensures.only (said_of ms) says.spells in
    handed_on names ms c.in_err-transfer.field-0.0 c.from_residual.result c.from_residual.ensures.1 (no_fault names c.args.text.now ms _ says told)

pub returns-clause-only : goal.returns-clause-only
returns-clause-only g c ms says =
    printed_alike (printing_context g.W.Word.BITS c.args.names.now) ms c.in_ok-transfer.transfer c.normalise_effects.new.e c.new-out.result.items _
    (c.in_ok-transfer.ensures.only (said_of ms) says.spells) c.normalise_effects.ensures.moves c.new-out.ensures.items c.in_ok-print_transfer.ensures
