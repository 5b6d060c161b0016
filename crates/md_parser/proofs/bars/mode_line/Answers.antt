use Rattle.std.proofs.Common.{◌≡◌, Err, ap}
use Rattle.md_parser.specs.declared.fault.FormFault.TheVariants.{NoForm}
use Rattle.md_parser.proofs.BarTexts.{parts_of_mode, no_mode_text, no_mode_tree}
use Rattle.md_parser.proofs.bars.mode_line.Goals as goal

pub returns-in_default-clause-refused : goal.returns-in_default-clause-refused
returns-in_default-clause-refused c = λ e name ps t h. c.in_default.ensures.none name h.shown h.meant (parts_of_mode c.args.bits c.args.line.now name ps t h)

pub returns-in-Err-clause-refused : goal.returns-in-Err-clause-refused
returns-in-Err-clause-refused c = λ e.
    let fault : c.in-Err.fault ≡ NoForm = cc in
    no_mode_text c.args.bits c.args.line.now c.in-Some.name.now c.in-Some.shown.now c.in-Some.meant.now c.in-Some.ensures.found (c.in-Err.ensures.refused (ap Err fault))

pub returns-in-Err-meant_tree-clause-refused : goal.returns-in-Err-meant_tree-clause-refused
returns-in-Err-meant_tree-clause-refused c = λ e.
    let fault : c.in-Err-meant_tree.fault ≡ NoForm = cc in
    no_mode_tree c.args.bits c.args.line.now c.in-Some.name.now c.in-Some.shown.now c.in-Some.meant.now c.in-Some.ensures.found (c.in-Err-meant_tree.ensures.refused (ap Err fault))
