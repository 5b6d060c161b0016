use Rattle.std.proofs.Common.{◌≡◌, Err, ap}
use Rattle.md_parser.specs.declared.fault.FormFault.TheVariants.{NoForm}
use Rattle.md_parser.proofs.form.memory_size.Goals as goal

pub returns-in-Err-clause-refused : goal.returns-in-Err-clause-refused
returns-in-Err-clause-refused c = λ e. let fault : c.in-Err.fault ≡ NoForm = cc in c.in-Err.ensures.refused (ap Err fault)
