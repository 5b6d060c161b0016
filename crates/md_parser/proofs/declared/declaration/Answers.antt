use Rattle.std.proofs.Common.{◌≡◌, Err, ap}
use Rattle.md_parser.proofs.declared.declaration.Goals as goal

pub returns-in-Err-NoForm-clause-refused : goal.returns-in-Err-NoForm-clause-refused
returns-in-Err-NoForm-clause-refused c = λ n e.
    let number : n ≡ c.args.line.number = cc in
    (number, c.in-Err-NoForm.ensures.refused (ap Err c.in-Err-NoForm.field-0-is))
