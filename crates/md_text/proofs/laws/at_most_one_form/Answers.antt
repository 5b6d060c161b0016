use Rattle.md_text.proofs.FormTexts.{forms_once}
use Rattle.md_text.proofs.laws.at_most_one_form.Goals as goal

pub returns : goal.returns
returns c = λ w line f g h p q. forms_once w line f g h p q
