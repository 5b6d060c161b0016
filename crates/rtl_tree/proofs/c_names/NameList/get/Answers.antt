use Rattle.std.proofs.Common.{sym}
use Rattle.rtl_tree.proofs.FoundNames.{name_among}
use Rattle.rtl_tree.proofs.c_names.NameList.get.Goals as goal

pub returns-in-Some-clause-name : goal.returns-in-Some-clause-name
returns-in-Some-clause-name c = rw c.as_slice.ensures.value (name_among _ _ _ c.self.invariant (sym c.in-Some.ensures.key))
