use Rattle.std.proofs.Common.{None, Some, ◌∙◌, sym}
use Rattle.rtl_tree.proofs.FoundNames.{finds_name}
use Rattle.rtl_tree.proofs.c_names.NameList.find.Goals as goal

pub returns-in-Some : goal.returns-in-Some
returns-in-Some c =
    let found = finds_name _ _ (Some c.in-Some.place) (sym c.in-Some.is ∙ c.get_index_of.ensures.index) in
    rw (sym c.self.view_is) found

pub returns-in-None : goal.returns-in-None
returns-in-None c =
    let lacks = finds_name _ _ None (sym c.in-None.is ∙ c.get_index_of.ensures.index) in
    rw (sym c.self.view_is) lacks
