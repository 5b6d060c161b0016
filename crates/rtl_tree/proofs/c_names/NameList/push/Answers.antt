use Rattle.std.proofs.Common.{◌≡◌, ◌++◌, ◌∷◌, [], ap, ◌∙◌}
use Rattle.std.specs.Prelude.{Contains}
use Rattle.rtl_tree.specs.Names.{names_of}
use Rattle.rtl_tree.proofs.FoundNames.{puts_last}
use Rattle.rtl_tree.proofs.NameLists.{AreNames-push}
use Rattle.rtl_tree.proofs.c_names.NameList.push.Goals as goal

pub invariant_of-self-2 : goal.invariant_of-self-2
invariant_of-self-2 c =
    let keys = c.self.inside.set.keys in
    let new : ¬ Contains (names_of keys) c.name.inside.bytes.items = rw (c.self.view_is, c.name.view_is) c.requires.new in
    let is : names_of c.insert.new.self.keys ≡ names_of keys ++ c.name.inside.bytes.items ∷ [] = ap names_of c.in_ok-insert.ensures.keys ∙ puts_last c.name.inside.bytes keys new in
    rw is (AreNames-push _ _ c.self.invariant c.name.invariant new (rw c.self.view_is c.requires.room))

pub returns : goal.returns
returns c =
    let keys = c.self.inside.set.keys in
    let new : ¬ Contains (names_of keys) c.name.inside.bytes.items = rw (c.self.view_is, c.name.view_is) c.requires.new in
    let is : names_of c.insert.new.self.keys ≡ names_of keys ++ c.name.inside.bytes.items ∷ [] = ap names_of c.in_ok-insert.ensures.keys ∙ puts_last c.name.inside.bytes keys new in
    is ∙ (ap (λ ns. ns ++ c.name.inside.bytes.items ∷ []) c.self.view_is ∙ ap (λ n. c.args.self.now ++ n ∷ []) c.name.view_is)
