use Rattle.std.proofs.Common.{ℕ, Global, sym, ap, ◌∙◌, take}
use Rattle.std.specs.Prelude.{Vec}
use Rattle.std.proofs.lemmas.List.{take-map}
use Rattle.rtl_tree.specs.Names.{names_of}
use Rattle.rtl_tree.proofs.NameLists.{AreNames-take}
use Rattle.rtl_tree.proofs.c_names.NameList.truncate.Goals as goal

pub invariant_of-self : goal.invariant_of-self
invariant_of-self c =
    rw (c.truncate.ensures.keys, sym (take-map (λ (v : Vec ℕ Global). v.items) c.args.len c.self.inside.set.keys)) (AreNames-take _ _ c.self.invariant)

pub returns : goal.returns
returns c = ap names_of c.truncate.ensures.keys ∙ (sym (take-map _ _ _) ∙ ap (take c.args.len) c.self.view_is)
