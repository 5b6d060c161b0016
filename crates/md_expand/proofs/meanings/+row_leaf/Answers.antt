use Rattle.std.proofs.Common.{◌≡◌, [], ap, map, arith}
use Rattle.std.proofs.lemmas.List.{nil_from_length}
use Rattle.md_forms.specs.Seen.{declarations_of}
use Rattle.md_expand.specs.Fillings.{filling_seen, all_seen}
use Rattle.md_expand.proofs.MeantTrees.{no_slot, no_filling}
use Rattle.md_expand.proofs.meanings.+row_leaf.Goals as goal

pub returns-in-empty : goal.returns-in-empty
returns-in-empty t c =
    let ds = declarations_of c.args.scope.now.all.now in
    no_slot _ c.args.number c.args.text.now (all_seen c.args.scope.now.width ds c.args.chosen.now) c.args.name.now c.no_meaning.result
    (omega (arith, c.in-empty.len_below)) c.no_meaning.ensures.tree c.no_meaning.ensures.register

pub returns-in-empty-chosen : goal.returns-in-empty-chosen
returns-in-empty-chosen t c =
    let ds = declarations_of c.args.scope.now.all.now in
    let none : c.args.chosen.now ≡ [] = nil_from_length c.args.chosen.now (omega (arith, c.in-empty-chosen.len_below)) in
    no_filling _ c.args.number c.args.text.now (all_seen c.args.scope.now.width ds c.args.chosen.now) c.args.name.now c.no_meaning-in-empty-chosen.result
    (ap (map (filling_seen c.args.scope.now.width ds)) none) c.no_meaning-in-empty-chosen.ensures.tree c.no_meaning-in-empty-chosen.ensures.register
