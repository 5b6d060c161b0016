use Rattle.std.proofs.Common.{◌≡◌, ◌||◌, List, length, refl, ap, ◌∙◌}
use Rattle.std.specs.Prelude.{nat_lt}
use Rattle.std.specs.Global.{Vec}
use Rattle.std.specs.Option.{option_map}
use Rattle.std.specs.declared.option.Option.{Option}
use Rattle.std.specs.declared.option.Option.TheVariants.{Some, None}
use Rattle.rtl_tree.specs.Moves.{Move}
use Rattle.md_text.specs.Expansion.{holes_in}
use Rattle.md_text.specs.Rules.{has_deep}
use Rattle.md_expand.specs.declared.moves.Filled.{Filled}
use Rattle.md_expand.specs.Filled.{BothAllFilled}
use Rattle.md_expand.specs.Expanded.{deep_within}
use Rattle.md_expand.proofs.LikeDepths.{deep_alike}
use Rattle.md_expand.proofs.sizes.is_too_large.Goals as goal

same_deep : (few : Type 0) (r : Option (List Move)) (t : Option (Vec Filled)) → BothAllFilled few r (option_map (λ v. v.items) t) → deep_within t ≡ has_deep r
same_deep few None None b = refl
same_deep few None (Some v) b = absurd b
same_deep few (Some ms) None b = absurd b
same_deep few (Some ms) (Some v) b = deep_alike few ms v.items b

pub returns : goal.returns
returns c = λ r e.
    c.is_large.ensures ∙ ap (λ text. nat_lt 8 (length (holes_in text)) || deep_within c.args.row.now.transfer) e.text
    ∙ ap (λ b. nat_lt 8 (length (holes_in r.text)) || b) (same_deep _ r.transfer c.args.row.now.transfer e.transfer)
