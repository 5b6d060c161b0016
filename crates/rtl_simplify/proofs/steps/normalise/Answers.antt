use Rattle.std.proofs.Common.{subst, sym, ap, ◌∙◌}
use Rattle.rtl_tree.specs.Trees.{Tree, tree_of}
use Rattle.rtl_tree.specs.Sorts.{IsFitting}
use Rattle.rtl_value.specs.Values.{value_of}
use Rattle.rtl_norm.proofs.Finish.{norm_fits}
use Rattle.rtl_effect.specs.Views.{seen}
use Rattle.rtl_norm_value.proofs.Seen.{seen_is_kept}
use Rattle.rtl_norm_value.proofs.Value.{value_is_kept}
use Rattle.rtl_simplify.proofs.steps.normalise.Goals as goal

pub returns-clause-fits : goal.returns-clause-fits
returns-clause-fits g c =
    let P = λ (t : Tree). IsFitting g.W.Word.BITS t in
    subst P (sym c.reduce.ensures) (norm_fits g.W.Word.BITS (tree_of c.args.e.now) g.met.W.Word.sizes c.requires)

pub returns-clause-value : goal.returns-clause-value
returns-clause-value g c =
    λ s k b h. ap (λ t. value_of g.W.Word.BITS t s) c.reduce.ensures ∙ value_is_kept g.W.Word.BITS (tree_of c.args.e.now) s g.met.W.Word.sizes k b c.requires h

pub returns-clause-seen : goal.returns-clause-seen
returns-clause-seen g c =
    λ v k h. ap (λ t. seen g.W.Word.BITS t v) c.reduce.ensures ∙ seen_is_kept g.W.Word.BITS (tree_of c.args.e.now) v g.met.W.Word.sizes k c.requires h
