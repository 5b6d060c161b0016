use Rattle.std.proofs.Common.{List, subst, sym}
use Rattle.std.specs.List.{All}
use Rattle.rtl_tree.specs.Moves.{Move}
use Rattle.rtl_norm.specs.Transfers.{IsMoveFitting}
use Rattle.rtl_norm.proofs.Stored.{moves_fit}
use Rattle.rtl_effect.specs.Effects.{effect}
use Rattle.rtl_norm_value.specs.Effect.{IsSameEffect, with_normal_jump}
use Rattle.rtl_norm_value.proofs.Same.{effect_is_kept, normal_jump_is_kept}
use Rattle.rtl_simplify.proofs.transfers.normalise_effects.Goals as goal

pub returns-clause-fits : goal.returns-clause-fits
returns-clause-fits g c =
    let P = λ (ms : List Move). All (IsMoveFitting g.W.Word.BITS) ms in
    subst P (sym c.reduce.ensures) (moves_fit g.W.Word.BITS c.args.e.now g.met.W.Word.sizes c.requires)

pub returns-clause-effect : goal.returns-clause-effect
returns-clause-effect g c =
    λ v k p h f. let P = λ (ms : List Move). IsSameEffect (effect g.W.Word.BITS ms v) (effect g.W.Word.BITS c.args.e.now v) in
    subst P (sym c.reduce.ensures) (effect_is_kept g.W.Word.BITS c.args.e.now v g.met.W.Word.sizes k p h c.requires f)

pub returns-clause-code : goal.returns-clause-code
returns-clause-code g c =
    λ v k h f. let P = λ (ms : List Move). IsSameEffect (effect g.W.Word.BITS ms v) (effect g.W.Word.BITS (with_normal_jump g.W.Word.BITS c.args.e.now) v) in
    subst P (sym c.reduce.ensures) (normal_jump_is_kept g.W.Word.BITS c.args.e.now v g.met.W.Word.sizes k h c.requires f)
