use Rattle.std.proofs.Common.{◌≡◌, ℕ, List, Option, sym, ap, subst, ◌∙◌}
use Rattle.std.specs.Prelude.{IfOk}
use Rattle.std.specs.Option.{option_map}
use Rattle.rtl_tree.specs.Moves.{Move}
use Rattle.rtl_tree.specs.Trees.{Tree}
use Rattle.rtl_norm.specs.Normal.{norm}
use Rattle.temp_machine.specs.Flow.{label_by, label_of}
use Rattle.flow_blocks.proofs.JumpLabels.{normal_value}
use Rattle.flow_blocks.proofs.jumps.label_of.Goals as goal

pub returns-in-Some : goal.returns-in-Some
returns-in-Some g c =
    let h = c.as_slice.ensures in
    let v = c.transfer.view_is in
    let same : c.as_slice.result.now ≡ c.args.transfer.now = cc in
    subst (λ (x : Option ℕ). IfOk c.label_of_value.result (λ label. label ≡ x))
    (ap (λ (o : Option Tree). label_by (option_map (norm g.W.Word.BITS) o)) c.in-Some.ensures
    ∙ sym (ap label_by (normal_value g.W.Word.BITS c.as_slice.result.now))
    ∙ ap (λ (ms : List Move). label_of g.W.Word.BITS ms) same) c.label_of_value.ensures

pub returns-in-None : goal.returns-in-None
returns-in-None g c =
    let h = c.as_slice.ensures in
    let v = c.transfer.view_is in
    let same : c.as_slice.result.now ≡ c.args.transfer.now = cc in
    ap (λ (o : Option Tree). label_by (option_map (norm g.W.Word.BITS) o)) c.in-None.ensures
    ∙ sym (ap label_by (normal_value g.W.Word.BITS c.as_slice.result.now))
    ∙ ap (λ (ms : List Move). label_of g.W.Word.BITS ms) same
