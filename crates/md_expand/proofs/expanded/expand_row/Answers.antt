use Rattle.std.proofs.Common.{ℕ, ◌≤◌, ◌++◌, refl, sym, ap, ◌∙◌, subst}
use Rattle.std.specs.Option.{option_map}
use Rattle.md_text.specs.Pieces.{slots}
use Rattle.md_text.specs.Expansion.{replaced, meant, transfer_with}
use Rattle.md_forms.specs.Seen.{pieces_of, declarations_of}
use Rattle.md_expand.specs.Seen.{all_shown}
use Rattle.md_expand.specs.Fillings.{all_seen}
use Rattle.md_expand.specs.Filled.{BothAllFilled}
use Rattle.md_expand.proofs.RowHoles.{holes_replaced}
use Rattle.md_expand.proofs.expanded.expand_row.Goals as goal

pub returns : goal.returns
returns c =
    let w = c.args.scope.now.width in
    let ds = declarations_of c.args.scope.now.all.now in
    let ps = pieces_of c.args.text.now in
    let fs = all_seen w ds c.args.chosen.now in
    record {
      line = refl;
      text = c.in_ok-shown.ensures ∙ ap (λ xs. all_shown xs ++ replaced ps fs) c.new.ensures.items;
      transfer =
          subst (λ (n : ℕ). BothAllFilled (n ≤ 256) (transfer_with (meant 0 (slots ps) fs) c.args.transfer.now) (option_map (λ v. v.items) c.in_ok-transfer.transfer))
          (sym (holes_replaced w ds ps c.args.chosen.now c.requires)) c.in_ok-transfer.ensures;
    }
