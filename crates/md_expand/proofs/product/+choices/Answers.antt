use Rattle.std.proofs.Common.{◌≡◌, ◌++◌, ◌∷◌, [], List, take, refl, sym, ap, ◌∙◌, subst, append-nil, arith}
use Rattle.std.proofs.lemmas.List.{nil_from_length, take_all}
use Rattle.std.specs.Option.{option_map_or}
use Rattle.md_text.specs.Pieces.{Slot, slots}
use Rattle.md_text.specs.Expansion.{Expanded as Row, fillings, itself, taken_by}
use Rattle.md_forms.specs.Seen.{kind_of, slot_of, pieces_of, declarations_of}
use Rattle.md_expand.specs.declared.modes.Filling.{Filling}
use Rattle.md_expand.specs.declared.modes.Filling.TheVariants.{Itself}
use Rattle.md_expand.specs.Fillings.{all_seen}
use Rattle.md_expand.specs.Product.{Writes, rows_of}
use Rattle.md_expand.proofs.Choices.{rows_by, all_fillings_taken, writes_no_more, writes_none, writes_one_more, writes_row}
use Rattle.md_expand.proofs.Outcomes.{if_ok_then}
use Rattle.md_expand.proofs.product.+choices.Goals as goal

pub expand_filled-returns-then-len-limit : goal.expand_filled-returns-then-len-limit
expand_filled-returns-then-len-limit t c =
    writes_no_more c.args.limit _ c.args.progress c.requires.room (omega (arith, c.args.progress.rows.ok.0, c.len.ensures, c.if-len-limit.true))

pub expand_hole-loop-filling-init : goal.expand_hole-loop-filling-init
expand_hole-loop-filling-init t c = writes_none c.args.limit c.args.progress c.requires.room

pub expand_hole-loop-filling-preserved : goal.expand_hole-loop-filling-preserved
expand_hole-loop-filling-preserved t c =
    writes_one_more c.args.scope.now.width (declarations_of c.args.scope.now.all.now) c.args.row (slots (pieces_of c.args.rest.now)) c.in-Some.found.now
    c.loop-filling.filling-index c.filling-item.result c.args.limit c.args.progress c.loop-filling.progress c.in_ok-progress-in-Some.progress
    c.loop-filling-test.true c.filling-item.is c.loop-filling.invariant c.in_ok-progress-in-Some.ensures

pub expand_hole-returns-after-loop-filling : goal.expand_hole-returns-after-loop-filling
expand_hole-returns-after-loop-filling t c =
    let w = c.args.scope.now.width in
    let ds = declarations_of c.args.scope.now.all.now in
    let others = slots (pieces_of c.args.rest.now) in
    let chosen = c.args.progress.chosen.items in
    let found = c.in-Some.found.now in
    let h = slot_of c.args.slot.now in
    let all : all_seen w ds found ≡ fillings w ds h.kind =
    ap (λ o. option_map_or (λ found. all_seen w ds found.now) o (itself (taken_by w ds h.kind) ∷ [])) (sym c.in-Some.is) ∙ c.alternatives_for.ensures in
    let whole : rows_by w ds c.args.row chosen others (take c.loop-filling.filling-index found) ≡ rows_of w ds c.args.row chosen (h ∷ others) =
    ap (rows_by w ds c.args.row chosen others) (take_all c.loop-filling.filling-index found (omega (arith, c.loop-filling-test.false)))
    ∙ all_fillings_taken w ds c.args.row chosen h others found all in
    subst (λ (rows : List Row). Writes c.args.limit rows c.args.progress c.loop-filling.progress) whole c.loop-filling.invariant

pub expand_hole-returns-in-None : goal.expand_hole-returns-in-None
expand_hole-returns-in-None t c =
    let w = c.args.scope.now.width in
    let ds = declarations_of c.args.scope.now.all.now in
    let others = slots (pieces_of c.args.rest.now) in
    let chosen = c.args.progress.chosen.items in
    let h = slot_of c.args.slot.now in
    let only = Itself c.taken_by.result ∷ [] in
    let all : all_seen w ds only ≡ fillings w ds h.kind =
    ap (λ hole. itself hole ∷ []) c.taken_by.ensures
    ∙ ap (λ o. option_map_or (λ found. all_seen w ds found.now) o (itself (taken_by w ds h.kind) ∷ [])) (sym c.in-None.is) ∙ c.alternatives_for.ensures in
    let whole : rows_of w ds c.args.row (chosen ++ only) others ≡ rows_of w ds c.args.row chosen (h ∷ others) =
    sym (append-nil _) ∙ all_fillings_taken w ds c.args.row chosen h others only all in
    if_ok_then _ _ c.expand_filled-in-None.result (λ p e. subst (λ (rows : List Row). Writes c.args.limit rows c.args.progress p) whole e) c.expand_filled-in-None.ensures

pub expand_pieces-returns-in_ok-push-in-empty : goal.expand_pieces-returns-in_ok-push-in-empty
expand_pieces-returns-in_ok-push-in-empty t c =
    let none : c.args.rest.now ≡ [] = nil_from_length c.args.rest.now (omega (arith, c.in-empty.len_below)) in
    writes_row c.args.scope.now.width (declarations_of c.args.scope.now.all.now) c.args.row (slots (pieces_of c.args.rest.now)) c.as_slice-chosen.result.now c.args.limit
    c.args.progress c.push.new.self c.in_ok-expanded-in-empty.expanded (ap (λ ps. slots (pieces_of ps)) none) c.as_slice-chosen.ensures.value c.requires.room
    c.in_ok-expanded-in-empty.ensures c.in_ok-push-in-empty.ensures.items
