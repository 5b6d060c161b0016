use Rattle.std.proofs.Common.{◌≡◌, ◌-◌, List, [], ◌∷◌, ◌++◌, ap, arith, length, refl, sym, subst, slice_index_or, ◌∙◌}
use Rattle.std.specs.Prelude.{ℕ}
use Rattle.std.proofs.lemmas.Option.{slice_get_read}
use Rattle.temp_code.specs.declared.code.Transfer.{Transfer}
use Rattle.temp_code.specs.Routines.{block_of}
use Rattle.flow_live.specs.declared.rows.Row.{Row}
use Rattle.flow_live.specs.Rows.{bits_in}
use Rattle.flow_live.specs.Tables.{AreBlockRows}
use Rattle.flow_live.proofs.Blockwise.{FillsTo, fills_first, fills_more, fills_done}
use Rattle.flow_live.proofs.making.block_rows.Goals as goal

pub loop-at-init : goal.loop-at-init
loop-at-init c =
    subst (λ (n : ℕ). FillsTo c.args.standing.now c.args.block.now (bits_in c.args.row) n c.push.new.self.items (bits_in c.go_before_end.new.row)) (sym (ap length c.as_slice-body.ensures))
    (subst (λ (xs : List Row). FillsTo c.args.standing.now c.args.block.now (bits_in c.args.row) (length c.args.block.now.body) xs (bits_in c.go_before_end.new.row))
    (sym (c.in_ok-push.ensures.items ∙ ap (λ (xs : List Row). xs ++ c.in_ok-copied.field-0 ∷ []) c.in_ok-rows.ensures.items))
    (fills_first c.args.standing.now c.args.block.now c.in_ok-copied.field-0 (bits_in c.args.row) (bits_in c.go_before_end.new.row) c.in_ok-copied.ensures
    c.go_before_end.ensures.before c.go_before_end.ensures.words))

pub loop-at-preserved : goal.loop-at-preserved
loop-at-preserved c =
    let one = c.loop-at-test.true in
    let within = c.loop-at.invariant.within in
    subst (λ (xs : List Row). FillsTo c.args.standing.now c.args.block.now (bits_in c.args.row) (c.loop-at.at - 1) xs (bits_in c.go_before_transfer.new.row)) (sym c.in_ok-push-2.ensures.items)
    (fills_more c.args.standing.now c.args.block.now c.loop-at.at (c.loop-at.at - 1) c.index-body-at.result c.loop-at.rows.items c.in_ok-copied-2.field-0 (bits_in c.args.row)
    (bits_in c.loop-at.row) (bits_in c.go_before_transfer.new.row) (omega (arith, one))
    (slice_get_read c.args.block.now.body (length c.args.block.now.body) (c.loop-at.at - 1) c.index-body-at.result refl (omega (arith, one, within))
    (subst (λ (xs : List Transfer). c.index-body-at.result ≡ slice_index_or xs (c.loop-at.at - 1) c.index-body-at.result) c.as_slice-body.ensures c.index-body-at.is))
    c.in_ok-copied-2.ensures c.loop-at.invariant c.go_before_transfer.ensures.before c.go_before_transfer.ensures.words)

pub returns : goal.returns
returns c = λ t r k stands low has holds.
    subst (λ (xs : List Row). AreBlockRows t r (length c.args.row.temporaries.items) k (block_of c.args.block.now) xs) (sym c.in_ok-push-3.ensures.items)
    (fills_done c.args.standing.now c.args.block.now c.loop-at.at c.loop-at.rows.items c.loop-at.row (bits_in c.args.row) (bits_in c.loop-at.row) c.loop-at-test.false refl c.loop-at.invariant
    t r k stands low has holds)
