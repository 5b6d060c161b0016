use Rattle.std.proofs.Common.{◌≡◌, ℕ, ◌<◌, List, Option, Some, length, refl, sym, ap, ◌∙◌, arith}
use Rattle.std.specs.Prelude.{◌&&◌, slice_get}
use Rattle.std.specs.Global.{Vec}
use Rattle.std.specs.Vec.{with_items}
use Rattle.std.proofs.lemmas.List.{with_items_is}
use Rattle.std.proofs.lemmas.Option.{slice_get_read}
use Rattle.flow_live.specs.Rows.{has_temporary}
use Rattle.color_graph.specs.Sharing.{is_untouched, may_share, words_in}
use Rattle.color_graph.proofs.Apart.{same_share, set_share}
use Rattle.color_graph.proofs.sharing.part.Goals as goal

pub returns-then-at-len-clause-rows : goal.returns-then-at-len-clause-rows
returns-then-at-len-clause-rows c =
    set_share c.args.rows.now.items c.args.at (with_items c.index_mut.result.now c.keep_untouched.new.row) (is_untouched c.args.dead.now c.args.moves.now) within left
  where
    within : c.args.at < length c.args.rows.now.items
    within = let l = c.if-at-len.true in let e = c.len.ensures in omega (arith, l, e)

    row_is : slice_get c.args.rows.now.items c.args.at ≡ Some c.index_mut.result.now
    row_is = slice_get_read c.args.rows.now.items (length c.args.rows.now.items) c.args.at c.index_mut.result.now refl within c.index_mut.ensures.value

    long : length c.keep_untouched.new.row ≡ c.index_mut.result.now.len
    long =
        let a = c.keep_untouched.auto.row in
        let b : length c.deref_mut.result.now ≡ length c.index_mut.result.now.items = ap length c.deref_mut.ensures.value in
        let e = c.index_mut.result.now.ok.0 in omega (arith, a, b, e)

    left : (j : ℕ) → has_temporary (with_items c.index_mut.result.now c.keep_untouched.new.row).items j
        ≡ (may_share c.args.rows.now.items c.args.at j && is_untouched c.args.dead.now c.args.moves.now j)
    left j =
        ap (λ (ws : List ℕ). has_temporary ws j) (with_items_is c.index_mut.result.now c.keep_untouched.new.row long)
        ∙ c.keep_untouched.ensures j
        ∙ ap (λ (ws : List ℕ). has_temporary ws j && is_untouched c.args.dead.now c.args.moves.now j) c.deref_mut.ensures.value
        ∙ sym (ap (λ (o : Option (Vec ℕ)). has_temporary (words_in o) j && is_untouched c.args.dead.now c.args.moves.now j) row_is)

pub returns-else-at-len-clause-rows : goal.returns-else-at-len-clause-rows
returns-else-at-len-clause-rows c =
    same_share c.args.rows.now.items c.args.at (is_untouched c.args.dead.now c.args.moves.now) (let l = c.if-at-len.false in let e = c.len.ensures in omega (arith, l, e))
