use Rattle.std.proofs.Common.{◌≡◌, ℕ, List, length, map, sym, ap, subst, ◌∙◌, arith}
use Rattle.std.specs.Vec.{with_items}
use Rattle.std.proofs.lemmas.List.{with_items_is, length-map}
use Rattle.temp_code.specs.declared.code.Block.{Block}
use Rattle.temp_code.specs.Routines.{block_of, routine_of}
use Rattle.color_graph.specs.Sharing.{Drops, Parts}
use Rattle.color_graph.specs.Meeting.{IsLiveBehindCalls, MeetsWithin}
use Rattle.color_graph.proofs.Meetings.{are_conflicts, word_within}
use Rattle.color_graph.proofs.graph.conflicts.Goals as goal

pub returns-clause-conflicts : goal.returns-clause-conflicts
returns-clause-conflicts c = λ t live homes.
    are_conflicts t (routine_of c.args.c.now) homes (record { rows = c.part_blocks.new.rows; over_calls = with_items c.in_ok-over_calls.over_calls c.keep_behind_calls.new.words })
    c.in_ok-rows.rows.items c.in_ok-over_calls.over_calls.items
    (c.in_ok-part_blocks.ensures.count ∙ c.in_ok-rows.ensures.count ∙ c.len-count.ensures)
    (λ i j l m. c.in_ok-rows.ensures.full i j (let e = c.len-count.ensures in omega (arith, l, e)) (word_within c.len-count.result j (let e = c.len-count.ensures in omega (arith, m, e))))
    (subst (λ (n : ℕ). Parts (length c.args.c.now.homes) (MeetsWithin n t (routine_of c.args.c.now)) c.in_ok-rows.rows.items c.part_blocks.new.rows.items) blocks
    (c.in_ok-part_blocks.ensures.parts t (routine_of c.args.c.now) live is))
    (λ i l. c.in_ok-over_calls.ensures i (word_within c.len-count.result i (let e = c.len-count.ensures in omega (arith, l, e))))
    (subst (Drops (length c.args.c.now.homes) (IsLiveBehindCalls (length (map block_of c.args.c.now.blocks)) t (routine_of c.args.c.now)) c.in_ok-over_calls.over_calls.items)
    (sym (with_items_is c.in_ok-over_calls.over_calls c.keep_behind_calls.new.words long))
    (subst (λ (n : ℕ). Drops (length c.args.c.now.homes) (IsLiveBehindCalls n t (routine_of c.args.c.now)) c.in_ok-over_calls.over_calls.items c.keep_behind_calls.new.words) blocks
    (subst (λ (xs : List ℕ). Drops (length c.args.c.now.homes) (IsLiveBehindCalls (length c.as_slice-blocks.result.now) t (routine_of c.args.c.now)) xs c.keep_behind_calls.new.words)
    c.deref_mut.ensures.value (c.keep_behind_calls.ensures t (routine_of c.args.c.now) live is))))
  where
    is : map block_of c.args.c.now.blocks ≡ map block_of c.as_slice-blocks.result.now
    is = ap (λ (xs : List Block). map block_of xs) (sym c.as_slice-blocks.ensures)

    blocks : length c.as_slice-blocks.result.now ≡ length (map block_of c.args.c.now.blocks)
    blocks = ap length c.as_slice-blocks.ensures ∙ sym (length-map c.args.c.now.blocks block_of)

    long : length c.keep_behind_calls.new.words ≡ c.in_ok-over_calls.over_calls.len
    long =
        let a = c.keep_behind_calls.auto.words in
        let b : length c.deref_mut.result.now ≡ length c.in_ok-over_calls.over_calls.items = ap length c.deref_mut.ensures.value in
        let e = c.in_ok-over_calls.over_calls.ok.0 in omega (arith, a, b, e)
