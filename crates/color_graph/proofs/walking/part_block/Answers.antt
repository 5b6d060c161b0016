use Rattle.std.proofs.Common.{◌≡◌, ℕ, List, length, map, sym, ap, subst, ◌∙◌}
use Rattle.std.specs.Prelude.{◌&&◌, ◌||◌, Some}
use Rattle.temp_machine.specs.Live.{End as EndItem, item_at}
use Rattle.temp_code.specs.declared.code.Transfer.{Transfer}
use Rattle.temp_code.specs.Routines.{block_of, exit_of}
use Rattle.flow_live.specs.Rows.{has_temporary}
use Rattle.color_graph.specs.Sharing.{may_share, Parts}
use Rattle.color_graph.specs.Meeting.{place, MeetsAt, MeetsBefore}
use Rattle.color_graph.proofs.Falling.{code_parts}
use Rattle.color_graph.proofs.walking.part_block.Goals as goal

pub returns-clause-parts : goal.returns-clause-parts
returns-clause-parts c = λ t r live has.
    code_parts c.args.at c.args.block.now c.args.live.now t r c.args.rows.now.items c.part_all.new.rows.items c.part_body.new.rows.items c.part_end.new.rows.items live has
    (λ i j. c.part_all.ensures.rows i j
    ∙ ap (λ (dead : List ℕ). may_share c.args.rows.now.items i j && (has_temporary dead i || has_temporary dead j)) c.dead_words_at.ensures)
    (subst (λ (xs : List Transfer). Parts (length r.homes) (MeetsBefore (length xs) t r c.args.at) c.part_all.new.rows.items c.part_body.new.rows.items) c.as_slice-body.ensures
    (c.part_body.ensures.parts t r (block_of c.args.block.now) live has (ap (λ (xs : List Transfer). map (λ t. t.what) xs) (sym c.as_slice-body.ensures))))
    (subst (λ (xs : List Transfer). item_at r (place c.args.at (length xs)) ≡ Some (EndItem (exit_of c.args.block.now.end))
    → Parts (length r.homes) (MeetsAt t r (place c.args.at (length xs))) c.part_body.new.rows.items c.part_end.new.rows.items) c.as_slice-body.ensures
    (c.part_end.ensures.parts t r live))
