use Rattle.std.proofs.Common.{arith, ◌≡◌, ◌∙◌, sym, ap, ◌+◌, drop, get_or}
use Rattle.rtl_tree.specs.Trees.{tree_of}
use Rattle.rtl_tree.specs.Moves.{Move, goal_of}
use Rattle.md_match.proofs.Size.{has_size}
use Rattle.md_match.specs.Searches.{match_all}
use Rattle.md_match.specs.Tasks.{search_of, rest}
use Rattle.md_match.proofs.Pick.{pick_skip, pick_pass, pick_take, mixed, mixed_too}
use Rattle.md_match.proofs.search.+search.Goals as goal

pub go-next-requires : goal.go-next-requires
go-next-requires t c = (omega (arith, has_size (tree_of c.args.e.now), c.decreases), c.requires)

pub pair-returns-in_default : goal.pair-returns-in_default
pair-returns-in_default t c =
    let x : goal_of c.r.inside.to ≡ c.args.r.now.to = ap (λ (m : Move). m.to) c.r.view_is in
    let y : goal_of c.e.inside.to ≡ c.args.e.now.to = ap (λ (m : Move). m.to) c.e.view_is in
    mixed_too (search_of c.args.t.now).fit c.args.r.now c.args.e.now (rest (search_of c.args.t.now) c.args.t.now.goal.now c.args.then.now) c.args.slots
    c.in_default.field-0-1 c.in_default.field-0-0 (tree_of c.in_default.field-1-0) (sym x ∙ ap goal_of c.in_default.is-0) (sym y ∙ ap goal_of c.in_default.is-1)

pub pair-returns-in_default-2 : goal.pair-returns-in_default-2
pair-returns-in_default-2 t c =
    let x : goal_of c.r.inside.to ≡ c.args.r.now.to = ap (λ (m : Move). m.to) c.r.view_is in
    let y : goal_of c.e.inside.to ≡ c.args.e.now.to = ap (λ (m : Move). m.to) c.e.view_is in
    mixed (search_of c.args.t.now).fit c.args.r.now c.args.e.now (rest (search_of c.args.t.now) c.args.t.now.goal.now c.args.then.now) c.args.slots
    c.in_default.field-0-0 c.in_default.field-0-1 (tree_of c.in_default.field-1-1) (sym x ∙ ap goal_of c.in_default.is-0) (sym y ∙ ap goal_of c.in_default.is-1)

pub assign-loop-j-preserved-then-used-j : goal.assign-loop-j-preserved-then-used-j
assign-loop-j-preserved-then-used-j t c =
    pick_skip (search_of c.args.t.now).fit c.args.t.now.row.now c.loop-j.j
    (get_or c.args.t.now.goal.now c.args.i c.index-t-i.result) c.index-t-i.result c.args.used
    (match_all (search_of c.args.t.now) (drop (c.args.i + 1) c.args.t.now.goal.now)) c.args.slots
    c.loop-j-test.true c.if-used-j.true
    ∙ c.loop-j.invariant

pub assign-loop-j-preserved : goal.assign-loop-j-preserved
assign-loop-j-preserved t c =
    pick_pass (search_of c.args.t.now).fit c.args.t.now.row.now c.loop-j.j
    (get_or c.args.t.now.goal.now c.args.i c.index-t-i.result) c.index-t-j.result c.args.used
    (match_all (search_of c.args.t.now) (drop (c.args.i + 1) c.args.t.now.goal.now)) c.args.slots
    c.pair-found.result c.loop-j-test.true c.if-used-j.false c.pair-found.ensures (sym c.is_some.ensures ∙ c.if-is_some.false)
    ∙ c.loop-j.invariant

pub assign-returns-then-is_some : goal.assign-returns-then-is_some
assign-returns-then-is_some t c =
    pick_take (search_of c.args.t.now).fit c.args.t.now.row.now c.loop-j.j
    (get_or c.args.t.now.goal.now c.args.i c.index-t-i.result) c.index-t-j.result c.args.used
    (match_all (search_of c.args.t.now) (drop (c.args.i + 1) c.args.t.now.goal.now)) c.args.slots
    c.pair-found.result c.loop-j-test.true c.if-used-j.false c.pair-found.ensures (sym c.is_some.ensures ∙ c.if-is_some.true)
    ∙ c.loop-j.invariant
