use Rattle.std.proofs.Common.{ℕ, ◌≤◌, length, subst, sym, ap, arith}
use Rattle.md_text.specs.Expansion.{expansions_of}
use Rattle.md_forms.specs.Seen.{declarations_of}
use Rattle.md_expand.proofs.Choices.{one_line_more, none_at_first}
use Rattle.md_expand.proofs.product.expand.Goals as goal

pub loop-declaration-init : goal.loop-declaration-init
loop-declaration-init c = record {
  room = subst (λ (n : ℕ). n ≤ c.args.limit) (sym (ap length c.new-rows.ensures.items)) (omega arith);
  rows = none_at_first c.args.limit c.new-rows.result.items c.new-rows.ensures.items;
}

pub loop-declaration-preserved : goal.loop-declaration-preserved
loop-declaration-preserved c =
    let w = c.args.scope.now.width in
    let all = c.args.scope.now.all.now in
    let ds = declarations_of all in
    record {
      room = c.in_ok-rows.ensures.room;
      rows =
          one_line_more (λ d. expansions_of w ds d.line d.form) all c.loop-declaration.declaration-index c.declaration-item.result c.args.limit c.in_ok-rows.rows.items
          c.loop-declaration-test.true c.declaration-item.is (c.in_ok-rows.ensures.rows _ c.loop-declaration.invariant.rows);
    }
