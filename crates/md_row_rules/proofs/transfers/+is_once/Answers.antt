use Rattle.std.proofs.Common.{◌≡◌, true}
use Rattle.md_row_rules.specs.Goods.{filled_apart}
use Rattle.rtl_tree.proofs.Pairs.{is_cons, AllPairs-from_rest, AllPairs-from_first}
use Rattle.md_row_rules.proofs.transfers.+is_once.Goals as goal

pub returns-then-is_apart_from : goal.returns-then-is_apart_from
returns-then-is_apart_from t c =
    AllPairs-from_rest (λ f g. filled_apart f g ≡ true) c.first-item.result _ c.args.list.now c.is_once.result
    (is_cons c.first-item.result c.args.list.now c.in-len1-up.len_at_least c.first-item.is)
    (c.is_apart_from.ensures.0 c.if-is_apart_from.true) c.is_once.ensures

pub returns-else-is_apart_from : goal.returns-else-is_apart_from
returns-else-is_apart_from t c =
    AllPairs-from_first (λ f g. filled_apart f g ≡ true) c.first-item.result _ c.args.list.now c.is_apart_from.result
    (is_cons c.first-item.result c.args.list.now c.in-len1-up.len_at_least c.first-item.is)
    c.if-is_apart_from.false c.is_apart_from.ensures
