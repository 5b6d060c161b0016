use Rattle.std.proofs.Common.{List, subst, sym}
use Rattle.std.specs.Prelude.{ℕ, true, replicate}
use Rattle.std.proofs.lemmas.List.{length-replicate}
use Rattle.rtl_tree.specs.Sets.{CellBits}
use Rattle.flow_live.specs.Rows.{Becomes}
use Rattle.flow_live.proofs.Cells.{full}
use Rattle.flow_live.proofs.rows.Row.full.Goals as goal

pub returns-clause-cells : goal.returns-clause-cells
returns-clause-cells c =
    subst (λ (xs : List ℕ). Becomes (λ x. true) (all xs) (all xs)) (sym (c.in_ok-vec.ensures.items_if_clones_equal (λ y e. e)))
    (full (all (replicate c.args.words 18446744073709551615)) c.args.words (sym (length-replicate c.args.words 18446744073709551615)))
  where
    all : List ℕ → CellBits
    all xs = record { hard = 18446744073709551615; flags = 255; temps = xs }
