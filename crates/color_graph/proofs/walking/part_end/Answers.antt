use Rattle.std.proofs.Common.{◌≡◌, ◌⊎◌, inl, inr, ℕ, refl, sym, subst}
use Rattle.rtl_tree.specs.declared.cells.Cell.TheVariants.{Temp}
use Rattle.rtl_tree.specs.Same.{same_cell}
use Rattle.temp_machine.specs.Routines.{Target}
use Rattle.temp_machine.specs.Cells.{some_set, sets}
use Rattle.temp_machine.specs.Live.{End as EndItem, item_sets}
use Rattle.temp_code.specs.declared.code.End.{End}
use Rattle.temp_code.specs.declared.code.End.TheVariants.{Jump, Branch, Call}
use Rattle.temp_code.specs.Routines.{exit_of}
use Rattle.flow_live.proofs.Bits.{or_false}
use Rattle.color_graph.proofs.Falling.{end_parts}
use Rattle.color_graph.proofs.walking.part_end.Goals as goal

pub returns-in-Jump-clause-parts : goal.returns-in-Jump-clause-parts
returns-in-Jump-clause-parts c = λ t r live stands.
    end_parts c.args.block c.args.at c.args.end.now c.in-Jump.transfer c.args.live.now t r c.args.rows.now.items c.part_transfer.new.rows.items live stands
    (by t c.in-Jump.is) c.part_transfer.ensures.rows
  where
    Sets : Target → End → Type 0
    Sets t e = (n : ℕ) → item_sets t (Temp n) (EndItem (exit_of e)) ≡ some_set (same_cell (Temp n)) c.in-Jump.transfer.what

    by : (t : Target) → (c.args.end.now ≡ Jump c.in-Jump.transfer) ⊎ ((c.args.end.now ≡ Branch c.in-Jump.transfer) ⊎ (c.args.end.now ≡ Call c.in-Jump.transfer))
        → Sets t c.args.end.now
    by t (inl is) = subst (Sets t) (sym is) (λ n. refl)
    by t (inr (inl is)) = subst (Sets t) (sym is) (λ n. refl)
    by t (inr (inr is)) = subst (Sets t) (sym is) (λ n. or_false (sets (Temp n) c.in-Jump.transfer.what))
