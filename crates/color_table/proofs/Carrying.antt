-- From block to block.
use Rattle.std.proofs.Common.{◌≡◌, ℕ, suc, ◌||◌, Bool, true, false, List, [], ◌∷◌, length, slice_get, Some, Contains, refl, sym, ap, ◌∙◌, subst, arith}
use Rattle.rtl_tree.specs.declared.cells.Cell.{Cell}
use Rattle.rtl_tree.specs.declared.cells.Cell.TheVariants.{Temp}
use Rattle.rtl_tree.specs.Same.{same_cell}
use Rattle.rtl_tree.specs.Moves.{Move}
use Rattle.temp_machine.specs.Routines.{Exit, Falls, Calls, BasicBlock, Routine, Target}
use Rattle.temp_machine.specs.Cells.{is_temporary, some_set}
use Rattle.temp_machine.specs.Live.{Place, End, item_of, item_at, exit_sets, across, later as read_later, IsLive, always as always_live, read as read_live}
use Rattle.temp_machine.specs.Flow.{successors, successors_by, successors_at}
use Rattle.color_holding.proofs.Members.{true_false}
use Rattle.color_table.specs.Laws.{ExactIsCarried}
use Rattle.color_table.proofs.Standing.{some_set_more, is_any}
use Rattle.color_table.proofs.Tables.{temp_is, of_live}
use Rattle.color_table.proofs.Blocks.{end_of}

module _ (t : Target) (r : Routine) (k : ℕ) (b : BasicBlock) (has : slice_get r.blocks k ≡ Some b) (e : Exit) (is : b.exit ≡ e) where
  abbrev here : Place
  here = record { block = k; at = length b.body }

  abbrev there : Place
  there = record { block = suc k; at = 0 }

  at_end : item_at r here ≡ Some (End e)
  at_end = ap (λ o. item_of o (length b.body)) has ∙ end_of b.body b.exit ∙ ap (λ x. Some (End x)) is

  next_is : successors t.word r k ≡ successors_by t.word r.blocks k e
  next_is = ap (successors_at t.word r.blocks k) has ∙ ap (successors_by t.word r.blocks k) is

  -- what an end doesn't set is live there where it is live behind it
  carried : successors_by t.word r.blocks k e ≡ suc k ∷ [] → (c : Cell) → exit_sets t e c ≡ false → IsLive t r c there → IsLive t r c here
  carried only c unset (always_live f) = always_live f
  carried only c unset (read_live h) = read_live (read_later c here there (End e) at_end unset (across k (length b.body) (suc k) e at_end (subst (λ xs. Contains xs (suc k)) (sym (next_is ∙ only)) (0, omega arith, refl))) h)

no_temp_set : (j : ℕ) (ms : List Move) → some_set is_temporary ms ≡ false → (some_set (same_cell (Temp j)) ms || false) ≡ false
no_temp_set j ms e = by (some_set (same_cell (Temp j)) ms) (some_set_more (same_cell (Temp j)) is_temporary (temp_is j) ms)
  where
    by : (b : Bool) → (b ≡ true → some_set is_temporary ms ≡ true) → (b || false) ≡ false
    by true f = true_false (sym (f refl) ∙ e)
    by false f = refl

pub exact_is_carried : ExactIsCarried
exact_is_carried t r colors seats live owes exact = record {
  falls = λ k b has is c on. (exact (record { block = k; at = length b.body }) c).1 (carried t r k b has Falls is refl c refl ((exact (record { block = suc k; at = 0 }) c).0 on));
  calls = λ k b ms has is j on.
      let over = (exact (record { block = suc k; at = 0 }) (Temp j)).0 on in (
        (exact (record { block = k; at = length b.body }) (Temp j)).1
            (carried t r k b has (Calls ms) is refl (Temp j) (no_temp_set j ms (owes.calls (record { block = k; at = length b.body }) ms (at_end t r k b has (Calls ms) is))) over),
        owes.coloring.over_call j (record { block = k; basic_block = b; has = has; transfer = ms; calls = is; live = over }),
      );
  onward = λ k next c inside on. is_any (λ n. live (record { block = n; at = 0 }) c) (successors t.word r k) next inside on;
  living = λ p j on. of_live t r colors seats owes j p ((exact p (Temp j)).0 on);
}
