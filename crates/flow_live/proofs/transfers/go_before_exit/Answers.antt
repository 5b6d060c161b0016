use Rattle.std.proofs.Common.{◌≡◌, ◌⊎◌, inl, inr, subst, sym}
use Rattle.std.specs.Prelude.{◌&&◌, ◌||◌, not}
use Rattle.rtl_tree.specs.Sets.{has_cell}
use Rattle.temp_machine.specs.Routines.{Target}
use Rattle.temp_code.specs.declared.code.End.{End}
use Rattle.temp_code.specs.declared.code.End.TheVariants.{Jump, Branch}
use Rattle.temp_code.specs.Routines.{exit_of}
use Rattle.flow_live.specs.Rows.{Becomes, bits_in, has_bit}
use Rattle.flow_live.specs.Walks.{exit_puts, exit_takes}
use Rattle.flow_live.proofs.Becoming.{call_done}
use Rattle.flow_live.proofs.transfers.go_before_exit.Goals as goal

pub returns-in-Call-clause-before : goal.returns-in-Call-clause-before
returns-in-Call-clause-before c = λ t r stands.
    subst (λ (e : End). Becomes (λ y. (has_cell (bits_in c.args.row.now) y || exit_puts t (exit_of e) y) && not (exit_takes t (λ n. has_bit c.args.row.now.flags n) (exit_of e) y))
    (bits_in c.args.row.now) (bits_in c.go_before_moves.new.row))
    (sym c.in-Call.is) (call_done t r c.args.standing.now stands c.in-Call.transfer.what _ _ _ c.lose.ensures c.go_before_moves.ensures)

pub returns-in-Jump-clause-before : goal.returns-in-Jump-clause-before
returns-in-Jump-clause-before c = λ t r stands. by t c.in-Jump.is
  where
    Done : Target → End → Type 0
    Done t e = Becomes (λ y. (has_cell (bits_in c.args.row.now) y || exit_puts t (exit_of e) y) && not (exit_takes t (λ n. has_bit c.args.row.now.flags n) (exit_of e) y))
        (bits_in c.args.row.now) (bits_in c.go_before_moves-in-Jump.new.row)

    by : (t : Target) → (c.args.end.now ≡ Jump c.in-Jump.transfer) ⊎ (c.args.end.now ≡ Branch c.in-Jump.transfer) → Done t c.args.end.now
    by t (inl is) = subst (Done t) (sym is) c.go_before_moves-in-Jump.ensures
    by t (inr is) = subst (Done t) (sym is) c.go_before_moves-in-Jump.ensures
