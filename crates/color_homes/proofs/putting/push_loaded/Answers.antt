use Rattle.std.proofs.Common.{ℕ, List, All, sym, subst, ◌∙◌}
use Rattle.std.specs.Prelude.{filter}
use Rattle.rtl_tree.specs.declared.cells.Cell.TheVariants.{Temp}
use Rattle.temp_machine.specs.Cells.{reads}
use Rattle.temp_code.specs.Routines.{routine_of}
use Rattle.color_homes.specs.Spilled.{register_in}
use Rattle.color_homes.specs.Putting.{target_in}
use Rattle.color_homes.specs.Loading.{Adds, CanSpill, IsLoad}
use Rattle.color_homes.proofs.Facts.{on_any}
use Rattle.color_homes.proofs.putting.push_loaded.Goals as goal

pub push_loads-requires-clause-can : goal.push_loads-requires-clause-can
push_loads-requires-clause-can g c =
    subst (All (CanSpill c.args.m.now (routine_of c.args.places.now.code.now) (register_in c.args.places.now c.args.spilled.now))) (sym (c.as_slice.ensures ∙ c.in_ok-operands.ensures))
    c.requires.can

pub returns-clause-loads : goal.returns-clause-loads
returns-clause-loads g c =
    on_any
    (Adds (λ k. IsLoad c.args.m.now (target_in c.args.m.now c.args.places.now) (routine_of c.args.places.now.code.now) (register_in c.args.places.now c.args.spilled.now k) k)
    (filter (λ k. reads (Temp k) c.args.transfer.now.what) c.args.spilled.now) c.args.body.now c.push_loads.new.body) c.middle.result
    (subst (λ (ks : List ℕ). Adds (λ k. IsLoad c.args.m.now (target_in c.args.m.now c.args.places.now) (routine_of c.args.places.now.code.now)
    (register_in c.args.places.now c.args.spilled.now k) k) ks c.args.body.now c.push_loads.new.body) (c.as_slice.ensures ∙ c.in_ok-operands.ensures) c.in_ok-push_loads.ensures)
