use Rattle.std.proofs.Common.{ap, length, subst, sym, ◌∙◌}
use Rattle.std.specs.Prelude.{ℕ, ◌+◌, ◌/◌}
use Rattle.std.proofs.lemmas.List.{length-map}
use Rattle.temp_code.specs.Routines.{block_of, routine_of}
use Rattle.flow_live.specs.Settled.{AreBegins}
use Rattle.flow_live.specs.Tables.{AreTables}
use Rattle.flow_live.proofs.Filling.{table_tells}
use Rattle.flow_live.proofs.making.table.Goals as goal

pub returns : goal.returns
returns c = λ t stands low flow.
    table_tells t (routine_of c.args.code.now) (c.len.result / 64 + 1) (record { blocks = c.in_ok-blocks.blocks }) (ap (λ (n : ℕ). n / 64 + 1) c.len.ensures)
    (subst (λ (n : ℕ). AreTables n t (routine_of c.args.code.now) (c.len.result / 64 + 1) c.in_ok-blocks.blocks.items) (sym (length-map c.args.code.now.blocks block_of))
    (c.in_ok-blocks.ensures t stands low flow (ap length c.as_slice.ensures.value ∙ c.in_ok-state.ensures.fits.begins)
    (subst (AreBegins t (routine_of c.args.code.now) (c.len.result / 64 + 1)) (sym c.as_slice.ensures.value) (c.in_ok-state.ensures.begins t stands low flow))))
