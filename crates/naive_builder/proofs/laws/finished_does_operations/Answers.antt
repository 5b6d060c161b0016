use Rattle.naive_builder.proofs.Operations.{built_does_operations}
use Rattle.naive_builder.proofs.laws.finished_does_operations.Goals as goal

pub returns : goal.returns
returns c = built_does_operations (record {
  transfers = c.transfers_do_shapes.ensures;
  bodies = c.bodies_do_shapes.ensures;
  flags = c.flag_branches_do_branches.ensures;
  calls = c.calls_go.ensures;
})
