use Rattle.naive_builder.proofs.Covering.{covered_by}
use Rattle.naive_builder.proofs.instructions.always_covered.Goals as goal

pub covered-requires-clause-covered : goal.covered-requires-clause-covered
covered-requires-clause-covered g c =
    (covered_by g.W.Word.BITS c.args.m.now c.raw-description.result.now c.args.rows.now c.required_covered.ensures c.raw-description.ensures.description
    c.raw-description.ensures.checked c.requires.rows).always c.args.pattern c.requires.always
