use Rattle.std.proofs.Common.{sym, subst}
use Rattle.rtl_text.specs.Seen.{reading_context}
use Rattle.rtl_examples.proofs.Fitting.{AreFitting, spelled_fits}
use Rattle.rtl_examples.proofs.tests.rows.row.Goals as goal

pub normalise_effects-requires : goal.normalise_effects-requires
normalise_effects-requires c =
    let holes = c.in_ok-holes.holes.items in
    let spelled = c.in_ok-normal.ensures.found.spells.spelled_by in
    let opened : AreFitting 16 holes = subst (AreFitting 16) (sym c.in_ok-holes.ensures) (tt, tt) in
    spelled_fits (reading_context 16 c.no_names-names.result holes) c.in_ok-normal.normal spelled.placed opened spelled.spells
