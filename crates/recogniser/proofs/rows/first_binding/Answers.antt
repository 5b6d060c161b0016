use Rattle.std.proofs.Common.{refl, sym, ◌∙◌}
use Rattle.md_rows.specs.Lines.{longest_line}
use Rattle.md_match.specs.Does.{IsRow}
use Rattle.recogniser.specs.Searching.{idle_of}
use Rattle.recogniser.proofs.FirstBinding.{row_first}
use Rattle.recogniser.proofs.SoundRows.{sound_row, short_by, found_by}
use Rattle.recogniser.proofs.rows.first_binding.Goals as goal

pub first_match-requires : goal.first_match-requires
first_match-requires c = record {
  size = c.requires.request.sound.size;
  row = sound_row c.args.q.now.description.now.word c.args.row.now c.holes_of-holes.result.now c.normal_of.result.now c.requires.row c.holes_of-holes.ensures
      c.normal_of.ensures.moves c.normal_of.ensures.few;
}

pub returns-in-Some : goal.returns-in-Some
returns-in-Some c =
    let d = c.args.q.now.description.now in
    let holes = c.holes_of-holes.result.now in
    let moves = c.normal_of.result.now in
    let row : IsRow holes moves = sound_row d.word c.args.row.now holes moves c.requires.row c.holes_of-holes.ensures c.normal_of.ensures.moves c.normal_of.ensures.few in
    found_by d c.args.q.now.general (idle_of c.args.q.now) c.args.row.now holes moves c.moves_of.result.now c.args.q.now.transfer.now _ c.binding_of.result
    c.requires.request.general c.holes_of-holes.ensures c.normal_of.ensures.moves c.moves_of.ensures.moves c.binding_of.ensures
    (short_by (longest_line d.registers c.args.row.now.holes c.args.row.now.text) (sym c.is_short.ensures ∙ c.if-not-is_short.false))
    (row_first d.word c.args.q.now.general holes _ c.moves_of.result.now c.in-Some.slots refl refl row (sym c.in-Some.ensures.value))
