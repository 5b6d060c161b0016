use Rattle.std.proofs.Common.{◌<◌, length, arith}
use Rattle.std.proofs.lemmas.Grind.{common_steps}
use Rattle.std.proofs.lemmas.Option.{slice_get_within}
use Rattle.asm_row.proofs.reading.find_row.Goals as goal

pub read_row-requires-clause-few : goal.read_row-requires-clause-few
read_row-requires-clause-few c = (c.requires.readable.rows _ c.row_at.result.now c.row_at.ensures).few

pub returns : goal.returns
returns c = λ ts h i row vs e r.
    let within : i < length c.args.d.now.rows = slice_get_within c.args.d.now.rows i row e in
    let most = c.requires.readable.few in
    c.loop-place.invariant ts h i row vs
    (first_of (omega (arith, within, c.loop-place-test.false, c.len-count.ensures, most), grind (arith, common_steps, within, c.loop-place-test.false, c.len-count.ensures, most)))
    e r
