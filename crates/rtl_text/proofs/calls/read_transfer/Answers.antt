use Rattle.rtl_text.proofs.Reprinted.{without_holes}
use Rattle.rtl_text.proofs.calls.read_transfer.Goals as goal

pub returns-clause-printable : goal.returns-clause-printable
returns-clause-printable g c =
    without_holes g.W.Word.BITS c.args.n.now c.new-holes.result.items c.args.text.now c.read_holed.result c.new-holes.ensures.items
    c.read_holed.ensures.found
