use Rattle.naive_data.proofs.Placing.{placed_by}
use Rattle.naive_data.proofs.objects.place_statics.Goals as goal

pub returns-clause-placed : goal.returns-clause-placed
returns-clause-placed g c =
    placed_by g.W.Word.BITS c.args.base c.args.statics.now c.in_ok-symbols.symbols c.in_ok-bytes.bytes g.met.W.Word.sizes c.requires.aligned c.requires.room
    c.in_ok-symbols.ensures c.in_ok-bytes.ensures
