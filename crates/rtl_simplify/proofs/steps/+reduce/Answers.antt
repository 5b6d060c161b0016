use Rattle.std.proofs.Common.{rules}
use Rattle.rtl_norm.proofs.Finish.{norm_fits}
use Rattle.rtl_simplify.proofs.steps.+reduce.Goals as goal

pub settle-requires : goal.settle-requires
settle-requires g t c = search (rules, norm_fits, g.met.W.Word.sizes)

pub settle-requires-in-Un : goal.settle-requires-in-Un
settle-requires-in-Un g t c = search (rules, norm_fits, g.met.W.Word.sizes)

pub settle-requires-in-Bin : goal.settle-requires-in-Bin
settle-requires-in-Bin g t c = search (rules, norm_fits, g.met.W.Word.sizes)
