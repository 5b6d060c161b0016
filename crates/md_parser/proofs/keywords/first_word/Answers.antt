use Rattle.md_parser.proofs.Beginnings.{keywords, one_more}
use Rattle.md_parser.proofs.keywords.first_word.Goals as goal

pub loop-keyword-preserved : goal.loop-keyword-preserved
loop-keyword-preserved c = one_more c.args.line.now c.text_of.result.now keywords c.loop-keyword.keyword-index _ c.loop-keyword-test.true c.loop-keyword.invariant c.text_of.ensures c.in_default.ensures
