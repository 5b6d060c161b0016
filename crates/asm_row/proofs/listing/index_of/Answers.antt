use Rattle.std.proofs.Common.{ℕ, List, subst, arith}
use Rattle.std.proofs.lemmas.Grind.{common_steps}
use Rattle.std.specs.Prelude.{Option}
use Rattle.asm_row.specs.Index.{IsAdded}
use Rattle.asm_row.proofs.Indexed.{listed_more}
use Rattle.asm_row.proofs.listing.index_of.Goals as goal

pub loop-place-preserved : goal.loop-place-preserved
loop-place-preserved c =
    listed_more c.args.d.now c.loop-place.index c.in_ok-index.index c.loop-place.place c.row_at.result.now c.loop-place.invariant c.row_at.ensures
    (subst (λ (k : Option (List ℕ)). IsAdded c.loop-place.index c.in_ok-index.index k c.loop-place.place) c.first_name.ensures c.in_ok-index.ensures)

pub returns : goal.returns
returns c = λ i row lt e.
    c.loop-place.invariant i row
    (first_of (omega (arith, lt, c.loop-place-test.false, c.len-count.ensures, c.requires.few), grind (arith, common_steps, lt, c.loop-place-test.false, c.len-count.ensures, c.requires.few))) e
