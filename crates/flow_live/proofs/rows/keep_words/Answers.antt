use Rattle.std.proofs.Common.{arith, subst, sym}
use Rattle.std.specs.Prelude.{ℕ, ◌+◌, bit_and, slice_index, slice_set, ◌||◌, ◌==◌, not}
use Rattle.flow_live.proofs.Keeping.{KeepsTo, keeps_next, kept_temporaries}
use Rattle.flow_live.proofs.rows.keep_words.Goals as goal

pub loop-i-preserved : goal.loop-i-preserved
loop-i-preserved c =
    subst (λ (x : ℕ). KeepsTo (c.loop-i.i + 1) c.args.words.now c.args.other.now
    (slice_set c.loop-i.words c.loop-i.i (bit_and (slice_index c.loop-i.words c.loop-i.i) x)) (c.loop-i.fell || not (bit_and (slice_index c.loop-i.words c.loop-i.i) x == slice_index c.loop-i.words c.loop-i.i)))
    (sym c.word_at.ensures)
    (keeps_next c.args.words.now c.args.other.now c.loop-i.words c.loop-i.i c.loop-i.fell (let l = c.loop-i-test.true in let same = c.loop-i.auto.words in omega (arith, l, same)) c.loop-i.invariant)

pub returns-clause-cells : goal.returns-clause-cells
returns-clause-cells c =
    kept_temporaries c.args.words.now c.args.other.now c.loop-i.words c.loop-i.i c.loop-i.fell (let l = c.loop-i-test.false in let m = c.loop-i.auto.i-end in omega (arith, l, m)) c.loop-i.invariant
