use Rattle.asm_data.proofs.numbers.+with_low.Given as goal

abbrev pub decreases-with_low : goal.decreases-with_low
decreases-with_low l = l.count
