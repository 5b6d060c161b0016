use Rattle.std.proofs.Common.{◌≡◌, drop, map}
use Rattle.rtl_spelling.specs.Senses.{sense_among}
use Rattle.rtl_token.proofs.words.sense_in.Given as goal

-- what is left of the table says the same as the whole
abbrev pub invariant-loop-entry : goal.invariant-loop-entry
invariant-loop-entry l =
    sense_among (map (λ e. (e.0.now, e.1)) (drop l.entry-index l.table)) l.word ≡ sense_among (map (λ e. (e.0.now, e.1)) l.table) l.word
