use Rattle.std.proofs.Common.{◌≡◌, ◌-◌, length, []}
use Rattle.rtl_spelling.specs.Reading.{moves, transfer}
use Rattle.rtl_text.specs.Seen.{context_of, tokens_of}
use Rattle.md_open.specs.Said.{adds}
use Rattle.md_open.proofs.transfers.read_moves.Given as goal

-- what was read and what is left to read are the whole
abbrev pub invariant-loop : goal.invariant-loop
invariant-loop l =
    adds l.moves (moves (context_of l.c) 31 (length l.fn.tokens - l.counter) (tokens_of l.rest)) ≡ adds [] (transfer (context_of l.c) 31 (tokens_of l.fn.tokens))
