use Rattle.std.proofs.Common.{◌≡◌, ◌-◌, length, Some, []}
use Rattle.std.specs.Option.{option_map}
use Rattle.rtl_spelling.specs.Reading.{moves, transfer}
use Rattle.rtl_text.specs.Collected.{collects}
use Rattle.rtl_text.specs.Seen.{context_of, tokens_of}
use Rattle.rtl_text.proofs.gathering.transfer.Given as goal

-- what was made and what is left to read are the whole
abbrev pub invariant-loop : goal.invariant-loop
invariant-loop l =
    collects (option_map (λ m. m.items) l.made) (moves (context_of l.c) 31 (length l.fn.tokens - l.counter) (tokens_of l.rest))
    ≡ collects (Some []) (transfer (context_of l.c) 31 (tokens_of l.fn.tokens))
