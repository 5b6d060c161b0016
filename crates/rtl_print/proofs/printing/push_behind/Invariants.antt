use Rattle.std.proofs.Common.{◌≡◌, ◌++◌, drop}
use Rattle.rtl_spelling.specs.Tokens.{spelled}
use Rattle.rtl_spelling.specs.Printing.{tokens_behind}
use Rattle.rtl_print.specs.Seen.{context_of}
use Rattle.rtl_print.proofs.printing.push_behind.Given as goal

-- what was appended and what is left are the whole
abbrev pub invariant-loop-m : goal.invariant-loop-m
invariant-loop-m l =
    l.out.items ++ spelled (tokens_behind (context_of l.c) (drop l.m-index l.list)) ≡ l.fn.out.items ++ spelled (tokens_behind (context_of l.c) l.list)
