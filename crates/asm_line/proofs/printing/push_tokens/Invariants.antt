use Rattle.std.proofs.Common.{◌≡◌, ◌+◌, ◌≤◌, ◌++◌, drop, length}
use Rattle.asm_line.specs.declared.writing.Before.TheVariants.{Start}
use Rattle.asm_line.specs.Shown.{tokens_in, bytes_left}
use Rattle.asm_line.specs.Spacing.{line_from}
use Rattle.asm_line.proofs.printing.push_tokens.Given as goal

abbrev pub invariant-loop-piece : goal.invariant-loop-piece
invariant-loop-piece l =
    (l.out ++ line_from l.before (tokens_in l.d l.names l.row l.binding (drop l.piece-index l.row.text))
    ≡ line_from Start (tokens_in l.d l.names l.row l.binding l.row.text))
    × (length l.out + bytes_left l.d.registers l.row.holes l.before (drop l.piece-index l.row.text) ≤ 639)
