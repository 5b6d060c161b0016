use Rattle.std.proofs.Common.{sym}
use Rattle.asm_token.specs.Seen.{token_of}
use Rattle.md_lines.proofs.PiecesRead.{no_token_there, colon_there}
use Rattle.md_lines.proofs.pieces.literal_at.Goals as goal

pub returns-in_err-token-clause-none : goal.returns-in_err-token-clause-none
returns-in_err-token-clause-none c = rw c.from_residual.ensures (no_token_there c.args.text.now c.in_err-token.ensures.none)

pub returns-then-is_colon-clause-none : goal.returns-then-is_colon-clause-none
returns-then-is_colon-clause-none c =
    colon_there c.args.text.now (token_of c.in_ok-token.token) c.in_ok-token.length c.in_ok-token.ensures.found (sym c.if-is_colon.ensures)
