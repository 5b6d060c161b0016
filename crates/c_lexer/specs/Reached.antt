-- How far the reading of a text has come.
use Rattle.std.specs.Prelude.{ℕ, ◌≡◌, ◌+◌, ◌≤◌, List, ◌++◌, length}
use Rattle.c_tree.specs.declared.token.At.{At}
use Rattle.c_tree.specs.declared.token.Token.{Token}
use Rattle.c_lexer.specs.declared.line.Line.{Line}
use Rattle.c_lexer.specs.Places.{place_of}
use Rattle.c_lexer.specs.Lexing.{Piece, start, text_of, ArePieces, cursor_behind, tokens_of}

-- Pieces lead up to the rest, and their tokens, the place and the line behind them are these.
pub record Reached (text rest : List ℕ) (line : Line) (at : At) (tokens : List Token) : Type 0 where
  pub pieces : List Piece
  pub spelled : text ≡ text_of pieces ++ rest
  pub each : ArePieces start pieces rest
  pub line_is : line ≡ (cursor_behind start pieces).line
  pub at_is : at ≡ place_of (text_of pieces)
  pub tokens_are : tokens ≡ tokens_of start pieces
