-- Where a byte stands in a text.
use Rattle.std.specs.Prelude.{ℕ, ◌+◌, List, [], ◌∷◌, ◌==◌, Bool, not, reverse, count_by, fold, if◌then◌else◌}
use Rattle.std.specs.List.{prefix_len}
use Rattle.c_tree.specs.declared.token.At.{At}
use Rattle.c_lexer.specs.Pieces.{is_line_feed}

-- the place behind these bytes: a line more for each line feed, a column more for each byte since the last one
abbrev pub place_of : List ℕ → At
place_of before = record {
  line = 1 + count_by is_line_feed before;
  column = 1 + prefix_len (λ b. not (is_line_feed b)) (reverse before);
}

-- the place behind one byte more
abbrev pub place_behind : At → ℕ → At
place_behind at b = if b == 10 then record { line = at.line + 1; column = 1 } else record { line = at.line; column = at.column + 1 }
