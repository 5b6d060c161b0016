-- The place behind the bytes so far. It moves a line or a column for each at most.
use Rattle.std.proofs.Common.{◌≡◌, ◌+◌, ◌<◌, ◌≤◌, take}
use Rattle.std.specs.Prelude.{fold}
use Rattle.c_lexer.specs.Places.{place_behind}
use Rattle.c_lexer.proofs.place.behind.Given as goal

abbrev pub invariant-loop-byte : goal.invariant-loop-byte
invariant-loop-byte l = record {
  so_far : l.place ≡ fold place_behind l.fn.at (take l.byte-index l.bytes);
  line : l.place.line ≤ l.fn.at.line + l.byte-index;
  column : l.place.column ≤ l.fn.at.column + l.byte-index;
  some : 0 < l.place.column;
}
