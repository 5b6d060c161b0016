-- Tests of the holes of a text.
use Rattle.std.specs.Prelude.{Bool, false}
use Rattle.md_text.specs.Pieces.{Piece, Literal, Hole, Slot}

abbrev pub is_slot_with : (Slot → Bool) → Piece → Bool
is_slot_with test (Literal t) = false
is_slot_with test (Hole h) = test h
