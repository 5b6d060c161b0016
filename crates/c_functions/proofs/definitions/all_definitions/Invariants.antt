use Rattle.std.proofs.Common.{◌≡◌, ℕ, List, drop}
use Rattle.c_typing.specs.Functions.{headings, definition_from, definition_of}
use Rattle.c_functions.specs.Tables.{number_at, first_of}
use Rattle.c_functions.proofs.definitions.all_definitions.Given as goal

-- the first definitions so far, and else those of the rest
abbrev pub invariant-loop-part : goal.invariant-loop-part
invariant-loop-part l = (name : List ℕ) → first_of (number_at l.known.table name) (definition_from l.known.count (headings (drop l.part-index l.parts)) name) ≡ definition_of (headings l.parts) name
