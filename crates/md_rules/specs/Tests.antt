-- The rules that are tests of a declaration under those before it.
use Rattle.std.specs.Prelude.{ℕ, Bool, List}
use Rattle.md_text.specs.Forms.{Form}
use Rattle.md_text.specs.Declarations.{Declaration}
use Rattle.md_text.specs.Heading.{breaks_heading, is_out_of_range}
use Rattle.md_text.specs.Rules.{is_declared_twice, is_undeclared, has_reserved_name, has_misused_hole, has_mode_in_mode}
use Rattle.md_rules.specs.declared.lines.LineRule.{LineRule}
use Rattle.md_rules.specs.declared.lines.LineRule.TheVariants.{HeadingOrder, OutOfRange, DeclaredTwice, NotDeclared, ReservedName, MisusedHole, ModeInMode}

abbrev pub test_of : LineRule → ℕ → List Declaration → Form → Bool
test_of HeadingOrder w = breaks_heading
test_of OutOfRange w = is_out_of_range w
test_of DeclaredTwice w = is_declared_twice
test_of NotDeclared w = is_undeclared
test_of ReservedName w = has_reserved_name
test_of MisusedHole w = has_misused_hole
test_of ModeInMode w = has_mode_in_mode
