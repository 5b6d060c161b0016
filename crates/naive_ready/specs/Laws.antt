-- Typed trees may be expanded.
use Rattle.std.specs.Prelude.{◌≡◌, ◌-◌, Bool, true, List, []}
use Rattle.rtl_word.specs.Words.{IsWordSize}
use Rattle.rtl_tree.specs.declared.expressions.BinOp.{BinOp}
use Rattle.md_rows.specs.declared.description.RawDescription.{RawDescription}
use Rattle.c_tree.specs.declared.syntax.Syntax.{Syntax}
use Rattle.c_tree.specs.declared.typed.Typed.{Typed}
use Rattle.c_grammar.specs.Words.{Lexeme}
use Rattle.c_grammar.specs.Spelling.{Spelled}
use Rattle.c_typing.specs.Program.{IsTyped}
use Rattle.c_limits.specs.Limits.{limit_faults}
use Rattle.naive_fits.specs.Expandable.{AreThere}
use Rattle.naive_regular.specs.Operators.{operators_there}
use Rattle.naive_expand.specs.Units.{MayBeExpanded}

-- those of texts within the limits, where the description has their operators
abbrev pub TypedMayBeExpanded : Type 0
TypedMayBeExpanded =
    (d : RawDescription) (has : BinOp → Bool) (ts : List Lexeme) (s : Syntax) (t : Typed) → IsWordSize d.word → Spelled ts s → IsTyped d.word s t
    → limit_faults [] d.word (d.memory - d.stack - d.base) t ≡ [] → AreThere d has → operators_there has t ≡ true → MayBeExpanded d t
