-- What is promised of regular trees.
use Rattle.std.specs.Prelude.{◌≡◌, ℕ, Bool, true, List}
use Rattle.std.specs.List.{list_all}
use Rattle.rtl_word.specs.Words.{IsWordSize}
use Rattle.rtl_tree.specs.declared.expressions.BinOp.{BinOp}
use Rattle.c_tree.specs.declared.syntax.Syntax.{Syntax}
use Rattle.c_tree.specs.declared.typed.Typed.{Typed}
use Rattle.c_grammar.specs.Words.{Lexeme}
use Rattle.c_grammar.specs.Spelling.{Spelled}
use Rattle.c_typing.specs.Program.{IsTyped}
use Rattle.naive_counts.specs.Homes.{fills_lists}
use Rattle.naive_fits.specs.Expandable.{is_expandable}
use Rattle.naive_regular.specs.Regular.{is_regular}
use Rattle.naive_regular.specs.Operators.{operators_there}

-- an empty list of initialisers breaks no rule of typing, but no text spells one
abbrev pub TypedIsRegular : Type 0
TypedIsRegular = (w : ℕ) (ts : List Lexeme) (s : Syntax) (t : Typed) → IsWordSize w → Spelled ts s → IsTyped w s t → is_regular w t ≡ true

abbrev pub RegularIsExpandable : Type 0
RegularIsExpandable = (has : BinOp → Bool) (w : ℕ) (t : Typed) → is_regular w t ≡ true → operators_there has t ≡ true → is_expandable has w t ≡ true

abbrev pub RegularFillsLists : Type 0
RegularFillsLists = (w : ℕ) (t : Typed) → is_regular w t ≡ true → list_all (λ f. fills_lists f.body) t.functions ≡ true
