-- What the program's types stand for.
use Rattle.std.specs.Prelude.{List, map}
use Rattle.asm_token.specs.Tokens.{Name as NameToken, Number as NumberToken, Mark as MarkToken}
use Rattle.rtl_tree.specs.Trees.{Tree, tree_of}
use Rattle.md_text.specs.Expansion as text
use Rattle.md_expand.specs.declared.shown.Shown.{Shown}
use Rattle.md_expand.specs.declared.shown.Shown.TheVariants.{Name, Number, Mark, Vacant}
use Rattle.md_expand.specs.declared.leaves.Meaning.{Meaning}

abbrev pub shown_of : Shown → text.Shown
shown_of (Name bytes) = text.Fixed (NameToken bytes)
shown_of (Number z) = text.Fixed (NumberToken z)
shown_of (Mark b) = text.Fixed (MarkToken b)
shown_of (Vacant h) = text.Vacant h

abbrev pub all_shown : List Shown → List text.Shown
all_shown text = map shown_of text

abbrev pub trees_of : List Meaning → List Tree
trees_of leaves = map (λ m. tree_of m.tree) leaves
