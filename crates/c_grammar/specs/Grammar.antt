-- THE GRAMMAR of C: for each node of a tree its level, and its parts in order (C11 6.5 to 6.9).
use Rattle.std.specs.Prelude.{ℕ, suc, List, [], ◌∷◌, ◌++◌, Bool, true, false, nat_le, Option, Some, None, map, if◌then◌else◌}
use Rattle.c_tree.specs.declared.token.At.{At}
use Rattle.c_tree.specs.declared.syntax.TypeWords.{TypeWords}
use Rattle.c_tree.specs.declared.syntax.Expr.{Expr}
use Rattle.c_tree.specs.declared.syntax.Expr.TheOpen.{Expr-F, Comma, Assign, Conditional, Binary, Cast, Unary, Before, After, Name, Element, Call, Number, Character, Paren}
use Rattle.c_tree.specs.declared.syntax.Expr.TheFolds.{fold-Expr}
use Rattle.c_tree.specs.declared.syntax.Size.{Size}
use Rattle.c_tree.specs.declared.syntax.Size.TheVariants as size
use Rattle.c_tree.specs.declared.syntax.Initialiser.{Initialiser}
use Rattle.c_tree.specs.declared.syntax.Initialiser.TheVariants as initialiser
use Rattle.c_tree.specs.declared.syntax.Identifier.{Identifier}
use Rattle.c_tree.specs.declared.syntax.Item.{Item}
use Rattle.c_tree.specs.declared.syntax.Return.{Return}
use Rattle.c_tree.specs.declared.syntax.Return.TheVariants as gives
use Rattle.c_tree.specs.declared.syntax.Parameter.{Parameter}
use Rattle.c_tree.specs.declared.syntax.Parameters.{Parameters}
use Rattle.c_tree.specs.declared.syntax.Parameters.TheVariants as parameters
use Rattle.c_tree.specs.declared.syntax.Declaration.{Declaration}
use Rattle.c_tree.specs.declared.syntax.Declaration.TheVariants as declaration
use Rattle.c_tree.specs.declared.syntax.Start.{Start}
use Rattle.c_tree.specs.declared.syntax.Start.TheVariants as start
use Rattle.c_tree.specs.declared.syntax.Statement.{Statement}
use Rattle.c_tree.specs.declared.syntax.Statement.TheOpen as s
use Rattle.c_tree.specs.declared.syntax.Statement.TheFolds.{fold-Statement}
use Rattle.c_tree.specs.declared.syntax.External.{External}
use Rattle.c_tree.specs.declared.syntax.External.TheVariants as external
use Rattle.c_tree.specs.declared.syntax.Syntax.{Syntax}
use Rattle.c_grammar.specs.declared.sign.Sign.{Sign}
use Rattle.c_grammar.specs.declared.sign.Sign.TheVariants as sign
use Rattle.c_grammar.specs.Words.{Word, a_name, a_number, a_character, a_sign}
use Rattle.c_grammar.specs.Operators.{precedence, binary_sign, assign_sign, unary_sign, step_sign, type_signs}
use Rattle.c_grammar.specs.Phrases.{Part, the, mark, sub, open_, expr, item, piece, only, Said, node, phrase, the_sign, operator, name, placed, each, commas, some}

-- words of a type in their order
abbrev pub signs : List Sign → List Part
signs [] = []
signs (s ∷ ss) = the_sign s ∷ signs ss

abbrev pub type : TypeWords → List Part
type t = signs (type_signs t)

-- an assignment expression is an open phrase
abbrev pub assign : Said → Part
assign a = open_ 1 a

-- Levels of expressions: 0 expr, 1 assign, 2 conditional, 3 to 12 the binary operators, 13 cast, 14 unary, 15 postfix, 16 primary
abbrev pub expression : Expr-F Said → Said
expression (Comma at a b) = node at 0 (expr a ∷ operator sign.Comma ∷ assign b ∷ [])
expression (Assign at a o b) = node at 1 (sub 14 a ∷ operator (assign_sign o) ∷ assign b ∷ [])
expression (Conditional at a b c) = node at 2 (sub 3 a ∷ operator sign.Question ∷ expr b ∷ the_sign sign.Colon ∷ sub 2 c ∷ [])
expression (Binary at a o b) = node at (precedence o) (sub (precedence o) a ∷ operator (binary_sign o) ∷ sub (suc (precedence o)) b ∷ [])
expression (Cast at t a) = node at 13 (the_sign sign.LeftParen ∷ (type t ++ operator sign.RightParen ∷ sub 13 a ∷ []))
expression (Unary at o a) = node at 14 (operator (unary_sign o) ∷ sub 13 a ∷ [])
expression (Before at o a) = node at 14 (operator (step_sign o) ∷ sub 14 a ∷ [])
expression (After at a o) = node at 15 (sub 15 a ∷ operator (step_sign o) ∷ [])
expression (Name at n) = node at 16 (name n ∷ [])
expression (Element at n a) = node at 16 (name n ∷ the_sign sign.LeftBracket ∷ expr a ∷ the_sign sign.RightBracket ∷ [])
expression (Call at n xs) = node at 16 (name n ∷ the_sign sign.LeftParen ∷ (commas assign xs ++ the_sign sign.RightParen ∷ []))
expression (Number at v d u) = node at 16 (the (a_number v d u) ∷ [])
expression (Character at v) = node at 16 (the (a_character v) ∷ [])
expression (Paren at a) = node at 16 (the_sign sign.LeftParen ∷ expr a ∷ the_sign sign.RightParen ∷ [])

abbrev pub about : Expr → Said
about = fold-Expr Said expression

-- the conditional expression of a size or a case is an open phrase
abbrev pub constant : Expr → Part
constant e = open_ 2 (about e)

abbrev pub value : Expr → Part
value e = expr (about e)

abbrev pub maybe : Option Expr → List Part
maybe None = []
maybe (Some e) = value e ∷ []

-- ---- declarations (C11 6.7)

abbrev pub sized : Size → List Part
sized size.Scalar = []
sized size.Absent = the_sign sign.LeftBracket ∷ the_sign sign.RightBracket ∷ []
sized (size.Given e) = the_sign sign.LeftBracket ∷ constant e ∷ the_sign sign.RightBracket ∷ []

abbrev pub last_comma : Bool → List Part
last_comma true = the_sign sign.Comma ∷ []
last_comma false = []

abbrev pub initialised : Initialiser → List Part
initialised initialiser.Absent = []
initialised (initialiser.Value e) = the_sign sign.Assign ∷ assign (about e) ∷ []
initialised (initialiser.List at es last) = some es ∷ the_sign sign.Assign ∷ placed at (a_sign sign.LeftBrace) ∷ (commas assign (map about es) ++ (last_comma last ++ the_sign sign.RightBrace ∷ []))

abbrev pub declarator : Item → Said
declarator i = node i.name.at 0 (name i.name.bytes ∷ (sized i.size ++ initialised i.initialiser))

abbrev pub returned : Return → List Part
returned gives.Void = the_sign sign.Void ∷ []
returned (gives.Value t) = type t

abbrev pub identifier : Identifier → Part
identifier i = placed i.at (a_name i.bytes)

abbrev pub maybe_name : Option Identifier → List Part
maybe_name None = []
maybe_name (Some n) = identifier n ∷ []

abbrev pub parameter : Parameter → Said
parameter p = node p.at 0 (type p.words ++ maybe_name p.name)

abbrev pub listed : Parameters → List Part
listed parameters.Empty = []
listed parameters.Void = the_sign sign.Void ∷ []
listed (parameters.List ps) = some ps ∷ commas piece (map parameter ps)

-- name "(" parameters ")"
abbrev pub called : Identifier → Parameters → List Part → List Part
called n ps more = identifier n ∷ the_sign sign.LeftParen ∷ (listed ps ++ the_sign sign.RightParen ∷ more)

abbrev pub declared : Declaration → Said
declared (declaration.Objects at t items) = node at 0 (type t ++ (some items ∷ commas piece (map declarator items) ++ the_sign sign.Semicolon ∷ []))
declared (declaration.Function at r n ps) = node at 0 (returned r ++ called n ps (the_sign sign.Semicolon ∷ []))

-- ---- statements (C11 6.8)

-- Levels: 0 a declaration, 1 a statement that an `else` behind it could join, 2 one that none could
abbrev pub statement_part : Said → Part
statement_part a = open_ 1 a

abbrev pub braces : List Said → List Part
braces xs = the_sign sign.LeftBrace ∷ (each item xs ++ the_sign sign.RightBrace ∷ [])

-- a block, whose brace stands there, is an open phrase
abbrev pub block : At → List Said → Part
block at xs = open_ 0 (node at 0 (braces xs))

abbrev pub started : Start → List Part
started start.Absent = the_sign sign.Semicolon ∷ []
started (start.Value e) = value e ∷ the_sign sign.Semicolon ∷ []
started (start.Declared d) = piece (declared d) ∷ []

-- "(" expression ")"
abbrev pub condition : Expr → List Part → List Part
condition e more = the_sign sign.LeftParen ∷ value e ∷ the_sign sign.RightParen ∷ more

abbrev pub statement : s.Statement-F Said → Said
statement (s.Block at xs) = node at 2 (block at xs ∷ [])
statement (s.Declared d) = declared d
statement (s.Evaluate at e) = node at 2 (maybe e ++ the_sign sign.Semicolon ∷ [])
statement (s.If at e a None) = node at 1 (the_sign sign.If ∷ condition e (statement_part a ∷ []))
statement (s.If at e a (Some b)) = node at b.level (the_sign sign.If ∷ condition e (open_ 2 a ∷ the_sign sign.Else ∷ statement_part b ∷ []))
statement (s.While at e a) = node at a.level (the_sign sign.While ∷ condition e (statement_part a ∷ []))
statement (s.DoWhile at a e) = node at 2 (the_sign sign.Do ∷ statement_part a ∷ the_sign sign.While ∷ condition e (the_sign sign.Semicolon ∷ []))
statement (s.For at begin test next a) = node at a.level (the_sign sign.For ∷ the_sign sign.LeftParen ∷ (started begin ++ (maybe test ++ the_sign sign.Semicolon ∷ (maybe next ++ the_sign sign.RightParen ∷ statement_part a ∷ []))))
statement (s.Switch at e xs) = node at 2 (the_sign sign.Switch ∷ condition e (open_ 0 (phrase (braces xs)) ∷ []))
statement (s.Case at e a) = node at a.level (the_sign sign.Case ∷ constant e ∷ the_sign sign.Colon ∷ statement_part a ∷ [])
statement (s.Default at a) = node at a.level (the_sign sign.Default ∷ the_sign sign.Colon ∷ statement_part a ∷ [])
statement (s.Break at) = node at 2 (the_sign sign.Break ∷ the_sign sign.Semicolon ∷ [])
statement (s.Continue at) = node at 2 (the_sign sign.Continue ∷ the_sign sign.Semicolon ∷ [])
statement (s.Return at e) = node at 2 (the_sign sign.Return ∷ (maybe e ++ the_sign sign.Semicolon ∷ []))

abbrev pub about_statement : Statement → Said
about_statement = fold-Statement Said statement

-- ---- programs (C11 6.9)

abbrev pub part : External → Said
part (external.Include at) = node at 0 (the_sign sign.Include ∷ [])
part (external.Declared d) = declared d
part (external.Defined at r n ps brace body) = node at 0 (returned r ++ called n ps (block brace (map about_statement body) ∷ []))

abbrev pub program : Syntax → Said
program p = phrase (each piece (map part p.parts) ++ placed p.end (a_sign sign.End) ∷ [])
