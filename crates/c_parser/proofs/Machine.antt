-- The reading as a machine: what stands open at each word, what it has read there, and what the next word makes of it.
use Rattle.std.specs.Prelude.{ℕ, suc, ◌+◌, List, [], ◌∷◌, ◌++◌, length, Bool, true, false, nat_le, ◌&&◌, Option, Some, None, Result, Ok, Err, if◌then◌else◌, cond}
use Rattle.c_tree.specs.declared.token.At.{At}
use Rattle.c_tree.specs.declared.syntax.Expr.{Expr}
use Rattle.c_tree.specs.declared.syntax.Expr.TheVariants as tree
use Rattle.c_tree.specs.declared.syntax.BinaryOperator.{BinaryOperator}
use Rattle.c_tree.specs.declared.syntax.BinaryOperator.TheVariants as binary_
use Rattle.c_tree.specs.declared.syntax.Arithmetic.TheVariants as arithmetic_
use Rattle.c_tree.specs.declared.syntax.AssignOperator.{AssignOperator}
use Rattle.c_tree.specs.declared.syntax.AssignOperator.TheVariants as assign_
use Rattle.c_tree.specs.declared.syntax.UnaryOperator.{UnaryOperator}
use Rattle.c_tree.specs.declared.syntax.UnaryOperator.TheVariants as unary_
use Rattle.c_tree.specs.declared.syntax.StepOperator.{StepOperator}
use Rattle.c_tree.specs.declared.syntax.StepOperator.TheVariants as step_
use Rattle.c_tree.specs.declared.syntax.TypeWords.{TypeWords}
use Rattle.c_tree.specs.declared.syntax.Size.{Size}
use Rattle.c_tree.specs.declared.syntax.Size.TheVariants as size
use Rattle.c_tree.specs.declared.syntax.Initialiser.{Initialiser}
use Rattle.c_tree.specs.declared.syntax.Initialiser.TheVariants as initialiser
use Rattle.c_tree.specs.declared.syntax.Identifier.{Identifier}
use Rattle.c_tree.specs.declared.syntax.Item.{Item}
use Rattle.c_tree.specs.declared.syntax.Return.{Return}
use Rattle.c_tree.specs.declared.syntax.Return.TheVariants as gives
use Rattle.c_tree.specs.declared.syntax.Parameter.{Parameter}
use Rattle.c_tree.specs.declared.syntax.Parameters.{Parameters}
use Rattle.c_tree.specs.declared.syntax.Parameters.TheVariants as parameters
use Rattle.c_tree.specs.declared.syntax.Declaration.{Declaration}
use Rattle.c_tree.specs.declared.syntax.Declaration.TheVariants as declaration
use Rattle.c_tree.specs.declared.syntax.Start.{Start}
use Rattle.c_tree.specs.declared.syntax.Start.TheVariants as start
use Rattle.c_tree.specs.declared.syntax.Statement.{Statement}
use Rattle.c_tree.specs.declared.syntax.Statement.TheVariants as statement
use Rattle.c_tree.specs.declared.syntax.External.{External}
use Rattle.c_tree.specs.declared.syntax.External.TheVariants as external
use Rattle.c_tree.specs.declared.syntax.Syntax.{Syntax}
use Rattle.c_grammar.specs.declared.sign.Sign.{Sign}
use Rattle.c_grammar.specs.declared.sign.Sign.TheVariants as sign
use Rattle.c_grammar.specs.Words.{Word, a_name, a_number, a_character, a_sign, sign_of_word, Lexeme}
use Rattle.c_grammar.specs.Operators.{precedence}
use Rattle.c_grammar.specs.Phrases.{behind}
use Rattle.c_grammar.specs.Grammar.{about}
use Rattle.c_reading.specs.Parsers.{Trouble, Wrong, Deep, same}
use Rattle.c_parser.proofs.Asked.{place_of, type_of, joined}

-- ---- what stands open

-- an expression that lacks its last operand, or has an open bracket
pub data Frame : Type 0 where
  unary : At → UnaryOperator → Frame
  before : At → StepOperator → Frame
  cast : At → TypeWords → Frame
  binary : Expr → BinaryOperator → Frame
  assign : Expr → AssignOperator → Frame
  question : Expr → Frame
  colon : Expr → Expr → Frame
  comma : Expr → Frame
  paren : At → Frame
  element : At → List ℕ → Frame
  arguments : At → List ℕ → List Expr → Frame

-- a statement that lacks its last part, or an open block
pub data Under : Type 0 where
  in_block : At → List Statement → Under
  in_if : At → Expr → Under
  in_else : At → Expr → Statement → Under
  in_while : At → Expr → Under
  in_do : At → Under
  in_for : At → Start → Option Expr → Option Expr → Under
  in_switch : At → Expr → List Statement → Under
  in_case : At → Expr → Under
  in_default : At → Under
  in_body : List External → At → Return → Identifier → Parameters → At → List Statement → Under

-- where a declaration stands
pub data Home : Type 0 where
  at_top : List External → Home
  at_block : List Under → Home
  at_start : At → List Under → Home

-- an object that is being declared, behind those of the same declaration
pub record Naming : Type 0 where
  pub at : At
  pub words : TypeWords
  pub done : List Item
  pub home : Home
  pub name : Identifier

-- a function whose parameters are being read
pub record Heading : Type 0 where
  pub at : At
  pub gives : Return
  pub name : Identifier
  pub home : Home

-- what an expression is read for
pub data Use : Type 0 where
  evaluate : List Under → Use
  if_ while_ switch_ start_ return_ case_ : At → List Under → Use
  do_ : At → Statement → List Under → Use
  test_ : At → Start → List Under → Use
  next_ : At → Start → Option Expr → List Under → Use
  size_ : Naming → Use
  value_ : Naming → Size → Use
  list_ : Naming → Size → At → List Expr → Use

pub data State : Type 0 where
  operand : List Frame → Use → State
  have : Expr → List Frame → Use → State
  named : At → List ℕ → List Frame → Use → State
  opened : At → List Frame → Use → State
  casting : At → TypeWords → List Frame → Use → State
  -- this sign, and then that; or else the other
  expect : Sign → ℕ → State → State
  either : Sign → ℕ → State → State → State
  want : List Under → State
  got : Statement → List Under → State
  for_first : At → List Under → State
  declaring : At → Return → Home → State
  declared : At → Return → Identifier → Home → State
  item_named : Naming → State
  item_sized item_valued : Naming → Size → State
  item_ended item_next : At → TypeWords → List Item → Home → State
  parameters_first : Heading → State
  parameter_typed : Heading → List Parameter → At → TypeWords → State
  parameter_ended parameter_next : Heading → List Parameter → State
  header : Heading → Parameters → State
  program : List External → State
  finished : Syntax → State

-- ---- nesting

abbrev pub start_behind : ℕ → Start → ℕ
start_behind n (start.Value e) = behind n (about e)
start_behind n _ = n

abbrev pub maybe_behind : ℕ → Option Expr → ℕ
maybe_behind n None = n
maybe_behind n (Some e) = behind n (about e)

-- of the next word of the innermost statement or block
abbrev pub inside : List Under → ℕ
inside [] = 0
inside (in_block at ss ∷ us) = suc (suc (inside us))
inside (in_if at e ∷ us) = behind (suc (inside us)) (about e)
inside (in_else at e a ∷ us) = behind (suc (inside us)) (about e)
inside (in_while at e ∷ us) = behind (suc (inside us)) (about e)
inside (in_do at ∷ us) = suc (inside us)
inside (in_for at s a b ∷ us) = maybe_behind (maybe_behind (start_behind (suc (inside us)) s) a) b
inside (in_switch at e ss ∷ us) = suc (behind (suc (inside us)) (about e))
inside (in_case at e ∷ us) = suc (inside us)
inside (in_default at ∷ us) = suc (inside us)
inside (in_body ps at r n qs brace ss ∷ us) = 1

abbrev pub home_nesting : Home → ℕ
home_nesting (at_top ps) = 0
home_nesting (at_block us) = inside us
home_nesting (at_start at us) = suc (inside us)

-- where the expression stands
abbrev pub outer : Use → ℕ
outer (evaluate us) = suc (inside us)
outer (if_ at us) = suc (inside us)
outer (while_ at us) = suc (inside us)
outer (switch_ at us) = suc (inside us)
outer (start_ at us) = suc (inside us)
outer (return_ at us) = suc (inside us)
outer (case_ at us) = suc (inside us)
outer (do_ at s us) = suc (inside us)
outer (test_ at s us) = start_behind (suc (inside us)) s
outer (next_ at s t us) = maybe_behind (start_behind (suc (inside us)) s) t
outer (size_ i) = home_nesting i.home
outer (value_ i z) = home_nesting i.home
outer (list_ i z at es) = home_nesting i.home

abbrev pub use_hole : Use → ℕ
use_hole (case_ at us) = 2
use_hole (size_ i) = 2
use_hole (value_ i z) = 1
use_hole (list_ i z at es) = 1
use_hole _ = 0

-- the level that is wanted
abbrev pub hole : List Frame → Use → ℕ
hole [] u = use_hole u
hole (unary at o ∷ fs) u = 13
hole (before at o ∷ fs) u = 14
hole (cast at t ∷ fs) u = 13
hole (binary a o ∷ fs) u = suc (precedence o)
hole (assign a o ∷ fs) u = 1
hole (question c ∷ fs) u = 0
hole (colon c a ∷ fs) u = 2
hole (comma a ∷ fs) u = 1
hole (paren at ∷ fs) u = 0
hole (element at n ∷ fs) u = 0
hole (arguments at n es ∷ fs) u = 1

-- what is wanted is an open phrase, or begins with one
abbrev pub opens : List Frame → Bool
opens (unary at o ∷ fs) = false
opens (before at o ∷ fs) = false
opens (cast at t ∷ fs) = false
opens (binary a o ∷ fs) = false
opens (colon c a ∷ fs) = false
opens _ = true

abbrev pub entered : List Frame → ℕ → ℕ
entered fs n = if opens fs then suc n else n

-- the nesting where the wanted part stands
abbrev pub spot : List Frame → Use → ℕ
spot [] u = outer u
spot (unary at o ∷ fs) u = suc (entered fs (spot fs u))
spot (before at o ∷ fs) u = suc (entered fs (spot fs u))
spot (cast at t ∷ fs) u = suc (entered fs (spot fs u))
spot (binary a o ∷ fs) u = suc (entered fs (spot fs u) + (about a).marks)
spot (assign a o ∷ fs) u = suc (entered fs (spot fs u) + (about a).marks)
spot (question c ∷ fs) u = suc (entered fs (spot fs u) + (about c).marks)
spot (colon c a ∷ fs) u = behind (suc (entered fs (spot fs u) + (about c).marks)) (about a)
spot (comma a ∷ fs) u = suc (behind (spot fs u) (about a))
spot (paren at ∷ fs) u = entered fs (spot fs u)
spot (element at n ∷ fs) u = entered fs (spot fs u)
spot (arguments at n es ∷ fs) u = entered fs (spot fs u)

-- and of its first word
abbrev pub first : List Frame → Use → ℕ
first fs u = entered fs (spot fs u)

-- ---- operators

pub data Op : Type 0 where
  joins : BinaryOperator → Op
  assigns : AssignOperator → Op
  steps : StepOperator → Op
  asks commas closes : Op

abbrev pub op_of : Sign → Op
op_of sign.LogicalOr = joins binary_.LogicalOr
op_of sign.LogicalAnd = joins binary_.LogicalAnd
op_of sign.Bar = joins binary_.Or
op_of sign.Caret = joins binary_.Xor
op_of sign.Ampersand = joins binary_.And
op_of sign.Equal = joins binary_.Equal
op_of sign.NotEqual = joins binary_.NotEqual
op_of sign.Less = joins binary_.Less
op_of sign.Greater = joins binary_.Greater
op_of sign.LessEqual = joins binary_.LessEqual
op_of sign.GreaterEqual = joins binary_.GreaterEqual
op_of sign.ShiftLeft = joins binary_.ShiftLeft
op_of sign.ShiftRight = joins binary_.ShiftRight
op_of sign.Plus = joins binary_.Add
op_of sign.Minus = joins binary_.Subtract
op_of sign.Star = joins binary_.Multiply
op_of sign.Slash = joins binary_.Divide
op_of sign.Percent = joins binary_.Remainder
op_of sign.Assign = assigns assign_.Plain
op_of sign.AssignAdd = assigns (assign_.Compound arithmetic_.Add)
op_of sign.AssignSubtract = assigns (assign_.Compound arithmetic_.Subtract)
op_of sign.AssignMultiply = assigns (assign_.Compound arithmetic_.Multiply)
op_of sign.AssignDivide = assigns (assign_.Compound arithmetic_.Divide)
op_of sign.AssignRemainder = assigns (assign_.Compound arithmetic_.Remainder)
op_of sign.AssignAnd = assigns (assign_.Compound arithmetic_.And)
op_of sign.AssignXor = assigns (assign_.Compound arithmetic_.Xor)
op_of sign.AssignOr = assigns (assign_.Compound arithmetic_.Or)
op_of sign.AssignShiftLeft = assigns (assign_.Compound arithmetic_.ShiftLeft)
op_of sign.AssignShiftRight = assigns (assign_.Compound arithmetic_.ShiftRight)
op_of sign.Increment = steps step_.Increment
op_of sign.Decrement = steps step_.Decrement
op_of sign.Question = asks
op_of sign.Comma = commas
op_of _ = closes

-- the level of what an operator makes, and the least level of what stands left of it
abbrev pub own : Op → ℕ
own (joins o) = precedence o
own (assigns o) = 1
own (steps o) = 15
own asks = 2
own commas = 0
own closes = 0

abbrev pub left : Op → ℕ
left (joins o) = precedence o
left (assigns o) = 14
left (steps o) = 15
left asks = 3
left commas = 0
left closes = 0

abbrev pub is_op : Op → Bool
is_op closes = false
is_op _ = true

abbrev pub takes : List Frame → Use → Op → Expr → Bool
takes fs u o e = is_op o && (nat_le (hole fs u) (own o) && nat_le (left o) (about e).level)

abbrev pub Next : Type 0
Next = Option (ℕ × State)

abbrev pub goes : ℕ → State → Next
goes n s = Some (n, s)

abbrev pub push : Op → Expr → List Frame → Use → Next
push (joins o) e fs u = goes (first fs u + (about e).marks) (operand (binary e o ∷ fs) u)
push (assigns o) e fs u = goes (first fs u + (about e).marks) (operand (assign e o ∷ fs) u)
push (steps o) e fs u = goes (first fs u + (about e).marks) (have (tree.After (place_of e) e o) fs u)
push asks e fs u = goes (first fs u + (about e).marks) (operand (question e ∷ fs) u)
push commas e fs u = goes (behind (spot fs u) (about e)) (operand (comma e ∷ fs) u)
push closes e fs u = None

-- the whole expression, once the wanted part is there
abbrev pub fill : Frame → Expr → Expr
fill (unary at o) e = tree.Unary at o e
fill (before at o) e = tree.Before at o e
fill (cast at t) e = tree.Cast at t e
fill (binary a o) e = tree.Binary (place_of a) a o e
fill (assign a o) e = tree.Assign (place_of a) a o e
fill (question c) e = tree.Conditional (place_of c) c e (tree.Name (place_of c) [])
fill (colon c a) e = tree.Conditional (place_of c) c a e
fill (comma a) e = tree.Comma (place_of a) a e
fill (paren at) e = tree.Paren at e
fill (element at n) e = tree.Element at n e
fill (arguments at n es) e = tree.Call at n (es ++ e ∷ [])

-- ---- states

abbrev pub on : Sign → Sign → Next → Next → Next
on t s then_ else_ = cond (same t s) then_ else_

abbrev pub add : Statement → List Under → List Under
add s (in_block at ss ∷ us) = in_block at (ss ++ s ∷ []) ∷ us
add s (in_switch at e ss ∷ us) = in_switch at e (ss ++ s ∷ []) ∷ us
add s (in_body ps at r n qs brace ss ∷ us) = in_body ps at r n qs brace (ss ++ s ∷ []) ∷ us
add s us = us

abbrev pub for_next : At → Start → Option Expr → List Under → State
for_next at st t us = either sign.RightParen (maybe_behind (start_behind (suc (inside us)) st) t) (want (in_for at st t None ∷ us)) (operand [] (next_ at st t us))

abbrev pub for_test : At → Start → List Under → State
for_test at st us = either sign.Semicolon (start_behind (suc (inside us)) st) (for_next at st None us) (operand [] (test_ at st us))

abbrev pub conclude : Home → Declaration → State
conclude (at_top ps) d = program (ps ++ external.Declared d ∷ [])
conclude (at_block us) d = want (add (statement.Declared d) us)
conclude (at_start at us) d = for_test at (start.Declared d) us

abbrev pub item_of : Naming → Size → Initialiser → Item
item_of i z v = record { name = i.name; size = z; initialiser = v }

abbrev pub item_end : Naming → Size → Initialiser → State
item_end i z v = item_ended i.at i.words (i.done ++ item_of i z v ∷ []) i.home

abbrev pub on_ended : At → TypeWords → List Item → Home → Sign → Next
on_ended at t is h sign.Comma = goes (home_nesting h) (item_next at t is h)
on_ended at t is h sign.Semicolon = goes (home_nesting h) (conclude h (declaration.Objects at t is))
on_ended at t is h _ = None

abbrev pub on_item_end : Naming → Size → Initialiser → Sign → Next
on_item_end i z v s = on_ended i.at i.words (i.done ++ item_of i z v ∷ []) i.home s

abbrev pub on_sized : Naming → Size → Sign → Next
on_sized i z sign.Assign = goes (home_nesting i.home) (item_valued i z)
on_sized i z s = on_item_end i z initialiser.Absent s

abbrev pub on_named : Naming → Sign → Next
on_named i sign.LeftBracket = goes (home_nesting i.home) (either sign.RightBracket (home_nesting i.home) (item_sized i size.Absent) (operand [] (size_ i)))
on_named i s = on_sized i size.Scalar s

abbrev pub value_after : Naming → Size → At → List Expr → State
value_after i z at es = either sign.RightBrace (home_nesting i.home) (item_end i z (initialiser.List at es true)) (operand [] (list_ i z at es))

-- a whole expression where it is read for that
abbrev pub close_use : Use → Expr → Sign → Next
close_use (evaluate us) e sign.Semicolon = goes (behind (suc (inside us)) (about e)) (got (statement.Evaluate (place_of e) (Some e)) us)
close_use (if_ at us) e sign.RightParen = goes (behind (suc (inside us)) (about e)) (want (in_if at e ∷ us))
close_use (while_ at us) e sign.RightParen = goes (behind (suc (inside us)) (about e)) (want (in_while at e ∷ us))
close_use (switch_ at us) e sign.RightParen = goes (behind (suc (inside us)) (about e)) (expect sign.LeftBrace (suc (behind (suc (inside us)) (about e))) (want (in_switch at e [] ∷ us)))
close_use (start_ at us) e sign.Semicolon = goes (behind (suc (inside us)) (about e)) (for_test at (start.Value e) us)
close_use (return_ at us) e sign.Semicolon = goes (behind (suc (inside us)) (about e)) (got (statement.Return at (Some e)) us)
close_use (case_ at us) e sign.Colon = goes (suc (inside us)) (want (in_case at e ∷ us))
close_use (do_ at s us) e sign.RightParen = goes (behind (suc (inside us)) (about e)) (expect sign.Semicolon (behind (suc (inside us)) (about e)) (got (statement.DoWhile at s e) us))
close_use (test_ at st us) e sign.Semicolon = goes (behind (start_behind (suc (inside us)) st) (about e)) (for_next at st (Some e) us)
close_use (next_ at st t us) e sign.RightParen = goes (behind (maybe_behind (start_behind (suc (inside us)) st) t) (about e)) (want (in_for at st t (Some e) ∷ us))
close_use (size_ i) e sign.RightBracket = goes (home_nesting i.home) (item_sized i (size.Given e))
close_use (value_ i z) e s = on_item_end i z (initialiser.Value e) s
close_use (list_ i z at es) e sign.Comma = goes (home_nesting i.home) (value_after i z at (es ++ e ∷ []))
close_use (list_ i z at es) e sign.RightBrace = goes (home_nesting i.home) (item_end i z (initialiser.List at (es ++ e ∷ []) false))
close_use _ e _ = None

-- the end of an open bracket, or more behind a frame that is full
abbrev pub shut : Frame → Expr → List Frame → Use → Sign → Next → Next
shut (paren at) e fs u s more = on s sign.RightParen (goes (behind (first fs u) (about e)) (have (tree.Paren at e) fs u)) None
shut (element at n) e fs u s more = on s sign.RightBracket (goes (behind (first fs u) (about e)) (have (tree.Element at n e) fs u)) None
shut (arguments at n es) e fs u s more =
    on s sign.Comma (goes (first fs u) (operand (arguments at n (es ++ e ∷ []) ∷ fs) u))
    (on s sign.RightParen (goes (first fs u) (have (tree.Call at n (es ++ e ∷ [])) fs u)) None)
shut (question c) e fs u s more = on s sign.Colon (goes (behind (suc (first fs u + (about c).marks)) (about e)) (operand (colon c e ∷ fs) u)) None
shut _ e fs u s more = more

-- the next word behind an expression
abbrev pub offer : Sign → Expr → List Frame → Use → Next
offer s e [] u = cond (takes [] u (op_of s) e) (push (op_of s) e [] u) (close_use u e s)
offer s e (f ∷ fs) u = cond (takes (f ∷ fs) u (op_of s) e) (push (op_of s) e (f ∷ fs) u) (shut f e fs u s (offer s (fill f e) fs u))

abbrev pub on_name : At → List ℕ → List Frame → Use → Sign → Next
on_name at n fs u sign.LeftParen = goes (first fs u) (either sign.RightParen (first fs u) (have (tree.Call at n []) fs u) (operand (arguments at n [] ∷ fs) u))
on_name at n fs u sign.LeftBracket = goes (first fs u) (operand (element at n ∷ fs) u)
on_name at n fs u s = offer s (tree.Name at n) fs u

abbrev pub prefix : At → Sign → List Frame → Use → Next
prefix at sign.Plus fs u = goes (first fs u) (operand (unary at unary_.Plus ∷ fs) u)
prefix at sign.Minus fs u = goes (first fs u) (operand (unary at unary_.Minus ∷ fs) u)
prefix at sign.Tilde fs u = goes (first fs u) (operand (unary at unary_.Complement ∷ fs) u)
prefix at sign.Exclamation fs u = goes (first fs u) (operand (unary at unary_.Not ∷ fs) u)
prefix at sign.Increment fs u = goes (first fs u) (operand (before at step_.Increment ∷ fs) u)
prefix at sign.Decrement fs u = goes (first fs u) (operand (before at step_.Decrement ∷ fs) u)
prefix at sign.LeftParen fs u = goes (first fs u) (opened at fs u)
prefix at _ fs u = None

-- the first word of an operand
abbrev pub on_operand : At → Word → List Frame → Use → Next
on_operand at (a_name n) fs u = goes (first fs u) (named at n fs u)
on_operand at (a_number v d k) fs u = goes (first fs u) (have (tree.Number at v d k) fs u)
on_operand at (a_character v) fs u = goes (first fs u) (have (tree.Character at v) fs u)
on_operand at (a_sign s) fs u = prefix at s fs u

abbrev pub on_opened : At → At → Word → Option TypeWords → List Frame → Use → Next
on_opened at t w None fs u = on_operand t w (paren at ∷ fs) u
on_opened at t w (Some ty) fs u = cond (nat_le (hole fs u) 13) (goes (first fs u) (casting at ty fs u)) None

abbrev pub on_casting : At → TypeWords → Sign → Option TypeWords → List Frame → Use → Next
on_casting at ty s (Some more) fs u = goes (first fs u) (casting at more fs u)
on_casting at ty s None fs u = on s sign.RightParen (goes (first fs u) (operand (cast at ty ∷ fs) u)) None

-- ---- statements

abbrev pub on_statement : At → Word → Sign → List Under → Next
on_statement at w sign.LeftBrace us = goes (suc (suc (inside us))) (want (in_block at [] ∷ us))
on_statement at w sign.Semicolon us = goes (suc (inside us)) (got (statement.Evaluate at None) us)
on_statement at w sign.If us = goes (suc (inside us)) (expect sign.LeftParen (suc (inside us)) (operand [] (if_ at us)))
on_statement at w sign.While us = goes (suc (inside us)) (expect sign.LeftParen (suc (inside us)) (operand [] (while_ at us)))
on_statement at w sign.Do us = goes (suc (inside us)) (want (in_do at ∷ us))
on_statement at w sign.For us = goes (suc (inside us)) (expect sign.LeftParen (suc (inside us)) (for_first at us))
on_statement at w sign.Switch us = goes (suc (inside us)) (expect sign.LeftParen (suc (inside us)) (operand [] (switch_ at us)))
on_statement at w sign.Case us = goes (suc (inside us)) (operand [] (case_ at us))
on_statement at w sign.Default us = goes (suc (inside us)) (expect sign.Colon (suc (inside us)) (want (in_default at ∷ us)))
on_statement at w sign.Break us = goes (suc (inside us)) (expect sign.Semicolon (suc (inside us)) (got (statement.Break at) us))
on_statement at w sign.Continue us = goes (suc (inside us)) (expect sign.Semicolon (suc (inside us)) (got (statement.Continue at) us))
on_statement at w sign.Return us = goes (suc (inside us)) (either sign.Semicolon (suc (inside us)) (got (statement.Return at None) us) (operand [] (return_ at us)))
on_statement at w s us = on_operand at w [] (evaluate us)

abbrev pub on_declaration : At → Sign → Option TypeWords → Home → Next → Next
on_declaration at s (Some ty) h other = goes (home_nesting h) (declaring at (gives.Value ty) h)
on_declaration at s None h other = on s sign.Void (goes (home_nesting h) (declaring at gives.Void h)) other

abbrev pub close_block : List Under → Next
close_block (in_block at ss ∷ us) = goes (suc (suc (inside us))) (got (statement.Block at ss) us)
close_block (in_switch at e ss ∷ us) = goes (suc (behind (suc (inside us)) (about e))) (got (statement.Switch at e ss) us)
close_block (in_body ps at r n qs brace ss ∷ us) = goes 1 (program (ps ++ external.Defined at r n qs brace ss ∷ []))
close_block us = None

abbrev pub is_block : List Under → Bool
is_block (in_block at ss ∷ us) = true
is_block (in_switch at e ss ∷ us) = true
is_block (in_body ps at r n qs brace ss ∷ us) = true
is_block us = false

abbrev pub on_item : At → Word → Sign → List Under → Next
on_item at w s us = on s sign.RightBrace (close_block us) (on_declaration at s (type_of s) (at_block us) (on_statement at w s us))

abbrev pub on_want : At → Word → Sign → List Under → Next
on_want at w s us = cond (is_block us) (on_item at w s us) (on_statement at w s us)

-- the next word behind a statement
abbrev pub settle : At → Word → Sign → Statement → List Under → Next
settle at w s x [] = None
settle at w s x (in_if p e ∷ us) = on s sign.Else (goes (inside (in_if p e ∷ us)) (want (in_else p e x ∷ us))) (settle at w s (statement.If p e x None) us)
settle at w s x (in_else p e a ∷ us) = settle at w s (statement.If p e a (Some x)) us
settle at w s x (in_while p e ∷ us) = settle at w s (statement.While p e x) us
settle at w s x (in_for p st t n ∷ us) = settle at w s (statement.For p st t n x) us
settle at w s x (in_case p e ∷ us) = settle at w s (statement.Case p e x) us
settle at w s x (in_default p ∷ us) = settle at w s (statement.Default p x) us
settle at w s x (in_do p ∷ us) = on s sign.While (goes (suc (inside us)) (expect sign.LeftParen (suc (inside us)) (operand [] (do_ p x us)))) None
settle at w s x us = on_item at w s (add x us)

abbrev pub on_first : At → Word → Sign → At → List Under → Next
on_first t w s at us = on s sign.Semicolon (goes (suc (inside us)) (for_test at start.Absent us)) (on_declaration t s (type_of s) (at_start at us) (on_operand t w [] (start_ at us)))

-- ---- declarations

abbrev pub more_words : Return → Sign → Option TypeWords
more_words gives.Void s = None
more_words (gives.Value t) s = joined t s

abbrev pub identifier : At → List ℕ → Identifier
identifier at n = record { at = at; bytes = n }

abbrev pub on_declared_name : At → At → Return → Word → Home → Next
on_declared_name t at r (a_name n) h = goes (home_nesting h) (declared at r (identifier t n) h)
on_declared_name t at r _ h = None

abbrev pub on_declaring : At → At → Return → Word → Option TypeWords → Home → Next
on_declaring t at r w (Some ty) h = goes (home_nesting h) (declaring at (gives.Value ty) h)
on_declaring t at r w None h = on_declared_name t at r w h

abbrev pub on_object : At → Return → Identifier → Home → Sign → Next
on_object at gives.Void n h s = None
on_object at (gives.Value t) n h s = on_named (record { at = at; words = t; done = []; home = h; name = n }) s

abbrev pub on_declared : At → Return → Identifier → Home → Sign → Next
on_declared at r n h sign.LeftParen = goes (home_nesting h) (parameters_first (record { at = at; gives = r; name = n; home = h }))
on_declared at r n h s = on_object at r n h s

abbrev pub on_next : At → Word → At → TypeWords → List Item → Home → Next
on_next p (a_name n) at t is h = goes (home_nesting h) (item_named (record { at = at; words = t; done = is; home = h; name = identifier p n }))
on_next p _ at t is h = None

abbrev pub on_parameter : At → Option TypeWords → Heading → List Parameter → Next
on_parameter p (Some t) h ps = goes (home_nesting h.home) (parameter_typed h ps p t)
on_parameter p None h ps = None

abbrev pub on_parameters : At → Sign → Heading → Next
on_parameters p sign.RightParen h = goes (home_nesting h.home) (header h parameters.Empty)
on_parameters p sign.Void h = goes (home_nesting h.home) (expect sign.RightParen (home_nesting h.home) (header h parameters.Void))
on_parameters p s h = on_parameter p (type_of s) h []

abbrev pub on_parameter_end : Heading → List Parameter → Sign → Next
on_parameter_end h ps sign.Comma = goes (home_nesting h.home) (parameter_next h ps)
on_parameter_end h ps sign.RightParen = goes (home_nesting h.home) (header h (parameters.List ps))
on_parameter_end h ps _ = None

abbrev pub a_parameter : At → TypeWords → Option Identifier → Parameter
a_parameter p t n = record { at = p; words = t; name = n }

abbrev pub on_parameter_name : At → Word → Heading → List Parameter → At → TypeWords → Next
on_parameter_name at (a_name n) h ps p t = goes (home_nesting h.home) (parameter_ended h (ps ++ a_parameter p t (Some (identifier at n)) ∷ []))
on_parameter_name at w h ps p t = on_parameter_end h (ps ++ a_parameter p t None ∷ []) (sign_of_word w)

abbrev pub on_typed : At → Word → Option TypeWords → Heading → List Parameter → At → TypeWords → Next
on_typed at w (Some more) h ps p t = goes (home_nesting h.home) (parameter_typed h ps p more)
on_typed at w None h ps p t = on_parameter_name at w h ps p t

abbrev pub on_body : At → Heading → Parameters → Home → Next
on_body brace h qs (at_top ps) = goes 1 (want (in_body ps h.at h.gives h.name qs brace [] ∷ []))
on_body brace h qs _ = None

abbrev pub on_header : At → Heading → Parameters → Sign → Next
on_header at h qs sign.Semicolon = goes (home_nesting h.home) (conclude h.home (declaration.Function h.at h.gives h.name qs))
on_header at h qs sign.LeftBrace = on_body at h qs h.home
on_header at h qs _ = None

abbrev pub on_program : At → Sign → List External → Next
on_program at sign.Include ps = goes 0 (program (ps ++ external.Include at ∷ []))
on_program at sign.End ps = goes 0 (finished (record { parts = ps; end = at }))
on_program at s ps = on_declaration at s (type_of s) (at_top ps) None

-- the end is never expected
abbrev pub is_sign : Word → Sign → Bool
is_sign (a_sign sign.End) s = false
is_sign (a_sign x) s = same x s
is_sign _ s = false

-- the first word of an initialiser
abbrev pub on_valued : At → Word → Naming → Size → Next
on_valued at w i z = cond (is_sign w sign.LeftBrace) (goes (home_nesting i.home) (operand [] (list_ i z at []))) (on_operand at w [] (value_ i z))

-- ---- the machine

abbrev pub step : State → Lexeme → Next
step (operand fs u) t = on_operand t.at t.word fs u
step (have e fs u) t = offer (sign_of_word t.word) e fs u
step (named at n fs u) t = on_name at n fs u (sign_of_word t.word)
step (opened at fs u) t = on_opened at t.at t.word (type_of (sign_of_word t.word)) fs u
step (casting at ty fs u) t = on_casting at ty (sign_of_word t.word) (joined ty (sign_of_word t.word)) fs u
step (expect s n a) t = cond (is_sign t.word s) (goes n a) None
step (either s n a b) t = cond (is_sign t.word s) (goes n a) (step b t)
step (want us) t = on_want t.at t.word (sign_of_word t.word) us
step (got x us) t = settle t.at t.word (sign_of_word t.word) x us
step (for_first at us) t = on_first t.at t.word (sign_of_word t.word) at us
step (declaring at r h) t = on_declaring t.at at r t.word (more_words r (sign_of_word t.word)) h
step (declared at r n h) t = on_declared at r n h (sign_of_word t.word)
step (item_named i) t = on_named i (sign_of_word t.word)
step (item_sized i z) t = on_sized i z (sign_of_word t.word)
step (item_valued i z) t = on_valued t.at t.word i z
step (item_ended at ty is h) t = on_ended at ty is h (sign_of_word t.word)
step (item_next at ty is h) t = on_next t.at t.word at ty is h
step (parameters_first h) t = on_parameters t.at (sign_of_word t.word) h
step (parameter_typed h ps p ty) t = on_typed t.at t.word (joined ty (sign_of_word t.word)) h ps p ty
step (parameter_ended h ps) t = on_parameter_end h ps (sign_of_word t.word)
step (parameter_next h ps) t = on_parameter t.at (type_of (sign_of_word t.word)) h ps
step (header h qs) t = on_header t.at h qs (sign_of_word t.word)
step (program ps) t = on_program t.at (sign_of_word t.word) ps
step (finished p) t = None

abbrev pub Outcome : Type 0
Outcome = Result Syntax Trouble

abbrev pub at_end : State → Outcome
at_end (finished p) = Ok p
at_end _ = Err (Wrong 0)

abbrev pub moved : (ℕ → Bool) → ℕ → Next → (State → Outcome) → Outcome
moved T n None k = Err (Wrong n)
moved T n (Some x) k = cond (T x.0) (k x.1) (Err (Deep n))

-- nothing is read behind the end
abbrev pub settled : Outcome → Outcome → Outcome
settled (Ok p) v = Ok p
settled (Err e) v = v

abbrev pub run : (ℕ → Bool) → List Lexeme → State → Outcome
run T [] s = at_end s
run T (t ∷ ts) s = settled (at_end s) (moved T (suc (length ts)) (step s t) (run T ts))
