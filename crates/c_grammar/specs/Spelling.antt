-- Which tree tokens spell, and how far they lead.
use Rattle.std.specs.Prelude.{ℕ, ◌≡◌, ◌≤◌, ◌<◌, List, [], ◌∷◌, ◌++◌, true, Option, Some, None, All}
use Rattle.c_tree.specs.declared.token.At.{At}
use Rattle.c_tree.specs.declared.syntax.Syntax.{Syntax}
use Rattle.c_grammar.specs.declared.sign.Sign.TheVariants as sign
use Rattle.c_grammar.specs.Words.{Word, a_sign, Lexeme}
use Rattle.c_grammar.specs.Phrases.{Leaf, Said}
use Rattle.c_grammar.specs.Grammar.{program}

abbrev pub Stands : Option At → At → Type 0
Stands None at = Unit {0}
Stands (Some place) at = place ≡ at

-- token for token the same words, and each node at the place of its first token
abbrev pub Spells : List Lexeme → List Leaf → Type 0
Spells [] [] = Unit {0}
Spells (t ∷ ts) (l ∷ ls) = (t.word ≡ l.word) × Stands l.at t.at × Spells ts ls
Spells _ _ = ⊥

abbrev pub leaves_of_program : Syntax → List Leaf
leaves_of_program tree = (program tree).leaves 0 []

abbrev pub Shallow : List Leaf → Type 0
Shallow = All (λ l. l.nesting ≤ 200)

-- THE SPELLING: these tokens are those of the tree, whose parts have their levels, and no token stands deeper than 200
pub record Spelled (ts : List Lexeme) (tree : Syntax) : Type 0 where
  pub text : Spells ts (leaves_of_program tree)
  pub fits : (program tree).fits ≡ true
  pub shallow : Shallow (leaves_of_program tree)

-- some program begins with these tokens, which stand so in it
pub record Begins (us : List Lexeme) (leaves : List Leaf) : Type 0 where
  pub tree : Syntax
  pub rest : List Leaf
  pub split : leaves_of_program tree ≡ leaves ++ rest
  pub spelled : Spells us leaves
  pub fits : (program tree).fits ≡ true

-- the first token that continues no program, where no token before it stands too deep
pub record FirstBad (ts : List Lexeme) (at : At) : Type 0 where
  pub before : List Lexeme
  pub bad : Lexeme
  pub rest : List Lexeme
  pub split : ts ≡ before ++ bad ∷ rest
  pub place : at ≡ bad.at
  pub leaves : List Leaf
  pub goes : Begins before leaves
  pub shallow : Shallow leaves
  pub stops : (leaves : List Leaf) → Begins (before ++ bad ∷ []) leaves → ⊥

-- the first token that stands too deep, in a program that begins with the tokens up to it
pub record FirstDeep (ts : List Lexeme) (at : At) : Type 0 where
  pub before : List Lexeme
  pub deep : Lexeme
  pub rest : List Lexeme
  pub split : ts ≡ before ++ deep ∷ rest
  pub place : at ≡ deep.at
  pub leaves : List Leaf
  pub leaf : Leaf
  pub goes : Begins (before ++ deep ∷ []) (leaves ++ leaf ∷ [])
  pub shallow : Shallow leaves
  pub passes : 200 < leaf.nesting

-- the end stands last, and nowhere else
pub record Ended (ts : List Lexeme) : Type 0 where
  pub body : List Lexeme
  pub at : At
  pub is : ts ≡ body ++ record { word = a_sign sign.End; at = at } ∷ []
  pub none : All (λ t. t.word ≡ a_sign sign.End → ⊥) body
