-- The reading of expressions (C11 6.5), by one word of lookahead.
use Rattle.std.specs.Prelude.{ℕ, zero, suc, Bool, if◌then◌else◌, nat_lt, List, [], ◌∷◌, ◌++◌, Option, Some, None}
use Rattle.c_tree.specs.declared.token.At.{At}
use Rattle.c_tree.specs.declared.syntax.Expr.{Expr}
use Rattle.c_tree.specs.declared.syntax.Expr.TheVariants as tree
use Rattle.c_tree.specs.declared.syntax.BinaryOperator.{BinaryOperator}
use Rattle.c_tree.specs.declared.syntax.AssignOperator.{AssignOperator}
use Rattle.c_tree.specs.declared.syntax.UnaryOperator.{UnaryOperator}
use Rattle.c_tree.specs.declared.syntax.UnaryOperator.TheVariants as unary_operator
use Rattle.c_tree.specs.declared.syntax.StepOperator.{StepOperator}
use Rattle.c_tree.specs.declared.syntax.StepOperator.TheVariants as step_operator
use Rattle.c_tree.specs.declared.syntax.TypeWords.{TypeWords}
use Rattle.c_grammar.specs.declared.sign.Sign.{Sign}
use Rattle.c_grammar.specs.declared.sign.Sign.TheVariants as sign
use Rattle.c_grammar.specs.Words.{Word, a_name, a_number, a_character, a_sign}
use Rattle.c_grammar.specs.Operators.{precedence}
use Rattle.c_reading.specs.Parsers.{Parser, ◌>>=◌, ◌>>◌, pure, wrong, out, word_at, peek, place, deeper, phrase, eat, counted, expect, more}
use Rattle.c_tree.specs.Places.{place_of}
use Rattle.c_reading.specs.Trees.{is_unary, binary_of, assign_of, type_of, joined}

-- What is to be read: a phrase, or what goes on from an expression that was read.
pub data Goal : Type 0 where
  expr assign conditional cast unary : Goal
  -- operators that bind at least so tightly
  binary : ℕ → Goal
  after_comma after_postfix : Expr → Goal
  after_operand : ℕ → Expr → Goal
  -- the arguments of a call, behind those that were read
  in_call : At → List ℕ → List Expr → Goal

abbrev pub Reader : Type 0
Reader = Goal → Parser Expr

module _ (T : ℕ → Bool) where
  -- ---- types

  abbrev pub second_word : TypeWords → Option TypeWords → Parser TypeWords
  second_word w None = pure w
  second_word w (Some v) = eat T >> pure v

  abbrev pub first_word : Option TypeWords → Parser TypeWords
  first_word None = wrong
  first_word (Some w) = do
    eat T
    s ← peek
    second_word w (joined w s)

  unfoldable pub type_words : Parser TypeWords
  type_words = do
    s ← peek
    first_word (type_of s)

  module _ (R : Reader) where
    -- ---- primary and postfix

    -- behind the opening parenthesis
    unfoldable pub parenthesis : At → Parser Expr
    parenthesis at = do
      e ← R expr
      expect T sign.RightParen
      R (after_postfix (tree.Paren at e))

    abbrev pub called_by : At → List ℕ → Sign → Parser Expr
    called_by at n sign.RightParen = eat T >> pure (tree.Call at n [])
    called_by at n _ = R (in_call at n [])

    -- behind the opening parenthesis of a call
    unfoldable pub called : At → List ℕ → Parser Expr
    called at n = peek >>= called_by at n

    abbrev pub named_by : At → List ℕ → Sign → Parser Expr
    named_by at n sign.LeftBracket = do
      eat T
      e ← R expr
      expect T sign.RightBracket
      R (after_postfix (tree.Element at n e))
    named_by at n sign.LeftParen = do
      eat T
      e ← called at n
      R (after_postfix e)
    named_by at n _ = R (after_postfix (tree.Name at n))

    -- behind a name
    unfoldable pub named : At → List ℕ → Parser Expr
    named at n = peek >>= named_by at n

    abbrev pub primary_by : At → Word → Parser Expr
    primary_by at (a_name n) = eat T >> named at n
    primary_by at (a_number v d u) = eat T >> R (after_postfix (tree.Number at v d u))
    primary_by at (a_character v) = eat T >> R (after_postfix (tree.Character at v))
    primary_by at (a_sign s) = wrong

    unfoldable pub primary : At → Parser Expr
    primary at = λ n ts. primary_by at (word_at ts) n ts

    -- ---- unary and cast

    unfoldable pub stepped : At → StepOperator → Parser Expr
    stepped at o = do
      counted T
      e ← R unary
      pure (tree.Before at o e)

    unfoldable pub signed : At → UnaryOperator → Parser Expr
    signed at o = do
      counted T
      e ← R cast
      pure (tree.Unary at o e)

    abbrev pub unary_by : At → Sign → Parser Expr
    unary_by at sign.Increment = stepped at step_operator.Increment
    unary_by at sign.Decrement = stepped at step_operator.Decrement
    unary_by at sign.Plus = signed at unary_operator.Plus
    unary_by at sign.Minus = signed at unary_operator.Minus
    unary_by at sign.Tilde = signed at unary_operator.Complement
    unary_by at sign.Exclamation = signed at unary_operator.Not
    unary_by at sign.LeftParen = eat T >> parenthesis at
    unary_by at _ = primary at

    abbrev pub cast_or_parenthesis_by : At → Option TypeWords → Parser Expr
    cast_or_parenthesis_by at None = parenthesis at
    cast_or_parenthesis_by at (Some first) = do
      w ← type_words
      expect T sign.RightParen
      deeper
      e ← R cast
      pure (tree.Cast at w e)

    -- behind the opening parenthesis
    unfoldable pub cast_or_parenthesis : At → Parser Expr
    cast_or_parenthesis at = do
      s ← peek
      cast_or_parenthesis_by at (type_of s)

    abbrev pub cast_by : At → Sign → Parser Expr
    cast_by at sign.LeftParen = eat T >> cast_or_parenthesis at
    cast_by at _ = R unary

    -- ---- operators

    abbrev pub operated : ℕ → Expr → Option BinaryOperator → Parser Expr
    operated k e None = pure e
    operated k e (Some o) = if nat_lt (precedence o) k then pure e else (do
      counted T
      x ← R (binary (suc (precedence o)))
      R (after_operand k (tree.Binary (place_of e) e o x)))

    -- the two expressions behind a question mark
    unfoldable pub branches : Parser (Expr × Expr)
    branches = do
      a ← R expr
      expect T sign.Colon
      b ← R conditional
      pure (a, b)

    abbrev pub conditional_by : Expr → Sign → Parser Expr
    conditional_by e sign.Question = do
      counted T
      both ← branches
      pure (tree.Conditional (place_of e) e both.0 both.1)
    conditional_by e _ = pure e

    abbrev pub assigned : Expr → Option AssignOperator → Parser Expr
    assigned e None = pure e
    assigned e (Some o) = if is_unary e then (do
      counted T
      x ← R assign
      pure (tree.Assign (place_of e) e o x)) else pure e

    -- behind what stands left of an assignment, if one follows
    unfoldable pub after_left : Expr → Parser Expr
    after_left e = do
      s ← peek
      assigned e (assign_of s)

    abbrev pub comma_by : Expr → Sign → Parser Expr
    comma_by e sign.Comma = do
      counted T
      x ← R assign
      R (after_comma (tree.Comma (place_of e) e x))
    comma_by e _ = pure e

    unfoldable pub stepped_behind : Expr → StepOperator → Parser Expr
    stepped_behind e o = counted T >> R (after_postfix (tree.After (place_of e) e o))

    abbrev pub postfix_by : Expr → Sign → Parser Expr
    postfix_by e sign.Increment = stepped_behind e step_operator.Increment
    postfix_by e sign.Decrement = stepped_behind e step_operator.Decrement
    postfix_by e _ = pure e

    -- one step of the reading, where R reads what is inside
    abbrev pub step : Reader
    step expr = do
      x ← R assign
      R (after_comma x)
    step (after_comma e) = peek >>= comma_by e
    step assign = phrase (R conditional >>= after_left)
    step conditional = do
      e ← R (binary 3)
      s ← peek
      conditional_by e s
    step (binary k) = do
      x ← R cast
      R (after_operand k x)
    step (after_operand k e) = do
      s ← peek
      operated k e (binary_of s)
    step cast = do
      at ← place
      s ← peek
      cast_by at s
    step unary = do
      at ← place
      s ← peek
      unary_by at s
    step (after_postfix e) = peek >>= postfix_by e
    step (in_call at n es) = do
      x ← R assign
      goes_on ← more T sign.RightParen
      if goes_on then R (in_call at n (es ++ x ∷ [])) else pure (tree.Call at n (es ++ x ∷ []))

  -- the reading with calls at most so deep
  abbrev pub read : ℕ → Reader
  read zero g n ts = out n ts
  read (suc d) g n ts = step (read d) g n ts
