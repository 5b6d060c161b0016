-- The reading of statements (C11 6.8) and of whole programs (C11 6.9).
use Rattle.std.specs.Prelude.{ℕ, zero, suc, Bool, if◌then◌else◌, List, [], ◌∷◌, ◌++◌, Option, Some, None}
use Rattle.c_tree.specs.declared.token.At.{At}
use Rattle.c_tree.specs.declared.syntax.Expr.{Expr}
use Rattle.c_tree.specs.declared.syntax.Declaration.TheVariants as declaration_
use Rattle.c_tree.specs.declared.syntax.Start.{Start}
use Rattle.c_tree.specs.declared.syntax.Start.TheVariants as start_
use Rattle.c_tree.specs.declared.syntax.Statement.{Statement}
use Rattle.c_tree.specs.declared.syntax.Statement.TheVariants as statement_
use Rattle.c_tree.specs.declared.syntax.External.{External}
use Rattle.c_tree.specs.declared.syntax.Syntax.{Syntax}
use Rattle.c_tree.specs.declared.syntax.External.TheVariants as external_
use Rattle.c_grammar.specs.declared.sign.Sign.{Sign}
use Rattle.c_grammar.specs.declared.sign.Sign.TheVariants as sign
use Rattle.c_grammar.specs.Words.{Lexeme}
use Rattle.c_reading.specs.Parsers.{Parser, Read, same, ◌>>=◌, ◌>>◌, pure, out, peek, place, phrase, eat, expect}
use Rattle.c_reading.specs.Trees.{begins_declaration}
use Rattle.c_reading.specs.Expressions.{Reader, expr, conditional, read}
use Rattle.c_declarations.specs.declared.declarations.Opening.{Opening}
use Rattle.c_declarations.specs.declared.declarations.Opening.TheVariants as opening_
use Rattle.c_declarations.specs.Declarations.{opening, declaration}

-- a statement, and the statements of a block up to its end, behind those that were read
pub record Statements : Type 0 where
  pub one : Parser Statement
  pub rest : List Statement → Parser (List Statement)

module _ (T : ℕ → Bool) where
  module _ (R : Reader) where
    -- an expression in parentheses
    unfoldable pub condition : Parser Expr
    condition = do
      expect T sign.LeftParen
      e ← R expr
      expect T sign.RightParen
      pure e

    -- an expression or none, up to this word
    unfoldable pub optional : Sign → Parser (Option Expr)
    optional close = do
      s ← peek
      if same s close then eat T >> pure None else (do
        e ← R expr
        expect T close
        pure (Some e))

    -- what stands behind the statement of a `do`
    unfoldable pub do_end : Parser Expr
    do_end = do
      expect T sign.While
      e ← condition
      expect T sign.Semicolon
      pure e

    -- a `case` up to its colon
    unfoldable pub case_label : Parser Expr
    case_label = do
      eat T
      e ← phrase (R conditional)
      expect T sign.Colon
      pure e

  -- what stands before the first semicolon of a `for`, where something does
  unfoldable pub started : ℕ → Parser Start
  started d = do
    s ← peek
    if begins_declaration s then (do
      x ← declaration T d
      pure (start_.Declared x)) else (do
        e ← read T d expr
        expect T sign.Semicolon
        pure (start_.Value e))

  abbrev pub start_by : ℕ → Sign → Parser Start
  start_by d sign.Semicolon = eat T >> pure start_.Absent
  start_by d _ = started d

  unfoldable pub start : ℕ → Parser Start
  start d = peek >>= start_by d

  -- a `for` up to its closing parenthesis
  unfoldable pub for_header : ℕ → Parser (Start × Option Expr × Option Expr)
  for_header d = do
    eat T
    expect T sign.LeftParen
    x ← start d
    test ← optional (read T d) sign.Semicolon
    step ← optional (read T d) sign.RightParen
    pure (x, test, step)

  module _ (S : Statements) where
    unfoldable pub block : Parser (List Statement)
    block = phrase (expect T sign.LeftBrace >> S.rest [])

    abbrev pub else_by : Sign → Parser (Option Statement)
    else_by sign.Else = do
      eat T
      b ← S.one
      pure (Some b)
    else_by _ = pure None

    -- behind the first statement of an `if`
    unfoldable pub else_branch : Parser (Option Statement)
    else_branch = peek >>= else_by

  module _ (d : ℕ) (S : Statements) where
    unfoldable pub if_statement : At → Parser Statement
    if_statement at = do
      eat T
      e ← condition (read T d)
      a ← S.one
      b ← else_branch S
      pure (statement_.If at e a b)

    unfoldable pub while_statement : At → Parser Statement
    while_statement at = do
      eat T
      e ← condition (read T d)
      a ← S.one
      pure (statement_.While at e a)

    unfoldable pub do_statement : At → Parser Statement
    do_statement at = do
      eat T
      a ← S.one
      e ← do_end (read T d)
      pure (statement_.DoWhile at a e)

    unfoldable pub for_statement : At → Parser Statement
    for_statement at = do
      x ← for_header d
      a ← S.one
      pure (statement_.For at x.0 x.1 x.2 a)

    unfoldable pub switch_statement : At → Parser Statement
    switch_statement at = do
      eat T
      e ← condition (read T d)
      ss ← block S
      pure (statement_.Switch at e ss)

    unfoldable pub case_statement : At → Parser Statement
    case_statement at = do
      e ← case_label (read T d)
      a ← S.one
      pure (statement_.Case at e a)

    unfoldable pub default_statement : At → Parser Statement
    default_statement at = do
      eat T
      expect T sign.Colon
      a ← S.one
      pure (statement_.Default at a)

    unfoldable pub return_statement : At → Parser Statement
    return_statement at = do
      eat T
      e ← optional (read T d) sign.Semicolon
      pure (statement_.Return at e)

    unfoldable pub break_statement : At → Parser Statement
    break_statement at = do
      eat T
      expect T sign.Semicolon
      pure (statement_.Break at)

    unfoldable pub continue_statement : At → Parser Statement
    continue_statement at = do
      eat T
      expect T sign.Semicolon
      pure (statement_.Continue at)

    unfoldable pub expression_statement : At → Parser Statement
    expression_statement at = do
      e ← optional (read T d) sign.Semicolon
      pure (statement_.Evaluate at e)

    unfoldable pub block_statement : At → Parser Statement
    block_statement at = do
      ss ← block S
      pure (statement_.Block at ss)

    abbrev pub statement_by : At → Sign → Parser Statement
    statement_by at sign.LeftBrace = block_statement at
    statement_by at sign.If = if_statement at
    statement_by at sign.While = while_statement at
    statement_by at sign.Do = do_statement at
    statement_by at sign.For = for_statement at
    statement_by at sign.Switch = switch_statement at
    statement_by at sign.Case = case_statement at
    statement_by at sign.Default = default_statement at
    statement_by at sign.Break = break_statement at
    statement_by at sign.Continue = continue_statement at
    statement_by at sign.Return = return_statement at
    statement_by at _ = expression_statement at

    -- a statement, whose first word stands there
    unfoldable pub statement_at : At → Parser Statement
    statement_at at = peek >>= statement_by at

    -- a statement or a declaration of a block
    unfoldable pub block_item : Parser Statement
    block_item = do
      s ← peek
      if begins_declaration s then (do
        x ← declaration T d
        pure (statement_.Declared x)) else S.one

    abbrev pub block_rest : List Statement → Parser (List Statement)
    block_rest ss = do
      s ← peek
      if same s sign.RightBrace then eat T >> pure ss else (do
        x ← block_item
        S.rest (ss ++ x ∷ []))

    abbrev pub statements_step : Statements
    statements_step = record {
      one = phrase (place >>= statement_at);
      rest = block_rest;
    }

  -- the statements with calls at most so deep
  abbrev pub statements : ℕ → Statements
  statements zero = record { one = out; rest = λ ss. out }
  statements (suc d) = statements_step d (statements d)

  -- ---- programs

  abbrev pub part_by : ℕ → Opening → Parser External
  part_by d (opening_.Objects x) = pure (external_.Declared x)
  part_by d (opening_.Function at r n ps) = do
    brace ← place
    s ← peek
    if same s sign.LeftBrace then (do
      ss ← block (statements d)
      pure (external_.Defined at r n ps brace ss)) else (do
        expect T sign.Semicolon
        pure (external_.Declared (declaration_.Function at r n ps)))

  unfoldable pub part : ℕ → Opening → Parser External
  part d o = part_by d o

  abbrev pub external_by : ℕ → At → Sign → Parser External
  external_by d at sign.Include = eat T >> pure (external_.Include at)
  external_by d at _ = do
    o ← opening T d
    part d o

  unfoldable pub external : ℕ → Parser External
  external d = do
    at ← place
    s ← peek
    external_by d at s

  -- the program, whose parts up to here were read
  unfoldable pub parts : ℕ → List External → Parser Syntax
  parts zero xs = out
  parts (suc d) xs = do
    at ← place
    s ← peek
    if same s sign.End then pure (record { parts = xs; end = at }) else (do
      x ← external d
      parts d (xs ++ x ∷ []))

  abbrev pub program : ℕ → List Lexeme → Read Syntax
  program d ts = parts d [] 0 ts
