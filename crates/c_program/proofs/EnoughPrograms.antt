-- The bound is enough for statements and programs too.
use Rattle.std.proofs.Common.{ℕ, zero, suc, ◌+◌, ◌*◌, ◌<◌, ◌≤◌, Bool, List, [], ◌∷◌, ◌++◌, length, Option, Some, None, Ok, arith}
use Rattle.c_tree.specs.declared.token.At.{At}
use Rattle.c_tree.specs.declared.syntax.Expr.{Expr}
use Rattle.c_tree.specs.declared.syntax.Identifier.{Identifier}
use Rattle.c_tree.specs.declared.syntax.Item.{Item}
use Rattle.c_tree.specs.declared.syntax.Initialiser.{Initialiser}
use Rattle.c_tree.specs.declared.syntax.Return.{Return}
use Rattle.c_tree.specs.declared.syntax.Parameter.{Parameter}
use Rattle.c_tree.specs.declared.syntax.TypeWords.{TypeWords}
use Rattle.c_tree.specs.declared.syntax.Statement.{Statement}
use Rattle.c_tree.specs.declared.syntax.External.{External}
use Rattle.c_grammar.specs.declared.sign.Sign.{Sign}
use Rattle.c_grammar.specs.declared.sign.Sign.TheVariants as sign
use Rattle.c_grammar.specs.Words.{Lexeme}
use Rattle.c_declarations.specs.declared.declarations.Opening.{Opening}
use Rattle.c_declarations.specs.declared.declarations.Opening.TheVariants as opening_
use Rattle.c_reading.specs.Parsers.{Parser, and_then, same, sign_at, eat, expect, name, name_if_any, more}
use Rattle.c_reading.specs.Trees.{begins_declaration}
use Rattle.c_reading.specs.Expressions.{expr, assign, conditional, type_words, read}
use Rattle.c_declarations.specs.Declarations.{given_size, size, value_end, next_value, listed, values, value_by, value, initialiser, object, next_object, next_item, items, objects, parameter, next_parameter, parameter_list, parameters_by, parameters, heading, typed_opening, opening_by, opening, declared, declaration}
use Rattle.c_program.specs.Statements.{Statements, condition, optional, do_end, case_label, started, start_by, start, for_header, block, else_by, else_branch, if_statement, while_statement, do_statement, for_statement, switch_statement, case_statement, default_statement, return_statement, break_statement, continue_statement, expression_statement, block_statement, statement_by, statement_at, block_item, statements_step, statements, part, external_by, external, parts, program}
use Rattle.c_reading.proofs.Enough.{Sure, sure_more, sure_then, sure_choice, eat_sure, eaten_sure, expect_sure, name_sure, name_if_any_sure, more_sure, type_sure, read_sure}
use Rattle.c_declarations.proofs.EnoughDeclarations.{expr_sure, closed_sure, opening_sure, declaration_sure}

module _ (T : ℕ → Bool) where
  -- ---- statements

  condition_sure : (d n : ℕ) (ts : List Lexeme) → 8 * length ts ≤ d → Sure (length ts) (condition T (read T d) n ts)
  unfolding condition
  condition_sure d n ts f = sure_then _ (length ts) (length ts) (expect T sign.LeftParen n ts) (expect_sure T sign.LeftParen n ts) (λ _ m us lt. sure_then _ (length us) (length ts) (read T d expr m us) (expr_sure T d m us (omega (arith, f, lt))) (λ e k vs less. sure_then _ (length vs) (length ts) (expect T sign.RightParen k vs) (expect_sure T sign.RightParen k vs) (λ _ j ws least. omega (arith, lt, less, least))))

  ended_sure : {A : Type 0} (d : ℕ) (s : Sign) (make : Expr → A) (n : ℕ) (ts : List Lexeme) → 8 * length ts + 6 ≤ d → Sure (length ts) (and_then (read T d expr n ts) (λ e m us. and_then (expect T s m us) (λ _ k vs. Ok (make e, k, vs))))
  ended_sure d s make n ts f = sure_then _ (length ts) (length ts) (read T d expr n ts) (expr_sure T d n ts f) (λ e m us lt. sure_then _ (length us) (length ts) (expect T s m us) (expect_sure T s m us) (λ _ k vs less. omega (arith, lt, less)))

  optional_sure : (d : ℕ) (s : Sign) (n : ℕ) (ts : List Lexeme) → 8 * length ts + 6 ≤ d → Sure (length ts) (optional T (read T d) s n ts)
  unfolding optional
  optional_sure d s n ts f = sure_choice _ _ n ts _ (same (sign_at ts) s) (eaten_sure T _ n ts) (ended_sure d s _ n ts f)

  do_end_sure : (d n : ℕ) (ts : List Lexeme) → 8 * length ts ≤ d → Sure (length ts) (do_end T (read T d) n ts)
  unfolding do_end
  do_end_sure d n ts f = sure_then _ (length ts) (length ts) (expect T sign.While n ts) (expect_sure T sign.While n ts) (λ _ m us lt. sure_then _ (length us) (length ts) (condition T (read T d) m us) (condition_sure d m us (omega (arith, f, lt))) (λ e k vs less. sure_then _ (length vs) (length ts) (expect T sign.Semicolon k vs) (expect_sure T sign.Semicolon k vs) (λ _ j ws least. omega (arith, lt, less, least))))

  case_label_sure : (d n : ℕ) (ts : List Lexeme) → 8 * length ts ≤ d → Sure (length ts) (case_label T (read T d) n ts)
  unfolding case_label
  case_label_sure d n ts f = sure_then _ (length ts) (length ts) (eat T n ts) (eat_sure T n ts) (λ _ m us lt. sure_more (length us) (length ts) _ (omega (arith, lt)) (closed_sure T d m sign.Colon _ us (omega (arith, f, lt))))

  started_sure : (d n : ℕ) (ts : List Lexeme) → 8 * length ts + 6 ≤ d → Sure (length ts) (started T d n ts)
  unfolding started
  started_sure d n ts f = sure_choice _ _ n ts _ (begins_declaration (sign_at ts)) (sure_then _ (length ts) (length ts) (declaration T d n ts) (declaration_sure T d n ts (omega (arith, f))) (λ x m us lt. lt)) (ended_sure d sign.Semicolon _ n ts f)

  start_by_sure : (d : ℕ) (s : Sign) (n : ℕ) (ts : List Lexeme) → 8 * length ts + 6 ≤ d → Sure (length ts) (start_by T d s n ts)
  start_by_sure d sign.Semicolon n ts f = eaten_sure T _ n ts
  start_by_sure d _ n ts f = started_sure d n ts f

  for_header_sure : (d n : ℕ) (ts : List Lexeme) → 8 * length ts ≤ d → Sure (length ts) (for_header T d n ts)
  unfolding for_header start
  for_header_sure d n ts f = sure_then _ (length ts) (length ts) (eat T n ts) (eat_sure T n ts) (λ _ m us lt. sure_then _ (length us) (length ts) (expect T sign.LeftParen m us) (expect_sure T sign.LeftParen m us) (λ _ k vs less. sure_then _ (length vs) (length ts) (start_by T d (sign_at vs) k vs) (start_by_sure d (sign_at vs) k vs (omega (arith, f, lt, less))) (λ x j ws least. sure_then _ (length ws) (length ts) (optional T (read T d) sign.Semicolon j ws) (optional_sure d sign.Semicolon j ws (omega (arith, f, lt, less, least))) (λ t i ys fewer. sure_then _ (length ys) (length ts) (optional T (read T d) sign.RightParen i ys) (optional_sure d sign.RightParen i ys (omega (arith, f, lt, less, least, fewer))) (λ u h zs fewest. omega (arith, lt, less, least, fewer, fewest))))))

  module _ (d : ℕ) (S : Statements) (one : (n : ℕ) (ts : List Lexeme) → 8 * length ts + 7 ≤ d → Sure (length ts) (S.one n ts)) (rest : (ss : List Statement) (n : ℕ) (ts : List Lexeme) → 8 * length ts + 8 ≤ d → Sure (length ts) (S.rest ss n ts)) where
    block_sure : (n : ℕ) (ts : List Lexeme) → 8 * length ts ≤ d → Sure (length ts) (block T S n ts)
    unfolding block
    block_sure n ts f = sure_then _ (length ts) (length ts) _ (sure_then _ (length ts) (length ts) (expect T sign.LeftBrace (suc n) ts) (expect_sure T sign.LeftBrace (suc n) ts) (λ _ m us lt. sure_more (length us) (length ts) _ (omega (arith, lt)) (rest [] m us (omega (arith, f, lt))))) (λ x m us lt. lt)

    else_by_sure : (s : Sign) (n : ℕ) (ts : List Lexeme) → 8 * length ts ≤ d → Sure (suc (length ts)) (else_by T S s n ts)
    else_by_sure sign.Else n ts f = sure_then _ (length ts) (suc (length ts)) (eat T n ts) (eat_sure T n ts) (λ _ m us lt. sure_then _ (length us) (suc (length ts)) (S.one m us) (one m us (omega (arith, f, lt))) (λ b k vs less. omega (arith, lt, less)))
    else_by_sure _ n ts f = omega arith

    -- a statement behind words that were taken
    body_sure : {A : Type 0} (make : Statement → A) (b n : ℕ) (us : List Lexeme) → length us < b → 8 * length us + 7 ≤ d → Sure b (and_then (S.one n us) (λ a k vs. Ok (make a, k, vs)))
    body_sure make b n us lt f = sure_then _ (length us) b (S.one n us) (one n us f) (λ a k vs less. omega (arith, lt, less))

    statement_by_sure : (at : At) (s : Sign) (n : ℕ) (ts : List Lexeme) → 8 * length ts + 6 ≤ d → Sure (length ts) (statement_by T d S at s n ts)
    unfolding if_statement else_branch while_statement do_statement for_statement switch_statement case_statement default_statement return_statement break_statement continue_statement expression_statement block_statement
    statement_by_sure at sign.LeftBrace n ts f = sure_then _ (length ts) (length ts) (block T S n ts) (block_sure n ts (omega (arith, f))) (λ ss m us lt. lt)
    statement_by_sure at sign.If n ts f = sure_then _ (length ts) (length ts) (eat T n ts) (eat_sure T n ts) (λ _ m us lt. sure_then _ (length us) (length ts) (condition T (read T d) m us) (condition_sure d m us (omega (arith, f, lt))) (λ e k vs less. sure_then _ (length vs) (length ts) (S.one k vs) (one k vs (omega (arith, f, lt, less))) (λ a j ws least. sure_then _ (suc (length ws)) (length ts) (else_by T S (sign_at ws) j ws) (else_by_sure (sign_at ws) j ws (omega (arith, f, lt, less, least))) (λ b i ys fewer. omega (arith, lt, less, least, fewer)))))
    statement_by_sure at sign.While n ts f = sure_then _ (length ts) (length ts) (eat T n ts) (eat_sure T n ts) (λ _ m us lt. sure_then _ (length us) (length ts) (condition T (read T d) m us) (condition_sure d m us (omega (arith, f, lt))) (λ e k vs less. body_sure _ (length ts) k vs (omega (arith, lt, less)) (omega (arith, f, lt, less))))
    statement_by_sure at sign.Do n ts f = sure_then _ (length ts) (length ts) (eat T n ts) (eat_sure T n ts) (λ _ m us lt. sure_then _ (length us) (length ts) (S.one m us) (one m us (omega (arith, f, lt))) (λ a k vs less. sure_then _ (length vs) (length ts) (do_end T (read T d) k vs) (do_end_sure d k vs (omega (arith, f, lt, less))) (λ e j ws least. omega (arith, lt, less, least))))
    statement_by_sure at sign.For n ts f = sure_then _ (length ts) (length ts) (for_header T d n ts) (for_header_sure d n ts (omega (arith, f))) (λ x m us lt. body_sure _ (length ts) m us lt (omega (arith, f, lt)))
    statement_by_sure at sign.Switch n ts f = sure_then _ (length ts) (length ts) (eat T n ts) (eat_sure T n ts) (λ _ m us lt. sure_then _ (length us) (length ts) (condition T (read T d) m us) (condition_sure d m us (omega (arith, f, lt))) (λ e k vs less. sure_then _ (length vs) (length ts) (block T S k vs) (block_sure k vs (omega (arith, f, lt, less))) (λ ss j ws least. omega (arith, lt, less, least))))
    statement_by_sure at sign.Case n ts f = sure_then _ (length ts) (length ts) (case_label T (read T d) n ts) (case_label_sure d n ts (omega (arith, f))) (λ e m us lt. body_sure _ (length ts) m us lt (omega (arith, f, lt)))
    statement_by_sure at sign.Default n ts f = sure_then _ (length ts) (length ts) (eat T n ts) (eat_sure T n ts) (λ _ m us lt. sure_then _ (length us) (length ts) (expect T sign.Colon m us) (expect_sure T sign.Colon m us) (λ _ k vs less. body_sure _ (length ts) k vs (omega (arith, lt, less)) (omega (arith, f, lt, less))))
    statement_by_sure at sign.Break n ts f = sure_then _ (length ts) (length ts) (eat T n ts) (eat_sure T n ts) (λ _ m us lt. sure_then _ (length us) (length ts) (expect T sign.Semicolon m us) (expect_sure T sign.Semicolon m us) (λ _ k vs less. omega (arith, lt, less)))
    statement_by_sure at sign.Continue n ts f = sure_then _ (length ts) (length ts) (eat T n ts) (eat_sure T n ts) (λ _ m us lt. sure_then _ (length us) (length ts) (expect T sign.Semicolon m us) (expect_sure T sign.Semicolon m us) (λ _ k vs less. omega (arith, lt, less)))
    statement_by_sure at sign.Return n ts f = sure_then _ (length ts) (length ts) (eat T n ts) (eat_sure T n ts) (λ _ m us lt. sure_then _ (length us) (length ts) (optional T (read T d) sign.Semicolon m us) (optional_sure d sign.Semicolon m us (omega (arith, f, lt))) (λ e k vs less. omega (arith, lt, less)))
    statement_by_sure at _ n ts f = sure_then _ (length ts) (length ts) (optional T (read T d) sign.Semicolon n ts) (optional_sure d sign.Semicolon n ts f) (λ e m us lt. lt)

    block_item_sure : (n : ℕ) (ts : List Lexeme) → 8 * length ts + 7 ≤ d → Sure (length ts) (block_item T d S n ts)
    unfolding block_item
    block_item_sure n ts f = sure_choice _ _ n ts _ (begins_declaration (sign_at ts)) (sure_then _ (length ts) (length ts) (declaration T d n ts) (declaration_sure T d n ts (omega (arith, f))) (λ x m us lt. lt)) (one n ts f)

    one_sure : (n : ℕ) (ts : List Lexeme) → 8 * length ts + 7 ≤ suc d → Sure (length ts) ((statements_step T d S).one n ts)
    unfolding statement_at
    one_sure n ts f = sure_then _ (length ts) (length ts) _ (statement_by_sure _ (sign_at ts) (suc n) ts (omega (arith, f))) (λ x m us lt. lt)

    rest_sure : (ss : List Statement) (n : ℕ) (ts : List Lexeme) → 8 * length ts + 8 ≤ suc d → Sure (length ts) ((statements_step T d S).rest ss n ts)
    rest_sure ss n ts f = sure_choice _ _ n ts _ (same (sign_at ts) sign.RightBrace) (eaten_sure T _ n ts) (sure_then _ (length ts) (length ts) (block_item T d S n ts) (block_item_sure n ts (omega (arith, f))) (λ x m us lt. sure_more (length us) (length ts) _ (omega (arith, lt)) (rest _ m us (omega (arith, f, lt)))))

  record AreSure (d : ℕ) (S : Statements) : Type 0 where
    one : (n : ℕ) (ts : List Lexeme) → 8 * length ts + 7 ≤ d → Sure (length ts) (S.one n ts)
    rest : (ss : List Statement) (n : ℕ) (ts : List Lexeme) → 8 * length ts + 8 ≤ d → Sure (length ts) (S.rest ss n ts)

  statements_sure : (d : ℕ) → AreSure d (statements T d)
  statements_sure zero = record { one = λ n ts f. absurd (omega (arith, f)); rest = λ ss n ts f. absurd (omega (arith, f)) }
  statements_sure (suc d) = let s = statements_sure d in record { one = one_sure d (statements T d) s.one s.rest; rest = rest_sure d (statements T d) s.one s.rest }

  -- ---- programs

  part_sure : (d : ℕ) (o : Opening) (b n : ℕ) (ts : List Lexeme) → length ts < b → 8 * length ts ≤ d → Sure b (part T d o n ts)
  unfolding part
  part_sure d (opening_.Objects x) b n ts lt f = lt
  part_sure d (opening_.Function at r c ps) b n ts lt f = sure_choice _ _ n ts _ (same (sign_at ts) sign.LeftBrace) (sure_then _ (length ts) b (block T (statements T d) n ts) (let s = statements_sure d in block_sure d (statements T d) s.one s.rest n ts f) (λ ss m us less. omega (arith, lt, less))) (sure_then _ (length ts) b (expect T sign.Semicolon n ts) (expect_sure T sign.Semicolon n ts) (λ _ m us less. omega (arith, lt, less)))

  external_by_sure : (d : ℕ) (at : At) (s : Sign) (n : ℕ) (ts : List Lexeme) → 8 * length ts ≤ d → Sure (length ts) (external_by T d at s n ts)
  external_by_sure d at sign.Include n ts f = eaten_sure T _ n ts
  external_by_sure d at _ n ts f = sure_then _ (length ts) (length ts) (opening T d n ts) (opening_sure T d n ts f) (λ o m us lt. part_sure d o (length ts) m us lt (omega (arith, f, lt)))

  external_sure : (d n : ℕ) (ts : List Lexeme) → 8 * length ts ≤ d → Sure (length ts) (external T d n ts)
  unfolding external
  external_sure d n ts f = external_by_sure d _ (sign_at ts) n ts f

  -- the last part takes no word
  pub parts_sure : (d : ℕ) (xs : List External) (n : ℕ) (ts : List Lexeme) → 8 * length ts + 1 ≤ d → Sure (suc (length ts)) (parts T d xs n ts)
  unfolding parts
  parts_sure zero xs n ts f = absurd (omega (arith, f))
  parts_sure (suc d) xs n ts f = sure_choice _ _ n ts _ (same (sign_at ts) sign.End) (omega arith) (sure_then _ (length ts) (suc (length ts)) (external T d n ts) (external_sure d n ts (omega (arith, f))) (λ x m us lt. sure_more (suc (length us)) (suc (length ts)) _ (omega (arith, lt)) (parts_sure d (xs ++ x ∷ []) m us (omega (arith, f, lt)))))

  -- so the bound of the parser never runs out
  pub program_sure : (ts : List Lexeme) → Sure (suc (length ts)) (program T (8 * length ts + 16) ts)
  program_sure ts = parts_sure (8 * length ts + 16) [] 0 ts (omega arith)
