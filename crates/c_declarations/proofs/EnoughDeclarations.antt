-- The bound is enough for declarations too.
use Rattle.std.proofs.Common.{ℕ, zero, suc, ◌+◌, ◌*◌, ◌<◌, ◌≤◌, Bool, List, [], ◌∷◌, ◌++◌, length, Option, Some, None, Ok, arith}
use Rattle.c_tree.specs.declared.token.At.{At}
use Rattle.c_tree.specs.declared.syntax.Expr.{Expr}
use Rattle.c_tree.specs.declared.syntax.Identifier.{Identifier}
use Rattle.c_tree.specs.declared.syntax.Item.{Item}
use Rattle.c_tree.specs.declared.syntax.Initialiser.{Initialiser}
use Rattle.c_tree.specs.declared.syntax.Return.{Return}
use Rattle.c_tree.specs.declared.syntax.Parameter.{Parameter}
use Rattle.c_tree.specs.declared.syntax.TypeWords.{TypeWords}
use Rattle.c_tree.specs.declared.syntax.Statement.{Statement}
use Rattle.c_tree.specs.declared.syntax.External.{External}
use Rattle.c_grammar.specs.declared.sign.Sign.{Sign}
use Rattle.c_grammar.specs.declared.sign.Sign.TheVariants as sign
use Rattle.c_grammar.specs.Words.{Lexeme}
use Rattle.c_declarations.specs.declared.declarations.Opening.{Opening}
use Rattle.c_declarations.specs.declared.declarations.Opening.TheVariants as opening_
use Rattle.c_reading.specs.Parsers.{Parser, and_then, same, sign_at, eat, expect, name, name_if_any, more}
use Rattle.c_reading.specs.Trees.{begins_declaration}
use Rattle.c_reading.specs.Expressions.{expr, assign, conditional, type_words, read}
use Rattle.c_declarations.specs.Declarations.{given_size, size, value_end, next_value, listed, values, value_by, value, initialiser, object, next_object, next_item, items, objects, parameter, next_parameter, parameter_list, parameters_by, parameters, heading, typed_opening, opening_by, opening, declared, declaration}
use Rattle.c_reading.proofs.Enough.{Sure, sure_more, sure_then, sure_choice, eat_sure, eaten_sure, expect_sure, name_sure, name_if_any_sure, more_sure, type_sure, read_sure}

module _ (T : ℕ → Bool) where
  -- ---- phrases of expressions, with calls enough for them

  pub expr_sure : (d n : ℕ) (ts : List Lexeme) → 8 * length ts + 6 ≤ d → Sure (length ts) (read T d expr n ts)
  expr_sure d n ts f = read_sure T d expr n ts f

  assign_sure : (d n : ℕ) (ts : List Lexeme) → 8 * length ts + 6 ≤ d → Sure (length ts) (read T d assign n ts)
  assign_sure d n ts f = read_sure T d assign n ts (omega (arith, f))

  pub closed_sure : {A : Type 0} (d n : ℕ) (s : Sign) (make : Expr → A) (ts : List Lexeme) → 8 * length ts + 6 ≤ d → Sure (length ts) (and_then (and_then (read T d conditional (suc n) ts) (λ x _ us. Ok (x, n, us))) (λ e m us. and_then (expect T s m us) (λ _ k vs. Ok (make e, k, vs))))
  closed_sure d n s make ts f = sure_then _ (length ts) (length ts) _ (sure_then _ (length ts) (length ts) (read T d conditional (suc n) ts) (read_sure T d conditional (suc n) ts (omega (arith, f))) (λ x m us lt. lt)) (λ e m us lt. sure_then _ (length us) (length ts) (expect T s m us) (expect_sure T s m us) (λ _ k vs less. omega (arith, lt, less)))

  given_size_sure : (d n : ℕ) (ts : List Lexeme) → 8 * length ts + 6 ≤ d → Sure (length ts) (given_size T (read T d) n ts)
  unfolding given_size
  given_size_sure d n ts f = sure_choice _ _ n ts _ (same (sign_at ts) sign.RightBracket) (eaten_sure T _ n ts) (closed_sure d n sign.RightBracket _ ts f)

  size_sure : (d n : ℕ) (ts : List Lexeme) → 8 * length ts ≤ d → Sure (suc (length ts)) (size T (read T d) n ts)
  unfolding size
  size_sure d n ts f = sure_choice _ _ n ts _ (same (sign_at ts) sign.LeftBracket) (sure_then _ (length ts) (suc (length ts)) (eat T n ts) (eat_sure T n ts) (λ _ m us lt. sure_more (length us) (suc (length ts)) _ (omega (arith, lt)) (given_size_sure d m us (omega (arith, f, lt))))) (omega arith)

  value_end_sure : (n : ℕ) (ts : List Lexeme) → Sure (length ts) (value_end T n ts)
  unfolding value_end
  value_end_sure n ts = sure_then _ (length ts) (length ts) (more T sign.RightBrace n ts) (more_sure T sign.RightBrace n ts) (λ b m us lt. sure_choice _ _ m us _ b (sure_choice _ _ m us _ (same (sign_at us) sign.RightBrace) (sure_more (length us) (length ts) _ (omega (arith, lt)) (eaten_sure T _ m us)) lt) lt)

  next_value_sure : (d n : ℕ) (ts : List Lexeme) → 8 * length ts + 6 ≤ d → Sure (length ts) (next_value T d n ts)
  unfolding next_value
  next_value_sure d n ts f = sure_then _ (length ts) (length ts) (read T d assign n ts) (assign_sure d n ts f) (λ x m us lt. sure_then _ (length us) (length ts) (value_end T m us) (value_end_sure m us) (λ e k vs less. omega (arith, lt, less)))

  listed_sure : (end : Option Bool) (at : At) (xs : List Expr) (p : Parser Initialiser) (b m : ℕ) (us : List Lexeme) → length us < b → Sure b (p m us) → Sure b (listed T at xs p end m us)
  listed_sure None at xs p b m us lt h = h
  listed_sure (Some comma) at xs p b m us lt h = lt

  values_sure : (d : ℕ) (at : At) (es : List Expr) (n : ℕ) (ts : List Lexeme) → 8 * length ts + 7 ≤ d → Sure (length ts) (values T d at es n ts)
  unfolding values
  values_sure zero at es n ts f = absurd (omega (arith, f))
  values_sure (suc d) at es n ts f = sure_then _ (length ts) (length ts) (next_value T d n ts) (next_value_sure d n ts (omega (arith, f))) (λ x m us lt. listed_sure x.1 at (es ++ x.0 ∷ []) (values T d at (es ++ x.0 ∷ [])) (length ts) m us lt (sure_more (length us) (length ts) _ (omega (arith, lt)) (values_sure d at (es ++ x.0 ∷ []) m us (omega (arith, f, lt)))))

  value_by_sure : (d : ℕ) (at : At) (s : Sign) (n : ℕ) (ts : List Lexeme) → 8 * length ts + 6 ≤ d → Sure (length ts) (value_by T d at s n ts)
  value_by_sure d at sign.LeftBrace n ts f = sure_then _ (length ts) (length ts) (eat T n ts) (eat_sure T n ts) (λ _ m us lt. sure_more (length us) (length ts) _ (omega (arith, lt)) (values_sure d at [] m us (omega (arith, f, lt))))
  value_by_sure d at _ n ts f = sure_then _ (length ts) (length ts) (read T d assign n ts) (assign_sure d n ts f) (λ e m us lt. lt)

  initialiser_sure : (d n : ℕ) (ts : List Lexeme) → 8 * length ts ≤ d → Sure (suc (length ts)) (initialiser T d n ts)
  unfolding initialiser value
  initialiser_sure d n ts f = sure_choice _ _ n ts _ (same (sign_at ts) sign.Assign) (sure_then _ (length ts) (suc (length ts)) (eat T n ts) (eat_sure T n ts) (λ _ m us lt. sure_more (length us) (suc (length ts)) _ (omega (arith, lt)) (value_by_sure d _ (sign_at us) m us (omega (arith, f, lt))))) (omega arith)

  object_sure : (d : ℕ) (b : Identifier) (n : ℕ) (ts : List Lexeme) → 8 * length ts ≤ d → Sure (suc (length ts)) (object T d b n ts)
  unfolding object
  object_sure d b n ts f = sure_then _ (suc (length ts)) (suc (length ts)) (size T (read T d) n ts) (size_sure d n ts f) (λ z m us lt. sure_then _ (suc (length us)) (suc (length ts)) (initialiser T d m us) (initialiser_sure d m us (omega (arith, f, lt))) (λ i k vs less. omega (arith, lt, less)))

  next_object_sure : (d : ℕ) (b : Identifier) (n : ℕ) (ts : List Lexeme) → 8 * length ts ≤ d → Sure (length ts) (next_object T d b n ts)
  unfolding next_object
  next_object_sure d b n ts f = sure_then _ (suc (length ts)) (length ts) (object T d b n ts) (object_sure d b n ts f) (λ i m us lt. sure_then _ (length us) (length ts) (more T sign.Semicolon m us) (more_sure T sign.Semicolon m us) (λ c k vs less. omega (arith, lt, less)))

  next_item_sure : (d n : ℕ) (ts : List Lexeme) → 8 * length ts ≤ d → Sure (length ts) (next_item T d n ts)
  unfolding next_item
  next_item_sure d n ts f = sure_then _ (length ts) (length ts) (name T n ts) (name_sure T n ts) (λ b m us lt. sure_more (length us) (length ts) _ (omega (arith, lt)) (next_object_sure d b m us (omega (arith, f, lt))))

  items_sure : (d : ℕ) (is : List Item) (n : ℕ) (ts : List Lexeme) → 8 * length ts + 1 ≤ d → Sure (length ts) (items T d is n ts)
  unfolding items
  items_sure zero is n ts f = absurd (omega (arith, f))
  items_sure (suc d) is n ts f = sure_then _ (length ts) (length ts) (next_item T d n ts) (next_item_sure d n ts (omega (arith, f))) (λ x m us lt. sure_choice _ _ m us _ x.1 (sure_more (length us) (length ts) _ (omega (arith, lt)) (items_sure d _ m us (omega (arith, f, lt)))) lt)

  objects_sure : (d : ℕ) (b : Identifier) (n : ℕ) (ts : List Lexeme) → 8 * length ts ≤ d → Sure (length ts) (objects T d b n ts)
  unfolding objects
  objects_sure d b n ts f = sure_then _ (length ts) (length ts) (next_object T d b n ts) (next_object_sure d b n ts f) (λ x m us lt. sure_choice _ _ m us _ x.1 (sure_more (length us) (length ts) _ (omega (arith, lt)) (items_sure d _ m us (omega (arith, f, lt)))) lt)

  next_parameter_sure : (n : ℕ) (ts : List Lexeme) → Sure (length ts) (next_parameter T n ts)
  unfolding next_parameter parameter
  next_parameter_sure n ts = sure_then _ (length ts) (length ts) _ (sure_then _ (length ts) (length ts) (type_words T n ts) (type_sure T n ts) (λ w m us lt. sure_then _ (suc (length us)) (length ts) (name_if_any T m us) (name_if_any_sure T m us) (λ b k vs less. omega (arith, lt, less)))) (λ p m us lt. sure_then _ (length us) (length ts) (more T sign.RightParen m us) (more_sure T sign.RightParen m us) (λ c k vs less. omega (arith, lt, less)))

  parameter_list_sure : (d : ℕ) (ps : List Parameter) (n : ℕ) (ts : List Lexeme) → 8 * length ts + 1 ≤ d → Sure (length ts) (parameter_list T d ps n ts)
  unfolding parameter_list
  parameter_list_sure zero ps n ts f = absurd (omega (arith, f))
  parameter_list_sure (suc d) ps n ts f = sure_then _ (length ts) (length ts) (next_parameter T n ts) (next_parameter_sure n ts) (λ x m us lt. sure_choice _ _ m us _ x.1 (sure_more (length us) (length ts) _ (omega (arith, lt)) (parameter_list_sure d _ m us (omega (arith, f, lt)))) lt)

  parameters_by_sure : (d : ℕ) (s : Sign) (n : ℕ) (ts : List Lexeme) → 8 * length ts + 1 ≤ d → Sure (length ts) (parameters_by T d s n ts)
  parameters_by_sure d sign.RightParen n ts f = eaten_sure T _ n ts
  parameters_by_sure d sign.Void n ts f = sure_then _ (length ts) (length ts) (eat T n ts) (eat_sure T n ts) (λ _ m us lt. sure_then _ (length us) (length ts) (expect T sign.RightParen m us) (expect_sure T sign.RightParen m us) (λ _ k vs less. omega (arith, lt, less)))
  parameters_by_sure d _ n ts f = parameter_list_sure d [] n ts f

  heading_sure : (d : ℕ) (at : At) (r : Return) (b : Identifier) (n : ℕ) (ts : List Lexeme) → 8 * length ts ≤ d → Sure (length ts) (heading T d at r b n ts)
  unfolding heading parameters
  heading_sure d at r b n ts f = sure_then _ (length ts) (length ts) (expect T sign.LeftParen n ts) (expect_sure T sign.LeftParen n ts) (λ _ m us lt. sure_then _ (length us) (length ts) (parameters_by T d (sign_at us) m us) (parameters_by_sure d (sign_at us) m us (omega (arith, f, lt))) (λ ps k vs less. omega (arith, lt, less)))

  typed_opening_sure : (d : ℕ) (at : At) (w : TypeWords) (n : ℕ) (ts : List Lexeme) → 8 * length ts ≤ d → Sure (length ts) (typed_opening T d at w n ts)
  unfolding typed_opening
  typed_opening_sure d at w n ts f = sure_then _ (length ts) (length ts) (name T n ts) (name_sure T n ts) (λ b m us lt. sure_choice _ _ m us _ (same (sign_at us) sign.LeftParen) (sure_more (length us) (length ts) _ (omega (arith, lt)) (heading_sure d at _ b m us (omega (arith, f, lt)))) (sure_then _ (length us) (length ts) (objects T d b m us) (objects_sure d b m us (omega (arith, f, lt))) (λ is k vs less. omega (arith, lt, less))))

  opening_by_sure : (d : ℕ) (at : At) (s : Sign) (n : ℕ) (ts : List Lexeme) → 8 * length ts ≤ d → Sure (length ts) (opening_by T d at s n ts)
  opening_by_sure d at sign.Void n ts f = sure_then _ (length ts) (length ts) (eat T n ts) (eat_sure T n ts) (λ _ m us lt. sure_then _ (length us) (length ts) (name T m us) (name_sure T m us) (λ b k vs less. sure_more (length vs) (length ts) _ (omega (arith, lt, less)) (heading_sure d at _ b k vs (omega (arith, f, lt, less)))))
  opening_by_sure d at _ n ts f = sure_then _ (length ts) (length ts) (type_words T n ts) (type_sure T n ts) (λ w m us lt. sure_more (length us) (length ts) _ (omega (arith, lt)) (typed_opening_sure d at w m us (omega (arith, f, lt))))

  pub opening_sure : (d n : ℕ) (ts : List Lexeme) → 8 * length ts ≤ d → Sure (length ts) (opening T d n ts)
  unfolding opening
  opening_sure d n ts f = opening_by_sure d _ (sign_at ts) n ts f

  pub declaration_sure : (d n : ℕ) (ts : List Lexeme) → 8 * length ts ≤ d → Sure (length ts) (declaration T d n ts)
  unfolding declaration
  declaration_sure d n ts f = sure_then _ (length ts) (length ts) (opening T d n ts) (opening_sure d n ts f) go
    where
      go : (o : Opening) (m : ℕ) (us : List Lexeme) → length us < length ts → Sure (length ts) (declared T o m us)
      go (opening_.Objects x) m us lt = lt
      go (opening_.Function at r b ps) m us lt = sure_then _ (length us) (length ts) (expect T sign.Semicolon m us) (expect_sure T sign.Semicolon m us) (λ _ k vs less. omega (arith, lt, less))
