-- Eight calls a word, and sixteen, are enough: the bound never runs out.
use Rattle.std.proofs.Common.{ℕ, zero, suc, ◌+◌, ◌*◌, ◌<◌, ◌≤◌, Bool, true, false, List, [], ◌∷◌, length, Option, Some, None, Ok, Err, arith}
use Rattle.std.specs.Prelude.{nat_lt, if◌then◌else◌}
use Rattle.c_tree.specs.declared.token.At.{At}
use Rattle.c_tree.specs.declared.syntax.Expr.{Expr}
use Rattle.c_tree.specs.declared.syntax.BinaryOperator.{BinaryOperator}
use Rattle.c_tree.specs.declared.syntax.AssignOperator.{AssignOperator}
use Rattle.c_tree.specs.declared.syntax.StepOperator.{StepOperator}
use Rattle.c_tree.specs.declared.syntax.TypeWords.{TypeWords}
use Rattle.c_grammar.specs.declared.sign.Sign.{Sign}
use Rattle.c_grammar.specs.declared.sign.Sign.TheVariants as sign
use Rattle.c_grammar.specs.Words.{Word, a_name, a_number, a_character, a_sign, Lexeme}
use Rattle.c_grammar.specs.Operators.{precedence}
use Rattle.c_reading.specs.Parsers.{Read, Parser, Wrong, Deep, Out, and_then, same, sign_at, word_at, place_at, eat, counted, expect, name, name_by, name_if_any, name_if_any_by, more}
use Rattle.c_reading.specs.Trees.{is_unary, binary_of, assign_of, type_of, joined}
use Rattle.c_reading.specs.Expressions.{Goal, Reader, expr, assign, conditional, cast, unary, binary, after_comma, after_postfix, after_operand, in_call, second_word, first_word, type_words, parenthesis, called, called_by, named, named_by, primary, primary_by, stepped, signed, unary_by, cast_or_parenthesis, cast_or_parenthesis_by, cast_by, operated, branches, conditional_by, assigned, after_left, comma_by, stepped_behind, postfix_by, step, read}

-- the bound didn't run out, and where something was read, fewer words than these are left
abbrev pub Sure : {A : Type 0} → ℕ → Read A → Type 0
Sure b (Ok x) = length x.2 < b
Sure b (Err (Wrong n)) = Unit {0}
Sure b (Err (Deep n)) = Unit {0}
Sure b (Err Out) = ⊥

pub sure_more : {A : Type 0} (b c : ℕ) (r : Read A) → b ≤ c → Sure b r → Sure c r
sure_more b c (Ok x) le h = omega (arith, le, h)
sure_more b c (Err (Wrong n)) le h = tt
sure_more b c (Err (Deep n)) le h = tt
sure_more b c (Err Out) le h = absurd h

pub sure_then : {A B : Type 0} (f : A → Parser B) (b c : ℕ) (r : Read A) → Sure b r → ((x : A) (n : ℕ) (us : List Lexeme) → length us < b → Sure c (f x n us)) → Sure c (and_then r f)
sure_then f b c (Ok x) h each = each x.0 x.1 x.2 h
sure_then f b c (Err (Wrong n)) h each = tt
sure_then f b c (Err (Deep n)) h each = tt
sure_then f b c (Err Out) h each = absurd h

abbrev pub sure_if : {A : Type 0} (p q : Read A) (c : ℕ) (b : Bool) → Sure c p → Sure c q → Sure c (if b then p else q)
sure_if p q c true h k = h
sure_if p q c false h k = k

abbrev pub sure_choice : {A : Type 0} (p q : Parser A) (n : ℕ) (ts : List Lexeme) (c : ℕ) (b : Bool) → Sure c (p n ts) → Sure c (q n ts) → Sure c ((if b then p else q) n ts)
sure_choice p q n ts c true h k = h
sure_choice p q n ts c false h k = k

abbrev rank : Goal → ℕ
rank expr = 6
rank assign = 5
rank conditional = 4
rank (binary k) = 3
rank cast = 2
rank unary = 1
rank (after_comma e) = 1
rank (after_postfix e) = 1
rank (after_operand k e) = 1
rank (in_call at n es) = 6

-- what goes on from an expression may take no word
abbrev room : Goal → ℕ → ℕ
room (after_comma e) l = suc l
room (after_postfix e) l = suc l
room (after_operand k e) l = suc l
room _ l = l

module _ (T : ℕ → Bool) where
  pub eat_sure : (n : ℕ) (ts : List Lexeme) → Sure (length ts) (eat T n ts)
  unfolding eat
  eat_sure n [] = tt
  eat_sure n (x ∷ xs) = sure_if _ _ _ (T n) (omega arith) tt

  pub counted_sure : (n : ℕ) (ts : List Lexeme) → Sure (length ts) (counted T n ts)
  counted_sure n ts = sure_then _ (length ts) (length ts) (eat T n ts) (eat_sure n ts) (λ _ m us lt. lt)

  pub expect_sure : (s : Sign) (n : ℕ) (ts : List Lexeme) → Sure (length ts) (expect T s n ts)
  unfolding expect
  expect_sure s n ts = sure_choice _ _ n ts _ (same (sign_at ts) s) (eat_sure n ts) tt

  -- takes a word, and gives something
  pub eaten_sure : {A : Type 0} (a : A) (n : ℕ) (ts : List Lexeme) → Sure (length ts) (and_then (eat T n ts) (λ _ m us. Ok (a, m, us)))
  eaten_sure a n ts = sure_then _ (length ts) (length ts) (eat T n ts) (eat_sure n ts) (λ _ m us lt. lt)

  pub name_sure : (n : ℕ) (ts : List Lexeme) → Sure (length ts) (name T n ts)
  unfolding name
  name_sure n ts = go (place_at ts) (word_at ts)
    where
      go : (at : At) (w : Word) → Sure (length ts) (name_by T at w n ts)
      go at (a_name b) = eaten_sure _ n ts
      go at (a_number v d u) = tt
      go at (a_character c) = tt
      go at (a_sign s) = tt

  pub name_if_any_sure : (n : ℕ) (ts : List Lexeme) → Sure (suc (length ts)) (name_if_any T n ts)
  unfolding name_if_any
  name_if_any_sure n ts = go (place_at ts) (word_at ts)
    where
      go : (at : At) (w : Word) → Sure (suc (length ts)) (name_if_any_by T at w n ts)
      go at (a_name b) = sure_more (length ts) (suc (length ts)) _ (omega arith) (eaten_sure _ n ts)
      go at (a_number v d u) = omega arith
      go at (a_character c) = omega arith
      go at (a_sign s) = omega arith

  pub more_sure : (s : Sign) (n : ℕ) (ts : List Lexeme) → Sure (length ts) (more T s n ts)
  unfolding more
  more_sure s n ts = sure_choice _ _ n ts _ (same (sign_at ts) sign.Comma) (eaten_sure true n ts) (sure_choice _ _ n ts _ (same (sign_at ts) s) (eaten_sure false n ts) tt)

  second_sure : (w : TypeWords) (v : Option TypeWords) (n : ℕ) (ts : List Lexeme) → Sure (suc (length ts)) (second_word T w v n ts)
  second_sure w None n ts = omega arith
  second_sure w (Some v) n ts = sure_more (length ts) (suc (length ts)) _ (omega arith) (eaten_sure v n ts)

  first_sure : (w : Option TypeWords) (n : ℕ) (ts : List Lexeme) → Sure (length ts) (first_word T w n ts)
  first_sure None n ts = tt
  first_sure (Some w) n ts = sure_then _ (length ts) (length ts) (eat T n ts) (eat_sure n ts) (λ _ m us lt. sure_more (suc (length us)) (length ts) _ lt (second_sure w (joined w (sign_at us)) m us))

  pub type_sure : (n : ℕ) (ts : List Lexeme) → Sure (length ts) (type_words T n ts)
  unfolding type_words
  type_sure n ts = first_sure (type_of (sign_at ts)) n ts

  module _ (R : Reader) (d : ℕ) (h : (g : Goal) (n : ℕ) (ts : List Lexeme) → 8 * length ts + rank g ≤ d → Sure (room g (length ts)) (R g n ts)) where
    -- the last call goes on from an expression
    last : (b : ℕ) (g : Goal) (n : ℕ) (us : List Lexeme) → rank g ≤ 6 → room g (length us) ≤ b → 8 * length us + 6 ≤ d → Sure b (R g n us)
    last b g n us small le lt = sure_more (room g (length us)) b (R g n us) le (h g n us (omega (arith, small, lt)))

    parenthesis_sure : (at : At) (n : ℕ) (ts : List Lexeme) → 8 * length ts + 6 ≤ d → Sure (length ts) (parenthesis T R at n ts)
    unfolding parenthesis
    parenthesis_sure at n ts f = sure_then _ (length ts) (length ts) (R expr n ts) (h expr n ts f) (λ e m us lt. sure_then _ (length us) (length ts) (expect T sign.RightParen m us) (expect_sure sign.RightParen m us) (λ _ k vs less. last (length ts) (after_postfix _) k vs (omega arith) (omega (arith, lt, less)) (omega (arith, f, lt, less))))

    called_by_sure : (at : At) (b : List ℕ) (s : Sign) (n : ℕ) (ts : List Lexeme) → 8 * length ts + 6 ≤ d → Sure (length ts) (called_by T R at b s n ts)
    called_by_sure at b sign.RightParen n ts f = eaten_sure _ n ts
    called_by_sure at b _ n ts f = h (in_call at b []) n ts f

    called_sure : (at : At) (b : List ℕ) (n : ℕ) (ts : List Lexeme) → 8 * length ts + 6 ≤ d → Sure (length ts) (called T R at b n ts)
    unfolding called
    called_sure at b n ts f = called_by_sure at b (sign_at ts) n ts f

    -- behind a name, which was taken
    named_by_sure : (at : At) (b : List ℕ) (s : Sign) (n : ℕ) (ts : List Lexeme) → 8 * length ts + 6 ≤ d → Sure (suc (length ts)) (named_by T R at b s n ts)
    named_by_sure at b sign.LeftBracket n ts f = sure_then _ (length ts) (suc (length ts)) (eat T n ts) (eat_sure n ts) (λ _ m us lt. sure_then _ (length us) (suc (length ts)) (R expr m us) (h expr m us (omega (arith, f, lt))) (λ e k vs less. sure_then _ (length vs) (suc (length ts)) (expect T sign.RightBracket k vs) (expect_sure sign.RightBracket k vs) (λ _ j ws least. last (suc (length ts)) (after_postfix _) j ws (omega arith) (omega (arith, lt, less, least)) (omega (arith, f, lt, less, least)))))
    named_by_sure at b sign.LeftParen n ts f = sure_then _ (length ts) (suc (length ts)) (eat T n ts) (eat_sure n ts) (λ _ m us lt. sure_then _ (length us) (suc (length ts)) (called T R at b m us) (called_sure at b m us (omega (arith, f, lt))) (λ e k vs less. last (suc (length ts)) (after_postfix e) k vs (omega arith) (omega (arith, lt, less)) (omega (arith, f, lt, less))))
    named_by_sure at b _ n ts f = last (suc (length ts)) (after_postfix _) n ts (omega arith) (omega arith) f

    named_sure : (at : At) (b : List ℕ) (n : ℕ) (ts : List Lexeme) → 8 * length ts + 6 ≤ d → Sure (suc (length ts)) (named T R at b n ts)
    unfolding named
    named_sure at b n ts f = named_by_sure at b (sign_at ts) n ts f

    primary_by_sure : (at : At) (w : Word) (n : ℕ) (ts : List Lexeme) → 8 * length ts ≤ d → Sure (length ts) (primary_by T R at w n ts)
    primary_by_sure at (a_name b) n ts f = sure_then _ (length ts) (length ts) (eat T n ts) (eat_sure n ts) (λ _ m us lt. sure_more (suc (length us)) (length ts) _ lt (named_sure at b m us (omega (arith, f, lt))))
    primary_by_sure at (a_number v c u) n ts f = sure_then _ (length ts) (length ts) (eat T n ts) (eat_sure n ts) (λ _ m us lt. last (length ts) (after_postfix _) m us (omega arith) (omega (arith, lt)) (omega (arith, f, lt)))
    primary_by_sure at (a_character v) n ts f = sure_then _ (length ts) (length ts) (eat T n ts) (eat_sure n ts) (λ _ m us lt. last (length ts) (after_postfix _) m us (omega arith) (omega (arith, lt)) (omega (arith, f, lt)))
    primary_by_sure at (a_sign s) n ts f = tt

    primary_sure : (at : At) (n : ℕ) (ts : List Lexeme) → 8 * length ts ≤ d → Sure (length ts) (primary T R at n ts)
    unfolding primary
    primary_sure at n ts f = primary_by_sure at (word_at ts) n ts f

    -- a counted word, and a phrase behind it
    prefix_sure : {A : Type 0} (g : Goal) (make : Expr → A) (n : ℕ) (ts : List Lexeme) → rank g ≤ 6 → room g (length ts) ≤ length ts → 8 * length ts ≤ d → Sure (length ts) (and_then (counted T n ts) (λ _ m us. and_then (R g m us) (λ e k vs. Ok (make e, k, vs))))
    prefix_sure g make n ts small strict f = sure_then _ (length ts) (length ts) (counted T n ts) (counted_sure n ts) (λ _ m us lt. sure_then _ (suc (length us)) (length ts) (R g m us) (last (suc (length us)) g m us small (loose g (length us)) (omega (arith, f, lt))) (λ e k vs less. omega (arith, lt, less)))
      where
        loose : (g : Goal) (l : ℕ) → room g l ≤ suc l
        loose (after_comma e) l = omega arith
        loose (after_postfix e) l = omega arith
        loose (after_operand k e) l = omega arith
        loose _ l = omega arith

    unary_by_sure : (at : At) (s : Sign) (n : ℕ) (ts : List Lexeme) → 8 * length ts ≤ d → Sure (length ts) (unary_by T R at s n ts)
    unfolding stepped signed
    unary_by_sure at sign.Increment n ts f = prefix_sure unary _ n ts (omega arith) (omega arith) f
    unary_by_sure at sign.Decrement n ts f = prefix_sure unary _ n ts (omega arith) (omega arith) f
    unary_by_sure at sign.Plus n ts f = prefix_sure cast _ n ts (omega arith) (omega arith) f
    unary_by_sure at sign.Minus n ts f = prefix_sure cast _ n ts (omega arith) (omega arith) f
    unary_by_sure at sign.Tilde n ts f = prefix_sure cast _ n ts (omega arith) (omega arith) f
    unary_by_sure at sign.Exclamation n ts f = prefix_sure cast _ n ts (omega arith) (omega arith) f
    unary_by_sure at sign.LeftParen n ts f = sure_then _ (length ts) (length ts) (eat T n ts) (eat_sure n ts) (λ _ m us lt. sure_more (length us) (length ts) _ (omega (arith, lt)) (parenthesis_sure at m us (omega (arith, f, lt))))
    unary_by_sure at _ n ts f = primary_sure at n ts f

    cast_or_by_sure : (at : At) (w : Option TypeWords) (n : ℕ) (ts : List Lexeme) → 8 * length ts + 6 ≤ d → Sure (length ts) (cast_or_parenthesis_by T R at w n ts)
    cast_or_by_sure at None n ts f = parenthesis_sure at n ts f
    cast_or_by_sure at (Some w) n ts f = sure_then _ (length ts) (length ts) (type_words T n ts) (type_sure n ts) (λ v m us lt. sure_then _ (length us) (length ts) (expect T sign.RightParen m us) (expect_sure sign.RightParen m us) (λ _ k vs less. sure_then _ (length vs) (length ts) (R cast (suc k) vs) (h cast (suc k) vs (omega (arith, f, lt, less))) (λ e j ws least. omega (arith, lt, less, least))))

    cast_by_sure : (at : At) (s : Sign) (n : ℕ) (ts : List Lexeme) → 8 * length ts + 1 ≤ d → Sure (length ts) (cast_by T R at s n ts)
    unfolding cast_or_parenthesis
    cast_by_sure at sign.LeftParen n ts f = sure_then _ (length ts) (length ts) (eat T n ts) (eat_sure n ts) (λ _ m us lt. sure_more (length us) (length ts) _ (omega (arith, lt)) (cast_or_by_sure at (type_of (sign_at us)) m us (omega (arith, f, lt))))
    cast_by_sure at _ n ts f = h unary n ts f

    operated_sure : (k : ℕ) (e : Expr) (o : Option BinaryOperator) (n : ℕ) (ts : List Lexeme) → 8 * length ts ≤ d → Sure (suc (length ts)) (operated T R k e o n ts)
    operated_sure k e None n ts f = omega arith
    operated_sure k e (Some o) n ts f = sure_choice _ _ n ts _ (nat_lt (precedence o) k) (omega arith) (sure_then _ (length ts) (suc (length ts)) (counted T n ts) (counted_sure n ts) (λ _ m us lt. sure_then _ (length us) (suc (length ts)) (R (binary (suc (precedence o))) m us) (h (binary (suc (precedence o))) m us (omega (arith, f, lt))) (λ x j vs less. last (suc (length ts)) (after_operand k _) j vs (omega arith) (omega (arith, lt, less)) (omega (arith, f, lt, less)))))

    branches_sure : (n : ℕ) (ts : List Lexeme) → 8 * length ts + 6 ≤ d → Sure (length ts) (branches T R n ts)
    unfolding branches
    branches_sure n ts f = sure_then _ (length ts) (length ts) (R expr n ts) (h expr n ts f) (λ a m us lt. sure_then _ (length us) (length ts) (expect T sign.Colon m us) (expect_sure sign.Colon m us) (λ _ k vs less. sure_then _ (length vs) (length ts) (R conditional k vs) (h conditional k vs (omega (arith, f, lt, less))) (λ b j ws least. omega (arith, lt, less, least))))

    conditional_by_sure : (e : Expr) (s : Sign) (n : ℕ) (ts : List Lexeme) → 8 * length ts ≤ d → Sure (suc (length ts)) (conditional_by T R e s n ts)
    conditional_by_sure e sign.Question n ts f = sure_then _ (length ts) (suc (length ts)) (counted T n ts) (counted_sure n ts) (λ _ m us lt. sure_then _ (length us) (suc (length ts)) (branches T R m us) (branches_sure m us (omega (arith, f, lt))) (λ both k vs less. omega (arith, lt, less)))
    conditional_by_sure e _ n ts f = omega arith

    assigned_sure : (e : Expr) (o : Option AssignOperator) (n : ℕ) (ts : List Lexeme) → 8 * length ts ≤ d → Sure (suc (length ts)) (assigned T R e o n ts)
    assigned_sure e None n ts f = omega arith
    assigned_sure e (Some o) n ts f = sure_choice _ _ n ts _ (is_unary e) (sure_more (length ts) (suc (length ts)) _ (omega arith) (prefix_sure assign _ n ts (omega arith) (omega arith) f)) (omega arith)

    after_left_sure : (e : Expr) (n : ℕ) (ts : List Lexeme) → 8 * length ts ≤ d → Sure (suc (length ts)) (after_left T R e n ts)
    unfolding after_left
    after_left_sure e n ts f = assigned_sure e (assign_of (sign_at ts)) n ts f

    comma_by_sure : (e : Expr) (s : Sign) (n : ℕ) (ts : List Lexeme) → 8 * length ts ≤ d → Sure (suc (length ts)) (comma_by T R e s n ts)
    comma_by_sure e sign.Comma n ts f = sure_then _ (length ts) (suc (length ts)) (counted T n ts) (counted_sure n ts) (λ _ m us lt. sure_then _ (length us) (suc (length ts)) (R assign m us) (h assign m us (omega (arith, f, lt))) (λ x j vs less. last (suc (length ts)) (after_comma _) j vs (omega arith) (omega (arith, lt, less)) (omega (arith, f, lt, less))))
    comma_by_sure e _ n ts f = omega arith

    stepped_behind_sure : (e : Expr) (o : StepOperator) (n : ℕ) (ts : List Lexeme) → 8 * length ts ≤ d → Sure (suc (length ts)) (stepped_behind T R e o n ts)
    unfolding stepped_behind
    stepped_behind_sure e o n ts f = sure_then _ (length ts) (suc (length ts)) (counted T n ts) (counted_sure n ts) (λ _ m us lt. last (suc (length ts)) (after_postfix _) m us (omega arith) (omega (arith, lt)) (omega (arith, f, lt)))

    postfix_by_sure : (e : Expr) (s : Sign) (n : ℕ) (ts : List Lexeme) → 8 * length ts ≤ d → Sure (suc (length ts)) (postfix_by T R e s n ts)
    postfix_by_sure e sign.Increment n ts f = stepped_behind_sure e _ n ts f
    postfix_by_sure e sign.Decrement n ts f = stepped_behind_sure e _ n ts f
    postfix_by_sure e _ n ts f = omega arith

    step_sure : (g : Goal) (n : ℕ) (ts : List Lexeme) → 8 * length ts + rank g ≤ suc d → Sure (room g (length ts)) (step T R g n ts)
    step_sure expr n ts f = sure_then _ (length ts) (length ts) (R assign n ts) (h assign n ts (omega (arith, f))) (λ x m us lt. last (length ts) (after_comma x) m us (omega arith) (omega (arith, lt)) (omega (arith, f, lt)))
    step_sure assign n ts f = sure_then _ (length ts) (length ts) _ (sure_then _ (length ts) (length ts) (R conditional (suc n) ts) (h conditional (suc n) ts (omega (arith, f))) (λ x m us lt. sure_more (suc (length us)) (length ts) _ lt (after_left_sure x m us (omega (arith, f, lt))))) (λ x m us lt. lt)
    step_sure conditional n ts f = sure_then _ (length ts) (length ts) (R (binary 3) n ts) (h (binary 3) n ts (omega (arith, f))) (λ e m us lt. sure_more (suc (length us)) (length ts) _ lt (conditional_by_sure e (sign_at us) m us (omega (arith, f, lt))))
    step_sure cast n ts f = cast_by_sure _ (sign_at ts) n ts (omega (arith, f))
    step_sure unary n ts f = unary_by_sure _ (sign_at ts) n ts (omega (arith, f))
    step_sure (binary k) n ts f = sure_then _ (length ts) (length ts) (R cast n ts) (h cast n ts (omega (arith, f))) (λ x m us lt. last (length ts) (after_operand k x) m us (omega arith) (omega (arith, lt)) (omega (arith, f, lt)))
    step_sure (after_comma e) n ts f = comma_by_sure e (sign_at ts) n ts (omega (arith, f))
    step_sure (after_postfix e) n ts f = postfix_by_sure e (sign_at ts) n ts (omega (arith, f))
    step_sure (after_operand k e) n ts f = operated_sure k e (binary_of (sign_at ts)) n ts (omega (arith, f))
    step_sure (in_call at b es) n ts f = sure_then _ (length ts) (length ts) (R assign n ts) (h assign n ts (omega (arith, f))) (λ x m us lt. sure_then _ (length us) (length ts) (more T sign.RightParen m us) (more_sure sign.RightParen m us) (λ goes_on k vs less. sure_choice _ _ k vs _ goes_on (last (length ts) (in_call at b _) k vs (omega arith) (omega (arith, lt, less)) (omega (arith, f, lt, less))) (omega (arith, lt, less))))

  pub read_sure : (d : ℕ) (g : Goal) (n : ℕ) (ts : List Lexeme) → 8 * length ts + rank g ≤ d → Sure (room g (length ts)) (read T d g n ts)
  read_sure zero g n ts f = absurd (none g f)
    where
      none : (g : Goal) → 8 * length ts + rank g ≤ 0 → ⊥
      none expr f = omega (arith, f)
      none assign f = omega (arith, f)
      none conditional f = omega (arith, f)
      none cast f = omega (arith, f)
      none unary f = omega (arith, f)
      none (binary k) f = omega (arith, f)
      none (after_comma e) f = omega (arith, f)
      none (after_postfix e) f = omega (arith, f)
      none (after_operand k e) f = omega (arith, f)
      none (in_call at n es) f = omega (arith, f)
  read_sure (suc d) g n ts f = step_sure (read T d) d (read_sure d) g n ts f
