-- A lowered program holds no operator that is lowered.
use Rattle.std.proofs.Common.{◌≡◌, ℕ, suc, List, [], ◌∷◌, ◌++◌, map, length, Option, Some, None, Bool, true, false, not, ◌&&◌, ◌||◌, if◌then◌else◌, refl, sym, ap, subst, ◌∙◌}
use denote.Hole.Carrier
use Rattle.c_tree.specs.declared.types.CType.{CType}
use Rattle.c_tree.specs.declared.types.CType.TheVariants as type
use Rattle.c_tree.specs.declared.syntax.Arithmetic.{Arithmetic}
use Rattle.c_tree.specs.declared.syntax.BinaryOperator.{BinaryOperator}
use Rattle.c_tree.specs.declared.typed.Head.{Head}
use Rattle.c_tree.specs.declared.typed.Callee.TheVariants as callee
use Rattle.c_tree.specs.declared.typed.Operation.{Operation}
use Rattle.c_tree.specs.declared.typed.Operation.TheVariants as operation
use Rattle.c_tree.specs.declared.typed.TypedExpr.{TypedExpr}
use Rattle.c_tree.specs.declared.typed.TypedExpr.TheVariants as tree
use Rattle.c_tree.specs.declared.typed.TypedExpr.TheOpen.{TypedExpr-F, Comma, Assign, Compound, Conditional, Binary, Unary, Before, After, Constant, Object, Element, Call, Convert}
use Rattle.c_tree.specs.declared.typed.TypedExpr.TheViews.{roll-TypedExpr}
use Rattle.c_tree.specs.declared.typed.TypedExpr.TheFolds.{fold-TypedExpr, fold-roll-TypedExpr, map-TypedExpr}
use Rattle.c_tree.specs.declared.typed.LocalInit.{LocalInit}
use Rattle.c_tree.specs.declared.typed.LocalInit.TheVariants as init
use Rattle.c_tree.specs.declared.typed.Local.{Local}
use Rattle.c_tree.specs.declared.typed.Start.{Start}
use Rattle.c_tree.specs.declared.typed.Start.TheVariants as start
use Rattle.c_tree.specs.declared.typed.Stat.{Stat}
use Rattle.c_tree.specs.declared.typed.Stat.TheVariants as stat
use Rattle.c_tree.specs.declared.typed.Stat.TheOpen as s
use Rattle.c_tree.specs.declared.typed.Stat.TheViews.{roll-Stat}
use Rattle.c_tree.specs.declared.typed.Stat.TheFolds.{fold-roll-Stat, map-Stat}
use Rattle.c_tree.specs.declared.typed.Function.{Function}
use Rattle.c_tree.proofs.TypedFolds.{Both, expr_relates, stat_relates}
use Rattle.c_meaning.specs.Operators.{Sort, computes, compares, logical, sort_of, computed_in}
use Rattle.c_helpers.specs.declared.operator.Operator.{Operator}
use Rattle.c_helpers.specs.Code.{Term, number, variable, combine, Basic, plus, minus, both, either, Test, is_set, at_least, above, Code, put, ◌then◌, when, while, Helper}
use Rattle.c_helpers.specs.Operators.{helper_of}
use Rattle.c_helper_trees.specs.Trees as trees
use Rattle.c_helper_trees.specs.Trees.{function_of}
use Rattle.c_helper_trees.proofs.Nodes.{constant_is, object_is, binary_is, assign_is, evaluate_is, block_is, declare_is, if_is, while_is, return_is}
use Rattle.c_lowering.specs.Lowering.{Operators, chosen, all_operators, helpers, helper_for, number_of, if_chosen, wanted, wanted_by, binary_by, operation_by, operation_of, Lowered, lower_node, tree_in, lower_expr, lower_option, lower_init, lower_local, lower_start, lower_statement, lower_stat, lower_function}
use Rattle.c_lowering.specs.Holding.{Held, is_held, held_by, held_operation, all_held, node_held, expression_held, holds, option_holds, list_holds, init_holds, locals_hold, start_holds, all, or_true, statement_held, body_holds, functions_hold}
use Rattle.c_lowering.specs.Law.{NoneIsLeft}

pub both_hold : (a b : Bool) → a ≡ true → b ≡ true → (a && b) ≡ true
both_hold true b e f = f
both_hold false b e f = e

abbrev IsFalse : Bool → Type 0
IsFalse true = ⊥
IsFalse false = Unit {0}

abbrev IsTrue : Bool → Type 0
IsTrue true = Unit {0}
IsTrue false = ⊥

first_holds : (a b : Bool) → (a && b) ≡ true → a ≡ true
first_holds true b e = refl
first_holds false b e = e

second_holds : (a b : Bool) → (a && b) ≡ true → b ≡ true
second_holds true b e = e
second_holds false b e = absurd (subst IsFalse e tt)

-- where the first holds, the second does
abbrev Gives : Bool → Bool → Type 0
Gives a b = a ≡ true → b ≡ true

both_give : (a b c d : Bool) → Gives a c → Gives b d → Gives (a && b) (c && d)
both_give a b c d f g e = both_hold c d (f (first_holds a b e)) (g (second_holds a b e))

module _ (lacks p : Operators) (n : ℕ) where
  abbrev P : Operators
  P k = not (lacks k) || p k

  abbrev Q : Operators
  Q k = not (lacks k)

  not_chosen : (l b : Bool) → (not l || b) ≡ true → b ≡ false → not l ≡ true
  not_chosen l true e f = absurd (subst IsTrue f tt)
  not_chosen true false e f = e
  not_chosen false false e f = refl

  one_stays : (k : Operator) (b : Bool) → p k ≡ b → P k ≡ true → (if b then Some k else None) ≡ None → Q k ≡ true
  one_stays k true q e f = absurd (subst is_some f tt)
    where
      is_some : Option Operator → Type 0
      is_some (Some j) = Unit {0}
      is_some None = ⊥
  one_stays k false q e f = not_chosen (lacks k) (p k) e q

  -- an operator that isn't chosen is none that is lacked
  stays : (o : Option Operator) → is_held P o ≡ true → if_chosen p n o ≡ None → is_held Q o ≡ true
  stays None e f = refl
  stays (Some k) e f = one_stays k (p k) refl e f

  stays_by : (t : CType) (r : Sort) → held_by P t r ≡ true → wanted_by p n t r ≡ None → held_by Q t r ≡ true
  stays_by t (computes o) e f = stays (helper_for t o) e f
  stays_by t (compares r u) e f = refl
  stays_by t (logical b) e f = refl

  abbrev after_of : TypedExpr → Held
  after_of = fold-TypedExpr Held (expression_held Q)

  -- what is known of an expression and its lowered tree
  record Keeps (a : Held) (l : Lowered) : Type 0 where
    same : a.of ≡ l.of
    type : (after_of l.tree).of ≡ l.of
    held : Gives a.held (after_of l.tree).held

  abbrev B : Type 0
  B = Both Keeps

  rolled : (a : Held) (h : Head) (y : TypedExpr-F TypedExpr) → a.of ≡ h.of → (expression_held Q (map-TypedExpr TypedExpr Held after_of y)).of ≡ h.of
      → Gives a.held (node_held Q (map-TypedExpr TypedExpr Held after_of y)) → Keeps a (record { of = h.of; tree = roll-TypedExpr y })
  rolled a h y e f g =
      let q = fold-roll-TypedExpr Held (expression_held Q) y in
      record { same = e; type = ap (λ (x : Held). x.of) q ∙ f; held = λ b. ap (λ (x : Held). x.held) q ∙ g b }

  list_keeps : (es : List B) → Gives (all_held P (map (λ e. e.0) es)) (all_held Q (map after_of (map (tree_in p n) (map (λ e. e.1) es))))
  list_keeps [] e = refl
  list_keeps (x ∷ es) e = both_give _ _ _ _ x.2.held (list_keeps es) e

  two_keep : (a b : B) → Gives (a.0.held && b.0.held) ((after_of a.1.tree).held && (after_of b.1.tree).held)
  two_keep a b = both_give _ _ _ _ a.2.held b.2.held

  binary_keeps : (k : Option Operator) (h : Head) (a : B) (o : BinaryOperator) (b : B) → wanted_by p n a.1.of (sort_of o) ≡ k
      → Keeps (record { of = h.of; held = held_by P a.0.of (sort_of o) && (a.0.held && b.0.held) }) (record { of = h.of; tree = binary_by p n k h a.1.tree o b.1.tree })
  unfolding roll-TypedExpr denote.Hole.Carrier.roll
  binary_keeps None h a o b e =
      rolled _ h (Binary h a.1.tree o b.1.tree) refl refl
      (λ x. both_hold _ _
      (subst (λ t. held_by Q t (sort_of o) ≡ true) (sym a.2.type)
      (stays_by a.1.of (sort_of o) (subst (λ t. held_by P t (sort_of o) ≡ true) a.2.same (first_holds (held_by P a.0.of (sort_of o)) (a.0.held && b.0.held) x)) e))
      (two_keep a b (second_holds (held_by P a.0.of (sort_of o)) (a.0.held && b.0.held) x)))
  binary_keeps (Some k) h a o b e =
      rolled _ h (Call h (callee.Defined (number_of p n k)) (a.1.tree ∷ b.1.tree ∷ [])) refl refl
      (λ x. let y = second_holds (held_by P a.0.of (sort_of o)) (a.0.held && b.0.held) x in
      both_hold _ _ (a.2.held (first_holds a.0.held b.0.held y)) (both_hold _ _ (b.2.held (second_holds a.0.held b.0.held y)) refl))

  operation_keeps : (k : Option Operator) (o : Arithmetic) (t u t' u' : CType) → wanted p n (computed_in o t u) o ≡ k → computed_in o t' u' ≡ computed_in o t u
      → Gives (is_held P (helper_for (computed_in o t u) o)) (held_operation Q (operation_by p n k o) t' u')
  operation_keeps None o t u t' u' e f x = ap (λ c. is_held Q (helper_for c o)) f ∙ stays (helper_for (computed_in o t u) o) x e
  operation_keeps (Some k) o t u t' u' e f x = refl

  compound_keeps : (o : Operation) (t0 u0 t u t' u' : CType) → t0 ≡ t → u0 ≡ u → t' ≡ t → u' ≡ u
      → Gives (held_operation P o t0 u0) (held_operation Q (operation_of p n o t u) t' u')
  compound_keeps (operation.Operator o) t0 u0 t u t' u' a b c d x =
      operation_keeps (wanted p n (computed_in o t u) o) o t u t' u' refl (λ i. computed_in o (c i) (d i))
      (ap (λ z. is_held P (helper_for z o)) (λ i. computed_in o (sym a i) (sym b i)) ∙ x)
  compound_keeps (operation.Helper f) t0 u0 t u t' u' a b c d x = refl

  node_keeps : (y : TypedExpr-F B) → Keeps (expression_held P (map-TypedExpr B Held (λ e. e.0) y)) (lower_node p n (map-TypedExpr B Lowered (λ e. e.1) y))
  unfolding roll-TypedExpr denote.Hole.Carrier.roll
  node_keeps (Comma h a b) = rolled _ h (Comma h a.1.tree b.1.tree) refl refl (two_keep a b)
  node_keeps (Assign h a b) = rolled _ h (Assign h a.1.tree b.1.tree) refl refl (two_keep a b)
  node_keeps (Compound h a o b) =
      rolled _ h (Compound h a.1.tree (operation_of p n o a.1.of b.1.of) b.1.tree) refl refl
      (both_give _ _ _ _ (compound_keeps o a.0.of b.0.of a.1.of b.1.of _ _ a.2.same b.2.same a.2.type b.2.type) (two_keep a b))
  node_keeps (Conditional h a b c) = rolled _ h (Conditional h a.1.tree b.1.tree c.1.tree) refl refl (both_give _ _ _ _ a.2.held (two_keep b c))
  node_keeps (Binary h a o b) = binary_keeps (wanted_by p n a.1.of (sort_of o)) h a o b refl
  node_keeps (Unary h o a) = rolled _ h (Unary h o a.1.tree) refl refl a.2.held
  node_keeps (Before h o a) = rolled _ h (Before h o a.1.tree) refl refl a.2.held
  node_keeps (After h a o) = rolled _ h (After h a.1.tree o) refl refl a.2.held
  node_keeps (Constant h v) = rolled _ h (Constant h v) refl refl (λ e. refl)
  node_keeps (Object h x) = rolled _ h (Object h x) refl refl (λ e. refl)
  node_keeps (Element h x i) = rolled _ h (Element h x i.1.tree) refl refl i.2.held
  node_keeps (Call h f es) = rolled _ h (Call h f (map (tree_in p n) (map (λ e. e.1) es))) refl refl (list_keeps es)
  node_keeps (Convert h a) = rolled _ h (Convert h a.1.tree) refl refl a.2.held

  each : (e : TypedExpr) → Gives (holds P e) (holds Q (lower_expr p n e))
  each e = (expr_relates Held Lowered (expression_held P) (lower_node p n) Keeps node_keeps e).held

  -- ---- statements

  option_keeps : (e : Option TypedExpr) → Gives (option_holds P e) (option_holds Q (lower_option p n e))
  option_keeps None x = refl
  option_keeps (Some e) x = each e x

  exprs_keep : (es : List TypedExpr) → Gives (list_holds P es) (list_holds Q (map (lower_expr p n) es))
  exprs_keep [] x = refl
  exprs_keep (e ∷ es) x = both_give _ _ _ _ (each e) (exprs_keep es) x

  init_keeps : (i : LocalInit) → Gives (init_holds P i) (init_holds Q (lower_init p n i))
  init_keeps init.Absent x = refl
  init_keeps (init.Value e) x = each e x
  init_keeps (init.List es) x = exprs_keep es x

  locals_keep : (ls : List Local) → Gives (locals_hold P ls) (locals_hold Q (map (lower_local p n) ls))
  locals_keep [] x = refl
  locals_keep (l ∷ ls) x = both_give _ _ _ _ (init_keeps l.init) (locals_keep ls) x

  start_keeps : (i : Start) → Gives (start_holds P i) (start_holds Q (lower_start p n i))
  start_keeps start.Absent x = refl
  start_keeps (start.Value e) x = each e x
  start_keeps (start.Declared at ls) x = locals_keep ls x

  abbrev S : Bool → Stat → Type 0
  S a b = Gives a (body_holds Q b)

  goes : (a : Bool) (y : s.Stat-F Stat) → Gives a (statement_held Q (map-Stat Stat Bool (body_holds Q) y)) → Gives a (body_holds Q (roll-Stat y))
  goes a y r x = fold-roll-Stat Bool (statement_held Q) y ∙ r x

  block_keeps : (ss : List (Both S)) → Gives (all P (map (λ e. e.0) ss)) (all Q (map (body_holds Q) (map (λ e. e.1) ss)))
  block_keeps [] x = refl
  block_keeps (a ∷ ss) x = both_give _ _ _ _ a.2 (block_keeps ss) x

  statement_keeps : (y : s.Stat-F (Both S)) → S (statement_held P (map-Stat (Both S) Bool (λ e. e.0) y)) (lower_statement p n (map-Stat (Both S) Stat (λ e. e.1) y))
  unfolding roll-Stat denote.Hole.Carrier.roll
  statement_keeps (s.Block at ss) = goes _ (s.Block at (map (λ e. e.1) ss)) (block_keeps ss)
  statement_keeps (s.Declare at ls) = goes _ (s.Declare at (map (lower_local p n) ls)) (locals_keep ls)
  statement_keeps (s.Evaluate at e) = goes _ (s.Evaluate at (lower_option p n e)) (option_keeps e)
  statement_keeps (s.If at e a None) = goes _ (s.If at (lower_expr p n e) a.1 None) (both_give _ _ _ _ (each e) (both_give _ _ _ _ a.2 (λ x. refl)))
  statement_keeps (s.If at e a (Some b)) = goes _ (s.If at (lower_expr p n e) a.1 (Some b.1)) (both_give _ _ _ _ (each e) (both_give _ _ _ _ a.2 b.2))
  statement_keeps (s.While at e a) = goes _ (s.While at (lower_expr p n e) a.1) (both_give _ _ _ _ (each e) a.2)
  statement_keeps (s.DoWhile at a e) = goes _ (s.DoWhile at a.1 (lower_expr p n e)) (both_give _ _ _ _ (each e) a.2)
  statement_keeps (s.For at first test step a) =
      goes _ (s.For at (lower_start p n first) (lower_option p n test) (lower_option p n step) a.1)
      (both_give _ _ _ _ (both_give _ _ _ _ (start_keeps first) (option_keeps test)) (both_give _ _ _ _ (option_keeps step) a.2))
  statement_keeps (s.Switch at e ss) = goes _ (s.Switch at (lower_expr p n e) (map (λ e. e.1) ss)) (both_give _ _ _ _ (block_keeps ss) (each e))
  statement_keeps (s.Case at v a) = goes _ (s.Case at v a.1) a.2
  statement_keeps (s.Default at a) = goes _ (s.Default at a.1) a.2
  statement_keeps (s.Break at) = goes _ (s.Break at) (λ x. refl)
  statement_keeps (s.Continue at) = goes _ (s.Continue at) (λ x. refl)
  statement_keeps (s.Return at e) = goes _ (s.Return at (lower_option p n e)) (option_keeps e)

  body_keeps : (b : Stat) → Gives (body_holds P b) (body_holds Q (lower_stat p n b))
  body_keeps = stat_relates Bool Stat (statement_held P) (lower_statement p n) S statement_keeps

  functions_keep : (fs hs : List Function) → functions_hold Q hs ≡ true → Gives (functions_hold P fs) (functions_hold Q (map (lower_function p n) fs ++ hs))
  functions_keep [] hs h x = h
  functions_keep (f ∷ fs) hs h x = both_give _ _ _ _ (body_keeps f.body) (functions_keep fs hs h) x

-- ---- helpers have no operator that has a helper

module _ (q : Operators) where
  abbrev of : TypedExpr → Held
  of = fold-TypedExpr Held (expression_held q)

  basic_held : (o : Basic) → (t : CType) → held_by q t (sort_of (trees.operator_of o)) ≡ true
  basic_held plus type.Unsigned = refl
  basic_held plus type.Int = refl
  basic_held plus type.Schar = refl
  basic_held plus type.Uchar = refl
  basic_held plus type.Void = refl
  basic_held minus type.Unsigned = refl
  basic_held minus type.Int = refl
  basic_held minus type.Schar = refl
  basic_held minus type.Uchar = refl
  basic_held minus type.Void = refl
  basic_held both type.Unsigned = refl
  basic_held both type.Int = refl
  basic_held both type.Schar = refl
  basic_held both type.Uchar = refl
  basic_held both type.Void = refl
  basic_held either type.Unsigned = refl
  basic_held either type.Int = refl
  basic_held either type.Schar = refl
  basic_held either type.Uchar = refl
  basic_held either type.Void = refl

  constant_holds : (v : ℕ) → holds q (tree.Constant trees.word_head v) ≡ true
  constant_holds v = ap (λ (x : Held). x.held) (constant_is Held (expression_held q) trees.word_head v)

  object_holds : (x : ℕ) → holds q (tree.Object trees.word_head (trees.variable_of x)) ≡ true
  object_holds x = ap (λ (y : Held). y.held) (object_is Held (expression_held q) trees.word_head (trees.variable_of x))

  term_holds : (t : Term) → holds q (trees.term_tree t) ≡ true
  term_holds (number v) = constant_holds v
  term_holds (variable x) = object_holds x
  term_holds (combine o a b) =
      ap (λ (x : Held). x.held) (binary_is Held (expression_held q) trees.word_head (trees.term_tree a) (trees.operator_of o) (trees.term_tree b))
      ∙ both_hold _ _ (basic_held o _) (both_hold _ _ (term_holds a) (term_holds b))

  test_holds : (t : Test) → holds q (trees.test_tree t) ≡ true
  test_holds (is_set t) = term_holds t
  test_holds (at_least a b) = ap (λ (x : Held). x.held) (binary_is Held (expression_held q) trees.int_head (trees.term_tree a) _ (trees.term_tree b)) ∙ both_hold _ _ (term_holds a) (term_holds b)
  test_holds (above a b) = ap (λ (x : Held). x.held) (binary_is Held (expression_held q) trees.int_head (trees.term_tree a) _ (trees.term_tree b)) ∙ both_hold _ _ (term_holds a) (term_holds b)

  code_holds : (c : Code) → body_holds q (trees.code_tree c) ≡ true
  code_holds (put x t) =
      evaluate_is Bool (statement_held q) trees.origin _
      ∙ (ap (λ (y : Held). y.held) (assign_is Held (expression_held q) trees.word_head (tree.Object trees.word_head (trees.variable_of x)) (trees.term_tree t)) ∙ both_hold _ _ (object_holds x) (term_holds t))
  code_holds (c then d) =
      block_is Bool (statement_held q) trees.origin (trees.code_tree c ∷ trees.code_tree d ∷ [])
      ∙ both_hold _ _ (code_holds c) (both_hold _ _ (code_holds d) refl)
  code_holds (when t c) = if_is Bool (statement_held q) trees.origin (trees.test_tree t) (trees.code_tree c) ∙ both_hold _ _ (test_holds t) (both_hold _ _ (code_holds c) refl)
  code_holds (while t c) = while_is Bool (statement_held q) trees.origin (trees.test_tree t) (trees.code_tree c) ∙ both_hold _ _ (test_holds t) (code_holds c)

  inits_hold : (k : ℕ) (vs : List ℕ) → locals_hold q (trees.locals k vs) ≡ true
  inits_hold k [] = refl
  inits_hold k (v ∷ vs) = both_hold _ _ (constant_holds v) (inits_hold (suc k) vs)

  helper_holds : (h : Helper) → body_holds q (trees.body_of h) ≡ true
  helper_holds h =
      let dec = stat.Declare trees.origin (trees.locals 0 h.inits) in
      let ret = stat.Return trees.origin (Some (trees.term_tree h.result)) in
      block_is Bool (statement_held q) trees.origin (dec ∷ trees.code_tree h.code ∷ ret ∷ [])
      ∙ both_hold _ _ (declare_is Bool (statement_held q) trees.origin (trees.locals 0 h.inits) ∙ inits_hold 0 h.inits)
      (both_hold _ _ (code_holds h.code) (both_hold _ _ (return_is Bool (statement_held q) trees.origin (trees.term_tree h.result) ∙ term_holds h.result) refl))

  helpers_hold : (w : ℕ) (os : List Operator) → functions_hold q (map (function_of w) os) ≡ true
  helpers_hold w [] = refl
  helpers_hold w (o ∷ os) = both_hold _ _ (helper_holds (helper_of w o)) (helpers_hold w os)

pub none_is_left : NoneIsLeft
none_is_left lacks p w t e = functions_keep lacks p (length t.functions) t.functions (helpers w p) (helpers_hold (λ k. not (lacks k)) w (chosen p all_operators)) e
