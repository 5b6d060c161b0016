-- A lowered function has the frame of the function.
use Rattle.std.proofs.Common.{◌≡◌, ℕ, suc, ◌+◌, ◌*◌, ◌≤◌, max, List, [], ◌∷◌, map, length, Option, Some, None, if◌then◌else◌, refl, sym, ap, subst, ◌∙◌, arith}
use Rattle.std.proofs.Math.Nat.{le-max_left, le-max_right, max-le}
use denote.Hole.Carrier
use Rattle.c_tree.specs.declared.syntax.BinaryOperator.{BinaryOperator}
use Rattle.c_tree.specs.declared.typed.Head.{Head}
use Rattle.c_tree.specs.declared.typed.Callee.TheVariants as callee
use Rattle.c_tree.specs.declared.typed.TypedExpr.{TypedExpr}
use Rattle.c_tree.specs.declared.typed.TypedExpr.TheOpen.{TypedExpr-F, Comma, Assign, Compound, Conditional, Binary, Unary, Before, After, Constant, Object, Element, Call, Convert}
use Rattle.c_tree.specs.declared.typed.TypedExpr.TheViews.{roll-TypedExpr}
use Rattle.c_tree.specs.declared.typed.TypedExpr.TheFolds.{fold-roll-TypedExpr, map-TypedExpr}
use Rattle.c_tree.specs.declared.typed.LocalInit.{LocalInit}
use Rattle.c_tree.specs.declared.typed.LocalInit.TheVariants as init
use Rattle.c_tree.specs.declared.typed.Local.{Local}
use Rattle.c_tree.specs.declared.typed.Start.{Start}
use Rattle.c_tree.specs.declared.typed.Start.TheVariants as start
use Rattle.c_tree.specs.declared.typed.Stat.{Stat}
use Rattle.c_tree.specs.declared.typed.Stat.TheOpen as s
use Rattle.c_tree.specs.declared.typed.Stat.TheViews.{roll-Stat}
use Rattle.c_tree.specs.declared.typed.Stat.TheFolds.{fold-roll-Stat, map-Stat}
use Rattle.c_tree.specs.declared.typed.Function.{Function}
use Rattle.c_tree.proofs.TypedFolds.{Both, expr_relates, stat_relates}
use Rattle.c_limits.specs.Depths.{node_depth, conversion_depth, expression_depth, depth_of, expression_arguments, arguments_of, greatest, in_option, in_list, in_init, in_locals, in_start, in_statement, greatest_in}
use Rattle.c_limits.specs.Frames.{word_bytes, scalars, arrays, frame_bytes, call_bytes, is_helper}
use Rattle.c_meaning.specs.Operators.{sort_of}
use Rattle.c_meaning.specs.Settings.{setting_of}
use Rattle.c_helper_trees.proofs.Calls.{helpers_take_nothing}
use Rattle.c_helpers.specs.declared.operator.Operator.{Operator}
use Rattle.c_lowering.specs.Lowering.{Operators, number_of, wanted_by, binary_by, operation_of, Lowered, lower_node, tree_in, lower_expr, lower_option, lower_init, lower_local, lower_start, lower_statement, lower_stat, lower_function}
use Rattle.c_lowering.specs.Law.{FramesStay}
use Rattle.c_lowering.proofs.Fair.{IsFair}

module _ (p : Operators) (n : ℕ) where
  -- ---- depths

  abbrev As_deep : ℕ → Lowered → Type 0
  As_deep d l = d ≡ depth_of l.tree

  deep : (d : ℕ) (y : TypedExpr-F TypedExpr) → d ≡ expression_depth (map-TypedExpr TypedExpr ℕ depth_of y) → d ≡ depth_of (roll-TypedExpr y)
  deep d y e = e ∙ sym (fold-roll-TypedExpr ℕ expression_depth y)

  one_deep : (a : Both As_deep) → node_depth (a.0 ∷ []) ≡ node_depth (depth_of a.1.tree ∷ [])
  one_deep a = ap (λ d. node_depth (d ∷ [])) a.2

  two_deep : (a b : Both As_deep) → node_depth (a.0 ∷ b.0 ∷ []) ≡ node_depth (depth_of a.1.tree ∷ depth_of b.1.tree ∷ [])
  two_deep a b = ap (λ d. node_depth (d ∷ b.0 ∷ [])) a.2 ∙ ap (λ d. node_depth (depth_of a.1.tree ∷ d ∷ [])) b.2

  three_deep : (a b c : Both As_deep) → node_depth (a.0 ∷ b.0 ∷ c.0 ∷ []) ≡ node_depth (depth_of a.1.tree ∷ depth_of b.1.tree ∷ depth_of c.1.tree ∷ [])
  three_deep a b c =
      ap (λ d. node_depth (d ∷ b.0 ∷ c.0 ∷ [])) a.2
      ∙ (ap (λ d. node_depth (depth_of a.1.tree ∷ d ∷ c.0 ∷ [])) b.2 ∙ ap (λ d. node_depth (depth_of a.1.tree ∷ depth_of b.1.tree ∷ d ∷ [])) c.2)

  all_deep : (es : List (Both As_deep)) → map (λ e. e.0) es ≡ map depth_of (map (tree_in p n) (map (λ e. e.1) es))
  all_deep [] = refl
  all_deep (e ∷ es) = ap (λ d. d ∷ map (λ e. e.0) es) e.2 ∙ ap (λ ds. depth_of e.1.tree ∷ ds) (all_deep es)

  binary_deep : (k : Option Operator) (h : Head) (a : Both As_deep) (o : BinaryOperator) (b : Both As_deep)
      → node_depth (a.0 ∷ b.0 ∷ []) ≡ depth_of (binary_by p n k h a.1.tree o b.1.tree)
  unfolding roll-TypedExpr denote.Hole.Carrier.roll
  binary_deep None h a o b = deep _ (Binary h a.1.tree o b.1.tree) (two_deep a b)
  binary_deep (Some k) h a o b = deep _ (Call h (callee.Defined (number_of p n k)) (a.1.tree ∷ b.1.tree ∷ [])) (two_deep a b)

  node_deep : (y : TypedExpr-F (Both As_deep)) → As_deep (expression_depth (map-TypedExpr (Both As_deep) ℕ (λ e. e.0) y)) (lower_node p n (map-TypedExpr (Both As_deep) Lowered (λ e. e.1) y))
  unfolding roll-TypedExpr denote.Hole.Carrier.roll
  node_deep (Comma h a b) = deep _ (Comma h a.1.tree b.1.tree) (two_deep a b)
  node_deep (Assign h a b) = deep _ (Assign h a.1.tree b.1.tree) (two_deep a b)
  node_deep (Compound h a o b) = deep _ (Compound h a.1.tree (operation_of p n o a.1.of b.1.of) b.1.tree) (two_deep a b)
  node_deep (Conditional h a b c) = deep _ (Conditional h a.1.tree b.1.tree c.1.tree) (three_deep a b c)
  node_deep (Binary h a o b) = binary_deep (wanted_by p n a.1.of (sort_of o)) h a o b
  node_deep (Unary h o a) = deep _ (Unary h o a.1.tree) (one_deep a)
  node_deep (Before h o a) = deep _ (Before h o a.1.tree) (one_deep a)
  node_deep (After h a o) = deep _ (After h a.1.tree o) (one_deep a)
  node_deep (Constant h v) = deep _ (Constant h v) refl
  node_deep (Object h x) = deep _ (Object h x) refl
  node_deep (Element h x i) = deep _ (Element h x i.1.tree) (one_deep i)
  node_deep (Call h f es) = deep _ (Call h f (map (tree_in p n) (map (λ e. e.1) es))) (ap node_depth (all_deep es))
  node_deep (Convert h a) = deep _ (Convert h a.1.tree) (ap (λ d. conversion_depth h.of + d) a.2)

  expr_deep : (e : TypedExpr) → depth_of e ≡ depth_of (lower_expr p n e)
  expr_deep = expr_relates ℕ Lowered expression_depth (lower_node p n) As_deep node_deep

  -- ---- arguments: a frame has room for two of them

  pub record Near (a b : ℕ) : Type 0 where
    pub low : a ≤ b
    pub high : b ≤ max 2 a

  near_none : Near 0 0
  near_none = record { low = omega arith; high = le-trans (omega arith) (le-max_left 2 0) }
    where
      le-trans : {a b c : ℕ} → a ≤ b → b ≤ c → a ≤ c
      le-trans e f = omega (arith, e, f)

  near_both : (a b c d : ℕ) → Near a b → Near c d → Near (max a c) (max b d)
  near_both a b c d e f =
      let u = le-max_left b d in let v = le-max_right b d in
      let i = le-max_left a c in let j = le-max_right a c in
      let two = le-max_left 2 (max a c) in let more = le-max_right 2 (max a c) in
      let first : max 2 a ≤ max 2 (max a c) = max-le two (omega (arith, i, more)) in
      let second : max 2 c ≤ max 2 (max a c) = max-le two (omega (arith, j, more)) in
      record { low = max-le (omega (arith, e.low, u)) (omega (arith, f.low, v)); high = max-le (omega (arith, e.high, first)) (omega (arith, f.high, second)) }

  near_call : (a b c d : ℕ) → Near a b → Near c d → Near (max a c) (max 2 (max b (max d 0)))
  near_call a b c d e f =
      let u = le-max_left b (max d 0) in let v = le-max_right b (max d 0) in let w = le-max_left d 0 in
      let more = le-max_right 2 (max b (max d 0)) in
      let i = le-max_left a c in let j = le-max_right a c in
      let two = le-max_left 2 (max a c) in let above = le-max_right 2 (max a c) in
      let first : max 2 a ≤ max 2 (max a c) = max-le two (omega (arith, i, above)) in
      let second : max 2 c ≤ max 2 (max a c) = max-le two (omega (arith, j, above)) in
      record {
        low = max-le (omega (arith, e.low, u, more)) (omega (arith, f.low, w, v, more));
        high = max-le two (max-le (omega (arith, e.high, first)) (max-le (omega (arith, f.high, second)) (omega arith)));
      }

  near_length : (k a b : ℕ) → Near a b → Near (max k a) (max k b)
  near_length k a b e = near_both k k a b (record { low = omega arith; high = le-max_right 2 k }) e

  pub near_same : (a b : ℕ) → Near a b → max 2 a ≡ max 2 b
  near_same a b e =
      let u = le-max_left 2 b in let v = le-max_right 2 b in let x = le-max_left 2 a in
      let up : max 2 a ≤ max 2 b = max-le u (omega (arith, e.low, v)) in
      let down : max 2 b ≤ max 2 a = max-le x e.high in
      omega (arith, up, down)

  abbrev As_wide : ℕ → Lowered → Type 0
  As_wide a l = Near a (arguments_of l.tree)

  wide : (a : ℕ) (y : TypedExpr-F TypedExpr) → Near a (expression_arguments (map-TypedExpr TypedExpr ℕ arguments_of y)) → Near a (arguments_of (roll-TypedExpr y))
  wide a y r = subst (Near a) (sym (fold-roll-TypedExpr ℕ expression_arguments y)) r

  all_wide : (es : List (Both As_wide)) → Near (greatest (map (λ e. e.0) es)) (greatest (map arguments_of (map (tree_in p n) (map (λ e. e.1) es))))
  all_wide [] = near_none
  all_wide (e ∷ es) = near_both _ _ _ _ e.2 (all_wide es)

  as_many : (es : List (Both As_wide)) → length (map (λ e. e.0) es) ≡ length (map arguments_of (map (tree_in p n) (map (λ e. e.1) es)))
  as_many [] = refl
  as_many (e ∷ es) = ap suc (as_many es)

  binary_wide : (k : Option Operator) (h : Head) (a : Both As_wide) (o : BinaryOperator) (b : Both As_wide)
      → Near (max a.0 b.0) (arguments_of (binary_by p n k h a.1.tree o b.1.tree))
  unfolding roll-TypedExpr denote.Hole.Carrier.roll
  binary_wide None h a o b = wide _ (Binary h a.1.tree o b.1.tree) (near_both _ _ _ _ a.2 b.2)
  binary_wide (Some k) h a o b = wide _ (Call h (callee.Defined (number_of p n k)) (a.1.tree ∷ b.1.tree ∷ [])) (near_call _ _ _ _ a.2 b.2)

  node_wide : (y : TypedExpr-F (Both As_wide)) → As_wide (expression_arguments (map-TypedExpr (Both As_wide) ℕ (λ e. e.0) y)) (lower_node p n (map-TypedExpr (Both As_wide) Lowered (λ e. e.1) y))
  unfolding roll-TypedExpr denote.Hole.Carrier.roll
  node_wide (Comma h a b) = wide _ (Comma h a.1.tree b.1.tree) (near_both _ _ _ _ a.2 b.2)
  node_wide (Assign h a b) = wide _ (Assign h a.1.tree b.1.tree) (near_both _ _ _ _ a.2 b.2)
  node_wide (Compound h a o b) = wide _ (Compound h a.1.tree (operation_of p n o a.1.of b.1.of) b.1.tree) (near_both _ _ _ _ a.2 b.2)
  node_wide (Conditional h a b c) = wide _ (Conditional h a.1.tree b.1.tree c.1.tree) (near_both _ _ _ _ a.2 (near_both _ _ _ _ b.2 c.2))
  node_wide (Binary h a o b) = binary_wide (wanted_by p n a.1.of (sort_of o)) h a o b
  node_wide (Unary h o a) = wide _ (Unary h o a.1.tree) a.2
  node_wide (Before h o a) = wide _ (Before h o a.1.tree) a.2
  node_wide (After h a o) = wide _ (After h a.1.tree o) a.2
  node_wide (Constant h v) = wide _ (Constant h v) near_none
  node_wide (Object h x) = wide _ (Object h x) near_none
  node_wide (Element h x i) = wide _ (Element h x i.1.tree) i.2
  node_wide (Call h f es) =
      wide _ (Call h f (map (tree_in p n) (map (λ e. e.1) es)))
      (subst (λ k. Near (max (length (map (λ e. e.0) es)) (greatest (map (λ e. e.0) es))) (max k (greatest (map arguments_of (map (tree_in p n) (map (λ e. e.1) es)))))) (as_many es)
      (near_length _ _ _ (all_wide es)))
  node_wide (Convert h a) = wide _ (Convert h a.1.tree) a.2

  expr_wide : (e : TypedExpr) → Near (arguments_of e) (arguments_of (lower_expr p n e))
  expr_wide = expr_relates ℕ Lowered expression_arguments (lower_node p n) As_wide node_wide

  -- ---- the greatest over a statement, by a relation that the greater of two keeps

  module _ (f : TypedExpr → ℕ) (R : ℕ → ℕ → Type 0) (none : R 0 0) (both : (a b c d : ℕ) → R a b → R c d → R (max a c) (max b d)) (each : (e : TypedExpr) → R (f e) (f (lower_expr p n e))) where
    option_rel : (e : Option TypedExpr) → R (in_option f e) (in_option f (lower_option p n e))
    option_rel None = none
    option_rel (Some e) = each e

    list_rel : (es : List TypedExpr) → R (in_list f es) (in_list f (map (lower_expr p n) es))
    list_rel [] = none
    list_rel (e ∷ es) = both _ _ _ _ (each e) (list_rel es)

    init_rel : (i : LocalInit) → R (in_init f i) (in_init f (lower_init p n i))
    init_rel init.Absent = none
    init_rel (init.Value e) = each e
    init_rel (init.List es) = list_rel es

    locals_rel : (ls : List Local) → R (in_locals f ls) (in_locals f (map (lower_local p n) ls))
    locals_rel [] = none
    locals_rel (l ∷ ls) = both _ _ _ _ (init_rel l.init) (locals_rel ls)

    start_rel : (x : Start) → R (in_start f x) (in_start f (lower_start p n x))
    start_rel start.Absent = none
    start_rel (start.Value e) = each e
    start_rel (start.Declared at ls) = locals_rel ls

    abbrev Q : ℕ → Stat → Type 0
    Q x b = R x (greatest_in f b)

    goes : (x : ℕ) (y : s.Stat-F Stat) → R x (in_statement f (map-Stat Stat ℕ (greatest_in f) y)) → R x (greatest_in f (roll-Stat y))
    goes x y r = subst (R x) (sym (fold-roll-Stat ℕ (in_statement f) y)) r

    block_rel : (ss : List (Both Q)) → R (greatest (map (λ e. e.0) ss)) (greatest (map (greatest_in f) (map (λ e. e.1) ss)))
    block_rel [] = none
    block_rel (a ∷ ss) = both _ _ _ _ a.2 (block_rel ss)

    statement_rel : (y : s.Stat-F (Both Q)) → Q (in_statement f (map-Stat (Both Q) ℕ (λ e. e.0) y)) (lower_statement p n (map-Stat (Both Q) Stat (λ e. e.1) y))
    unfolding roll-Stat denote.Hole.Carrier.roll
    statement_rel (s.Block at ss) = goes _ (s.Block at (map (λ e. e.1) ss)) (block_rel ss)
    statement_rel (s.Declare at ls) = goes _ (s.Declare at (map (lower_local p n) ls)) (locals_rel ls)
    statement_rel (s.Evaluate at e) = goes _ (s.Evaluate at (lower_option p n e)) (option_rel e)
    statement_rel (s.If at e a None) = goes _ (s.If at (lower_expr p n e) a.1 None) (both _ _ _ _ (each e) (both _ _ _ _ a.2 none))
    statement_rel (s.If at e a (Some b)) = goes _ (s.If at (lower_expr p n e) a.1 (Some b.1)) (both _ _ _ _ (each e) (both _ _ _ _ a.2 b.2))
    statement_rel (s.While at e a) = goes _ (s.While at (lower_expr p n e) a.1) (both _ _ _ _ (each e) a.2)
    statement_rel (s.DoWhile at a e) = goes _ (s.DoWhile at a.1 (lower_expr p n e)) (both _ _ _ _ (each e) a.2)
    statement_rel (s.For at first test step a) =
        goes _ (s.For at (lower_start p n first) (lower_option p n test) (lower_option p n step) a.1)
        (both _ _ _ _ (both _ _ _ _ (start_rel first) (option_rel test)) (both _ _ _ _ (option_rel step) a.2))
    statement_rel (s.Switch at e ss) = goes _ (s.Switch at (lower_expr p n e) (map (λ e. e.1) ss)) (both _ _ _ _ (block_rel ss) (each e))
    statement_rel (s.Case at v a) = goes _ (s.Case at v a.1) a.2
    statement_rel (s.Default at a) = goes _ (s.Default at a.1) a.2
    statement_rel (s.Break at) = goes _ (s.Break at) none
    statement_rel (s.Continue at) = goes _ (s.Continue at) none
    statement_rel (s.Return at e) = goes _ (s.Return at (lower_option p n e)) (option_rel e)

    pub greatest_rel : (b : Stat) → R (greatest_in f b) (greatest_in f (lower_stat p n b))
    greatest_rel = stat_relates ℕ Stat (in_statement f) (lower_statement p n) Q statement_rel

  same_max : (a b c d : ℕ) → a ≡ b → c ≡ d → max a c ≡ max b d
  same_max a b c d e f = ap (λ x. max x c) e ∙ ap (max b) f

  pub frame_same : (kept : List ℕ) (w : ℕ) (f : Function) → frame_bytes kept w (lower_function p n f) ≡ frame_bytes kept w f
  frame_same kept w f =
      let d = greatest_rel depth_of (λ a b. a ≡ b) refl same_max expr_deep f.body in
      let a = near_same _ _ (greatest_rel arguments_of Near near_none near_both expr_wide f.body) in
      ap (λ k. word_bytes w * (k + 1 + length kept + 16 + length f.params + scalars f.locals + (greatest_in depth_of (lower_stat p n f.body) + 4)) + arrays w f.locals) (sym a)
      ∙ ap (λ k. word_bytes w * (max 2 (greatest_in arguments_of f.body) + 1 + length kept + 16 + length f.params + scalars f.locals + (k + 4)) + arrays w f.locals) (sym d)

  call_same : (kept : List ℕ) (w : ℕ) (f : Function) → call_bytes kept w (lower_function p n f) ≡ call_bytes kept w f
  call_same kept w f = ap (λ k. if is_helper f.name then 0 else k + word_bytes w) (frame_same kept w f)

pub fair : (kept : List ℕ) (w stack : ℕ) → IsFair (setting_of kept w stack)
fair kept w stack = record { helpers = helpers_take_nothing kept w; lowered = λ p n f. call_same p n kept w f }

pub frames_stay : FramesStay
frames_stay kept w p n f = frame_same p n kept w f
