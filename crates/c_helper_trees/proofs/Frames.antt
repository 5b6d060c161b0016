-- How deep a helper's expressions nest, and what its frame takes.
use Rattle.std.proofs.Common.{◌≡◌, ℕ, zero, suc, ◌+◌, ◌*◌, ◌≤◌, max, List, [], ◌∷◌, length, Some, refl, ap, ◌∙◌, arith}
use Rattle.rtl_word.specs.Words.{IsWordSize}
use Rattle.rtl_word.proofs.Below.{by_size}
use Rattle.c_tree.specs.declared.typed.TypedExpr.{TypedExpr}
use Rattle.c_tree.specs.declared.typed.TypedExpr.TheVariants as tree
use Rattle.c_tree.specs.declared.typed.Stat.TheVariants as stat
use Rattle.c_limits.specs.Depths.{node_depth, expression_depth, depth_of, expression_arguments, arguments_of, greatest, in_locals, in_statement, greatest_in}
use Rattle.c_limits.specs.Frames.{word_bytes, scalars, arrays, frame_words}
use Rattle.c_helpers.specs.Code.{Term, number, variable, combine, Test, is_set, at_least, above, Code, put, ◌then◌, when, while, Helper}
use Rattle.c_helpers.specs.declared.operator.Operator.{Operator}
use Rattle.c_helpers.specs.declared.operator.Operator.TheVariants.{Multiply, Divide, DivideUnsigned, Remainder, RemainderUnsigned, ShiftLeft, ShiftRight, ShiftRightUnsigned, Xor}
use Rattle.c_helpers.specs.Operators.{helper_of}
use Rattle.c_helper_trees.specs.Trees.{origin, word_head, int_head, variable_of, operator_of, term_tree, test_tree, code_tree, locals, body_of, objects, function_by, function_of, name_of}
use Rattle.c_helper_trees.specs.Law.{HelperFrames}
use Rattle.c_helper_trees.proofs.Nodes.{constant_is, object_is, binary_is, assign_is, evaluate_is, block_is, declare_is, if_is, while_is, return_is}

abbrev place : ℕ → TypedExpr
place x = tree.Object word_head (variable_of x)

-- the greatest of what a function is of the expressions in code, where it is this of tests and of what is assigned
abbrev greatest_of : (Test → ℕ) → (Term → ℕ) → Code → ℕ
greatest_of F G (put x t) = G t
greatest_of F G (p then q) = greatest (greatest_of F G p ∷ greatest_of F G q ∷ [])
greatest_of F G (when t p) = max (F t) (max (greatest_of F G p) 0)
greatest_of F G (while t p) = max (F t) (greatest_of F G p)

abbrev greatest_init : ℕ → List ℕ → ℕ
greatest_init c [] = 0
greatest_init c (v ∷ vs) = max c (greatest_init c vs)

module _ (f : TypedExpr → ℕ) (F : Test → ℕ) (G : Term → ℕ) (c : ℕ)
    (tests : (t : Test) → f (test_tree t) ≡ F t) (assigns : (x : ℕ) (t : Term) → f (tree.Assign word_head (place x) (term_tree t)) ≡ G t)
    (constants : (v : ℕ) → f (tree.Constant word_head v) ≡ c) where
  code_greatest : (p : Code) → greatest_in f (code_tree p) ≡ greatest_of F G p
  code_greatest (put x t) = evaluate_is ℕ (in_statement f) origin _ ∙ assigns x t
  code_greatest (p then q) =
      block_is ℕ (in_statement f) origin (code_tree p ∷ code_tree q ∷ [])
      ∙ (ap (λ n. greatest (n ∷ greatest_in f (code_tree q) ∷ [])) (code_greatest p) ∙ ap (λ n. greatest (greatest_of F G p ∷ n ∷ [])) (code_greatest q))
  code_greatest (when t p) =
      if_is ℕ (in_statement f) origin (test_tree t) (code_tree p)
      ∙ (ap (λ n. max n (max (greatest_in f (code_tree p)) 0)) (tests t) ∙ ap (λ n. max (F t) (max n 0)) (code_greatest p))
  code_greatest (while t p) =
      while_is ℕ (in_statement f) origin (test_tree t) (code_tree p)
      ∙ (ap (λ n. max n (greatest_in f (code_tree p))) (tests t) ∙ ap (λ n. max (F t) n) (code_greatest p))

  init_greatest : (k : ℕ) (vs : List ℕ) → in_locals f (locals k vs) ≡ greatest_init c vs
  init_greatest k [] = refl
  init_greatest k (v ∷ vs) = ap (λ n. max n (in_locals f (locals (suc k) vs))) (constants v) ∙ ap (λ n. max c n) (init_greatest (suc k) vs)

  body_greatest : (h : Helper) (r : ℕ) → f (term_tree h.result) ≡ r → greatest_in f (body_of h) ≡ greatest (greatest_init c h.inits ∷ greatest_of F G h.code ∷ r ∷ [])
  body_greatest h r e =
      let dec = stat.Declare origin (locals 0 h.inits) in
      let ret = stat.Return origin (Some (term_tree h.result)) in
      block_is ℕ (in_statement f) origin (dec ∷ code_tree h.code ∷ ret ∷ [])
      ∙ (ap (λ n. greatest (n ∷ greatest_in f (code_tree h.code) ∷ greatest_in f ret ∷ [])) (declare_is ℕ (in_statement f) origin (locals 0 h.inits) ∙ init_greatest 0 h.inits)
      ∙ (ap (λ n. greatest (greatest_init c h.inits ∷ n ∷ greatest_in f ret ∷ [])) (code_greatest h.code)
      ∙ ap (λ n. greatest (greatest_init c h.inits ∷ greatest_of F G h.code ∷ n ∷ [])) (return_is ℕ (in_statement f) origin (term_tree h.result) ∙ e)))

-- ---- how deep terms nest

abbrev term_depth : Term → ℕ
term_depth (number n) = 2
term_depth (variable x) = 2
term_depth (combine o s t) = node_depth (term_depth s ∷ term_depth t ∷ [])

abbrev test_depth : Test → ℕ
test_depth (is_set t) = term_depth t
test_depth (at_least s t) = node_depth (term_depth s ∷ term_depth t ∷ [])
test_depth (above s t) = node_depth (term_depth s ∷ term_depth t ∷ [])

abbrev assigned_depth : Term → ℕ
assigned_depth t = node_depth (2 ∷ term_depth t ∷ [])

two_depths : (a b : TypedExpr) (m n : ℕ) → depth_of a ≡ m → depth_of b ≡ n → node_depth (depth_of a ∷ depth_of b ∷ []) ≡ node_depth (m ∷ n ∷ [])
two_depths a b m n e f = ap (λ k. node_depth (k ∷ depth_of b ∷ [])) e ∙ ap (λ k. node_depth (m ∷ k ∷ [])) f

term_is : (t : Term) → depth_of (term_tree t) ≡ term_depth t
term_is (number n) = constant_is ℕ expression_depth word_head n
term_is (variable x) = object_is ℕ expression_depth word_head (variable_of x)
term_is (combine o s t) = binary_is ℕ expression_depth word_head (term_tree s) (operator_of o) (term_tree t) ∙ two_depths _ _ _ _ (term_is s) (term_is t)

test_is : (t : Test) → depth_of (test_tree t) ≡ test_depth t
test_is (is_set t) = term_is t
test_is (at_least s t) = binary_is ℕ expression_depth int_head (term_tree s) _ (term_tree t) ∙ two_depths _ _ _ _ (term_is s) (term_is t)
test_is (above s t) = binary_is ℕ expression_depth int_head (term_tree s) _ (term_tree t) ∙ two_depths _ _ _ _ (term_is s) (term_is t)

assigned_is : (x : ℕ) (t : Term) → depth_of (tree.Assign word_head (place x) (term_tree t)) ≡ assigned_depth t
assigned_is x t = assign_is ℕ expression_depth word_head (place x) (term_tree t) ∙ two_depths _ _ _ _ (object_is ℕ expression_depth word_head (variable_of x)) (term_is t)

-- ---- a helper calls nothing

two_none : (a b : TypedExpr) → arguments_of a ≡ 0 → arguments_of b ≡ 0 → max (arguments_of a) (arguments_of b) ≡ 0
two_none a b e f = ap (λ k. max k (arguments_of b)) e ∙ ap (λ k. max 0 k) f

term_none : (t : Term) → arguments_of (term_tree t) ≡ 0
term_none (number n) = constant_is ℕ expression_arguments word_head n
term_none (variable x) = object_is ℕ expression_arguments word_head (variable_of x)
term_none (combine o s t) = binary_is ℕ expression_arguments word_head (term_tree s) (operator_of o) (term_tree t) ∙ two_none _ _ (term_none s) (term_none t)

test_none : (t : Test) → arguments_of (test_tree t) ≡ 0
test_none (is_set t) = term_none t
test_none (at_least s t) = binary_is ℕ expression_arguments int_head (term_tree s) _ (term_tree t) ∙ two_none _ _ (term_none s) (term_none t)
test_none (above s t) = binary_is ℕ expression_arguments int_head (term_tree s) _ (term_tree t) ∙ two_none _ _ (term_none s) (term_none t)

assigned_none : (x : ℕ) (t : Term) → arguments_of (tree.Assign word_head (place x) (term_tree t)) ≡ 0
assigned_none x t = assign_is ℕ expression_arguments word_head (place x) (term_tree t) ∙ two_none _ _ (object_is ℕ expression_arguments word_head (variable_of x)) (term_none t)

-- ---- frames

abbrev helper_depth : Helper → ℕ
helper_depth h = greatest (greatest_init 2 h.inits ∷ greatest_of test_depth assigned_depth h.code ∷ term_depth h.result ∷ [])

abbrev helper_arguments : Helper → ℕ
helper_arguments h = greatest (greatest_init 0 h.inits ∷ greatest_of (λ t. 0) (λ t. 0) h.code ∷ 0 ∷ [])

-- the frame of a helper in words, which are so many besides the registers that are kept
record IsSmall (h : Helper) : Type 0 where
  arguments : helper_arguments h ≡ 0
  depth : helper_depth h ≤ 14
  locals : scalars (objects 2 (length h.inits)) ≤ 4

all_small : (w : ℕ) (o : Operator) → IsSmall (helper_of w o)
all_small w Multiply = record { arguments = refl; depth = grind arith; locals = grind arith }
all_small w Divide = record { arguments = refl; depth = grind arith; locals = grind arith }
all_small w DivideUnsigned = record { arguments = refl; depth = grind arith; locals = grind arith }
all_small w Remainder = record { arguments = refl; depth = grind arith; locals = grind arith }
all_small w RemainderUnsigned = record { arguments = refl; depth = grind arith; locals = grind arith }
all_small w ShiftLeft = record { arguments = refl; depth = grind arith; locals = grind arith }
all_small w ShiftRight = record { arguments = refl; depth = grind arith; locals = grind arith }
all_small w ShiftRightUnsigned = record { arguments = refl; depth = grind arith; locals = grind arith }
all_small w Xor = record { arguments = refl; depth = grind arith; locals = grind arith }

no_arrays : (w k n : ℕ) → arrays w (objects k n) ≡ 0
no_arrays w k zero = refl
no_arrays w k (suc n) = omega (arith, no_arrays w (suc k) n)

frame_is : (kept name : List ℕ) (h : Helper) → IsSmall h → frame_words kept (function_by name h) ≤ 43 + length kept
frame_is kept name h small =
    let a : greatest_in arguments_of (body_of h) ≡ 0 =
    body_greatest arguments_of (λ t. 0) (λ t. 0) 0 test_none assigned_none (λ v. constant_is ℕ expression_arguments word_head v) h 0 (term_none h.result) ∙ small.arguments in
    let d : greatest_in depth_of (body_of h) ≡ helper_depth h =
    body_greatest depth_of test_depth assigned_depth 2 test_is assigned_is (λ v. constant_is ℕ expression_depth word_head v) h (term_depth h.result) (term_is h.result) in
    let e : max 2 (greatest_in arguments_of (body_of h)) ≡ 2 = ap (λ n. max 2 n) a in
    omega (arith, e, d, small.depth, small.locals)

pub helper_frames : HelperFrames
helper_frames kept w z o =
    let f = frame_is kept (name_of o) (helper_of w o) (all_small w o) in
    let a = no_arrays w 2 (length (helper_of w o).inits) in
    let b = in_words (frame_words kept (function_of w o)) (arrays w (objects 2 (length (helper_of w o).inits))) (length kept) f a in
    b w z
  where
    in_words : (n r k : ℕ) → n ≤ 43 + k → r ≡ 0 → (w : ℕ) → IsWordSize w → word_bytes w * n + r + word_bytes w ≤ 224 + word_bytes w * k
    in_words n r k le e w z = by_size (λ w. word_bytes w * n + r + word_bytes w ≤ 224 + word_bytes w * k) (omega (arith, le, e)) (omega (arith, le, e)) w z
