-- Where calls go further, or less far, expressions do.
use Rattle.std.proofs.Common.{◌≡◌, ℕ, List, [], ◌∷◌, map, true, false, refl, subst}
use Rattle.c_tree.specs.declared.token.At.{At}
use Rattle.c_tree.specs.declared.types.CType.{CType}
use Rattle.c_tree.specs.declared.syntax.UnaryOperator.{UnaryOperator}
use Rattle.c_tree.specs.declared.syntax.StepOperator.{StepOperator}
use Rattle.c_tree.specs.declared.typed.Head.{Head}
use Rattle.c_tree.specs.declared.typed.Callee.{Callee}
use Rattle.c_tree.specs.declared.typed.Callee.TheVariants as callee
use Rattle.c_tree.specs.declared.typed.Operation.{Operation}
use Rattle.c_tree.specs.declared.typed.Operation.TheVariants as operation
use Rattle.c_tree.specs.declared.typed.TypedExpr.TheOpen.{TypedExpr-F, Comma, Assign, Compound, Conditional, Binary, Unary, Before, After, Constant, Object, Element, Call, Convert}
use Rattle.c_tree.specs.declared.typed.TypedExpr.TheFolds.{map-TypedExpr}
use Rattle.c_tree.proofs.TypedFolds.{Both}
use Rattle.c_meaning.specs.Operators.{Sort, computes, compares, logical, sort_of, calculate, compare, apply, step_by}
use Rattle.c_meaning.specs.Parts.{State, Part, Value, then_do, give, outcome, word}
use Rattle.c_meaning.specs.Expressions.{World, Calls, Evaluation, Lvalue, expression, needed, test, two, as_value, in_order, called, combined, element, plain, write}
use Rattle.c_meaning.proofs.Expressions.{with_calls}
use Rattle.c_lowering.proofs.Following.{Way, Rel, All_rel, same_rel, then_rel, zero_rel}

module _ (way : Way) where
  -- the same type, and its value and what it designates go further
  pub record Evaluation_rel (a b : Evaluation) : Type 0 where
    pub of : a.of ≡ b.of
    pub value : All_rel way a.value b.value
    pub lvalue : All_rel way a.lvalue b.lvalue

  pub needed_below : (a b : Evaluation) → Evaluation_rel a b → All_rel way (needed a) (needed b)
  needed_below a b e s = then_rel way _ _ _ _ (e.value s) (λ v s1. same_rel way _)

  test_below : (a b : Evaluation) → Evaluation_rel a b → All_rel way (test a) (test b)
  test_below a b e s = then_rel way _ _ _ _ (needed_below a b e s) (λ v s1. same_rel way _)

  args_below : (es : List (Both Evaluation_rel)) → All_rel way (in_order (map (λ e. e.0) es)) (in_order (map (λ e. e.1) es))
  args_below [] s = same_rel way _
  args_below (e ∷ es) s = then_rel way _ _ _ _ (needed_below _ _ e.2 s) (λ v s1. then_rel way _ _ _ _ (args_below es s1) (λ vs s2. same_rel way _))

  abbrev pub Calls_rel : Calls → Calls → Type 0
  Calls_rel c d = (at : At) (f : ℕ) (vs : List ℕ) → All_rel way (c at f vs) (d at f vs)

  pub plain_below : (h : Head) (f g : State → Part Value) → All_rel way f g → Evaluation_rel (plain h f) (plain h g)
  plain_below h f g b = record { of = refl; value = b; lvalue = λ s. same_rel way _ }

  -- a part that depends on a type alone
  by_type : {A : Type 0} (f : CType → State → Part A) (t u : CType) → t ≡ u → All_rel way (f t) (f u)
  by_type f t u e s = subst (λ x. Rel way (f t s) (f x s)) e (same_rel way _)

  module _ (c : World) (d : Calls) (calls : Calls_rel c.call d) where
    abbrev w : World
    w = with_calls c d

    both_below : (go : CType → ℕ → ℕ → State → Part Value) (t t' : CType) → t ≡ t' → (a b : Both Evaluation_rel)
        → All_rel way (λ s. then_do (needed a.0 s) (λ x s1. then_do (needed b.0 s1) (go t x))) (λ s. then_do (needed a.1 s) (λ x s1. then_do (needed b.1 s1) (go t' x)))
    both_below go t t' e a b s = then_rel way _ _ _ _ (needed_below _ _ a.2 s) (λ x s1. then_rel way _ _ _ _ (needed_below _ _ b.2 s1) (λ y. by_type (λ u. go u x y) t t' e))

    two_below : (t t' : CType) → t ≡ t' → (h : Head) (o : Sort) (a b : Both Evaluation_rel) → All_rel way (two c t h o a.0 b.0) (two w t' h o a.1 b.1)
    two_below t t' e h (logical true) a b s = then_rel way _ _ _ _ (needed_below _ _ a.2 s) (λ v. zero_rel way v _ _ _ _ (λ s1. same_rel way _) (test_below _ _ b.2))
    two_below t t' e h (logical false) a b s = then_rel way _ _ _ _ (needed_below _ _ a.2 s) (λ v. zero_rel way v _ _ _ _ (test_below _ _ b.2) (λ s1. same_rel way _))
    two_below t t' e h (computes o) a b s = both_below (λ u x y s2. as_value (outcome (calculate c.bits u o x y) h.at s2)) t t' e a b s
    two_below t t' e h (compares r u) a b s = both_below (λ v x y s2. as_value (outcome (compare c.bits v r u x y) h.at s2)) t t' e a b s

    called_below : (at : At) (f : Callee) (vs : List ℕ) → All_rel way (called c at f vs) (called w at f vs)
    called_below at (callee.Defined f) vs s = calls at f vs s
    called_below at callee.Getchar vs s = same_rel way _
    called_below at callee.Putchar vs s = same_rel way _

    combined_below : (o : Operation) (t u : CType) (at : At) (x y : ℕ) → All_rel way (combined c o t u at x y) (combined w o t u at x y)
    combined_below (operation.Operator o) t u at x y s = same_rel way _
    combined_below (operation.Helper f) t u at x y s = then_rel way _ _ _ _ (calls at f (x ∷ y ∷ []) s) (λ v s1. same_rel way _)

    combined_as : (o : Operation) (t t' : CType) → t ≡ t' → (u u' : CType) → u ≡ u' → (at : At) (x y : ℕ) → All_rel way (combined c o t u at x y) (combined w o t' u' at x y)
    combined_as o t t' e u u' k at x y s =
        subst (λ a. Rel way (combined c o t u at x y s) (combined w o a u' at x y s)) e
        (subst (λ b. Rel way (combined c o t u at x y s) (combined w o t b at x y s)) k (combined_below o t u at x y s))

    step_as : (go : ℕ → Lvalue → ℕ → State → Part Value) (o : StepOperator) (t t' : CType) → t ≡ t' → (h : Head) (x : Lvalue) (v : ℕ)
        → All_rel way (λ s. then_do (outcome (step_by c.bits t o v) h.at s) (go v x)) (λ s. then_do (outcome (step_by c.bits t' o v) h.at s) (go v x))
    step_as go o t t' e h x v = by_type (λ u s. then_do (outcome (step_by c.bits u o v) h.at s) (go v x)) t t' e

    unary_as : (o : UnaryOperator) (t t' : CType) → t ≡ t' → (h : Head) (v : ℕ) → All_rel way (λ s. as_value (outcome (apply c.bits t o v) h.at s)) (λ s. as_value (outcome (apply c.bits t' o v) h.at s))
    unary_as o t t' e h v = by_type (λ u s. as_value (outcome (apply c.bits u o v) h.at s)) t t' e

    pub node_below : (y : TypedExpr-F (Both Evaluation_rel)) → Evaluation_rel (expression c (map-TypedExpr (Both Evaluation_rel) Evaluation (λ e. e.0) y)) (expression w (map-TypedExpr (Both Evaluation_rel) Evaluation (λ e. e.1) y))
    node_below (Constant h v) = plain_below h _ _ (λ s. same_rel way _)
    node_below (Object h x) = record { of = refl; value = λ s. same_rel way _; lvalue = λ s. same_rel way _ }
    node_below (Element h x i) = record {
      of = refl;
      value = λ s. then_rel way _ _ _ _ (needed_below _ _ i.2 s) (λ v s1. then_rel way _ _ _ _ (by_type (λ t. element (c.kind x) c.bits t h x v) _ _ i.2.of s1) (λ y s2. same_rel way _));
      lvalue = λ s. then_rel way _ _ _ _ (needed_below _ _ i.2 s) (λ v. by_type (λ t. element (c.kind x) c.bits t h x v) _ _ i.2.of);
    }
    node_below (Assign h a b) = plain_below h _ _ (λ s. then_rel way _ _ _ _ (a.2.lvalue s) (λ x s1. then_rel way _ _ _ _ (needed_below _ _ b.2 s1) (λ v s2. same_rel way _)))
    node_below (Compound h a o b) = plain_below h _ _ (λ s. then_rel way _ _ _ _ (a.2.lvalue s) (λ x s1. then_rel way _ _ _ _ (same_rel way _) (λ v s2. then_rel way _ _ _ _ (needed_below _ _ b.2 s2)
        (λ y s3. then_rel way _ _ _ _ (combined_as o _ _ a.2.of _ _ b.2.of h.at v y s3) (λ r s4. same_rel way _)))))
    node_below (Before h o a) = plain_below h _ _ (λ s. then_rel way _ _ _ _ (a.2.lvalue s) (λ x s1. then_rel way _ _ _ _ (same_rel way _) (step_as (λ v y. write c y) o _ _ a.2.of h x)))
    node_below (After h a o) = plain_below h _ _ (λ s. then_rel way _ _ _ _ (a.2.lvalue s) (λ x s1. then_rel way _ _ _ _ (same_rel way _)
        (step_as (λ v y r s3. then_do (write c y r s3) (λ _ s4. give (word v) s4)) o _ _ a.2.of h x)))
    node_below (Binary h a o b) = plain_below h _ _ (two_below _ _ a.2.of h (sort_of o) a b)
    node_below (Unary h o a) = plain_below h _ _ (λ s. then_rel way _ _ _ _ (needed_below _ _ a.2 s) (unary_as o _ _ a.2.of h))
    node_below (Convert h a) = plain_below h _ _ (λ s. then_rel way _ _ _ _ (needed_below _ _ a.2 s) (λ v s1. same_rel way _))
    node_below (Comma h a b) = plain_below h _ _ (λ s. then_rel way _ _ _ _ (a.2.value s) (λ v. b.2.value))
    node_below (Conditional h a b d) = plain_below h _ _ (λ s. then_rel way _ _ _ _ (needed_below _ _ a.2 s) (λ v. zero_rel way v _ _ _ _ d.2.value b.2.value))
    node_below (Call h f es) = plain_below h _ _ (λ s. then_rel way _ _ _ _ (args_below es s) (called_below h.at f))
