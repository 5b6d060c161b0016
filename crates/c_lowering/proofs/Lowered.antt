-- A lowered expression does what the expression does.
use Rattle.std.proofs.Common.{◌≡◌, ℕ, List, [], ◌∷◌, ◌++◌, map, Option, Some, None, refl, sym, ap, subst, ◌∙◌}
use mathlib.Core.List.{append_assoc}
use denote.Hole.Carrier
use Rattle.c_tree.specs.declared.token.At.{At}
use Rattle.c_tree.specs.declared.types.CType.{CType}
use Rattle.c_tree.specs.declared.syntax.Arithmetic.{Arithmetic}
use Rattle.c_tree.specs.declared.syntax.BinaryOperator.{BinaryOperator}
use Rattle.c_tree.specs.declared.typed.Head.{Head}
use Rattle.c_tree.specs.declared.typed.Callee.{Callee}
use Rattle.c_tree.specs.declared.typed.Callee.TheVariants as callee
use Rattle.c_tree.specs.declared.typed.Operation.{Operation}
use Rattle.c_tree.specs.declared.typed.Operation.TheVariants as operation
use Rattle.c_tree.specs.declared.typed.TypedExpr.{TypedExpr}
use Rattle.c_tree.specs.declared.typed.TypedExpr.TheVariants as tree
use Rattle.c_tree.specs.declared.typed.TypedExpr.TheOpen.{TypedExpr-F, Comma, Assign, Compound, Conditional, Binary, Unary, Before, After, Constant, Object, Element, Call, Convert}
use Rattle.c_tree.specs.declared.typed.TypedExpr.TheViews.{roll-TypedExpr}
use Rattle.c_tree.specs.declared.typed.TypedExpr.TheFolds.{fold-roll-TypedExpr, map-TypedExpr}
use Rattle.c_tree.proofs.TypedFolds.{Both, expr_relates}
use Rattle.c_meaning.specs.Operators.{Outcome, gives, undefined, calculate, computed_in, Sort, computes, compares, logical, sort_of}
use Rattle.c_meaning.specs.Parts.{State, Part, Gives, Cut, Fails, after, then_do, give, word, demand, outcome}
use Rattle.c_meaning.specs.Expressions.{World, Calls, Evaluation, expression, meaning, needed, two, as_value, in_order, called, combined}
use Rattle.c_meaning.proofs.Expressions.{with_calls}
use Rattle.c_helpers.specs.declared.operator.Operator.{Operator}
use Rattle.c_lowering.specs.Lowering.{Operators, number_of, wanted, wanted_by, binary_by, operation_by, operation_of, Lowered, lowered, lower_node, tree_in, lower_expr}
use Rattle.c_lowering.proofs.Following.{Way, Rel, same_rel, fails_rel, then_rel}
use Rattle.c_lowering.proofs.Expressions.{Evaluation_rel, needed_below, plain_below, Calls_rel, node_below}

-- ---- parts in order

after_after : {A : Type 0} (xs ys : List ℕ) (p : Part A) → after xs (after ys p) ≡ after (xs ++ ys) p
after_after xs ys (Gives o a s) = ap (λ o. Gives o a s) (sym (append_assoc xs ys o))
after_after xs ys (Cut o) = ap Cut (sym (append_assoc xs ys o))
after_after xs ys (Fails o why) = ap (λ o. Fails o why) (sym (append_assoc xs ys o))

after_then : {A B : Type 0} (out : List ℕ) (p : Part A) (f : A → State → Part B) → then_do (after out p) f ≡ after out (then_do p f)
after_then out (Gives o a s) f = sym (after_after out o (f a s))
after_then out (Cut o) f = refl
after_then out (Fails o why) f = refl

then_then : {A B C : Type 0} (p : Part A) (f : A → State → Part B) (g : B → State → Part C) → then_do (then_do p f) g ≡ then_do p (λ a s. then_do (f a s) g)
then_then (Gives o a s) f g = after_then o (f a s) g
then_then (Cut o) f g = refl
then_then (Fails o why) f g = refl

after_none : {A : Type 0} (p : Part A) → after [] p ≡ p
after_none (Gives out a s) = refl
after_none (Cut out) = refl
after_none (Fails out why) = refl

same_then : {A B : Type 0} (p : Part A) (f g : A → State → Part B) → ((a : A) (s : State) → f a s ≡ g a s) → then_do p f ≡ then_do p g
same_then p f g e = ap (then_do p) (λ i a s. e a s i)

-- two arguments, and what is done with them
two_arguments : {A : Type 0} (a b : Evaluation) (s : State) (go : List ℕ → State → Part A)
    → then_do (in_order (a ∷ b ∷ []) s) go ≡ then_do (needed a s) (λ x s1. then_do (needed b s1) (λ y s2. go (x ∷ y ∷ []) s2))
two_arguments {A} a b s go =
    then_then (needed a s) _ go
    ∙ same_then (needed a s) _ _ (λ x s1. then_then (in_order (b ∷ []) s1) _ go ∙ (then_then (needed b s1) _ _ ∙ same_then (needed b s1) _ _ (λ y s2. after_none _ ∙ after_none _)))

pub none_some : {A : Type 0} (x : A) → None ≡ Some x → ⊥
none_some {A} x e = subst is_none e tt
  where
    is_none : Option A → Type 0
    is_none None = Unit {0}
    is_none (Some y) = ⊥

-- ---- operators that become calls

module _ (p : Operators) (n : ℕ) where
  -- a call of the helper gives what the operator gives
  abbrev pub Helps : Way → ℕ → Calls → Type 0
  Helps way w d =
      (at : At) (o : Arithmetic) (t : CType) (k : Operator) (x y v : ℕ) (s : State)
      → wanted p n t o ≡ Some k → calculate w t o x y ≡ gives v → Rel way (give (word v) s) (d at (number_of p n k) (x ∷ y ∷ []) s)

  module _ (way : Way) (c : World) (d : Calls) (calls : Calls_rel way c.call d) (helps : Helps way c.bits d) where
    abbrev w : World
    w = with_calls c d

    helped : (r : Outcome) (at : At) (o : Arithmetic) (t : CType) (k : Operator) (x y : ℕ) (s : State) → wanted p n t o ≡ Some k → calculate c.bits t o x y ≡ r
        → Rel way (as_value (outcome r at s)) (d at (number_of p n k) (x ∷ y ∷ []) s)
    helped (gives v) at o t k x y s e f = helps at o t k x y v s e f
    helped (undefined what) at o t k x y s e f = fails_rel way _ _ _

    helped_word : (r : Outcome) (at : At) (o : Arithmetic) (t : CType) (k : Operator) (x y : ℕ) (s : State) → wanted p n t o ≡ Some k → calculate c.bits t o x y ≡ r
        → Rel way (outcome r at s) (then_do (d at (number_of p n k) (x ∷ y ∷ []) s) demand)
    helped_word (gives v) at o t k x y s e f = then_rel way (give (word v) s) _ demand demand (helps at o t k x y v s e f) (λ u s1. same_rel way _)
    helped_word (undefined what) at o t k x y s e f = fails_rel way _ _ _

    combined_by : (k : Option Operator) (o : Arithmetic) (t u t' u' : CType) (at : At) (x y : ℕ) (s : State) → wanted p n (computed_in o t u) o ≡ k → computed_in o t u ≡ computed_in o t' u'
        → Rel way (combined c (operation.Operator o) t u at x y s) (combined w (operation_by p n k o) t' u' at x y s)
    combined_by None o t u t' u' at x y s e f = subst (λ z. Rel way (outcome (calculate c.bits (computed_in o t u) o x y) at s) (outcome (calculate c.bits z o x y) at s)) f (same_rel way _)
    combined_by (Some k) o t u t' u' at x y s e f = helped_word (calculate c.bits (computed_in o t u) o x y) at o (computed_in o t u) k x y s e refl

    -- t and u are the source's types, t1 and u1 those by which the operation is chosen, t2 and u2 those of the lowered operands
    combined_rel : (o : Operation) (t u t1 u1 t2 u2 : CType) (at : At) (x y : ℕ) (s : State) → t ≡ t1 → u ≡ u1 → t ≡ t2 → u ≡ u2
        → Rel way (combined c o t u at x y s) (combined w (operation_of p n o t1 u1) t2 u2 at x y s)
    combined_rel (operation.Operator o) t u t1 u1 t2 u2 at x y s e f g h =
        combined_by (wanted p n (computed_in o t1 u1) o) o t u t2 u2 at x y s (ap (λ z. wanted p n z o) (λ i. computed_in o (e i) (f i))) (λ i. computed_in o (g i) (h i))
    combined_rel (operation.Helper q) t u t1 u1 t2 u2 at x y s e f g h = then_rel way _ _ _ _ (calls at q (x ∷ y ∷ []) s) (λ v s1. same_rel way _)

    pub record Lowers_to (a : Evaluation) (b : Lowered) : Type 0 where
      pub of : a.of ≡ b.of
      pub does : Evaluation_rel way a (meaning w b.tree)

    abbrev seen : Both Lowers_to → Both (Evaluation_rel way)
    seen e = (e.0, meaning w e.1.tree, e.2.does)

    -- a node that stays
    stays : (e : Evaluation) (h : Head) (y : TypedExpr-F TypedExpr) → e.of ≡ h.of → Evaluation_rel way e (expression w (map-TypedExpr TypedExpr Evaluation (meaning w) y)) → Lowers_to e (lowered p n h (roll-TypedExpr y))
    stays e h y o r = record { of = o; does = subst (Evaluation_rel way e) (sym (fold-roll-TypedExpr Evaluation (expression w) y)) r }

    abbrev step : (y : TypedExpr-F (Both (Evaluation_rel way))) → Evaluation_rel way (expression c (map-TypedExpr (Both (Evaluation_rel way)) Evaluation (λ e. e.0) y)) (expression w (map-TypedExpr (Both (Evaluation_rel way)) Evaluation (λ e. e.1) y))
    step = node_below way c d calls

    call_of : (k : Operator) (q : Sort) (h : Head) (a b : Both Lowers_to) (o : BinaryOperator) → wanted_by p n a.0.of q ≡ Some k
        → (s : State) → Rel way (two c a.0.of h q a.0 b.0 s) (then_do (in_order (meaning w a.1.tree ∷ meaning w b.1.tree ∷ []) s) (called w h.at (callee.Defined (number_of p n k))))
    call_of k (computes r) h a b o e s =
        let ea = meaning w a.1.tree in let eb = meaning w b.1.tree in
        let go = called w h.at (callee.Defined (number_of p n k)) in
        subst (Rel way (two c a.0.of h (computes r) a.0 b.0 s)) (sym (two_arguments ea eb s go))
        (then_rel way _ _ _ _ (needed_below way a.0 ea a.2.does s) (λ x s1. then_rel way _ _ _ _ (needed_below way b.0 eb b.2.does s1) (λ y s2.
        helped (calculate c.bits a.0.of r x y) h.at r a.0.of k x y s2 e refl)))
    call_of k (compares r u) h a b o e s = absurd (none_some k e)
    call_of k (logical r) h a b o e s = absurd (none_some k e)

    binary_rel : (k : Option Operator) (h : Head) (a b : Both Lowers_to) (o : BinaryOperator) → wanted_by p n a.0.of (sort_of o) ≡ k
        → Lowers_to (expression c (Binary h a.0 o b.0)) (lowered p n h (binary_by p n k h a.1.tree o b.1.tree))
    unfolding roll-TypedExpr denote.Hole.Carrier.roll
    binary_rel None h a b o e = stays _ h (Binary h a.1.tree o b.1.tree) refl (step (Binary h (seen a) o (seen b)))
    binary_rel (Some k) h a b o e =
        stays _ h (Call h (callee.Defined (number_of p n k)) (a.1.tree ∷ b.1.tree ∷ [])) refl
        (plain_below way h _ _ (call_of k (sort_of o) h a b o e))

    map_firsts : (es : List (Both Lowers_to)) → map (λ e. e.0) (map seen es) ≡ map (λ e. e.0) es
    map_firsts [] = refl
    map_firsts (e ∷ es) = ap (λ xs. e.0 ∷ xs) (map_firsts es)

    map_seconds : (es : List (Both Lowers_to)) → map (λ e. e.1) (map seen es) ≡ map (meaning w) (map (tree_in p n) (map (λ e. e.1) es))
    map_seconds [] = refl
    map_seconds (e ∷ es) = ap (λ xs. meaning w e.1.tree ∷ xs) (map_seconds es)

    call_rel : (h : Head) (f : Callee) (es : List (Both Lowers_to)) → Lowers_to (expression c (Call h f (map (λ e. e.0) es))) (lowered p n h (tree.Call h f (map (tree_in p n) (map (λ e. e.1) es))))
    unfolding roll-TypedExpr denote.Hole.Carrier.roll
    call_rel h f es =
        stays _ h (Call h f (map (tree_in p n) (map (λ e. e.1) es))) refl
        (subst (λ xs. Evaluation_rel way (expression c (Call h f xs)) (expression w (Call h f (map (meaning w) (map (tree_in p n) (map (λ e. e.1) es)))))) (map_firsts es)
        (subst (λ ys. Evaluation_rel way (expression c (Call h f (map (λ e. e.0) (map seen es)))) (expression w (Call h f ys))) (map_seconds es) (step (Call h f (map seen es)))))

    compound_rel : (h : Head) (a : Both Lowers_to) (o : Operation) (b : Both Lowers_to) → Lowers_to (expression c (Compound h a.0 o b.0)) (lowered p n h (tree.Compound h a.1.tree (operation_of p n o a.1.of b.1.of) b.1.tree))
    unfolding roll-TypedExpr denote.Hole.Carrier.roll
    compound_rel h a o b =
        let ea = meaning w a.1.tree in let eb = meaning w b.1.tree in
        stays _ h (Compound h a.1.tree (operation_of p n o a.1.of b.1.of) b.1.tree) refl
        (plain_below way h _ _ (λ s. then_rel way _ _ _ _ (a.2.does.lvalue s) (λ x s1. then_rel way _ _ _ _ (same_rel way _) (λ v s2. then_rel way _ _ _ _ (needed_below way b.0 eb b.2.does s2)
        (λ y s3. then_rel way _ _ _ _
        (combined_rel o a.0.of b.0.of a.1.of b.1.of ea.of eb.of h.at v y s3 a.2.of b.2.of a.2.does.of b.2.does.of)
        (λ r s4. same_rel way _))))))

    node_rel : (y : TypedExpr-F (Both Lowers_to)) → Lowers_to (expression c (map-TypedExpr (Both Lowers_to) Evaluation (λ e. e.0) y)) (lower_node p n (map-TypedExpr (Both Lowers_to) Lowered (λ e. e.1) y))
    unfolding roll-TypedExpr denote.Hole.Carrier.roll
    node_rel (Comma h a b) = stays _ h (Comma h a.1.tree b.1.tree) refl (step (Comma h (seen a) (seen b)))
    node_rel (Assign h a b) = stays _ h (Assign h a.1.tree b.1.tree) refl (step (Assign h (seen a) (seen b)))
    node_rel (Compound h a o b) = compound_rel h a o b
    node_rel (Conditional h a b e) = stays _ h (Conditional h a.1.tree b.1.tree e.1.tree) refl (step (Conditional h (seen a) (seen b) (seen e)))
    node_rel (Binary h a o b) = binary_rel (wanted_by p n a.1.of (sort_of o)) h a b o (ap (λ t. wanted_by p n t (sort_of o)) a.2.of)
    node_rel (Unary h o a) = stays _ h (Unary h o a.1.tree) refl (step (Unary h o (seen a)))
    node_rel (Before h o a) = stays _ h (Before h o a.1.tree) refl (step (Before h o (seen a)))
    node_rel (After h a o) = stays _ h (After h a.1.tree o) refl (step (After h (seen a) o))
    node_rel (Constant h v) = stays _ h (Constant h v) refl (step (Constant h v))
    node_rel (Object h x) = stays _ h (Object h x) refl (step (Object h x))
    node_rel (Element h x i) = stays _ h (Element h x i.1.tree) refl (step (Element h x (seen i)))
    node_rel (Call h f es) = call_rel h f es
    node_rel (Convert h a) = stays _ h (Convert h a.1.tree) refl (step (Convert h (seen a)))

    pub lowers_expr : (e : TypedExpr) → Evaluation_rel way (meaning c e) (meaning w (lower_expr p n e))
    lowers_expr e = (expr_relates Evaluation Lowered (expression c) (lower_node p n) Lowers_to node_rel e).does
