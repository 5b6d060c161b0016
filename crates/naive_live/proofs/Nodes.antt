-- What is live in the code of each expression that means something.
use Rattle.std.proofs.Common.{◌≡◌, inl, inr, ℕ, ◌+◌, Bool, true, false, ◌&&◌, List, [], ◌∷◌, map, Option, Some, refl, sym, subst}
use Rattle.std.specs.Prelude.{length}
use Rattle.c_tree.specs.declared.types.CType.{CType}
use Rattle.c_tree.specs.declared.types.CType.TheVariants as type
use Rattle.c_tree.specs.declared.syntax.UnaryOperator.{UnaryOperator}
use Rattle.c_tree.specs.declared.syntax.UnaryOperator.TheVariants as unary
use Rattle.c_tree.specs.declared.typed.Callee.{Callee}
use Rattle.c_tree.specs.declared.typed.Callee.TheVariants as callee
use Rattle.c_tree.specs.declared.typed.Variable.{Variable}
use Rattle.c_tree.specs.declared.typed.TypedExpr.{TypedExpr}
use Rattle.c_tree.specs.declared.typed.TypedExpr.TheOpen.{TypedExpr-F, Comma, Assign, Compound, Conditional, Binary, Unary, Before, After, Constant, Object, Element, Call, Convert}
use Rattle.c_tree.specs.declared.typed.TypedExpr.TheFolds.{map-TypedExpr}
use Rattle.c_tree.proofs.TypedFolds.{Both, expr_relates}
use Rattle.c_limits.specs.Frames.{word_bytes}
use Rattle.c_meaning.specs.Operators.{Sort, computes, compares, logical, sort_of, relation_in}
use Rattle.c_sound.specs.Sound as meant
use Rattle.c_sound.specs.Sound.{Checked, Known, is_scalar, is_array}
use Rattle.naive_code.specs.Operations.{constant, complement}
use Rattle.naive_code.specs.Storage.{Storage, Elements}
use Rattle.naive_code.specs.Expressions as naive
use Rattle.naive_code.specs.Expressions.{Value, Test, Designated, object, element, Naive, Site, leaf, test_of, then_on, joined, computed, compared, in_turn, value_of, read_object, read_element, spare_count, spare_depths, narrowed}
use Rattle.naive_live.specs.Live.{Lives}
use Rattle.naive_live.proofs.Lists.{within_same, Below, stacked, fresh}
use Rattle.naive_live.proofs.Passing.{only, comes_new}
use Rattle.naive_live.proofs.Values.{Deep, IsStacked, IsStackedTest, leaf_stacked, then_on_stacked, joined_stacked, compared_stacked, comma_stacked, test_of_stacked, denied_stacked, after_stacked as tested_stacked, in_turn_stacked, value_of_stacked, negated_stacked, chosen_stacked}
use Rattle.naive_live.proofs.Places.{IsPlace, IsScalarIn, object_place, element_place, object_stacked, element_stacked, computed_lives, narrowed_lives, assigned_stacked, compound_stacked, before_stacked, after_stacked}
use Rattle.naive_live.proofs.Calls.{AllStacked, IsGiven, call_stacked}
use Rattle.naive_live.proofs.Storages.{both_so, IsArrayIn}

clash : false ≡ true → ⊥
clash e = cc

module _ (depth : ℕ → Option ℕ) (scalars : ℕ) where
  -- an expression's value and test, and where it is one the place that it stands for
  pub record NodeLives (n : Naive) (k : Checked) : Type 0 where
    pub value : IsStacked depth scalars n.value
    pub test : IsStackedTest depth scalars n.test
    pub place : k.place ≡ true → IsPlace depth scalars n.place

  abbrev pub IsLively : Naive → Checked → Type 0
  IsLively n k = k.sound ≡ true → NodeLives n k

  logical_node : (of : CType) (v : Value) (x : Test) (b : Bool) → IsStacked depth scalars v → IsStackedTest depth scalars x → NodeLives (naive.logical_value of v x) (meant.value b)
  logical_node of v x b h g = record { value = h; test = g; place = λ e. absurd (clash e) }

  plain_node : (of : CType) (v : Value) (b : Bool) → IsStacked depth scalars v → NodeLives (naive.plain of v) (meant.value b)
  plain_node of v b h = logical_node of v (test_of v) b h (test_of_stacked depth scalars v h)

  constant_stacked : (n : ℕ) → IsStacked depth scalars (leaf (λ t. constant t n ∷ []))
  constant_stacked n =
      leaf_stacked depth scalars (λ t. constant t n ∷ [])
      (λ env xs d t b e. only depth scalars env (constant t n) xs (t ∷ xs) (refl, comes_new depth scalars env t xs (fresh depth d t xs e b)))

  object_node : (of : CType) (s : Storage) (b : Bool) → IsScalarIn depth scalars s
      → NodeLives (record { of = of; value = read_object s; test = test_of (read_object s); place = object s }) (meant.place b)
  object_node of s b h = record {
    value = object_stacked depth scalars s h;
    test = test_of_stacked depth scalars (read_object s) (object_stacked depth scalars s h);
    place = λ e. object_place depth scalars s h;
  }

  element_node : (of : CType) (s : Storage) (i : Value) (b : Bool) → IsArrayIn s → IsStacked depth scalars i
      → NodeLives (record { of = of; value = read_element s i; test = test_of (read_element s i); place = element s i }) (meant.place b)
  element_node of s i b h p =
      subst (λ (z : Storage). NodeLives (record { of = of; value = read_element z i; test = test_of (read_element z i); place = element z i }) (meant.place b)) (sym h.2)
      (record {
        value = element_stacked depth scalars h.0 h.1 i p;
        test = test_of_stacked depth scalars (read_element (Elements h.0 h.1) i) (element_stacked depth scalars h.0 h.1 i p);
        place = λ e. element_place depth scalars h.0 h.1 i p;
      })

  spare_many : (of : CType) (d : ℕ) → length (spare_depths of d) ≡ spare_count of
  spare_many type.Schar d = refl
  spare_many type.Uchar d = refl
  spare_many type.Void d = refl
  spare_many type.Int d = refl
  spare_many type.Unsigned d = refl

  abbrev Narrows : CType → Type 0
  Narrows of =
      (env : ℕ → List ℕ) (xs : List ℕ) (d v t : ℕ) → Below depth d xs → depth v ≡ Some d → Deep depth scalars t (spare_depths of d)
      → Lives depth scalars env (v ∷ xs) (narrowed of v t) (v ∷ xs)

  narrows : (of : CType) → Narrows of
  narrows type.Schar env xs d v t b e h = narrowed_lives depth scalars env (v ∷ xs) type.Schar v t (inl refl) (fresh depth (d + 1) t (v ∷ xs) h.0 (stacked depth d v xs e b))
  narrows type.Uchar env xs d v t b e h = narrowed_lives depth scalars env (v ∷ xs) type.Uchar v t (inl refl) (fresh depth (d + 1) t (v ∷ xs) h.0 (stacked depth d v xs e b))
  narrows type.Void env xs d v t b e h = within_same (v ∷ xs)
  narrows type.Int env xs d v t b e h = within_same (v ∷ xs)
  narrows type.Unsigned env xs d v t b e h = within_same (v ∷ xs)

  convert_stacked : (of : CType) (a : Value) → IsStacked depth scalars a → IsStacked depth scalars (then_on a (spare_count of) (spare_depths of) (narrowed of))
  convert_stacked of a p = then_on_stacked depth scalars a (spare_count of) (spare_depths of) (narrowed of) p (spare_many of) (narrows of)

  unary_node : (of : CType) (o : UnaryOperator) (a : Naive) (b : Bool) → IsStacked depth scalars a.value → IsStackedTest depth scalars a.test
      → NodeLives (naive.logical_value of (naive.one o a) (naive.truth_of_one o a)) (meant.value b)
  unary_node of unary.Plus a b h g = logical_node of a.value (test_of a.value) b h (test_of_stacked depth scalars a.value h)
  unary_node of unary.Minus a b h g =
      let k = negated_stacked depth scalars a.value h in logical_node of (naive.negated a.value) (test_of (naive.negated a.value)) b k (test_of_stacked depth scalars (naive.negated a.value) k)
  unary_node of unary.Complement a b h g =
      let v = then_on a.value 0 (λ d. []) (λ v t. complement v ∷ []) in
      let k = then_on_stacked depth scalars a.value 0 (λ d. []) (λ v t. complement v ∷ []) h (λ d. refl)
      (λ env xs d v t b e m. only depth scalars env (complement v) (v ∷ xs) (v ∷ xs) (refl, inr (inl refl), within_same (v ∷ xs))) in
      logical_node of v (test_of v) b k (test_of_stacked depth scalars v k)
  unary_node of unary.Not a b h g =
      let k = denied_stacked depth scalars a.test g in logical_node of (value_of (naive.denied a.test)) (naive.denied a.test) b (value_of_stacked depth scalars (naive.denied a.test) k) k

  binary_node : (of by : CType) (s : Sort) (a b : Naive) (z : Bool) → IsStacked depth scalars a.value → IsStackedTest depth scalars a.test
      → IsStacked depth scalars b.value → IsStackedTest depth scalars b.test → NodeLives (naive.logical_value of (naive.two by s a b) (naive.truth_of by s a b)) (meant.value z)
  binary_node of by (computes o) a b z h g k m =
      let v = joined a.value b.value (computed o by) in
      let n = joined_stacked depth scalars a.value b.value h k (computed o by) (λ env xs x y. computed_lives depth scalars env xs o by x y) in
      logical_node of v (test_of v) z n (test_of_stacked depth scalars v n)
  binary_node of by (compares r u) a b z h g k m =
      let x = compared (relation_in by r u) a.value b.value in
      let n = compared_stacked depth scalars a.value b.value h k (relation_in by r u) in
      logical_node of (value_of x) x z (value_of_stacked depth scalars x n) n
  binary_node of by (logical and) a b z h g k m =
      let x = in_turn and a.test b.test in
      let n = in_turn_stacked depth scalars and a.test b.test g m in
      logical_node of (value_of x) x z (value_of_stacked depth scalars x n) n

  -- ---- all nodes

  module _ (c : Site) (k : Known) (objects : (x : Variable) → is_scalar (k.kind x) ≡ true → IsScalarIn depth scalars (c.storage x))
      (arrays : (x : Variable) → is_array (k.kind x) ≡ true → IsArrayIn (c.storage x)) where
    abbrev T : Type 0
    T = Both IsLively

    abbrev values_in : List T → List Value
    values_in es = map (λ e. e.value) (map (λ e. e.0) es)

    all_stacked : (es : List T) → meant.each (map (λ e. e.1) es) ≡ true → AllStacked depth scalars (values_in es)
    all_stacked [] e = tt
    all_stacked (x ∷ es) e =
        let p = both_so x.1.sound (meant.each (map (λ e. e.1) es)) e in
        ((x.2 p.0).value, all_stacked es p.1)

    is_given : (g : Callee) (es : List T) → meant.callee_stands k.functions g (map (λ e. e.1) es) ≡ true → IsGiven depth scalars g (values_in es)
    is_given (callee.Defined f) es e = tt
    is_given callee.Getchar es e = tt
    is_given callee.Putchar [] e = absurd (clash e)
    is_given callee.Putchar (x ∷ es) e = tt

    node_lively : (y : TypedExpr-F T) → IsLively (naive.naive_node c (map-TypedExpr T Naive (λ e. e.0) y)) (meant.expression k (map-TypedExpr T Checked (λ e. e.1) y))
    node_lively (Constant h v) e = plain_node h.of (leaf (λ t. constant t v ∷ [])) (meant.expression k (Constant h v)).sound (constant_stacked v)
    node_lively (Object h x) e = object_node h.of (c.storage x) (is_scalar (k.kind x)) (objects x e)
    node_lively (Element h x i) e =
        let p = both_so (is_array (k.kind x)) i.1.sound e in
        element_node h.of (c.storage x) i.0.value (is_array (k.kind x) && i.1.sound) (arrays x p.0) (i.2 p.1).value
    node_lively (Assign h a b) e =
        let p = both_so (meant.assigned a.1) b.1.sound e in let q = both_so a.1.place a.1.sound p.0 in
        plain_node h.of (naive.assigned a.0.place b.0.value) (meant.assigned a.1 && b.1.sound)
        (assigned_stacked depth scalars a.0.place b.0.value ((a.2 q.1).place q.0) (b.2 p.1).value)
    node_lively (Compound h a o b) e =
        let p = both_so (meant.assigned a.1) (meant.operation_stands k.functions o && b.1.sound) e in let q = both_so a.1.place a.1.sound p.0 in
        let r = both_so (meant.operation_stands k.functions o) b.1.sound p.1 in
        plain_node h.of (naive.compound (word_bytes c.bits) o a.0.of a.0.place b.0.of b.0.value) (meant.assigned a.1 && (meant.operation_stands k.functions o && b.1.sound))
        (compound_stacked depth scalars (word_bytes c.bits) o a.0.of b.0.of a.0.place b.0.value ((a.2 q.1).place q.0) (b.2 r.1).value)
    node_lively (Before h o a) e =
        let q = both_so a.1.place a.1.sound e in
        plain_node h.of (naive.stepped_before o a.0.of a.0.place) (meant.assigned a.1) (before_stacked depth scalars o a.0.of a.0.place ((a.2 q.1).place q.0))
    node_lively (After h a o) e =
        let q = both_so a.1.place a.1.sound e in
        plain_node h.of (naive.stepped_after o a.0.of a.0.place) (meant.assigned a.1) (after_stacked depth scalars o a.0.of a.0.place ((a.2 q.1).place q.0))
    node_lively (Binary h a o b) e =
        let p = both_so a.1.sound b.1.sound e in let x = a.2 p.0 in let y = b.2 p.1 in
        binary_node h.of a.0.of (sort_of o) a.0 b.0 (a.1.sound && b.1.sound) x.value x.test y.value y.test
    node_lively (Unary h o a) e = let x = a.2 e in unary_node h.of o a.0 a.1.sound x.value x.test
    node_lively (Convert h a) e =
        plain_node h.of (then_on a.0.value (spare_count h.of) (spare_depths h.of) (narrowed h.of)) a.1.sound (convert_stacked h.of a.0.value (a.2 e).value)
    node_lively (Comma h a b) e =
        let p = both_so a.1.sound b.1.sound e in let x = a.2 p.0 in let y = b.2 p.1 in
        logical_node h.of (naive.both a.0.value 0 b.0.value) (naive.tested_after a.0.value b.0.test) (a.1.sound && b.1.sound)
        (comma_stacked depth scalars a.0.value b.0.value x.value y.value) (tested_stacked depth scalars a.0.value b.0.test x.value y.test)
    node_lively (Conditional h a b d) e =
        let p = both_so a.1.sound (b.1.sound && d.1.sound) e in let q = both_so b.1.sound d.1.sound p.1 in
        plain_node h.of (naive.chosen a.0.test b.0.value d.0.value) (a.1.sound && (b.1.sound && d.1.sound))
        (chosen_stacked depth scalars a.0.test b.0.value d.0.value (a.2 p.0).test (b.2 q.0).value (d.2 q.1).value)
    node_lively (Call h g es) e =
        let p = both_so (meant.callee_stands k.functions g (map (λ e. e.1) es)) (meant.each (map (λ e. e.1) es)) e in
        plain_node h.of (naive.call_of (word_bytes c.bits) g (values_in es)) (meant.callee_stands k.functions g (map (λ e. e.1) es) && meant.each (map (λ e. e.1) es))
        (call_stacked depth scalars (word_bytes c.bits) g (values_in es) (is_given g es p.0) (all_stacked es p.1))

    pub expression_lives : (e : TypedExpr) → IsLively (naive.naive c e) (meant.checked k e)
    expression_lives = expr_relates Naive Checked (naive.naive_node c) (meant.expression k) IsLively node_lively
