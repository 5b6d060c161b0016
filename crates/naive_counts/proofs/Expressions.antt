-- The code of an expression takes no more transfers than the expression weighs, and that of its test three more.
use Rattle.std.proofs.Common.{◌≡◌, ℕ, zero, suc, ◌+◌, ◌≤◌, List, [], ◌∷◌, ◌++◌, map, Option, Some, None, refl, sym, subst, arith, true, false}
use Rattle.std.specs.Prelude.{Bool, not, ◌&&◌, length, slice_get}
use Rattle.rtl_word.specs.declared.Rel.{Rel}
use Rattle.rtl_word.specs.declared.Rel.TheVariants.{Ne}
use Rattle.c_tree.specs.declared.types.CType.{CType}
use Rattle.c_tree.specs.declared.types.CType.TheVariants as type
use Rattle.c_tree.specs.declared.syntax.Arithmetic.{Arithmetic}
use Rattle.c_tree.specs.declared.syntax.Arithmetic.TheVariants as arithmetic
use Rattle.c_tree.specs.declared.syntax.BinaryOperator.{BinaryOperator}
use Rattle.c_tree.specs.declared.syntax.BinaryOperator.TheVariants as binary
use Rattle.c_tree.specs.declared.syntax.UnaryOperator.{UnaryOperator}
use Rattle.c_tree.specs.declared.syntax.UnaryOperator.TheVariants as unary
use Rattle.c_tree.specs.declared.syntax.StepOperator.{StepOperator}
use Rattle.c_tree.specs.declared.typed.Variable.{Variable}
use Rattle.c_tree.specs.declared.typed.Variable.TheVariants as variable
use Rattle.c_tree.specs.declared.typed.Object.{Object as Thing}
use Rattle.c_tree.specs.declared.typed.Static.{Static}
use Rattle.c_tree.specs.declared.typed.Callee.{Callee}
use Rattle.c_tree.specs.declared.typed.Callee.TheVariants as callee
use Rattle.c_tree.specs.declared.typed.Operation.{Operation}
use Rattle.c_tree.specs.declared.typed.Operation.TheVariants as operation
use Rattle.c_tree.specs.declared.typed.TypedExpr.{TypedExpr}
use Rattle.c_tree.specs.declared.typed.TypedExpr.TheOpen.{TypedExpr-F, Comma, Assign, Compound, Conditional, Binary, Unary, Before, After, Constant, Object, Element, Call, Convert}
use Rattle.c_tree.specs.declared.typed.TypedExpr.TheFolds.{map-TypedExpr}
use Rattle.c_tree.specs.declared.typed.Function.{Function}
use Rattle.c_tree.specs.declared.typed.Typed.{Typed}
use Rattle.c_limits.specs.Frames.{word_bytes}
use Rattle.c_limits.specs.Weights.{place_of, read_weight, assigned_weight, operation_weight, binary_weight, unary_weight, conversion_weight, value as weighing, named, each, expression_weight, weight_in}
use Rattle.c_meaning.specs.Operators.{Sort, computes, compares, logical, sort_of, relation_in, computed_in}
use Rattle.c_meaning.specs.Run.{kind_in, kind_of, kind_by, object_of}
use Rattle.naive_code.specs.Operations as code
use Rattle.rtl_tree.specs.declared.expressions.BinOp.TheVariants as op
use Rattle.naive_code.specs.Operations.{Op, Falls, Jumps, Close, Calls, constant, copy, read_result}
use Rattle.naive_code.specs.Storage.{Base, Symbol, Frame, Storage, Temporary, Word, Elements, Missing, storage_of, local_in, local_storage, static_in, static_storage}
use Rattle.naive_code.specs.Expressions as naive
use Rattle.naive_code.specs.Expressions.{Value, Test, Designated, object, element, nowhere, Naive, Site}
use Rattle.naive_code.specs.Functions.{site_of}
use Rattle.naive_run.specs.Sound.{is_array}
use Rattle.naive_counts.specs.Counts.{most_with}
use Rattle.naive_counts.specs.Names.{names_in, expression_names, all_true}
use Rattle.naive_counts.proofs.Longest.{most_append}
use Rattle.naive_counts.proofs.Folds.{Three, expressions_relate}

-- the types of weights and of places, which have no name outside their crate
abbrev type_of : {A : Type 0} → A → Type 0
type_of {A} x = A

abbrev pub Weight : Type 0
Weight = type_of (weighing 0)

abbrev Place : Type 0
Place = type_of (place_of (variable.Local 0))

pub both_so : (a b : Bool) → (a && b) ≡ true → (a ≡ true) × (b ≡ true)
both_so true b e = (refl, e)
both_so false b e = absurd (grind (arith, e))

-- where a return counts as so many transfers
module _ (per : ℕ) where
  -- what the code of an expression takes
  pub record Counted (n : Naive) (w : Weight) : Type 0 where
    pub value : (t l : ℕ) → most_with per (n.value.ops t l) ≤ w.total
    pub test : (sense : Bool) (target next t l : ℕ) → most_with per (n.test.ops sense target next t l) ≤ w.total + 3
    pub opens_most : ℕ
    pub gets_most : ℕ
    pub puts_most : ℕ
    pub settles_most : ℕ
    pub opens : (t l : ℕ) → most_with per ((naive.opened n.place).ops t l) ≤ w.inside + opens_most
    pub gets : (v a t : ℕ) → most_with per (naive.got_from (naive.storage_in n.place) v a t) ≤ gets_most
    pub puts : (a v t : ℕ) → most_with per (naive.put_into (naive.storage_in n.place) a v t) ≤ puts_most
    pub settles : (a v : ℕ) → most_with per (naive.settled n.place a v) ≤ settles_most
    -- an assignment weighs what its place takes, and one that computes has room for a conversion and a copy besides
    pub assigned_room : opens_most + puts_most + settles_most ≤ assigned_weight w.place
    pub changed_room : opens_most + gets_most + puts_most + settles_most + 4 ≤ assigned_weight w.place + read_weight w.place + 4

  -- ---- parts

  narrowed_most : (of : CType) (v t : ℕ) → most_with per (naive.narrowed of v t) ≤ 3
  narrowed_most type.Schar v t = omega arith
  narrowed_most type.Uchar v t = omega arith
  narrowed_most type.Int v t = omega arith
  narrowed_most type.Unsigned v t = omega arith
  narrowed_most type.Void v t = omega arith

  converted_most : (of : CType) (v t : ℕ) → most_with per (naive.narrowed of v t) ≤ conversion_weight of
  converted_most type.Schar v t = omega arith
  converted_most type.Uchar v t = omega arith
  converted_most type.Int v t = omega arith
  converted_most type.Unsigned v t = omega arith
  converted_most type.Void v t = omega arith

  fetched_most : (of : CType) (v a t : ℕ) → most_with per (naive.fetched of v a t) ≤ 4
  fetched_most type.Schar v a t = omega arith
  fetched_most type.Uchar v a t = omega arith
  fetched_most type.Int v a t = omega arith
  fetched_most type.Unsigned v a t = omega arith
  fetched_most type.Void v a t = omega arith

  pub put_most : (of : CType) (a v : ℕ) → most_with per (naive.put_at of a v) ≤ 1
  put_most type.Schar a v = omega arith
  put_most type.Uchar a v = omega arith
  put_most type.Int a v = omega arith
  put_most type.Unsigned a v = omega arith
  put_most type.Void a v = omega arith

  scaled_most : (of : CType) (i t : ℕ) → most_with per (naive.scaled of i t) ≤ 2
  scaled_most type.Schar i t = omega arith
  scaled_most type.Uchar i t = omega arith
  scaled_most type.Int i t = omega arith
  scaled_most type.Unsigned i t = omega arith
  scaled_most type.Void i t = omega arith

  base_most : (b : Base) (t : ℕ) → most_with per (naive.base_ops b t) ≤ 3
  base_most (Symbol y) t = omega arith
  base_most (Frame offset) t = omega arith

  got_most : (s : Storage) (v a t : ℕ) → most_with per (naive.got_from s v a t) ≤ 4
  got_most (Temporary k) v a t = omega arith
  got_most (Word y) v a t = omega arith
  got_most (Elements b of) v a t = fetched_most of v a t
  got_most Missing v a t = omega arith

  pub put_into_most : (s : Storage) (a v t : ℕ) → most_with per (naive.put_into s a v t) ≤ 2
  put_into_most (Temporary k) a v t = omega arith
  put_into_most (Word y) a v t = omega arith
  put_into_most (Elements b of) a v t = let e = put_most of a v in omega (arith, e)
  put_into_most Missing a v t = omega arith

  address_most : (s : Storage) (i : Value) (n : ℕ) → ((t l : ℕ) → most_with per (i.ops t l) ≤ n) → (t l : ℕ) → most_with per ((naive.address_in s i).ops t l) ≤ n + 6
  address_most (Temporary k) i n h t l = omega arith
  address_most (Word y) i n h t l = omega arith
  address_most (Elements b of) i n h t l =
      let v = i.result t in let u = t + i.temps in
      let e = most_append per (i.ops t l) (naive.addressed b of v u) in
      let e1 = most_append per (naive.scaled of v (u + 2)) (naive.base_ops b u ++ code.add v u ∷ []) in
      let e2 = most_append per (naive.base_ops b u) (code.add v u ∷ []) in
      let p = h t l in let q = scaled_most of v (u + 2) in let r = base_most b u in
      omega (arith, e, e1, e2, p, q, r)
  address_most Missing i n h t l = omega arith

  element_most : (s : Storage) (i : Value) (n : ℕ) → ((t l : ℕ) → most_with per (i.ops t l) ≤ n) → (t l : ℕ) → most_with per ((naive.read_element s i).ops t l) ≤ 12 + n
  element_most (Temporary k) i n h t l = omega arith
  element_most (Word y) i n h t l = omega arith
  element_most (Elements b of) i n h t l =
      let a = naive.address_in (Elements b of) i in
      let e = most_append per (a.ops t l) (naive.fetched of (i.result t) (i.result t) (t + a.temps)) in
      let p = address_most (Elements b of) i n h t l in let q = fetched_most of (i.result t) (i.result t) (t + a.temps) in
      omega (arith, e, p, q)
  element_most Missing i n h t l = omega arith

  -- a test of a value, and a value of a test
  test_most : (v : Value) (n : ℕ) → ((t l : ℕ) → most_with per (v.ops t l) ≤ n) → (sense : Bool) (target next t l : ℕ) → most_with per ((naive.test_of v).ops sense target next t l) ≤ n + 3
  test_most v n h sense target next t l = let e = most_append per (v.ops t l) (constant (t + v.temps) 0 ∷ Close (code.Branches (naive.relation_if sense Ne) (v.result t) (t + v.temps) target) next ∷ []) in let p = h t l in omega (arith, e, p)

  truth_most : (x : Test) (n : ℕ) → ((sense : Bool) (target next t l : ℕ) → most_with per (x.ops sense target next t l) ≤ n) → (t l : ℕ) → most_with per ((naive.value_of x).ops t l) ≤ n + 2
  truth_most x n h t l =
      let e = most_append per (x.ops false l (l + 1) (t + 1) (l + 2)) (constant t 1 ∷ Close Falls l ∷ []) in
      let p = h false l (l + 1) (t + 1) (l + 2) in
      omega (arith, e, p)

  -- an expression that designates nothing
  logical_counted : (of : CType) (v : Value) (x : Test) (n : ℕ) → ((t l : ℕ) → most_with per (v.ops t l) ≤ n) → ((sense : Bool) (target next t l : ℕ) → most_with per (x.ops sense target next t l) ≤ n + 3)
      → Counted (naive.logical_value of v x) (weighing n)
  logical_counted of v x n h g = record {
    value = h;
    test = g;
    opens_most = 0;
    gets_most = 0;
    puts_most = 0;
    settles_most = 0;
    opens = λ t l. omega arith;
    gets = λ v a t. omega arith;
    puts = λ a v t. omega arith;
    settles = λ a v. omega arith;
    assigned_room = omega arith;
    changed_room = omega arith;
  }

  plain_counted : (of : CType) (v : Value) (n : ℕ) → ((t l : ℕ) → most_with per (v.ops t l) ≤ n) → Counted (naive.plain of v) (weighing n)
  plain_counted of v n h = logical_counted of v (naive.test_of v) n h (test_most v n h)

  -- ---- operators

  computed_most : (o : Arithmetic) (of : CType) (a b : ℕ) → most_with per (naive.computed o of a b) ≤ 2
  computed_most arithmetic.Add of a b = omega arith
  computed_most arithmetic.And of a b = omega arith
  computed_most _ of a b = omega arith

  combined_most : (bytes : ℕ) (o : Operation) (of by : CType) (v b l : ℕ) → most_with per (naive.combined bytes o of by v b l) ≤ operation_weight o
  combined_most bytes (operation.Operator o) of by v b l = let e = computed_most o (computed_in o of by) v b in let w = arithmetic_two o in omega (arith, e, w)
    where
      arithmetic_two : (o : Arithmetic) → 2 ≤ operation_weight (operation.Operator o)
      arithmetic_two arithmetic.Add = omega arith
      arithmetic_two _ = omega arith
  combined_most bytes (operation.Helper f) of by v b l = omega arith

  -- how much an operator takes beside its operands
  abbrev room_of : Sort → ℕ
  room_of (computes o) = 2
  room_of (compares r u) = 8
  room_of (logical b) = 8

  operator_room : (o : BinaryOperator) → room_of (sort_of o) ≤ binary_weight o
  operator_room binary.LogicalOr = omega arith
  operator_room _ = omega arith

  module _ (a b : Naive) (x y : Weight) (p : Counted a x) (q : Counted b y) where
    joined_most : (n : ℕ) (os : ℕ → ℕ → List Op) → ((v w : ℕ) → most_with per (os v w) ≤ n) → (t l : ℕ) → most_with per ((naive.joined a.value b.value os).ops t l) ≤ n + x.total + y.total
    joined_most n os h t l =
        let u = t + a.value.temps in let k = l + a.value.labels in
        let after = os (a.value.result t) (b.value.result u) in
        let e = most_append per (a.value.ops t l) (b.value.ops u k ++ after) in let e1 = most_append per (b.value.ops u k) after in
        let g = p.value t l in let g1 = q.value u k in let g2 = h (a.value.result t) (b.value.result u) in
        omega (arith, e, e1, g, g1, g2)

    compared_most : (r : Rel) (sense : Bool) (target next t l : ℕ) → most_with per ((naive.compared r a.value b.value).ops sense target next t l) ≤ x.total + y.total + 2
    compared_most r sense target next t l =
        let u = t + a.value.temps in let k = l + a.value.labels in
        let last = Close (code.Branches (naive.relation_if sense r) (a.value.result t) (b.value.result u) target) next ∷ [] in
        let e = most_append per (a.value.ops t l) (b.value.ops u k ++ last) in let e1 = most_append per (b.value.ops u k) last in
        let g = p.value t l in let g1 = q.value u k in
        omega (arith, e, e1, g, g1)

    in_turn_most : (and sense : Bool) (target next t l : ℕ) → most_with per ((naive.in_turn and a.test b.test).ops sense target next t l) ≤ x.total + y.total + 6
    in_turn_most and sense target next t l =
        let u = t + a.test.temps in let k = l + 1 + a.test.labels in
        let first = a.test.ops (not and) (naive.decided and sense target next) l t (l + 1) in
        let e = most_append per first (b.test.ops sense target next u k) in
        let g = p.test (not and) (naive.decided and sense target next) l t (l + 1) in let g1 = q.test sense target next u k in
        omega (arith, e, g, g1)

    binary_counted : (of by : CType) (s : Sort) (n : ℕ) → room_of s ≤ n → Counted (naive.logical_value of (naive.two by s a b) (naive.truth_of by s a b)) (weighing (n + x.total + y.total))
    binary_counted of by (computes o) n le =
        logical_counted of _ _ (n + x.total + y.total) bound (test_most (naive.joined a.value b.value (naive.computed o by)) (n + x.total + y.total) bound)
      where
        bound : (t l : ℕ) → most_with per ((naive.joined a.value b.value (naive.computed o by)).ops t l) ≤ n + x.total + y.total
        bound t l = let e = joined_most 2 (naive.computed o by) (computed_most o by) t l in omega (arith, e, le)
    binary_counted of by (compares r u) n le =
        logical_counted of _ _ (n + x.total + y.total)
        (λ t l. let e = truth_most (naive.compared (relation_in by r u) a.value b.value) (x.total + y.total + 2) (compared_most (relation_in by r u)) t l in omega (arith, e, le))
        (λ sense target next t l. let e = compared_most (relation_in by r u) sense target next t l in omega (arith, e))
    binary_counted of by (logical and) n le =
        logical_counted of _ _ (n + x.total + y.total)
        (λ t l. let e = truth_most (naive.in_turn and a.test b.test) (x.total + y.total + 6) (in_turn_most and) t l in omega (arith, e, le))
        (λ sense target next t l. let e = in_turn_most and sense target next t l in omega (arith, e, le))

    comma_counted : (of : CType) → Counted (naive.logical_value of (naive.both a.value 0 b.value) (naive.tested_after a.value b.test)) (weighing (x.total + y.total))
    comma_counted of =
        logical_counted of _ _ (x.total + y.total)
        (λ t l. let e = most_append per (a.value.ops t l) (b.value.ops (t + a.value.temps) (l + a.value.labels)) in let g = p.value t l in let g1 = q.value (t + a.value.temps) (l + a.value.labels) in omega (arith, e, g, g1))
        (λ sense target next t l.
        let e = most_append per (a.value.ops t l) (b.test.ops sense target next (t + a.value.temps) (l + a.value.labels)) in
        let g = p.value t l in let g1 = q.test sense target next (t + a.value.temps) (l + a.value.labels) in
        omega (arith, e, g, g1))

    assign_counted : (of : CType) → Counted (naive.plain of (naive.assigned a.place b.value)) (weighing (assigned_weight x.place + x.inside + y.total))
    assign_counted of = plain_counted of (naive.assigned a.place b.value) _ bound
      where
        bound : (t l : ℕ) → most_with per ((naive.assigned a.place b.value).ops t l) ≤ assigned_weight x.place + x.inside + y.total
        bound t l =
            let o = naive.opened a.place in let u = t + o.temps in let k = l + o.labels in
            let r = b.value.result u in
            let puts = naive.put_into (naive.storage_in a.place) (o.result t) r (u + b.value.temps) in
            let last = naive.settled a.place (o.result t) r in
            let e = most_append per (o.ops t l) (b.value.ops u k ++ (puts ++ last)) in let e1 = most_append per (b.value.ops u k) (puts ++ last) in let e2 = most_append per puts last in
            let g = p.opens t l in let g1 = q.value u k in let g2 = p.puts (o.result t) r (u + b.value.temps) in let g3 = p.settles (o.result t) r in
            let room = p.assigned_room in
            omega (arith, e, e1, e2, g, g1, g2, g3, room)

    compound_counted : (of : CType) (bytes : ℕ) (o : Operation) → Counted (naive.plain of (naive.compound bytes o a.of a.place b.of b.value)) (weighing (assigned_weight x.place + read_weight x.place + operation_weight o + 4 + x.inside + y.total))
    compound_counted of bytes o = plain_counted of (naive.compound bytes o a.of a.place b.of b.value) _ bound
      where
        bound : (t l : ℕ) → most_with per ((naive.compound bytes o a.of a.place b.of b.value).ops t l) ≤ assigned_weight x.place + read_weight x.place + operation_weight o + 4 + x.inside + y.total
        bound t l =
            let at = naive.opened a.place in
            let v = t + at.temps in let u = v + 2 in let fresh = u + b.value.temps in let m = l + naive.operation_labels o in
            let s = naive.storage_in a.place in
            let o1 = naive.got_from s v (at.result t) (v + 1) in
            let o2 = b.value.ops u (m + at.labels) in
            let o3 = naive.combined bytes o a.of b.of v (b.value.result u) l in
            let o4 = naive.narrowed a.of v fresh in
            let o5 = naive.put_into s (at.result t) v (fresh + 1) in
            let o6 = naive.settled a.place (at.result t) v in
            let e = most_append per (at.ops t m) (o1 ++ (o2 ++ (o3 ++ (o4 ++ (o5 ++ o6))))) in let e1 = most_append per o1 (o2 ++ (o3 ++ (o4 ++ (o5 ++ o6)))) in
            let e2 = most_append per o2 (o3 ++ (o4 ++ (o5 ++ o6))) in let e3 = most_append per o3 (o4 ++ (o5 ++ o6)) in let e4 = most_append per o4 (o5 ++ o6) in let e5 = most_append per o5 o6 in
            let g = p.opens t m in let g1 = p.gets v (at.result t) (v + 1) in let g2 = q.value u (m + at.labels) in let g3 = combined_most bytes o a.of b.of v (b.value.result u) l in
            let g4 = narrowed_most a.of v fresh in let g5 = p.puts (at.result t) v (fresh + 1) in let g6 = p.settles (at.result t) v in
            let room = p.changed_room in
            omega (arith, e, e1, e2, e3, e4, e5, g, g1, g2, g3, g4, g5, g6, room)

  module _ (a : Naive) (x : Weight) (p : Counted a x) where
    before_counted : (of : CType) (o : StepOperator) → Counted (naive.plain of (naive.stepped_before o a.of a.place)) (weighing (assigned_weight x.place + read_weight x.place + 2 + 4 + x.inside))
    before_counted of o = plain_counted of (naive.stepped_before o a.of a.place) _ bound
      where
        bound : (t l : ℕ) → most_with per ((naive.stepped_before o a.of a.place).ops t l) ≤ assigned_weight x.place + read_weight x.place + 2 + 4 + x.inside
        bound t l =
            let at = naive.opened a.place in
            let v = t + at.temps in
            let s = naive.storage_in a.place in
            let o1 = naive.got_from s v (at.result t) (v + 1) in
            let o4 = naive.narrowed a.of v (v + 3) in
            let o5 = naive.put_into s (at.result t) v (v + 4) in
            let o6 = naive.settled a.place (at.result t) v in
            let e = most_append per (at.ops t l) (o1 ++ (constant (v + 2) 1 ∷ code.operate (naive.step_operator o) v (v + 2) ∷ (o4 ++ (o5 ++ o6)))) in
            let e1 = most_append per o1 (constant (v + 2) 1 ∷ code.operate (naive.step_operator o) v (v + 2) ∷ (o4 ++ (o5 ++ o6))) in
            let e4 = most_append per o4 (o5 ++ o6) in let e5 = most_append per o5 o6 in
            let g = p.opens t l in let g1 = p.gets v (at.result t) (v + 1) in
            let g4 = narrowed_most a.of v (v + 3) in let g5 = p.puts (at.result t) v (v + 4) in let g6 = p.settles (at.result t) v in
            let room = p.changed_room in
            omega (arith, e, e1, e4, e5, g, g1, g4, g5, g6, room)

    after_counted : (of : CType) (o : StepOperator) → Counted (naive.plain of (naive.stepped_after o a.of a.place)) (weighing (assigned_weight x.place + read_weight x.place + 2 + 4 + x.inside))
    after_counted of o = plain_counted of (naive.stepped_after o a.of a.place) _ bound
      where
        bound : (t l : ℕ) → most_with per ((naive.stepped_after o a.of a.place).ops t l) ≤ assigned_weight x.place + read_weight x.place + 2 + 4 + x.inside
        bound t l =
            let at = naive.opened a.place in
            let v = t + at.temps in let n = v + 2 in
            let s = naive.storage_in a.place in
            let o1 = naive.got_from s v (at.result t) (v + 1) in
            let o4 = naive.narrowed a.of n (v + 4) in
            let o5 = naive.put_into s (at.result t) n (v + 5) in
            let o6 = naive.settled a.place (at.result t) v in
            let e = most_append per (at.ops t l) (o1 ++ (copy n v ∷ constant (v + 3) 1 ∷ code.operate (naive.step_operator o) n (v + 3) ∷ (o4 ++ (o5 ++ o6)))) in
            let e1 = most_append per o1 (copy n v ∷ constant (v + 3) 1 ∷ code.operate (naive.step_operator o) n (v + 3) ∷ (o4 ++ (o5 ++ o6))) in
            let e4 = most_append per o4 (o5 ++ o6) in let e5 = most_append per o5 o6 in
            let g = p.opens t l in let g1 = p.gets v (at.result t) (v + 1) in
            let g4 = narrowed_most a.of n (v + 4) in let g5 = p.puts (at.result t) n (v + 5) in let g6 = p.settles (at.result t) v in
            let room = p.changed_room in
            omega (arith, e, e1, e4, e5, g, g1, g4, g5, g6, room)

    unary_counted : (of : CType) (o : UnaryOperator) → Counted (naive.logical_value of (naive.one o a) (naive.truth_of_one o a)) (weighing (unary_weight o + x.total))
    unary_counted of unary.Plus = plain_counted of a.value _ (λ t l. let g = p.value t l in omega (arith, g))
    unary_counted of unary.Minus =
        plain_counted of (naive.negated a.value) _ (λ t l. let e = most_append per (a.value.ops t l) (constant (t + a.value.temps) 0 ∷ code.operate op.Sub (t + a.value.temps) (a.value.result t) ∷ []) in let g = p.value t l in omega (arith, e, g))
    unary_counted of unary.Complement =
        plain_counted of (naive.one unary.Complement a) _ (λ t l. let e = most_append per (a.value.ops t l) (code.complement (a.value.result t) ∷ []) in let g = p.value t l in omega (arith, e, g))
    unary_counted of unary.Not =
        logical_counted of _ _ _ (λ t l. let e = truth_most (naive.denied a.test) (x.total + 3) (λ sense target next t l. p.test (not sense) target next t l) t l in omega (arith, e))
        (λ sense target next t l. let g = p.test (not sense) target next t l in omega (arith, g))

    convert_counted : (of : CType) → Counted (naive.plain of (naive.then_on a.value (naive.spare_count of) (naive.spare_depths of) (naive.narrowed of))) (weighing (conversion_weight of + x.total))
    convert_counted of =
        plain_counted of (naive.then_on a.value (naive.spare_count of) (naive.spare_depths of) (naive.narrowed of)) _
        (λ t l.
        let e = most_append per (a.value.ops t l) (naive.narrowed of (a.value.result t) (t + a.value.temps)) in
        let g = p.value t l in let g1 = converted_most of (a.value.result t) (t + a.value.temps) in
        omega (arith, e, g, g1))

  conditional_counted : (of : CType) (a b d : Naive) (x y z : Weight) → Counted a x → Counted b y → Counted d z → Counted (naive.plain of (naive.chosen a.test b.value d.value)) (weighing (8 + x.total + y.total + z.total))
  conditional_counted of a b d x y z p q r = plain_counted of (naive.chosen a.test b.value d.value) _ bound
    where
      bound : (t l : ℕ) → most_with per ((naive.chosen a.test b.value d.value).ops t l) ≤ 8 + x.total + y.total + z.total
      bound t l =
          let t1 = t + 1 + a.test.temps in let t2 = t1 + b.value.temps in let l1 = l + 3 + a.test.labels in
          let o1 = a.test.ops false l (l + 1) (t + 1) (l + 3) in
          let o2 = b.value.ops t1 l1 in
          let o3 = d.value.ops t2 (l1 + b.value.labels) in
          let last = copy t (d.value.result t2) ∷ Close Falls (l + 2) ∷ [] in
          let e = most_append per o1 (o2 ++ copy t (b.value.result t1) ∷ Close (Jumps (l + 2)) l ∷ (o3 ++ last)) in
          let e1 = most_append per o2 (copy t (b.value.result t1) ∷ Close (Jumps (l + 2)) l ∷ (o3 ++ last)) in
          let e2 = most_append per o3 last in
          let g = p.test false l (l + 1) (t + 1) (l + 3) in let g1 = q.value t1 l1 in let g2 = r.value t2 (l1 + b.value.labels) in
          omega (arith, e, e1, e2, g, g1, g2)

  -- ---- objects

  abbrev local_place : Place
  local_place = place_of (variable.Local 0)

  abbrev static_place : Place
  static_place = place_of (variable.Static 0)

  -- a name that is not an array's is kept in a temporary or in a word
  data IsKept (p : Place) (s : Storage) : Type 0 where
    temporary : (n : ℕ) → s ≡ Temporary n → p ≡ local_place → IsKept p s
    word : (y : ℕ) → s ≡ Word y → p ≡ static_place → IsKept p s
    nothing : s ≡ Missing → IsKept p s

  -- its value and an assignment to it take so many
  record Moves (p : Place) (s : Storage) : Type 0 where
    most : ℕ
    gets : (v a t : ℕ) → most_with per (naive.got_from s v a t) ≤ most
    puts : (a v t : ℕ) → most_with per (naive.put_into s a v t) ≤ most
    read : most ≤ read_weight p
    room : most ≤ assigned_weight p

  moves : (p : Place) (s : Storage) → IsKept p s → Moves p s
  moves p s (temporary n i e) =
      subst (Moves p) (sym i) (subst (λ p. Moves p (Temporary n)) (sym e)
      (record { most = 1; gets = λ v a t. omega arith; puts = λ a v t. omega arith; read = omega arith; room = omega arith }))
  moves p s (word y i e) =
      subst (Moves p) (sym i) (subst (λ p. Moves p (Word y)) (sym e)
      (record { most = 2; gets = λ v a t. omega arith; puts = λ a v t. omega arith; read = omega arith; room = omega arith }))
  moves p s (nothing i) =
      subst (Moves p) (sym i)
      (record { most = 0; gets = λ v a t. omega arith; puts = λ a v t. omega arith; read = omega arith; room = omega arith })

  name_counted : (of : CType) (s : Storage) (p : Place) → IsKept p s
      → Counted (record { of = of; value = naive.read_object s; test = naive.test_of (naive.read_object s); place = object s }) (named p 0)
  name_counted of s p k = record {
    value = bound;
    test = test_most (naive.read_object s) (read_weight p + 0) bound;
    opens_most = 0;
    gets_most = z.most;
    puts_most = z.most;
    settles_most = 0;
    opens = λ t l. omega arith;
    gets = z.gets;
    puts = z.puts;
    settles = λ a v. omega arith;
    assigned_room = let e = z.room in omega (arith, e);
    changed_room = let e = z.room in let r = z.read in omega (arith, e, r);
  }
    where
      z : Moves p s
      z = moves p s k

      bound : (t l : ℕ) → most_with per ((naive.read_object s).ops t l) ≤ read_weight p + 0
      bound t l = let e = z.gets t 0 0 in let r = z.read in omega (arith, e, r)

  -- the weight of an element, by that of its index
  abbrev element_weight : ℕ → Weight
  element_weight n = expression_weight (Element (record { of = type.Int; at = record { line = 1; column = 1 } }) (variable.Local 0) (weighing n))

  element_counted : (of : CType) (s : Storage) (i : Naive) (x : Weight) → Counted i x
      → Counted (record { of = of; value = naive.read_element s i.value; test = naive.test_of (naive.read_element s i.value); place = element s i.value }) (element_weight x.total)
  element_counted of s i x p = record {
    value = element_most s i.value x.total p.value;
    test = test_most (naive.read_element s i.value) (12 + x.total) (element_most s i.value x.total p.value);
    opens_most = 6;
    gets_most = 4;
    puts_most = 2;
    settles_most = 1;
    opens = address_most s i.value x.total p.value;
    gets = got_most s;
    puts = put_into_most s;
    settles = λ a v. omega arith;
    assigned_room = omega arith;
    changed_room = omega arith;
  }

  module _ (kept : List ℕ) (w : ℕ) (t : Typed) (f : Function) where
    kept_static : (x : ℕ) (o : Option Static) → not (is_array (kind_of (object_of o))) ≡ true → IsKept static_place (static_in x o)
    kept_static x None h = nothing refl
    kept_static x (Some s) h = by_length s.object.length h
      where
        by_length : (l : Option ℕ) → not (is_array (kind_by s.object.element l)) ≡ true → IsKept static_place (static_storage x s.object.element l)
        by_length None g = word x refl refl
        by_length (Some n) g = absurd (grind (arith, g))

    kept_local : (temp offset : ℕ) (o : Option Thing) → not (is_array (kind_of o)) ≡ true → IsKept local_place (local_in temp offset o)
    kept_local temp offset None h = nothing refl
    kept_local temp offset (Some o) h = by_length o.length h
      where
        by_length : (l : Option ℕ) → not (is_array (kind_by o.element l)) ≡ true → IsKept local_place (local_storage temp offset o.element l)
        by_length None g = temporary temp refl refl
        by_length (Some n) g = absurd (grind (arith, g))

    kept_in : (x : Variable) → not (is_array (kind_in t f x)) ≡ true → IsKept (place_of x) (storage_of kept w t f x)
    kept_in (variable.Static x) h = kept_static x (slice_get t.statics x) h
    kept_in (variable.Parameter x) h = temporary x refl refl
    kept_in (variable.Local x) h = kept_local _ _ (slice_get f.locals x) h

    -- ---- all nodes

    abbrev pub site : Site
    site = site_of kept w t f

    abbrev pub Within : Naive → Weight → Bool → Type 0
    Within n x b = b ≡ true → Counted n x

    abbrev T : Type 0
    T = Three Naive Weight Bool Within

    all_so : (b : Bool) (bs : List Bool) → all_true (b ∷ bs) ≡ true → (b ≡ true) × (all_true bs ≡ true)
    all_so b bs e = both_so b (all_true bs) e

    -- ---- calls

    abbrev values_in : List T → List Value
    values_in es = map (λ e. e.value) (map (λ e. e.0) es)

    arguments_most : (es : List T) → all_true (map (λ e. e.2) es) ≡ true → (a l : ℕ) → most_with per ((naive.arguments (values_in es)).ops a l) + length es ≤ each 1 (map (λ e. e.1) es)
    arguments_most [] h a l = omega arith
    arguments_most (x ∷ es) h a l =
        let s = all_so x.2 (map (λ e. e.2) es) h in
        let v = x.0.value in
        let rest = naive.arguments (values_in es) in
        let e = most_append per (v.ops a l) (rest.ops (a + v.temps) (l + v.labels)) in
        let g = (x.3 s.0).value a l in let ih = arguments_most es s.1 (a + v.temps) (l + v.labels) in
        omega (arith, e, g, ih)

    stored_most : (bytes i : ℕ) (es : List T) (a : ℕ) → most_with per (naive.stored_from bytes i (naive.results_of (values_in es) a)) ≡ length es
    stored_most bytes i [] a = refl
    stored_most bytes zero (x ∷ es) a = let ih = stored_most bytes 1 es (a + x.0.value.temps) in omega (arith, ih)
    stored_most bytes (suc i) (x ∷ es) a = let ih = stored_most bytes (suc (suc i)) es (a + x.0.value.temps) in omega (arith, ih)

    call_most : (bytes : ℕ) (g : Callee) (es : List T) → all_true (map (λ e. e.2) es) ≡ true → (a l : ℕ) → most_with per ((naive.call_of bytes g (values_in es)).ops a l) ≤ 6 + each 1 (map (λ e. e.1) es)
    call_most bytes (callee.Defined k) es h a l =
        let args = naive.arguments (values_in es) in
        let o1 = args.ops a (l + 1) in
        let o2 = naive.stored_from bytes 0 (naive.results_of (values_in es) a) in
        let last = Close (Calls k) l ∷ read_result (a + args.temps) ∷ [] in
        let e = most_append per o1 (o2 ++ last) in let e1 = most_append per o2 last in
        let g = arguments_most es h a (l + 1) in let g1 = stored_most bytes 0 es a in
        omega (arith, e, e1, g, g1)
    call_most bytes callee.Getchar es h a l = omega arith
    call_most bytes callee.Putchar [] h a l = omega arith
    call_most bytes callee.Putchar (x ∷ es) h a l =
        let s = all_so x.2 (map (λ e. e.2) es) h in
        let v = x.0.value in
        let e = most_append per (v.ops a l) (code.set_result (v.result a) ∷ code.put_output ∷ constant (a + v.temps) 255 ∷ code.Meet (v.result a) (a + v.temps) ∷ []) in
        let g = (x.3 s.0).value a l in
        omega (arith, e, g)

    node_within : (y : TypedExpr-F T) → Within (naive.naive_node site (map-TypedExpr T Naive (λ e. e.0) y)) (expression_weight (map-TypedExpr T Weight (λ e. e.1) y)) (names_in t f (map-TypedExpr T Bool (λ e. e.2) y))
    node_within (Constant h v) so = plain_counted h.of (naive.leaf (λ a. constant a v ∷ [])) 1 (λ a l. omega arith)
    node_within (Object h x) so = name_counted h.of (storage_of kept w t f x) (place_of x) (kept_in x so)
    node_within (Element h x i) so = element_counted h.of (storage_of kept w t f x) i.0 i.1 (i.3 so)
    node_within (Assign h a b) so = let s = both_so _ _ so in assign_counted a.0 b.0 a.1 b.1 (a.3 s.0) (b.3 s.1) h.of
    node_within (Compound h a o b) so = let s = both_so _ _ so in compound_counted a.0 b.0 a.1 b.1 (a.3 s.0) (b.3 s.1) h.of (word_bytes w) o
    node_within (Before h o a) so = before_counted a.0 a.1 (a.3 so) h.of o
    node_within (After h a o) so = after_counted a.0 a.1 (a.3 so) h.of o
    node_within (Binary h a o b) so = let s = both_so _ _ so in binary_counted a.0 b.0 a.1 b.1 (a.3 s.0) (b.3 s.1) h.of a.0.of (sort_of o) (binary_weight o) (operator_room o)
    node_within (Unary h o a) so = unary_counted a.0 a.1 (a.3 so) h.of o
    node_within (Convert h a) so = convert_counted a.0 a.1 (a.3 so) h.of
    node_within (Comma h a b) so = let s = both_so _ _ so in comma_counted a.0 b.0 a.1 b.1 (a.3 s.0) (b.3 s.1) h.of
    node_within (Conditional h a b d) so =
        let s = both_so _ _ so in let r = both_so _ _ s.0 in conditional_counted h.of a.0 b.0 d.0 a.1 b.1 d.1 (a.3 r.0) (b.3 r.1) (d.3 s.1)
    node_within (Call h g es) so = plain_counted h.of (naive.call_of (word_bytes w) g (values_in es)) (6 + each 1 (map (λ e. e.1) es)) (call_most (word_bytes w) g es so)

    pub expression_within : (e : TypedExpr) → expression_names t f e ≡ true → Counted (naive.naive site e) (weight_in e)
    expression_within e so = expressions_relate Naive Weight Bool Within (naive.naive_node site) expression_weight (names_in t f) node_within e so
