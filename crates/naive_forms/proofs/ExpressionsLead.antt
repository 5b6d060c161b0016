-- The code of an expression jumps to its own labels, that of a test to its target besides; calls go to functions of the source.
use Rattle.std.proofs.Common.{◌≡◌, ℕ, zero, suc, ◌+◌, ◌≤◌, List, [], ◌∷◌, ◌++◌, map, Option, Some, None, refl, subst, sym, ap, arith, true, false}
use Rattle.std.specs.Prelude.{Bool, not, ◌&&◌, length, max, slice_get}
use Rattle.std.proofs.Math.Nat.{le-max_left, le-max_right}
use Rattle.std.proofs.lemmas.List.{length-map}
use Rattle.rtl_word.specs.declared.Rel.{Rel}
use Rattle.rtl_word.specs.declared.Rel.TheVariants.{Ne}
use Rattle.rtl_tree.specs.declared.expressions.BinOp.TheVariants as op
use Rattle.c_tree.specs.declared.types.CType.{CType}
use Rattle.c_tree.specs.declared.types.CType.TheVariants as type
use Rattle.c_tree.specs.declared.syntax.Arithmetic.{Arithmetic}
use Rattle.c_tree.specs.declared.syntax.Arithmetic.TheVariants as arithmetic
use Rattle.c_tree.specs.declared.syntax.UnaryOperator.{UnaryOperator}
use Rattle.c_tree.specs.declared.syntax.UnaryOperator.TheVariants as unary
use Rattle.c_tree.specs.declared.syntax.StepOperator.{StepOperator}
use Rattle.c_tree.specs.declared.typed.Object.{Object as Thing}
use Rattle.c_tree.specs.declared.typed.Callee.{Callee}
use Rattle.c_tree.specs.declared.typed.Callee.TheVariants as callee
use Rattle.c_tree.specs.declared.typed.Operation.{Operation}
use Rattle.c_tree.specs.declared.typed.Operation.TheVariants as operation
use Rattle.c_tree.specs.declared.typed.TypedExpr.{TypedExpr}
use Rattle.c_tree.specs.declared.typed.TypedExpr.TheOpen.{TypedExpr-F, Comma, Assign, Compound, Conditional, Binary, Unary, Before, After, Constant, Object, Element, Call, Convert}
use Rattle.c_tree.specs.declared.typed.TypedExpr.TheFolds.{map-TypedExpr}
use Rattle.c_tree.specs.declared.typed.Function.{Function}
use Rattle.c_tree.specs.declared.typed.Typed.{Typed}
use Rattle.c_limits.specs.Frames.{word_bytes}
use Rattle.c_limits.specs.Depths.{greatest, expression_arguments, arguments_of}
use Rattle.c_meaning.specs.Operators.{Sort, computes, compares, logical, sort_of, relation_in, computed_in}
use Rattle.naive_code.specs.Operations as code
use Rattle.naive_code.specs.Operations.{Op, Falls, Jumps, Close, Calls, constant, copy, read_result}
use Rattle.naive_code.specs.Storage.{Base, Symbol, Frame, Storage, Temporary, Word, Elements, Missing}
use Rattle.naive_code.specs.Expressions as naive
use Rattle.naive_code.specs.Expressions.{Value, Test, Designated, object, element, nowhere, Naive, Site}
use Rattle.naive_run.specs.Sound.{Checked, a_word, all_fit, fits_function, fits_call, fits_operation, checked_by, checked, type_of, alike}
use Rattle.naive_counts.proofs.Folds.{Three, expressions_relate}
use Rattle.naive_forms.specs.Operations.{IsCallee}
use Rattle.naive_forms.proofs.Tests.{unlike}
use Rattle.naive_forms.proofs.Leading.{Open, Going, Leads, open_left, open_right, going_append, leads_append}

pub both_so : (a b : Bool) → (a && b) ≡ true → (a ≡ true) × (b ≡ true)
both_so true b e = (refl, e)
both_so false b e = absurd (grind (arith, e))

no_third : (x y : Bool) → (x && (y && false)) ≡ true → ⊥
no_third true true e = unlike (sym e)
no_third true false e = unlike (sym e)
no_third false y e = unlike (sym e)

pub left_of : (a b m : ℕ) → max a b ≤ m → a ≤ m
left_of a b m h = let e = le-max_left a b in omega (arith, e, h)

pub right_of : (a b m : ℕ) → max a b ≤ m → b ≤ m
right_of a b m h = let e = le-max_right a b in omega (arith, e, h)

module _ (source : Typed) (labels : ℕ → Type 0) (most : ℕ) where
  abbrev O : List Op → Type 0
  O = Open source labels most

  abbrev G : List Op → Type 0
  G = Going source labels most

  abbrev L : List Op → Type 0
  L = Leads source labels most

  joins : (xs ys : List Op) → G xs → G ys → G (xs ++ ys)
  joins = going_append source labels most

  leads : (xs ys : List Op) → L xs → L ys → L (xs ++ ys)
  leads = leads_append source labels most

  first : (xs ys : List Op) → O (xs ++ ys) → O xs
  first = open_left source labels most

  rest : (xs ys : List Op) → O (xs ++ ys) → O ys
  rest = open_right source labels most

  abbrev pub ValueLeads : Value → Type 0
  ValueLeads v = (t l : ℕ) → L (v.ops t l)

  abbrev pub TestLeads : Test → Type 0
  TestLeads e = (sense : Bool) (target next t l : ℕ) → labels target → O (e.ops sense target next t l) → G (e.ops sense target next t l) × labels next

  pub record Led (n : Naive) : Type 0 where
    pub value : ValueLeads n.value
    pub test : TestLeads n.test
    pub place : ValueLeads (naive.opened n.place)

  -- ---- operations that lead nowhere

  narrowed_goes : (of : CType) (v t : ℕ) → G (naive.narrowed of v t)
  narrowed_goes type.Schar v t = (tt, tt)
  narrowed_goes type.Uchar v t = (refl, (tt, tt))
  narrowed_goes type.Int v t = tt
  narrowed_goes type.Unsigned v t = tt
  narrowed_goes type.Void v t = tt

  fetched_goes : (of : CType) (v a t : ℕ) → G (naive.fetched of v a t)
  fetched_goes type.Schar v a t = (refl, tt)
  fetched_goes type.Uchar v a t = (refl, (refl, (tt, tt)))
  fetched_goes type.Int v a t = (refl, tt)
  fetched_goes type.Unsigned v a t = (refl, tt)
  fetched_goes type.Void v a t = (refl, tt)

  pub put_goes : (of : CType) (a v : ℕ) → G (naive.put_at of a v)
  put_goes type.Schar a v = (refl, tt)
  put_goes type.Uchar a v = (refl, tt)
  put_goes type.Int a v = (refl, tt)
  put_goes type.Unsigned a v = (refl, tt)
  put_goes type.Void a v = (refl, tt)

  scaled_goes : (of : CType) (i t : ℕ) → G (naive.scaled of i t)
  scaled_goes type.Schar i t = tt
  scaled_goes type.Uchar i t = tt
  scaled_goes type.Int i t = (tt, tt)
  scaled_goes type.Unsigned i t = (tt, tt)
  scaled_goes type.Void i t = (tt, tt)

  base_goes : (b : Base) (t : ℕ) → G (naive.base_ops b t)
  base_goes (Symbol y) t = (refl, tt)
  base_goes (Frame offset) t = (refl, (refl, (refl, tt)))

  got_goes : (s : Storage) (v a t : ℕ) → G (naive.got_from s v a t)
  got_goes (Temporary k) v a t = (refl, tt)
  got_goes (Word y) v a t = (refl, (refl, tt))
  got_goes (Elements b of) v a t = fetched_goes of v a t
  got_goes Missing v a t = tt

  pub put_into_goes : (s : Storage) (a v t : ℕ) → G (naive.put_into s a v t)
  put_into_goes (Temporary k) a v t = (refl, tt)
  put_into_goes (Word y) a v t = (refl, (refl, tt))
  put_into_goes (Elements b of) a v t = put_goes of a v
  put_into_goes Missing a v t = tt

  settled_goes : (p : Designated) (a v : ℕ) → G (naive.settled p a v)
  settled_goes (object s) a v = tt
  settled_goes (element s i) a v = (refl, tt)
  settled_goes nowhere a v = tt

  computed_goes : (o : Arithmetic) (of : CType) (a b : ℕ) → G (naive.computed o of a b)
  computed_goes arithmetic.Add of a b = (refl, tt)
  computed_goes arithmetic.Subtract of a b = (refl, tt)
  computed_goes arithmetic.Multiply of a b = (refl, tt)
  computed_goes arithmetic.Divide of a b = (refl, tt)
  computed_goes arithmetic.Remainder of a b = (refl, tt)
  computed_goes arithmetic.And of a b = (tt, tt)
  computed_goes arithmetic.Xor of a b = (refl, tt)
  computed_goes arithmetic.Or of a b = (refl, tt)
  computed_goes arithmetic.ShiftLeft of a b = (refl, tt)
  computed_goes arithmetic.ShiftRight of a b = (refl, tt)

  addressed_goes : (b : Base) (of : CType) (v t : ℕ) → G (naive.addressed b of v t)
  addressed_goes b of v t =
      joins (naive.scaled of v (t + 2)) (naive.base_ops b t ++ code.add v t ∷ []) (scaled_goes of v (t + 2))
      (joins (naive.base_ops b t) (code.add v t ∷ []) (base_goes b t) (refl, tt))

  -- ---- values

  no_value_leads : ValueLeads naive.no_value
  no_value_leads t l o = tt

  -- a value that is changed where it is
  then_leads : (v : Value) (fresh : ℕ) (depths : ℕ → List ℕ) (os : ℕ → ℕ → List Op) → ValueLeads v → ((a b : ℕ) → G (os a b)) → ValueLeads (naive.then_on v fresh depths os)
  then_leads v fresh depths os h g t l = leads (v.ops t l) (os (v.result t) (t + v.temps)) (h t l) (λ o. g (v.result t) (t + v.temps))

  address_leads : (s : Storage) (i : Value) → ValueLeads i → ValueLeads (naive.address_in s i)
  address_leads (Temporary k) i h = λ t l o. tt
  address_leads (Word y) i h = λ t l o. tt
  address_leads (Elements b of) i h =
      then_leads i 3 (λ d. (d + 1) ∷ (d + 2) ∷ (d + 2) ∷ []) (λ v t. naive.addressed b of v t) h (addressed_goes b of)
  address_leads Missing i h = λ t l o. tt

  element_leads : (s : Storage) (i : Value) → ValueLeads i → ValueLeads (naive.read_element s i)
  element_leads (Temporary k) i h = λ t l o. tt
  element_leads (Word y) i h = λ t l o. tt
  element_leads (Elements b of) i h =
      then_leads (naive.address_in (Elements b of) i) 1 (λ d. (d + 1) ∷ []) (λ v t. naive.fetched of v v t) (address_leads (Elements b of) i h)
      (λ v t. fetched_goes of v v t)
  element_leads Missing i h = λ t l o. tt

  both_lead : (a b : Value) (deeper : ℕ) → ValueLeads a → ValueLeads b → ValueLeads (naive.both a deeper b)
  both_lead a b deeper g h t l = leads (a.ops t l) (b.ops (t + a.temps) (l + a.labels)) (g t l) (h (t + a.temps) (l + a.labels))

  joined_lead : (a b : Value) (os : ℕ → ℕ → List Op) → ValueLeads a → ValueLeads b → ((v w : ℕ) → G (os v w)) → ValueLeads (naive.joined a b os)
  joined_lead a b os g h k t l =
      let u = t + a.temps in let m = l + a.labels in
      let last = os (a.result t) (b.result u) in
      leads (a.ops t l) (b.ops u m ++ last) (g t l) (leads (b.ops u m) last (h u m) (λ o. k (a.result t) (b.result u)))

  -- ---- tests

  test_leads : (v : Value) → ValueLeads v → TestLeads (naive.test_of v)
  test_leads v h sense target next t l to o =
      let last = constant (t + v.temps) 0 ∷ Close (code.Branches (naive.relation_if sense Ne) (v.result t) (t + v.temps) target) next ∷ [] in
      let r = rest (v.ops t l) last o in
      (joins (v.ops t l) last (h t l (first (v.ops t l) last o)) (refl, (to, tt)), r.0)

  truth_leads : (y : Test) → TestLeads y → ValueLeads (naive.value_of y)
  truth_leads y h t l o =
      let os = y.ops false l (l + 1) (t + 1) (l + 2) in
      let last = constant t 1 ∷ Close Falls l ∷ [] in
      let r = rest os last o in
      (refl, joins os last (h false l (l + 1) (t + 1) (l + 2) r.0 (first os last o)).0 (refl, (tt, tt)))

  compared_lead : (r : Rel) (a b : Value) → ValueLeads a → ValueLeads b → TestLeads (naive.compared r a b)
  compared_lead r a b g h sense target next t l to o =
      let u = t + a.temps in let m = l + a.labels in
      let last = Close (code.Branches (naive.relation_if sense r) (a.result t) (b.result u) target) next ∷ [] in
      let o1 = rest (a.ops t l) (b.ops u m ++ last) o in
      let o2 = rest (b.ops u m) last o1 in
      (joins (a.ops t l) (b.ops u m ++ last) (g t l (first (a.ops t l) (b.ops u m ++ last) o)) (joins (b.ops u m) last (h u m (first (b.ops u m) last o1)) (to, tt)), o2.0)

  decided_in : (and sense : Bool) (target next : ℕ) → labels target → labels next → labels (naive.decided and sense target next)
  decided_in true true target next p q = q
  decided_in true false target next p q = p
  decided_in false true target next p q = p
  decided_in false false target next p q = q

  in_turn_lead : (and : Bool) (a b : Test) → TestLeads a → TestLeads b → TestLeads (naive.in_turn and a b)
  in_turn_lead and a b g h sense target next t l to o =
      let u = t + a.temps in let m = l + 1 + a.labels in
      let decides = naive.decided and sense target next in
      let os = a.ops (not and) decides l t (l + 1) in let ps = b.ops sense target next u m in
      let second = h sense target next u m to (rest os ps o) in
      (joins os ps (g (not and) decides l t (l + 1) (decided_in and sense target next to second.1) (first os ps o)).0 second.0, second.1)

  after_leads : (a : Value) (b : Test) → ValueLeads a → TestLeads b → TestLeads (naive.tested_after a b)
  after_leads a b g h sense target next t l to o =
      let u = t + a.temps in let m = l + a.labels in
      let ps = b.ops sense target next u m in
      let second = h sense target next u m to (rest (a.ops t l) ps o) in
      (joins (a.ops t l) ps (g t l (first (a.ops t l) ps o)) second.0, second.1)

  denied_lead : (y : Test) → TestLeads y → TestLeads (naive.denied y)
  denied_lead y h sense target next t l to o = h (not sense) target next t l to o

  -- ---- operators

  logical_led : (of : CType) (v : Value) (y : Test) → ValueLeads v → TestLeads y → Led (naive.logical_value of v y)
  logical_led of v y g h = record { value = g; test = h; place = no_value_leads }

  plain_led : (of : CType) (v : Value) → ValueLeads v → Led (naive.plain of v)
  plain_led of v h = logical_led of v (naive.test_of v) h (test_leads v h)

  binary_led : (of by : CType) (s : Sort) (a b : Naive) → Led a → Led b → Led (naive.logical_value of (naive.two by s a b) (naive.truth_of by s a b))
  binary_led of by (computes o) a b g h =
      let v = joined_lead a.value b.value (naive.computed o by) g.value h.value (computed_goes o by) in
      logical_led of _ _ v (test_leads (naive.joined a.value b.value (naive.computed o by)) v)
  binary_led of by (compares r u) a b g h =
      let y = compared_lead (relation_in by r u) a.value b.value g.value h.value in
      logical_led of _ _ (truth_leads (naive.compared (relation_in by r u) a.value b.value) y) y
  binary_led of by (logical and) a b g h =
      let y = in_turn_lead and a.test b.test g.test h.test in
      logical_led of _ _ (truth_leads (naive.in_turn and a.test b.test) y) y

  negated_leads : (v : Value) → ValueLeads v → ValueLeads (naive.negated v)
  negated_leads v h t l =
      leads (v.ops t l) (constant (t + v.temps) 0 ∷ code.operate op.Sub (t + v.temps) (v.result t) ∷ []) (h t l) (λ o. (refl, (refl, tt)))

  complement_leads : (v : Value) → ValueLeads v → ValueLeads (naive.then_on v 0 (λ d. []) (λ x t. code.complement x ∷ []))
  complement_leads v h = then_leads v 0 (λ d. []) (λ x t. code.complement x ∷ []) h (λ a b. (refl, tt))

  unary_led : (of : CType) (o : UnaryOperator) (a : Naive) → Led a → Led (naive.logical_value of (naive.one o a) (naive.truth_of_one o a))
  unary_led of unary.Plus a h = logical_led of _ _ h.value (test_leads a.value h.value)
  unary_led of unary.Minus a h = let v = negated_leads a.value h.value in logical_led of _ _ v (test_leads (naive.negated a.value) v)
  unary_led of unary.Complement a h =
      let v = complement_leads a.value h.value in
      logical_led of _ _ v (test_leads (naive.then_on a.value 0 (λ d. []) (λ x t. code.complement x ∷ [])) v)
  unary_led of unary.Not a h = let y = denied_lead a.test h.test in logical_led of _ _ (truth_leads (naive.denied a.test) y) y

  -- ---- names and assignments

  name_led : (of : CType) (s : Storage) → Led (record { of = of; value = naive.read_object s; test = naive.test_of (naive.read_object s); place = object s })
  name_led of s =
      let v : ValueLeads (naive.read_object s) = λ t l o. got_goes s t 0 0 in
      record { value = v; test = test_leads (naive.read_object s) v; place = no_value_leads }

  element_led : (of : CType) (s : Storage) (i : Naive) → Led i
      → Led (record { of = of; value = naive.read_element s i.value; test = naive.test_of (naive.read_element s i.value); place = element s i.value })
  element_led of s i h =
      let v = element_leads s i.value h.value in
      record { value = v; test = test_leads (naive.read_element s i.value) v; place = address_leads s i.value h.value }

  assigned_leads : (p : Designated) (b : Value) → ValueLeads (naive.opened p) → ValueLeads b → ValueLeads (naive.assigned p b)
  assigned_leads p b g h t l =
      let a = naive.opened p in let u = t + a.temps in let m = l + a.labels in
      let s1 = naive.put_into (naive.storage_in p) (a.result t) (b.result u) (u + b.temps) in let s2 = naive.settled p (a.result t) (b.result u) in
      leads (a.ops t l) (b.ops u m ++ (s1 ++ s2)) (g t l)
      (leads (b.ops u m) (s1 ++ s2) (h u m)
      (λ o. joins s1 s2 (put_into_goes (naive.storage_in p) (a.result t) (b.result u) (u + b.temps)) (settled_goes p (a.result t) (b.result u))))

  -- an operation that is a call goes to its helper
  abbrev IsDone : Operation → Type 0
  IsDone (operation.Operator o) = Unit {0}
  IsDone (operation.Helper g) = IsCallee source most g

  combined_goes : (bytes : ℕ) (o : Operation) (of by : CType) (v b l : ℕ) → IsDone o → G (naive.combined bytes o of by v b l)
  combined_goes bytes (operation.Operator o) of by v b l h = computed_goes o (computed_in o of by) v b
  combined_goes bytes (operation.Helper g) of by v b l h = (refl, (refl, (h, (refl, tt))))

  compound_leads : (bytes : ℕ) (o : Operation) (of by : CType) (p : Designated) (b : Value) → IsDone o → ValueLeads (naive.opened p) → ValueLeads b
      → ValueLeads (naive.compound bytes o of p by b)
  compound_leads bytes o of by p b done g h t l =
      let a = naive.opened p in
      let v = t + a.temps in let u = v + 2 in let fresh = u + b.temps in let m = l + naive.operation_labels o in
      let s1 = naive.got_from (naive.storage_in p) v (a.result t) (v + 1) in
      let s2 = b.ops u (m + a.labels) in
      let s3 = naive.combined bytes o of by v (b.result u) l in
      let s4 = naive.narrowed of v fresh in
      let s5 = naive.put_into (naive.storage_in p) (a.result t) v (fresh + 1) in
      let s6 = naive.settled p (a.result t) v in
      leads (a.ops t m) (s1 ++ (s2 ++ (s3 ++ (s4 ++ (s5 ++ s6))))) (g t m)
      (leads s1 (s2 ++ (s3 ++ (s4 ++ (s5 ++ s6)))) (λ o. got_goes (naive.storage_in p) v (a.result t) (v + 1))
      (leads s2 (s3 ++ (s4 ++ (s5 ++ s6))) (h u (m + a.labels))
      (λ e. joins s3 (s4 ++ (s5 ++ s6)) (combined_goes bytes o of by v (b.result u) l done)
      (joins s4 (s5 ++ s6) (narrowed_goes of v fresh)
      (joins s5 s6 (put_into_goes (naive.storage_in p) (a.result t) v (fresh + 1)) (settled_goes p (a.result t) v))))))

  before_leads : (o : StepOperator) (of : CType) (p : Designated) → ValueLeads (naive.opened p) → ValueLeads (naive.stepped_before o of p)
  before_leads o of p g t l =
      let a = naive.opened p in
      let v = t + a.temps in
      let s1 = naive.got_from (naive.storage_in p) v (a.result t) (v + 1) in
      let s4 = naive.narrowed of v (v + 3) in
      let s5 = naive.put_into (naive.storage_in p) (a.result t) v (v + 4) in
      let s6 = naive.settled p (a.result t) v in
      let s2 = constant (v + 2) 1 ∷ code.operate (naive.step_operator o) v (v + 2) ∷ (s4 ++ (s5 ++ s6)) in
      leads (a.ops t l) (s1 ++ s2) (g t l)
      (λ e. joins s1 s2 (got_goes (naive.storage_in p) v (a.result t) (v + 1)) (
        refl,
        (
          refl,
          joins s4 (s5 ++ s6) (narrowed_goes of v (v + 3))
              (joins s5 s6 (put_into_goes (naive.storage_in p) (a.result t) v (v + 4)) (settled_goes p (a.result t) v)),
        ),
      ))

  stepped_leads : (o : StepOperator) (of : CType) (p : Designated) → ValueLeads (naive.opened p) → ValueLeads (naive.stepped_after o of p)
  stepped_leads o of p g t l =
      let a = naive.opened p in
      let v = t + a.temps in let n = v + 2 in
      let s1 = naive.got_from (naive.storage_in p) v (a.result t) (v + 1) in
      let s4 = naive.narrowed of n (v + 4) in
      let s5 = naive.put_into (naive.storage_in p) (a.result t) n (v + 5) in
      let s6 = naive.settled p (a.result t) v in
      let s2 = copy n v ∷ constant (v + 3) 1 ∷ code.operate (naive.step_operator o) n (v + 3) ∷ (s4 ++ (s5 ++ s6)) in
      leads (a.ops t l) (s1 ++ s2) (g t l)
      (λ e. joins s1 s2 (got_goes (naive.storage_in p) v (a.result t) (v + 1)) (
        refl,
        (
          refl,
          (
            refl,
            joins s4 (s5 ++ s6) (narrowed_goes of n (v + 4))
                (joins s5 s6 (put_into_goes (naive.storage_in p) (a.result t) n (v + 5)) (settled_goes p (a.result t) v)),
          ),
        ),
      ))

  -- ---- `?:`

  chosen_leads : (y : Test) (b c : Value) → TestLeads y → ValueLeads b → ValueLeads c → ValueLeads (naive.chosen y b c)
  chosen_leads y b c f g h t l o =
      let t1 = t + 1 + y.temps in let t2 = t1 + b.temps in let l1 = l + 3 + y.labels in let l2 = l1 + b.labels in
      let o1 = y.ops false l (l + 1) (t + 1) (l + 3) in let o2 = b.ops t1 l1 in let o3 = c.ops t2 l2 in
      let last = copy t (c.result t2) ∷ Close Falls (l + 2) ∷ [] in
      let middle = copy t (b.result t1) ∷ Close (Jumps (l + 2)) l ∷ (o3 ++ last) in
      let p1 = rest o1 (o2 ++ middle) o in let p2 = rest o2 middle p1 in let p3 = rest o3 last p2.1 in
      joins o1 (o2 ++ middle) (f false l (l + 1) (t + 1) (l + 3) p2.0 (first o1 (o2 ++ middle) o)).0
      (joins o2 middle (g t1 l1 (first o2 middle p1))
      (refl, (p3.0, joins o3 last (h t2 l2 (first o3 last p2.1)) (refl, (tt, tt)))))

  -- ---- calls

  stored_goes : (bytes i : ℕ) (rs : List ℕ) → G (naive.stored_from bytes i rs)
  stored_goes bytes i [] = tt
  stored_goes bytes zero (r ∷ rs) = (refl, stored_goes bytes 1 rs)
  stored_goes bytes (suc i) (r ∷ rs) = (refl, stored_goes bytes (suc (suc i)) rs)

  called_leads : (bytes g : ℕ) (es : List Value) → IsCallee source most g → ValueLeads (naive.arguments es) → ValueLeads (naive.called bytes g es)
  called_leads bytes g es is h t l o =
      let args = naive.arguments es in
      let o1 = args.ops t (l + 1) in let o2 = naive.stored_from bytes 0 (naive.results_of es t) in
      let last = Close (Calls g) l ∷ read_result (t + args.temps) ∷ [] in
      joins o1 (o2 ++ last) (h t (l + 1) (first o1 (o2 ++ last) o)) (joins o2 last (stored_goes bytes 0 (naive.results_of es t)) (is, (refl, tt)))

  module _ (w : ℕ) (f : Function) (site : Site) (two : 2 ≤ most) where
    abbrev Fine : Naive → Checked → ℕ → Type 0
    Fine n c m = c.sound ≡ true → m ≤ most → Led n

    abbrev T : Type 0
    T = Three Naive Checked ℕ Fine

    abbrev checks : List T → List Checked
    checks es = map (λ e. e.1) es

    abbrev values_in : List T → List Value
    values_in es = map (λ e. e.value) (map (λ e. e.0) es)

    abbrev Sound_all : List T → Type 0
    Sound_all [] = Unit {0}
    Sound_all (e ∷ es) = (e.1.sound ≡ true) × Sound_all es

    -- arguments that fit parameters are as many
    all_fitting : (es : List T) (os : List Thing) → all_fit (checks es) os ≡ true → (length os ≡ length es) × Sound_all es
    all_fitting [] [] h = (refl, tt)
    all_fitting (e ∷ es) (o ∷ os) h =
        let s = both_so _ _ h in let r = both_so _ _ s.0 in let ih = all_fitting es os s.1 in
        (ap suc ih.0, (r.0, ih.1))
    all_fitting (e ∷ es) [] h = absurd (grind (arith, h))
    all_fitting [] (o ∷ os) h = absurd (grind (arith, h))

    fitting : (of : CType) (es : List T) (g : ℕ) (o : Option Function) → slice_get source.functions g ≡ o → fits_function of (checks es) o ≡ true → length es ≤ most
        → IsCallee source most g × Sound_all es
    fitting of es g None is h le = absurd (grind (arith, h))
    fitting of es g (Some k) is h le =
        let a : (length k.params ≡ length es) × Sound_all es = all_fitting es k.params (both_so (alike of k.result) (all_fit (checks es) k.params) h).1 in
        let e : length k.params ≡ length es = a.0 in
        ((k, is, omega (arith, e, le)), a.1)

    arguments_lead : (es : List T) → Sound_all es → greatest (map (λ e. e.2) es) ≤ most → ValueLeads (naive.arguments (values_in es))
    arguments_lead [] so le = no_value_leads
    arguments_lead (e ∷ es) so le =
        let m = greatest (map (λ x. x.2) es) in
        both_lead e.0.value (naive.arguments (values_in es)) 1 (e.3 so.0 (left_of e.2 m most le)).value (arguments_lead es so.1 (right_of e.2 m most le))

    operation_done : (o : Operation) → fits_operation w source f o ≡ true → IsDone o
    operation_done (operation.Operator o) h = tt
    operation_done (operation.Helper g) h =
        let s = both_so _ _ h in helper (slice_get source.functions g) refl s.1
      where
        helper : (o : Option Function) → slice_get source.functions g ≡ o → fits_function type.Int (a_word ∷ a_word ∷ []) o ≡ true → IsCallee source most g
        helper None is h = absurd (grind (arith, h))
        helper (Some k) is h = (k, is, few k.params (both_so _ _ h).1)
          where
            few : (os : List Thing) → all_fit (a_word ∷ a_word ∷ []) os ≡ true → length os ≤ most
            few [] h = omega (arith, two)
            few (a ∷ []) h = omega (arith, two)
            few (a ∷ b ∷ []) h = omega (arith, two)
            few (a ∷ b ∷ c ∷ os) h = absurd (no_third (alike type.Int a.element) (alike type.Int b.element) h)

    call_leads : (bytes : ℕ) (of : CType) (g : Callee) (es : List T) → fits_call w source f of g (checks es) ≡ true
        → max (length es) (greatest (map (λ e. e.2) es)) ≤ most → ValueLeads (naive.call_of bytes g (values_in es))
    call_leads bytes of (callee.Defined g) es so le =
        let s = both_so _ _ so in
        let m = greatest (map (λ e. e.2) es) in
        let a = fitting of es g (slice_get source.functions g) refl s.1 (left_of (length es) m most le) in
        called_leads bytes g (values_in es) a.0 (arguments_lead es a.1 (right_of (length es) m most le))
    call_leads bytes of callee.Getchar es so le = λ t l o. (refl, (refl, tt))
    call_leads bytes of callee.Putchar [] so le = λ t l o. tt
    call_leads bytes of callee.Putchar (e ∷ es) so le =
        let s = both_so _ _ so in let r = both_so _ _ s.1 in let q = both_so _ _ r.0 in
        let m = greatest (map (λ x. x.2) es) in
        let v = (e.3 q.0 (left_of e.2 m most (right_of (suc (length es)) (max e.2 m) most le))).value in
        then_leads e.0.value 1 (λ d. (d + 1) ∷ []) (λ x t. code.set_result x ∷ code.put_output ∷ constant t 255 ∷ code.Meet x t ∷ []) v
        (λ a b. (refl, (refl, (refl, (tt, tt)))))

    abbrev check_of : TypedExpr-F Checked → Checked
    check_of e = record { of = type_of w source f e; sound = checked_by w source f e }

    node_leads : (y : TypedExpr-F T)
        → Fine (naive.naive_node site (map-TypedExpr T Naive (λ e. e.0) y)) (check_of (map-TypedExpr T Checked (λ e. e.1) y)) (expression_arguments (map-TypedExpr T ℕ (λ e. e.2) y))
    node_leads (Constant h v) so le = plain_led h.of (naive.leaf (λ t. constant t v ∷ [])) (λ t l o. (refl, tt))
    node_leads (Object h x) so le = name_led h.of (site.storage x)
    node_leads (Element h x i) so le =
        let s = both_so _ _ (both_so _ _ so).0 in element_led h.of (site.storage x) i.0 (i.3 s.0 le)
    node_leads (Assign h a b) so le =
        let s = both_so _ _ (both_so _ _ (both_so _ _ so).0).0 in
        plain_led h.of (naive.assigned a.0.place b.0.value)
        (assigned_leads a.0.place b.0.value (a.3 s.0 (left_of a.2 b.2 most le)).place (b.3 s.1 (right_of a.2 b.2 most le)).value)
    node_leads (Compound h a o b) so le =
        let r = both_so _ _ so in
        let s = both_so _ _ (both_so _ _ r.0).0 in
        plain_led h.of (naive.compound (word_bytes site.bits) o a.0.of a.0.place b.0.of b.0.value)
        (compound_leads (word_bytes site.bits) o a.0.of b.0.of a.0.place b.0.value (operation_done o r.1) (a.3 s.0 (left_of a.2 b.2 most le)).place (b.3 s.1 (right_of a.2 b.2 most le)).value)
    node_leads (Before h o a) so le =
        let s = both_so _ _ so in plain_led h.of (naive.stepped_before o a.0.of a.0.place) (before_leads o a.0.of a.0.place (a.3 s.0 le).place)
    node_leads (After h a o) so le =
        let s = both_so _ _ so in plain_led h.of (naive.stepped_after o a.0.of a.0.place) (stepped_leads o a.0.of a.0.place (a.3 s.0 le).place)
    node_leads (Binary h a o b) so le =
        let s = both_so _ _ (both_so _ _ so).0 in
        binary_led h.of a.0.of (sort_of o) a.0 b.0 (a.3 s.0 (left_of a.2 b.2 most le)) (b.3 s.1 (right_of a.2 b.2 most le))
    node_leads (Unary h o a) so le = unary_led h.of o a.0 (a.3 (both_so _ _ so).0 le)
    node_leads (Convert h a) so le =
        plain_led h.of (naive.then_on a.0.value (naive.spare_count h.of) (naive.spare_depths h.of) (naive.narrowed h.of))
        (then_leads a.0.value (naive.spare_count h.of) (naive.spare_depths h.of) (naive.narrowed h.of) (a.3 so le).value (narrowed_goes h.of))
    node_leads (Comma h a b) so le =
        let s = both_so _ _ (both_so _ _ so).0 in
        let x = a.3 s.0 (left_of a.2 b.2 most le) in let y = b.3 s.1 (right_of a.2 b.2 most le) in
        logical_led h.of _ _ (both_lead a.0.value b.0.value 0 x.value y.value) (after_leads a.0.value b.0.test x.value y.test)
    node_leads (Conditional h a b d) so le =
        let r = both_so _ _ (both_so _ _ (both_so _ _ so).0).0 in
        let s = both_so _ _ r.0 in
        let m = max b.2 d.2 in let behind = right_of a.2 m most le in
        plain_led h.of (naive.chosen a.0.test b.0.value d.0.value)
        (chosen_leads a.0.test b.0.value d.0.value (a.3 s.0 (left_of a.2 m most le)).test (b.3 s.1 (left_of b.2 d.2 most behind)).value (d.3 r.1 (right_of b.2 d.2 most behind)).value)
    node_leads (Call h g es) so le =
        plain_led h.of (naive.call_of (word_bytes site.bits) g (values_in es))
        (call_leads (word_bytes site.bits) h.of g es so (subst (λ (n : ℕ). max n (greatest (map (λ e. e.2) es)) ≤ most) (length-map es (λ e. e.2)) le))

    pub expression_leads : (e : TypedExpr) → (checked w source f e).sound ≡ true → arguments_of e ≤ most → Led (naive.naive site e)
    expression_leads e so le = expressions_relate Naive Checked ℕ Fine (naive.naive_node site) check_of expression_arguments node_leads e so le
