-- The code of an expression opens labels among its own, each at most once; a test opens the label behind it besides.
use Rattle.std.proofs.Common.{◌≡◌, ℕ, zero, suc, ◌+◌, ◌≤◌, List, [], ◌∷◌, ◌++◌, map, refl, arith, false}
use Rattle.std.specs.Prelude.{Bool, not}
use Rattle.rtl_word.specs.declared.Rel.{Rel}
use Rattle.rtl_word.specs.declared.Rel.TheVariants.{Ne}
use Rattle.rtl_tree.specs.declared.expressions.BinOp.TheVariants as op
use Rattle.c_tree.specs.declared.types.CType.{CType}
use Rattle.c_tree.specs.declared.types.CType.TheVariants as type
use Rattle.c_tree.specs.declared.syntax.Arithmetic.{Arithmetic}
use Rattle.c_tree.specs.declared.syntax.Arithmetic.TheVariants as arithmetic
use Rattle.c_tree.specs.declared.syntax.UnaryOperator.{UnaryOperator}
use Rattle.c_tree.specs.declared.syntax.UnaryOperator.TheVariants as unary
use Rattle.c_tree.specs.declared.syntax.StepOperator.{StepOperator}
use Rattle.c_tree.specs.declared.typed.Callee.{Callee}
use Rattle.c_tree.specs.declared.typed.Callee.TheVariants as callee
use Rattle.c_tree.specs.declared.typed.Operation.{Operation}
use Rattle.c_tree.specs.declared.typed.Operation.TheVariants as operation
use Rattle.c_tree.specs.declared.typed.TypedExpr.{TypedExpr}
use Rattle.c_tree.specs.declared.typed.TypedExpr.TheOpen.{TypedExpr-F, Comma, Assign, Compound, Conditional, Binary, Unary, Before, After, Constant, Object, Element, Call, Convert}
use Rattle.c_tree.specs.declared.typed.TypedExpr.TheFolds.{map-TypedExpr}
use Rattle.c_tree.proofs.TypedFolds.{Both, expr_relates}
use Rattle.c_limits.specs.Frames.{word_bytes}
use Rattle.c_meaning.specs.Operators.{Sort, computes, compares, logical, sort_of, relation_in, computed_in}
use Rattle.naive_code.specs.Operations as code
use Rattle.naive_code.specs.Operations.{Op, Falls, Jumps, Close, Calls, constant, copy, read_result}
use Rattle.naive_code.specs.Storage.{Base, Symbol, Frame, Storage, Temporary, Word, Elements, Missing}
use Rattle.naive_code.specs.Expressions as naive
use Rattle.naive_code.specs.Expressions.{Value, Test, Designated, object, element, nowhere, Naive, Site}
use Rattle.naive_fits.proofs.Windows.{point, window, count, count_append, cut, one_label, two_labels, three_labels}

abbrev pub ValueOpens : Value → Type 0
ValueOpens v = (t l x : ℕ) → count x (v.ops t l) ≤ window l v.labels x

abbrev pub TestOpens : Test → Type 0
TestOpens e = (sense : Bool) (target next t l x : ℕ) → count x (e.ops sense target next t l) ≤ point next x + window l e.labels x

pub record Opens (n : Naive) : Type 0 where
  pub value : ValueOpens n.value
  pub test : TestOpens n.test
  pub place : ValueOpens (naive.opened n.place)

-- ---- operations that open nothing

narrowed_none : (of : CType) (v t x : ℕ) → count x (naive.narrowed of v t) ≡ 0
narrowed_none type.Schar v t x = refl
narrowed_none type.Uchar v t x = refl
narrowed_none type.Int v t x = refl
narrowed_none type.Unsigned v t x = refl
narrowed_none type.Void v t x = refl

fetched_none : (of : CType) (v a t x : ℕ) → count x (naive.fetched of v a t) ≡ 0
fetched_none type.Schar v a t x = refl
fetched_none type.Uchar v a t x = refl
fetched_none type.Int v a t x = refl
fetched_none type.Unsigned v a t x = refl
fetched_none type.Void v a t x = refl

pub put_none : (of : CType) (a v x : ℕ) → count x (naive.put_at of a v) ≡ 0
put_none type.Schar a v x = refl
put_none type.Uchar a v x = refl
put_none type.Int a v x = refl
put_none type.Unsigned a v x = refl
put_none type.Void a v x = refl

scaled_none : (of : CType) (i t x : ℕ) → count x (naive.scaled of i t) ≡ 0
scaled_none type.Schar i t x = refl
scaled_none type.Uchar i t x = refl
scaled_none type.Int i t x = refl
scaled_none type.Unsigned i t x = refl
scaled_none type.Void i t x = refl

base_none : (b : Base) (t x : ℕ) → count x (naive.base_ops b t) ≡ 0
base_none (Symbol y) t x = refl
base_none (Frame offset) t x = refl

got_none : (s : Storage) (v a t x : ℕ) → count x (naive.got_from s v a t) ≡ 0
got_none (Temporary k) v a t x = refl
got_none (Word y) v a t x = refl
got_none (Elements b of) v a t x = fetched_none of v a t x
got_none Missing v a t x = refl

pub put_into_none : (s : Storage) (a v t x : ℕ) → count x (naive.put_into s a v t) ≡ 0
put_into_none (Temporary k) a v t x = refl
put_into_none (Word y) a v t x = refl
put_into_none (Elements b of) a v t x = put_none of a v x
put_into_none Missing a v t x = refl

settled_none : (p : Designated) (a v x : ℕ) → count x (naive.settled p a v) ≡ 0
settled_none (object s) a v x = refl
settled_none (element s i) a v x = refl
settled_none nowhere a v x = refl

computed_none : (o : Arithmetic) (of : CType) (a b x : ℕ) → count x (naive.computed o of a b) ≡ 0
computed_none arithmetic.Add of a b x = refl
computed_none arithmetic.Subtract of a b x = refl
computed_none arithmetic.Multiply of a b x = refl
computed_none arithmetic.Divide of a b x = refl
computed_none arithmetic.Remainder of a b x = refl
computed_none arithmetic.And of a b x = refl
computed_none arithmetic.Xor of a b x = refl
computed_none arithmetic.Or of a b x = refl
computed_none arithmetic.ShiftLeft of a b x = refl
computed_none arithmetic.ShiftRight of a b x = refl

addressed_none : (b : Base) (of : CType) (v t x : ℕ) → count x (naive.addressed b of v t) ≡ 0
addressed_none b of v t x =
    let e = count_append x (naive.scaled of v (t + 2)) (naive.base_ops b t ++ code.add v t ∷ []) in
    let f = count_append x (naive.base_ops b t) (code.add v t ∷ []) in
    let g = scaled_none of v (t + 2) x in let h = base_none b t x in
    omega (arith, e, f, g, h)

-- ---- values

no_value_opens : ValueOpens naive.no_value
no_value_opens t l x = omega arith

-- a value that is changed where it is
then_opens : (v : Value) (fresh : ℕ) (depths : ℕ → List ℕ) (os : ℕ → ℕ → List Op) → ValueOpens v → ((a b x : ℕ) → count x (os a b) ≡ 0)
    → ValueOpens (naive.then_on v fresh depths os)
then_opens v fresh depths os h none t l x =
    let e = count_append x (v.ops t l) (os (v.result t) (t + v.temps)) in
    let f = none (v.result t) (t + v.temps) x in let g = h t l x in
    omega (arith, e, f, g)

address_opens : (s : Storage) (i : Value) → ValueOpens i → ValueOpens (naive.address_in s i)
address_opens (Temporary k) i h t l x = omega arith
address_opens (Word y) i h t l x = omega arith
address_opens (Elements b of) i h t l x =
    then_opens i 3 (λ d. (d + 1) ∷ (d + 2) ∷ (d + 2) ∷ []) (λ v t. naive.addressed b of v t) h (addressed_none b of) t l x
address_opens Missing i h t l x = omega arith

element_opens : (s : Storage) (i : Value) → ValueOpens i → ValueOpens (naive.read_element s i)
element_opens (Temporary k) i h t l x = omega arith
element_opens (Word y) i h t l x = omega arith
element_opens (Elements b of) i h t l x =
    then_opens (naive.address_in (Elements b of) i) 1 (λ d. (d + 1) ∷ []) (λ v t. naive.fetched of v v t) (address_opens (Elements b of) i h)
    (λ v t x. fetched_none of v v t x) t l x
element_opens Missing i h t l x = omega arith

both_opens : (a b : Value) (deeper : ℕ) → ValueOpens a → ValueOpens b → ValueOpens (naive.both a deeper b)
both_opens a b deeper g h t l x =
    let e = count_append x (a.ops t l) (b.ops (t + a.temps) (l + a.labels)) in
    let c = cut l a.labels b.labels (l + a.labels) (a.labels + b.labels) x refl refl in
    let p = g t l x in let q = h (t + a.temps) (l + a.labels) x in
    omega (arith, e, c, p, q)

joined_opens : (a b : Value) (os : ℕ → ℕ → List Op) → ValueOpens a → ValueOpens b → ((v w x : ℕ) → count x (os v w) ≡ 0) → ValueOpens (naive.joined a b os)
joined_opens a b os g h none t l x =
    let u = t + a.temps in let k = l + a.labels in
    let last = os (a.result t) (b.result u) in
    let e = count_append x (a.ops t l) (b.ops u k ++ last) in let f = count_append x (b.ops u k) last in
    let c = cut l a.labels b.labels k (a.labels + b.labels) x refl refl in
    let p = g t l x in let q = h u k x in let r = none (a.result t) (b.result u) x in
    omega (arith, e, f, c, p, q, r)

-- ---- tests

test_opens : (v : Value) → ValueOpens v → TestOpens (naive.test_of v)
test_opens v h sense target next t l x =
    let e = count_append x (v.ops t l) (constant (t + v.temps) 0 ∷ Close (code.Branches (naive.relation_if sense Ne) (v.result t) (t + v.temps) target) next ∷ []) in
    let p = h t l x in
    omega (arith, e, p)

truth_opens : (y : Test) → TestOpens y → ValueOpens (naive.value_of y)
truth_opens y h t l x =
    let e = count_append x (y.ops false l (l + 1) (t + 1) (l + 2)) (constant t 1 ∷ Close Falls l ∷ []) in
    let p = h false l (l + 1) (t + 1) (l + 2) x in
    let c = cut l 2 y.labels (l + 2) (2 + y.labels) x refl refl in let d = two_labels l x in
    omega (arith, e, p, c, d)

compared_opens : (r : Rel) (a b : Value) → ValueOpens a → ValueOpens b → TestOpens (naive.compared r a b)
compared_opens r a b g h sense target next t l x =
    let u = t + a.temps in let k = l + a.labels in
    let last = Close (code.Branches (naive.relation_if sense r) (a.result t) (b.result u) target) next ∷ [] in
    let e = count_append x (a.ops t l) (b.ops u k ++ last) in let f = count_append x (b.ops u k) last in
    let c = cut l a.labels b.labels k (a.labels + b.labels) x refl refl in
    let p = g t l x in let q = h u k x in
    omega (arith, e, f, c, p, q)

in_turn_opens : (and : Bool) (a b : Test) → TestOpens a → TestOpens b → TestOpens (naive.in_turn and a b)
in_turn_opens and a b g h sense target next t l x =
    let u = t + a.temps in let k = l + 1 + a.labels in
    let e = count_append x (a.ops (not and) (naive.decided and sense target next) l t (l + 1)) (b.ops sense target next u k) in
    let c = cut l (1 + a.labels) b.labels k (1 + a.labels + b.labels) x (omega arith) refl in
    let d = cut l 1 a.labels (l + 1) (1 + a.labels) x refl refl in let i = one_label l x in
    let p = g (not and) (naive.decided and sense target next) l t (l + 1) x in let q = h sense target next u k x in
    omega (arith, e, c, d, i, p, q)

after_opens : (a : Value) (b : Test) → ValueOpens a → TestOpens b → TestOpens (naive.tested_after a b)
after_opens a b g h sense target next t l x =
    let u = t + a.temps in let k = l + a.labels in
    let e = count_append x (a.ops t l) (b.ops sense target next u k) in
    let c = cut l a.labels b.labels k (a.labels + b.labels) x refl refl in
    let p = g t l x in let q = h sense target next u k x in
    omega (arith, e, c, p, q)

-- ---- operators

logical_opens : (of : CType) (v : Value) (y : Test) → ValueOpens v → TestOpens y → Opens (naive.logical_value of v y)
logical_opens of v y g h = record { value = g; test = h; place = no_value_opens }

plain_opens : (of : CType) (v : Value) → ValueOpens v → Opens (naive.plain of v)
plain_opens of v h = logical_opens of v (naive.test_of v) h (test_opens v h)

combined_opens : (bytes : ℕ) (o : Operation) (of by : CType) (v b l x : ℕ) → count x (naive.combined bytes o of by v b l) ≤ window l (naive.operation_labels o) x
combined_opens bytes (operation.Operator o) of by v b l x = let e = computed_none o (computed_in o of by) v b x in omega (arith, e)
combined_opens bytes (operation.Helper f) of by v b l x = let e = one_label l x in omega (arith, e)

binary_opens : (of by : CType) (s : Sort) (a b : Naive) → Opens a → Opens b → Opens (naive.logical_value of (naive.two by s a b) (naive.truth_of by s a b))
binary_opens of by (computes o) a b g h = plain_opens of (naive.joined a.value b.value (naive.computed o by)) (joined_opens a.value b.value (naive.computed o by) g.value h.value (computed_none o by))
binary_opens of by (compares r u) a b g h =
    let y = naive.compared (relation_in by r u) a.value b.value in
    let k = compared_opens (relation_in by r u) a.value b.value g.value h.value in
    logical_opens of (naive.value_of y) y (truth_opens y k) k
binary_opens of by (logical and) a b g h =
    let y = naive.in_turn and a.test b.test in let k = in_turn_opens and a.test b.test g.test h.test in logical_opens of (naive.value_of y) y (truth_opens y k) k

denied_opens : (y : Test) → TestOpens y → TestOpens (naive.denied y)
denied_opens y h sense target next t l x = h (not sense) target next t l x

negated_opens : (v : Value) → ValueOpens v → ValueOpens (naive.negated v)
negated_opens v h t l x =
    let e = count_append x (v.ops t l) (constant (t + v.temps) 0 ∷ code.operate op.Sub (t + v.temps) (v.result t) ∷ []) in
    let p = h t l x in
    omega (arith, e, p)

unary_opens : (of : CType) (o : UnaryOperator) (a : Naive) → Opens a → Opens (naive.logical_value of (naive.one o a) (naive.truth_of_one o a))
unary_opens of unary.Plus a h = plain_opens of a.value h.value
unary_opens of unary.Minus a h = plain_opens of (naive.negated a.value) (negated_opens a.value h.value)
unary_opens of unary.Complement a h =
    plain_opens of (naive.one unary.Complement a) (then_opens a.value 0 (λ d. []) (λ v t. code.complement v ∷ []) h.value (λ v t x. refl))
unary_opens of unary.Not a h = let y = naive.denied a.test in let k = denied_opens a.test h.test in logical_opens of (naive.value_of y) y (truth_opens y k) k

-- ---- assignments

module _ (p : Designated) (of : CType) (opens : ValueOpens (naive.opened p)) where
  assigned_opens : (b : Value) → ValueOpens b → ValueOpens (naive.assigned p b)
  assigned_opens b h t l x =
      let o = naive.opened p in let u = t + o.temps in let k = l + o.labels in
      let r = b.result u in
      let puts = naive.put_into (naive.storage_in p) (o.result t) r (u + b.temps) in let last = naive.settled p (o.result t) r in
      let e = count_append x (o.ops t l) (b.ops u k ++ (puts ++ last)) in let e1 = count_append x (b.ops u k) (puts ++ last) in let e2 = count_append x puts last in
      let c = cut l o.labels b.labels k (o.labels + b.labels) x refl refl in
      let g = opens t l x in let g1 = h u k x in let g2 = put_into_none (naive.storage_in p) (o.result t) r (u + b.temps) x in let g3 = settled_none p (o.result t) r x in
      omega (arith, e, e1, e2, c, g, g1, g2, g3)

  compound_opens : (bytes : ℕ) (o : Operation) (by : CType) (b : Value) → ValueOpens b → ValueOpens (naive.compound bytes o of p by b)
  compound_opens bytes o by b h t l x =
      let at = naive.opened p in
      let n = naive.operation_labels o in
      let v = t + at.temps in let u = v + 2 in let fresh = u + b.temps in let m = l + n in
      let s = naive.storage_in p in
      let o1 = naive.got_from s v (at.result t) (v + 1) in
      let o2 = b.ops u (m + at.labels) in
      let o3 = naive.combined bytes o of by v (b.result u) l in
      let o4 = naive.narrowed of v fresh in
      let o5 = naive.put_into s (at.result t) v (fresh + 1) in
      let o6 = naive.settled p (at.result t) v in
      let e = count_append x (at.ops t m) (o1 ++ (o2 ++ (o3 ++ (o4 ++ (o5 ++ o6))))) in let e1 = count_append x o1 (o2 ++ (o3 ++ (o4 ++ (o5 ++ o6)))) in
      let e2 = count_append x o2 (o3 ++ (o4 ++ (o5 ++ o6))) in let e3 = count_append x o3 (o4 ++ (o5 ++ o6)) in
      let e4 = count_append x o4 (o5 ++ o6) in let e5 = count_append x o5 o6 in
      let c = cut l (n + at.labels) b.labels (m + at.labels) (n + at.labels + b.labels) x (omega arith) refl in
      let d = cut l n at.labels m (n + at.labels) x refl refl in
      let g = opens t m x in let g1 = got_none s v (at.result t) (v + 1) x in let g2 = h u (m + at.labels) x in
      let g3 = combined_opens bytes o of by v (b.result u) l x in let g4 = narrowed_none of v fresh x in
      let g5 = put_into_none s (at.result t) v (fresh + 1) x in let g6 = settled_none p (at.result t) v x in
      omega (arith, e, e1, e2, e3, e4, e5, c, d, g, g1, g2, g3, g4, g5, g6)

  before_opens : (o : StepOperator) → ValueOpens (naive.stepped_before o of p)
  before_opens o t l x =
      let at = naive.opened p in
      let v = t + at.temps in
      let s = naive.storage_in p in
      let o1 = naive.got_from s v (at.result t) (v + 1) in
      let o4 = naive.narrowed of v (v + 3) in
      let o5 = naive.put_into s (at.result t) v (v + 4) in
      let o6 = naive.settled p (at.result t) v in
      let rest = constant (v + 2) 1 ∷ code.operate (naive.step_operator o) v (v + 2) ∷ (o4 ++ (o5 ++ o6)) in
      let e = count_append x (at.ops t l) (o1 ++ rest) in let e1 = count_append x o1 rest in
      let e4 = count_append x o4 (o5 ++ o6) in let e5 = count_append x o5 o6 in
      let g = opens t l x in let g1 = got_none s v (at.result t) (v + 1) x in let g4 = narrowed_none of v (v + 3) x in
      let g5 = put_into_none s (at.result t) v (v + 4) x in let g6 = settled_none p (at.result t) v x in
      omega (arith, e, e1, e4, e5, g, g1, g4, g5, g6)

  behind_opens : (o : StepOperator) → ValueOpens (naive.stepped_after o of p)
  behind_opens o t l x =
      let at = naive.opened p in
      let v = t + at.temps in let n = v + 2 in
      let s = naive.storage_in p in
      let o1 = naive.got_from s v (at.result t) (v + 1) in
      let o4 = naive.narrowed of n (v + 4) in
      let o5 = naive.put_into s (at.result t) n (v + 5) in
      let o6 = naive.settled p (at.result t) v in
      let rest = copy n v ∷ constant (v + 3) 1 ∷ code.operate (naive.step_operator o) n (v + 3) ∷ (o4 ++ (o5 ++ o6)) in
      let e = count_append x (at.ops t l) (o1 ++ rest) in let e1 = count_append x o1 rest in
      let e4 = count_append x o4 (o5 ++ o6) in let e5 = count_append x o5 o6 in
      let g = opens t l x in let g1 = got_none s v (at.result t) (v + 1) x in let g4 = narrowed_none of n (v + 4) x in
      let g5 = put_into_none s (at.result t) n (v + 5) x in let g6 = settled_none p (at.result t) v x in
      omega (arith, e, e1, e4, e5, g, g1, g4, g5, g6)

chosen_opens : (a : Test) (b d : Value) → TestOpens a → ValueOpens b → ValueOpens d → ValueOpens (naive.chosen a b d)
chosen_opens a b d p q r t l x =
    let t1 = t + 1 + a.temps in let t2 = t1 + b.temps in let l1 = l + 3 + a.labels in let l2 = l1 + b.labels in
    let o1 = a.ops false l (l + 1) (t + 1) (l + 3) in
    let o2 = b.ops t1 l1 in
    let o3 = d.ops t2 l2 in
    let last = copy t (d.result t2) ∷ Close Falls (l + 2) ∷ [] in
    let middle = copy t (b.result t1) ∷ Close (Jumps (l + 2)) l ∷ (o3 ++ last) in
    let e = count_append x o1 (o2 ++ middle) in let e1 = count_append x o2 middle in let e2 = count_append x o3 last in
    let c = cut l (3 + a.labels + b.labels) d.labels l2 (3 + a.labels + b.labels + d.labels) x (omega arith) refl in
    let c1 = cut l (3 + a.labels) b.labels l1 (3 + a.labels + b.labels) x (omega arith) refl in
    let c2 = cut l 3 a.labels (l + 3) (3 + a.labels) x refl refl in let c3 = three_labels l x in
    let g = p false l (l + 1) (t + 1) (l + 3) x in let g1 = q t1 l1 x in let g2 = r t2 l2 x in
    omega (arith, e, e1, e2, c, c1, c2, c3, g, g1, g2)

-- ---- calls

abbrev R : Naive → ℕ → Type 0
R n k = Opens n

abbrev T : Type 0
T = Both R

abbrev values_in : List T → List Value
values_in es = map (λ e. e.value) (map (λ e. e.0) es)

arguments_open : (es : List T) → ValueOpens (naive.arguments (values_in es))
arguments_open [] t l x = omega arith
arguments_open (e ∷ es) t l x = both_opens e.0.value (naive.arguments (values_in es)) 1 e.2.value (arguments_open es) t l x

stored_none : (bytes i : ℕ) (places : List ℕ) (x : ℕ) → count x (naive.stored_from bytes i places) ≡ 0
stored_none bytes i [] x = refl
stored_none bytes zero (a ∷ places) x = stored_none bytes 1 places x
stored_none bytes (suc i) (a ∷ places) x = stored_none bytes (suc (suc i)) places x

called_opens : (bytes f : ℕ) (es : List T) → ValueOpens (naive.called bytes f (values_in es))
called_opens bytes f es t l x =
    let args = naive.arguments (values_in es) in
    let o1 = args.ops t (l + 1) in
    let o2 = naive.stored_from bytes 0 (naive.results_of (values_in es) t) in
    let last = Close (Calls f) l ∷ read_result (t + args.temps) ∷ [] in
    let e = count_append x o1 (o2 ++ last) in let e1 = count_append x o2 last in
    let c = cut l 1 args.labels (l + 1) (1 + args.labels) x refl refl in let c1 = one_label l x in
    let g = arguments_open es t (l + 1) x in let g1 = stored_none bytes 0 (naive.results_of (values_in es) t) x in
    omega (arith, e, e1, c, c1, g, g1)

call_opens : (bytes : ℕ) (f : Callee) (es : List T) → ValueOpens (naive.call_of bytes f (values_in es))
call_opens bytes (callee.Defined f) es t l x = called_opens bytes f es t l x
call_opens bytes callee.Getchar es t l x = omega arith
call_opens bytes callee.Putchar [] t l x = omega arith
call_opens bytes callee.Putchar (e ∷ es) t l x =
    then_opens e.0.value 1 (λ d. (d + 1) ∷ []) (λ v t. code.set_result v ∷ code.put_output ∷ constant t 255 ∷ code.Meet v t ∷ []) e.2.value (λ v t x. refl) t l x

-- ---- the nodes

module _ (c : Site) where
  object_opens : (s : Storage) → ValueOpens (naive.read_object s)
  object_opens s t l x = let e = got_none s t 0 0 x in omega (arith, e)

  node_opens : (y : TypedExpr-F T) → Opens (naive.naive_node c (map-TypedExpr T Naive (λ e. e.0) y))
  node_opens (Constant h v) = plain_opens h.of (naive.leaf (λ a. constant a v ∷ [])) (λ t l x. omega arith)
  node_opens (Object h x) =
      let v = object_opens (c.storage x) in record { value = v; test = test_opens (naive.read_object (c.storage x)) v; place = no_value_opens }
  node_opens (Element h x i) =
      let v = element_opens (c.storage x) i.0.value i.2.value in
      record { value = v; test = test_opens (naive.read_element (c.storage x) i.0.value) v; place = address_opens (c.storage x) i.0.value i.2.value }
  node_opens (Assign h a b) = plain_opens h.of (naive.assigned a.0.place b.0.value) (assigned_opens a.0.place a.0.of a.2.place b.0.value b.2.value)
  node_opens (Compound h a o b) =
      plain_opens h.of (naive.compound (word_bytes c.bits) o a.0.of a.0.place b.0.of b.0.value)
      (compound_opens a.0.place a.0.of a.2.place (word_bytes c.bits) o b.0.of b.0.value b.2.value)
  node_opens (Before h o a) = plain_opens h.of (naive.stepped_before o a.0.of a.0.place) (before_opens a.0.place a.0.of a.2.place o)
  node_opens (After h a o) = plain_opens h.of (naive.stepped_after o a.0.of a.0.place) (behind_opens a.0.place a.0.of a.2.place o)
  node_opens (Binary h a o b) = binary_opens h.of a.0.of (sort_of o) a.0 b.0 a.2 b.2
  node_opens (Unary h o a) = unary_opens h.of o a.0 a.2
  node_opens (Convert h a) =
      plain_opens h.of (naive.then_on a.0.value (naive.spare_count h.of) (naive.spare_depths h.of) (naive.narrowed h.of))
      (then_opens a.0.value (naive.spare_count h.of) (naive.spare_depths h.of) (naive.narrowed h.of) a.2.value (narrowed_none h.of))
  node_opens (Comma h a b) =
      logical_opens h.of (naive.both a.0.value 0 b.0.value) (naive.tested_after a.0.value b.0.test) (both_opens a.0.value b.0.value 0 a.2.value b.2.value)
      (after_opens a.0.value b.0.test a.2.value b.2.test)
  node_opens (Conditional h a b d) =
      plain_opens h.of (naive.chosen a.0.test b.0.value d.0.value) (chosen_opens a.0.test b.0.value d.0.value a.2.test b.2.value d.2.value)
  node_opens (Call h f es) = plain_opens h.of (naive.call_of (word_bytes c.bits) f (values_in es)) (call_opens (word_bytes c.bits) f es)

  pub expression_opens : (e : TypedExpr) → Opens (naive.naive c e)
  expression_opens = expr_relates Naive ℕ (naive.naive_node c) (λ y. 0) R node_opens
