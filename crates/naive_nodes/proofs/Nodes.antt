-- What relates an expression and its code; names, elements and assignments.
use Rattle.std.proofs.Common.{◌≡◌, ℕ, ◌+◌, ◌≤◌, ◌<◌, List, [], refl, sym, subst, arith}
use Rattle.std.specs.Prelude.{Bool, true, false, ◌&&◌, max}
use Rattle.std.proofs.Math.Nat.{le-max_left, le-max_right}
use Rattle.md_shapes.specs.Shapes.{Frame as Fixed}
use Rattle.c_tree.specs.declared.types.CType.{CType}
use Rattle.c_tree.specs.declared.syntax.StepOperator.{StepOperator}
use Rattle.c_tree.specs.declared.typed.Head.{Head}
use Rattle.c_tree.specs.declared.typed.Operation.{Operation}
use Rattle.c_tree.specs.declared.typed.Variable.{Variable}
use Rattle.c_tree.specs.declared.typed.Function.{Function}
use Rattle.c_tree.specs.declared.typed.Typed.{Typed}
use Rattle.c_tree.specs.declared.typed.TypedExpr.TheOpen.{Assign, Object, Element}
use Rattle.c_meaning.specs.Parts.{State, Part, then_do, demand, Value as Result}
use Rattle.c_meaning.specs.Expressions.{Kind, missing, scalar, array, type_in, Calls as SourceCalls, Evaluation, expression, plain as source_plain, no_lvalue, element as element_of, as_value, read, World}
use Rattle.c_meaning.specs.Run.{kind_in}
use Rattle.temp_machine.specs.Routines.{Image, Target}
use Rattle.naive_code.specs.Operations.{Op}
use Rattle.naive_code.specs.Storage.{Storage, Temporary, Word, Elements, Missing, storage_of}
use Rattle.naive_code.specs.Expressions.{Value, Test, Designated, object, element, nowhere, Naive, naive_node, plain, logical_value, leaf, opened, settled_in, read_object, read_element, address_in, assigned, compound, stepped_before, stepped_after}
use Rattle.naive_code.specs.Functions.{site_of}
use Rattle.naive_run.specs.Sound.{Checked, alike, is_array}
use Rattle.naive_step.proofs.Doing.{any}
use Rattle.naive_step.proofs.Making.{Call as Active}
use Rattle.naive_assigned.proofs.Ready.{Ready, outgoing}
use Rattle.naive_assigned.proofs.Storages.{array_storage}
use Rattle.naive_nodes.proofs.Folds.{Four}
use Rattle.naive_values.proofs.Asked.{Any, IsFresh, Place_fresh, Opens_next, ValueDoes, TestDoes, PlaceDoes}
use Rattle.naive_values.proofs.Objects.{object_place, object_value, element_place, element_value}
use Rattle.naive_assigns.proofs.Assigning.{world, assign_does}
use Rattle.naive_tests.proofs.Tests.{test_of_does, test_of_opens}
use Rattle.naive_calls.proofs.Calling.{CallsDo}

pub both_so : (a b : Bool) → (a && b) ≡ true → (a ≡ true) × (b ≡ true)
both_so true true e = (refl, refl)
both_so true false e = absurd (grind (arith, e))
both_so false b e = absurd (grind (arith, e))

array_so : (g : Kind) → is_array g ≡ true → (by : CType) × (n : ℕ) × (g ≡ array by n)
array_so missing e = absurd (grind (arith, e))
array_so (scalar of) e = absurd (grind (arith, e))
array_so (array of n) e = (of, n, refl)

-- ---- results are fresh

pub leaf_fresh : (os : ℕ → List Op) → IsFresh (leaf os)
leaf_fresh os = record { from = λ first. omega arith; to = λ first. omega arith }

pub address_fresh : (s : Storage) (v : Value) → IsFresh v → IsFresh (address_in s v)
address_fresh (Elements base of) v h = record { from = h.from; to = λ first. let lt = h.to first in omega (arith, lt) }
address_fresh (Temporary j) v h = record { from = λ first. omega arith; to = λ first. omega arith }
address_fresh (Word y) v h = record { from = λ first. omega arith; to = λ first. omega arith }
address_fresh Missing v h = record { from = λ first. omega arith; to = λ first. omega arith }

pub element_fresh : (s : Storage) (v : Value) → IsFresh v → IsFresh (read_element s v)
element_fresh (Elements base of) v h = record { from = h.from; to = λ first. let lt = h.to first in omega (arith, lt) }
element_fresh (Temporary j) v h = record { from = λ first. omega arith; to = λ first. omega arith }
element_fresh (Word y) v h = record { from = λ first. omega arith; to = λ first. omega arith }
element_fresh Missing v h = record { from = λ first. omega arith; to = λ first. omega arith }

module _ (t : Target) (u : Image) (m : Fixed) (source : Typed) (f : Function) (k : Active) (ready : Ready t u m source f k) (n : ℕ) (call : SourceCalls) (calls : CallsDo t u m source f k ready n call) where
  abbrev pub Values : CType → (State → Part Result) → Value → Type 0
  Values = ValueDoes t u m source f k ready n

  abbrev pub Tests_any : (State → Part Result) → Test → Type 0
  Tests_any = TestDoes t u m source f k ready n Any

  abbrev Fresh_place : Designated → Type 0
  Fresh_place = Place_fresh t u m source f k ready

  abbrev Opens_test : Test → Type 0
  Opens_test = Opens_next t u m source f k ready

  abbrev pub here_world : World
  here_world = world t u m source f k ready n call

  abbrev pub room : ℕ
  room = outgoing t u m source f k ready

  -- of a sound expression whose calls have no more arguments than there are words for
  pub record Related (e : Evaluation) (v : Naive) (c : Checked) (arguments : ℕ) : Type 0 where
    pub naive_of : v.of ≡ e.of
    pub checked_of : c.of ≡ e.of
    pub fresh : IsFresh v.value
    pub place_fresh : Fresh_place v.place
    pub opens : Opens_test v.test
    pub value : c.sound ≡ true → arguments ≤ room → Values e.of e.value v.value
    pub test : c.sound ≡ true → arguments ≤ room → Tests_any e.value v.test
    pub place : c.sound ≡ true → arguments ≤ room → PlaceDoes t u m source f k ready n e.of e.lvalue v.place

  abbrev pub Quad : Type 0
  Quad = Four Evaluation Naive Checked ℕ Related

  no_place : (of : CType) (h : Head) → PlaceDoes t u m source f k ready n of (no_lvalue h) nowhere
  no_place of h first label p q c s fresh ops i at rep = any [] _

  -- of most nodes the test is that of the value
  pub plain_related : (h : Head) (x : State → Part Result) (v : Value) (c : Checked) (arguments : ℕ) → c.of ≡ h.of → IsFresh v → (c.sound ≡ true → arguments ≤ room → Values h.of x v)
      → Related (source_plain h x) (plain h.of v) c arguments
  plain_related h x v c arguments of fresh does = record {
    naive_of = refl;
    checked_of = of;
    fresh = fresh;
    place_fresh = tt;
    opens = test_of_opens t u m source f k ready n v;
    value = does;
    test = λ sound few. test_of_does t u m source f k ready n h.of x v fresh (does sound few);
    place = λ sound few. no_place h.of h;
  }

  -- of others it is one of its own
  pub logical_related : (h : Head) (x : State → Part Result) (v : Value) (e : Test) (c : Checked) (arguments : ℕ) → c.of ≡ h.of → IsFresh v → Opens_test e → (c.sound ≡ true → arguments ≤ room → Values h.of x v)
      → (c.sound ≡ true → arguments ≤ room → Tests_any x e) → Related (source_plain h x) (logical_value h.of v e) c arguments
  logical_related h x v e c arguments of fresh opens does tests = record {
    naive_of = refl;
    checked_of = of;
    fresh = fresh;
    place_fresh = tt;
    opens = opens;
    value = does;
    test = tests;
    place = λ sound few. no_place h.of h;
  }

  -- ---- names

  pub name_related : (h : Head) (x : Variable) → Related (expression here_world (Object h x)) (naive_node (site_of t.kept t.word source f) (Object h x))
      (record { of = h.of; sound = alike h.of (type_in (kind_in source f x)) }) 0
  name_related h x = record {
    naive_of = refl;
    checked_of = refl;
    fresh = leaf_fresh _;
    place_fresh = tt;
    opens = test_of_opens t u m source f k ready n (read_object (storage_of t.kept t.word source f x));
    value = λ sound few. object_value t u m source f k ready n h x sound;
    test = λ sound few. test_of_does t u m source f k ready n h.of _ (read_object (storage_of t.kept t.word source f x)) (leaf_fresh _) (object_value t u m source f k ready n h x sound);
    place = λ sound few. object_place t u m source f k ready n h x sound;
  }

  module _ (h : Head) (x : Variable) (i : Quad) where
    abbrev s : Storage
    s = storage_of t.kept t.word source f x

    abbrev index_sound : Bool
    index_sound = i.2.sound && is_array (kind_in source f x) && alike h.of (type_in (kind_in source f x))

    element_parts : index_sound ≡ true → (i.2.sound ≡ true) × ((is_array (kind_in source f x) ≡ true) × (alike h.of (type_in (kind_in source f x)) ≡ true))
    element_parts e = let p = both_so _ _ e in let q = both_so _ _ p.0 in (q.0, (q.1, p.1))

    element_value_does : index_sound ≡ true → i.3 ≤ room → Values h.of (expression here_world (Element h x i.0)).value (read_element s i.1.value)
    element_value_does e few =
        let parts = element_parts e in
        let a = array_so (kind_in source f x) parts.1.0 in
        let b = array_storage t.kept t.word source f ready.parameters x a.0 a.1 a.2 in
        let same : alike h.of a.0 ≡ true = subst (λ g. alike h.of (type_in g) ≡ true) a.2 parts.1.1 in
        subst (λ z. Values h.of (expression here_world (Element h x i.0)).value (read_element z i.1.value)) (sym b.1)
        (subst (λ g. Values h.of (λ s. then_do (then_do (i.0.value s) demand) (λ v s1. then_do (element_of g t.word i.0.of h x v s1) (λ y s2. as_value (read y s2)))) (read_element (Elements b.0 a.0) i.1.value)) (sym a.2)
        (element_value t u m source f k ready n h x a.0 a.1 b.0 a.2 b.1 same i.0.of i.0.value i.1.value i.4.fresh (i.4.value parts.0 few)))

    element_place_does : index_sound ≡ true → i.3 ≤ room → PlaceDoes t u m source f k ready n h.of (expression here_world (Element h x i.0)).lvalue (element s i.1.value)
    element_place_does e few =
        let parts = element_parts e in
        let a = array_so (kind_in source f x) parts.1.0 in
        let b = array_storage t.kept t.word source f ready.parameters x a.0 a.1 a.2 in
        let same : alike h.of a.0 ≡ true = subst (λ g. alike h.of (type_in g) ≡ true) a.2 parts.1.1 in
        subst (λ z. PlaceDoes t u m source f k ready n h.of (expression here_world (Element h x i.0)).lvalue (element z i.1.value)) (sym b.1)
        (subst (λ g. PlaceDoes t u m source f k ready n h.of (λ s. then_do (then_do (i.0.value s) demand) (element_of g t.word i.0.of h x)) (element (Elements b.0 a.0) i.1.value)) (sym a.2)
        (element_place t u m source f k ready n h x a.0 a.1 b.0 a.2 b.1 same i.0.of i.0.value i.1.value i.4.fresh (i.4.value parts.0 few)))

    pub element_related : Related (expression here_world (Element h x i.0)) (naive_node (site_of t.kept t.word source f) (Element h x i.1)) (record { of = h.of; sound = index_sound }) i.3
    element_related = record {
      naive_of = refl;
      checked_of = refl;
      fresh = element_fresh s i.1.value i.4.fresh;
      place_fresh = address_fresh s i.1.value i.4.fresh;
      opens = test_of_opens t u m source f k ready n (read_element s i.1.value);
      value = element_value_does;
      test = λ e few. test_of_does t u m source f k ready n h.of _ (read_element s i.1.value) (element_fresh s i.1.value i.4.fresh) (element_value_does e few);
      place = element_place_does;
    }

  -- ---- assignments

  abbrev Settled_in : Designated → ℕ → ℕ → ℕ → Type 0
  Settled_in p first w more = (first ≤ settled_in p ((opened p).result first) w) × (settled_in p ((opened p).result first) w < first + ((opened p).temps + more))

  settled_fresh : (p : Designated) → Fresh_place p → (first w more : ℕ) → first ≤ w → w < first + ((opened p).temps + more) → Settled_in p first w more
  settled_fresh (object s) fresh first w more from to = (from, to)
  settled_fresh (element s i) fresh first w more from to =
      let lt = fresh.to first in (fresh.from first, (let z : (opened (element s i)).result first < first + ((opened (element s i)).temps + more) = omega (arith, lt) in z))
  settled_fresh nowhere fresh first w more from to = (from, to)

  assigned_fresh : (p : Designated) (v : Value) → Fresh_place p → IsFresh v → IsFresh (assigned p v)
  assigned_fresh p v fresh_p fresh_v = record {
    from = λ first. (settled first).0;
    to = λ first. let lt = (settled first).1 in omega (arith, lt);
  }
    where
      settled : (first : ℕ) → Settled_in p first (v.result (first + (opened p).temps)) (v.temps + 1)
      settled first =
          let from = fresh_v.from (first + (opened p).temps) in
          let to = fresh_v.to (first + (opened p).temps) in
          settled_fresh p fresh_p first (v.result (first + (opened p).temps)) (v.temps + 1) (omega (arith, from)) (omega (arith, to))

  pub compound_fresh : (bytes : ℕ) (o : Operation) (of by : CType) (p : Designated) (v : Value) → Fresh_place p → IsFresh (compound bytes o of p by v)
  compound_fresh bytes o of by p v fresh_p = record {
    from = λ first. (settled first).0;
    to = λ first. let lt = (settled first).1 in omega (arith, lt);
  }
    where
      settled : (first : ℕ) → Settled_in p first (first + (opened p).temps) (2 + v.temps + 2)
      settled first = settled_fresh p fresh_p first (first + (opened p).temps) (2 + v.temps + 2) (omega arith) (omega arith)

  pub before_fresh : (o : StepOperator) (of : CType) (p : Designated) → Fresh_place p → IsFresh (stepped_before o of p)
  before_fresh o of p fresh_p = record {
    from = λ first. (settled first).0;
    to = λ first. let lt = (settled first).1 in omega (arith, lt);
  }
    where
      settled : (first : ℕ) → Settled_in p first (first + (opened p).temps) 5
      settled first = settled_fresh p fresh_p first (first + (opened p).temps) 5 (omega arith) (omega arith)

  pub after_fresh : (o : StepOperator) (of : CType) (p : Designated) → Fresh_place p → IsFresh (stepped_after o of p)
  after_fresh o of p fresh_p = record {
    from = λ first. (settled first).0;
    to = λ first. let lt = (settled first).1 in omega (arith, lt);
  }
    where
      settled : (first : ℕ) → Settled_in p first (first + (opened p).temps) 6
      settled first = settled_fresh p fresh_p first (first + (opened p).temps) 6 (omega arith) (omega arith)

  pub left_few : (a b : ℕ) → max a b ≤ room → a ≤ room
  left_few a b le = let h = le-max_left a b in omega (arith, h, le)

  pub right_few : (a b : ℕ) → max a b ≤ room → b ≤ room
  right_few a b le = let h = le-max_right a b in omega (arith, h, le)

  pub assign_related : (h : Head) (a b : Quad) → Related (expression here_world (Assign h a.0 b.0)) (naive_node (site_of t.kept t.word source f) (Assign h a.1 b.1))
      (record { of = h.of; sound = a.2.sound && b.2.sound && alike h.of a.2.of && alike b.2.of a.2.of }) (max a.3 b.3)
  assign_related h a b =
      plain_related h _ (assigned a.1.place b.1.value) _ (max a.3 b.3) refl (assigned_fresh a.1.place b.1.value a.4.place_fresh b.4.fresh)
      (λ sound few.
      let p = both_so _ _ sound in let q = both_so _ _ p.0 in let r = both_so _ _ q.0 in
      assign_does t u m source f k ready n call h.of a.0.of b.0.of a.0.lvalue a.1.place b.0.value b.1.value a.4.place_fresh b.4.fresh (a.4.place r.0 (left_few a.3 b.3 few)) (b.4.value r.1 (right_few a.3 b.3 few))
      (subst (λ z. alike h.of z ≡ true) a.4.checked_of q.1) (subst (λ z. alike b.0.of z ≡ true) a.4.checked_of (subst (λ z. alike z a.2.of ≡ true) b.4.checked_of p.1)))
