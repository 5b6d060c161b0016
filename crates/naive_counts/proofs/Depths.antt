-- How deep the temporaries of an expression stand: each has a depth, below that of the expression.
use Rattle.std.proofs.Common.{◌≡◌, ℕ, ◌+◌, ◌≤◌, ◌<◌, List, [], ◌∷◌, ◌++◌, map, refl, ◌∙◌, subst, arith}
use Rattle.std.specs.Prelude.{Bool, length, max}
use Rattle.std.proofs.Math.Nat.{le-max_left, le-max_right}
use Rattle.std.proofs.lemmas.List.{length-append}
use Rattle.rtl_word.specs.declared.Rel.{Rel}
use Rattle.c_tree.specs.declared.types.CType.{CType}
use Rattle.c_tree.specs.declared.types.CType.TheVariants as type
use Rattle.c_tree.specs.declared.syntax.UnaryOperator.{UnaryOperator}
use Rattle.c_tree.specs.declared.syntax.UnaryOperator.TheVariants as unary
use Rattle.c_tree.specs.declared.syntax.StepOperator.{StepOperator}
use Rattle.c_tree.specs.declared.typed.Callee.{Callee}
use Rattle.c_tree.specs.declared.typed.Callee.TheVariants as callee
use Rattle.c_tree.specs.declared.typed.Operation.{Operation}
use Rattle.c_tree.specs.declared.typed.TypedExpr.{TypedExpr}
use Rattle.c_tree.specs.declared.typed.TypedExpr.TheOpen.{TypedExpr-F, Comma, Assign, Compound, Conditional, Binary, Unary, Before, After, Constant, Object, Element, Call, Convert}
use Rattle.c_tree.specs.declared.typed.TypedExpr.TheFolds.{map-TypedExpr}
use Rattle.c_tree.proofs.TypedFolds.{Both, expr_relates}
use Rattle.c_limits.specs.Depths.{deepest_from, node_depth, conversion_depth, expression_depth, depth_of}
use Rattle.c_limits.specs.Frames.{word_bytes}
use Rattle.c_meaning.specs.Operators.{Sort, computes, compares, logical, sort_of, relation_in}
use Rattle.naive_code.specs.Storage.{Storage, Temporary, Word, Elements, Missing}
use Rattle.naive_code.specs.Operations.{Op}
use Rattle.naive_code.specs.Expressions as naive
use Rattle.naive_code.specs.Expressions.{Value, Test, Designated, object, element, nowhere, Naive, Site}

-- ---- lists of depths

abbrev pub Below : ℕ → List ℕ → Type 0
Below m [] = Unit {0}
Below m (x ∷ xs) = (x < m) × Below m xs

pub below_append : (m : ℕ) (xs ys : List ℕ) → Below m xs → Below m ys → Below m (xs ++ ys)
below_append m [] ys h g = g
below_append m (x ∷ xs) ys h g = (h.0, below_append m xs ys h.1 g)

pub below_more : (n m : ℕ) (xs : List ℕ) → n ≤ m → Below n xs → Below m xs
below_more n m [] le h = tt
below_more n m (x ∷ xs) le h = (let e = h.0 in omega (arith, e, le), below_more n m xs le h.1)

-- so many depths, below a number
pub record Stand (m count : ℕ) (xs : List ℕ) : Type 0 where
  pub below : Below m xs
  pub many : length xs ≡ count

pub stand_append : (m a b : ℕ) (xs ys : List ℕ) → Stand m a xs → Stand m b ys → Stand m (a + b) (xs ++ ys)
stand_append m a b xs ys p q = record {
  below = below_append m xs ys p.below q.below;
  many = let e = length-append xs ys in let p' = p.many in let q' = q.many in omega (arith, e, p', q');
}

pub stand_more : (n m count : ℕ) (xs : List ℕ) → n ≤ m → Stand n count xs → Stand m count xs
stand_more n m count xs le h = record { below = below_more n m xs le h.below; many = h.many }

pub stand_none : (m : ℕ) → Stand m 0 []
stand_none m = record { below = tt; many = refl }

pub stand_one : (m x : ℕ) → x < m → Stand m 1 (x ∷ [])
stand_one m x lt = record { below = (lt, tt); many = refl }

-- in front of others
stand_first : (m x count : ℕ) (xs : List ℕ) → x < m → Stand m count xs → Stand m (1 + count) (x ∷ xs)
stand_first m x count xs lt h = record { below = (lt, h.below); many = let e = h.many in omega (arith, e) }

pub stand_as : (m a b : ℕ) (xs : List ℕ) → a ≡ b → Stand m a xs → Stand m b xs
stand_as m a b xs e h = record { below = h.below; many = h.many ∙ e }

-- ---- expressions

pub record Deep (n : Naive) (D : ℕ) : Type 0 where
  pub least : 2 ≤ D
  pub value : (d : ℕ) → Stand (d + D) n.value.temps (n.value.depths d)
  pub test : (d : ℕ) → Stand (d + D) n.test.temps (n.test.depths d)
  pub opened : (d : ℕ) → Stand (d + D) (naive.opened n.place).temps ((naive.opened n.place).depths d)

-- a test of a value takes one more
tested_deep : (v : Value) (D : ℕ) → 2 ≤ D → ((d : ℕ) → Stand (d + D) v.temps (v.depths d)) → (d : ℕ) → Stand (d + D) (naive.test_of v).temps ((naive.test_of v).depths d)
tested_deep v D least h d = stand_append (d + D) v.temps 1 (v.depths d) ((d + 1) ∷ []) (h d) (stand_one (d + D) (d + 1) (omega (arith, least)))

-- a value of a test stands one deeper
truth_deep : (x : Test) (n D : ℕ) → n + 1 ≤ D → ((d : ℕ) → Stand (d + n) x.temps (x.depths d)) → (d : ℕ) → Stand (d + D) (naive.value_of x).temps ((naive.value_of x).depths d)
truth_deep x n D le h d =
    stand_first (d + D) d x.temps (x.depths (d + 1)) (omega (arith, le)) (stand_more (d + 1 + n) (d + D) x.temps (x.depths (d + 1)) (omega (arith, le)) (h (d + 1)))

logical_deep : (of : CType) (v : Value) (x : Test) (D : ℕ) → 2 ≤ D → ((d : ℕ) → Stand (d + D) v.temps (v.depths d)) → ((d : ℕ) → Stand (d + D) x.temps (x.depths d)) → Deep (naive.logical_value of v x) D
logical_deep of v x D least h g = record { least = least; value = h; test = g; opened = λ d. stand_none (d + D) }

plain_deep : (of : CType) (v : Value) (D : ℕ) → 2 ≤ D → ((d : ℕ) → Stand (d + D) v.temps (v.depths d)) → Deep (naive.plain of v) D
plain_deep of v D least h = logical_deep of v (naive.test_of v) D least h (tested_deep v D least h)

leaf_deep : (D d : ℕ) → 2 ≤ D → Stand (d + D) 1 (d ∷ [])
leaf_deep D d least = stand_one (d + D) d (omega (arith, least))

-- two, the second one so much deeper
two_deep : (D n k a b : ℕ) (xs ys : List ℕ) (d deeper : ℕ) → n ≤ D → deeper + k ≤ D → Stand (d + n) a xs → Stand (d + deeper + k) b ys → Stand (d + D) (a + b) (xs ++ ys)
two_deep D n k a b xs ys d deeper le le' p q =
    stand_append (d + D) a b xs ys (stand_more (d + n) (d + D) a xs (omega (arith, le)) p) (stand_more (d + deeper + k) (d + D) b ys (omega (arith, le')) q)

-- how much deeper than its operands a node is
first_of : (a : ℕ) (ds : List ℕ) → a + 2 ≤ node_depth (a ∷ ds)
first_of a ds = let e = le-max_left (a + 0) (deepest_from 1 ds) in omega (arith, e)

second_of : (a b : ℕ) (ds : List ℕ) → b + 3 ≤ node_depth (a ∷ b ∷ ds)
second_of a b ds = let e = le-max_right (a + 0) (max (b + 1) (deepest_from 2 ds)) in let g = le-max_left (b + 1) (deepest_from 2 ds) in omega (arith, e, g)

third_of : (a b c : ℕ) (ds : List ℕ) → c + 4 ≤ node_depth (a ∷ b ∷ c ∷ ds)
third_of a b c ds =
    let e = le-max_right (a + 0) (max (b + 1) (max (c + 2) (deepest_from 3 ds))) in let g = le-max_right (b + 1) (max (c + 2) (deepest_from 3 ds)) in let h = le-max_left (c + 2) (deepest_from 3 ds) in
    omega (arith, e, g, h)

node_least : (ds : List ℕ) → 2 ≤ node_depth ds
node_least ds = omega arith

-- ---- places

address_deep : (s : Storage) (i : Value) (n D : ℕ) → n ≤ D → 3 ≤ D → ((d : ℕ) → Stand (d + n) i.temps (i.depths d)) → (d : ℕ) → Stand (d + D) (naive.address_in s i).temps ((naive.address_in s i).depths d)
address_deep (Elements b of) i n D le three h d =
    stand_append (d + D) i.temps 3 (i.depths d) ((d + 1) ∷ (d + 2) ∷ (d + 2) ∷ []) (stand_more (d + n) (d + D) i.temps (i.depths d) (omega (arith, le)) (h d))
    (record { below = (omega (arith, three), (omega (arith, three), (omega (arith, three), tt))); many = refl })
address_deep (Temporary k) i n D le three h d = stand_one (d + D) d (omega (arith, three))
address_deep (Word y) i n D le three h d = stand_one (d + D) d (omega (arith, three))
address_deep Missing i n D le three h d = stand_one (d + D) d (omega (arith, three))

element_deep : (s : Storage) (i : Value) (n D : ℕ) → n ≤ D → 3 ≤ D → ((d : ℕ) → Stand (d + n) i.temps (i.depths d)) → (d : ℕ) → Stand (d + D) (naive.read_element s i).temps ((naive.read_element s i).depths d)
element_deep (Elements b of) i n D le three h d =
    stand_append (d + D) (i.temps + 3) 1 ((naive.address_in (Elements b of) i).depths d) ((d + 1) ∷ []) (address_deep (Elements b of) i n D le three h d) (stand_one (d + D) (d + 1) (omega (arith, three)))
element_deep (Temporary k) i n D le three h d = stand_one (d + D) d (omega (arith, three))
element_deep (Word y) i n D le three h d = stand_one (d + D) d (omega (arith, three))
element_deep Missing i n D le three h d = stand_one (d + D) d (omega (arith, three))

beside_one : (p : Designated) → naive.beside p ≤ 1
beside_one (object s) = omega arith
beside_one (element s i) = omega arith
beside_one nowhere = omega arith

-- ---- nodes with two operands

module _ (a b : Naive) (x y : ℕ) (p : Deep a x) (q : Deep b y) where
  abbrev D : ℕ
  D = node_depth (x ∷ y ∷ [])

  joined_deep : (os : ℕ → ℕ → List Op) (d : ℕ) → Stand (d + D) (naive.joined a.value b.value os).temps ((naive.joined a.value b.value os).depths d)
  joined_deep os d =
      let e = first_of x (y ∷ []) in let g = second_of x y [] in
      two_deep D x y a.value.temps b.value.temps (a.value.depths d) (b.value.depths (d + 1)) d 1 (omega (arith, e)) (omega (arith, g)) (p.value d) (q.value (d + 1))

  -- compared, or tested one after the other
  compared_deep : (r : Rel) (n d : ℕ) → x + 1 ≤ n → y + 2 ≤ n → Stand (d + n) (naive.compared r a.value b.value).temps ((naive.compared r a.value b.value).depths d)
  compared_deep r n d le le' =
      two_deep n x y a.value.temps b.value.temps (a.value.depths d) (b.value.depths (d + 1)) d 1 (omega (arith, le)) (omega (arith, le')) (p.value d) (q.value (d + 1))

  in_turn_deep : (and : Bool) (n d : ℕ) → x ≤ n → y ≤ n → Stand (d + n) (naive.in_turn and a.test b.test).temps ((naive.in_turn and a.test b.test).depths d)
  in_turn_deep and n d le le' =
      stand_append (d + n) a.test.temps b.test.temps (a.test.depths d) (b.test.depths d) (stand_more (d + x) (d + n) a.test.temps (a.test.depths d) (omega (arith, le)) (p.test d))
      (stand_more (d + y) (d + n) b.test.temps (b.test.depths d) (omega (arith, le')) (q.test d))

  binary_deep : (of by : CType) (s : Sort) → Deep (naive.logical_value of (naive.two by s a b) (naive.truth_of by s a b)) D
  binary_deep of by (computes o) =
      logical_deep of _ _ D (node_least (x ∷ y ∷ [])) (joined_deep (naive.computed o by)) (tested_deep (naive.joined a.value b.value (naive.computed o by)) D (node_least (x ∷ y ∷ [])) (joined_deep (naive.computed o by)))
  binary_deep of by (compares r u) =
      let e = first_of x (y ∷ []) in let g = second_of x y [] in
      logical_deep of _ _ D (node_least (x ∷ y ∷ []))
      (truth_deep (naive.compared (relation_in by r u) a.value b.value) (deepest_from 0 (x ∷ y ∷ []) + 1) D (omega arith) (λ d. compared_deep (relation_in by r u) (deepest_from 0 (x ∷ y ∷ []) + 1) d (omega (arith, e)) (omega (arith, g))))
      (λ d. compared_deep (relation_in by r u) D d (omega (arith, e)) (omega (arith, g)))
  binary_deep of by (logical and) =
      let e = first_of x (y ∷ []) in let g = second_of x y [] in
      logical_deep of _ _ D (node_least (x ∷ y ∷ []))
      (truth_deep (naive.in_turn and a.test b.test) (deepest_from 0 (x ∷ y ∷ [])) D (omega arith) (λ d. in_turn_deep and (deepest_from 0 (x ∷ y ∷ [])) d (omega (arith, e)) (omega (arith, g))))
      (λ d. in_turn_deep and D d (omega (arith, e)) (omega (arith, g)))

  comma_deep : (of : CType) → Deep (naive.logical_value of (naive.both a.value 0 b.value) (naive.tested_after a.value b.test)) D
  comma_deep of =
      let e = first_of x (y ∷ []) in let g = second_of x y [] in
      logical_deep of _ _ D (node_least (x ∷ y ∷ []))
      (λ d. two_deep D x y a.value.temps b.value.temps (a.value.depths d) (b.value.depths (d + 0)) d 0 (omega (arith, e)) (omega (arith, g)) (p.value d) (q.value (d + 0)))
      (λ d. stand_append (d + D) a.value.temps b.test.temps (a.value.depths d) (b.test.depths d) (stand_more (d + x) (d + D) a.value.temps (a.value.depths d) (omega (arith, e)) (p.value d))
      (stand_more (d + y) (d + D) b.test.temps (b.test.depths d) (omega (arith, g)) (q.test d)))

  assign_deep : (of : CType) → Deep (naive.plain of (naive.assigned a.place b.value)) D
  assign_deep of = plain_deep of (naive.assigned a.place b.value) D (node_least (x ∷ y ∷ [])) deep
    where
      deep : (d : ℕ) → Stand (d + D) (naive.assigned a.place b.value).temps ((naive.assigned a.place b.value).depths d)
      deep d =
          let e = first_of x (y ∷ []) in let g = second_of x y [] in let least = p.least in let one = beside_one a.place in
          let o = naive.opened a.place in let k = d + naive.beside a.place in
          stand_as (d + D) (o.temps + (b.value.temps + 1)) (o.temps + b.value.temps + 1) (o.depths d ++ (b.value.depths k ++ (k + 1) ∷ [])) (omega arith)
          (stand_append (d + D) o.temps (b.value.temps + 1) (o.depths d) (b.value.depths k ++ (k + 1) ∷ []) (stand_more (d + x) (d + D) o.temps (o.depths d) (omega (arith, e)) (p.opened d))
          (stand_append (d + D) b.value.temps 1 (b.value.depths k) ((k + 1) ∷ []) (stand_more (k + y) (d + D) b.value.temps (b.value.depths k) (omega (arith, g, one)) (q.value k))
          (stand_one (d + D) (k + 1) (omega (arith, e, least, one)))))

  compound_deep : (of : CType) (bytes : ℕ) (o : Operation) → Deep (naive.plain of (naive.compound bytes o a.of a.place b.of b.value)) D
  compound_deep of bytes o = plain_deep of (naive.compound bytes o a.of a.place b.of b.value) D (node_least (x ∷ y ∷ [])) deep
    where
      deep : (d : ℕ) → Stand (d + D) (naive.compound bytes o a.of a.place b.of b.value).temps ((naive.compound bytes o a.of a.place b.of b.value).depths d)
      deep d =
          let e = first_of x (y ∷ []) in let g = second_of x y [] in let least = p.least in let one = beside_one a.place in
          let at = naive.opened a.place in let k = d + naive.beside a.place in
          let low : k < d + D = omega (arith, e, least, one) in let high : k + 1 < d + D = omega (arith, e, least, one) in
          let last : Stand (d + D) 2 ((k + 1) ∷ (k + 1) ∷ []) = record { below = (high, (high, tt)); many = refl } in
          let behind = stand_append (d + D) b.value.temps 2 (b.value.depths (k + 1)) ((k + 1) ∷ (k + 1) ∷ []) (stand_more (k + 1 + y) (d + D) b.value.temps (b.value.depths (k + 1)) (omega (arith, g, one)) (q.value (k + 1))) last in
          stand_as (d + D) (at.temps + (1 + (1 + (b.value.temps + 2)))) (at.temps + 2 + b.value.temps + 2) (at.depths d ++ (k ∷ (k + 1) ∷ (b.value.depths (k + 1) ++ (k + 1) ∷ (k + 1) ∷ []))) (omega arith)
          (stand_append (d + D) at.temps (1 + (1 + (b.value.temps + 2))) (at.depths d) (k ∷ (k + 1) ∷ (b.value.depths (k + 1) ++ (k + 1) ∷ (k + 1) ∷ [])) (stand_more (d + x) (d + D) at.temps (at.depths d) (omega (arith, e)) (p.opened d))
          (stand_first (d + D) k (1 + (b.value.temps + 2)) ((k + 1) ∷ (b.value.depths (k + 1) ++ (k + 1) ∷ (k + 1) ∷ [])) low
          (stand_first (d + D) (k + 1) (b.value.temps + 2) (b.value.depths (k + 1) ++ (k + 1) ∷ (k + 1) ∷ []) high behind)))

-- ---- nodes with one operand

module _ (a : Naive) (x : ℕ) (p : Deep a x) where
  abbrev E : ℕ
  E = node_depth (x ∷ [])

  before_deep : (of : CType) (o : StepOperator) → Deep (naive.plain of (naive.stepped_before o a.of a.place)) E
  before_deep of o = plain_deep of (naive.stepped_before o a.of a.place) E (node_least (x ∷ [])) deep
    where
      deep : (d : ℕ) → Stand (d + E) (naive.stepped_before o a.of a.place).temps ((naive.stepped_before o a.of a.place).depths d)
      deep d =
          let e = first_of x [] in let least = p.least in let one = beside_one a.place in
          let at = naive.opened a.place in let k = d + naive.beside a.place in
          let low : k < d + E = omega (arith, e, least, one) in let high : k + 1 < d + E = omega (arith, e, least, one) in
          stand_append (d + E) at.temps 5 (at.depths d) (k ∷ (k + 1) ∷ (k + 1) ∷ (k + 1) ∷ (k + 1) ∷ []) (stand_more (d + x) (d + E) at.temps (at.depths d) (omega (arith, e)) (p.opened d))
          (record { below = (low, (high, (high, (high, (high, tt))))); many = refl })

  after_deep : (of : CType) (o : StepOperator) → Deep (naive.plain of (naive.stepped_after o a.of a.place)) E
  after_deep of o = plain_deep of (naive.stepped_after o a.of a.place) E (node_least (x ∷ [])) deep
    where
      deep : (d : ℕ) → Stand (d + E) (naive.stepped_after o a.of a.place).temps ((naive.stepped_after o a.of a.place).depths d)
      deep d =
          let e = first_of x [] in let least = p.least in let one = beside_one a.place in
          let at = naive.opened a.place in let k = d + naive.beside a.place in
          let low : k < d + E = omega (arith, e, least, one) in let high : k + 1 < d + E = omega (arith, e, least, one) in let top : k + 2 < d + E = omega (arith, e, least, one) in
          stand_append (d + E) at.temps 6 (at.depths d) (k ∷ (k + 1) ∷ (k + 1) ∷ (k + 2) ∷ (k + 2) ∷ (k + 2) ∷ []) (stand_more (d + x) (d + E) at.temps (at.depths d) (omega (arith, e)) (p.opened d))
          (record { below = (low, (high, (high, (top, (top, (top, tt)))))); many = refl })

  unary_deep : (of : CType) (o : UnaryOperator) → Deep (naive.logical_value of (naive.one o a) (naive.truth_of_one o a)) E
  unary_deep of unary.Plus = let e = first_of x [] in plain_deep of a.value E (node_least (x ∷ [])) (λ d. stand_more (d + x) (d + E) a.value.temps (a.value.depths d) (omega (arith, e)) (p.value d))
  unary_deep of unary.Minus =
      let e = first_of x [] in
      plain_deep of (naive.negated a.value) E (node_least (x ∷ []))
      (λ d. stand_append (d + E) a.value.temps 1 (a.value.depths (d + 1)) (d ∷ []) (stand_more (d + 1 + x) (d + E) a.value.temps (a.value.depths (d + 1)) (omega (arith, e)) (p.value (d + 1))) (stand_one (d + E) d (omega arith)))
  unary_deep of unary.Complement =
      let e = first_of x [] in
      plain_deep of (naive.one unary.Complement a) E (node_least (x ∷ []))
      (λ d. stand_append (d + E) a.value.temps 0 (a.value.depths d) [] (stand_more (d + x) (d + E) a.value.temps (a.value.depths d) (omega (arith, e)) (p.value d)) (stand_none (d + E)))
  unary_deep of unary.Not =
      let e = first_of x [] in
      logical_deep of _ _ E (node_least (x ∷ [])) (truth_deep (naive.denied a.test) x E (omega (arith, e)) p.test)
      (λ d. stand_more (d + x) (d + E) a.test.temps (a.test.depths d) (omega (arith, e)) (p.test d))

  element_is_deep : (of : CType) (s : Storage) → Deep (record { of = of; value = naive.read_element s a.value; test = naive.test_of (naive.read_element s a.value); place = element s a.value }) E
  element_is_deep of s =
      let e = first_of x [] in let least = p.least in
      let le : x ≤ E = omega (arith, e) in let three : 3 ≤ E = omega (arith, e, least) in
      record {
        least = node_least (x ∷ []);
        value = element_deep s a.value x E le three p.value;
        test = tested_deep (naive.read_element s a.value) E (node_least (x ∷ [])) (element_deep s a.value x E le three p.value);
        opened = address_deep s a.value x E le three p.value;
      }

  convert_deep : (of : CType) → Deep (naive.plain of (naive.then_on a.value (naive.spare_count of) (naive.spare_depths of) (naive.narrowed of))) (conversion_depth of + x)
  convert_deep of =
      let least = p.least in
      plain_deep of (naive.then_on a.value (naive.spare_count of) (naive.spare_depths of) (naive.narrowed of)) (conversion_depth of + x) (omega (arith, least))
      (λ d. stand_append (d + (conversion_depth of + x)) a.value.temps (naive.spare_count of) (a.value.depths d) (naive.spare_depths of d)
      (stand_more (d + x) (d + (conversion_depth of + x)) a.value.temps (a.value.depths d) (omega arith) (p.value d))
      (spares_stand of d))
    where
      spares_stand : (of : CType) (d : ℕ) → Stand (d + (conversion_depth of + x)) (naive.spare_count of) (naive.spare_depths of d)
      spares_stand type.Schar d = let least = p.least in stand_one _ (d + 1) (omega (arith, least))
      spares_stand type.Uchar d = let least = p.least in stand_one _ (d + 1) (omega (arith, least))
      spares_stand type.Int d = stand_none _
      spares_stand type.Unsigned d = stand_none _
      spares_stand type.Void d = stand_none _

conditional_deep : (of : CType) (a b c : Naive) (x y z : ℕ) → Deep a x → Deep b y → Deep c z → Deep (naive.plain of (naive.chosen a.test b.value c.value)) (node_depth (x ∷ y ∷ z ∷ []))
conditional_deep of a b c x y z p q r = plain_deep of (naive.chosen a.test b.value c.value) (node_depth (x ∷ y ∷ z ∷ [])) (node_least (x ∷ y ∷ z ∷ [])) deep
  where
    deep : (d : ℕ) → Stand (d + node_depth (x ∷ y ∷ z ∷ [])) (naive.chosen a.test b.value c.value).temps ((naive.chosen a.test b.value c.value).depths d)
    deep d =
        let e = first_of x (y ∷ z ∷ []) in let g = second_of x y (z ∷ []) in let h = third_of x y z [] in
        let second = stand_append (d + node_depth (x ∷ y ∷ z ∷ [])) b.value.temps c.value.temps (b.value.depths (d + 1)) (c.value.depths (d + 1)) (stand_more (d + 1 + y) (d + node_depth (x ∷ y ∷ z ∷ [])) b.value.temps (b.value.depths (d + 1)) (omega (arith, g)) (q.value (d + 1)))
        (stand_more (d + 1 + z) (d + node_depth (x ∷ y ∷ z ∷ [])) c.value.temps (c.value.depths (d + 1)) (omega (arith, h)) (r.value (d + 1))) in
        stand_as (d + node_depth (x ∷ y ∷ z ∷ [])) (1 + (a.test.temps + (b.value.temps + c.value.temps))) (1 + a.test.temps + b.value.temps + c.value.temps) (d ∷ (a.test.depths (d + 1) ++ (b.value.depths (d + 1) ++ c.value.depths (d + 1)))) (omega arith)
        (stand_first (d + node_depth (x ∷ y ∷ z ∷ [])) d (a.test.temps + (b.value.temps + c.value.temps)) (a.test.depths (d + 1) ++ (b.value.depths (d + 1) ++ c.value.depths (d + 1))) (omega arith)
        (stand_append (d + node_depth (x ∷ y ∷ z ∷ [])) a.test.temps (b.value.temps + c.value.temps) (a.test.depths (d + 1)) (b.value.depths (d + 1) ++ c.value.depths (d + 1)) (stand_more (d + 1 + x) (d + node_depth (x ∷ y ∷ z ∷ [])) a.test.temps (a.test.depths (d + 1)) (omega (arith, e)) (p.test (d + 1))) second))

-- ---- all nodes

module _ (c : Site) where
  abbrev T : Type 0
  T = Both Deep

  abbrev values_in : List T → List Value
  values_in es = map (λ e. e.value) (map (λ e. e.0) es)

  -- operand i stands i deeper
  arguments_deep : (es : List T) (i d m : ℕ) → d + deepest_from i (map (λ e. e.1) es) ≤ m → Stand m (naive.arguments (values_in es)).temps ((naive.arguments (values_in es)).depths (d + i))
  arguments_deep [] i d m le = stand_none m
  arguments_deep (x ∷ es) i d m le =
      let e = le-max_left (x.1 + i) (deepest_from (i + 1) (map (λ e. e.1) es)) in let g = le-max_right (x.1 + i) (deepest_from (i + 1) (map (λ e. e.1) es)) in
      let rest = naive.arguments (values_in es) in
      stand_append m x.0.value.temps rest.temps (x.0.value.depths (d + i)) (rest.depths (d + i + 1)) (stand_more (d + i + x.1) m x.0.value.temps (x.0.value.depths (d + i)) (omega (arith, e, le)) (x.2.value (d + i)))
      (subst (λ z. Stand m rest.temps (rest.depths z)) (let z : d + (i + 1) ≡ d + i + 1 = omega arith in z) (arguments_deep es (i + 1) d m (omega (arith, g, le))))

  call_deep : (bytes : ℕ) (g : Callee) (es : List T) (d : ℕ)
      → Stand (d + node_depth (map (λ e. e.1) es)) (naive.call_of bytes g (values_in es)).temps ((naive.call_of bytes g (values_in es)).depths d)
  call_deep bytes (callee.Defined k) es d =
      let m = d + node_depth (map (λ e. e.1) es) in
      let args = naive.arguments (values_in es) in
      stand_append m args.temps 1 (args.depths d) (d ∷ [])
      (subst (λ z. Stand m args.temps (args.depths z)) (let z : d + 0 ≡ d = omega arith in z) (arguments_deep es 0 d m (omega arith))) (stand_one m d (omega arith))
  call_deep bytes callee.Getchar es d = stand_one _ d (omega arith)
  call_deep bytes callee.Putchar [] d = stand_one _ d (omega arith)
  call_deep bytes callee.Putchar (x ∷ es) d =
      let e = first_of x.1 (map (λ e. e.1) es) in let least = x.2.least in
      let m = d + node_depth (x.1 ∷ map (λ e. e.1) es) in
      stand_append m x.0.value.temps 1 (x.0.value.depths d) ((d + 1) ∷ []) (stand_more (d + x.1) m x.0.value.temps (x.0.value.depths d) (omega (arith, e)) (x.2.value d)) (stand_one m (d + 1) (omega (arith, e, least)))

  node_deep : (y : TypedExpr-F T) → Deep (naive.naive_node c (map-TypedExpr T Naive (λ e. e.0) y)) (expression_depth (map-TypedExpr T ℕ (λ e. e.1) y))
  node_deep (Constant h v) = plain_deep h.of _ 2 (omega arith) (λ d. leaf_deep 2 d (omega arith))
  node_deep (Object h x) = record {
    least = omega arith;
    value = λ d. leaf_deep 2 d (omega arith);
    test = tested_deep (naive.read_object (c.storage x)) 2 (omega arith) (λ d. leaf_deep 2 d (omega arith));
    opened = λ d. stand_none (d + 2);
  }
  node_deep (Element h x i) = element_is_deep i.0 i.1 i.2 h.of (c.storage x)
  node_deep (Assign h a b) = assign_deep a.0 b.0 a.1 b.1 a.2 b.2 h.of
  node_deep (Compound h a o b) = compound_deep a.0 b.0 a.1 b.1 a.2 b.2 h.of (word_bytes c.bits) o
  node_deep (Before h o a) = before_deep a.0 a.1 a.2 h.of o
  node_deep (After h a o) = after_deep a.0 a.1 a.2 h.of o
  node_deep (Binary h a o b) = binary_deep a.0 b.0 a.1 b.1 a.2 b.2 h.of a.0.of (sort_of o)
  node_deep (Unary h o a) = unary_deep a.0 a.1 a.2 h.of o
  node_deep (Convert h a) = convert_deep a.0 a.1 a.2 h.of
  node_deep (Comma h a b) = comma_deep a.0 b.0 a.1 b.1 a.2 b.2 h.of
  node_deep (Conditional h a b d) = conditional_deep h.of a.0 b.0 d.0 a.1 b.1 d.1 a.2 b.2 d.2
  node_deep (Call h g es) = plain_deep h.of (naive.call_of (word_bytes c.bits) g (values_in es)) (node_depth (map (λ e. e.1) es)) (node_least _) (call_deep (word_bytes c.bits) g es)

  pub expression_deep : (e : TypedExpr) → Deep (naive.naive c e) (depth_of e)
  expression_deep = expr_relates Naive ℕ (naive.naive_node c) expression_depth Deep node_deep
