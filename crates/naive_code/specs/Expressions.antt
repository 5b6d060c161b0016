-- The code of expressions: what brings a value to a temporary, and what goes by its truth.
use Rattle.std.specs.Prelude.{ℕ, zero, suc, ◌+◌, ◌*◌, Bool, true, false, not, List, [], ◌∷◌, ◌++◌, map}
use Rattle.rtl_word.specs.declared.Rel.{Rel}
use Rattle.rtl_word.specs.declared.Rel.TheVariants.{Ne}
use Rattle.rtl_word.specs.Words.{negated as opposite}
use Rattle.rtl_tree.specs.declared.expressions.BinOp.{BinOp}
use Rattle.rtl_tree.specs.declared.expressions.BinOp.TheVariants as op
use Rattle.c_tree.specs.declared.types.CType.{CType}
use Rattle.c_tree.specs.declared.types.CType.TheVariants as type
use Rattle.c_tree.specs.declared.syntax.Arithmetic.{Arithmetic}
use Rattle.c_tree.specs.declared.syntax.Arithmetic.TheVariants as arithmetic
use Rattle.c_tree.specs.declared.syntax.UnaryOperator.{UnaryOperator}
use Rattle.c_tree.specs.declared.syntax.UnaryOperator.TheVariants as unary
use Rattle.c_tree.specs.declared.syntax.StepOperator.{StepOperator}
use Rattle.c_tree.specs.declared.syntax.StepOperator.TheVariants as step
use Rattle.c_tree.specs.declared.typed.Variable.{Variable}
use Rattle.c_tree.specs.declared.typed.Callee.{Callee}
use Rattle.c_tree.specs.declared.typed.Callee.TheVariants as callee
use Rattle.c_tree.specs.declared.typed.Operation.{Operation}
use Rattle.c_tree.specs.declared.typed.Operation.TheVariants as operation
use Rattle.c_tree.specs.declared.typed.TypedExpr.{TypedExpr}
use Rattle.c_tree.specs.declared.typed.TypedExpr.TheOpen.{TypedExpr-F, Comma, Assign, Compound, Conditional, Binary, Unary, Before, After, Constant, Object, Element, Call, Convert}
use Rattle.c_tree.specs.declared.typed.TypedExpr.TheFolds.{fold-TypedExpr}
use Rattle.c_limits.specs.Frames.{word_bytes}
use Rattle.c_meaning.specs.Operators.{Sort, computes, compares, logical, sort_of, relation_in, computed_in}
use Rattle.naive_code.specs.Operations.{Falls, Jumps, Branches, Calls, Op, Meet, Scale, Extend, Close, copy, constant, address, load, store, load_byte, store_byte, operate, add, complement, read_stack, store_home, store_top, take_input, put_output, read_result, set_result}
use Rattle.naive_code.specs.Storage.{Base, Symbol, Frame, Storage, Temporary, Word, Elements, Missing}

-- How a value is brought to a temporary. It takes fresh temporaries and fresh labels, and its operations, the temporary of the result and the
-- depths of evaluation of the fresh ones go by the first of these and by the depth at which it is evaluated. Two temporaries of one depth
-- never live at once.
pub record Value : Type 0 where
  pub temps : ℕ
  pub labels : ℕ
  pub ops : (temp label : ℕ) → List Op
  pub result : ℕ → ℕ
  pub depths : ℕ → List ℕ

-- How a jump is made by the truth of an expression: to the target where it is as the sense says, and else on, in the block that is opened with
-- the label `next`.
pub record Test : Type 0 where
  pub temps : ℕ
  pub labels : ℕ
  pub ops : (sense : Bool) (target next temp label : ℕ) → List Op
  pub depths : ℕ → List ℕ

-- where an expression may be assigned to: an object, and the value of an element's index
pub data Designated : Type 0 where
  object : Storage → Designated
  element : Storage → Value → Designated
  nowhere : Designated

-- the code of an expression, by its type
pub record Naive : Type 0 where
  pub of : CType
  pub value : Value
  pub test : Test
  pub place : Designated

-- what an expression's code knows: the bits of a word, and where objects are kept
pub record Site : Type 0 where
  pub bits : ℕ
  pub storage : Variable → Storage

-- ---- one after the other

abbrev pub no_value : Value
no_value = record { temps = 0; labels = 0; ops = λ t l. []; result = λ t. 0; depths = λ d. [] }

-- operations that bring a value to the first fresh temporary
abbrev pub leaf : (ℕ → List Op) → Value
leaf os = record { temps = 1; labels = 0; ops = λ t l. os t; result = λ t. t; depths = λ d. d ∷ [] }

-- of what no sound tree comes to: a temporary that is never set
abbrev pub missing_value : Value
missing_value = leaf (λ t. [])

-- two values at different depths, of which the second one is the result
abbrev pub both : Value → ℕ → Value → Value
both a deeper b = record {
  temps = a.temps + b.temps;
  labels = a.labels + b.labels;
  ops = λ t l. a.ops t l ++ b.ops (t + a.temps) (l + a.labels);
  result = λ t. b.result (t + a.temps);
  depths = λ d. a.depths d ++ b.depths (d + deeper);
}

-- a value that is changed where it is, by operations on it and on fresh temporaries
abbrev pub then_on : Value → (fresh : ℕ) → (ℕ → List ℕ) → (ℕ → ℕ → List Op) → Value
then_on a fresh depths os = record {
  temps = a.temps + fresh;
  labels = a.labels;
  ops = λ t l. a.ops t l ++ os (a.result t) (t + a.temps);
  result = a.result;
  depths = λ d. a.depths d ++ depths d;
}

-- ---- tests

abbrev pub relation_if : Bool → Rel → Rel
relation_if true r = r
relation_if false r = opposite r

-- a value is compared with 0
abbrev pub test_of : Value → Test
test_of a = record {
  temps = a.temps + 1;
  labels = a.labels;
  ops = λ sense target next t l.
      a.ops t l ++ constant (t + a.temps) 0 ∷ Close (Branches (relation_if sense Ne) (a.result t) (t + a.temps) target) next ∷ [];
  depths = λ d. a.depths d ++ (d + 1) ∷ [];
}

-- two values are compared
abbrev pub compared : Rel → Value → Value → Test
compared r a b = record {
  temps = a.temps + b.temps;
  labels = a.labels + b.labels;
  ops = λ sense target next t l.
      a.ops t l ++ (b.ops (t + a.temps) (l + a.labels)
      ++ Close (Branches (relation_if sense r) (a.result t) (b.result (t + a.temps)) target) next ∷ []);
  depths = λ d. a.depths d ++ b.depths (d + 1);
}

-- where the truth of the first one decides: to the target where the sense is that of `||` or its denial, else on
abbrev pub decided : Bool → Bool → (target next : ℕ) → ℕ
decided true true target next = next
decided true false target next = target
decided false true target next = target
decided false false target next = next

-- `&&` (true) and `||` (false): the first test leaves for where it decides, and else goes on to the second one, whose block has a label of its own
abbrev pub in_turn : Bool → Test → Test → Test
in_turn and a b = record {
  temps = a.temps + b.temps;
  labels = 1 + a.labels + b.labels;
  ops = λ sense target next t l.
      a.ops (not and) (decided and sense target next) l t (l + 1) ++ b.ops sense target next (t + a.temps) (l + 1 + a.labels);
  depths = λ d. a.depths d ++ b.depths d;
}

abbrev pub denied : Test → Test
denied a = record { temps = a.temps; labels = a.labels; ops = λ sense target next t l. a.ops (not sense) target next t l; depths = a.depths }

-- what is evaluated before a test
abbrev pub tested_after : Value → Test → Test
tested_after a b = record {
  temps = a.temps + b.temps;
  labels = a.labels + b.labels;
  ops = λ sense target next t l. a.ops t l ++ b.ops sense target next (t + a.temps) (l + a.labels);
  depths = λ d. a.depths d ++ b.depths d;
}

-- the value of a test: 0, which is kept where the test fails, and else 1
abbrev pub value_of : Test → Value
value_of a = record {
  temps = 1 + a.temps;
  labels = 2 + a.labels;
  ops = λ t l. constant t 0 ∷ (a.ops false l (l + 1) (t + 1) (l + 2) ++ constant t 1 ∷ Close Falls l ∷ []);
  result = λ t. t;
  depths = λ d. d ∷ a.depths (d + 1);
}

-- ---- objects

-- where an array begins, by the temporaries t and t + 1
abbrev pub base_ops : Base → ℕ → List Op
base_ops (Symbol y) t = address t y ∷ []
base_ops (Frame offset) t = read_stack t ∷ constant (t + 1) offset ∷ add t (t + 1) ∷ []

-- elements of the size of a word stand that far apart
abbrev pub scaled : CType → (index spare : ℕ) → List Op
scaled type.Schar i t = []
scaled type.Uchar i t = []
scaled _ i t = Scale i t ∷ []

-- the address of an element takes the place of its index
abbrev pub addressed : Base → CType → (index spare : ℕ) → List Op
addressed base of i t = scaled of i (t + 2) ++ (base_ops base t ++ add i t ∷ [])

-- a byte is loaded with its sign
abbrev pub fetched : CType → (value at spare : ℕ) → List Op
fetched type.Schar v a t = load_byte v a ∷ []
fetched type.Uchar v a t = load_byte v a ∷ constant t 255 ∷ Meet v t ∷ []
fetched _ v a t = load v a ∷ []

abbrev pub put_at : CType → (at value : ℕ) → List Op
put_at type.Schar a v = store_byte a v ∷ []
put_at type.Uchar a v = store_byte a v ∷ []
put_at _ a v = store a v ∷ []

-- a value is brought into a character type (C11 6.3.1.3)
abbrev pub narrowed : CType → (value spare : ℕ) → List Op
narrowed type.Schar v t = Extend v t ∷ []
narrowed type.Uchar v t = constant t 255 ∷ Meet v t ∷ []
narrowed _ v t = []

-- which takes a fresh temporary; other conversions take none, so that temporaries are no more than twice what the source weighs
abbrev pub spare_count : CType → ℕ
spare_count type.Schar = 1
spare_count type.Uchar = 1
spare_count _ = 0

abbrev pub spare_depths : CType → ℕ → List ℕ
spare_depths type.Schar d = (d + 1) ∷ []
spare_depths type.Uchar d = (d + 1) ∷ []
spare_depths _ d = []

-- the address of an element, from the value of its index
abbrev pub address_in : Storage → Value → Value
address_in (Elements base of) i = then_on i 3 (λ d. (d + 1) ∷ (d + 2) ∷ (d + 2) ∷ []) (λ v t. addressed base of v t)
address_in _ i = missing_value

-- what stands before an object is read or assigned to: the address of an element
abbrev pub opened : Designated → Value
opened (object s) = no_value
opened (element s i) = address_in s i
opened nowhere = no_value

-- the value of an object comes to a temporary; an element's from its address
abbrev pub got_from : Storage → (value at spare : ℕ) → List Op
got_from (Temporary k) v a t = copy v k ∷ []
got_from (Word y) v a t = address v y ∷ load v v ∷ []
got_from (Elements base of) v a t = fetched of v a t
got_from Missing v a t = []

abbrev pub put_into : Storage → (at value spare : ℕ) → List Op
put_into (Temporary k) a v t = copy k v ∷ []
put_into (Word y) a v t = address t y ∷ store t v ∷ []
put_into (Elements base of) a v t = put_at of a v
put_into Missing a v t = []

abbrev pub storage_in : Designated → Storage
storage_in (object s) = s
storage_in (element s i) = s
storage_in nowhere = Missing

-- the value of an assignment: of an element it takes the place of the address, which stands at the depth of the whole
abbrev pub settled : Designated → (at value : ℕ) → List Op
settled (element s i) a v = copy a v ∷ []
settled _ a v = []

abbrev pub settled_in : Designated → (at value : ℕ) → ℕ
settled_in (element s i) a v = a
settled_in _ a v = v

-- how much deeper than the whole a value stands that is to be assigned: beside an element's address
abbrev pub beside : Designated → ℕ
beside (element s i) = 1
beside _ = 0

-- a place is opened, and an element's address leaves its value where it was
abbrev pub read_element : Storage → Value → Value
read_element (Elements base of) i = then_on (address_in (Elements base of) i) 1 (λ d. (d + 1) ∷ []) (λ v t. fetched of v v t)
read_element _ i = missing_value

-- ---- operators

abbrev pub by_type : CType → BinOp → BinOp → BinOp
by_type type.Unsigned signed unsigned = unsigned
by_type _ signed unsigned = signed

-- what an arithmetic operator does, in a type; the result stands in the left operand's temporary
abbrev pub computed : Arithmetic → CType → (a b : ℕ) → List Op
computed arithmetic.Add of a b = operate op.Add a b ∷ []
computed arithmetic.Subtract of a b = operate op.Sub a b ∷ []
computed arithmetic.Multiply of a b = operate op.Mul a b ∷ []
computed arithmetic.Divide of a b = operate (by_type of op.Div op.Divu) a b ∷ []
computed arithmetic.Remainder of a b = operate (by_type of op.Rem op.Remu) a b ∷ []
computed arithmetic.And of a b = Meet a b ∷ []
computed arithmetic.Xor of a b = operate op.Xor a b ∷ []
computed arithmetic.Or of a b = operate op.Or a b ∷ []
computed arithmetic.ShiftLeft of a b = operate op.Shl a b ∷ []
computed arithmetic.ShiftRight of a b = operate (by_type of op.Shr op.Shru) a b ∷ []

-- a value that is computed from two
abbrev pub joined : Value → Value → (ℕ → ℕ → List Op) → Value
joined a b os = record {
  temps = a.temps + b.temps;
  labels = a.labels + b.labels;
  ops = λ t l. a.ops t l ++ (b.ops (t + a.temps) (l + a.labels) ++ os (a.result t) (b.result (t + a.temps)));
  result = a.result;
  depths = λ d. a.depths d ++ b.depths (d + 1);
}

abbrev pub truth_of : CType → Sort → Naive → Naive → Test
truth_of t (logical and) a b = in_turn and a.test b.test
truth_of t (compares r u) a b = compared (relation_in t r u) a.value b.value
truth_of t (computes o) a b = test_of (joined a.value b.value (computed o t))

abbrev pub two : CType → Sort → Naive → Naive → Value
two t (computes o) a b = joined a.value b.value (computed o t)
two t (logical and) a b = value_of (in_turn and a.test b.test)
two t (compares r u) a b = value_of (compared (relation_in t r u) a.value b.value)

-- the difference from 0, which is set behind the operand
abbrev pub negated : Value → Value
negated a = record {
  temps = a.temps + 1;
  labels = a.labels;
  ops = λ t l. a.ops t l ++ constant (t + a.temps) 0 ∷ operate op.Sub (t + a.temps) (a.result t) ∷ [];
  result = λ t. t + a.temps;
  depths = λ d. a.depths (d + 1) ++ d ∷ [];
}

abbrev pub one : UnaryOperator → Naive → Value
one unary.Plus a = a.value
one unary.Minus a = negated a.value
one unary.Complement a = then_on a.value 0 (λ d. []) (λ v t. complement v ∷ [])
one unary.Not a = value_of (denied a.test)

abbrev pub truth_of_one : UnaryOperator → Naive → Test
truth_of_one unary.Not a = denied a.test
truth_of_one o a = test_of (one o a)

-- ---- calls

-- the arguments, each a depth deeper than the one before
abbrev pub arguments : List Value → Value
arguments [] = no_value
arguments (a ∷ rest) = both a 1 (arguments rest)

abbrev pub results_of : List Value → ℕ → List ℕ
results_of [] t = []
results_of (a ∷ rest) t = a.result t ∷ results_of rest (t + a.temps)

-- argument i is stored i words above the stack register, once all are evaluated
abbrev pub stored_at : ℕ → ℕ → ℕ → Op
stored_at bytes zero a = store_top a
stored_at bytes (suc i) a = store_home a (bytes * suc i)

abbrev pub stored_from : ℕ → ℕ → List ℕ → List Op
stored_from bytes i [] = []
stored_from bytes i (a ∷ rest) = stored_at bytes i a ∷ stored_from bytes (suc i) rest

abbrev pub called : ℕ → ℕ → List Value → Value
called bytes f es =
    let args = arguments es in record {
      temps = args.temps + 1;
      labels = 1 + args.labels;
      ops = λ t l.
          args.ops t (l + 1) ++ (stored_from bytes 0 (results_of es t) ++ Close (Calls f) l ∷ read_result (t + args.temps) ∷ []);
      result = λ t. t + args.temps;
      depths = λ d. args.depths d ++ d ∷ [];
    }

abbrev pub put_character : List Value → Value
put_character [] = missing_value
put_character (a ∷ rest) = then_on a 1 (λ d. (d + 1) ∷ []) (λ v t. set_result v ∷ put_output ∷ constant t 255 ∷ Meet v t ∷ [])

abbrev pub call_of : ℕ → Callee → List Value → Value
call_of bytes (callee.Defined f) es = called bytes f es
call_of bytes callee.Getchar es = leaf (λ t. take_input ∷ read_result t ∷ [])
call_of bytes callee.Putchar es = put_character es

-- ---- assignments

abbrev pub assigned : Designated → Value → Value
assigned p b =
    let o = opened p in record {
      temps = o.temps + b.temps + 1;
      labels = o.labels + b.labels;
      ops = λ t l.
          o.ops t l ++ (b.ops (t + o.temps) (l + o.labels)
          ++ (put_into (storage_in p) (o.result t) (b.result (t + o.temps)) (t + o.temps + b.temps)
          ++ settled p (o.result t) (b.result (t + o.temps))));
      result = λ t. settled_in p (o.result t) (b.result (t + o.temps));
      depths = λ d. o.depths d ++ (b.depths (d + beside p) ++ (d + beside p + 1) ∷ []);
    }

abbrev pub operation_labels : Operation → ℕ
operation_labels (operation.Operator o) = 0
operation_labels (operation.Helper f) = 1

-- what a compound assignment computes, by a call where a helper does it
abbrev pub combined : ℕ → Operation → CType → CType → (value operand label : ℕ) → List Op
combined bytes (operation.Operator o) of by v b l = computed o (computed_in o of by) v b
combined bytes (operation.Helper f) of by v b l = store_top v ∷ store_home b bytes ∷ Close (Calls f) l ∷ read_result v ∷ []

-- the value is read before the right side is evaluated
abbrev pub compound : ℕ → Operation → CType → Designated → CType → Value → Value
compound bytes o of p by b =
    let a = opened p in record {
      temps = a.temps + 2 + b.temps + 2;
      labels = operation_labels o + a.labels + b.labels;
      ops = λ t l.
          let v = t + a.temps in let u = v + 2 in let fresh = u + b.temps in let m = l + operation_labels o in
          a.ops t m ++ (got_from (storage_in p) v (a.result t) (v + 1)
          ++ (b.ops u (m + a.labels)
          ++ (combined bytes o of by v (b.result u) l
          ++ (narrowed of v fresh
          ++ (put_into (storage_in p) (a.result t) v (fresh + 1)
          ++ settled p (a.result t) v)))));
      result = λ t. settled_in p (a.result t) (t + a.temps);
      depths = λ d. let e = d + beside p in a.depths d ++ (e ∷ (e + 1) ∷ (b.depths (e + 1) ++ (e + 1) ∷ (e + 1) ∷ []));
    }

abbrev pub step_operator : StepOperator → BinOp
step_operator step.Increment = op.Add
step_operator step.Decrement = op.Sub

-- a step before: the new value is that of the expression
abbrev pub stepped_before : StepOperator → CType → Designated → Value
stepped_before o of p =
    let a = opened p in record {
      temps = a.temps + 5;
      labels = a.labels;
      ops = λ t l.
          let v = t + a.temps in
          a.ops t l ++ (got_from (storage_in p) v (a.result t) (v + 1)
          ++ (constant (v + 2) 1 ∷ operate (step_operator o) v (v + 2)
          ∷ (narrowed of v (v + 3) ++ (put_into (storage_in p) (a.result t) v (v + 4) ++ settled p (a.result t) v))));
      result = λ t. settled_in p (a.result t) (t + a.temps);
      depths = λ d. let e = d + beside p in a.depths d ++ (e ∷ (e + 1) ∷ (e + 1) ∷ (e + 1) ∷ (e + 1) ∷ []);
    }

-- a step behind: the old value is
abbrev pub stepped_after : StepOperator → CType → Designated → Value
stepped_after o of p =
    let a = opened p in record {
      temps = a.temps + 6;
      labels = a.labels;
      ops = λ t l.
          let v = t + a.temps in let n = v + 2 in
          a.ops t l ++ (got_from (storage_in p) v (a.result t) (v + 1)
          ++ (copy n v ∷ constant (v + 3) 1 ∷ operate (step_operator o) n (v + 3)
          ∷ (narrowed of n (v + 4) ++ (put_into (storage_in p) (a.result t) n (v + 5) ++ settled p (a.result t) v))));
      result = λ t. settled_in p (a.result t) (t + a.temps);
      depths = λ d. let e = d + beside p in a.depths d ++ (e ∷ (e + 1) ∷ (e + 1) ∷ (e + 2) ∷ (e + 2) ∷ (e + 2) ∷ []);
    }

-- ---- `?:`

-- the value of either comes to one temporary
abbrev pub chosen : Test → Value → Value → Value
chosen a b c = record {
  temps = 1 + a.temps + b.temps + c.temps;
  labels = 3 + a.labels + b.labels + c.labels;
  ops = λ t l.
      let t1 = t + 1 + a.temps in let t2 = t1 + b.temps in let l1 = l + 3 + a.labels in
      a.ops false l (l + 1) (t + 1) (l + 3)
      ++ (b.ops t1 l1 ++ copy t (b.result t1) ∷ Close (Jumps (l + 2)) l
      ∷ (c.ops t2 (l1 + b.labels) ++ copy t (c.result t2) ∷ Close Falls (l + 2) ∷ []));
  result = λ t. t;
  depths = λ d. d ∷ (a.depths (d + 1) ++ (b.depths (d + 1) ++ c.depths (d + 1)));
}

-- ---- the nodes

abbrev pub plain : CType → Value → Naive
plain of v = record { of = of; value = v; test = test_of v; place = nowhere }

abbrev pub logical_value : CType → Value → Test → Naive
logical_value of v t = record { of = of; value = v; test = t; place = nowhere }

abbrev pub read_object : Storage → Value
read_object s = leaf (λ t. got_from s t 0 0)

abbrev pub naive_node : Site → TypedExpr-F Naive → Naive
naive_node c (Constant h v) = plain h.of (leaf (λ t. constant t v ∷ []))
naive_node c (Object h x) = record {
  of = h.of;
  value = read_object (c.storage x);
  test = test_of (read_object (c.storage x));
  place = object (c.storage x);
}
naive_node c (Element h x i) = record {
  of = h.of;
  value = read_element (c.storage x) i.value;
  test = test_of (read_element (c.storage x) i.value);
  place = element (c.storage x) i.value;
}
naive_node c (Assign h a b) = plain h.of (assigned a.place b.value)
naive_node c (Compound h a o b) = plain h.of (compound (word_bytes c.bits) o a.of a.place b.of b.value)
naive_node c (Before h o a) = plain h.of (stepped_before o a.of a.place)
naive_node c (After h a o) = plain h.of (stepped_after o a.of a.place)
naive_node c (Binary h a o b) = logical_value h.of (two a.of (sort_of o) a b) (truth_of a.of (sort_of o) a b)
naive_node c (Unary h o a) = logical_value h.of (one o a) (truth_of_one o a)
naive_node c (Convert h a) = plain h.of (then_on a.value (spare_count h.of) (spare_depths h.of) (narrowed h.of))
naive_node c (Comma h a b) = logical_value h.of (both a.value 0 b.value) (tested_after a.value b.test)
naive_node c (Conditional h a b d) = plain h.of (chosen a.test b.value d.value)
naive_node c (Call h f es) = plain h.of (call_of (word_bytes c.bits) f (map (λ e. e.value) es))

-- the code of an expression
abbrev pub naive : Site → TypedExpr → Naive
naive c = fold-TypedExpr Naive (naive_node c)
