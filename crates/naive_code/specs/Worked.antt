-- Worked nodes and statements, each with its operations.
use Rattle.std.specs.Prelude.{◌≡◌, ℕ, ◌==◌, if◌then◌else◌, false, List, [], ◌∷◌, Some}
use Rattle.rtl_word.specs.declared.Rel.TheVariants.{Eq, Ge, Geu}
use Rattle.rtl_tree.specs.declared.expressions.BinOp.TheVariants as op
use Rattle.c_tree.specs.declared.types.CType.TheVariants as type
use Rattle.c_tree.specs.declared.syntax.BinaryOperator.{BinaryOperator}
use Rattle.c_tree.specs.declared.syntax.BinaryOperator.TheVariants.{LogicalAnd, Less, Add, Multiply}
use Rattle.c_tree.specs.declared.syntax.StepOperator.TheVariants.{Increment}
use Rattle.c_tree.specs.declared.typed.Callee.TheVariants.{Defined}
use Rattle.c_tree.specs.declared.typed.Head.{Head}
use Rattle.c_tree.specs.declared.typed.Variable.{Variable}
use Rattle.c_tree.specs.declared.typed.Variable.TheVariants as variable
use Rattle.c_tree.specs.declared.typed.TypedExpr.TheOpen as expr
use Rattle.c_meaning.specs.Sketches.{of_int}
use Rattle.naive_code.specs.Operations.{Falls, Jumps, Branches, Calls, Op, Scale, Extend, Close, copy, constant, store, store_byte, operate, add, read_stack, store_top, store_home, read_result}
use Rattle.naive_code.specs.Storage.{Frame, Storage, Temporary, Elements}
use Rattle.naive_code.specs.Expressions.{Naive, Site, naive_node}
use Rattle.naive_code.specs.Statements.{Steps, no_steps, all_joined, dropped, labelled, leaving, while_steps, for_steps, switch_steps}
use Rattle.naive_code.specs.Functions.{nowhere}

-- local 3 is an array of int, 60 bytes above the stack register, local 4 one of char, 80 bytes above it; the others are scalars
abbrev pub places : Variable → Storage
places (variable.Static x) = Temporary x
places (variable.Parameter x) = Temporary x
places (variable.Local x) = if x == 3 then Elements (Frame 60) type.Int else if x == 4 then Elements (Frame 80) type.Schar else Temporary x

abbrev pub site : Site
site = record { bits = 16; storage = places }

abbrev pub int : Head
int = of_int 1

abbrev pub number : ℕ → Naive
number v = naive_node site (expr.Constant int v)

abbrev pub name : ℕ → Naive
name x = naive_node site (expr.Object int (variable.Local x))

abbrev pub unsigned_name : ℕ → Naive
unsigned_name x = naive_node site (expr.Object (record { of = type.Unsigned; at = int.at }) (variable.Local x))

abbrev pub element : ℕ → Naive → Naive
element x i = naive_node site (expr.Element int (variable.Local x) i)

abbrev pub two : Naive → BinaryOperator → Naive → Naive
two a o b = naive_node site (expr.Binary int a o b)

abbrev pub assign : Naive → Naive → Naive
assign a b = naive_node site (expr.Assign int a b)

abbrev pub call : ℕ → List Naive → Naive
call f es = naive_node site (expr.Call int (Defined f) es)

abbrev pub int_to_char : Naive → Naive
int_to_char a = naive_node site (expr.Convert (record { of = type.Schar; at = int.at }) a)

abbrev pub increment_behind : Naive → Naive
increment_behind a = naive_node site (expr.After int a Increment)

abbrev pub continuing : Steps
continuing = leaving site [] (λ a. Jumps a.continues)

-- `for(;e;step)a`
abbrev pub loop_with : Naive → Naive → Steps → Steps
loop_with e step a = for_steps site [] no_steps e.test (dropped step.value) a

abbrev pub while : Naive → Naive → Steps
while e a = while_steps site [] e.test (dropped a.value)

abbrev pub case : ℕ → Naive → Steps
case v a = labelled site [] (Some v) (dropped a.value)

abbrev pub switch : Naive → List Steps → Steps
switch e ps = switch_steps site [] e.value (all_joined ps)

-- by the temporaries from 4 on, and the labels from 10 on
abbrev pub value_ops : Naive → List Op
value_ops e = e.value.ops 4 10

-- a jump to label 20 where it is 0, else on, with label 21
abbrev pub test_ops : Naive → List Op
test_ops e = e.test.ops false 20 21 4 10

abbrev pub stat_ops : Steps → List Op
stat_ops s = s.ops nowhere 4 10

-- scalars a, b and c are locals 0 to 2, the arrays d and e are locals 3 and 4
pub record Operations : Type 0 where
  -- 7
  pub leaf : value_ops (number 7) ≡ constant 4 7 ∷ []
  -- a+b*c
  pub sum : value_ops (two (name 0) Add (two (name 1) Multiply (name 2))) ≡ copy 4 0 ∷ copy 5 1 ∷ copy 6 2 ∷ operate op.Mul 5 6 ∷ add 4 5 ∷ []
  -- a<b&&c, tested
  pub conjunction : test_ops (two (two (name 0) Less (name 1)) LogicalAnd (name 2))
      ≡ copy 4 0 ∷ copy 5 1 ∷ Close (Branches Ge 4 5 20) 10 ∷ copy 6 2 ∷ constant 7 0 ∷ Close (Branches Eq 6 7 20) 21 ∷ []
  -- d[a]=5
  pub set_element : value_ops (assign (element 3 (name 0)) (number 5))
      ≡ copy 4 0 ∷ Scale 4 7 ∷ read_stack 5 ∷ constant 6 60 ∷ add 5 6 ∷ add 4 5 ∷ constant 8 5 ∷ store 4 8 ∷ copy 4 8 ∷ []
  -- while(a)b=1;
  pub loop : stat_ops (while (name 0) (assign (name 1) (number 1)))
      ≡ Close Falls 11 ∷ copy 4 0 ∷ constant 5 0 ∷ Close (Branches Eq 4 5 10) 12 ∷ constant 6 1 ∷ copy 1 6 ∷ Close (Jumps 11) 10 ∷ []
  -- a<b of unsigned operands, tested
  pub unsigned_test : test_ops (two (unsigned_name 0) Less (unsigned_name 1)) ≡ copy 4 0 ∷ copy 5 1 ∷ Close (Branches Geu 4 5 20) 21 ∷ []
  -- f(a,b): both are evaluated before one is stored
  pub call_of_two : value_ops (call 0 (name 0 ∷ name 1 ∷ [])) ≡ copy 4 0 ∷ copy 5 1 ∷ store_top 4 ∷ store_home 5 2 ∷ Close (Calls 0) 10 ∷ read_result 6 ∷ []
  -- for(;a;b=1)continue;
  pub loop_with_step : stat_ops (loop_with (name 0) (assign (name 1) (number 1)) continuing)
      ≡ Close Falls 11 ∷ copy 4 0 ∷ constant 5 0 ∷ Close (Branches Eq 4 5 10) 12 ∷ Close (Jumps 13) 14 ∷ Close Falls 13 ∷ constant 6 1 ∷ copy 1 6 ∷ Close (Jumps 11) 10 ∷ []
  -- e[a]=b of an array of signed char: a byte of the value is stored, and the index stands for as many bytes
  pub set_character : value_ops (assign (element 4 (name 0)) (int_to_char (name 1)))
      ≡ copy 4 0 ∷ read_stack 5 ∷ constant 6 80 ∷ add 5 6 ∷ add 4 5 ∷ copy 8 1 ∷ Extend 8 9 ∷ store_byte 4 8 ∷ copy 4 8 ∷ []
  -- b=a++: the value is the one before
  pub step_behind : value_ops (assign (name 1) (increment_behind (name 0))) ≡ copy 4 0 ∷ copy 6 4 ∷ constant 7 1 ∷ add 6 7 ∷ copy 0 6 ∷ copy 1 4 ∷ []
  -- switch(a){case 1:b=1;case 2:b=2;}: the first case falls through into the second one
  pub two_cases : stat_ops (switch (name 0) (case 1 (assign (name 1) (number 1)) ∷ case 2 (assign (name 1) (number 2)) ∷ []))
      ≡ copy 4 0 ∷ constant 5 1 ∷ Close (Branches Eq 4 5 14) 12 ∷ constant 6 2 ∷ Close (Branches Eq 4 6 15) 13 ∷ Close (Jumps 10) 11
      ∷ Close Falls 14 ∷ constant 7 1 ∷ copy 1 7 ∷ Close Falls 15 ∷ constant 9 2 ∷ copy 1 9 ∷ Close Falls 10 ∷ []
  -- f(a,b): each argument is kept in a home of its own depth, and the result at that of the call
  pub depths_of_two : (call 0 (name 0 ∷ name 1 ∷ [])).value.depths 0 ≡ 0 ∷ 1 ∷ 0 ∷ []
