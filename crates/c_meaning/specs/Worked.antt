-- Worked runs. The text of each program stands above it; its columns are those of the tree.
use Rattle.std.specs.Prelude.{◌≡◌, ℕ, ◌+◌, List, [], ◌∷◌, Some, None, codes}
use Rattle.c_tree.specs.declared.types.CType.TheVariants as type
use Rattle.c_tree.specs.declared.syntax.BinaryOperator.TheVariants.{LogicalAnd, LogicalOr, NotEqual, Less, ShiftLeft, ShiftRight, Add, Subtract, Multiply, Divide}
use Rattle.c_tree.specs.declared.syntax.Arithmetic.TheVariants as arithmetic
use Rattle.c_tree.specs.declared.syntax.StepOperator.TheVariants.{Increment}
use Rattle.c_tree.specs.declared.typed.Callee.TheVariants.{Defined, Getchar, Putchar}
use Rattle.c_tree.specs.declared.typed.LocalInit.TheVariants as init
use Rattle.c_tree.specs.declared.typed.Object.{Object}
use Rattle.c_tree.specs.declared.typed.TypedExpr.{TypedExpr}
use Rattle.c_tree.specs.declared.typed.Stat.{Stat}
use Rattle.c_tree.specs.declared.typed.Typed.{Typed}
use Rattle.behaviour.specs.Behaviour.{Running, Ended, Failed, Overstack}
use Rattle.c_meaning.specs.Run.{source_run}
use Rattle.c_meaning.specs.Sketches.{number, unsigned, minus, local, element, two, assign, compound, before, convert, call, evaluate, return, when, block, declares, forever, while, case, default, switch, object, function, main, program, main_alone, small, run, undefined_at}

-- int main(void){return E;}, where E begins in column 23
abbrev pub returns : TypedExpr → Typed
returns e = main_alone [] (return e ∷ [])

abbrev pub int : Object
int = object type.Int None

-- -32767-1, in this column
abbrev pub least : ℕ → TypedExpr
least c = two c (minus c (number (c + 1) 32767)) Subtract (number (c + 7) 1)

-- undefined acts of operators, at the first token of the expression
pub record OperatorActs : Type 0 where
  -- 32767+1
  pub sum : run (returns (two 23 (number 23 32767) Add (number 29 1))) 1 ≡ undefined_at 1 23
  -- -32767-1-1
  pub difference : run (returns (two 23 (least 23) Subtract (number 32 1))) 1 ≡ undefined_at 1 23
  -- 256*128
  pub product : run (returns (two 23 (number 23 256) Multiply (number 27 128))) 1 ≡ undefined_at 1 23
  -- 1-(-(-32767-1))
  pub negation : run (returns (two 23 (number 23 1) Subtract (minus 26 (least 28)))) 1 ≡ undefined_at 1 26
  -- 1/0
  pub quotient : run (returns (two 23 (number 23 1) Divide (number 25 0))) 1 ≡ undefined_at 2 23
  -- (-32767-1)/-1
  pub overflow : run (returns (two 23 (least 24) Divide (minus 34 (number 35 1)))) 1 ≡ undefined_at 2 23
  -- 1<<16
  pub count : run (returns (two 23 (number 23 1) ShiftLeft (number 26 16))) 1 ≡ undefined_at 3 23
  -- 1>>-1
  pub below : run (returns (two 23 (number 23 1) ShiftRight (minus 26 (number 27 1)))) 1 ≡ undefined_at 3 23
  -- -1<<16: the count comes first
  pub both : run (returns (two 23 (minus 23 (number 24 1)) ShiftLeft (number 27 16))) 1 ≡ undefined_at 3 23
  -- -1<<1
  pub negative : run (returns (two 23 (minus 23 (number 24 1)) ShiftLeft (number 27 1))) 1 ≡ undefined_at 4 23
  -- 16384<<1
  pub shifted : run (returns (two 23 (number 23 16384) ShiftLeft (number 30 1))) 1 ≡ undefined_at 4 23

-- int main(void){int x;S} and int main(void){int a[2];S}, where S begins in column 22, and in column 25
abbrev pub with_scalar : List Stat → Typed
with_scalar ss = main_alone (int ∷ []) (declares 0 init.Absent ∷ ss)

abbrev pub with_array : List Stat → Typed
with_array ss = main_alone (object type.Int (Some 2) ∷ []) (declares 0 init.Absent ∷ ss)

-- undefined acts on objects, at the object's name
pub record ObjectActs : Type 0 where
  -- return x;
  pub scalar : run (with_scalar (return (local 29 0) ∷ [])) 1 ≡ undefined_at 6 29
  -- x+=1;
  pub compound_assignment : run (with_scalar (evaluate (compound 22 (local 22 0) arithmetic.Add (number 25 1)) ∷ [])) 1 ≡ undefined_at 6 22
  -- ++x;
  pub increment : run (with_scalar (evaluate (before 22 Increment (local 24 0)) ∷ [])) 1 ≡ undefined_at 6 24
  -- return a[1];
  pub unset_element : run (with_array (return (element 32 0 (number 34 1)) ∷ [])) 1 ≡ undefined_at 6 32
  -- a[0]=3;return a[0];
  pub set_element : run (with_array (evaluate (assign 25 (element 25 0 (number 27 0)) (number 30 3)) ∷ return (element 39 0 (number 41 0)) ∷ [])) 1 ≡ Ended [] 3
  -- return a[2];
  pub above : run (with_array (return (element 32 0 (number 34 2)) ∷ [])) 1 ≡ undefined_at 5 32
  -- a[-1]=0;
  pub below : run (with_array (evaluate (assign 25 (element 25 0 (minus 27 (number 28 1))) (number 31 0)) ∷ [])) 1 ≡ undefined_at 5 25
  -- int main(void){int a[2]={7};return a[1];}: what isn't listed is 0
  pub listed : run (main_alone (object type.Int (Some 2) ∷ []) (declares 0 (init.List (number 26 7 ∷ [])) ∷ return (element 36 0 (number 38 1)) ∷ [])) 1 ≡ Ended [] 0
  -- int main(void){int i=0;for(;;){int x;if(i)return x;i=x=1;}}: in each turn x begins unset
  pub unset_again : run (main_alone (int ∷ int ∷ []) (declares 0 (init.Value (number 22 0)) ∷ forever (block (declares 1 init.Absent
      ∷ when (local 41 0) (return (local 50 1)) ∷ evaluate (assign 52 (local 52 0) (assign 54 (local 54 1) (number 56 1))) ∷ [])) ∷ [])) 2 ≡ undefined_at 6 50

-- int f(void){S}int main(void){return f();}, where S begins in column 13
abbrev pub with_function : List Stat → List Stat → Typed
with_function f ss = program (function (codes "f") [] [] f ∷ main [] ss ∷ [])

-- putchar('x');
abbrev pub prints : ℕ → ℕ → Stat
prints c byte = evaluate (call c Putchar (number (c + 8) byte ∷ []))

abbrev pub deeper : Typed
deeper = with_function (prints 13 120 ∷ return (call 33 (Defined 0) []) ∷ []) (return (call 60 (Defined 0) []) ∷ [])

pub record CallActs : Type 0 where
  -- int f(void){}int main(void){return f();}: the value used of a function that came to its `}`
  pub used : run (with_function [] (return (call 36 (Defined 0) []) ∷ [])) 2 ≡ undefined_at 7 36
  -- f();return 3;
  pub not_used : run (with_function [] (evaluate (call 29 (Defined 0) []) ∷ return (number 40 3) ∷ [])) 2 ≡ Ended [] 3
  -- int main(void){}
  pub main_ends : run (main_alone [] []) 1 ≡ Ended [] 0
  -- int f(void){putchar('x');return f();}int main(void){return f();}: the stack has room for main and three calls of f
  pub over : run deeper 5 ≡ Failed (120 ∷ 120 ∷ 120 ∷ []) Overstack
  -- a call that nests too deep is a cut, whatever the stack
  pub too_deep : run deeper 4 ≡ Running (120 ∷ 120 ∷ 120 ∷ [])
  -- a call of the seventh of two functions, which no source has
  pub absent : run (with_function [] (return (call 36 (Defined 7) []) ∷ [])) 2 ≡ undefined_at 0 36

pub record Orders : Type 0 where
  -- 0&&1/0
  pub conjunction : run (returns (two 23 (number 23 0) LogicalAnd (two 26 (number 26 1) Divide (number 28 0)))) 1 ≡ Ended [] 0
  -- 1||1/0
  pub disjunction : run (returns (two 23 (number 23 1) LogicalOr (two 26 (number 26 1) Divide (number 28 0)))) 1 ≡ Ended [] 1
  -- int f(int a,int b){return 7;}int main(void){return f(putchar('a'),putchar('b'));}
  pub arguments : run (program (function (codes "f") (int ∷ int ∷ []) [] (return (number 27 7) ∷ [])
      ∷ main [] (return (call 52 (Defined 0) (call 54 Putchar (number 62 97 ∷ []) ∷ call 67 Putchar (number 75 98 ∷ []) ∷ [])) ∷ []) ∷ [])) 2 ≡ Ended (97 ∷ 98 ∷ []) 7
  -- x=1;return x+=x=5;: the left side is read first
  pub left_first : run (with_scalar (evaluate (assign 22 (local 22 0) (number 24 1)) ∷ return (compound 33 (local 33 0) arithmetic.Add (assign 36 (local 36 0) (number 38 5))) ∷ [])) 1 ≡ Ended [] 6

-- int main(void){int c;while((c=getchar())!=-1)putchar(c);return 0;}
abbrev pub copying : Typed
copying = main_alone (int ∷ []) (declares 0 init.Absent
    ∷ while (two 28 (assign 29 (local 29 0) (call 31 Getchar [])) NotEqual (minus 43 (number 44 1))) (evaluate (call 46 Putchar (local 54 0 ∷ [])))
    ∷ return (number 64 0) ∷ [])

-- int main(void){for(;;)putchar('a');}
abbrev pub endless : Typed
endless = main_alone [] (forever (prints 23 97) ∷ [])

pub record Loops : Type 0 where
  pub endless_0 : run endless 0 ≡ Running []
  pub endless_1 : run endless 1 ≡ Running (97 ∷ [])
  pub endless_3 : run endless 3 ≡ Running (97 ∷ 97 ∷ 97 ∷ [])
  pub nothing_to_copy : source_run small copying [] 1 ≡ Ended [] 0
  -- the test behind the last turn is evaluated
  pub copied : source_run small copying (0 ∷ 255 ∷ []) 2 ≡ Ended (0 ∷ 255 ∷ []) 0
  pub copied_in_part : source_run small copying (0 ∷ 255 ∷ []) 1 ≡ Running (0 ∷ [])
  -- int main(void){switch(2){case 1:putchar('a');case 2:putchar('b');default:putchar('c');}}
  pub switched : run (main_alone [] (switch (number 23 2) (case 1 (prints 33 97) ∷ case 2 (prints 53 98) ∷ default (prints 74 99) ∷ []) ∷ [])) 1 ≡ Ended (98 ∷ 99 ∷ []) 0

pub record Conversions : Type 0 where
  -- int main(void){unsigned char c=300;return c;}
  pub modulo : run (main_alone (object type.Uchar None ∷ []) (declares 0 (init.Value (convert type.Uchar (number 32 300))) ∷ return (convert type.Int (local 43 0)) ∷ [])) 1 ≡ Ended [] 44
  -- int main(void){char c=200;return c<0;}: wrapped
  pub wrapped : run (main_alone (object type.Schar None ∷ []) (declares 0 (init.Value (convert type.Schar (number 23 200))) ∷ return (two 34 (convert type.Int (local 34 0)) Less (number 36 0)) ∷ [])) 1 ≡ Ended [] 1
  -- -1<1u: compared as unsigned
  pub unsigned_relation : run (returns (two 23 (convert type.Unsigned (minus 23 (number 24 1))) Less (unsigned 26 1))) 1 ≡ Ended [] 0
  -- -1<1
  pub signed_relation : run (returns (two 23 (minus 23 (number 24 1)) Less (number 26 1))) 1 ≡ Ended [] 1
  -- 65535u+1u
  pub no_overflow : run (returns (two 23 (unsigned 23 65535) Add (unsigned 30 1))) 1 ≡ Ended [] 0
  -- putchar(321) writes and gives 65
  pub byte : run (returns (call 23 Putchar (number 31 321 ∷ []))) 1 ≡ Ended (65 ∷ []) 65
