-- What expressions do (C11 6.5): operands from left to right, up to the first undefined act.
use Rattle.std.specs.Prelude.{ℕ, zero, suc, ◌%◌, ◌^◌, ◌-◌, List, [], ◌∷◌, Option, Some, None, Bool, true, false, ◌&&◌, nat_lt, if◌then◌else◌}
use Rattle.c_tree.specs.declared.token.At.{At}
use Rattle.c_tree.specs.declared.types.CType.{CType}
use Rattle.c_tree.specs.declared.types.CType.TheVariants as type
use Rattle.c_tree.specs.declared.typed.Variable.{Variable}
use Rattle.c_tree.specs.declared.typed.Head.{Head}
use Rattle.c_tree.specs.declared.typed.Callee.{Callee}
use Rattle.c_tree.specs.declared.typed.Callee.TheVariants as callee
use Rattle.c_tree.specs.declared.typed.Operation.{Operation}
use Rattle.c_tree.specs.declared.typed.Operation.TheVariants as operation
use Rattle.c_tree.specs.declared.typed.TypedExpr.{TypedExpr}
use Rattle.c_tree.specs.declared.typed.TypedExpr.TheOpen.{TypedExpr-F, Comma, Assign, Compound, Conditional, Binary, Unary, Before, After, Constant, Object, Element, Call, Convert}
use Rattle.c_tree.specs.declared.typed.TypedExpr.TheFolds.{fold-TypedExpr}
use Rattle.c_meaning.specs.Operators.{as_type, calculate, Sort, computes, compares, logical, sort_of, compare, apply, step_by, computed_in}
use Rattle.c_meaning.specs.Parts.{State, Part, Gives, then_do, give, act, nothing_meant, outcome, Value, word, demand, load, store, with_input}

-- what a name stands for
pub data Kind : Type 0 where
  missing : Kind
  scalar : CType → Kind
  array : CType → (length : ℕ) → Kind

-- an object or an element that an expression designates, and where
pub record Lvalue : Type 0 where
  pub variable : Variable
  pub index : ℕ
  pub at : At

-- an expression: its type, its value, and what it designates where it may be assigned to
pub record Evaluation : Type 0 where
  pub of : CType
  pub value : State → Part Value
  pub lvalue : State → Part Lvalue

-- a call of a function that stands there, with words for its parameters
abbrev pub Calls : Type 0
Calls = At → ℕ → List ℕ → State → Part Value

-- what a function's parts know: a word's bits, its objects, and what calls do
pub record World : Type 0 where
  pub bits : ℕ
  pub kind : Variable → Kind
  pub call : Calls

-- ---- values

-- a value that is used
abbrev pub needed : Evaluation → State → Part ℕ
needed e s = then_do (e.value s) demand

abbrev pub as_value : Part ℕ → Part Value
as_value p = then_do p (λ v s. give (word v) s)

abbrev pub constant : World → Head → ℕ → State → Part Value
constant c h v s = if nat_lt v (2 ^ c.bits) then give (word v) s else nothing_meant h.at

-- the one where a word is 0, else the other
abbrev pub at_zero : {A : Type 0} → ℕ → (State → Part A) → (State → Part A) → State → Part A
at_zero zero a b s = a s
at_zero (suc n) a b s = b s

abbrev pub truth : State → Part Value
truth s = give (word 1) s

abbrev pub falsehood : State → Part Value
falsehood s = give (word 0) s

abbrev pub test : Evaluation → State → Part Value
test e s = then_do (needed e s) (λ v. at_zero v falsehood truth)

-- ---- objects

-- ACT U6, an object or element read that was never set
abbrev pub set_or_act : Option ℕ → At → State → Part ℕ
set_or_act None at s = act 6 at
set_or_act (Some v) at s = give v s

abbrev pub read : Lvalue → State → Part ℕ
read x s = set_or_act (load s x.variable x.index) x.at s

abbrev pub type_in : Kind → CType
type_in missing = type.Void
type_in (scalar t) = t
type_in (array t n) = t

-- a value as one of the object's type (C11 6.5.16.1p2)
abbrev pub as_object : World → Variable → ℕ → ℕ
as_object c x v = as_type c.bits (type_in (c.kind x)) v

-- the value of an assignment is the one that the left side then has
abbrev pub write : World → Lvalue → ℕ → State → Part Value
write c x v s = let r = as_object c x.variable v in give (word r) (store s x.variable x.index (Some r))

abbrev pub designated : Head → Variable → ℕ → Lvalue
designated h x i = record { variable = x; index = i; at = h.at }

abbrev pub whole : Kind → Head → Variable → State → Part Lvalue
whole (scalar t) h x s = give (designated h x 0) s
whole _ h x s = nothing_meant h.at

-- an index is read with the sign of its type
abbrev pub is_inside : ℕ → CType → ℕ → ℕ → Bool
is_inside w type.Unsigned length i = nat_lt i length
is_inside w _ length i = nat_lt i length && nat_lt i (2 ^ (w - 1))

-- ACT U5, an index outside its array (C11 6.5.6p8), tested when it is evaluated
abbrev pub element : Kind → ℕ → CType → Head → Variable → ℕ → State → Part Lvalue
element (array t length) w of h x i s = if is_inside w of length i then give (designated h x i) s else act 5 h.at
element _ w of h x i s = nothing_meant h.at

abbrev pub no_lvalue : Head → State → Part Lvalue
no_lvalue h s = nothing_meant h.at

-- ---- operators

-- `&&` and `||` evaluate the right operand only where they need it (C11 6.5.13, 6.5.14)
abbrev pub two : World → CType → Head → Sort → Evaluation → Evaluation → State → Part Value
two c t h (logical true) a b s = then_do (needed a s) (λ v. at_zero v falsehood (test b))
two c t h (logical false) a b s = then_do (needed a s) (λ v. at_zero v (test b) truth)
two c t h (computes o) a b s = then_do (needed a s) (λ x s1. then_do (needed b s1) (λ y s2. as_value (outcome (calculate c.bits t o x y) h.at s2)))
two c t h (compares r u) a b s = then_do (needed a s) (λ x s1. then_do (needed b s1) (λ y s2. as_value (outcome (compare c.bits t r u x y) h.at s2)))

-- what a compound assignment computes
abbrev pub combined : World → Operation → CType → CType → At → ℕ → ℕ → State → Part ℕ
combined c (operation.Operator o) t u at x y s = outcome (calculate c.bits (computed_in o t u) o x y) at s
combined c (operation.Helper f) t u at x y s = then_do (c.call at f (x ∷ y ∷ []) s) demand

-- ---- calls

abbrev pub in_order : List Evaluation → State → Part (List ℕ)
in_order [] s = give [] s
in_order (e ∷ es) s = then_do (needed e s) (λ v s1. then_do (in_order es s1) (λ vs s2. give (v ∷ vs) s2))

-- the next byte, or -1 (C11 7.21.7.6)
abbrev pub getchar : ℕ → List ℕ → State → Part Value
getchar w [] s = give (word (2 ^ w - 1)) s
getchar w (b ∷ bs) s = give (word b) (with_input bs s)

-- writes the argument modulo 256, and gives that (C11 7.21.7.8)
abbrev pub putchar : At → List ℕ → State → Part Value
putchar at [] s = nothing_meant at
putchar at (v ∷ vs) s = Gives (v % 256 ∷ []) (word (v % 256)) s

abbrev pub called : World → At → Callee → List ℕ → State → Part Value
called c at (callee.Defined f) vs s = c.call at f vs s
called c at callee.Getchar vs s = getchar c.bits s.input s
called c at callee.Putchar vs s = putchar at vs s

-- ---- the nodes

abbrev pub plain : Head → (State → Part Value) → Evaluation
plain h does = record { of = h.of; value = does; lvalue = no_lvalue h }

abbrev pub expression : World → TypedExpr-F Evaluation → Evaluation
expression c (Constant h v) = plain h (constant c h v)
expression c (Object h x) = record {
  of = h.of;
  value = λ s. then_do (whole (c.kind x) h x s) (λ y s1. as_value (read y s1));
  lvalue = whole (c.kind x) h x;
}
expression c (Element h x i) = record {
  of = h.of;
  value = λ s. then_do (needed i s) (λ v s1. then_do (element (c.kind x) c.bits i.of h x v s1) (λ y s2. as_value (read y s2)));
  lvalue = λ s. then_do (needed i s) (element (c.kind x) c.bits i.of h x);
}
expression c (Assign h a b) = plain h (λ s. then_do (a.lvalue s) (λ x s1. then_do (needed b s1) (write c x)))
expression c (Compound h a o b) = plain h (λ s.
    then_do (a.lvalue s) (λ x s1. then_do (read x s1) (λ v s2. then_do (needed b s2) (λ y s3. then_do (combined c o a.of b.of h.at v y s3) (write c x)))))
expression c (Before h o a) = plain h (λ s.
    then_do (a.lvalue s) (λ x s1. then_do (read x s1) (λ v s2. then_do (outcome (step_by c.bits a.of o v) h.at s2) (write c x))))
expression c (After h a o) = plain h (λ s.
    then_do (a.lvalue s) (λ x s1. then_do (read x s1) (λ v s2. then_do (outcome (step_by c.bits a.of o v) h.at s2) (λ r s3. then_do (write c x r s3) (λ _ s4. give (word v) s4)))))
expression c (Binary h a o b) = plain h (two c a.of h (sort_of o) a b)
expression c (Unary h o a) = plain h (λ s. then_do (needed a s) (λ v s1. as_value (outcome (apply c.bits a.of o v) h.at s1)))
expression c (Convert h a) = plain h (λ s. then_do (needed a s) (λ v s1. give (word (as_type c.bits h.of v)) s1))
-- these two use no value of their last operands
expression c (Comma h a b) = plain h (λ s. then_do (a.value s) (λ _ s1. b.value s1))
expression c (Conditional h a b d) = plain h (λ s. then_do (needed a s) (λ v. at_zero v d.value b.value))
expression c (Call h f es) = plain h (λ s. then_do (in_order es s) (called c h.at f))

abbrev pub meaning : World → TypedExpr → Evaluation
meaning c = fold-TypedExpr Evaluation (expression c)
