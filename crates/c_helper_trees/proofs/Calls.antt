-- A call of a helper in a program.
use Rattle.std.proofs.Common.{◌≡◌, ℕ, zero, suc, ◌+◌, ◌<◌, List, [], ◌∷◌, length, Option, Some, false, nat_lt, if◌then◌else◌, refl, ap, ◌∙◌, arith, slice_get}
use Rattle.std.proofs.lemmas.Bool.Decides.{nat_tests}
use Rattle.c_tree.specs.declared.types.CType.TheVariants as type
use Rattle.c_tree.specs.declared.typed.Function.{Function}
use Rattle.c_tree.specs.declared.typed.Typed.{Typed}
use Rattle.behaviour.specs.Behaviour.{Overstack}
use Rattle.c_meaning.specs.Parts.{Fails, then_do, give, word}
use Rattle.c_meaning.specs.Expressions.{scalar, Calls}
use Rattle.c_meaning.specs.Statements.{execution}
use Rattle.c_meaning.specs.Run.{kind_in, kind_of, call_at, enter, back, is_main, taken, world, inside}
use Rattle.c_helpers.specs.Code.{Helper}
use Rattle.c_helpers.specs.declared.operator.Operator.{Operator}
use Rattle.c_helpers.specs.declared.operator.Operator.TheVariants.{Multiply, Divide, DivideUnsigned, Remainder, RemainderUnsigned, ShiftLeft, ShiftRight, ShiftRightUnsigned, Xor}
use Rattle.c_helpers.specs.Operators.{helper_of}
use Rattle.c_helpers.proofs.Whole.{helpers_compute, helpers_fit}
use Rattle.c_helper_trees.specs.Trees.{variable_of, objects, body_of, function_by, function_of, name_of}
use Rattle.c_helper_trees.specs.Law.{HelperCalls, HelpersTakeNothing}
use Rattle.c_helper_trees.proofs.Terms.{then_is}
use Rattle.c_helper_trees.proofs.Bodies.{body_runs}

object_kind : (n j k : ℕ) → k < n → kind_of (slice_get (objects j n) k) ≡ scalar type.Unsigned
object_kind zero j k le = absurd (omega (arith, le))
object_kind (suc n) j zero le = refl
object_kind (suc n) j (suc k) le = object_kind n (suc j) k (omega (arith, le))

variables_are : (t : Typed) (name : List ℕ) (h : Helper) (x : ℕ) → x < 2 + length h.inits → kind_in t (function_by name h) (variable_of x) ≡ scalar type.Unsigned
variables_are t name h zero le = refl
variables_are t name h (suc zero) le = refl
variables_are t name h (suc (suc k)) le = object_kind (length h.inits) 2 k (omega (arith, le))

is_not_main : (w : ℕ) (o : Operator) → is_main (function_of w o) ≡ false
is_not_main w Multiply = refl
is_not_main w Divide = refl
is_not_main w DivideUnsigned = refl
is_not_main w Remainder = refl
is_not_main w RemainderUnsigned = refl
is_not_main w ShiftLeft = refl
is_not_main w ShiftRight = refl
is_not_main w ShiftRightUnsigned = refl
is_not_main w Xor = refl

pub helper_calls : HelperCalls
helper_calls m t z o f stands takes x y v xw yw e n d used le room at s =
    let g = function_of m.bits o in
    let h = helper_of m.bits o in
    let gives = helpers_compute m.bits z o x y v xw yw e in
    let calls : Option Function → Calls = λ r. call_at m t n d (used + taken m r) in
    let c = world m t (calls (Some g)) g in
    let runs = body_runs c h (helpers_fit m.bits z o) (variables_are t (name_of o) h) n le x y xw yw gives.ends s in
    let enters : nat_lt m.stack (256 + (used + m.takes g)) ≡ false = ap (λ b. nat_lt m.stack (256 + (used + b))) takes ∙ grind (arith, nat_tests) in
    ap (λ r. enter r m used (λ b. (execution (world m t (calls r) b) n b.body).does) at (x ∷ y ∷ []) s) stands
    ∙ (ap (λ b. if b then Fails [] Overstack else then_do ((execution c n (body_of h)).does (inside (x ∷ y ∷ []) s)) (back (is_main g) at s)) enters
    ∙ (then_is _ _ _ (back (is_main g) at s) runs
    ∙ ap (λ r. give (word r) s) gives.value))

pub helpers_take_nothing : HelpersTakeNothing
helpers_take_nothing kept w Multiply = refl
helpers_take_nothing kept w Divide = refl
helpers_take_nothing kept w DivideUnsigned = refl
helpers_take_nothing kept w Remainder = refl
helpers_take_nothing kept w RemainderUnsigned = refl
helpers_take_nothing kept w ShiftLeft = refl
helpers_take_nothing kept w ShiftRight = refl
helpers_take_nothing kept w ShiftRightUnsigned = refl
helpers_take_nothing kept w Xor = refl
