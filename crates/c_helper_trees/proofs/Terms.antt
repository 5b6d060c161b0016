-- Terms and tests: their trees give their values.
use Rattle.std.proofs.Common.{◌≡◌, ℕ, zero, suc, ◌+◌, ◌^◌, ◌<◌, List, [], ◌∷◌, length, get_or, Some, Bool, true, false, ◌&&◌, if◌then◌else◌, nat_lt, nat_le, refl, ap, subst, ◌∙◌, arith, cond}
use Rattle.std.proofs.Math.Nat.{mod-eq_of_lt}
use Rattle.std.proofs.lemmas.Bool.Decides.{nat_tests}
use Rattle.std.proofs.lemmas.Nat.{or_lt}
use Rattle.rtl_word.proofs.Below.{word_add-below, word_sub-below, bit_and-below}
use Rattle.c_tree.specs.declared.typed.Head.{Head}
use Rattle.c_tree.specs.declared.types.CType.{CType}
use Rattle.c_tree.specs.declared.types.CType.TheVariants as type
use Rattle.c_tree.specs.declared.syntax.BinaryOperator.{BinaryOperator}
use Rattle.c_tree.specs.declared.syntax.BinaryOperator.TheVariants as binary
use Rattle.c_tree.specs.declared.typed.TypedExpr.{TypedExpr}
use Rattle.c_tree.specs.declared.typed.TypedExpr.TheVariants as tree
use Rattle.c_meaning.specs.Operators.{Outcome, gives, undefined, of_words, Sort, computes, compares, logical, sort_of, calculate, compare, as_type}
use Rattle.c_meaning.specs.Parts.{State, Part, Gives, Cut, Fails, after, then_do, give, demand, word, store, outcome, nothing_meant}
use Rattle.c_meaning.specs.Expressions.{scalar, World, Evaluation, meaning, expression, needed, set_or_act, read, as_value, as_object, type_in, two, whole, write, designated}
use Rattle.c_helpers.specs.Code.{Basic, plus, minus, both, either, Term, number, variable, combine, Test, is_set, at_least, above, Variables, look, assign, replaced, apply, value, tested, Fits, FitsTest, Words}
use Rattle.c_helper_trees.specs.Trees.{word_head, int_head, operator_of, variable_of, term_tree, test_tree}
use Rattle.c_helper_trees.proofs.Nodes.{constant_is, object_is, binary_is, assign_is}
use Rattle.c_helper_trees.proofs.Stores.{inner, loads, stores}

-- ---- values are words

-- all variables are words, and there are so many locals
pub record Fine (w k : ℕ) (h : Variables) : Type 0 where
  pub a : h.a < 2 ^ w
  pub b : h.b < 2 ^ w
  pub locals : Words w h.locals
  pub many : length h.locals ≡ k

local_below : (w k : ℕ) (xs : List ℕ) → k < length xs → Words w xs → get_or xs k 0 < 2 ^ w
local_below w k [] h p = absurd (omega (arith, h))
local_below w zero (x ∷ xs) h p = p.0
local_below w (suc k) (x ∷ xs) h p = local_below w k xs (omega (arith, h)) p.1

look_below : (w k : ℕ) (h : Variables) (x : ℕ) → Fine w k h → x < 2 + k → look h x < 2 ^ w
look_below w k h zero p le = p.a
look_below w k h (suc zero) p le = p.b
look_below w k h (suc (suc j)) p le = local_below w j h.locals (omega (arith, le, p.many)) p.locals

apply_below : (w : ℕ) (o : Basic) (x y : ℕ) → x < 2 ^ w → y < 2 ^ w → apply w o x y < 2 ^ w
apply_below w plus x y a b = word_add-below w x y
apply_below w minus x y a b = word_sub-below w x y
apply_below w both x y a b = bit_and-below w x y a
apply_below w either x y a b = or_lt w x y a b

pub value_below : (w k : ℕ) (h : Variables) (t : Term) → Fine w k h → Fits w (2 + k) t → value w h t < 2 ^ w
value_below w k h (number n) p f = f
value_below w k h (variable x) p f = look_below w k h x p f
value_below w k h (combine o s t) p f = apply_below w o _ _ (value_below w k h s p f.0) (value_below w k h t p f.1)

replaced_words : (w k v : ℕ) (xs : List ℕ) → v < 2 ^ w → Words w xs → Words w (replaced k v xs)
replaced_words w k v [] b p = p
replaced_words w zero v (x ∷ xs) b p = (b, p.1)
replaced_words w (suc k) v (x ∷ xs) b p = (p.0, replaced_words w k v xs b p.1)

replaced_length : (k v : ℕ) (xs : List ℕ) → length (replaced k v xs) ≡ length xs
replaced_length k v [] = refl
replaced_length zero v (x ∷ xs) = refl
replaced_length (suc k) v (x ∷ xs) = ap suc (replaced_length k v xs)

pub assign_fine : (w k x v : ℕ) (h : Variables) → v < 2 ^ w → Fine w k h → Fine w k (assign x v h)
assign_fine w k zero v h b p = record { a = b; b = p.b; locals = p.locals; many = p.many }
assign_fine w k (suc zero) v h b p = record { a = p.a; b = b; locals = p.locals; many = p.many }
assign_fine w k (suc (suc j)) v h b p =
    record { a = p.a; b = p.b; locals = replaced_words w j v h.locals b p.locals; many = replaced_length j v h.locals ∙ p.many }

-- ---- operators on words

if_words : (w x y : ℕ) (r : Outcome) → x < 2 ^ w → y < 2 ^ w → of_words w x y r ≡ r
if_words w x y r a b =
    let p : nat_lt x (2 ^ w) ≡ true = grind (arith, nat_tests) in
    let q : nat_lt y (2 ^ w) ≡ true = grind (arith, nat_tests) in
    ap (λ c. if c && nat_lt y (2 ^ w) then r else undefined 0) p ∙ ap (λ c. if c then r else undefined 0) q

-- what an operator other than `&&` and `||` gives of two words
abbrev outcome_of : ℕ → CType → Sort → ℕ → ℕ → Outcome
outcome_of w t (computes o) x y = calculate w t o x y
outcome_of w t (compares r u) x y = compare w t r u x y
outcome_of w t _ x y = undefined 0

operates : (w : ℕ) (o : Basic) (x y : ℕ) → x < 2 ^ w → y < 2 ^ w → outcome_of w type.Unsigned (sort_of (operator_of o)) x y ≡ gives (apply w o x y)
operates w plus x y a b = if_words w x y _ a b
operates w minus x y a b = if_words w x y _ a b
operates w both x y a b = if_words w x y _ a b
operates w either x y a b = if_words w x y _ a b

abbrev as_bit : Bool → ℕ
as_bit b = if b then 1 else 0

relates : (b : Bool) → cond b 1 0 ≡ as_bit b
relates true = refl
relates false = refl

-- ---- runs of parts

pub after_none : {A : Type 0} (p : Part A) → after [] p ≡ p
after_none (Gives out a s) = refl
after_none (Cut out) = refl
after_none (Fails out why) = refl

-- a part that gives a value and prints nothing, and what comes then
pub then_is : {A B : Type 0} (p : Part A) (a : A) (s : State) (f : A → State → Part B) → p ≡ give a s → then_do p f ≡ f a s
then_is p a s f e = ap (λ q. then_do q f) e ∙ after_none (f a s)

pub needed_is : (e : Evaluation) (s : State) (v : ℕ) → e.value s ≡ give (word v) s → needed e s ≡ give v s
needed_is e s v p = then_is (e.value s) (word v) s demand p

-- an expression of unsigned type that gives a word and changes nothing
pub record Runs (c : World) (e : TypedExpr) (s : State) (v : ℕ) : Type 0 where
  pub of : (meaning c e).of ≡ type.Unsigned
  pub value : (meaning c e).value s ≡ give (word v) s

pub number_runs : (c : World) (s : State) (n : ℕ) → n < 2 ^ c.bits → Runs c (tree.Constant word_head n) s n
number_runs c s n lt =
    let e = constant_is Evaluation (expression c) word_head n in
    let p : nat_lt n (2 ^ c.bits) ≡ true = grind (arith, nat_tests) in
    record { of = ap (λ m. m.of) e; value = ap (λ m. m.value s) e ∙ ap (λ b. if b then give (word n) s else nothing_meant word_head.at) p }

abbrev IsUndefined : Outcome → Type 0
IsUndefined (undefined what) = Unit {0}
IsUndefined (gives v) = ⊥

-- an operator that is no `&&` or `||`, on unsigned words
by_sort : (c : World) (s : State) (h : Head) (ea eb : Evaluation) (o : Sort) (x y v : ℕ)
    → needed ea s ≡ give x s → needed eb s ≡ give y s → outcome_of c.bits type.Unsigned o x y ≡ gives v → two c type.Unsigned h o ea eb s ≡ give (word v) s
by_sort c s h ea eb (computes o) x y v p q r =
    then_is (needed ea s) x s _ p ∙ (then_is (needed eb s) y s _ q ∙ ap (λ z. as_value (outcome z h.at s)) r)
by_sort c s h ea eb (compares m u) x y v p q r =
    then_is (needed ea s) x s _ p ∙ (then_is (needed eb s) y s _ q ∙ ap (λ z. as_value (outcome z h.at s)) r)
by_sort c s h ea eb (logical b) x y v p q r = absurd (subst IsUndefined r tt)

binary_runs : (c : World) (s : State) (h : Head) (a b : TypedExpr) (o : BinaryOperator) (x y v : ℕ)
    → Runs c a s x → Runs c b s y → outcome_of c.bits type.Unsigned (sort_of o) x y ≡ gives v → (meaning c (tree.Binary h a o b)).value s ≡ give (word v) s
binary_runs c s h a b o x y v p q r =
    let e = binary_is Evaluation (expression c) h a o b in
    let ea = meaning c a in let eb = meaning c b in
    ap (λ m. m.value s) e
    ∙ (ap (λ t. two c t h (sort_of o) ea eb s) p.of ∙ by_sort c s h ea eb (sort_of o) x y v (needed_is ea s x p.value) (needed_is eb s y q.value) r)

-- in a world whose variables are unsigned scalars
module _ (c : World) (k : ℕ) (kinds : (x : ℕ) → x < 2 + k → c.kind (variable_of x) ≡ scalar type.Unsigned) where
  variable_runs : (s : State) (h : Variables) (x : ℕ) → Fine c.bits k h → x < 2 + k → Runs c (tree.Object word_head (variable_of x)) (inner s h) (look h x)
  variable_runs s h x p le =
      let e = object_is Evaluation (expression c) word_head (variable_of x) in
      let many : x < 2 + length h.locals = omega (arith, le, p.many) in
      record {
        of = ap (λ m. m.of) e;
        value = ap (λ m. m.value (inner s h)) e
            ∙ (ap (λ kind. then_do (whole kind word_head (variable_of x) (inner s h)) (λ y s1. as_value (read y s1))) (kinds x le)
            ∙ ap (λ o. after [] (as_value (set_or_act o word_head.at (inner s h)))) (loads s h x many));
      }

  pub term_runs : (s : State) (h : Variables) (t : Term) → Fine c.bits k h → Fits c.bits (2 + k) t → Runs c (term_tree t) (inner s h) (value c.bits h t)
  term_runs s h (number n) p f = number_runs c (inner s h) n f
  term_runs s h (variable x) p f = variable_runs s h x p f
  term_runs s h (combine o a b) p f =
      record {
        of = ap (λ m. m.of) (binary_is Evaluation (expression c) word_head (term_tree a) (operator_of o) (term_tree b));
        value = binary_runs c (inner s h) word_head (term_tree a) (term_tree b) (operator_of o) _ _ _ (term_runs s h a p f.0) (term_runs s h b p f.1)
            (operates c.bits o _ _ (value_below c.bits k h a p f.0) (value_below c.bits k h b p f.1));
      }

  pub test_runs : (s : State) (h : Variables) (t : Test) → Fine c.bits k h → FitsTest c.bits (2 + k) t → needed (meaning c (test_tree t)) (inner s h) ≡ give (tested c.bits h t) (inner s h)
  test_runs s h (is_set t) p f = needed_is (meaning c (test_tree (is_set t))) _ _ (term_runs s h t p f).value
  test_runs s h (at_least a b) p f =
      let x = value c.bits h a in let y = value c.bits h b in
      needed_is (meaning c (test_tree (at_least a b))) _ _
      (binary_runs c (inner s h) int_head (term_tree a) (term_tree b) binary.GreaterEqual x y _ (term_runs s h a p f.0) (term_runs s h b p f.1)
      (if_words c.bits x y _ (value_below c.bits k h a p f.0) (value_below c.bits k h b p f.1) ∙ ap gives (relates (nat_le y x))))
  test_runs s h (above a b) p f =
      let x = value c.bits h a in let y = value c.bits h b in
      needed_is (meaning c (test_tree (above a b))) _ _
      (binary_runs c (inner s h) int_head (term_tree a) (term_tree b) binary.Greater x y _ (term_runs s h a p f.0) (term_runs s h b p f.1)
      (if_words c.bits x y _ (value_below c.bits k h a p f.0) (value_below c.bits k h b p f.1) ∙ ap gives (relates (nat_lt y x))))

  -- an unsigned scalar holds each word as it is
  pub as_it_is : (x v : ℕ) → x < 2 + k → v < 2 ^ c.bits → as_object c (variable_of x) v ≡ v
  as_it_is x v le lt = ap (λ kind. as_type c.bits (type_in kind) v) (kinds x le) ∙ mod-eq_of_lt lt

  pub assign_runs : (s : State) (h : Variables) (x : ℕ) (t : Term) → Fine c.bits k h → x < 2 + k → Fits c.bits (2 + k) t
      → (meaning c (tree.Assign word_head (tree.Object word_head (variable_of x)) (term_tree t))).value (inner s h) ≡ give (word (value c.bits h t)) (inner s (assign x (value c.bits h t) h))
  assign_runs s h x t p le f =
      let place = tree.Object word_head (variable_of x) in
      let e = assign_is Evaluation (expression c) word_head place (term_tree t) in
      let o = object_is Evaluation (expression c) word_head (variable_of x) in
      let v = value c.bits h t in
      let many : x < 2 + length h.locals = omega (arith, le, p.many) in
      let ea = meaning c place in let eb = meaning c (term_tree t) in
      let at = designated word_head (variable_of x) 0 in
      let named : ea.lvalue (inner s h) ≡ give at (inner s h) =
      ap (λ m. m.lvalue (inner s h)) o ∙ ap (λ kind. whole kind word_head (variable_of x) (inner s h)) (kinds x le) in
      ap (λ m. m.value (inner s h)) e
      ∙ (then_is (ea.lvalue (inner s h)) at (inner s h) (λ y s1. then_do (needed eb s1) (write c y)) named
      ∙ (then_is (needed eb (inner s h)) v (inner s h) (write c at) (needed_is eb (inner s h) v (term_runs s h t p f).value)
      ∙ (ap (λ r. give (word r) (store (inner s h) (variable_of x) 0 (Some r))) (as_it_is x v le (value_below c.bits k h t p f))
      ∙ ap (give (word v)) (stores s h x v many))))
