-- A sound expression comes to no act 0.
use Rattle.std.proofs.Common.{◌≡◌, ℕ, ◌-◌, ◌^◌, ◌<◌, nat_lt, Bool, true, false, ◌&&◌, if◌then◌else◌, Some, List, [], ◌∷◌, map, sym, subst, arith}
use Rattle.std.specs.Prelude.{⊤}
use Rattle.std.proofs.lemmas.Nat.{pow_pos}
use Rattle.std.proofs.lemmas.List.Elements.{All-head, All-tail}
use Rattle.rtl_word.specs.Words.{IsWordSize}
use Rattle.behaviour.specs.Run.{AreBytes}
use Rattle.c_tree.proofs.TypedFolds.{Both, expr_relates}
use Rattle.c_tree.specs.declared.token.At.{At}
use Rattle.c_tree.specs.declared.types.CType.{CType}
use Rattle.c_tree.specs.declared.typed.Variable.{Variable}
use Rattle.c_tree.specs.declared.typed.Head.{Head}
use Rattle.c_tree.specs.declared.typed.Callee.{Callee}
use Rattle.c_tree.specs.declared.typed.Callee.TheVariants as callee
use Rattle.c_tree.specs.declared.typed.Operation.{Operation}
use Rattle.c_tree.specs.declared.typed.Operation.TheVariants as operation
use Rattle.c_tree.specs.declared.typed.TypedExpr.{TypedExpr}
use Rattle.c_tree.specs.declared.typed.TypedExpr.TheOpen.{TypedExpr-F, Comma, Assign, Compound, Conditional, Binary, Unary, Before, After, Constant, Object, Element, Call, Convert}
use Rattle.c_tree.specs.declared.typed.TypedExpr.TheFolds.{map-TypedExpr}
use Rattle.c_meaning.specs.Operators.{Sort, computes, compares, logical, sort_of, calculate, compare, apply, step_by, computed_in}
use Rattle.c_meaning.specs.Parts.{State, Part, Value, word, give, act, nothing_meant, with_input, then_do}
use Rattle.c_meaning.specs.Expressions as m
use Rattle.c_meaning.specs.Expressions.{Kind, missing, scalar, array, World, Calls, Evaluation, needed, test, truth, falsehood, whole, element, is_inside, designated, type_in, as_object, write, two, in_order, called, combined, getchar, putchar, plain, Lvalue}
use Rattle.c_sound.specs.Sound.{Known, Checked, value, is_scalar, is_array, each, is_given, callee_stands, operation_stands, expression, checked}
use Rattle.c_sound.proofs.Outcomes.{under, one_below, byte_below, rest_below, as_type_below, calculate_given, compare_given, apply_given, step_given}
use Rattle.c_sound.proofs.Fine.{no, left_of, right_of, Words, store_words, Fine, then_fine, zero_fine, IsWord, IsValue, Any, demand_fine, outcome_fine, as_value_fine, read_fine}

abbrev pub Are : ℕ → List ℕ → Type 0
Are w [] = ⊤
Are w (v ∷ vs) = (v < 2 ^ w) × Are w vs

-- where the first list has an item, the second does
abbrev pub Filled : {A : Type 0} → List A → List ℕ → Type 0
Filled [] vs = ⊤
Filled (a ∷ as_) [] = ⊥
Filled (a ∷ as_) (v ∷ vs) = ⊤

-- a call of a function that is there
abbrev pub Calls_fine : ℕ → ℕ → Calls → Type 0
Calls_fine w n call = (at : At) (f : ℕ) (vs : List ℕ) (s : State) → nat_lt f n ≡ true → Are w vs → Words w s → Fine w (IsValue w) (call at f vs s)

-- what is sound comes to no act 0, where it is evaluated and where it is assigned to
pub record Agrees (w : ℕ) (a : Checked) (e : Evaluation) : Type 0 where
  pub value : a.sound ≡ true → (s : State) → Words w s → Fine w (IsValue w) (e.value s)
  pub lvalue : a.place ≡ true → a.sound ≡ true → (s : State) → Words w s → Fine w Any (e.lvalue s)

plain_agrees : (w : ℕ) (h : Head) (b : Bool) (f : State → Part Value) → (b ≡ true → (s : State) → Words w s → Fine w (IsValue w) (f s)) → Agrees w (value b) (plain h f)
plain_agrees w h b f g = record { value = g; lvalue = λ e k. no e }

-- ---- values

needed_fine : (w : ℕ) (e : Evaluation) (s : State) → Fine w (IsValue w) (e.value s) → Fine w (IsWord w) (needed e s)
needed_fine w e s g = then_fine w (IsValue w) (IsWord w) (e.value s) _ g (λ v h s1 q. demand_fine w v h s1 q)

pub used_fine : (w : ℕ) (a : Checked) (e : Evaluation) → Agrees w a e → a.sound ≡ true → (s : State) → Words w s → Fine w (IsWord w) (needed e s)
used_fine w a e g k s q = needed_fine w e s (g.value k s q)

constant_fine : (c : World) (h : Head) (v : ℕ) → nat_lt v (2 ^ c.bits) ≡ true → (s : State) → Words c.bits s → Fine c.bits (IsValue c.bits) (m.constant c h v s)
constant_fine c h v e s q =
    subst (λ (b : Bool). Fine c.bits (IsValue c.bits) (if b then give (word v) s else nothing_meant h.at)) (sym e) (record { goes = (under v (2 ^ c.bits) e, q) })

test_fine : (w : ℕ) → IsWordSize w → (a : Checked) (e : Evaluation) → Agrees w a e → a.sound ≡ true → (s : State) → Words w s → Fine w (IsValue w) (test e s)
test_fine w z a e g k s q =
    then_fine w (IsWord w) (IsValue w) (needed e s) _ (used_fine w a e g k s q)
    (λ v h s1 q1. zero_fine w (IsValue w) v falsehood truth s1 (record { goes = (pow_pos w, q1) }) (record { goes = (one_below w z, q1) }))

-- ---- objects

whole_fine : (w : ℕ) (k : Kind) → is_scalar k ≡ true → (h : Head) (x : Variable) (s : State) → Words w s → Fine w Any (whole k h x s)
whole_fine w missing e h x s q = no e
whole_fine w (scalar t) e h x s q = record { goes = (tt, q) }
whole_fine w (array t n) e h x s q = no e

element_fine : (w : ℕ) (k : Kind) → is_array k ≡ true → (of : CType) (h : Head) (x : Variable) (i : ℕ) (s : State) → Words w s → Fine w Any (element k w of h x i s)
element_fine w missing e of h x i s q = no e
element_fine w (scalar t) e of h x i s q = no e
element_fine w (array t n) e of h x i s q = by (is_inside w of n i)
  where
    by : (b : Bool) → Fine w Any (if b then give (designated h x i) s else act 5 h.at)
    by true = record { goes = (tt, q) }
    by false = record { goes = omega arith }

-- ---- calls

with_input_words : (w : ℕ) (bytes : List ℕ) (s : State) → Words w s → AreBytes bytes → Words w (with_input bytes s)
with_input_words w bytes s q h = record { statics = q.statics; params = q.params; locals = q.locals; input = h }

last_below : (w : ℕ) → 2 ^ w - 1 < 2 ^ w
last_below w = omega (arith, pow_pos w)

getchar_fine : (w : ℕ) → IsWordSize w → (bytes : List ℕ) → AreBytes bytes → (s : State) → Words w s → Fine w (IsValue w) (getchar w bytes s)
getchar_fine w z [] h s q = record { goes = (last_below w, q) }
getchar_fine w z (b ∷ bs) h s q =
    record { goes = (byte_below w b z (All-head (λ byte. byte < 256) b bs h), with_input_words w bs s q (All-tail (λ byte. byte < 256) b bs h)) }

module _ (c : World) (n : ℕ) (z : IsWordSize c.bits) (calls : Calls_fine c.bits n c.call) where
  abbrev w : ℕ
  w = c.bits

  abbrev R : Checked → Evaluation → Type 0
  R = Agrees c.bits

  abbrev pub known : Known
  known = record { bits = c.bits; kind = c.kind; functions = n }

  putchar_fine : (at : At) (es : List (Both R)) (vs : List ℕ) → is_given (map (λ e. e.0) es) ≡ true → Filled es vs → (s : State) → Words w s → Fine w (IsValue w) (putchar at vs s)
  putchar_fine at [] vs e h s q = no e
  putchar_fine at (x ∷ es) [] e h s q = absurd h
  putchar_fine at (x ∷ es) (v ∷ vs) e h s q = record { goes = (rest_below w v z, q) }

  called_fine : (at : At) (f : Callee) (es : List (Both R)) (vs : List ℕ) → callee_stands n f (map (λ e. e.0) es) ≡ true → Are w vs × Filled es vs
      → (s : State) → Words w s → Fine w (IsValue w) (called c at f vs s)
  called_fine at (callee.Defined f) es vs e h s q = calls at f vs s e h.0 q
  called_fine at callee.Getchar es vs e h s q = getchar_fine w z s.input q.input s q
  called_fine at callee.Putchar es vs e h s q = putchar_fine at es vs e h.1 s q

  args_fine : (es : List (Both R)) → each (map (λ e. e.0) es) ≡ true → (s : State) → Words w s → Fine w (λ vs. Are w vs × Filled es vs) (in_order (map (λ e. e.1) es) s)
  args_fine [] e s q = record { goes = ((tt, tt), q) }
  args_fine (a ∷ es) e s q =
      then_fine w (IsWord w) (λ vs. Are w vs × Filled (a ∷ es) vs) (needed a.1 s) _ (used_fine w a.0 a.1 a.2 (left_of _ _ e) s q)
      (λ v h s1 q1. then_fine w (λ vs. Are w vs × Filled es vs) (λ vs. Are w vs × Filled (a ∷ es) vs) (in_order (map (λ e. e.1) es) s1) _ (args_fine es (right_of _ _ e) s1 q1)
      (λ vs k s2 q2. record { goes = (((h, k.0), tt), q2) }))

  write_fine : (x : Lvalue) (v : ℕ) (s : State) → Words w s → Fine w (IsValue w) (write c x v s)
  write_fine x v s q =
      let h = as_type_below w (type_in (c.kind x.variable)) v z in
      record { goes = (h, store_words w s x.variable x.index (Some (as_object c x.variable v)) q h) }

  -- ---- operators

  combined_fine : (o : Operation) → operation_stands n o ≡ true → (t u : CType) (at : At) (x y : ℕ) → x < 2 ^ w → y < 2 ^ w → (s : State) → Words w s → Fine w (IsWord w) (combined c o t u at x y s)
  combined_fine (operation.Operator o) e t u at x y h k s q = outcome_fine w (calculate w (computed_in o t u) o x y) (calculate_given w (computed_in o t u) o x y z h k) at s q
  combined_fine (operation.Helper f) e t u at x y h k s q =
      then_fine w (IsValue w) (IsWord w) (c.call at f (x ∷ y ∷ []) s) _ (calls at f (x ∷ y ∷ []) s e (h, (k, tt)) q) (λ v l s1 q1. demand_fine w v l s1 q1)

  two_fine : (t : CType) (h : Head) (o : Sort) (a b : Both R) → a.0.sound ≡ true → b.0.sound ≡ true → (s : State) → Words w s → Fine w (IsValue w) (two c t h o a.1 b.1 s)
  two_fine t h (logical true) a b e k s q =
      then_fine w (IsWord w) (IsValue w) (needed a.1 s) _ (used_fine w a.0 a.1 a.2 e s q)
      (λ v l s1 q1. zero_fine w (IsValue w) v falsehood (test b.1) s1 (record { goes = (pow_pos w, q1) }) (test_fine w z b.0 b.1 b.2 k s1 q1))
  two_fine t h (logical false) a b e k s q =
      then_fine w (IsWord w) (IsValue w) (needed a.1 s) _ (used_fine w a.0 a.1 a.2 e s q)
      (λ v l s1 q1. zero_fine w (IsValue w) v (test b.1) truth s1 (test_fine w z b.0 b.1 b.2 k s1 q1) (record { goes = (one_below w z, q1) }))
  two_fine t h (computes o) a b e k s q =
      then_fine w (IsWord w) (IsValue w) (needed a.1 s) _ (used_fine w a.0 a.1 a.2 e s q)
      (λ x l s1 q1. then_fine w (IsWord w) (IsValue w) (needed b.1 s1) _ (used_fine w b.0 b.1 b.2 k s1 q1)
      (λ y j s2 q2. as_value_fine w _ (outcome_fine w (calculate w t o x y) (calculate_given w t o x y z l j) h.at s2 q2)))
  two_fine t h (compares r u) a b e k s q =
      then_fine w (IsWord w) (IsValue w) (needed a.1 s) _ (used_fine w a.0 a.1 a.2 e s q)
      (λ x l s1 q1. then_fine w (IsWord w) (IsValue w) (needed b.1 s1) _ (used_fine w b.0 b.1 b.2 k s1 q1)
      (λ y j s2 q2. as_value_fine w _ (outcome_fine w (compare w t r u x y) (compare_given w t r u x y z l j) h.at s2 q2)))

  -- a left side, and what is done with it
  left_fine : {B : Type 0} (P : B → Type 0) (a : Both R) → (a.0.place && a.0.sound) ≡ true → (f : Lvalue → State → Part B) → ((x : Lvalue) (s : State) → Words w s → Fine w P (f x s))
      → (s : State) → Words w s → Fine w P (then_do (a.1.lvalue s) f)
  left_fine P a e f g s q = then_fine w Any P (a.1.lvalue s) f (a.2.lvalue (left_of _ _ e) (right_of _ _ e) s q) (λ x k s1 q1. g x s1 q1)

  value_of : {B : Type 0} (P : B → Type 0) (a : Both R) → a.0.sound ≡ true → (f : ℕ → State → Part B) → ((v : ℕ) → v < 2 ^ w → (s : State) → Words w s → Fine w P (f v s))
      → (s : State) → Words w s → Fine w P (then_do (needed a.1 s) f)
  value_of P a e f g s q = then_fine w (IsWord w) P (needed a.1 s) f (used_fine w a.0 a.1 a.2 e s q) g

  read_of : {B : Type 0} (P : B → Type 0) (x : Lvalue) (f : ℕ → State → Part B) → ((v : ℕ) → v < 2 ^ w → (s : State) → Words w s → Fine w P (f v s)) → (s : State) → Words w s → Fine w P (then_do (m.read x s) f)
  read_of P x f g s q = then_fine w (IsWord w) P (m.read x s) f (read_fine w x s q) g

  abbrev V : Value → Type 0
  V = IsValue c.bits

  node : (y : TypedExpr-F (Both R)) → R (expression known (map-TypedExpr (Both R) Checked (λ e. e.0) y)) (m.expression c (map-TypedExpr (Both R) Evaluation (λ e. e.1) y))
  node (Constant h v) = plain_agrees w h _ _ (λ e s q. constant_fine c h v e s q)
  node (Object h x) = record {
    value = λ e s q. then_fine w Any V (whole (c.kind x) h x s) _ (whole_fine w (c.kind x) e h x s q) (λ y k s1 q1. as_value_fine w _ (read_fine w y s1 q1));
    lvalue = λ p e s q. whole_fine w (c.kind x) e h x s q;
  }
  node (Element h x i) = record {
    value = λ e s q. value_of V i (right_of _ _ e) _ (λ v l s1 q1. then_fine w Any V (element (c.kind x) w i.1.of h x v s1) _ (element_fine w (c.kind x) (left_of _ _ e) i.1.of h x v s1 q1)
        (λ y k s2 q2. as_value_fine w _ (read_fine w y s2 q2))) s q;
    lvalue = λ p e s q. value_of Any i (right_of _ _ e) _ (λ v l s1 q1. element_fine w (c.kind x) (left_of _ _ e) i.1.of h x v s1 q1) s q;
  }
  node (Assign h a b) = plain_agrees w h _ _ (λ e s q. left_fine V a (left_of _ _ e) _ (λ x s1 q1. value_of V b (right_of _ _ e) _ (λ v l s2 q2. write_fine x v s2 q2) s1 q1) s q)
  node (Compound h a o b) = plain_agrees w h _ _ (λ e s q. left_fine V a (left_of _ _ e) _ (λ x s1 q1. read_of V x _ (λ v l s2 q2. value_of V b (right_of _ _ (right_of _ _ e)) _
      (λ y k s3 q3. then_fine w (IsWord w) V (combined c o a.1.of b.1.of h.at v y s3) _ (combined_fine o (left_of _ _ (right_of _ _ e)) a.1.of b.1.of h.at v y l k s3 q3)
      (λ r j s4 q4. write_fine x r s4 q4)) s2 q2) s1 q1) s q)
  node (Before h o a) = plain_agrees w h _ _ (λ e s q. left_fine V a e _ (λ x s1 q1. read_of V x _ (λ v l s2 q2.
      then_fine w (IsWord w) V _ _ (outcome_fine w (step_by w a.1.of o v) (step_given w a.1.of o v z l) h.at s2 q2) (λ r j s3 q3. write_fine x r s3 q3)) s1 q1) s q)
  node (After h a o) = plain_agrees w h _ _ (λ e s q. left_fine V a e _ (λ x s1 q1. read_of V x _ (λ v l s2 q2.
      then_fine w (IsWord w) V _ _ (outcome_fine w (step_by w a.1.of o v) (step_given w a.1.of o v z l) h.at s2 q2)
      (λ r j s3 q3. then_fine w V V (write c x r s3) (λ u s4. give (word v) s4) (write_fine x r s3 q3) (λ u k s4 q4. record { goes = (l, q4) }))) s1 q1) s q)
  node (Binary h a o b) = plain_agrees w h _ _ (λ e s q. two_fine a.1.of h (sort_of o) a b (left_of _ _ e) (right_of _ _ e) s q)
  node (Unary h o a) = plain_agrees w h _ _ (λ e s q. value_of V a e _ (λ v l s1 q1. as_value_fine w _ (outcome_fine w (apply w a.1.of o v) (apply_given w a.1.of o v z l) h.at s1 q1)) s q)
  node (Convert h a) = plain_agrees w h _ _ (λ e s q. value_of V a e _ (λ v l s1 q1. record { goes = (as_type_below w h.of v z, q1) }) s q)
  node (Comma h a b) = plain_agrees w h _ _ (λ e s q. then_fine w V V (a.1.value s) _ (a.2.value (left_of _ _ e) s q) (λ v l s1 q1. b.2.value (right_of _ _ e) s1 q1))
  node (Conditional h a b d) = plain_agrees w h _ _ (λ e s q. value_of V a (left_of _ _ e) _
      (λ v l s1 q1. zero_fine w V v d.1.value b.1.value s1 (d.2.value (right_of _ _ (right_of _ _ e)) s1 q1) (b.2.value (left_of _ _ (right_of _ _ e)) s1 q1)) s q)
  node (Call h f es) = plain_agrees w h _ _ (λ e s q. then_fine w (λ vs. Are w vs × Filled es vs) V (in_order (map (λ e. e.1) es) s) _ (args_fine es (right_of _ _ e) s q)
      (λ vs k s1 q1. called_fine h.at f es vs (left_of _ _ e) k s1 q1))

  pub meaning_agrees : (e : TypedExpr) → R (checked known e) (m.meaning c e)
  meaning_agrees = expr_relates Checked Evaluation (expression known) (m.expression c) R node

  pub needs : (e : TypedExpr) → (checked known e).sound ≡ true → (s : State) → Words w s → Fine w (IsWord w) (needed (m.meaning c e) s)
  needs e k s q = used_fine w (checked known e) (m.meaning c e) (meaning_agrees e) k s q
