-- Each expression's code does what the expression does.
use Rattle.std.proofs.Common.{◌≡◌, ℕ, suc, ◌+◌, ◌≤◌, List, [], ◌∷◌, map, Option, Some, None, refl, sym, ap, ◌∙◌, subst, arith}
use Rattle.std.specs.Prelude.{Bool, true, false, ◌&&◌, not, ◌==◌, max, slice_get, length}
use Rattle.std.proofs.lemmas.Bool.Decides.{nat_tests}
use Rattle.md_shapes.specs.Shapes.{Frame as Fixed}
use Rattle.c_tree.specs.declared.types.CType.{CType}
use Rattle.c_tree.specs.declared.types.CType.TheVariants as type
use Rattle.c_tree.specs.declared.syntax.UnaryOperator.{UnaryOperator}
use Rattle.c_tree.specs.declared.syntax.UnaryOperator.TheVariants as unary
use Rattle.c_tree.specs.declared.syntax.BinaryOperator.{BinaryOperator}
use Rattle.c_tree.specs.declared.syntax.StepOperator.{StepOperator}
use Rattle.c_tree.specs.declared.typed.Head.{Head}
use Rattle.c_tree.specs.declared.typed.Callee.{Callee}
use Rattle.c_tree.specs.declared.typed.Callee.TheVariants as callee
use Rattle.c_tree.specs.declared.typed.Operation.{Operation}
use Rattle.c_tree.specs.declared.typed.Operation.TheVariants as operation
use Rattle.c_tree.specs.declared.typed.Object.{Object as Thing}
use Rattle.c_tree.specs.declared.typed.Function.{Function}
use Rattle.c_tree.specs.declared.typed.Typed.{Typed}
use Rattle.c_tree.specs.declared.typed.TypedExpr.{TypedExpr}
use Rattle.c_tree.specs.declared.typed.TypedExpr.TheOpen.{TypedExpr-F, Comma, Assign, Compound, Conditional, Binary, Unary, Before, After, Constant, Object, Element, Call, Convert}
use Rattle.c_tree.specs.declared.typed.TypedExpr.TheFolds.{map-TypedExpr}
use Rattle.c_limits.specs.Depths.{expression_arguments, arguments_of, greatest}
use Rattle.c_limits.specs.Frames.{is_helper}
use Rattle.c_meaning.specs.Operators.{Sort, computes, compares, logical, sort_of, as_type, relation_in}
use Rattle.c_meaning.specs.Parts.{State, Part, Value as Result, word, absent}
use Rattle.c_meaning.specs.Expressions.{Calls as SourceCalls, Evaluation, World, expression, meaning, constant, plain as source_plain, two as source_two}
use Rattle.temp_machine.specs.Routines.{Image, Target}
use Rattle.temp_machine.specs.Small.{Point}
use Rattle.naive_code.specs.Operations as code
use Rattle.naive_code.specs.Operations.{Op}
use Rattle.naive_code.specs.Expressions.{Value, Test, Naive, naive, naive_node, logical_value, leaf, both, then_on, narrowed, spare_count, spare_depths, joined, computed, compared, in_turn, denied, tested_after, value_of, chosen, compound, stepped_before, stepped_after, negated, two, truth_of, one, called, call_of}
use Rattle.naive_code.specs.Functions.{site_of}
use Rattle.naive_run.specs.Sound.{Checked, checked, checked_by, type_of, alike, is_word, all_fit, fits_function, are_words, fits_operation, fits_call, a_word}
use Rattle.naive_step.proofs.Doing.{does_on}
use Rattle.naive_step.proofs.Making.{Call as Active}
use Rattle.naive_assigned.proofs.Ready.{Ready}
use Rattle.naive_values.proofs.Typed.{as_alike}
use Rattle.naive_values.proofs.Asked.{Any, Is_truth, IsFresh, Has, Opens_next, Tested_value, Stands_in, ValueDoes, TestDoes}
use Rattle.naive_values.proofs.Composing.{constant_does, comma_does, convert_does}
use Rattle.naive_values.proofs.Single.{plus_does, minus_does, complement_does, arithmetic_does}
use Rattle.naive_tests.proofs.Tests.{compared_does, compared_opens, and_does, or_does, in_turn_opens, denied_does, denied_opens, tested_after_does, tested_after_opens}
use Rattle.naive_tests.proofs.Choosing.{value_of_does, chosen_does}
use Rattle.naive_calls.proofs.Calling.{CallsDo, All_do, word_size}
use Rattle.naive_calls.proofs.Invoking.{Fit, call_does}
use Rattle.naive_calls.proofs.Talking.{takes_character, puts_character}
use Rattle.naive_assigns.proofs.Assigning.{before_does, after_does}
use Rattle.naive_assigns.proofs.Compounding.{Helps, Operation_fits, compound_does, an_int, standing}
use Rattle.naive_nodes.proofs.Folds.{four_relate}
use Rattle.naive_nodes.proofs.Nodes.{both_so, leaf_fresh, Related, Quad, here_world, room, plain_related, logical_related, name_related, element_related, assign_related, compound_fresh, before_fresh, after_fresh, left_few, right_few}

not_so : (b : Bool) → not b ≡ true → b ≡ false
not_so true e = absurd (grind (arith, e))
not_so false e = refl

not_false : {A : Type 0} → false ≡ true → A
not_false e = absurd (grind (arith, e))

map_length : {A B : Type 0} (g : A → B) (xs : List A) → length (map g xs) ≡ length xs
map_length g [] = refl
map_length g (x ∷ xs) = ap suc (map_length g xs)

joined_fresh : (a b : Value) (os : ℕ → ℕ → List Op) → IsFresh a → IsFresh (joined a b os)
joined_fresh a b os h = record { from = h.from; to = λ first. let lt = h.to first in omega (arith, lt) }

then_fresh : (a : Value) (n : ℕ) (depths : ℕ → List ℕ) (os : ℕ → ℕ → List Op) → IsFresh a → IsFresh (then_on a n depths os)
then_fresh a n depths os h = record { from = h.from; to = λ first. let lt = h.to first in omega (arith, lt) }

both_fresh : (a b : Value) → IsFresh b → IsFresh (both a 0 b)
both_fresh a b h = record { from = λ first. let le = h.from (first + a.temps) in omega (arith, le); to = λ first. let lt = h.to (first + a.temps) in omega (arith, lt) }

truth_fresh : (a : Test) → IsFresh (value_of a)
truth_fresh a = record { from = λ first. omega arith; to = λ first. omega arith }

negated_fresh : (a : Value) → IsFresh (negated a)
negated_fresh a = record { from = λ first. omega arith; to = λ first. omega arith }

chosen_fresh : (a : Test) (b c : Value) → IsFresh (chosen a b c)
chosen_fresh a b c = record { from = λ first. omega arith; to = λ first. omega arith }

called_fresh : (bytes g : ℕ) (es : List Value) → IsFresh (called bytes g es)
called_fresh bytes g es = record { from = λ first. omega arith; to = λ first. omega arith }

module _ (t : Target) (u : Image) (m : Fixed) (source : Typed) (f : Function) (k : Active) (ready : Ready t u m source f k) (n : ℕ) (call : SourceCalls) (calls : CallsDo t u m source f k ready n call) where
  abbrev Q : Type 0
  Q = Quad t u m source f k ready n call calls

  abbrev few_words : ℕ
  few_words = room t u m source f k ready n call calls

  abbrev Relates : Evaluation → Naive → Checked → ℕ → Type 0
  Relates = Related t u m source f k ready n call calls

  abbrev W : World
  W = here_world t u m source f k ready n call calls

  abbrev bytes : ℕ
  bytes = word_size t u m source f k ready

  abbrev Values_of : CType → (State → Part Result) → Value → Type 0
  Values_of = ValueDoes t u m source f k ready n

  abbrev Truths : (State → Part Result) → Test → Type 0
  Truths = TestDoes t u m source f k ready n Is_truth

  abbrev Any_tests : (State → Part Result) → Test → Type 0
  Any_tests = TestDoes t u m source f k ready n Any

  -- less is known of a value that is tested
  forget : (x : State → Part Result) (a : Test) → Truths x a → Any_tests x a
  forget x a does sense target next first label p q c s fresh ops i at rep =
      does_on t u n c (Tested_value t u m source f k ready Is_truth sense target first q c) (Tested_value t u m source f k ready Any sense target first q c) (x s)
      (does sense target next first label p q c s fresh ops i at rep) (λ v s1 d g. (tt, g.1))

  retyped_in : (of by : CType) (a : ℕ) (v : Result) (d : Point) → alike of by ≡ true → Stands_in t u m source f k ready by a v d → Stands_in t u m source f k ready of a v d
  retyped_in of by a (word v) d same h = (h.0, as_alike t.word of by v same ∙ h.1, h.2)
  retyped_in of by a (absent at) d same h = tt

  -- of a type that counts as the same
  retyped : (of by : CType) (x : State → Part Result) (v : Value) → alike of by ≡ true → Values_of by x v → Values_of of x v
  retyped of by x v same does first label p q c s fresh ops i at rep =
      does_on t u n c (Has t u m source f k ready by (v.result first) first q c) (Has t u m source f k ready of (v.result first) first q c) (x s)
      (does first label p q c s fresh ops i at rep)
      (λ r s1 d g. record { inside = g.inside; at = g.at; rep = g.rep; since = g.since; value = retyped_in of by (v.result first) r d same g.value })

  -- ---- assignments with an operator

  fit_of : (X : Type 0) (ev : X → Evaluation) (nv : X → Naive) (ch : X → Checked) → ((x : X) → (ch x).of ≡ (ev x).of) → (xs : List X) (os : List Thing) → all_fit (map ch xs) os ≡ true
      → Fit t u m source f k ready n call calls X ev nv xs os
  fit_of X ev nv ch same [] [] e = tt
  fit_of X ev nv ch same [] (o ∷ os) e = absurd (grind (arith, e))
  fit_of X ev nv ch same (x ∷ xs) [] e = absurd (grind (arith, e))
  fit_of X ev nv ch same (x ∷ xs) (o ∷ os) e =
      let p = both_so _ _ e in let q = both_so _ _ p.0 in
      (subst (λ z. alike z o.element ≡ true) (same x) q.1, fit_of X ev nv ch same xs os p.1)

  helps_of : (g : ℕ) (o : Option Function) → slice_get source.functions g ≡ o → is_helper f.name ≡ false → fits_function type.Int (a_word ∷ a_word ∷ []) o ≡ true → Helps t u m source f k ready n call calls g
  helps_of g None is caller e = absurd (grind (arith, e))
  helps_of g (Some h) is caller e =
      let p = both_so _ _ e in record {
        helper = h;
        function = is;
        caller = caller;
        result = p.0;
        fit = λ a b. fit_of ℕ an_int standing (λ x. a_word) (λ x. refl) (a ∷ b ∷ []) h.params p.1;
      }

  operation_fits : (o : Operation) → fits_operation t.word source f o ≡ true → Operation_fits t u m source f k ready n call calls o
  operation_fits (operation.Operator o) e = tt
  operation_fits (operation.Helper g) e = let p = both_so _ _ e in helps_of g (slice_get source.functions g) refl (not_so _ p.0) p.1

  compound_related : (h : Head) (a : Q) (o : Operation) (b : Q) → Relates (expression W (Compound h a.0 o b.0)) (naive_node (site_of t.kept t.word source f) (Compound h a.1 o b.1))
      (record { of = h.of; sound = a.2.sound && b.2.sound && alike h.of a.2.of && fits_operation t.word source f o }) (max a.3 b.3)
  compound_related h a o b =
      plain_related t u m source f k ready n call calls h _ (compound bytes o a.1.of a.1.place b.1.of b.1.value) _ (max a.3 b.3) refl
      (compound_fresh t u m source f k ready n call calls bytes o a.1.of b.1.of a.1.place b.1.value a.4.place_fresh)
      (λ sound few.
      let p = both_so _ _ sound in let q = both_so _ _ p.0 in let r = both_so _ _ q.0 in
      subst (λ z. Values_of h.of (expression W (Compound h a.0 o b.0)).value (compound bytes o z a.1.place b.1.of b.1.value)) (sym a.4.naive_of)
      (subst (λ z. Values_of h.of (expression W (Compound h a.0 o b.0)).value (compound bytes o a.0.of a.1.place z b.1.value)) (sym b.4.naive_of)
      (compound_does t u m source f k ready n call calls h.of a.0.of b.0.of h.at o a.0.lvalue a.1.place b.0.value b.1.value (operation_fits o p.1) a.4.place_fresh b.4.fresh
      (a.4.place r.0 (left_few t u m source f k ready n call calls a.3 b.3 few)) (b.4.value r.1 (right_few t u m source f k ready n call calls a.3 b.3 few))
      (subst (λ z. alike h.of z ≡ true) a.4.checked_of q.1))))

  before_related : (h : Head) (o : StepOperator) (a : Q) → Relates (expression W (Before h o a.0)) (naive_node (site_of t.kept t.word source f) (Before h o a.1)) (record { of = h.of; sound = a.2.sound && alike h.of a.2.of }) a.3
  before_related h o a =
      plain_related t u m source f k ready n call calls h _ (stepped_before o a.1.of a.1.place) _ a.3 refl (before_fresh t u m source f k ready n call calls o a.1.of a.1.place a.4.place_fresh)
      (λ sound few.
      let p = both_so _ _ sound in
      subst (λ z. Values_of h.of (expression W (Before h o a.0)).value (stepped_before o z a.1.place)) (sym a.4.naive_of)
      (before_does t u m source f k ready n call h.of a.0.of h.at o a.0.lvalue a.1.place a.4.place_fresh (a.4.place p.0 few) (subst (λ z. alike h.of z ≡ true) a.4.checked_of p.1)))

  after_related : (h : Head) (a : Q) (o : StepOperator) → Relates (expression W (After h a.0 o)) (naive_node (site_of t.kept t.word source f) (After h a.1 o)) (record { of = h.of; sound = a.2.sound && alike h.of a.2.of }) a.3
  after_related h a o =
      plain_related t u m source f k ready n call calls h _ (stepped_after o a.1.of a.1.place) _ a.3 refl (after_fresh t u m source f k ready n call calls o a.1.of a.1.place a.4.place_fresh)
      (λ sound few.
      let p = both_so _ _ sound in
      subst (λ z. Values_of h.of (expression W (After h a.0 o)).value (stepped_after o z a.1.place)) (sym a.4.naive_of)
      (after_does t u m source f k ready n call h.of a.0.of h.at o a.0.lvalue a.1.place a.4.place_fresh (a.4.place p.0 few) (subst (λ z. alike h.of z ≡ true) a.4.checked_of p.1)))

  -- ---- operators

  module _ (h : Head) (a b : Q) where
    abbrev pair_sound : Bool
    pair_sound = a.2.sound && b.2.sound && is_word h.of

    abbrev pair_checked : Checked
    pair_checked = record { of = h.of; sound = pair_sound }

    abbrev pair_arguments : ℕ
    pair_arguments = max a.3 b.3

    pair_so : pair_sound ≡ true → (a.2.sound ≡ true) × ((b.2.sound ≡ true) × (is_word h.of ≡ true))
    pair_so e = let p = both_so _ _ e in let q = both_so _ _ p.0 in (q.0, (q.1, p.1))

    first_few : pair_arguments ≤ few_words → a.3 ≤ few_words
    first_few few = left_few t u m source f k ready n call calls a.3 b.3 few

    second_few : pair_arguments ≤ few_words → b.3 ≤ few_words
    second_few few = right_few t u m source f k ready n call calls a.3 b.3 few

    -- a test that gives 0 or 1, and its value
    truth_related : (x : State → Part Result) (e : Test) → Opens_next t u m source f k ready e → (pair_sound ≡ true → pair_arguments ≤ few_words → Truths x e) → Relates (source_plain h x) (logical_value h.of (value_of e) e) pair_checked pair_arguments
    truth_related x e opens does =
        logical_related t u m source f k ready n call calls h x (value_of e) e pair_checked pair_arguments refl (truth_fresh e) opens
        (λ sound few. value_of_does t u m source f k ready n h.of x e (pair_so sound).1.1 (does sound few)) (λ sound few. forget x e (does sound few))

    by_sort : (o : Sort) → Relates (source_plain h (source_two W a.0.of h o a.0 b.0)) (logical_value h.of (two a.0.of o a.1 b.1) (truth_of a.0.of o a.1 b.1)) pair_checked pair_arguments
    by_sort (computes o) =
        plain_related t u m source f k ready n call calls h (source_two W a.0.of h (computes o) a.0 b.0) (joined a.1.value b.1.value (computed o a.0.of)) pair_checked pair_arguments refl (joined_fresh a.1.value b.1.value (computed o a.0.of) a.4.fresh)
        (λ sound few.
        arithmetic_does t u m source f k ready n h.of a.0.of b.0.of a.0.value b.0.value a.1.value b.1.value o h.at (pair_so sound).1.1 a.4.fresh b.4.fresh
        (a.4.value (pair_so sound).0 (first_few few)) (b.4.value (pair_so sound).1.0 (second_few few)))
    by_sort (logical true) =
        truth_related (source_two W a.0.of h (logical true) a.0 b.0) (in_turn true a.1.test b.1.test)
        (in_turn_opens t u m source f k ready n true a.1.test b.1.test b.4.opens)
        (λ sound few. and_does t u m source f k ready n Any Any a.0.value b.0.value a.1.test b.1.test b.4.opens (a.4.test (pair_so sound).0 (first_few few)) (b.4.test (pair_so sound).1.0 (second_few few)))
    by_sort (logical false) =
        truth_related (source_two W a.0.of h (logical false) a.0 b.0) (in_turn false a.1.test b.1.test)
        (in_turn_opens t u m source f k ready n false a.1.test b.1.test b.4.opens)
        (λ sound few. or_does t u m source f k ready n Any Any a.0.value b.0.value a.1.test b.1.test b.4.opens (a.4.test (pair_so sound).0 (first_few few)) (b.4.test (pair_so sound).1.0 (second_few few)))
    by_sort (compares r un) =
        truth_related (source_two W a.0.of h (compares r un) a.0 b.0) (compared (relation_in a.0.of r un) a.1.value b.1.value) (compared_opens t u m source f k ready n (relation_in a.0.of r un) a.1.value b.1.value)
        (λ sound few. compared_does t u m source f k ready n a.0.of a.0.of b.0.of r un h.at a.0.value b.0.value a.1.value b.1.value a.4.fresh b.4.fresh
        (a.4.value (pair_so sound).0 (first_few few)) (b.4.value (pair_so sound).1.0 (second_few few)))

    binary_related : (o : BinaryOperator) → Relates (expression W (Binary h a.0 o b.0)) (naive_node (site_of t.kept t.word source f) (Binary h a.1 o b.1)) pair_checked pair_arguments
    binary_related o =
        subst (λ z. Relates (expression W (Binary h a.0 o b.0)) (logical_value h.of (two z (sort_of o) a.1 b.1) (truth_of z (sort_of o) a.1 b.1)) pair_checked pair_arguments) (sym a.4.naive_of) (by_sort (sort_of o))

  unary_related : (h : Head) (o : UnaryOperator) (a : Q) → Relates (expression W (Unary h o a.0)) (naive_node (site_of t.kept t.word source f) (Unary h o a.1)) (record { of = h.of; sound = a.2.sound && is_word h.of }) a.3
  unary_related h unary.Plus a =
      plain_related t u m source f k ready n call calls h _ a.1.value _ a.3 refl a.4.fresh
      (λ sound few. let p = both_so _ _ sound in plus_does t u m source f k ready n h.of a.0.of a.0.value a.1.value h.at p.1 (a.4.value p.0 few))
  unary_related h unary.Minus a =
      plain_related t u m source f k ready n call calls h _ (negated a.1.value) _ a.3 refl (negated_fresh a.1.value)
      (λ sound few. let p = both_so _ _ sound in minus_does t u m source f k ready n h.of a.0.of a.0.value a.1.value h.at p.1 a.4.fresh (a.4.value p.0 few))
  unary_related h unary.Complement a =
      plain_related t u m source f k ready n call calls h _ (one unary.Complement a.1) _ a.3 refl (then_fresh a.1.value 0 (λ d. []) (λ v s. code.complement v ∷ []) a.4.fresh)
      (λ sound few. let p = both_so _ _ sound in complement_does t u m source f k ready n h.of a.0.of a.0.value a.1.value (λ d. []) h.at p.1 a.4.fresh (a.4.value p.0 few))
  unary_related h unary.Not a =
      logical_related t u m source f k ready n call calls h _ (value_of (denied a.1.test)) (denied a.1.test) _ a.3 refl (truth_fresh (denied a.1.test)) (denied_opens t u m source f k ready n a.1.test a.4.opens)
      (λ sound few. let p = both_so _ _ sound in value_of_does t u m source f k ready n h.of _ (denied a.1.test) p.1 (denied_does t u m source f k ready n Any a.0.value a.1.test h.at (a.4.test p.0 few)))
      (λ sound few. let p = both_so _ _ sound in forget _ (denied a.1.test) (denied_does t u m source f k ready n Any a.0.value a.1.test h.at (a.4.test p.0 few)))

  comma_related : (h : Head) (a b : Q) → Relates (expression W (Comma h a.0 b.0)) (naive_node (site_of t.kept t.word source f) (Comma h a.1 b.1))
      (record { of = h.of; sound = a.2.sound && b.2.sound && alike h.of b.2.of }) (max a.3 b.3)
  comma_related h a b =
      logical_related t u m source f k ready n call calls h _ (both a.1.value 0 b.1.value) (tested_after a.1.value b.1.test) _ (max a.3 b.3) refl (both_fresh a.1.value b.1.value b.4.fresh)
      (tested_after_opens t u m source f k ready n a.1.value b.1.test b.4.opens)
      (λ sound few.
      let p = both_so _ _ sound in let q = both_so _ _ p.0 in
      retyped h.of b.0.of _ (both a.1.value 0 b.1.value) (subst (λ z. alike h.of z ≡ true) b.4.checked_of p.1)
      (comma_does t u m source f k ready n a.0.of b.0.of a.0.value b.0.value a.1.value b.1.value (a.4.value q.0 (left_few t u m source f k ready n call calls a.3 b.3 few)) (b.4.value q.1 (right_few t u m source f k ready n call calls a.3 b.3 few))))
      (λ sound few.
      let p = both_so _ _ sound in let q = both_so _ _ p.0 in
      tested_after_does t u m source f k ready n Any a.0.of a.0.value b.0.value a.1.value b.1.test (a.4.value q.0 (left_few t u m source f k ready n call calls a.3 b.3 few)) (b.4.test q.1 (right_few t u m source f k ready n call calls a.3 b.3 few)))

  conditional_related : (h : Head) (a b d : Q) → Relates (expression W (Conditional h a.0 b.0 d.0)) (naive_node (site_of t.kept t.word source f) (Conditional h a.1 b.1 d.1))
      (record { of = h.of; sound = a.2.sound && b.2.sound && d.2.sound && alike h.of b.2.of && alike h.of d.2.of }) (max a.3 (max b.3 d.3))
  conditional_related h a b d =
      plain_related t u m source f k ready n call calls h _ (chosen a.1.test b.1.value d.1.value) _ (max a.3 (max b.3 d.3)) refl (chosen_fresh a.1.test b.1.value d.1.value)
      (λ sound few.
      let p = both_so _ _ sound in let q = both_so _ _ p.0 in let r = both_so _ _ q.0 in let z = both_so _ _ r.0 in
      let inner = right_few t u m source f k ready n call calls a.3 (max b.3 d.3) few in
      chosen_does t u m source f k ready n Any h.of b.0.of d.0.of a.0.value b.0.value d.0.value a.1.test b.1.value d.1.value (subst (λ z. alike h.of z ≡ true) b.4.checked_of q.1) (subst (λ z. alike h.of z ≡ true) d.4.checked_of p.1)
      a.4.opens (a.4.test z.0 (left_few t u m source f k ready n call calls a.3 (max b.3 d.3) few)) (b.4.value z.1 (left_few t u m source f k ready n call calls b.3 d.3 inner)) (d.4.value r.1 (right_few t u m source f k ready n call calls b.3 d.3 inner)))

  -- ---- calls

  abbrev evaluation_in : Q → Evaluation
  evaluation_in e = e.0

  abbrev naive_in : Q → Naive
  naive_in e = e.1

  quads_do : (xs : List Q) (os : List Thing) → all_fit (map (λ e. e.2) xs) os ≡ true → greatest (map (λ e. e.3) xs) ≤ few_words → All_do t u m source f k ready Q evaluation_in naive_in n xs
  quads_do [] os e few = tt
  quads_do (x ∷ xs) [] e few = absurd (grind (arith, e))
  quads_do (x ∷ xs) (o ∷ os) e few =
      let p = both_so _ _ e in let q = both_so _ _ p.0 in
      ((x.4.fresh, x.4.value q.0 (left_few t u m source f k ready n call calls x.3 (greatest (map (λ e. e.3) xs)) few)), quads_do xs os p.1 (right_few t u m source f k ready n call calls x.3 (greatest (map (λ e. e.3) xs)) few))

  call_value : (h : Head) (g : Callee) (es : List Q) → fits_call t.word source f h.of g (map (λ e. e.2) es) ≡ true → max (length (map (λ e. e.3) es)) (greatest (map (λ e. e.3) es)) ≤ few_words
      → Values_of h.of (expression W (Call h g (map (λ e. e.0) es))).value (call_of bytes g (map (λ e. e.value) (map (λ e. e.1) es)))
  call_value h (callee.Defined g) es e few = let p = both_so _ _ e in by_function (slice_get source.functions g) refl (not_so _ p.0) p.1
    where
      by_function : (o : Option Function) → slice_get source.functions g ≡ o → is_helper f.name ≡ false → fits_function h.of (map (λ e. e.2) es) o ≡ true
          → Values_of h.of (expression W (Call h (callee.Defined g) (map (λ e. e.0) es))).value (called bytes g (map (λ e. e.value) (map (λ e. e.1) es)))
      by_function None is caller e = absurd (grind (arith, e))
      by_function (Some w) is caller e =
          let p = both_so _ _ e in
          let count = left_few t u m source f k ready n call calls (length (map (λ e. e.3) es)) (greatest (map (λ e. e.3) es)) few in
          let same = map_length (λ e. e.3) es in
          call_does t u m source f k ready n call calls Q evaluation_in naive_in h.at g w h.of es is caller p.0 (fit_of Q evaluation_in naive_in (λ e. e.2) (λ x. x.4.checked_of) es w.params p.1)
          (omega (arith, count, same)) (quads_do es w.params p.1 (right_few t u m source f k ready n call calls (length (map (λ e. e.3) es)) (greatest (map (λ e. e.3) es)) few))
  call_value h callee.Getchar [] e few = takes_character t u m source f k ready n h.of (both_so _ _ e).0
  call_value h callee.Getchar (x ∷ es) e few = not_false ((both_so (is_word h.of) (are_words 0 (x.2 ∷ map (λ e. e.2) es)) e).1)
  call_value h callee.Putchar [] e few = not_false ((both_so (is_word h.of) (are_words 1 []) e).1)
  call_value h callee.Putchar (x ∷ y ∷ es) e few =
      not_false ((both_so (x.2.sound && is_word x.2.of) (are_words 0 (y.2 ∷ map (λ e. e.2) es)) ((both_so (is_word h.of) (are_words 1 (x.2 ∷ y.2 ∷ map (λ e. e.2) es)) e).1)).1)
  call_value h callee.Putchar (x ∷ []) e few =
      let p = both_so _ _ e in let q = both_so _ _ p.1 in let r = both_so _ _ q.0 in
      let less = right_few t u m source f k ready n call calls 1 (max x.3 0) few in
      puts_character t u m source f k ready n Q evaluation_in naive_in h.of x h.at p.0 x.4.fresh (x.4.value r.0 (left_few t u m source f k ready n call calls x.3 0 less))

  call_related : (h : Head) (g : Callee) (es : List Q) → Relates (expression W (Call h g (map (λ e. e.0) es))) (naive_node (site_of t.kept t.word source f) (Call h g (map (λ e. e.1) es)))
      (record { of = h.of; sound = fits_call t.word source f h.of g (map (λ e. e.2) es) }) (max (length (map (λ e. e.3) es)) (greatest (map (λ e. e.3) es)))
  call_related h g es = plain_related t u m source f k ready n call calls h _ (call_of bytes g (map (λ e. e.value) (map (λ e. e.1) es))) _ _ refl (fresh g es) (call_value h g es)
    where
      fresh : (g : Callee) (es : List Q) → IsFresh (call_of bytes g (map (λ e. e.value) (map (λ e. e.1) es)))
      fresh (callee.Defined g) es = called_fresh bytes g (map (λ e. e.value) (map (λ e. e.1) es))
      fresh callee.Getchar es = leaf_fresh (λ a. code.take_input ∷ code.read_result a ∷ [])
      fresh callee.Putchar [] = leaf_fresh (λ a. [])
      fresh callee.Putchar (x ∷ es) = then_fresh x.1.value 1 (λ d. (d + 1) ∷ []) (λ v a. code.set_result v ∷ code.put_output ∷ code.constant a 255 ∷ code.Meet v a ∷ []) x.4.fresh

  -- ---- all of them

  node_related : (y : TypedExpr-F Q) → Relates (expression W (map-TypedExpr Q Evaluation (λ e. e.0) y)) (naive_node (site_of t.kept t.word source f) (map-TypedExpr Q Naive (λ e. e.1) y))
      (record { of = type_of t.word source f (map-TypedExpr Q Checked (λ e. e.2) y); sound = checked_by t.word source f (map-TypedExpr Q Checked (λ e. e.2) y) }) (expression_arguments (map-TypedExpr Q ℕ (λ e. e.3) y))
  node_related (Constant h v) = plain_related t u m source f k ready n call calls h (constant W h v) (leaf (λ a. code.constant a v ∷ [])) _ 0 refl (leaf_fresh _)
      (λ sound few. constant_does t u m source f k ready n W h v refl (same_test (as_type t.word h.of v) v sound))
    where
      same_test : (a b : ℕ) → (a == b) ≡ true → a ≡ b
      same_test a b e = grind (arith, nat_tests, e)
  node_related (Object h x) = name_related t u m source f k ready n call calls h x
  node_related (Element h x i) = element_related t u m source f k ready n call calls h x i
  node_related (Assign h a b) = assign_related t u m source f k ready n call calls h a b
  node_related (Compound h a o b) = compound_related h a o b
  node_related (Before h o a) = before_related h o a
  node_related (After h a o) = after_related h a o
  node_related (Binary h a o b) = binary_related h a b o
  node_related (Unary h o a) = unary_related h o a
  node_related (Convert h a) = plain_related t u m source f k ready n call calls h _ (then_on a.1.value (spare_count h.of) (spare_depths h.of) (narrowed h.of)) _ a.3 refl
      (then_fresh a.1.value (spare_count h.of) (spare_depths h.of) (narrowed h.of) a.4.fresh)
      (λ sound few. convert_does t u m source f k ready n a.0.of h.of a.0.value a.1.value (spare_count h.of) (spare_depths h.of) a.4.fresh (a.4.value sound few))
  node_related (Comma h a b) = comma_related h a b
  node_related (Conditional h a b d) = conditional_related h a b d
  node_related (Call h g es) = call_related h g es

  -- of a sound expression whose calls have no more arguments than there are words for, the code's values, tests and places are the source's
  pub expression_related : (e : TypedExpr) → Relates (meaning W e) (naive (site_of t.kept t.word source f) e) (checked t.word source f e) (arguments_of e)
  expression_related =
      four_relate Evaluation Naive Checked ℕ (expression W) (naive_node (site_of t.kept t.word source f)) (λ e. record { of = type_of t.word source f e; sound = checked_by t.word source f e }) expression_arguments Relates node_related
