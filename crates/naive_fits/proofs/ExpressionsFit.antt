-- The code of a sound expression whose operators are there can be made.
use Rattle.std.proofs.Common.{◌≡◌, ℕ, zero, suc, ◌+◌, ◌*◌, ◌^◌, ◌≤◌, ◌<◌, List, [], ◌∷◌, ◌++◌, map, Option, Some, None, refl, sym, ap, subst, arith, true, false}
use Rattle.std.proofs.lemmas.Option.{slice_get_within}
use Rattle.std.specs.Prelude.{Bool, not, ◌==◌, length, slice_get}
use Rattle.rtl_word.specs.Words.{IsWordSize}
use Rattle.rtl_word.specs.declared.Rel.{Rel}
use Rattle.rtl_word.specs.declared.Rel.TheVariants.{Ne}
use Rattle.rtl_tree.specs.declared.expressions.BinOp.{BinOp}
use Rattle.rtl_tree.specs.declared.expressions.BinOp.TheVariants as op
use Rattle.md_rows.specs.declared.description.RawDescription.{RawDescription}
use Rattle.c_tree.specs.declared.types.CType.{CType}
use Rattle.c_tree.specs.declared.types.CType.TheVariants as type
use Rattle.c_tree.specs.declared.syntax.UnaryOperator.{UnaryOperator}
use Rattle.c_tree.specs.declared.syntax.UnaryOperator.TheVariants as unary
use Rattle.c_tree.specs.declared.syntax.StepOperator.{StepOperator}
use Rattle.c_tree.specs.declared.typed.Variable.{Variable}
use Rattle.c_tree.specs.declared.typed.Object.{Object as Thing}
use Rattle.c_tree.specs.declared.typed.Callee.{Callee}
use Rattle.c_tree.specs.declared.typed.Callee.TheVariants as callee
use Rattle.c_tree.specs.declared.typed.Operation.{Operation}
use Rattle.c_tree.specs.declared.typed.Operation.TheVariants as operation
use Rattle.c_tree.specs.declared.typed.Function.{Function}
use Rattle.c_tree.specs.declared.typed.Typed.{Typed}
use Rattle.c_tree.specs.declared.typed.TypedExpr.{TypedExpr}
use Rattle.c_tree.specs.declared.typed.TypedExpr.TheOpen.{TypedExpr-F, Comma, Assign, Compound, Conditional, Binary, Unary, Before, After, Constant, Object, Element, Call, Convert}
use Rattle.c_tree.specs.declared.typed.TypedExpr.TheFolds.{fold-TypedExpr, map-TypedExpr}
use Rattle.c_limits.specs.Frames.{word_bytes}
use Rattle.c_meaning.specs.Operators.{Sort, computes, compares, logical, sort_of, relation_in, computed_in, as_type}
use Rattle.naive_code.specs.Operations as code
use Rattle.naive_code.specs.Operations.{Op, Falls, Jumps, Close, Calls, constant, copy, read_result}
use Rattle.naive_code.specs.Storage.{Storage, Temporary, Word, Elements, Missing}
use Rattle.naive_code.specs.Expressions as naive
use Rattle.naive_code.specs.Expressions.{Value, Test, Designated, object, element, nowhere, Naive, Site}
use Rattle.naive_run.specs.Sound.{Checked, a_word, all_fit, fits_function, fits_call, fits_operation, checked_by, type_of, checked}
use Rattle.naive_counts.proofs.Folds.{Three, expressions_relate}
use Rattle.naive_fits.specs.Doable.{IsDoable}
use Rattle.naive_fits.specs.Expandable.{AreThere, Used, sort_there, operation_there, used_by, all_there}
use Rattle.naive_fits.proofs.Parts.{not_so, both_so, same_number, as_type_word, few_words, StorageFits, Fit, fit_append, put_into_fit, settled_fit, stepped_fit, computed_fit, small, narrowed_fit, fetched_fit, addressed_fit, got_fit}

module _ (d : RawDescription) (size : IsWordSize d.word) where
  abbrev pub ValueFits : Value → Type 0
  ValueFits v = (t l : ℕ) → Fit d (v.ops t l)

  abbrev pub TestFits : Test → Type 0
  TestFits e = (sense : Bool) (target next t l : ℕ) → Fit d (e.ops sense target next t l)

  pub record Coded (n : Naive) : Type 0 where
    pub value : ValueFits n.value
    pub test : TestFits n.test
    pub place : ValueFits (naive.opened n.place)
    pub stored : StorageFits (naive.storage_in n.place)

  -- ---- values

  none_fits : ValueFits naive.no_value
  none_fits t l = tt

  then_fits : (v : Value) (fresh : ℕ) (depths : ℕ → List ℕ) (os : ℕ → ℕ → List Op) → ValueFits v → ((a b : ℕ) → Fit d (os a b))
      → ValueFits (naive.then_on v fresh depths os)
  then_fits v fresh depths os h g t l = fit_append d (v.ops t l) (os (v.result t) (t + v.temps)) (h t l) (g (v.result t) (t + v.temps))

  address_fits : (s : Storage) (i : Value) → StorageFits s → ValueFits i → ValueFits (naive.address_in s i)
  address_fits (Temporary k) i g h t l = tt
  address_fits (Word y) i g h t l = tt
  address_fits (Elements b of) i g h t l =
      then_fits i 3 (λ d. (d + 1) ∷ (d + 2) ∷ (d + 2) ∷ []) (λ v t. naive.addressed b of v t) h (λ v t. addressed_fit d size b of v t g) t l
  address_fits Missing i g h t l = tt

  element_fits : (s : Storage) (i : Value) → StorageFits s → ValueFits i → ValueFits (naive.read_element s i)
  element_fits (Temporary k) i g h t l = tt
  element_fits (Word y) i g h t l = tt
  element_fits (Elements b of) i g h t l =
      then_fits (naive.address_in (Elements b of) i) 1 (λ d. (d + 1) ∷ []) (λ v t. naive.fetched of v v t) (address_fits (Elements b of) i g h)
      (λ v t. fetched_fit d size of v v t) t l
  element_fits Missing i g h t l = tt

  both_fits : (a b : Value) (deeper : ℕ) → ValueFits a → ValueFits b → ValueFits (naive.both a deeper b)
  both_fits a b deeper g h t l = fit_append d (a.ops t l) (b.ops (t + a.temps) (l + a.labels)) (g t l) (h (t + a.temps) (l + a.labels))

  joined_fits : (a b : Value) (os : ℕ → ℕ → List Op) → ValueFits a → ValueFits b → ((v w : ℕ) → Fit d (os v w)) → ValueFits (naive.joined a b os)
  joined_fits a b os g h last t l =
      let u = t + a.temps in let k = l + a.labels in
      fit_append d (a.ops t l) (b.ops u k ++ os (a.result t) (b.result u)) (g t l)
      (fit_append d (b.ops u k) (os (a.result t) (b.result u)) (h u k) (last (a.result t) (b.result u)))

  negated_fits : (v : Value) → ValueFits v → ValueFits (naive.negated v)
  negated_fits v h t l =
      fit_append d (v.ops t l) (constant (t + v.temps) 0 ∷ code.operate op.Sub (t + v.temps) (v.result t) ∷ []) (h t l) (small d size 0 (omega arith), (tt, tt))

  -- ---- tests

  test_fits : (v : Value) → ValueFits v → TestFits (naive.test_of v)
  test_fits v h sense target next t l =
      fit_append d (v.ops t l) (constant (t + v.temps) 0 ∷ Close (code.Branches (naive.relation_if sense Ne) (v.result t) (t + v.temps) target) next ∷ []) (h t l)
      (small d size 0 (omega arith), (tt, tt))

  truth_fits : (y : Test) → TestFits y → ValueFits (naive.value_of y)
  truth_fits y h t l = (
    small d size 0 (omega arith),
    fit_append d (y.ops false l (l + 1) (t + 1) (l + 2)) (constant t 1 ∷ Close Falls l ∷ []) (h false l (l + 1) (t + 1) (l + 2))
        (small d size 1 (omega arith), (tt, tt)),
  )

  compared_fits : (r : Rel) (a b : Value) → ValueFits a → ValueFits b → TestFits (naive.compared r a b)
  compared_fits r a b g h sense target next t l =
      let u = t + a.temps in let k = l + a.labels in
      let last = Close (code.Branches (naive.relation_if sense r) (a.result t) (b.result u) target) next ∷ [] in
      fit_append d (a.ops t l) (b.ops u k ++ last) (g t l) (fit_append d (b.ops u k) last (h u k) (tt, tt))

  in_turn_fits : (and : Bool) (a b : Test) → TestFits a → TestFits b → TestFits (naive.in_turn and a b)
  in_turn_fits and a b g h sense target next t l =
      let u = t + a.temps in let k = l + 1 + a.labels in
      fit_append d (a.ops (not and) (naive.decided and sense target next) l t (l + 1)) (b.ops sense target next u k)
      (g (not and) (naive.decided and sense target next) l t (l + 1)) (h sense target next u k)

  denied_fits : (y : Test) → TestFits y → TestFits (naive.denied y)
  denied_fits y h sense target next t l = h (not sense) target next t l

  after_fits : (a : Value) (b : Test) → ValueFits a → TestFits b → TestFits (naive.tested_after a b)
  after_fits a b g h sense target next t l =
      let u = t + a.temps in let k = l + a.labels in
      fit_append d (a.ops t l) (b.ops sense target next u k) (g t l) (h sense target next u k)

  chosen_fits : (a : Test) (b e : Value) → TestFits a → ValueFits b → ValueFits e → ValueFits (naive.chosen a b e)
  chosen_fits a b e p q r t l =
      let t1 = t + 1 + a.temps in let t2 = t1 + b.temps in let l1 = l + 3 + a.labels in let l2 = l1 + b.labels in
      let o3 = e.ops t2 l2 in
      let last = copy t (e.result t2) ∷ Close Falls (l + 2) ∷ [] in
      let middle = copy t (b.result t1) ∷ Close (Jumps (l + 2)) l ∷ (o3 ++ last) in
      fit_append d (a.ops false l (l + 1) (t + 1) (l + 3)) (b.ops t1 l1 ++ middle) (p false l (l + 1) (t + 1) (l + 3))
      (fit_append d (b.ops t1 l1) middle (q t1 l1) (tt, (tt, fit_append d o3 last (r t2 l2) (tt, (tt, tt)))))

  -- ---- operators

  logical_coded : (of : CType) (v : Value) (y : Test) → ValueFits v → TestFits y → Coded (naive.logical_value of v y)
  logical_coded of v y g h = record { value = g; test = h; place = none_fits; stored = tt }

  plain_coded : (of : CType) (v : Value) → ValueFits v → Coded (naive.plain of v)
  plain_coded of v h = logical_coded of v (naive.test_of v) h (test_fits v h)

  unary_coded : (of : CType) (o : UnaryOperator) (a : Naive) → Coded a → Coded (naive.logical_value of (naive.one o a) (naive.truth_of_one o a))
  unary_coded of unary.Plus a h = plain_coded of a.value h.value
  unary_coded of unary.Minus a h = plain_coded of (naive.negated a.value) (negated_fits a.value h.value)
  unary_coded of unary.Complement a h =
      plain_coded of (naive.one unary.Complement a) (then_fits a.value 0 (λ d. []) (λ v t. code.complement v ∷ []) h.value (λ v t. (tt, tt)))
  unary_coded of unary.Not a h =
      let y = naive.denied a.test in let k = denied_fits a.test h.test in logical_coded of (naive.value_of y) y (truth_fits y k) k

  module _ (has : BinOp → Bool) (there : AreThere d has) where
    binary_coded : (of by : CType) (s : Sort) (a b : Naive) → Coded a → Coded b → sort_there has s by ≡ true
        → Coded (naive.logical_value of (naive.two by s a b) (naive.truth_of by s a b))
    binary_coded of by (computes o) a b g h e =
        plain_coded of (naive.joined a.value b.value (naive.computed o by))
        (joined_fits a.value b.value (naive.computed o by) g.value h.value (λ v w. computed_fit d has there o by v w e))
    binary_coded of by (compares r u) a b g h e =
        let y = naive.compared (relation_in by r u) a.value b.value in
        let k = compared_fits (relation_in by r u) a.value b.value g.value h.value in
        logical_coded of (naive.value_of y) y (truth_fits y k) k
    binary_coded of by (logical and) a b g h e =
        let y = naive.in_turn and a.test b.test in let k = in_turn_fits and a.test b.test g.test h.test in logical_coded of (naive.value_of y) y (truth_fits y k) k

  -- ---- assignments

  module _ (p : Designated) (of : CType) (opens : ValueFits (naive.opened p)) (stored : StorageFits (naive.storage_in p)) where
    assigned_fits : (b : Value) → ValueFits b → ValueFits (naive.assigned p b)
    assigned_fits b h t l =
        let o = naive.opened p in let u = t + o.temps in let k = l + o.labels in
        let r = b.result u in
        let puts = naive.put_into (naive.storage_in p) (o.result t) r (u + b.temps) in let last = naive.settled p (o.result t) r in
        fit_append d (o.ops t l) (b.ops u k ++ (puts ++ last)) (opens t l)
        (fit_append d (b.ops u k) (puts ++ last) (h u k)
        (fit_append d puts last (put_into_fit d (naive.storage_in p) (o.result t) r (u + b.temps) stored) (settled_fit d p (o.result t) r)))

    compound_fits : (bytes : ℕ) (o : Operation) (by : CType) (b : Value) → ValueFits b → ((v w l : ℕ) → Fit d (naive.combined bytes o of by v w l))
        → ValueFits (naive.compound bytes o of p by b)
    compound_fits bytes o by b h combines t l =
        let at = naive.opened p in
        let n = naive.operation_labels o in
        let v = t + at.temps in let u = v + 2 in let fresh = u + b.temps in let m = l + n in
        let s = naive.storage_in p in
        let o1 = naive.got_from s v (at.result t) (v + 1) in
        let o2 = b.ops u (m + at.labels) in
        let o3 = naive.combined bytes o of by v (b.result u) l in
        let o4 = naive.narrowed of v fresh in
        let o5 = naive.put_into s (at.result t) v (fresh + 1) in
        let o6 = naive.settled p (at.result t) v in
        fit_append d (at.ops t m) (o1 ++ (o2 ++ (o3 ++ (o4 ++ (o5 ++ o6))))) (opens t m)
        (fit_append d o1 (o2 ++ (o3 ++ (o4 ++ (o5 ++ o6)))) (got_fit d size s v (at.result t) (v + 1) stored)
        (fit_append d o2 (o3 ++ (o4 ++ (o5 ++ o6))) (h u (m + at.labels))
        (fit_append d o3 (o4 ++ (o5 ++ o6)) (combines v (b.result u) l)
        (fit_append d o4 (o5 ++ o6) (narrowed_fit d size of v fresh)
        (fit_append d o5 o6 (put_into_fit d s (at.result t) v (fresh + 1) stored) (settled_fit d p (at.result t) v))))))

    -- the last operations of a step: the new value goes back
    put_back_fit : (a v n spare last : ℕ) → Fit d (naive.narrowed of n spare ++ (naive.put_into (naive.storage_in p) a n last ++ naive.settled p a v))
    put_back_fit a v n spare last =
        let s = naive.storage_in p in
        fit_append d (naive.narrowed of n spare) (naive.put_into s a n last ++ naive.settled p a v) (narrowed_fit d size of n spare)
        (fit_append d (naive.put_into s a n last) (naive.settled p a v) (put_into_fit d s a n last stored) (settled_fit d p a v))

    before_fits : (o : StepOperator) → ValueFits (naive.stepped_before o of p)
    before_fits o t l =
        let at = naive.opened p in
        let v = t + at.temps in
        let s = naive.storage_in p in
        let o1 = naive.got_from s v (at.result t) (v + 1) in
        let back = naive.narrowed of v (v + 3) ++ (naive.put_into s (at.result t) v (v + 4) ++ naive.settled p (at.result t) v) in
        let rest = constant (v + 2) 1 ∷ code.operate (naive.step_operator o) v (v + 2) ∷ back in
        fit_append d (at.ops t l) (o1 ++ rest) (opens t l)
        (fit_append d o1 rest (got_fit d size s v (at.result t) (v + 1) stored)
        (small d size 1 (omega arith), (stepped_fit d o, put_back_fit (at.result t) v v (v + 3) (v + 4))))

    behind_fits : (o : StepOperator) → ValueFits (naive.stepped_after o of p)
    behind_fits o t l =
        let at = naive.opened p in
        let v = t + at.temps in let n = v + 2 in
        let s = naive.storage_in p in
        let o1 = naive.got_from s v (at.result t) (v + 1) in
        let back = naive.narrowed of n (v + 4) ++ (naive.put_into s (at.result t) n (v + 5) ++ naive.settled p (at.result t) v) in
        let rest = copy n v ∷ constant (v + 3) 1 ∷ code.operate (naive.step_operator o) n (v + 3) ∷ back in
        fit_append d (at.ops t l) (o1 ++ rest) (opens t l)
        (fit_append d o1 rest (got_fit d size s v (at.result t) (v + 1) stored)
        (tt, (small d size 1 (omega arith), (stepped_fit d o, put_back_fit (at.result t) v n (v + 4) (v + 5)))))

  -- ---- calls

  stored_fit : (i : ℕ) (places : List ℕ) → i + length places ≤ 17 → Fit d (naive.stored_from (word_bytes d.word) i places)
  stored_fit i [] few = tt
  stored_fit zero (a ∷ places) few = (tt, stored_fit 1 places (omega (arith, few)))
  stored_fit (suc i) (a ∷ places) few = (few_words d.word i size (omega (arith, few)), stored_fit (suc (suc i)) places (omega (arith, few)))

  results_count : (vs : List Value) (t : ℕ) → length (naive.results_of vs t) ≡ length vs
  results_count [] t = refl
  results_count (v ∷ vs) t = ap suc (results_count vs (t + v.temps))

  called_fits : (g : ℕ) (vs : List Value) → g < 2 ^ 16 → length vs ≤ 16 → ValueFits (naive.arguments vs) → ValueFits (naive.called (word_bytes d.word) g vs)
  called_fits g vs lt few h t l =
      let args = naive.arguments vs in
      let o2 = naive.stored_from (word_bytes d.word) 0 (naive.results_of vs t) in
      let last = Close (Calls g) l ∷ read_result (t + args.temps) ∷ [] in
      let count = results_count vs t in
      fit_append d (args.ops t (l + 1)) (o2 ++ last) (h t (l + 1)) (fit_append d o2 last (stored_fit 0 (naive.results_of vs t) (omega (arith, few, count))) (lt, (tt, tt)))

  helper_fits : (g : ℕ) (of by : CType) → g < 2 ^ 16 → (v w l : ℕ) → Fit d (naive.combined (word_bytes d.word) (operation.Helper g) of by v w l)
  helper_fits g of by lt v w l =
      let one : word_bytes d.word * 1 ≡ word_bytes d.word = omega arith in
      (tt, (subst (λ k. IsDoable d (code.store_home w k)) one (few_words d.word 0 size (omega arith)), (lt, (tt, tt))))

  -- ---- the nodes

  record Related (n : Naive) (k : Checked) (u : Used) : Type 0 where
    of : n.of ≡ u.of
    coded : k.sound ≡ true → u.there ≡ true → Coded n

  abbrev T : Type 0
  T = Three Naive Checked Used Related

  abbrev values_in : List T → List Value
  values_in es = map (λ e. e.value) (map (λ e. e.0) es)

  abbrev checks_in : List T → List Checked
  checks_in es = map (λ e. e.1) es

  abbrev uses_in : List T → List Used
  uses_in es = map (λ e. e.2) es

  abbrev EachSound : List Checked → Type 0
  EachSound [] = Unit {0}
  EachSound (k ∷ ks) = (k.sound ≡ true) × EachSound ks

  arguments_fit : (es : List T) → EachSound (checks_in es) → all_there (uses_in es) ≡ true → ValueFits (naive.arguments (values_in es))
  arguments_fit [] sound used t l = tt
  arguments_fit (e ∷ es) sound used t l =
      let u = both_so _ _ used in
      both_fits e.0.value (naive.arguments (values_in es)) 1 (e.3.coded sound.0 u.0).value (arguments_fit es sound.1 u.1) t l

  as_many : (es : List T) → length (values_in es) ≡ length (checks_in es)
  as_many [] = refl
  as_many (e ∷ es) = ap suc (as_many es)

  all_so : (es : List Checked) (os : List Thing) → all_fit es os ≡ true → (length es ≡ length os) × EachSound es
  all_so [] [] e = (refl, tt)
  all_so [] (o ∷ os) e = not_so e
  all_so (k ∷ ks) [] e = not_so e
  all_so (k ∷ ks) (o ∷ os) e =
      let p = both_so _ _ e in let q = both_so _ _ p.0 in let r = all_so ks os p.1 in (ap suc r.0, (q.0, r.1))

  module _ (has : BinOp → Bool) (there : AreThere d has) (t : Typed) (f : Function) (few_functions : length t.functions ≤ 2 ^ 16)
      (few_params : (n : ℕ) (g : Function) → slice_get t.functions n ≡ Some g → length g.params ≤ 16) where
    record IsCalled (g : ℕ) (es : List Checked) : Type 0 where
      number : g < 2 ^ 16
      few : length es ≤ 16
      sound : EachSound es

    called_by : (of : CType) (g : ℕ) (es : List Checked) (o : Option Function) → slice_get t.functions g ≡ o → fits_function of es o ≡ true → IsCalled g es
    called_by of g es None is e = not_so e
    called_by of g es (Some h) is e =
        let p = both_so _ _ e in let all = all_so es h.params p.1 in
        let inside = slice_get_within t.functions g h is in let few = few_params g h is in let count = all.0 in
        record { number = omega (arith, inside, few_functions); few = omega (arith, few, count); sound = all.1 }

    is_called : (of : CType) (g : ℕ) (es : List Checked) → fits_function of es (slice_get t.functions g) ≡ true → IsCalled g es
    is_called of g es e = called_by of g es (slice_get t.functions g) refl e

    call_fits : (of : CType) (g : Callee) (es : List T) → fits_call d.word t f of g (checks_in es) ≡ true → all_there (uses_in es) ≡ true
        → ValueFits (naive.call_of (word_bytes d.word) g (values_in es))
    call_fits of (callee.Defined g) es e used =
        let p = both_so _ _ e in let c = is_called of g (checks_in es) p.1 in let few = c.few in let count = as_many es in
        called_fits g (values_in es) c.number (omega (arith, few, count)) (arguments_fit es c.sound used)
    call_fits of callee.Getchar es e used = λ t l. (tt, (tt, tt))
    call_fits of callee.Putchar [] e used = λ t l. tt
    call_fits of callee.Putchar (a ∷ es) e used =
        let p = both_so _ _ e in let q = both_so _ _ p.1 in let r = both_so _ _ q.0 in let u = both_so _ _ used in
        then_fits a.0.value 1 (λ d. (d + 1) ∷ []) (λ v t. code.set_result v ∷ code.put_output ∷ constant t 255 ∷ code.Meet v t ∷ []) (a.3.coded r.0 u.0).value
        (λ v t. (tt, (tt, (small d size 255 (omega arith), (tt, tt)))))

    combined_fit : (o : Operation) (of by : CType) → fits_operation d.word t f o ≡ true → operation_there has o of by ≡ true → (v w l : ℕ)
        → Fit d (naive.combined (word_bytes d.word) o of by v w l)
    combined_fit (operation.Operator o) of by e u v w l = computed_fit d has there o (computed_in o of by) v w u
    combined_fit (operation.Helper g) of by e u v w l =
        let p = both_so _ _ e in helper_fits g of by (is_called type.Int g (a_word ∷ a_word ∷ []) p.1).number v w l

    module _ (places : Variable → Storage) (fits : (x : Variable) → StorageFits (places x)) where
      abbrev pub here : Site
      here = record { bits = d.word; storage = places }

      abbrev check_by : TypedExpr-F Checked → Checked
      check_by e = record { of = type_of d.word t f e; sound = checked_by d.word t f e }

      object_coded : (of : CType) (x : Variable)
          → Coded (record { of = of; value = naive.read_object (places x); test = naive.test_of (naive.read_object (places x)); place = object (places x) })
      object_coded of x = record { value = value; test = test_fits (naive.read_object (places x)) value; place = none_fits; stored = fits x }
        where
          value : ValueFits (naive.read_object (places x))
          value t l = got_fit d size (places x) t 0 0 (fits x)

      element_coded : (of : CType) (x : Variable) (i : Value) → ValueFits i
          → Coded (record { of = of; value = naive.read_element (places x) i; test = naive.test_of (naive.read_element (places x) i); place = element (places x) i })
      element_coded of x i h = record {
        value = element_fits (places x) i (fits x) h;
        test = test_fits (naive.read_element (places x) i) (element_fits (places x) i (fits x) h);
        place = address_fits (places x) i (fits x) h;
        stored = fits x;
      }

      constant_fits : (of : CType) (v : ℕ) → (as_type d.word of v == v) ≡ true → ValueFits (naive.leaf (λ t. constant t v ∷ []))
      constant_fits of v e t l = (subst (λ z. z < 2 ^ d.word) (same_number (as_type d.word of v) v e) (as_type_word d.word of v size), tt)

      node_related : (y : TypedExpr-F T)
          → Related (naive.naive_node here (map-TypedExpr T Naive (λ e. e.0) y)) (check_by (map-TypedExpr T Checked (λ e. e.1) y)) (used_by has (map-TypedExpr T Used (λ e. e.2) y))
      node_related (Constant h v) = record {
        of = refl;
        coded = λ s u. plain_coded h.of (naive.leaf (λ t. constant t v ∷ [])) (constant_fits h.of v s);
      }
      node_related (Object h x) = record { of = refl; coded = λ s u. object_coded h.of x }
      node_related (Element h x i) = record {
        of = refl;
        coded = λ s u. (let p = both_so _ _ s in let q = both_so _ _ p.0 in element_coded h.of x i.0.value (i.3.coded q.0 u).value);
      }
      node_related (Assign h a b) = record {
        of = refl;
        coded = λ s u. (
            let p = both_so _ _ s in let q = both_so _ _ p.0 in let r = both_so _ _ q.0 in let v = both_so _ _ u in
            let x = a.3.coded r.0 v.0 in
            plain_coded h.of (naive.assigned a.0.place b.0.value) (assigned_fits a.0.place a.0.of x.place x.stored b.0.value (b.3.coded r.1 v.1).value));
      }
      node_related (Compound h a o b) = record {
        of = refl;
        coded = λ s u. (
            let p = both_so _ _ s in let q = both_so _ _ p.0 in let r = both_so _ _ q.0 in
            let v = both_so _ _ u in let w = both_so _ _ v.0 in
            let x = a.3.coded r.0 w.0 in
            let right : operation_there has o a.2.of b.0.of ≡ true = subst (λ z. operation_there has o a.2.of z ≡ true) (sym b.3.of) v.1 in
            let left : operation_there has o a.0.of b.0.of ≡ true = subst (λ z. operation_there has o z b.0.of ≡ true) (sym a.3.of) right in
            plain_coded h.of (naive.compound (word_bytes d.word) o a.0.of a.0.place b.0.of b.0.value)
            (compound_fits a.0.place a.0.of x.place x.stored (word_bytes d.word) o b.0.of b.0.value (b.3.coded r.1 w.1).value (combined_fit o a.0.of b.0.of p.1 left)));
      }
      node_related (Before h o a) = record {
        of = refl;
        coded = λ s u. (
            let p = both_so _ _ s in let x = a.3.coded p.0 u in
            plain_coded h.of (naive.stepped_before o a.0.of a.0.place) (before_fits a.0.place a.0.of x.place x.stored o));
      }
      node_related (After h a o) = record {
        of = refl;
        coded = λ s u. (
            let p = both_so _ _ s in let x = a.3.coded p.0 u in
            plain_coded h.of (naive.stepped_after o a.0.of a.0.place) (behind_fits a.0.place a.0.of x.place x.stored o));
      }
      node_related (Binary h a o b) = record {
        of = refl;
        coded = λ s u. (
            let p = both_so _ _ s in let q = both_so _ _ p.0 in let v = both_so _ _ u in let w = both_so _ _ v.0 in
            binary_coded has there h.of a.0.of (sort_of o) a.0 b.0 (a.3.coded q.0 w.0) (b.3.coded q.1 w.1)
            (subst (λ z. sort_there has (sort_of o) z ≡ true) (sym a.3.of) v.1));
      }
      node_related (Unary h o a) = record { of = refl; coded = λ s u. unary_coded h.of o a.0 (a.3.coded (both_so _ _ s).0 u) }
      node_related (Convert h a) = record {
        of = refl;
        coded = λ s u.
            plain_coded h.of (naive.then_on a.0.value (naive.spare_count h.of) (naive.spare_depths h.of) (naive.narrowed h.of))
            (then_fits a.0.value (naive.spare_count h.of) (naive.spare_depths h.of) (naive.narrowed h.of) (a.3.coded s u).value (narrowed_fit d size h.of));
      }
      node_related (Comma h a b) = record {
        of = refl;
        coded = λ s u. (
            let p = both_so _ _ s in let q = both_so _ _ p.0 in let v = both_so _ _ u in
            let x = a.3.coded q.0 v.0 in let y = b.3.coded q.1 v.1 in
            logical_coded h.of (naive.both a.0.value 0 b.0.value) (naive.tested_after a.0.value b.0.test) (both_fits a.0.value b.0.value 0 x.value y.value)
            (after_fits a.0.value b.0.test x.value y.test));
      }
      node_related (Conditional h a b e) = record {
        of = refl;
        coded = λ s u. (
            let p = both_so _ _ s in let q = both_so _ _ p.0 in let r = both_so _ _ q.0 in let k = both_so _ _ r.0 in
            let v = both_so _ _ u in let w = both_so _ _ v.0 in
            plain_coded h.of (naive.chosen a.0.test b.0.value e.0.value)
            (chosen_fits a.0.test b.0.value e.0.value (a.3.coded k.0 w.0).test (b.3.coded k.1 w.1).value (e.3.coded r.1 v.1).value));
      }
      node_related (Call h g es) = record {
        of = refl;
        coded = λ s u. plain_coded h.of (naive.call_of (word_bytes d.word) g (values_in es)) (call_fits h.of g es s u);
      }

      pub expression_coded : (e : TypedExpr) → (checked d.word t f e).sound ≡ true → (fold-TypedExpr Used (used_by has) e).there ≡ true → Coded (naive.naive here e)
      expression_coded e = (expressions_relate Naive Checked Used Related (naive.naive_node here) check_by (used_by has) node_related e).coded
