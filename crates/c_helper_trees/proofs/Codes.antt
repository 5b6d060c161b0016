-- Code: its tree goes to the state that the code gives.
use Rattle.std.proofs.Common.{◌≡◌, ℕ, zero, suc, ◌+◌, ◌<◌, ◌≤◌, [], ◌∷◌, ◌++◌, None, refl, sym, ap, subst, ◌∙◌, arith}
use Rattle.c_tree.specs.declared.types.CType.TheVariants as type
use Rattle.c_tree.specs.declared.typed.TypedExpr.TheVariants as tree
use Rattle.c_meaning.specs.Parts.{State, Part, then_do, give, word}
use Rattle.c_meaning.specs.Expressions.{scalar, World, meaning, needed, at_zero}
use Rattle.c_meaning.specs.Statements.{next, Does, Execution, nothing, cut, turned, turns, sequence, go_on, all_unset, or_else, statement, execution}
use Rattle.c_helpers.specs.Code.{Code, put, ◌then◌, when, while, Variables, assign, value, tested, unless_zero, repeated, does, Ends, FitsCode}
use Rattle.c_helper_trees.specs.Trees.{origin, word_head, variable_of, term_tree, test_tree, code_tree}
use Rattle.c_helper_trees.proofs.Nodes.{evaluate_is, block_is, if_is, while_is}
use Rattle.c_helper_trees.proofs.Stores.{inner}
use Rattle.c_helper_trees.proofs.Terms.{Fine, after_none, then_is, value_below, assign_fine, assign_runs, test_runs}

-- a loop whose test and body do on states what a test and a body do on a type H, for which at most k turns suffice
module _ (H : Type 0) (st : H → State) (t : State → Part ℕ) (b : Does) (test : H → ℕ) (body : H → H) (Ok : H → Type 0)
    (tests : (h : H) → Ok h → t (st h) ≡ give (test h) (st h))
    (goes : (h : H) → Ok h → b (st h) ≡ give next (st (body h)))
    (stays : (h : H) → Ok h → Ok (body h)) where
  stops : (n : ℕ) (h : H) → Ok h → test h ≡ 0 → turns n t b nothing (st h) ≡ give next (st h)
  stops zero h ok e = then_is (t (st h)) (test h) (st h) _ (tests h ok) ∙ ap (λ v. at_zero v nothing cut (st h)) e
  stops (suc n) h ok e =
      then_is (t (st h)) (test h) (st h) _ (tests h ok)
      ∙ ap (λ v. at_zero v nothing (λ s1. then_do (b s1) (λ f. turned f (λ s2. then_do (nothing s2) (λ _. turns n t b nothing)))) (st h)) e

  turn : (n v : ℕ) (h : H) → Ok h → test h ≡ suc v → turns (suc n) t b nothing (st h) ≡ turns n t b nothing (st (body h))
  turn n v h ok e =
      then_is (t (st h)) (test h) (st h) _ (tests h ok)
      ∙ (ap (λ v. at_zero v nothing (λ s1. then_do (b s1) (λ f. turned f (λ s2. then_do (nothing s2) (λ _. turns n t b nothing)))) (st h)) e
      ∙ (then_is (b (st h)) next (st (body h)) _ (goes h ok) ∙ after_none _))

  loop_from : (v k n : ℕ) (h : H) → test h ≡ v → Ok h
      → (test (repeated k test body (body h)) ≡ 0 → turns n t b nothing (st (body h)) ≡ give next (st (repeated k test body (body h))))
      → test (repeated (suc k) test body h) ≡ 0 → turns (suc n) t b nothing (st h) ≡ give next (st (repeated (suc k) test body h))
  loop_from zero k n h e ok rest z =
      let here : repeated (suc k) test body h ≡ h = ap (λ v. unless_zero v (repeated k test body (body h)) h) e in
      subst (λ g. turns (suc n) t b nothing (st h) ≡ give next (st g)) (sym here) (stops (suc n) h ok e)
  loop_from (suc v) k n h e ok rest z =
      let on : repeated (suc k) test body h ≡ repeated k test body (body h) = ap (λ v. unless_zero v (repeated k test body (body h)) h) e in
      subst (λ g. turns (suc n) t b nothing (st h) ≡ give next (st g)) (sym on) (turn n v h ok e ∙ rest (ap test (sym on) ∙ z))

  loop_runs : (k n : ℕ) → k ≤ n → (h : H) → Ok h → test (repeated k test body h) ≡ 0 → turns n t b nothing (st h) ≡ give next (st (repeated k test body h))
  loop_runs zero n le h ok z = stops n h ok z
  loop_runs (suc k) zero le h ok z = absurd (omega (arith, le))
  loop_runs (suc k) (suc n) le h ok z = loop_from (test h) k n h refl ok (loop_runs k n (omega (arith, le)) (body h) (stays h ok)) z

zero_or : (P : Variables → Type 0) (v : ℕ) (g h : Variables) → P g → P h → P (unless_zero v g h)
zero_or P zero g h a b = b
zero_or P (suc v) g h a b = a

repeat_stays : (P : Variables → Type 0) (t : Variables → ℕ) (f : Variables → Variables) → ((g : Variables) → P g → P (f g)) → (k : ℕ) (h : Variables) → P h → P (repeated k t f h)
repeat_stays P t f step zero h p = p
repeat_stays P t f step (suc k) h p = zero_or P (t h) _ h (repeat_stays P t f step k (f h) (step h p)) p

pub stays_fine : (w k : ℕ) (p : Code) (h : Variables) → Fine w k h → FitsCode w (2 + k) p → Fine w k (does w p h)
stays_fine w k (put x t) h ok f = assign_fine w k x _ h (value_below w k h t ok f.1) ok
stays_fine w k (p then q) h ok f = stays_fine w k q _ (stays_fine w k p h ok f.0) f.1
stays_fine w k (when t p) h ok f = zero_or (Fine w k) (tested w h t) _ h (stays_fine w k p h ok f.1) ok
stays_fine w k (while t p) h ok f = repeat_stays (Fine w k) (λ g. tested w g t) (does w p) (λ g good. stays_fine w k p g good f.1) w h ok

declares_none : (c : World) (n : ℕ) (p : Code) → (execution c n (code_tree p)).declares ≡ []
declares_none c n (put x t) = ap (λ m. m.declares) (evaluate_is Execution (statement c n) origin (tree.Assign word_head (tree.Object word_head (variable_of x)) (term_tree t)))
declares_none c n (p then q) = ap (λ m. m.declares) (block_is Execution (statement c n) origin (code_tree p ∷ code_tree q ∷ []))
declares_none c n (when t p) = ap (λ m. m.declares) (if_is Execution (statement c n) origin (test_tree t) (code_tree p))
declares_none c n (while t p) = ap (λ m. m.declares) (while_is Execution (statement c n) origin (test_tree t) (code_tree p))

two_in_order : (a b : Execution) (s s1 s2 : State) → a.does s ≡ give next s1 → b.does s1 ≡ give next s2 → sequence (a ∷ b ∷ []) s ≡ give next s2
two_in_order a b s s1 s2 p q =
    then_is (a.does s) next s1 (λ f. go_on f (sequence (b ∷ []))) p ∙ then_is (b.does s1) next s2 (λ f. go_on f (sequence [])) q

at_zero_runs : (v : ℕ) (d : Does) (s : State) (h g : Variables) → d (inner s h) ≡ give next (inner s g) → at_zero v (or_else None) d (inner s h) ≡ give next (inner s (unless_zero v g h))
at_zero_runs zero d s h g e = refl
at_zero_runs (suc v) d s h g e = e

module _ (c : World) (n k : ℕ) (le : c.bits ≤ n) (kinds : (x : ℕ) → x < 2 + k → c.kind (variable_of x) ≡ scalar type.Unsigned) where
  pub code_runs : (p : Code) (s : State) (h : Variables) → Fine c.bits k h → FitsCode c.bits (2 + k) p → Ends c.bits p h → (execution c n (code_tree p)).does (inner s h) ≡ give next (inner s (does c.bits p h))
  code_runs (put x t) s h ok f e =
      let assignment = tree.Assign word_head (tree.Object word_head (variable_of x)) (term_tree t) in
      ap (λ m. m.does (inner s h)) (evaluate_is Execution (statement c n) origin assignment)
      ∙ then_is ((meaning c assignment).value (inner s h)) (word (value c.bits h t)) (inner s (assign x (value c.bits h t) h)) (λ v. nothing)
      (assign_runs c k kinds s h x t ok f.0 f.1)
  code_runs (p then q) s h ok f e =
      let a = execution c n (code_tree p) in let b = execution c n (code_tree q) in
      let g = does c.bits p h in
      ap (λ m. m.does (inner s h)) (block_is Execution (statement c n) origin (code_tree p ∷ code_tree q ∷ []))
      ∙ (ap (λ xs. sequence (a ∷ b ∷ []) (all_unset (xs ++ (b.declares ++ [])) (inner s h))) (declares_none c n p)
      ∙ (ap (λ xs. sequence (a ∷ b ∷ []) (all_unset (xs ++ []) (inner s h))) (declares_none c n q)
      ∙ two_in_order a b (inner s h) (inner s g) _ (code_runs p s h ok f.0 e.0) (code_runs q s g (stays_fine c.bits k p h ok f.0) f.1 e.1)))
  code_runs (when t p) s h ok f e =
      let a = execution c n (code_tree p) in
      ap (λ m. m.does (inner s h)) (if_is Execution (statement c n) origin (test_tree t) (code_tree p))
      ∙ (then_is (needed (meaning c (test_tree t)) (inner s h)) (tested c.bits h t) (inner s h) (λ v. at_zero v (or_else None) a.does)
      (test_runs c k kinds s h t ok f.0)
      ∙ at_zero_runs (tested c.bits h t) a.does s h _ (code_runs p s h ok f.1 e))
  code_runs (while t p) s h ok f e =
      let a = execution c n (code_tree p) in
      ap (λ m. m.does (inner s h)) (while_is Execution (statement c n) origin (test_tree t) (code_tree p))
      ∙ loop_runs Variables (inner s) (needed (meaning c (test_tree t))) a.does (λ g. tested c.bits g t) (does c.bits p) (Fine c.bits k)
      (λ g good. test_runs c k kinds s g t good f.0)
      (λ g good. code_runs p s g good f.1 (e.1 g))
      (λ g good. stays_fine c.bits k p g good f.1)
      c.bits n le h ok e.0
