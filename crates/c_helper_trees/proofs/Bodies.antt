-- A helper's body: its locals are set, its code runs, and its result is returned.
use Rattle.std.proofs.Common.{◌≡◌, ℕ, suc, ◌+◌, ◌^◌, ◌<◌, ◌≤◌, List, [], ◌∷◌, ◌++◌, length, Some, refl, sym, ap, ◌∙◌, arith}
use mathlib.Core.List.{append_assoc}
use Rattle.c_tree.specs.declared.types.CType.TheVariants as type
use Rattle.c_tree.specs.declared.typed.Variable.TheVariants as variable
use Rattle.c_tree.specs.declared.typed.TypedExpr.TheVariants as tree
use Rattle.c_tree.specs.declared.typed.Stat.TheVariants as stat
use Rattle.c_meaning.specs.Parts.{State, Store, then_do, give, word, store}
use Rattle.c_meaning.specs.Expressions.{scalar, World, meaning, needed}
use Rattle.c_meaning.specs.Statements.{Flow, next, returns, Does, Execution, sequence, go_on, all_unset, declared, declare, initialised, statement, execution}
use Rattle.c_meaning.specs.Run.{given, blank, inside}
use Rattle.c_helpers.specs.Code.{Helper, does, Ends, Words, IsHelper, started, computes}
use Rattle.c_helper_trees.specs.Trees.{origin, word_head, variable_of, term_tree, code_tree, locals, body_of}
use Rattle.c_helper_trees.proofs.Nodes.{block_is, declare_is, return_is}
use Rattle.c_helper_trees.proofs.Stores.{inner, put_end, blank_given, unset_blank, state_of, same_states}
use Rattle.c_helper_trees.proofs.Terms.{Fine, then_is, needed_is, number_runs, term_runs, as_it_is}
use Rattle.c_helper_trees.proofs.Codes.{code_runs, stays_fine}

all_unset_blank : (xs : List ℕ) (s : State) (p : Store) → all_unset xs (state_of s p blank) ≡ state_of s p blank
all_unset_blank [] s p = refl
all_unset_blank (x ∷ xs) s p = ap (all_unset xs) (unset_blank x s p) ∙ all_unset_blank xs s p

length_end : (ls : List ℕ) (v : ℕ) → length (ls ++ (v ∷ [])) ≡ suc (length ls)
length_end [] v = refl
length_end (x ∷ xs) v = ap suc (length_end xs v)

none_more : (xs : List ℕ) → xs ++ [] ≡ xs
none_more [] = refl
none_more (x ∷ xs) = ap (λ ys. x ∷ ys) (none_more xs)

three_in_order : (a b d : Execution) (s s1 s2 : State) (r : Flow) → a.does s ≡ give next s1 → b.does s1 ≡ give next s2 → d.does s2 ≡ give r s2 → ((x : Does) → go_on r x s2 ≡ give r s2) → sequence (a ∷ b ∷ d ∷ []) s ≡ give r s2
three_in_order a b d s s1 s2 r p q t u =
    then_is (a.does s) next s1 (λ f. go_on f (sequence (b ∷ d ∷ []))) p
    ∙ (then_is (b.does s1) next s2 (λ f. go_on f (sequence (d ∷ []))) q
    ∙ (then_is (d.does s2) r s2 (λ f. go_on f (sequence [])) t ∙ u (sequence [])))

-- in a world whose variables are unsigned scalars
module _ (c : World) (many : ℕ) (kinds : (x : ℕ) → x < 2 + many → c.kind (variable_of x) ≡ scalar type.Unsigned) where
  declares : (s : State) (p : Store) (vs ls : List ℕ) (k : ℕ) → k ≡ length ls → k + length vs ≤ many → Words c.bits vs
      → declare c (locals k vs) (state_of s p (given ls)) ≡ give next (state_of s p (given (ls ++ vs)))
  declares s p [] ls k e le ws = ap (λ xs. give next (state_of s p (given xs))) (sym (none_more ls))
  declares s p (v ∷ vs) ls k e le ws =
      let here = state_of s p (given ls) in
      let there = state_of s p (given (ls ++ (v ∷ []))) in
      let stored : store here (variable.Local k) 0 (Some v) ≡ there =
      ap (λ j. store here (variable.Local j) 0 (Some v)) e ∙ same_states s p p _ _ refl (put_end ls v) in
      let kept : initialised c k 0 v here ≡ there =
      ap (λ x. store here (variable.Local k) 0 (Some x)) (as_it_is c many kinds (suc (suc k)) v (omega (arith, le)) ws.0) ∙ stored in
      let m = meaning c (tree.Constant word_head v) in
      let first : then_do (needed m here) (λ x s1. give next (initialised c k 0 x s1)) ≡ give next there =
      then_is (needed m here) v here _ (needed_is m here v (number_runs c here v ws.0).value) ∙ ap (give next) kept in
      then_is _ next there (λ f. declare c (locals (suc k) vs)) first
      ∙ (declares s p vs (ls ++ (v ∷ [])) (suc k) (ap suc e ∙ sym (length_end ls v)) (omega (arith, le)) ws.1
      ∙ ap (λ xs. give next (state_of s p (given xs))) (append_assoc ls (v ∷ []) vs))

module _ (c : World) (h : Helper) (is : IsHelper c.bits h) (kinds : (x : ℕ) → x < 2 + length h.inits → c.kind (variable_of x) ≡ scalar type.Unsigned) where
  -- called with two words, it returns what it computes
  pub body_runs : (n : ℕ) → c.bits ≤ n → (x y : ℕ) → x < 2 ^ c.bits → y < 2 ^ c.bits → Ends c.bits h.code (started h x y)
      → (s : State) → (execution c n (body_of h)).does (inside (x ∷ y ∷ []) s) ≡ give (returns (word (computes c.bits h x y))) (inner s (does c.bits h.code (started h x y)))
  body_runs n le x y xw yw ends s =
      let p = given (x ∷ y ∷ []) in
      let h0 = started h x y in
      let h1 = does c.bits h.code h0 in
      let k = length h.inits in
      let dec = stat.Declare origin (locals 0 h.inits) in
      let ret = stat.Return origin (Some (term_tree h.result)) in
      let a = execution c n dec in let b = execution c n (code_tree h.code) in let d = execution c n ret in
      let fine : Fine c.bits k h0 = record { a = xw; b = yw; locals = is.words; many = refl } in
      let later = stays_fine c.bits k h.code h0 fine is.code in
      let v = computes c.bits h x y in
      let first : a.does (state_of s p blank) ≡ give next (inner s h0) =
      ap (λ m. m.does (state_of s p blank)) (declare_is Execution (statement c n) origin (locals 0 h.inits))
      ∙ (ap (λ l. declare c (locals 0 h.inits) (state_of s p l)) blank_given ∙ declares c k kinds s p h.inits [] 0 refl (omega arith) is.words) in
      let second : b.does (inner s h0) ≡ give next (inner s h1) = code_runs c n k le kinds h.code s h0 fine is.code ends in
      let result = term_runs c k kinds s h1 h.result later is.result in
      let third : d.does (inner s h1) ≡ give (returns (word v)) (inner s h1) =
      ap (λ m. m.does (inner s h1)) (return_is Execution (statement c n) origin (term_tree h.result))
      ∙ then_is (needed (meaning c (term_tree h.result)) (inner s h1)) v (inner s h1) (λ u s1. give (returns (word u)) s1) (needed_is (meaning c (term_tree h.result)) (inner s h1) v result.value) in
      ap (λ m. m.does (state_of s p blank)) (block_is Execution (statement c n) origin (dec ∷ code_tree h.code ∷ ret ∷ []))
      ∙ (ap (sequence (a ∷ b ∷ d ∷ [])) (all_unset_blank (declared (a ∷ b ∷ d ∷ [])) s p)
      ∙ three_in_order a b d (state_of s p blank) (inner s h0) (inner s h1) (returns (word v)) first second third (λ x. refl))
