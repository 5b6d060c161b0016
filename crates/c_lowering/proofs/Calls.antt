-- Calls of lowered programs: of the program's functions, and of helpers.
use Rattle.std.proofs.Common.{◌≡◌, ℕ, zero, suc, ◌+◌, ◌≤◌, List, [], ◌∷◌, ◌++◌, map, length, Option, Some, None, Bool, true, false, if◌then◌else◌, nat_lt, slice_get, refl, sym, ap, subst, ◌∙◌, arith}
use Rattle.std.proofs.lemmas.Bool.Decides.{nat_tests}
use Rattle.rtl_word.specs.Words.{IsWordSize}
use Rattle.behaviour.specs.Behaviour.{Overstack}
use Rattle.behaviour.proofs.Prefix.{prefix_nil}
use Rattle.c_tree.specs.declared.token.At.{At}
use Rattle.c_tree.specs.declared.typed.Variable.{Variable}
use Rattle.c_tree.specs.declared.typed.Variable.TheVariants as variable
use Rattle.c_tree.specs.declared.typed.Function.{Function}
use Rattle.c_tree.specs.declared.typed.Typed.{Typed}
use Rattle.c_meaning.specs.Parts.{Setting, State, Part, Fails, then_do, give, Value, word}
use Rattle.c_meaning.specs.Expressions.{Calls}
use Rattle.c_meaning.specs.Statements.{execution}
use Rattle.c_meaning.specs.Run.{enter, back, inside, world, taken, kind_in, call_at, is_main}
use Rattle.c_meaning.proofs.Below.{Below}
use Rattle.c_meaning.proofs.Runs.{call_below}
use Rattle.c_helpers.specs.declared.operator.Operator.{Operator}
use Rattle.c_helpers.specs.declared.operator.Operator.TheVariants.{Multiply, Divide, DivideUnsigned, Remainder, RemainderUnsigned, ShiftLeft, ShiftRight, ShiftRightUnsigned, Xor}
use Rattle.c_helper_trees.specs.Trees.{function_of}
use Rattle.c_helper_trees.proofs.Calls.{helper_calls}
use Rattle.c_lowering.specs.Lowering.{Operators, chosen, before, helpers, number_of, lower_function, lower}
use Rattle.c_lowering.proofs.Fair.{IsFair}
use Rattle.c_lowering.proofs.Following.{Way, at_least, at_most, Rel, same_rel, fails_rel, then_rel, at_most_from}
use Rattle.c_lowering.proofs.Expressions.{Calls_rel}
use Rattle.c_lowering.proofs.Lowered.{Helps, none_some}
use Rattle.c_lowering.proofs.Computes.{Computes, computes_so}
use Rattle.c_lowering.proofs.Statements.{lowers_stat}

-- ---- lists of functions

behind : {A : Type 0} (xs ys : List A) (k : ℕ) → slice_get (xs ++ ys) (length xs + k) ≡ slice_get ys k
behind [] ys k = ap (slice_get ys) (omega arith)
behind (x ∷ xs) ys k = let e : suc (length xs) + k ≡ suc (length xs + k) = omega arith in ap (slice_get (x ∷ (xs ++ ys))) e ∙ behind xs ys k

abbrev through : {A B : Type 0} → (A → B) → Option A → Option B
through f None = None
through f (Some x) = Some (f x)

kept : (low : Function → Function) (fs hs : List Function) (f : ℕ) (g : Function) → slice_get fs f ≡ Some g → slice_get (map low fs ++ hs) f ≡ Some (low g)
kept low [] hs f g e = absurd (none_some g e)
kept low (x ∷ fs) hs zero g e = ap (through low) e
kept low (x ∷ fs) hs (suc f) g e = kept low fs hs f g e

map_length : {A B : Type 0} (f : A → B) (xs : List A) → length (map f xs) ≡ length xs
map_length f [] = refl
map_length f (x ∷ xs) = ap suc (map_length f xs)

-- ---- where a chosen operator's helper stands

abbrev one_chosen : Bool → Operator → List Operator → List Operator
one_chosen b o os = if b then o ∷ os else os

stands : (p : Operators) (w : ℕ) (xs ys : List Operator) (o : Operator) → p o ≡ true → slice_get (map (function_of w) (chosen p (xs ++ o ∷ ys))) (length (chosen p xs)) ≡ Some (function_of w o)
stands p w [] ys o e = ap (λ b. slice_get (map (function_of w) (one_chosen b o (chosen p ys))) 0) e
stands p w (x ∷ xs) ys o e = by_first (p x) (stands p w xs ys o e)
  where
    by_first : (b : Bool) → slice_get (map (function_of w) (chosen p (xs ++ o ∷ ys))) (length (chosen p xs)) ≡ Some (function_of w o)
        → slice_get (map (function_of w) (one_chosen b x (chosen p (xs ++ o ∷ ys)))) (length (one_chosen b x (chosen p xs))) ≡ Some (function_of w o)
    by_first true rest = rest
    by_first false rest = rest

the_helper : (p : Operators) (w : ℕ) (o : Operator) → p o ≡ true → slice_get (helpers w p) (length (chosen p (before o))) ≡ Some (function_of w o)
the_helper p w Multiply e = stands p w (before Multiply) (Divide ∷ DivideUnsigned ∷ Remainder ∷ RemainderUnsigned ∷ ShiftLeft ∷ ShiftRight ∷ ShiftRightUnsigned ∷ Xor ∷ []) Multiply e
the_helper p w Divide e = stands p w (before Divide) (DivideUnsigned ∷ Remainder ∷ RemainderUnsigned ∷ ShiftLeft ∷ ShiftRight ∷ ShiftRightUnsigned ∷ Xor ∷ []) Divide e
the_helper p w DivideUnsigned e = stands p w (before DivideUnsigned) (Remainder ∷ RemainderUnsigned ∷ ShiftLeft ∷ ShiftRight ∷ ShiftRightUnsigned ∷ Xor ∷ []) DivideUnsigned e
the_helper p w Remainder e = stands p w (before Remainder) (RemainderUnsigned ∷ ShiftLeft ∷ ShiftRight ∷ ShiftRightUnsigned ∷ Xor ∷ []) Remainder e
the_helper p w RemainderUnsigned e = stands p w (before RemainderUnsigned) (ShiftLeft ∷ ShiftRight ∷ ShiftRightUnsigned ∷ Xor ∷ []) RemainderUnsigned e
the_helper p w ShiftLeft e = stands p w (before ShiftLeft) (ShiftRight ∷ ShiftRightUnsigned ∷ Xor ∷ []) ShiftLeft e
the_helper p w ShiftRight e = stands p w (before ShiftRight) (ShiftRightUnsigned ∷ Xor ∷ []) ShiftRight e
the_helper p w ShiftRightUnsigned e = stands p w (before ShiftRightUnsigned) (Xor ∷ []) ShiftRightUnsigned e
the_helper p w Xor e = stands p w (before Xor) [] Xor e

-- ---- calls

abbrev entered : Bool → Part Value → Part Value
entered b r = if b then Fails [] Overstack else r

module _ (m : Setting) (z : IsWordSize m.bits) (fair : IsFair m) (p : Operators) (t : Typed) where
  abbrev n0 : ℕ
  n0 = length t.functions

  abbrev low : Function → Function
  low = lower_function p n0

  abbrev t' : Typed
  t' = lower p m.bits t

  found : (k : Operator) → p k ≡ true → slice_get t'.functions (number_of p n0 k) ≡ Some (function_of m.bits k)
  found k e =
      let here = length (chosen p (before k)) in
      ap (λ i. slice_get (map low t.functions ++ helpers m.bits p) (i + here)) (sym (map_length low t.functions))
      ∙ (behind (map low t.functions) (helpers m.bits p) here ∙ the_helper p m.bits k e)

  -- a call of a helper, deep enough and with enough turns
  helper_call : (k : Operator) (n d u : ℕ) (at : At) (x y v : ℕ) (s : State) → m.bits ≤ n → nat_lt m.stack (256 + u) ≡ false → Computes p m.bits k x y v
      → call_at m t' n (suc d) u at (number_of p n0 k) (x ∷ y ∷ []) s ≡ give (word v) s
  helper_call k n d u at x y v s le room r =
      let fits : 256 + u ≤ m.stack = grind (arith, nat_tests, room) in
      helper_calls m t' z k (number_of p n0 k) (found k r.chosen) (fair.helpers k) x y v r.x_word r.y_word r.value n d u le fits at s

  abbrev pub deeper : Way → ℕ → ℕ
  deeper at_least d = suc d
  deeper at_most d = d

  abbrev pub Ready : Way → ℕ → Type 0
  Ready at_least n = m.bits ≤ n
  Ready at_most n = Unit {0}

  deeper_suc : (way : Way) (d : ℕ) → deeper way (suc d) ≡ suc (deeper way d)
  deeper_suc at_least d = refl
  deeper_suc at_most d = refl

  helps : (way : Way) (n d u : ℕ) → Ready way n → nat_lt m.stack (256 + u) ≡ false → Helps p n0 way m.bits (call_at m t' n (deeper way d) u)
  helps at_least n d u le room at o ty k x y v s e f =
      let r = computes_so p n0 m.bits ty o k x y v e f in
      subst (Rel at_least (give (word v) s)) (sym (helper_call k n d u at x y v s le room r)) (same_rel at_least _)
  helps at_most n d u le room at o ty k x y v s e f =
      let r = computes_so p n0 m.bits ty o k x y v e f in
      let far = n + m.bits in
      let b = call_below m t' n far (omega arith) d (suc d) (omega arith) u at (number_of p n0 k) (x ∷ y ∷ []) s in
      at_most_from (word v) s _ (subst (Below (call_at m t' n d u at (number_of p n0 k) (x ∷ y ∷ []) s)) (helper_call k far d u at x y v s (omega arith) room r) b)

  kind_same : (g : Function) (v : Variable) → kind_in t g v ≡ kind_in t' (low g) v
  kind_same g (variable.Static x) = refl
  kind_same g (variable.Parameter x) = refl
  kind_same g (variable.Local x) = refl

  world_same : (g : Function) (calls : Calls) → (record { bits = m.bits; kind = kind_in t g; call = calls }) ≡ world m t' calls (low g)
  world_same g calls = λ i. record { bits = m.bits; kind = λ v. kind_same g v i; call = calls }

  entered_rel : (way : Way) (b : Bool) (q r : Part Value) → (b ≡ false → Rel way q r) → Rel way (entered b q) (entered b r)
  entered_rel way true q r e = fails_rel way _ _ _
  entered_rel way false q r e = e refl

  abbrev lowered_entry : ℕ → ℕ → ℕ → At → Function → List ℕ → State → ℕ → Part Value
  lowered_entry n d used at g vs s k = entered (nat_lt m.stack (256 + (used + k))) (then_do ((execution (world m t' (call_at m t' n d (used + k)) (low g)) n (low g).body).does (inside vs s)) (back (is_main g) at s))

  body_rel : (way : Way) (n d used : ℕ) (at : At) (g : Function) (vs : List ℕ) (s : State) → Ready way n
      → ((u : ℕ) → Calls_rel way (call_at m t n d u) (call_at m t' n (deeper way d) u))
      → Rel way (enter (Some g) m used (λ h. (execution (world m t (call_at m t n d (used + m.takes g)) h) n h.body).does) at vs s) (lowered_entry n (deeper way d) used at g vs s (m.takes g))
  body_rel way n d used at g vs s ready ih =
      let u = used + m.takes g in
      let calls = call_at m t' n (deeper way d) u in
      let c = world m t (call_at m t n d u) g in
      entered_rel way (nat_lt m.stack (256 + u)) _ _
      (λ room. then_rel way _ _ _ _
      (subst (λ w. Rel way ((execution c n g.body).does (inside vs s)) ((execution w n (low g).body).does (inside vs s))) (world_same g calls)
      ((lowers_stat way p n0 c calls (ih u) (helps way n d u ready room) n g.body).does (inside vs s)))
      (λ r s1. same_rel way _))

  call_by : (way : Way) (n d used : ℕ) (at : At) (f : ℕ) (vs : List ℕ) (s : State) (o : Option Function) → slice_get t.functions f ≡ o → Ready way n
      → ((u : ℕ) → Calls_rel way (call_at m t n d u) (call_at m t' n (deeper way d) u))
      → Rel way (call_at m t n (suc d) used at f vs s) (call_at m t' n (suc (deeper way d)) used at f vs s)
  call_by way n d used at f vs s None e ready ih =
      subst (λ q. Rel way q (call_at m t' n (suc (deeper way d)) used at f vs s))
      (sym (ap (λ g. enter g m used (λ h. (execution (world m t (call_at m t n d (used + taken m g)) h) n h.body).does) at vs s) e)) (fails_rel way _ _ _)
  call_by way n d used at f vs s (Some g) e ready ih =
      let source = ap (λ g. enter g m used (λ h. (execution (world m t (call_at m t n d (used + taken m g)) h) n h.body).does) at vs s) e in
      let target = ap (λ g. enter g m used (λ h. (execution (world m t' (call_at m t' n (deeper way d) (used + taken m g)) h) n h.body).does) at vs s) (kept low t.functions (helpers m.bits p) f g e) in
      let takes = ap (lowered_entry n (deeper way d) used at g vs s) (fair.lowered p n0 g) in
      subst (λ q. Rel way q (call_at m t' n (suc (deeper way d)) used at f vs s)) (sym source)
      (subst (Rel way (enter (Some g) m used (λ h. (execution (world m t (call_at m t n d (used + m.takes g)) h) n h.body).does) at vs s)) (sym (target ∙ takes))
      (body_rel way n d used at g vs s ready ih))

  cut_rel : (way : Way) (n used : ℕ) (at : At) (f : ℕ) (vs : List ℕ) (s : State) → Rel way (call_at m t n zero used at f vs s) (call_at m t' n (deeper way zero) used at f vs s)
  cut_rel at_least n used at f vs s = record { goes = prefix_nil _ }
  cut_rel at_most n used at f vs s = same_rel at_most _

  pub call_rel : (way : Way) (n : ℕ) → Ready way n → (d used : ℕ) → Calls_rel way (call_at m t n d used) (call_at m t' n (deeper way d) used)
  call_rel way n ready zero used at f vs s = cut_rel way n used at f vs s
  call_rel way n ready (suc d) used at f vs s =
      subst (λ e. Rel way (call_at m t n (suc d) used at f vs s) (call_at m t' n e used at f vs s)) (sym (deeper_suc way d))
      (call_by way n d used at f vs s (slice_get t.functions f) refl ready (λ u. call_rel way n ready d u))
