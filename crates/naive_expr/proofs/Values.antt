-- What each node of an expression appends, from what its parts do.
use Rattle.std.proofs.Common.{◌≡◌, ℕ, ◌+◌, List, [], ◌∷◌, ◌++◌, refl, sym, ap, ◌∙◌, map, append-nil, arith, Result, Ok, Err}
use Rattle.std.specs.Prelude.{IfOk}
use denote.Hole.Carrier
use Rattle.rtl_word.specs.declared.Rel.{Rel}
use Rattle.c_tree.specs.declared.types.CType.{CType}
use Rattle.c_tree.specs.declared.syntax.StepOperator.{StepOperator}
use Rattle.c_tree.specs.declared.typed.Operation.{Operation}
use Rattle.c_tree.specs.declared.typed.Head.{Head}
use Rattle.c_tree.specs.declared.typed.Callee.{Callee}
use Rattle.c_tree.specs.declared.typed.Callee.TheVariants as callee
use Rattle.c_tree.specs.declared.typed.TypedExpr.{TypedExpr}
use Rattle.c_tree.specs.declared.typed.TypedExpr.TheVariants as tree
use Rattle.c_tree.specs.declared.typed.TypedExpr.TheOpen as expr
use Rattle.c_tree.specs.declared.typed.TypedExpr.TheViews.{roll-TypedExpr}
use Rattle.c_tree.specs.declared.typed.TypedExpr.TheFolds.{fold-roll-TypedExpr}
use Rattle.c_limits.specs.Frames.{word_bytes}
use Rattle.naive_code.specs.Operations.{Op, Close, Meet, Branches, Calls, constant, copy, operate, read_result, set_result, put_output}
use Rattle.naive_code.specs.Expressions.{Value, Designated, object, element, nowhere, opened, settled, beside, compound, combined, operation_labels, got_from, put_into, narrowed, stepped_before, stepped_after, step_operator, relation_if, compared, joined, then_on, settled_in, arguments, results_of, stored_from, called, call_of, Naive, Site, naive, naive_node}
use Rattle.naive_expr.specs.declared.emission.Emitter.{Emitter}
use Rattle.naive_expr.specs.declared.emission.Jump.{Jump}
use Rattle.naive_expr.specs.declared.places.Opened.{Opened}
use Rattle.naive_expr.specs.Seen.{storage_of}
use Rattle.naive_expr.specs.Emitted.{Adds, Brings, Decides}
use Rattle.naive_expr.specs.Opened.{is_element, beside_by, settled_by, settled_in_by, IsOpened}
use Rattle.naive_expr.specs.Operands.{values_of}
use Rattle.naive_expr.proofs.Adding.{adds_then, adds_as}

-- ---- opened places

beside_is : (p : Designated) → beside_by (is_element p) ≡ beside p
beside_is (object s) = refl
beside_is (element s i) = refl
beside_is nowhere = refl

settled_is : (p : Designated) (a v : ℕ) → settled_by (is_element p) a v ≡ settled p a v
settled_is (object s) a v = refl
settled_is (element s i) a v = refl
settled_is nowhere a v = refl

settled_in_is : (p : Designated) (a v : ℕ) → settled_in_by (is_element p) a v ≡ settled_in p a v
settled_in_is (object s) a v = refl
settled_in_is (element s i) a v = refl
settled_in_is nowhere a v = refl

-- how deep a value beside a place stands
depth_beside : (o : Opened) (p : Designated) (t d e : ℕ) → IsOpened o p t → e ≡ d + beside_by o.is_element → e ≡ d + beside p
depth_beside o p t d e h is = is ∙ ap (λ n. d + n) (ap beside_by h.element ∙ beside_is p)

settles : (o : Opened) (p : Designated) (t v : ℕ) → IsOpened o p t → settled_by o.is_element o.at v ≡ settled p ((opened p).result t) v
settles o p t v h = ap (λ x. settled_by x o.at v) h.element ∙ (settled_is p o.at v ∙ ap (λ a. settled p a v) h.at)

settles_in : (o : Opened) (p : Designated) (t v : ℕ) → IsOpened o p t → settled_in_by o.is_element o.at v ≡ settled_in p ((opened p).result t) v
settles_in o p t v h = ap (λ x. settled_in_by x o.at v) h.element ∙ (settled_in_is p o.at v ∙ ap (λ a. settled_in p a v) h.at)

-- ---- assignments

pub compound_adds : (s s0 s1 s2 s3 s4 s5 s6 s7 s8 s9 : Emitter) (bytes n label : ℕ) (operation : Operation) (of by : CType) (p : Designated) (b : Value) (o : Opened) (d e value operand spare : ℕ)
    → Adds s s0 [] [] 0 n → n ≡ operation_labels operation → label ≡ s.next_label
    → Brings s0 s1 (opened p) d → IsOpened o p s0.next_temp → e ≡ d + beside_by o.is_element
    → Adds s1 s2 [] (e ∷ (e + 1) ∷ []) 2 0 → value ≡ s1.next_temp
    → Adds s2 s3 (got_from (storage_of o.storage) value o.at (value + 1)) [] 0 0
    → Brings s3 s4 b (e + 1) → operand ≡ b.result s3.next_temp
    → Adds s4 s5 [] ((e + 1) ∷ (e + 1) ∷ []) 2 0 → spare ≡ s4.next_temp
    → Adds s5 s6 (combined bytes operation of by value operand label) [] 0 0
    → Adds s6 s7 (narrowed of value spare) [] 0 0
    → Adds s7 s8 (put_into (storage_of o.storage) o.at value (spare + 1)) [] 0 0
    → Adds s8 s9 (settled_by o.is_element o.at value) [] 0 0
    → Brings s s9 (compound bytes operation of p by b) d
compound_adds s s0 s1 s2 s3 s4 s5 s6 s7 s8 s9 bytes n label operation of by p b o d e value operand spare hl hn is_label ho io he hf hv hg hb hr hf2 hs hc hw hp ht =
    let depth = depth_beside o p s0.next_temp d e io he in
    let settle = settles o p s0.next_temp value io in
    let storage = io.storage in
    let at = io.at in
    let temp0 : s0.next_temp ≡ s.next_temp = omega (arith, hl.temp) in
    let label0 : s0.next_label ≡ s.next_label + operation_labels operation = hl.label ∙ ap (λ k. s.next_label + k) hn in
    let temp1 : s1.next_temp ≡ s.next_temp + (opened p).temps = ho.temp ∙ ap (λ k. k + (opened p).temps) temp0 in
    let temp3 : s3.next_temp ≡ s.next_temp + (opened p).temps + 2 = omega (arith, temp1, hf.temp, hg.temp) in
    let label3 : s3.next_label ≡ s.next_label + operation_labels operation + (opened p).labels = omega (arith, label0, ho.label, hf.label, hg.label) in
    let temp4 = hb.temp in
    let ops : (opened p).ops s0.next_temp s0.next_label ++ (got_from (storage_of o.storage) value o.at (value + 1) ++ (b.ops s3.next_temp s3.next_label
    ++ (combined bytes operation of by value operand label ++ (narrowed of value spare ++ (put_into (storage_of o.storage) o.at value (spare + 1) ++ settled_by o.is_element o.at value)))))
    ≡ (compound bytes operation of p by b).ops s.next_temp s.next_label = cc in
    let depths : (opened p).depths d ++ (e ∷ (e + 1) ∷ (b.depths (e + 1) ++ (e + 1) ∷ (e + 1) ∷ [])) ≡ (compound bytes operation of p by b).depths d = cc in
    adds_as ops depths (omega arith) (omega (arith, hn))
    (adds_then hl (adds_then ho (adds_then hf (adds_then hg (adds_then hb (adds_then hf2 (adds_then hc (adds_then hw (adds_then hp ht)))))))))

pub compound_at : (s s0 s1 : Emitter) (bytes n : ℕ) (operation : Operation) (of by : CType) (p : Designated) (b : Value) (o : Opened) (d value r : ℕ)
    → Adds s s0 [] [] 0 n → Brings s0 s1 (opened p) d → IsOpened o p s0.next_temp → value ≡ s1.next_temp → r ≡ settled_in_by o.is_element o.at value
    → r ≡ (compound bytes operation of p by b).result s.next_temp
compound_at s s0 s1 bytes n operation of by p b o d value r hl ho io hv hr =
    let temp0 : s0.next_temp ≡ s.next_temp = omega (arith, hl.temp) in
    let settle = settles_in o p s0.next_temp value io in
    let temp1 = ho.temp in
    cc

-- ---- steps

pub before_adds : (s s1 s2 s3 s4 s5 s6 : Emitter) (operator : StepOperator) (of : CType) (p : Designated) (o : Opened) (d e value : ℕ)
    → Brings s s1 (opened p) d → IsOpened o p s.next_temp → e ≡ d + beside_by o.is_element
    → Adds s1 s2 [] (e ∷ (e + 1) ∷ (e + 1) ∷ (e + 1) ∷ (e + 1) ∷ []) 5 0 → value ≡ s1.next_temp
    → Adds s2 s3 (got_from (storage_of o.storage) value o.at (value + 1)) [] 0 0
    → Adds s3 s4 (constant (value + 2) 1 ∷ operate (step_operator operator) value (value + 2) ∷ narrowed of value (value + 2 + 1)) [] 0 0
    → Adds s4 s5 (put_into (storage_of o.storage) o.at value (value + 4)) [] 0 0
    → Adds s5 s6 (settled_by o.is_element o.at value) [] 0 0
    → Brings s s6 (stepped_before operator of p) d
before_adds s s1 s2 s3 s4 s5 s6 operator of p o d e value ho io he hf hv hg hx hp ht =
    let depth = depth_beside o p s.next_temp d e io he in
    let settle = settles o p s.next_temp value io in
    let storage = io.storage in
    let at = io.at in
    let temp1 = ho.temp in
    let third : value + 2 + 1 ≡ value + 3 = omega arith in
    let ops : (opened p).ops s.next_temp s.next_label ++ (got_from (storage_of o.storage) value o.at (value + 1) ++ constant (value + 2) 1 ∷ operate (step_operator operator) value (value + 2)
    ∷ (narrowed of value (value + 2 + 1) ++ (put_into (storage_of o.storage) o.at value (value + 4) ++ settled_by o.is_element o.at value)))
    ≡ (stepped_before operator of p).ops s.next_temp s.next_label = cc in
    let depths : (opened p).depths d ++ (e ∷ (e + 1) ∷ (e + 1) ∷ (e + 1) ∷ (e + 1) ∷ []) ≡ (stepped_before operator of p).depths d = cc in
    adds_as ops depths (omega arith) (omega arith) (adds_then ho (adds_then hf (adds_then hg (adds_then hx (adds_then hp ht)))))

pub after_adds : (s s1 s2 s3 s4 s5 s6 s7 : Emitter) (operator : StepOperator) (of : CType) (p : Designated) (o : Opened) (d e old : ℕ)
    → Brings s s1 (opened p) d → IsOpened o p s.next_temp → e ≡ d + beside_by o.is_element
    → Adds s1 s2 [] (e ∷ (e + 1) ∷ (e + 1) ∷ (e + 2) ∷ (e + 2) ∷ (e + 2) ∷ []) 6 0 → old ≡ s1.next_temp
    → Adds s2 s3 (got_from (storage_of o.storage) old o.at (old + 1)) [] 0 0
    → Adds s3 s4 (copy (old + 2) old ∷ []) [] 0 0
    → Adds s4 s5 (constant (old + 3) 1 ∷ operate (step_operator operator) (old + 2) (old + 3) ∷ narrowed of (old + 2) (old + 3 + 1)) [] 0 0
    → Adds s5 s6 (put_into (storage_of o.storage) o.at (old + 2) (old + 5)) [] 0 0
    → Adds s6 s7 (settled_by o.is_element o.at old) [] 0 0
    → Brings s s7 (stepped_after operator of p) d
after_adds s s1 s2 s3 s4 s5 s6 s7 operator of p o d e old ho io he hf hv hg hy hx hp ht =
    let depth = depth_beside o p s.next_temp d e io he in
    let settle = settles o p s.next_temp old io in
    let storage = io.storage in
    let at = io.at in
    let temp1 = ho.temp in
    let fourth : old + 3 + 1 ≡ old + 4 = omega arith in
    let ops : (opened p).ops s.next_temp s.next_label ++ (got_from (storage_of o.storage) old o.at (old + 1) ++ copy (old + 2) old ∷ constant (old + 3) 1 ∷ operate (step_operator operator) (old + 2) (old + 3)
    ∷ (narrowed of (old + 2) (old + 3 + 1) ++ (put_into (storage_of o.storage) o.at (old + 2) (old + 5) ++ settled_by o.is_element o.at old)))
    ≡ (stepped_after operator of p).ops s.next_temp s.next_label = cc in
    let depths : (opened p).depths d ++ (e ∷ (e + 1) ∷ (e + 1) ∷ (e + 2) ∷ (e + 2) ∷ (e + 2) ∷ []) ≡ (stepped_after operator of p).depths d = cc in
    adds_as ops depths (omega arith) (omega arith) (adds_then ho (adds_then hf (adds_then hg (adds_then hy (adds_then hx (adds_then hp ht))))))

-- ---- two operands

pub joined_adds : (s s1 s2 s3 : Emitter) (a b : Value) (os : ℕ → ℕ → List Op) (d x y : ℕ) → Brings s s1 a d → x ≡ a.result s.next_temp → Brings s1 s2 b (d + 1) → y ≡ b.result s1.next_temp
    → Adds s2 s3 (os x y) [] 0 0 → Brings s s3 (joined a b os) d
joined_adds s s1 s2 s3 a b os d x y ha hx hb hy ho =
    let temp1 = ha.temp in
    let label1 = ha.label in
    adds_as (let same : a.ops s.next_temp s.next_label ++ (b.ops s1.next_temp s1.next_label ++ os x y) ≡ (joined a b os).ops s.next_temp s.next_label = cc in same)
    (ap (λ z. a.depths d ++ z) (append-nil (b.depths (d + 1)))) (omega arith) (omega arith)
    (adds_then ha (adds_then hb ho))

pub compared_adds : (s s1 s2 s3 : Emitter) (r : Rel) (a b : Value) (j : Jump) (d x y : ℕ) → Brings s s1 a d → x ≡ a.result s.next_temp → Brings s1 s2 b (d + 1) → y ≡ b.result s1.next_temp
    → Adds s2 s3 (Close (Branches (relation_if j.sense r) x y j.target) j.next ∷ []) [] 0 0 → Decides s s3 (compared r a b) j d
compared_adds s s1 s2 s3 r a b j d x y ha hx hb hy ho =
    let temp1 = ha.temp in
    let label1 = ha.label in
    adds_as (let same : a.ops s.next_temp s.next_label ++ (b.ops s1.next_temp s1.next_label ++ Close (Branches (relation_if j.sense r) x y j.target) j.next ∷ []) ≡ (compared r a b).ops j.sense j.target j.next s.next_temp s.next_label = cc in same)
    (ap (λ z. a.depths d ++ z) (append-nil (b.depths (d + 1)))) (omega arith) (omega arith)
    (adds_then ha (adds_then hb ho))

-- ---- one operand

pub changed_adds : (s s1 s2 s3 : Emitter) (a : Value) (n : ℕ) (depths : ℕ → List ℕ) (os : ℕ → ℕ → List Op) (d x t : ℕ) → Brings s s1 a d → x ≡ a.result s.next_temp
    → Adds s1 s2 [] (depths d) n 0 → t ≡ s1.next_temp → Adds s2 s3 (os x t) [] 0 0 → Brings s s3 (then_on a n depths os) d
changed_adds s s1 s2 s3 a n depths os d x t ha hx hf ht ho =
    let temp1 = ha.temp in
    adds_as (let same : a.ops s.next_temp s.next_label ++ os x t ≡ (then_on a n depths os).ops s.next_temp s.next_label = cc in same)
    (ap (λ z. a.depths d ++ z) (append-nil (depths d))) (omega arith) (omega arith) (adds_then ha (adds_then hf ho))

-- ---- calls

pub called_adds : (s s0 s1 s2 : Emitter) (bytes f label d : ℕ) (es : List Value) (results : List ℕ) → Adds s s0 [] [] 0 1 → label ≡ s.next_label → Brings s0 s1 (arguments es) d
    → results ≡ results_of es s0.next_temp → Adds s1 s2 (stored_from bytes 0 results ++ Close (Calls f) label ∷ read_result s1.next_temp ∷ []) (d ∷ []) 1 0 → Brings s s2 (called bytes f es) d
called_adds s s0 s1 s2 bytes f label d es results hl is ha hr hc =
    let temp0 : s0.next_temp ≡ s.next_temp = omega (arith, hl.temp) in
    let label0 = hl.label in
    let temp1 : s1.next_temp ≡ s.next_temp + (arguments es).temps = ha.temp ∙ ap (λ k. k + (arguments es).temps) temp0 in
    adds_as (let same : (arguments es).ops s0.next_temp s0.next_label ++ (stored_from bytes 0 results ++ Close (Calls f) label ∷ read_result s1.next_temp ∷ []) ≡ (called bytes f es).ops s.next_temp s.next_label = cc in same)
    refl (omega arith) (omega arith) (adds_then hl (adds_then ha hc))

module _ (c : Site) where
  -- a fold of a call
  call_is : (h : Head) (f : Callee) (es : List TypedExpr) → naive c (tree.Call h f es) ≡ naive_node c (expr.Call h f (map (naive c) es))
  unfolding roll-TypedExpr denote.Hole.Carrier.roll
  call_is h f es = fold-roll-TypedExpr Naive (naive_node c) (expr.Call h f es)

  values_are : (es : List TypedExpr) → map (λ (e : Naive). e.value) (map (naive c) es) ≡ values_of c es
  values_are [] = refl
  values_are (e ∷ es) = ap (λ vs. (naive c e).value ∷ vs) (values_are es)

  pub call_value : (e : TypedExpr) (h : Head) (f : Callee) (es fs : List TypedExpr) → e ≡ tree.Call h f es → fs ≡ es → call_of (word_bytes c.bits) f (values_of c fs) ≡ (naive c e).value
  call_value e h f es fs is same =
      ap (λ xs. call_of (word_bytes c.bits) f (values_of c xs)) same
      ∙ (ap (call_of (word_bytes c.bits) f) (sym (values_are es)) ∙ sym (ap (λ (x : TypedExpr). (naive c x).value) is ∙ ap (λ (n : Naive). n.value) (call_is h f es)))

  -- `putchar` of its argument
  pub put_value : (e : TypedExpr) (es rest : List TypedExpr) (f : Callee) → es ≡ e ∷ rest → f ≡ callee.Putchar
      → then_on (naive c e).value 1 (λ d. (d + 1) ∷ []) (λ v t. set_result v ∷ put_output ∷ constant t 255 ∷ Meet v t ∷ []) ≡ call_of (word_bytes c.bits) f (values_of c es)
  put_value e es rest f is put =
      sym (ap (λ g. call_of (word_bytes c.bits) g (values_of c es)) put ∙ ap (λ xs. call_of (word_bytes c.bits) callee.Putchar (values_of c xs)) is)

-- ---- what is given where there is memory

pub if_ok_then : {A E : Type 0} (P Q : A → Type 0) (r : Result A E) → ((x : A) → P x → Q x) → IfOk r P → IfOk r Q
if_ok_then P Q (Ok x) f p = f x p
if_ok_then P Q (Err e) f p = tt
