-- What stands at which place of a linked program.
use Rattle.std.proofs.Common.{◌≡◌, ℕ, zero, suc, ◌+◌, ◌<◌, ◌≤◌, ◌==◌, Bool, true, false, cond, List, [], ◌∷◌, ◌++◌, length, drop, Option, Some, refl, sym, ap, ◌∙◌, subst, arith, inl, inr, append_assoc}
use Rattle.std.specs.Prelude.{slice_get, ◌⊎◌}
use Rattle.std.proofs.lemmas.Bool.{eqb-true, eq-eqb}
use Rattle.std.proofs.lemmas.List.{drop-drop, length-append}
use Rattle.rtl_tree.specs.declared.cells.Lab.{Lab}
use Rattle.rtl_tree.specs.declared.cells.Lab.TheVariants.{Block, Function}
use Rattle.temp_machine.specs.Routines.{BasicBlock, Routine, Target}
use Rattle.temp_machine.specs.Machine.{position}
use Rattle.link_code.proofs.Memory.{true_false}
use Rattle.link_code.specs.Linked.{Transfer, Job, Glue, stands, entry, block_lines, lines_of, offset, code_lines, code, all_lines, start_lines, program, before, function_place, block_place}
use Rattle.link_code.proofs.Labels.{label_in, listed, label_place}
use Rattle.link_code.specs.Runs.{Stands, IsLinkable}

head_of : Transfer → List Transfer → Transfer
head_of d [] = d
head_of d (x ∷ xs) = x

abbrev tail_of : List Transfer → List Transfer
tail_of [] = []
tail_of (x ∷ xs) = xs

pub drop_get : (p : ℕ) (zs : List Transfer) (x : Transfer) (ys : List Transfer) → drop p zs ≡ x ∷ ys → slice_get zs p ≡ Some x
drop_get zero [] x ys e = absurd (grind (arith, e))
drop_get zero (z ∷ zs) x ys e = let h : z ≡ x = cc in ap Some h
drop_get (suc p) [] x ys e = absurd (grind (arith, e))
drop_get (suc p) (z ∷ zs) x ys e = drop_get p zs x ys e

pub drop_next : (p : ℕ) (zs : List Transfer) (x : Transfer) (ys : List Transfer) → drop p zs ≡ x ∷ ys → drop (suc p) zs ≡ ys
drop_next zero [] x ys e = absurd (grind (arith, e))
drop_next zero (z ∷ zs) x ys e = ap tail_of e
drop_next (suc p) [] x ys e = absurd (grind (arith, e))
drop_next (suc p) (z ∷ zs) x ys e = drop_next p zs x ys e

pub get_short : (p : ℕ) (zs : List Transfer) (x : Transfer) → slice_get zs p ≡ Some x → p < length zs
get_short p [] x e = absurd (grind (arith, e))
get_short zero (z ∷ zs) x e = omega arith
get_short (suc p) (z ∷ zs) x e = let h = get_short p zs x e in omega (arith, h)

pub drop_append : (xs ys : List Transfer) (n : ℕ) → drop (length xs + n) (xs ++ ys) ≡ drop n ys
drop_append [] ys n = let e : 0 + n ≡ n = omega arith in ap (λ k. drop k ys) e
drop_append (x ∷ xs) ys n = let e : length (x ∷ xs) + n ≡ suc (length xs + n) = omega arith in ap (λ k. drop k (x ∷ (xs ++ ys))) e ∙ drop_append xs ys n

module _ (t : Target) (g : Glue) (l : Option ℕ) (c : Routine) where
  pub offset_zero : (bs : List BasicBlock) → offset t g l c bs 0 ≡ 0
  offset_zero [] = refl
  offset_zero (b ∷ bs) = refl

  pub block_at : (bs : List BasicBlock) (k : ℕ) (b : BasicBlock) (after : List Transfer) → slice_get bs k ≡ Some b
      → (rest : List Transfer) × (drop (offset t g l c bs k) (lines_of t g l c bs ++ after) ≡ block_lines t g l c b ++ rest) × (offset t g l c bs (suc k) ≡ offset t g l c bs k + length (block_lines t g l c b))
  block_at [] k b after e = absurd (grind (arith, e))
  block_at (x ∷ xs) zero b after e =
      let is : x ≡ b = cc in
      subst (λ y. (rest : List Transfer) × (block_lines t g l c x ++ lines_of t g l c xs ++ after ≡ block_lines t g l c y ++ rest) × (length (block_lines t g l c x) + offset t g l c xs 0 ≡ 0 + length (block_lines t g l c y))) is
      (lines_of t g l c xs ++ after, append_assoc (block_lines t g l c x) (lines_of t g l c xs) after, (let z = offset_zero xs in omega (arith, z)))
  block_at (x ∷ xs) (suc k) b after e =
      let h = block_at xs k b after e in (
        h.0,
        ap (drop (length (block_lines t g l c x) + offset t g l c xs k)) (append_assoc (block_lines t g l c x) (lines_of t g l c xs) after) ∙ drop_append (block_lines t g l c x) (lines_of t g l c xs ++ after) (offset t g l c xs k) ∙ h.1,
        (let n = h.2 in omega (arith, n)),
      )

module _ (j : Job) where
  -- these lines stand at the place, and after them comes `next`
  pub record Here (p : ℕ) (xs : List Transfer) (next : ℕ) : Type 0 where
    pub tail : List Transfer
    pub is : drop p (program j) ≡ xs ++ tail
    pub ends : p + length xs ≡ next

  pub here_get : (p : ℕ) (x : Transfer) (xs : List Transfer) (next : ℕ) → Here p (x ∷ xs) next → slice_get (program j) p ≡ Some x
  here_get p x xs next h = drop_get p (program j) x (xs ++ h.tail) h.is

  pub here_next : (p : ℕ) (x : Transfer) (xs : List Transfer) (next : ℕ) → Here p (x ∷ xs) next → Here (suc p) xs next
  here_next p x xs next h = record { tail = h.tail; is = drop_next p (program j) x (xs ++ h.tail) h.is; ends = (let e = h.ends in omega (arith, e)) }

  pub here_last : (p : ℕ) (x : Transfer) (next : ℕ) → Here p (x ∷ []) next → suc p ≡ next
  here_last p x next h = let e = h.ends in omega (arith, e)

  pub here_done : (p : ℕ) (next : ℕ) → Here p [] next → p ≡ next
  here_done p next h = let e = h.ends in omega (arith, e)

  pub here_short : (p : ℕ) (x : Transfer) (xs : List Transfer) (next : ℕ) → Here p (x ∷ xs) next → p < length (program j)
  here_short p x xs next h = get_short p (program j) x (here_get p x xs next h)

  function_at : (gs : List ℕ) (f : ℕ) → Stands f gs → (rest : List Transfer) × (drop (before j gs f) (all_lines j gs) ≡ code_lines j.t j.glue j.t.link (code j f) ++ rest)
  function_at [] f s = absurd s
  function_at (g ∷ gs) f s = by (λ r. function_at gs f r) (g == f) refl s
    where
      by : (Stands f gs → (rest : List Transfer) × (drop (before j gs f) (all_lines j gs) ≡ code_lines j.t j.glue j.t.link (code j f) ++ rest)) → (b : Bool) → (g == f) ≡ b → (g ≡ f) ⊎ Stands f gs
          → (rest : List Transfer) × (drop (cond {A = ℕ} b 0 (length (code_lines j.t j.glue j.t.link (code j g)) + before j gs f)) (code_lines j.t j.glue j.t.link (code j g) ++ all_lines j gs) ≡ code_lines j.t j.glue j.t.link (code j f) ++ rest)
      by go true e s = (all_lines j gs, ap (λ x. code_lines j.t j.glue j.t.link (code j x) ++ all_lines j gs) (eqb-true g f e))
      by go false e (inl q) = true_false (sym (eq-eqb g f q) ∙ e)
      by go false e (inr r) = let h = go r in (h.0, drop_append (code_lines j.t j.glue j.t.link (code j g)) (all_lines j gs) (before j gs f) ∙ h.1)

  function_here : (f : ℕ) → Stands f j.order → (rest : List Transfer) × (drop (function_place j f) (program j) ≡ code_lines j.t j.glue j.t.link (code j f) ++ rest)
  function_here f s =
      let h = function_at j.order f s in
      let e : 3 + before j j.order f ≡ suc (suc (suc (before j j.order f))) = omega arith in
      (h.0, ap (λ k. drop k (program j)) e ∙ h.1)

  pub entry_here : (f : ℕ) → Stands f j.order → Here (function_place j f) (entry j.t j.glue j.t.link (code j f)) (block_place j f 0)
  entry_here f s =
      let h = function_here f s in
      record {
        tail = lines_of j.t j.glue j.t.link (code j f) (code j f).blocks ++ h.0;
        is = h.1 ∙ append_assoc (entry j.t j.glue j.t.link (code j f)) (lines_of j.t j.glue j.t.link (code j f) (code j f).blocks) (h.0);
        ends = (let z = offset_zero j.t j.glue j.t.link (code j f) (code j f).blocks in omega (arith, z));
      }

  pub block_here : (f : ℕ) → Stands f j.order → (k : ℕ) (b : BasicBlock) → slice_get (code j f).blocks k ≡ Some b → Here (block_place j f k) (block_lines j.t j.glue j.t.link (code j f) b) (block_place j f (suc k))
  block_here f s k b e =
      let h = function_here f s in
      let g = block_at j.t j.glue j.t.link (code j f) (code j f).blocks k b (h.0) e in
      let n = offset j.t j.glue j.t.link (code j f) (code j f).blocks k in
      let ent = entry j.t j.glue j.t.link (code j f) in
      let lines = lines_of j.t j.glue j.t.link (code j f) (code j f).blocks in
      let at_lines : drop (function_place j f + length ent) (program j) ≡ lines ++ h.0 =
      sym (drop-drop (length ent) (function_place j f) (program j)) ∙ ap (drop (length ent)) (h.1 ∙ append_assoc ent lines (h.0)) ∙ (let z : length ent ≡ length ent + 0 = omega arith in ap (λ i. drop i (ent ++ (lines ++ h.0))) z ∙ drop_append ent (lines ++ h.0) 0) in
      record {
        tail = g.0;
        is = sym (drop-drop n (function_place j f + length ent) (program j)) ∙ ap (drop n) at_lines ∙ g.1;
        ends = (let m = g.2 in omega (arith, m));
      }

  pub start_here : Here 0 (start_lines j) 3
  start_here = record { tail = all_lines j j.order; is = refl; ends = omega arith }

  -- the place of a label is that in its own code
  module _ (is : IsLinkable j) (f l : ℕ) (mine : Stands f j.order) (own : stands (code j f).blocks l ≡ true) where
    label_found : (gs : List ℕ) → ((g : ℕ) → Stands g gs → Stands g j.order) → Stands f gs → label_in j gs l ≡ block_place j f (position (code j f).blocks l 0)
    label_found [] all s = absurd s
    label_found (g ∷ gs) all s = by (λ r. label_found gs (λ h i. all h (inr i)) r) (stands (code j g).blocks l) refl s
      where
        by : (Stands f gs → label_in j gs l ≡ block_place j f (position (code j f).blocks l 0)) → (b : Bool) → stands (code j g).blocks l ≡ b → (g ≡ f) ⊎ Stands f gs
            → cond b (block_place j g (position (code j g).blocks l 0)) (label_in j gs l) ≡ block_place j f (position (code j f).blocks l 0)
        by go true e s = ap (λ x. block_place j x (position (code j x).blocks l 0)) (is.apart g f l (all g (inl refl)) mine e own)
        by go false e (inl q) = true_false (sym (ap (λ x. stands (code j x).blocks l) q ∙ own) ∙ e)
        by go false e (inr r) = go r

    pub label_own : label_in j j.order l ≡ block_place j f (position (code j f).blocks l 0)
    label_own = label_found j.order (λ g s. s) mine

  -- no place lies past the end of the program
  after_start : length (program j) ≡ 3 + length (all_lines j j.order)
  after_start = omega arith

  offset_short : (f : ℕ) (bs : List BasicBlock) (k : ℕ) → offset j.t j.glue j.t.link (code j f) bs k ≤ length (lines_of j.t j.glue j.t.link (code j f) bs)
  offset_short f [] zero = omega arith
  offset_short f [] (suc k) = omega arith
  offset_short f (b ∷ bs) zero = omega arith
  offset_short f (b ∷ bs) (suc k) =
      let e = length-append (block_lines j.t j.glue j.t.link (code j f) b) (lines_of j.t j.glue j.t.link (code j f) bs) in let h = offset_short f bs k in omega (arith, e, h)

  before_any : (gs : List ℕ) (f : ℕ) → before j gs f ≤ length (all_lines j gs)
  before_any [] f = omega arith
  before_any (g ∷ gs) f = by (before_any gs f) (g == f)
    where
      by : before j gs f ≤ length (all_lines j gs) → (b : Bool) → cond {A = ℕ} b 0 (length (code_lines j.t j.glue j.t.link (code j g)) + before j gs f) ≤ length (code_lines j.t j.glue j.t.link (code j g) ++ all_lines j gs)
      by h true = omega arith
      by h false = let e = length-append (code_lines j.t j.glue j.t.link (code j g)) (all_lines j gs) in omega (arith, e, h)

  before_short : (gs : List ℕ) (f : ℕ) → Stands f gs → before j gs f + length (code_lines j.t j.glue j.t.link (code j f)) ≤ length (all_lines j gs)
  before_short [] f s = absurd s
  before_short (g ∷ gs) f s = by (λ r. before_short gs f r) (g == f) refl s
    where
      by : (Stands f gs → before j gs f + length (code_lines j.t j.glue j.t.link (code j f)) ≤ length (all_lines j gs)) → (b : Bool) → (g == f) ≡ b → (g ≡ f) ⊎ Stands f gs
          → cond {A = ℕ} b 0 (length (code_lines j.t j.glue j.t.link (code j g)) + before j gs f) + length (code_lines j.t j.glue j.t.link (code j f)) ≤ length (code_lines j.t j.glue j.t.link (code j g) ++ all_lines j gs)
      by go true e s =
          let n = length-append (code_lines j.t j.glue j.t.link (code j g)) (all_lines j gs) in
          let i : length (code_lines j.t j.glue j.t.link (code j g)) ≡ length (code_lines j.t j.glue j.t.link (code j f)) = ap (λ x. length (code_lines j.t j.glue j.t.link (code j x))) (eqb-true g f e) in
          omega (arith, n, i)
      by go false e (inl q) = true_false (sym (eq-eqb g f q) ∙ e)
      by go false e (inr r) = let n = length-append (code_lines j.t j.glue j.t.link (code j g)) (all_lines j gs) in let h = go r in omega (arith, n, h)

  pub place_short : (f k : ℕ) → Stands f j.order → block_place j f k ≤ length (program j)
  place_short f k s =
      let a = after_start in
      let b = before_short j.order f s in
      let o = offset_short f (code j f).blocks k in
      let e = length-append (entry j.t j.glue j.t.link (code j f)) (lines_of j.t j.glue j.t.link (code j f) (code j f).blocks) in
      omega (arith, a, b, o, e)

  label_short : (gs : List ℕ) (l : ℕ) → ((g : ℕ) → Stands g gs → Stands g j.order) → label_in j gs l ≤ length (program j)
  label_short [] l all = omega arith
  label_short (g ∷ gs) l all = by (label_short gs l (λ h i. all h (inr i))) (stands (code j g).blocks l)
    where
      by : label_in j gs l ≤ length (program j) → (b : Bool) → cond b (block_place j g (position (code j g).blocks l 0)) (label_in j gs l) ≤ length (program j)
      by h true = place_short g (position (code j g).blocks l 0) (all g (inl refl))
      by h false = h

  pub labels_short : (l : Lab) → label_place j l ≤ length (program j)
  labels_short (Block l) = label_short j.order l (λ g s. s)
  labels_short (Function f) = by (listed j j.order f)
    where
      by : (b : Bool) → cond {A = ℕ} b (function_place j f) 0 ≤ length (program j)
      by true = let a = after_start in let b = before_any j.order f in omega (arith, a, b)
      by false = omega arith

  listed_is : (gs : List ℕ) (f : ℕ) → Stands f gs → listed j gs f ≡ true
  listed_is [] f s = absurd s
  listed_is (g ∷ gs) f (inl e) = ap (λ b. cond b true (listed j gs f)) (eq-eqb g f e)
  listed_is (g ∷ gs) f (inr r) = by (g == f) (listed_is gs f r)
    where
      by : (b : Bool) → listed j gs f ≡ true → cond b true (listed j gs f) ≡ true
      by true e = refl
      by false e = e

  pub function_named : (f : ℕ) → Stands f j.order → label_place j (Function f) ≡ function_place j f
  function_named f s = ap (λ b. cond {A = ℕ} b (function_place j f) 0) (listed_is j.order f s)
