-- The other assignments of a row are to flags, and are made wherever the marked ones are.
use Rattle.std.proofs.Common.{◌≡◌, ℕ, Bool, true, false, not, ◌&&◌, ◌||◌, List, slice_get, Option, Some, None, Result, Ok, Err, refl, sym, subst, ap, ◌∙◌, arith}
use Rattle.rtl_word.specs.declared.Rel.{Rel}
use Rattle.rtl_word.specs.Words.{IsWordSize}
use Rattle.rtl_tree.specs.declared.cells.Cell.{Cell}
use Rattle.rtl_tree.specs.declared.cells.Cell.TheVariants.{Hard, Temp, Flag, Pc, Input, Output, Halt, Hole as RegisterHole}
use Rattle.rtl_tree.specs.declared.constructs.Construct.TheVariants.{Compared, Jump}
use Rattle.rtl_tree.specs.declared.expressions.Width.{Width}
use Rattle.rtl_tree.specs.declared.expressions.UnOp.{UnOp}
use Rattle.rtl_tree.specs.declared.expressions.UnOp.TheVariants.{Neg, Not, Sxb, Test}
use Rattle.rtl_tree.specs.declared.expressions.BinOp.{BinOp}
use Rattle.rtl_tree.specs.declared.expressions.BinOp.TheVariants.{Add, Sub, Mul, Div, Divu, Rem, Remu, And, Or, Xor, Shl, Shr, Shru, Cmp, Pair, When}
use Rattle.rtl_tree.specs.Trees.{Tree, Number, Symbol, CodeLabel, Read, Load, Unary, Binary, NoPair, AnyNumber, AnyName}
use Rattle.rtl_tree.specs.Moves.{Goal, ToCell, ToMemory, Move}
use Rattle.rtl_tree.specs.Sorts.{IsFitting, IsOperation, IsWordTree}
use Rattle.rtl_tree.specs.WellFormed.{is_construct, free_of, free_below, flags_tested}
use Rattle.rtl_tree.specs.Likeness.{IsAlike}
use Rattle.rtl_norm.specs.Normal.{norm}
use Rattle.rtl_effect.specs.Views.{Stop, View, Seen, bind, width_of, touched, word_at, unary_seen, binary_seen, unary_on, binary_on, load_on, seen}
use Rattle.rtl_effect.specs.Effects.{mark_of_two, marked, jump, needed, valued, done, tested_cell, place_of, tested_by}
use Rattle.rtl_norm_value.specs.Kept.{IsWordView}
use Rattle.rtl_norm_value.proofs.Seen.{norm_pair}
use Rattle.md_rows.specs.declared.instance.Bound.{Bound}
use Rattle.md_rows.specs.Instances.{filled}
use Rattle.md_match.specs.Searches.{goal_tree, unary_traps, binary_traps, occurs_by}
use Rattle.md_match.specs.Does.{AllTraps}
use Rattle.md_filled.specs.Held.{IsHeld}
use Rattle.md_filled.proofs.Rewriting.{register_is, word_is, name_is, norm_held}
use Rattle.md_filled.proofs.Seen.{filled_form_seen, form_kept}
use Rattle.md_filled.proofs.Alike.{bound, stop_is_no_ok, alike_seen, alike_jump, alike_marked, alike_load}
use Rattle.md_filled.proofs.Sorted.{and_true, word_filled}
use Rattle.md_filled.proofs.Partner.{done_ok, memory_is}
use Rattle.md_filled.proofs.Traps.{IsTrapNode, IsSeen, part_seen, part_marked, part_jump, no_leaf, leaf_of}

unlike : true ≡ false → ⊥
unlike e = cc

record SeenAs (r : Seen) : Type 0 where
  value : Option ℕ
  is : r ≡ Ok value

module _ (w : ℕ) (b : List Bound) (v : View) where
  -- what can trap in an assignment that is tested well is seen
  pub part_of_value : (to : Goal) (y s x : Tree) → IsTrapNode x → IsHeld w b s → IsAlike (filled b s) y → tested_by w to y v ≡ Ok tt
      → occurs_by (filled b) x s ≡ true → IsSeen w b v (filled b x)
  part_of_value (ToCell (Hard m)) y s x n h a e o =
      let d = done_ok (seen w y v) e in part_seen w b v x s n h (record { value = d.0; is = alike_seen w v (filled b s) y d.0 a d.1 }) o
  part_of_value (ToCell (Temp m)) y s x n h a e o =
      let d = done_ok (seen w y v) e in part_seen w b v x s n h (record { value = d.0; is = alike_seen w v (filled b s) y d.0 a d.1 }) o
  part_of_value (ToCell (Flag m)) y s x n h a e o =
      let d = done_ok (marked w y v) e in part_marked w b v x s n h d.0 (alike_marked w v (filled b s) y d.0 a d.1) o
  part_of_value (ToCell Pc) y s x n h a e o =
      let d = done_ok (jump w y v) e in part_jump w b v x s n h d.0 (alike_jump w v (filled b s) y d.0 a d.1) o
  part_of_value (ToCell Output) y s x n h a e o =
      let d = done_ok (valued w y v) e in
      let p = bound (seen w y v) needed d.0 d.1 in
      part_seen w b v x s n h (record { value = p.value; is = alike_seen w v (filled b s) y p.value a p.is }) o
  part_of_value (ToCell Halt) y s x n h a e o =
      let d = done_ok (valued w y v) e in
      let p = bound (seen w y v) needed d.0 d.1 in
      part_seen w b v x s n h (record { value = p.value; is = alike_seen w v (filled b s) y p.value a p.is }) o
  part_of_value (ToCell Input) y s x n h a e o = absurd (stop_is_no_ok _ tt e)
  part_of_value (ToCell (RegisterHole m)) y s x n h a e o = absurd (stop_is_no_ok _ tt e)
  part_of_value (ToMemory d t) y s x n h a e o =
      let p = bound (seen w y v) (λ z. done (place_of w d t v)) tt e in
      part_seen w b v x s n h (record { value = p.value; is = alike_seen w v (filled b s) y p.value a p.is }) o

  pub part_of_place : (to : Goal) (y : Tree) (g : Goal) (x : Tree) → IsTrapNode x → IsHeld w b (goal_tree g) → IsAlike (filled b (goal_tree g)) (goal_tree to)
      → tested_by w to y v ≡ Ok tt → occurs_by (filled b) x (goal_tree g) ≡ true → IsSeen w b v (filled b x)
  part_of_place to y (ToCell c) x n h a e o = absurd (no_leaf w b v x (Read c) n (leaf_of w b v (Read c) h refl) o)
  part_of_place to y (ToMemory d s) x n h a e o =
      let l = alike_load d (filled b s) (goal_tree to) a in
      let g = memory_is d (filled b s) to l in
      let p = bound (seen w y v) (λ z. done (place_of w d l.at v)) tt (subst (λ (q : Goal). tested_by w q y v ≡ Ok tt) g e) in
      let at = done_ok (place_of w d l.at v) p.rest in
      let m = bound (seen w l.at v) (touched (width_of w d) v) at.0 at.1 in
      let u : Option ℕ = word_at v.bytes at.0 (width_of w d) in
      let whole : seen w (Load d l.at) v ≡ Ok u =
      ap (load_on (width_of w d) v) m.is ∙ ap (λ r. bind r (λ c. Ok (word_at v.bytes c (width_of w d)))) m.rest in
      part_seen w b v x (Load d s) n h
      (record { value = u; is = alike_seen w v (filled b (Load d s)) (Load d l.at) u (subst (λ (q : Tree). IsAlike (Load d (filled b s)) q) l.is a) whole }) o

  both_total : (o : BinOp) (x y : Option ℕ) → binary_traps o ≡ false → IsOperation o → SeenAs (binary_seen w o x y)
  both_total Add (Some x) (Some y) e i = record { value = _; is = refl }
  both_total Add (Some x) None e i = record { value = None; is = refl }
  both_total Add None (Some y) e i = record { value = None; is = refl }
  both_total Add None None e i = record { value = None; is = refl }
  both_total Sub (Some x) (Some y) e i = record { value = _; is = refl }
  both_total Sub (Some x) None e i = record { value = None; is = refl }
  both_total Sub None (Some y) e i = record { value = None; is = refl }
  both_total Sub None None e i = record { value = None; is = refl }
  both_total Mul (Some x) (Some y) e i = record { value = _; is = refl }
  both_total Mul (Some x) None e i = record { value = None; is = refl }
  both_total Mul None (Some y) e i = record { value = None; is = refl }
  both_total Mul None None e i = record { value = None; is = refl }
  both_total And (Some x) (Some y) e i = record { value = _; is = refl }
  both_total And (Some x) None e i = record { value = None; is = refl }
  both_total And None (Some y) e i = record { value = None; is = refl }
  both_total And None None e i = record { value = None; is = refl }
  both_total Or (Some x) (Some y) e i = record { value = _; is = refl }
  both_total Or (Some x) None e i = record { value = None; is = refl }
  both_total Or None (Some y) e i = record { value = None; is = refl }
  both_total Or None None e i = record { value = None; is = refl }
  both_total Xor (Some x) (Some y) e i = record { value = _; is = refl }
  both_total Xor (Some x) None e i = record { value = None; is = refl }
  both_total Xor None (Some y) e i = record { value = None; is = refl }
  both_total Xor None None e i = record { value = None; is = refl }
  both_total (Cmp r) (Some x) (Some y) e i = record { value = _; is = refl }
  both_total (Cmp r) (Some x) None e i = record { value = None; is = refl }
  both_total (Cmp r) None (Some y) e i = record { value = None; is = refl }
  both_total (Cmp r) None None e i = record { value = None; is = refl }
  both_total Div x y e i = absurd (unlike e)
  both_total Divu x y e i = absurd (unlike e)
  both_total Rem x y e i = absurd (unlike e)
  both_total Remu x y e i = absurd (unlike e)
  both_total Shl x y e i = absurd (unlike e)
  both_total Shr x y e i = absurd (unlike e)
  both_total Shru x y e i = absurd (unlike e)
  both_total Pair x y e i = absurd i
  both_total When x y e i = absurd i

  unary_total : (o : UnOp) (x : Option ℕ) → SeenAs (unary_seen w o x)
  unary_total o (Some x) = record { value = _; is = refl }
  unary_total o None = record { value = None; is = refl }

  -- a tree is seen where each of its nodes that can trap is
  fine_two : (o : BinOp) (a c : Tree) (k : Bool) → binary_traps o ≡ k → IsOperation o → (k ≡ true → IsSeen w b v (filled b (Binary o a c)))
      → IsSeen w b v (filled b a) → IsSeen w b v (filled b c) → IsSeen w b v (filled b (Binary o a c))
  fine_two o a c true e i f p q = f refl
  fine_two o a c false e i f p q =
      let t = both_total o p.value q.value e i in
      record {
        value = t.value;
        is = ap (λ r. binary_on w o r (seen w (filled b c) v)) p.is ∙ (ap (λ r. binary_on w o (Ok p.value) r) q.is ∙ t.is);
      }

  fine_one : (o : UnOp) (t : Tree) → IsSeen w b v t → SeenAs (unary_on w o (seen w t v))
  fine_one o t p = let u = unary_total o p.value in record { value = u.value; is = ap (unary_on w o) p.is ∙ u.is }

  pub fine_word : (P : Tree → Type 0) (t : Tree) → IsHeld w b t → IsWordTree (filled b t) → AllTraps P t
      → ((x : Tree) → IsTrapNode x → P x → IsSeen w b v (filled b x)) → IsSeen w b v (filled b t)
  fine_word P (Load d a) h s t f = f (Load d a) tt t.0
  fine_word P (Unary Neg a) h s t f = let r = fine_one Neg (filled b a) (fine_word P a h s t.1 f) in record { value = r.value; is = r.is }
  fine_word P (Unary Not a) h s t f = let r = fine_one Not (filled b a) (fine_word P a h s t.1 f) in record { value = r.value; is = r.is }
  fine_word P (Unary Sxb a) h s t f = let r = fine_one Sxb (filled b a) (fine_word P a h s t.1 f) in record { value = r.value; is = r.is }
  fine_word P (Unary (Test r) a) h s t f = f (Unary (Test r) a) refl (t.0 refl)
  fine_word P (Binary o a c) h s t f =
      fine_two o a c (binary_traps o) refl s.0 (λ e. f (Binary o a c) e (t.0 e)) (fine_word P a h.0 s.1 t.1 f) (fine_word P c h.1 s.2 t.2 f)
  fine_word P (Number n) h s t f = record { value = Some n; is = refl }
  fine_word P (Symbol n) h s t f = record { value = _; is = refl }
  fine_word P (CodeLabel l) h s t f = record { value = _; is = refl }
  fine_word P (Read (RegisterHole n)) h s t f =
      register_is (IsSeen w b v) (Read (RegisterHole n)) (slice_get b n) h (λ m. record { value = _; is = refl }) (λ m. record { value = _; is = refl })
  fine_word P (Read (Hard n)) h s t f = record { value = _; is = refl }
  fine_word P (Read (Temp n)) h s t f = record { value = _; is = refl }
  fine_word P (Read (Flag n)) h s t f = record { value = _; is = refl }
  fine_word P (Read Pc) h s t f = record { value = _; is = refl }
  fine_word P (Read Input) h s t f = record { value = _; is = refl }
  fine_word P (Read Output) h s t f = record { value = _; is = refl }
  fine_word P (Read Halt) h s t f = record { value = _; is = refl }
  fine_word P NoPair h s t f = absurd s
  fine_word P (AnyNumber n) h s t f = word_is w (IsSeen w b v) (AnyNumber n) (slice_get b n) h (λ m l. record { value = Some m; is = refl })
  fine_word P (AnyName n) h s t f =
      name_is (IsSeen w b v) (AnyName n) (slice_get b n) h (λ m. record { value = _; is = refl }) (λ l. record { value = _; is = refl })

  -- so what goes to a flag is made
  module _ (z : IsWordSize w) (k : IsWordView w v) where
    fine_form : (P : Tree → Type 0) (t : Tree) → IsHeld w b t → IsFitting w t → IsWordTree (filled b t) → AllTraps P (norm w t)
        → ((x : Tree) → IsTrapNode x → P x → IsSeen w b v (filled b x)) → IsSeen w b v (filled b t)
    fine_form P t h f s a g =
        let r = fine_word P (norm w t) (norm_held w b t h) (form_kept w b v z k t h f s).word a g in
        record { value = r.value; is = sym (filled_form_seen w b t v z k h f s) ∙ r.is }

    pub fine_flag : (P : Tree → Type 0) (n : ℕ) (t : Tree) → IsHeld w b t → IsFitting w t → flags_tested t ≡ true
        → is_construct Compared t && free_below Compared t ≡ true → free_of Jump t ≡ true → AllTraps P (norm w t)
        → ((x : Tree) → IsTrapNode x → P x → IsSeen w b v (filled b x)) → tested_cell w (Flag n) (filled b t) v ≡ Ok tt
    fine_flag P n (Binary Pair p q) h f e c j a g =
        let t = subst (AllTraps P) (norm_pair w p q) a in
        let fl = and_true _ _ e in
        let cs = and_true _ _ c in
        let js = and_true _ _ j in
        let x = fine_form P p h.0 f.0 (word_filled w b p h.0 fl.0 cs.0 js.0) t.1 g in
        let y = fine_form P q h.1 f.1 (word_filled w b q h.1 fl.1 cs.1 js.1) t.2 g in
        ap (λ r. done (bind r (λ a. bind (seen w (filled b q) v) (λ c. Ok (mark_of_two a c))))) x.is
        ∙ ap (λ r. done (bind r (λ c. Ok (mark_of_two x.value c)))) y.is
    fine_flag P n NoPair h f e c j a g = refl
    fine_flag P n (Binary _ p q) h f e c j a g = absurd (clash c)
      where
        clash : false ≡ true → ⊥
        clash e = cc
    fine_flag P n _ h f e c j a g = absurd (clash c)
      where
        clash : false ≡ true → ⊥
        clash e = cc
