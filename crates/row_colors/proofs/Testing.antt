-- What can trap in the normal form of an assignment that can be made is seen.
use Rattle.std.proofs.Common.{◌≡◌, ℕ, Bool, true, false, cond, ◌&&◌, ◌||◌, List, slice_get, Ok, refl, sym, subst, ap, ◌∙◌}
use Rattle.std.specs.Prelude.{◌==◌}
use Rattle.rtl_word.specs.Words.{IsWordSize}
use Rattle.rtl_tree.specs.declared.cells.Cell.TheVariants.{Hard, Temp, Flag, Pc, Input, Output, Halt, Hole as RegisterHole}
use Rattle.rtl_tree.specs.declared.constructs.Construct.TheVariants.{Compared, Jump}
use Rattle.rtl_tree.specs.declared.expressions.Width.TheVariants.{Byte, Full}
use Rattle.rtl_tree.specs.declared.expressions.UnOp.TheVariants.{Sxb}
use Rattle.rtl_tree.specs.declared.expressions.BinOp.TheVariants.{And, Pair}
use Rattle.rtl_tree.specs.Trees.{Tree, Number, Read, Load, Unary, Binary, NoPair}
use Rattle.rtl_tree.specs.Moves.{Goal, ToCell, ToMemory}
use Rattle.rtl_tree.specs.Sorts.{IsFitting, IsWordTree}
use Rattle.rtl_tree.specs.WellFormed.{is_construct, free_of, free_below, flags_tested, compares_for_flag, tests_flags, jumps_by_counter}
use Rattle.rtl_norm.specs.Normal.{norm}
use Rattle.rtl_norm.specs.Transfers.{stored_byte, norm_goal, norm_value}
use Rattle.rtl_effect.specs.Views.{View, bind, width_of, touched, word_at, load_on, seen}
use Rattle.rtl_effect.specs.Effects.{mark_of_two, marked, jump, needed, valued, done, place_of, tested_by}
use Rattle.rtl_norm_value.specs.Kept.{IsWordView}
use Rattle.rtl_norm_value.specs.Effect.{jump_in_form}
use Rattle.rtl_norm_value.proofs.Seen.{norm_pair}
use Rattle.md_rows.specs.declared.instance.Bound.{Bound}
use Rattle.md_rows.specs.Instances.{filled, filled_goal}
use Rattle.md_match.specs.Searches.{goal_tree, occurs_by}
use Rattle.md_filled.specs.Held.{IsHeld}
use Rattle.md_filled.specs.Plain.{IsPlain}
use Rattle.md_filled.proofs.Rewriting.{norm_held}
use Rattle.md_filled.proofs.Seen.{filled_form_seen}
use Rattle.md_filled.proofs.Commuting.{form_filled}
use Rattle.md_filled.proofs.Alike.{bound, stop_is_no_ok}
use Rattle.md_filled.proofs.Sorted.{and_true, word_filled}
use Rattle.md_filled.proofs.Partner.{done_ok}
use Rattle.md_filled.proofs.Traps.{IsTrapNode, IsSeen, part_seen, part_marked, part_jump, no_leaf, leaf_of}
use Rattle.row_laws.proofs.Filled.{register_goal}

unlike : false ≡ true → ⊥
unlike e = cc

or_right : (a b : Bool) → b ≡ true → (a || b) ≡ true
or_right true b e = refl
or_right false b e = e

or_left : (a b : Bool) → a ≡ true → (a || b) ≡ true
or_left true b e = refl
or_left false b e = absurd (unlike e)

module _ (w : ℕ) (b : List Bound) (v : View) (z : IsWordSize w) (k : IsWordView w v) where
  abbrev Sees : Tree → Type 0
  Sees t = IsSeen w b v (filled b t)

  -- a part of the normal form of a word that is seen
  word_part : (t x : Tree) → IsTrapNode x → IsHeld w b t → IsFitting w t → IsWordTree (filled b t) → Sees t → occurs_by (filled b) x (norm w t) ≡ true → Sees x
  word_part t x n h f s e o =
      part_seen w b v x (norm w t) n (norm_held w b t h) (record { value = e.value; is = filled_form_seen w b t v z k h f s ∙ e.is }) o

  -- of a pair
  pair_part : (t x : Tree) → IsTrapNode x → IsHeld w b t → IsFitting w t → flags_tested t ≡ true → is_construct Compared t && free_below Compared t ≡ true
      → free_of Jump t ≡ true → done (marked w (filled b t) v) ≡ Ok tt → occurs_by (filled b) x (norm w t) ≡ true → Sees x
  pair_part (Binary Pair p q) x n h f l c j e o =
      let fl = and_true _ _ l in
      let cs = and_true _ _ c in
      let js = and_true _ _ j in
      let ps = filled_form_seen w b p v z k h.0 f.0 (word_filled w b p h.0 fl.0 cs.0 js.0) in
      let qs = filled_form_seen w b q v z k h.1 f.1 (word_filled w b q h.1 fl.1 cs.1 js.1) in
      let d = done_ok (marked w (Binary Pair (filled b p) (filled b q)) v) e in
      let same : marked w (Binary Pair (filled b (norm w p)) (filled b (norm w q))) v ≡ marked w (Binary Pair (filled b p) (filled b q)) v =
      λ i. bind (ps i) (λ x. bind (qs i) (λ y. Ok (mark_of_two x y))) in
      part_marked w b v x (Binary Pair (norm w p) (norm w q)) n (norm_held w b p h.0, norm_held w b q h.1) d.0 (same ∙ d.1)
      (subst (λ (u : Tree). occurs_by (filled b) x u ≡ true) (norm_pair w p q) o)
  pair_part NoPair x n h f l c j e o = part_marked w b v x NoPair n h _ refl o
  pair_part (Binary _ p q) x n h f l c j e o = absurd (unlike c)
  pair_part _ x n h f l c j e o = absurd (unlike c)

  -- of where a jump leads
  jump_part : (t x : Tree) → IsTrapNode x → IsHeld w b t → IsPlain (norm w t) → done (jump w (norm w (filled b t)) v) ≡ Ok tt
      → occurs_by (filled b) x (norm w t) ≡ true → Sees x
  jump_part t x n h p e o =
      let d = done_ok (jump w (norm w (filled b t)) v) e in
      part_jump w b v x (norm w t) n (norm_held w b t h) d.0 (ap (λ (u : Tree). jump w u v) (sym (form_filled w b t h p)) ∙ d.1) o

  event_part : (t x : Tree) → IsTrapNode x → IsHeld w b t → IsFitting w t → IsWordTree (filled b t) → done (valued w (filled b t) v) ≡ Ok tt
      → occurs_by (filled b) x (norm w t) ≡ true → Sees x
  event_part t x n h f s e o =
      let d = done_ok (valued w (filled b t) v) e in
      let p = bound (seen w (filled b t) v) needed d.0 d.1 in
      word_part t x n h f s (record { value = p.value; is = p.is }) o

  register_part : (t x : Tree) → IsTrapNode x → IsHeld w b t → IsFitting w t → IsWordTree (filled b t) → done (seen w (filled b t) v) ≡ Ok tt
      → occurs_by (filled b) x (norm w t) ≡ true → Sees x
  register_part t x n h f s e o = let d = done_ok (seen w (filled b t) v) e in word_part t x n h f s (record { value = d.0; is = d.1 }) o

  -- a byte that is stored
  stored_part : (x s : Tree) → occurs_by (filled b) x (stored_byte s) ≡ true → occurs_by (filled b) x s ≡ true
  stored_part x (Unary Sxb a) o = or_right _ (occurs_by (filled b) x a) o
  stored_part x (Binary And a (Number c)) o = by (c == 255) o
    where
      by : (q : Bool) → occurs_by (filled b) x (cond q a (Binary And a (Number c))) ≡ true → occurs_by (filled b) x (Binary And a (Number c)) ≡ true
      by true o = or_right _ _ (or_left (occurs_by (filled b) x a) _ o)
      by false o = o
  stored_part x s o = o

  value_part : (d : _) (a t x : Tree) → occurs_by (filled b) x (norm_value w (ToMemory d a) t) ≡ true → occurs_by (filled b) x (norm w t) ≡ true
  value_part Full a t x o = o
  value_part Byte a t x o = stored_part x (norm w t) o

  -- of the value that is assigned
  pub assigned_part : (g : Goal) (t x : Tree) → IsTrapNode x → IsHeld w b (goal_tree g) → IsHeld w b t → IsFitting w t → compares_for_flag g t ≡ true → tests_flags g t ≡ true
      → jumps_by_counter g t ≡ true → (g ≡ ToCell Pc → IsPlain (norm w t)) → tested_by w (filled_goal b g) (jump_in_form w (filled_goal b g) (filled b t)) v ≡ Ok tt
      → occurs_by (filled b) x (norm_value w g t) ≡ true → Sees x
  assigned_part (ToCell (Hard m)) t x n i h f c l j p e o = register_part t x n h f (word_filled w b t h l c j) e o
  assigned_part (ToCell (Temp m)) t x n i h f c l j p e o = register_part t x n h f (word_filled w b t h l c j) e o
  assigned_part (ToCell (RegisterHole m)) t x n i h f c l j p e o =
      register_part t x n h f (word_filled w b t h l c j)
      (register_goal (λ g. tested_by w g (jump_in_form w g (filled b t)) v ≡ Ok tt → done (seen w (filled b t) v) ≡ Ok tt) m (slice_get b m) i (λ q s. s) (λ q s. s) e) o
  assigned_part (ToCell (Flag m)) t x n i h f c l j p e o = pair_part t x n h f l c j e o
  assigned_part (ToCell Pc) t x n i h f c l j p e o = jump_part t x n h (p refl) e o
  assigned_part (ToCell Output) t x n i h f c l j p e o = event_part t x n h f (word_filled w b t h l c j) e o
  assigned_part (ToCell Halt) t x n i h f c l j p e o = event_part t x n h f (word_filled w b t h l c j) e o
  assigned_part (ToCell Input) t x n i h f c l j p e o = absurd (stop_is_no_ok _ tt e)
  assigned_part (ToMemory d a) t x n i h f c l j p e o =
      let cs = and_true _ _ c in
      let ls = and_true _ _ l in
      let js = and_true _ _ j in
      let s = bound (seen w (filled b t) v) (λ y. done (place_of w d (filled b a) v)) tt e in
      word_part t x n h f (word_filled w b t h ls.1 cs.1 js.1) (record { value = s.value; is = s.is }) (value_part d a t x o)

  -- of the place
  pub place_part : (g : Goal) (t x : Tree) → IsTrapNode x → IsHeld w b (goal_tree g) → IsFitting w (goal_tree g) → compares_for_flag g t ≡ true → tests_flags g t ≡ true
      → jumps_by_counter g t ≡ true → tested_by w (filled_goal b g) (jump_in_form w (filled_goal b g) (filled b t)) v ≡ Ok tt
      → occurs_by (filled b) x (goal_tree (norm_goal w g)) ≡ true → Sees x
  place_part (ToCell c) t x n h f cs ls js e o = absurd (no_leaf w b v x (Read c) n (leaf_of w b v (Read c) h refl) o)
  place_part (ToMemory d a) t x n h f cs ls js e o =
      let c = and_true _ _ cs in
      let l = and_true _ _ ls in
      let j = and_true _ _ js in
      let s = bound (seen w (filled b t) v) (λ y. done (place_of w d (filled b a) v)) tt e in
      let at = done_ok (place_of w d (filled b a) v) s.rest in
      let m = bound (seen w (filled b a) v) (touched (width_of w d) v) at.0 at.1 in
      let word = filled_form_seen w b a v z k h f (word_filled w b a h l.0 c.0 j.0) ∙ m.is in
      part_seen w b v x (Load d (norm w a)) n (norm_held w b a h)
      (record {
        value = word_at v.bytes at.0 (width_of w d);
        is = ap (load_on (width_of w d) v) word ∙ ap (λ r. bind r (λ c. Ok (word_at v.bytes c (width_of w d)))) m.rest;
      }) o
