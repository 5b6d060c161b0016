-- An assignment of a row, filled, beside the assignment that it is alike: it does the same.
use Rattle.std.proofs.Common.{◌≡◌, ℕ, zero, suc, ◌+◌, ◌%◌, Bool, true, false, not, cond, ◌&&◌, List, [], ◌∷◌, slice_get, Option, Some, None, Result, Ok, Err, refl, sym, subst, ap, ◌∙◌, arith}
use Rattle.std.specs.Prelude.{◌==◌}
use Rattle.std.proofs.lemmas.Bool.Decides.{nat_tests}
use Rattle.rtl_word.specs.Words.{IsWordSize, word_sxb}
use Rattle.rtl_word.proofs.Bitwise.{low_of_sxb, low_of_cut}
use Rattle.rtl_tree.specs.declared.cells.Cell.{Cell}
use Rattle.rtl_tree.specs.declared.cells.Cell.TheVariants.{Hard, Temp, Flag, Pc, Input, Output, Halt, Hole as RegisterHole}
use Rattle.rtl_tree.specs.declared.constructs.Construct.TheVariants.{Compared, Jump, Taken}
use Rattle.rtl_tree.specs.declared.expressions.Width.{Width}
use Rattle.rtl_tree.specs.declared.expressions.Width.TheVariants.{Byte, Full}
use Rattle.rtl_tree.specs.declared.expressions.UnOp.TheVariants.{Neg, Not, Sxb, Test}
use Rattle.rtl_tree.specs.declared.expressions.BinOp.TheVariants.{And, Pair, When}
use Rattle.rtl_tree.specs.Trees.{Tree, Number, Symbol, CodeLabel, Read, Load, Unary, Binary, NoPair, AnyNumber, AnyName}
use Rattle.rtl_tree.specs.Moves.{Goal, ToCell, ToMemory, Move}
use Rattle.rtl_tree.specs.Sorts.{IsFitting, IsWordTree}
use Rattle.rtl_tree.specs.WellFormed.{is_construct, free_of, free_below, flags_tested, compares_for_flag, jumps_by_counter, takes_for_register, tests_flags, IsPlaced}
use Rattle.rtl_tree.specs.Likeness.{IsAlike}
use Rattle.rtl_norm.specs.Normal.{norm}
use Rattle.rtl_norm.specs.Transfers.{stored_byte, norm_goal, norm_value, norm_move, IsGoalFitting, IsMoveFitting}
use Rattle.rtl_effect.specs.Views.{Stop, Mark, Holds, Gone, View, Seen, bind, width_of, touched, unary_on, binary_on, seen}
use Rattle.rtl_effect.specs.Effects.{is_input, needed, mark_of_two, marked, jump, valued, Fine, done, tested_cell, place_of, tested_by}
use Rattle.rtl_norm_value.specs.Kept.{IsWordView}
use Rattle.rtl_norm_value.specs.Effect.{jump_in_form}
use Rattle.rtl_norm_value.proofs.Seen.{norm_pair}
use Rattle.md_rows.specs.declared.instance.Bound.{Bound}
use Rattle.md_rows.specs.declared.instance.Bound.TheVariants.{Reg, Num, Sym, Label}
use Rattle.md_rows.specs.Instances.{held_by, register_by, filled, filled_cell, filled_goal}
use Rattle.md_match.specs.Searches.{goal_tree}
use Rattle.md_match.specs.Does.{IsAlikeMove}
use Rattle.md_filled.specs.Held.{IsRegister, IsWord, IsName, IsHeld}
use Rattle.md_filled.specs.Doing.{IsHeldMove, IsNumberless}
use Rattle.md_filled.proofs.Rewriting.{norm_held}
use Rattle.md_filled.proofs.Seen.{filled_form_seen}
use Rattle.md_filled.proofs.Commuting.{form_filled}
use Rattle.md_filled.proofs.Alike.{bound, Bound as BoundTo, ok_is, alike_seen, alike_jump, alike_read, alike_lost, alike_load, alike_pair, LoadAlike, PairAlike}
use Rattle.md_filled.proofs.Sorted.{and_true, word_filled, IsDry, dry_of, norm_dry, stored_dry, filled_dry, alike_dry, dry_no_input, alike_numberless, plain_of}

-- what is stored: nothing that is set, or words that are the same as far as the width goes
pub data StoredAlike : Width → Option ℕ → Option ℕ → Type 0 where
  whole : (d : Width) (x : Option ℕ) → StoredAlike d x x
  low : (x y : ℕ) → x % 256 ≡ y % 256 → StoredAlike Byte (Some x) (Some y)

abbrev pub CellSame : ℕ → View → Cell → Tree → Tree → Type 0
CellSame w v (Flag n) t u = marked w u v ≡ marked w t v
CellSame w v Pc t u = jump w u v ≡ jump w t v
CellSame w v c t u = seen w u v ≡ seen w t v

-- the second assignment does what the first does
pub data Partner (w : ℕ) (v : View) : Goal → Tree → Goal → Tree → Type 0 where
  cells : (c : Cell) (t u : Tree) → CellSame w v c t u → is_input u ≡ is_input t → tested_cell w c u v ≡ Ok tt → Partner w v (ToCell c) t (ToCell c) u
  stores : (d : Width) (a c t u : Tree) (p : ℕ) (x y : Option ℕ) → place_of w d a v ≡ Ok p → place_of w d c v ≡ Ok p → seen w t v ≡ Ok x → seen w u v ≡ Ok y
      → StoredAlike d x y → is_input u ≡ is_input t → Partner w v (ToMemory d a) t (ToMemory d c) u

pub done_ok : {A : Type 0} (r : Result A Stop) → done r ≡ Ok tt → (x : A) × (r ≡ Ok x)
done_ok (Ok x) e = (x, refl)
done_ok (Err s) e = absurd (grind (arith, e))

-- a place of memory is alike one of memory
pub memory_is : (d : Width) (s : Tree) (to : Goal) → (p : LoadAlike d s (goal_tree to)) → to ≡ ToMemory d p.at
memory_is d s (ToCell c) p = let e = p.is in absurd (cc)
memory_is d s (ToMemory f a) p =
    let e : Load f a ≡ Load d p.at = p.is in
    cc

dry_input : (t u : Tree) → IsDry t → IsDry u → is_input u ≡ is_input t
dry_input t u h k = dry_no_input u k ∙ sym (dry_no_input t h)

module _ (w : ℕ) (b : List Bound) (v : View) (z : IsWordSize w) (k : IsWordView w v) where
  -- a word of the row
  word_same : (t x : Tree) (u : Option ℕ) → IsHeld w b t → IsFitting w t → IsWordTree (filled b t) → IsAlike (filled b (norm w t)) x → seen w x v ≡ Ok u
      → seen w (filled b t) v ≡ Ok u
  word_same t x u h f s a e = sym (filled_form_seen w b t v z k h f s) ∙ alike_seen w v (filled b (norm w t)) x u a e

  -- what a flag becomes
  marked_by : (x y p q : Tree) (r : Mark) → IsHeld w b (Binary Pair p q) → IsFitting w (Binary Pair p q) → IsWordTree (filled b p) → IsWordTree (filled b q)
      → IsAlike (filled b (norm w p)) x → IsAlike (filled b (norm w q)) y → marked w (Binary Pair x y) v ≡ Ok r
      → marked w (Binary Pair (filled b p) (filled b q)) v ≡ Ok r
  marked_by x y p q r h f s g i j e =
      let m = bound (seen w x v) _ r e in
      let n = bound (seen w y v) _ r m.rest in
      ap (λ (o : Seen). bind o (λ a. bind (seen w (filled b q) v) (λ c. Ok (mark_of_two a c)))) (word_same p x m.value h.0 f.0 s i m.is)
      ∙ (ap (λ (o : Seen). bind o (λ c. Ok (mark_of_two m.value c))) (word_same q y n.value h.1 f.1 g j n.is) ∙ n.rest)

  marked_same : (t x : Tree) (r : Mark) → IsHeld w b t → IsFitting w t → flags_tested t ≡ true → is_construct Compared t && free_below Compared t ≡ true
      → free_of Jump t ≡ true → IsAlike (filled b (norm w t)) x → marked w x v ≡ Ok r → marked w (filled b t) v ≡ Ok r
  marked_same (Binary Pair p q) x r h f e c j a m =
      let a' = subst (λ (u : Tree). IsAlike (filled b u) x) (norm_pair w p q) a in
      let l = alike_pair (filled b (norm w p)) (filled b (norm w q)) x a' in
      let fl = and_true _ _ e in
      let cs = and_true _ _ c in
      let js = and_true _ _ j in
      marked_by l.left l.right p q r h f (word_filled w b p h.0 fl.0 cs.0 js.0) (word_filled w b q h.1 fl.1 cs.1 js.1) l.first l.second
      (subst (λ (u : Tree). marked w u v ≡ Ok r) l.is m)
  marked_same NoPair x r h f e c j a m = subst (λ (u : Tree). marked w u v ≡ Ok r) (alike_lost x a) m
  marked_same (Binary _ p q) x r h f e c j a m = absurd (clash c)
    where
      clash : false ≡ true → ⊥
      clash e = cc
  marked_same _ x r h f e c j a m = absurd (clash c)
    where
      clash : false ≡ true → ⊥
      clash e = cc

  -- where a jump leads
  jump_same : (t x : Tree) (q : Option ℕ) → IsHeld w b t → IsNumberless x → IsAlike (filled b (norm w t)) x → jump w x v ≡ Ok q
      → jump w (norm w (filled b t)) v ≡ Ok q
  jump_same t x q h n a e =
      let c = form_filled w b t h (plain_of w b (norm w t) (norm_held w b t h) (alike_numberless (filled b (norm w t)) x a n)) in
      ap (λ (u : Tree). jump w u v) c ∙ alike_jump w v (filled b (norm w t)) x q a e

  -- a byte that is stored
  stored_same : (s : Tree) (u : Option ℕ) → seen w (filled b (stored_byte s)) v ≡ Ok u → (y : Option ℕ) × (seen w (filled b s) v ≡ Ok y) × StoredAlike Byte u y
  stored_same (Unary Sxb a) u e = extended u e
    where
      extended : (o : Option ℕ) → seen w (filled b a) v ≡ Ok o → (y : Option ℕ) × (unary_on w Sxb (seen w (filled b a) v) ≡ Ok y) × StoredAlike Byte o y
      extended (Some x) e = (Some (word_sxb w x), ap (unary_on w Sxb) e, low x (word_sxb w x) (sym (low_of_sxb w x z)))
      extended None e = (None, ap (unary_on w Sxb) e, whole Byte None)
  stored_same (Binary And a (Number c)) u e = by (c == 255) refl e
    where
      masked : c == 255 ≡ true → (o : Option ℕ) → seen w (filled b a) v ≡ Ok o
          → (y : Option ℕ) × (binary_on w And (seen w (filled b a) v) (Ok (Some c)) ≡ Ok y) × StoredAlike Byte o y
      masked q None e = (None, ap (λ (r : Seen). binary_on w And r (Ok (Some c))) e, whole Byte None)
      masked q (Some x) e =
          let d : c ≡ 255 = grind (arith, nat_tests) in
          subst (λ (n : ℕ). (y : Option ℕ) × (binary_on w And (seen w (filled b a) v) (Ok (Some n)) ≡ Ok y) × StoredAlike Byte (Some x) y) (sym d)
          (_, ap (λ (r : Seen). binary_on w And r (Ok (Some 255))) e, low x _ (sym (low_of_cut x)))

      by : (q : Bool) → c == 255 ≡ q → seen w (filled b (cond q a (Binary And a (Number c)))) v ≡ Ok u
          → (y : Option ℕ) × (binary_on w And (seen w (filled b a) v) (Ok (Some c)) ≡ Ok y) × StoredAlike Byte u y
      by true q e = masked q u e
      by false q e = (u, e, whole Byte u)
  stored_same s u e = (u, e, whole Byte u)

  -- the input

  input_dry : (t x : Tree) → IsHeld w b t → IsDry t → IsAlike (filled b (norm w t)) x → is_input (filled b t) ≡ is_input x
  input_dry t x h d a =
      dry_input x (filled b t) (alike_dry (filled b (norm w t)) x a (filled_dry w b (norm w t) (norm_held w b t h) (norm_dry w t d))) (filled_dry w b t h d)

  input_below : (t x : Tree) → IsHeld w b t → free_below Taken t ≡ true → IsAlike (filled b (norm w t)) x → is_input (filled b t) ≡ is_input x
  input_below (Read Input) x h e a = ap is_input (sym (alike_read Input x a))
  input_below (Read (Hard n)) x h e a = input_dry (Read (Hard n)) x h tt a
  input_below (Read (Temp n)) x h e a = input_dry (Read (Temp n)) x h tt a
  input_below (Read (Flag n)) x h e a = input_dry (Read (Flag n)) x h tt a
  input_below (Read Pc) x h e a = input_dry (Read Pc) x h tt a
  input_below (Read Output) x h e a = input_dry (Read Output) x h tt a
  input_below (Read Halt) x h e a = input_dry (Read Halt) x h tt a
  input_below (Read (RegisterHole n)) x h e a = input_dry (Read (RegisterHole n)) x h tt a
  input_below (Load d c) x h e a = input_dry (Load d c) x h (dry_of c e) a
  input_below (Unary o c) x h e a = input_dry (Unary o c) x h (dry_of c e) a
  input_below (Binary o c d) x h e a = let p = and_true _ _ e in input_dry (Binary o c d) x h (dry_of c p.0, dry_of d p.1) a
  input_below (Number n) x h e a = input_dry (Number n) x h tt a
  input_below (Symbol n) x h e a = input_dry (Symbol n) x h tt a
  input_below (CodeLabel l) x h e a = input_dry (CodeLabel l) x h tt a
  input_below NoPair x h e a = input_dry NoPair x h tt a
  input_below (AnyNumber n) x h e a = input_dry (AnyNumber n) x h tt a
  input_below (AnyName n) x h e a = input_dry (AnyName n) x h tt a

  -- the assignments by their places

  goal_is : (g : Goal) (c : Cell) → IsAlike (Read c) (goal_tree g) → g ≡ ToCell c
  goal_is (ToCell d) c a =
      let e = alike_read c (Read d) a in
      let f : d ≡ c = cc in
      ap (λ (x : Cell). let y : Goal = ToCell x in y) f
  goal_is (ToMemory d t) c a = let e = alike_read c (Load d t) a in absurd (cc)

  register_done : (c : Cell) (t x : Tree) → IsHeld w b t → IsFitting w t → IsWordTree (filled b t) → IsAlike (filled b (norm w t)) x → done (seen w x v) ≡ Ok tt
      → (seen w (filled b t) v ≡ seen w x v) × (done (seen w (filled b t) v) ≡ Ok tt)
  register_done c t x h f s a e =
      let o = done_ok (seen w x v) e in
      let r = word_same t x o.0 h f s a o.1 in
      (r ∙ sym o.1, ap done r)

  event_done : (t x : Tree) → IsHeld w b t → IsFitting w t → IsWordTree (filled b t) → IsAlike (filled b (norm w t)) x → done (valued w x v) ≡ Ok tt
      → (seen w (filled b t) v ≡ seen w x v) × (done (valued w (filled b t) v) ≡ Ok tt)
  event_done t x h f s a e =
      let o = done_ok (valued w x v) e in
      let p = bound (seen w x v) needed o.0 o.1 in
      let r = word_same t x p.value h f s a p.is in
      let same = r ∙ sym p.is in
      (same, ap (λ (q : Seen). done (bind q needed)) same ∙ e)

  hard_partner : (n : ℕ) (t : Tree) (to : Goal) (x : Tree) → IsHeld w b t → IsFitting w t → IsWordTree (filled b t) → free_below Taken t ≡ true
      → IsAlike (Read (Hard n)) (goal_tree to) → IsAlike (filled b (norm w t)) x → tested_by w to x v ≡ Ok tt → Partner w v to x (ToCell (Hard n)) (filled b t)
  hard_partner n t to x h f s i p a e =
      let g = goal_is to (Hard n) p in
      let r = register_done (Hard n) t x h f s a (subst (λ (y : Goal). tested_by w y x v ≡ Ok tt) g e) in
      subst (λ (y : Goal). Partner w v y x (ToCell (Hard n)) (filled b t)) (sym g) (cells (Hard n) x (filled b t) r.0 (input_below t x h i a) r.1)

  temp_partner : (n : ℕ) (t : Tree) (to : Goal) (x : Tree) → IsHeld w b t → IsFitting w t → IsWordTree (filled b t) → free_below Taken t ≡ true
      → IsAlike (Read (Temp n)) (goal_tree to) → IsAlike (filled b (norm w t)) x → tested_by w to x v ≡ Ok tt → Partner w v to x (ToCell (Temp n)) (filled b t)
  temp_partner n t to x h f s i p a e =
      let g = goal_is to (Temp n) p in
      let r = register_done (Temp n) t x h f s a (subst (λ (y : Goal). tested_by w y x v ≡ Ok tt) g e) in
      subst (λ (y : Goal). Partner w v y x (ToCell (Temp n)) (filled b t)) (sym g) (cells (Temp n) x (filled b t) r.0 (input_below t x h i a) r.1)

  hole_partner : (k : ℕ) (o : Option Bound) (t : Tree) (to : Goal) (x : Tree) → IsRegister o → IsHeld w b t → IsFitting w t → IsWordTree (filled b t)
      → free_below Taken t ≡ true → IsAlike (held_by (Read (RegisterHole k)) o) (goal_tree to) → IsAlike (filled b (norm w t)) x → tested_by w to x v ≡ Ok tt
      → Partner w v to x (ToCell (register_by (RegisterHole k) o)) (jump_in_form w (ToCell (register_by (RegisterHole k) o)) (filled b t))
  hole_partner k (Some (Reg (Hard n))) t to x q h f s i p a e = hard_partner n t to x h f s i p a e
  hole_partner k (Some (Reg (Temp n))) t to x q h f s i p a e = temp_partner n t to x h f s i p a e
  hole_partner k (Some (Reg (Flag n))) t to x q h f s i p a e = absurd q
  hole_partner k (Some (Reg Pc)) t to x q h f s i p a e = absurd q
  hole_partner k (Some (Reg Input)) t to x q h f s i p a e = absurd q
  hole_partner k (Some (Reg Output)) t to x q h f s i p a e = absurd q
  hole_partner k (Some (Reg Halt)) t to x q h f s i p a e = absurd q
  hole_partner k (Some (Reg (RegisterHole n))) t to x q h f s i p a e = absurd q
  hole_partner k (Some (Num n)) t to x q h f s i p a e = absurd q
  hole_partner k (Some (Sym n)) t to x q h f s i p a e = absurd q
  hole_partner k (Some (Label l)) t to x q h f s i p a e = absurd q
  hole_partner k None t to x q h f s i p a e = absurd q

  flag_partner : (n : ℕ) (t : Tree) (to : Goal) (x : Tree) → IsHeld w b t → IsFitting w t → flags_tested t ≡ true
      → is_construct Compared t && free_below Compared t ≡ true → free_of Jump t ≡ true → free_of Taken t ≡ true
      → IsAlike (Read (Flag n)) (goal_tree to) → IsAlike (filled b (norm w t)) x → tested_by w to x v ≡ Ok tt → Partner w v to x (ToCell (Flag n)) (filled b t)
  flag_partner n t to x h f l c j i p a e =
      let g = goal_is to (Flag n) p in
      let o = done_ok (marked w x v) (subst (λ (y : Goal). tested_by w y x v ≡ Ok tt) g e) in
      let r = marked_same t x o.0 h f l c j a o.1 in
      subst (λ (y : Goal). Partner w v y x (ToCell (Flag n)) (filled b t)) (sym g)
      (cells (Flag n) x (filled b t) (r ∙ sym o.1) (input_dry t x h (dry_of t i) a) (ap done r))

  jump_partner : (t : Tree) (to : Goal) (x : Tree) → IsHeld w b t → free_of Taken t ≡ true → IsAlike (Read Pc) (goal_tree to) → IsAlike (filled b (norm w t)) x
      → (to ≡ ToCell Pc → IsNumberless x) → tested_by w to x v ≡ Ok tt → Partner w v to x (ToCell Pc) (norm w (filled b t))
  jump_partner t to x h i p a n e =
      let g = goal_is to Pc p in
      let o = done_ok (jump w x v) (subst (λ (y : Goal). tested_by w y x v ≡ Ok tt) g e) in
      let r = jump_same t x o.0 h (n g) a o.1 in
      let dry = norm_dry w (filled b t) (filled_dry w b t h (dry_of t i)) in
      let old = alike_dry (filled b (norm w t)) x a (filled_dry w b (norm w t) (norm_held w b t h) (norm_dry w t (dry_of t i))) in
      subst (λ (y : Goal). Partner w v y x (ToCell Pc) (norm w (filled b t))) (sym g)
      (cells Pc x (norm w (filled b t)) (r ∙ sym o.1) (dry_input x (norm w (filled b t)) old dry) (ap done r))

  output_partner : (t : Tree) (to : Goal) (x : Tree) → IsHeld w b t → IsFitting w t → IsWordTree (filled b t) → free_of Taken t ≡ true
      → IsAlike (Read Output) (goal_tree to) → IsAlike (filled b (norm w t)) x → tested_by w to x v ≡ Ok tt → Partner w v to x (ToCell Output) (filled b t)
  output_partner t to x h f s i p a e =
      let g = goal_is to Output p in
      let r = event_done t x h f s a (subst (λ (y : Goal). tested_by w y x v ≡ Ok tt) g e) in
      subst (λ (y : Goal). Partner w v y x (ToCell Output) (filled b t)) (sym g) (cells Output x (filled b t) r.0 (input_dry t x h (dry_of t i) a) r.1)

  halt_partner : (t : Tree) (to : Goal) (x : Tree) → IsHeld w b t → IsFitting w t → IsWordTree (filled b t) → free_of Taken t ≡ true
      → IsAlike (Read Halt) (goal_tree to) → IsAlike (filled b (norm w t)) x → tested_by w to x v ≡ Ok tt → Partner w v to x (ToCell Halt) (filled b t)
  halt_partner t to x h f s i p a e =
      let g = goal_is to Halt p in
      let r = event_done t x h f s a (subst (λ (y : Goal). tested_by w y x v ≡ Ok tt) g e) in
      subst (λ (y : Goal). Partner w v y x (ToCell Halt) (filled b t)) (sym g) (cells Halt x (filled b t) r.0 (input_dry t x h (dry_of t i) a) r.1)

  -- what is stored

  record Value (d : Width) (t x : Tree) (u : Option ℕ) : Type 0 where
    value : Option ℕ
    is : seen w (filled b t) v ≡ Ok value
    alike : StoredAlike d u value

  value_of : (d : Width) (a t x : Tree) (u : Option ℕ) → IsHeld w b t → IsFitting w t → IsWordTree (filled b t)
      → IsAlike (filled b (norm_value w (ToMemory d a) t)) x → seen w x v ≡ Ok u → Value d t x u
  value_of Full a t x u h f s i e = record { value = u; is = word_same t x u h f s i e; alike = whole Full u }
  value_of Byte a t x u h f s i e =
      let p = stored_same (norm w t) u (alike_seen w v (filled b (stored_byte (norm w t))) x u i e) in
      record { value = p.0; is = sym (filled_form_seen w b t v z k h f s) ∙ p.1; alike = p.2 }

  stored_alike_dry : (d : Width) (a t x : Tree) → IsHeld w b t → IsDry t → IsAlike (filled b (norm_value w (ToMemory d a) t)) x → IsDry x
  stored_alike_dry Full a t x h d i = alike_dry (filled b (norm w t)) x i (filled_dry w b (norm w t) (norm_held w b t h) (norm_dry w t d))
  stored_alike_dry Byte a t x h d i =
      alike_dry (filled b (stored_byte (norm w t))) x i
      (filled_dry w b (stored_byte (norm w t)) (stored_held (norm w t) (norm_held w b t h)) (stored_dry (norm w t) (norm_dry w t d)))
    where
      stored_held : (s : Tree) → IsHeld w b s → IsHeld w b (stored_byte s)
      stored_held (Unary Sxb c) q = q
      stored_held (Binary And c (Number n)) q =
          elim (n == 255) as (λ y. IsHeld w b (cond y c (Binary And c (Number n)))) [ true ↦ q.0 | false ↦ q ]
      stored_held _ q = q

  store_partner : (d : Width) (c t : Tree) (to : Goal) (x : Tree) → IsHeld w b c → IsHeld w b t → IsFitting w c → IsFitting w t → IsWordTree (filled b c)
      → IsWordTree (filled b t) → IsDry t → IsAlike (Load d (filled b (norm w c))) (goal_tree to) → IsAlike (filled b (norm_value w (ToMemory d c) t)) x
      → tested_by w to x v ≡ Ok tt → Partner w v to x (ToMemory d (filled b c)) (filled b t)
  store_partner d c t to x hc ht fc ft sc st i p a e =
      let l = alike_load d (filled b (norm w c)) (goal_tree to) p in
      let g = memory_is d (filled b (norm w c)) to l in
      let q = bound (seen w x v) (λ y. done (place_of w d l.at v)) tt (subst (λ (y : Goal). tested_by w y x v ≡ Ok tt) g e) in
      let at = done_ok (place_of w d l.at v) q.rest in
      let n = bound (seen w l.at v) (touched (width_of w d) v) at.0 at.1 in
      let new = word_same c l.at n.value hc fc sc l.alike n.is in
      let s = value_of d c t x q.value ht ft st a q.is in
      subst (λ (y : Goal). Partner w v y x (ToMemory d (filled b c)) (filled b t)) (sym g)
      (stores d l.at (filled b c) x (filled b t) at.0 q.value s.value at.1 (ap (λ (r : Seen). bind r (touched (width_of w d) v)) new ∙ n.rest) q.is s.is s.alike
      (dry_input x (filled b t) (stored_alike_dry d c t x ht i a) (filled_dry w b t ht i)))

  -- an assignment of the row by the kind of its place
  partner_at : (g : Goal) (t : Tree) (to : Goal) (x : Tree) → IsHeld w b (goal_tree g) → IsHeld w b t → IsGoalFitting w g → IsFitting w t
      → compares_for_flag g t ≡ true → tests_flags g t ≡ true → jumps_by_counter g t ≡ true → takes_for_register g t ≡ true
      → IsAlike (filled b (goal_tree (norm_goal w g))) (goal_tree to) → IsAlike (filled b (norm_value w g t)) x → (to ≡ ToCell Pc → IsNumberless x)
      → tested_by w to x v ≡ Ok tt → Partner w v to x (filled_goal b g) (jump_in_form w (filled_goal b g) (filled b t))
  partner_at (ToCell (Hard n)) t to x q h y f c l j i p a m e = hard_partner n t to x h f (word_filled w b t h l c j) i p a e
  partner_at (ToCell (Temp n)) t to x q h y f c l j i p a m e = temp_partner n t to x h f (word_filled w b t h l c j) i p a e
  partner_at (ToCell (RegisterHole n)) t to x q h y f c l j i p a m e = hole_partner n (slice_get b n) t to x q h f (word_filled w b t h l c j) i p a e
  partner_at (ToCell (Flag n)) t to x q h y f c l j i p a m e = flag_partner n t to x h f l c j i p a e
  partner_at (ToCell Pc) t to x q h y f c l j i p a m e = jump_partner t to x h i p a m e
  partner_at (ToCell Input) t to x q h y f c l j i p a m e = absurd (clash i)
    where
      clash : false ≡ true → ⊥
      clash e = cc
  partner_at (ToCell Output) t to x q h y f c l j i p a m e = output_partner t to x h f (word_filled w b t h l c j) i p a e
  partner_at (ToCell Halt) t to x q h y f c l j i p a m e = halt_partner t to x h f (word_filled w b t h l c j) i p a e
  partner_at (ToMemory d s) t to x q h y f c l j i p a m e =
      let cs = and_true _ _ c in
      let ls = and_true _ _ l in
      let js = and_true _ _ j in
      store_partner d s t to x q h y f (word_filled w b s q ls.0 cs.0 js.0) (word_filled w b t h ls.1 cs.1 js.1) (dry_of t (and_true _ _ i).1) p a e

  pub partner_of : (e m : Move) → IsHeldMove w b e → IsMoveFitting w e → IsPlaced e → IsAlikeMove b (norm_move w e) m → (m.to ≡ ToCell Pc → IsNumberless m.value)
      → tested_by w m.to m.value v ≡ Ok tt → Partner w v m.to m.value (filled_goal b e.to) (jump_in_form w (filled_goal b e.to) (filled b e.value))
  partner_of e m h f p a n r =
      partner_at e.to e.value m.to m.value h.place h.value f.0 f.1 p.flags p.tests p.jumps p.input a.place a.value n r
