-- A row that does a transfer makes one that does it too.
use Rattle.std.proofs.Common.{◌≡◌, ℕ, zero, suc, ◌+◌, ◌-◌, ◌*◌, ◌/◌, ◌%◌, ◌^◌, ◌<◌, ◌≤◌, Bool, true, false, not, ◌&&◌, ◌||◌, cond, List, [], ◌∷◌, map, set, length, slice_get, Option, Some, None, Result, Ok, Err, All, refl, sym, subst, ap, ◌∙◌, arith, ◌⊎◌, inl, inr}
use Rattle.std.specs.Prelude.{option_map, ◌==◌, nat_le, nat_lt, if◌then◌else◌, AllPairs, get_or, slice_index_or}
use Rattle.std.proofs.lemmas.Bool.Decides.{nat_tests}
use Rattle.std.proofs.lemmas.Option.{slice_get_within, get_or_from_slice_get, slice_get-map}
use Rattle.rtl_word.specs.Words.{IsWordSize}
use Rattle.rtl_tree.specs.declared.cells.Cell.{Cell}
use Rattle.rtl_tree.specs.declared.cells.Cell.TheVariants.{Hard, Temp, Flag, Pc, Input, Output, Halt, Hole as RegisterHole}
use Rattle.rtl_tree.specs.declared.expressions.Width.{Width}
use Rattle.rtl_tree.specs.declared.expressions.Width.TheVariants.{Byte, Full}
use Rattle.rtl_tree.specs.declared.expressions.UnOp.TheVariants.{Sxb}
use Rattle.rtl_tree.specs.declared.expressions.BinOp.TheVariants.{And}
use Rattle.rtl_tree.specs.declared.constructs.Construct.TheVariants.{Compared, Jump}
use Rattle.rtl_tree.specs.Trees.{Tree, Number, Read, Unary, Binary}
use Rattle.rtl_tree.specs.Moves.{Goal, ToCell, ToMemory, Move}
use Rattle.rtl_tree.specs.Same.{same_cell}
use Rattle.rtl_tree.specs.WellFormed.{is_construct, free_of, free_below, flags_tested, tests_flags, compares_for_flag, jumps_by_counter, same_goal_cell, set_apart, IsPlaced, IsWellFormed}
use Rattle.rtl_tree.proofs.Equality.{same_cell-own}
use Rattle.rtl_norm.specs.Transfers.{stored_byte, norm_goal, norm_value, norm_move, norm_moves, IsMoveFitting}
use Rattle.rtl_norm.specs.Normal.{norm}
use Rattle.rtl_effect.specs.Views.{Stop, Mark, View, Seen, bind, width_of, seen}
use Rattle.rtl_effect.specs.Effects.{needed, done, assigned, Storing, storing, is_input, takes, marked, jump, valued, tested_cell, place_of, tested_by, tested, Patch, patch_of, byte_of, patched, plain, plain_mark, cell_after, mark_after, event, went, input_after, cells_after, Done, view_after, effect}
use Rattle.rtl_norm_value.specs.Kept.{IsWordView}
use Rattle.rtl_norm_value.specs.Effect.{jump_in_form, with_normal_jump}
use Rattle.md_rows.specs.declared.instance.Bound.{Bound}
use Rattle.md_rows.specs.declared.instance.Bound.TheVariants.{Reg, Num, Sym, Label}
use Rattle.md_rows.specs.Instances.{register_by, filled, filled_goal, filled_move}
use Rattle.md_filled.specs.Held.{IsRegister, IsHeld}
use Rattle.md_filled.proofs.Rewriting.{norm_held}
use Rattle.md_filled.proofs.Sorted.{and_true}
use Rattle.md_match.specs.Searches.{Marks, no_marks, is_marked, goal_tree, is_flag_of, occurs_by, occurs_in_move}
use Rattle.md_match.specs.Does.{IsAlikeMove, Takes, all_taken, taken, IsMarked, AllTraps, IsPartOfMarked}
use Rattle.md_filled.specs.Doing.{IsSameBut, DoesAs, IsHeldMove, IsRowFilled, IsSimple, RowDoesAs}
use Rattle.md_filled.proofs.Alike.{bound, ok_is, stop_is_no_ok}
use Rattle.md_filled.proofs.Lookups.{Among, Assigns, assigned_from, assigned_some, Stores, stored_from, IsStore, stored_some, Takes as TakesInput, takes_from, takes_some, tested_each, tested_all}
use Rattle.md_filled.proofs.Partner.{StoredAlike, whole, low, CellSame, Partner, cells, stores, partner_of}
use Rattle.md_filled.proofs.Traps.{IsTrapNode, IsSeen}
use Rattle.md_filled.proofs.Others.{part_of_value, part_of_place, fine_flag}

-- lists

pub none_some : {A : Type 0} (x : A) → None ≡ Some x → ⊥
none_some x e = cc

pub some_same : {A : Type 0} (x y : A) → Some x ≡ Some y → x ≡ y
some_same x y e = cc

pub mapped : {A B : Type 0} (f : A → B) (xs : List A) (i : ℕ) (x : A) → slice_get xs i ≡ Some x → slice_get (map f xs) i ≡ Some (f x)
mapped f xs i x e = slice_get-map f xs i ∙ ap (option_map f) e

pub record Comes {A B : Type 0} (f : A → B) (o : Option A) (y : B) : Type 0 where
  pub from : A
  pub is : o ≡ Some from
  pub to : f from ≡ y

comes : {A B : Type 0} (f : A → B) (o : Option A) (y : B) → option_map f o ≡ Some y → Comes f o y
comes f (Some x) y e = record { from = x; is = refl; to = some_same (f x) y e }
comes f None y e = absurd (none_some y e)

pub unmapped : {A B : Type 0} (f : A → B) (xs : List A) (i : ℕ) (y : B) → slice_get (map f xs) i ≡ Some y → Comes f (slice_get xs i) y
unmapped f xs i y e = comes f (slice_get xs i) y (sym (slice_get-map f xs i) ∙ e)

pub all_at : {A : Type 0} (P : A → Type 0) (xs : List A) (i : ℕ) (x : A) → All P xs → slice_get xs i ≡ Some x → P x
all_at P xs i x a e = subst P (get_or_from_slice_get xs i x x e) (a i x (slice_get_within xs i x e))

-- marks

marked_other : (used : Marks) (j k : ℕ) → (k ≡ j → ⊥) → is_marked used k ≡ false → is_marked (set used j true) k ≡ false
marked_other [] j k n e = e
marked_other (u ∷ us) zero zero n e = absurd (n refl)
marked_other (u ∷ us) zero (suc k) n e = e
marked_other (u ∷ us) (suc j) zero n e = e
marked_other (u ∷ us) (suc j) (suc k) n e = marked_other us j k (λ q. n (ap suc q)) e

-- an assignment of a transfer, and the row's to which it is alike
pub record Pair (row : List Move) (b : List Bound) (es : List Move) (i : ℕ) : Type 0 where
  pub row_move : Move
  pub row_is : slice_get row i ≡ Some row_move
  pub move : Move
  pub among : Among es move
  pub alike : IsAlikeMove b row_move move

behind : (row : List Move) (b : List Bound) (e : Move) (es : List Move) (i : ℕ) → Pair row b es i → Pair row b (e ∷ es) i
behind row b e es i p = record {
  row_move = p.row_move;
  row_is = p.row_is;
  move = p.move;
  among = record { place = suc p.among.place; is = p.among.is };
  alike = p.alike;
}

same_or_not : (m n : ℕ) → (m ≡ n) ⊎ (m ≡ n → ⊥)
same_or_not m n = by (m == n) refl
  where
    by : (k : Bool) → m == n ≡ k → (m ≡ n) ⊎ (m ≡ n → ⊥)
    by true e = inl (grind (arith, nat_tests, e))
    by false e = inr (λ q. absurd (grind (arith, nat_tests, e, q)))

clash : (k : Bool) → k ≡ true → k ≡ false → ⊥
clash k e f = let q : true ≡ false = sym e ∙ f in cc

-- each of the row's that has a mark
pub of_marked : (row : List Move) (b : List Bound) (es : List Move) (used left : Marks) (i : ℕ) → Takes row b used es left → is_marked left i ≡ true
    → is_marked used i ≡ false → Pair row b es i
of_marked row b _ _ _ i (all_taken used) e f = absurd (clash (is_marked used i) e f)
of_marked row b _ _ _ i (taken m es j r used left is free alike rest) e f = elim (same_or_not i j) [
  | inl q ↦ record {
    row_move = r;
    row_is = ap (slice_get row) q ∙ is;
    move = m;
    among = record { place = 0; is = refl };
    alike = alike;
  }
  | inr n ↦ behind row b m es i (of_marked row b es (set used j true) left i rest e (marked_other used j i n f))
]

-- the row's to which an assignment is alike
pub record Found (row : List Move) (b : List Bound) (m : Move) : Type 0 where
  pub place : ℕ
  pub row_move : Move
  pub row_is : slice_get row place ≡ Some row_move
  pub alike : IsAlikeMove b row_move m

pub of_move : (row : List Move) (b : List Bound) (es : List Move) (used left : Marks) (i : ℕ) (m : Move) → Takes row b used es left → slice_get es i ≡ Some m
    → Found row b m
of_move row b _ _ _ i m (all_taken used) e = absurd (none_some m e)
of_move row b _ _ _ zero m (taken n es j r used left is free alike rest) e =
    record { place = j; row_move = r; row_is = is; alike = subst (IsAlikeMove b r) (some_same n m e) alike }
of_move row b _ _ _ (suc i) m (taken n es j r used left is free alike rest) e = of_move row b es (set used j true) left i m rest e

-- partners, by their places

partner_tested : (w : ℕ) (v : View) (g h : Goal) (t u : Tree) → Partner w v g t h u → tested_by w h u v ≡ Ok tt
partner_tested w v _ _ _ _ (cells c t u s i e) = e
partner_tested w v _ _ _ _ (stores d a c t u p x y e f i j k n) =
    ap (λ r. bind r (λ q. done (place_of w d c v))) j ∙ ap (λ r. done r) f

partner_input : (w : ℕ) (v : View) (g h : Goal) (t u : Tree) → Partner w v g t h u → is_input u ≡ is_input t
partner_input w v _ _ _ _ (cells c t u s i e) = i
partner_input w v _ _ _ _ (stores d a c t u p x y e f i j k n) = n

goal_cell : (c d : Cell) → (let g : Goal = ToCell c in g ≡ ToCell d) → c ≡ d
goal_cell c d e = cc

record AtCell (w : ℕ) (v : View) (g h : Goal) (t u : Tree) (c : Cell) : Type 0 where
  old : g ≡ ToCell c
  new : h ≡ ToCell c
  same : CellSame w v c t u

partner_new : (w : ℕ) (v : View) (g h : Goal) (t u : Tree) (c : Cell) → Partner w v g t h u → h ≡ ToCell c → AtCell w v g h t u c
partner_new w v _ _ _ _ c (cells d t u s i e) q =
    let k = goal_cell d c q in record { old = q; new = q; same = subst (λ (x : Cell). CellSame w v x t u) k s }
partner_new w v _ _ _ _ c (stores d a f t u p x y e g i j k n) q = absurd (cc)

partner_old : (w : ℕ) (v : View) (g h : Goal) (t u : Tree) (c : Cell) → Partner w v g t h u → g ≡ ToCell c → AtCell w v g h t u c
partner_old w v _ _ _ _ c (cells d t u s i e) q =
    let k = goal_cell d c q in record { old = q; new = q; same = subst (λ (x : Cell). CellSame w v x t u) k s }
partner_old w v _ _ _ _ c (stores d a f t u p x y e g i j k n) q = absurd (cc)

record AtStore (w : ℕ) (v : View) (g h : Goal) (t u : Tree) : Type 0 where
  width : Width
  old_at : Tree
  new_at : Tree
  old : g ≡ ToMemory width old_at
  new : h ≡ ToMemory width new_at
  address : ℕ
  old_value : Option ℕ
  new_value : Option ℕ
  old_place : place_of w width old_at v ≡ Ok address
  new_place : place_of w width new_at v ≡ Ok address
  old_is : seen w t v ≡ Ok old_value
  new_is : seen w u v ≡ Ok new_value
  alike : StoredAlike width old_value new_value

partner_stores : (w : ℕ) (v : View) (g h : Goal) (t u : Tree) → Partner w v g t h u → IsStore g ⊎ IsStore h → AtStore w v g h t u
partner_stores w v _ _ _ _ (cells d t u s i e) (inl q) = let k = q.is in absurd (cc)
partner_stores w v _ _ _ _ (cells d t u s i e) (inr q) = let k = q.is in absurd (cc)
partner_stores w v _ _ _ _ (stores d a c t u p x y e f i j k n) q = record {
  width = d;
  old_at = a;
  new_at = c;
  old = refl;
  new = refl;
  address = p;
  old_value = x;
  new_value = y;
  old_place = e;
  new_place = f;
  old_is = i;
  new_is = j;
  alike = k;
}

pub no_mark : (i : ℕ) → is_marked no_marks i ≡ false
no_mark zero = refl
no_mark (suc zero) = refl
no_mark (suc (suc zero)) = refl
no_mark (suc (suc (suc zero))) = refl
no_mark (suc (suc (suc (suc zero)))) = refl
no_mark (suc (suc (suc (suc (suc zero))))) = refl
no_mark (suc (suc (suc (suc (suc (suc i)))))) = refl

abbrev NotFlag : Cell → Type 0
NotFlag (Flag n) = ⊥
NotFlag _ = Unit {0}

abbrev LookSame : ℕ → View → Cell → Option Tree → Option Tree → Type 0
LookSame w v c None None = Unit {0}
LookSame w v c (Some t) (Some u) = CellSame w v c t u
LookSame w v c _ _ = ⊥

pub record FlagGoal (g : Goal) : Type 0 where
  pub flag : ℕ
  pub is : g ≡ ToCell (Flag flag)

unlike : false ≡ true → ⊥
unlike e = cc

pub flag_goal : (w : ℕ) (g : Goal) → is_flag_of 255 (norm_goal w g) ≡ true → FlagGoal g
flag_goal w (ToCell (Flag n)) e = record { flag = n; is = refl }
flag_goal w (ToCell (Hard n)) e = absurd (unlike e)
flag_goal w (ToCell (Temp n)) e = absurd (unlike e)
flag_goal w (ToCell Pc) e = absurd (unlike e)
flag_goal w (ToCell Input) e = absurd (unlike e)
flag_goal w (ToCell Output) e = absurd (unlike e)
flag_goal w (ToCell Halt) e = absurd (unlike e)
flag_goal w (ToCell (RegisterHole n)) e = absurd (unlike e)
flag_goal w (ToMemory d a) e = absurd (unlike e)

-- a place that is a flag once it is filled is that flag
no_flag : (h n : ℕ) (o : Option Bound) → IsRegister o → (let g : Goal = ToCell (register_by (RegisterHole h) o) in g ≡ ToCell (Flag n)) → ⊥
no_flag h n (Some (Reg (Hard m))) r e = cc
no_flag h n (Some (Reg (Temp m))) r e = cc
no_flag h n (Some (Reg (Flag m))) r e = absurd r
no_flag h n (Some (Reg Pc)) r e = absurd r
no_flag h n (Some (Reg Input)) r e = absurd r
no_flag h n (Some (Reg Output)) r e = absurd r
no_flag h n (Some (Reg Halt)) r e = absurd r
no_flag h n (Some (Reg (RegisterHole m))) r e = absurd r
no_flag h n (Some (Num m)) r e = absurd r
no_flag h n (Some (Sym m)) r e = absurd r
no_flag h n (Some (Label l)) r e = absurd r
no_flag h n None r e = absurd r

flag_filled : (w : ℕ) (b : List Bound) (g : Goal) (n : ℕ) → IsHeld w b (goal_tree g) → filled_goal b g ≡ ToCell (Flag n) → g ≡ ToCell (Flag n)
flag_filled w b (ToCell (RegisterHole h)) n i e = absurd (no_flag h n (slice_get b h) i e)
flag_filled w b (ToCell (Hard m)) n i e = e
flag_filled w b (ToCell (Temp m)) n i e = e
flag_filled w b (ToCell (Flag m)) n i e = e
flag_filled w b (ToCell Pc) n i e = e
flag_filled w b (ToCell Input) n i e = e
flag_filled w b (ToCell Output) n i e = e
flag_filled w b (ToCell Halt) n i e = e
flag_filled w b (ToMemory d a) n i e = absurd (cc)

stored_held : (w : ℕ) (b : List Bound) (s : Tree) → IsHeld w b s → IsHeld w b (stored_byte s)
stored_held w b (Unary Sxb c) q = q
stored_held w b (Binary And c (Number n)) q =
    elim (n == 255) as (λ y. IsHeld w b (cond y c (Binary And c (Number n)))) [ true ↦ q.0 | false ↦ q ]
stored_held w b _ q = q

goal_held : (w : ℕ) (b : List Bound) (g : Goal) → IsHeld w b (goal_tree g) → IsHeld w b (goal_tree (norm_goal w g))
goal_held w b (ToCell c) h = h
goal_held w b (ToMemory d a) h = norm_held w b a h

value_held : (w : ℕ) (b : List Bound) (g : Goal) (t : Tree) → IsHeld w b t → IsHeld w b (norm_value w g t)
value_held w b (ToCell c) t h = norm_held w b t h
value_held w b (ToMemory Full a) t h = norm_held w b t h
value_held w b (ToMemory Byte a) t h = stored_held w b (norm w t) (norm_held w b t h)

pub move_held : (w : ℕ) (b : List Bound) (e : Move) → IsHeldMove w b e → IsHeldMove w b (norm_move w e)
move_held w b e h = record { place = goal_held w b e.to h.place; value = value_held w b e.to e.value h.value }

either_of : (p q : Bool) → (p || q) ≡ true → (p ≡ true) ⊎ (q ≡ true)
either_of true q e = inl refl
either_of false q e = inr e

-- bytes of what is stored alike
byte_alike : (x y k : ℕ) → k ≡ 0 → x % 256 ≡ y % 256 → y / 256 ^ k % 256 ≡ x / 256 ^ k % 256
byte_alike x y k z e =
    subst (λ (n : ℕ). y / 256 ^ n % 256 ≡ x / 256 ^ n % 256) (sym z) (omega (arith, e))

patch_with : (w : ℕ) (v : View) (d : Width) (x y : Option ℕ) (p a : ℕ) → StoredAlike d x y
    → patched (Some (record { at = p; count = width_of w d; value = y })) v.bytes a ≡ patched (Some (record { at = p; count = width_of w d; value = x })) v.bytes a
patch_with w v _ _ _ p a (whole d x) = refl
patch_with w v _ _ _ p a (low x y e) = by (nat_le p a && nat_lt a (p + 1)) refl
  where
    within : (nat_le p a && nat_lt a (p + 1)) ≡ true → a - p ≡ 0
    within e = grind (arith, nat_tests, e)

    by : (k : Bool) → (nat_le p a && nat_lt a (p + 1)) ≡ k → (if k then byte_of (Some y) (a - p) else v.bytes a) ≡ (if k then byte_of (Some x) (a - p) else v.bytes a)
    by true q = ap (λ (n : ℕ). Some n) (byte_alike x y (a - p) (within q) e)
    by false q = refl

module _ (w : ℕ) (b : List Bound) (effects es : List Move) (marks : Marks) (z : IsWordSize w) (row : IsRowFilled w b effects) (simple : IsSimple es)
    (taking : Takes (norm_moves w effects) b no_marks es marks)
    (others : (r : Move) → IsMarked (norm_moves w effects) marks false r → is_flag_of 255 r.to ≡ true)
    (traps : (r : Move) → IsMarked (norm_moves w effects) marks false r → AllTraps (IsPartOfMarked (norm_moves w effects) marks b) r.value)
    (v : View) (k : IsWordView w v) (fine : tested w es v ≡ Ok tt) where
  abbrev made : Move → Move
  made e = record { to = filled_goal b e.to; value = jump_in_form w (filled_goal b e.to) (filled b e.value) }

  abbrev new : List Move
  new = map made effects

  record Partnered (e : Move) : Type 0 where
    move : Move
    among : Among es move
    partner : Partner w v move.to move.value (made e).to (made e).value

  record Other (e : Move) : Type 0 where
    flag : ℕ
    to : e.to ≡ ToCell (Flag flag)
    made_well : tested_cell w (Flag flag) (filled b e.value) v ≡ Ok tt

  held_at : (i : ℕ) (e : Move) → slice_get effects i ≡ Some e → IsHeldMove w b e
  held_at i e is = all_at (IsHeldMove w b) effects i e row.held is

  fits_at : (i : ℕ) (e : Move) → slice_get effects i ≡ Some e → IsMoveFitting w e
  fits_at i e is = all_at (IsMoveFitting w) effects i e row.numbers is

  placed_at : (i : ℕ) (e : Move) → slice_get effects i ≡ Some e → IsPlaced e
  placed_at i e is = all_at IsPlaced effects i e row.formed.placed is

  with_partner : (i : ℕ) (e m : Move) → slice_get effects i ≡ Some e → Among es m → IsAlikeMove b (norm_move w e) m
      → Partner w v m.to m.value (made e).to (made e).value
  with_partner i e m is a alike =
      partner_of w b v z k e m (held_at i e is) (fits_at i e is) (placed_at i e is) alike (λ q. simple.jump a.place m a.is q) (tested_each w es v m fine a)

  -- what can trap beside the marked assignments is seen
  part_is_seen : (x : Tree) → IsTrapNode x → IsPartOfMarked (norm_moves w effects) marks b x → IsSeen w b v (filled b x)
  part_is_seen x n p =
      let q = of_marked (norm_moves w effects) b es no_marks marks p.marked.place taking p.marked.marked (no_mark p.marked.place) in
      let same : q.row_move ≡ p.move = some_same _ _ (sym q.row_is ∙ p.marked.is) in
      let from = unmapped (norm_move w) effects p.marked.place p.move p.marked.is in
      let held = subst (IsHeldMove w b) from.to (move_held w b from.from (held_at p.marked.place from.from from.is)) in
      let alike = subst (λ (r : Move). IsAlikeMove b r q.move) same q.alike in
      let test = tested_each w es v q.move fine q.among in
      elim (either_of (occurs_by (filled b) x (goal_tree p.move.to)) (occurs_by (filled b) x p.move.value) p.part) [
        | inl o ↦ part_of_place w b v q.move.to q.move.value p.move.to x n held.place alike.place test o
        | inr o ↦ part_of_value w b v q.move.to q.move.value p.move.value x n held.value alike.value test o
      ]

  record FlagFacts (t : Tree) (s : Tree) : Type 0 where
    tests : flags_tested t ≡ true
    compares : is_construct Compared t && free_below Compared t ≡ true
    jumps : free_of Jump t ≡ true
    parts : AllTraps (IsPartOfMarked (norm_moves w effects) marks b) s

  facts_by : (g : Goal) (t : Tree) (n : ℕ) → g ≡ ToCell (Flag n) → tests_flags g t ≡ true → compares_for_flag g t ≡ true → jumps_by_counter g t ≡ true
      → AllTraps (IsPartOfMarked (norm_moves w effects) marks b) (norm_value w g t) → FlagFacts t (norm w t)
  facts_by g t n q e c j a =
      record {
        tests = subst (λ (x : Goal). tests_flags x t ≡ true) q e;
        compares = subst (λ (x : Goal). compares_for_flag x t ≡ true) q c;
        jumps = subst (λ (x : Goal). jumps_by_counter x t ≡ true) q j;
        parts = subst (λ (x : Goal). AllTraps (IsPartOfMarked (norm_moves w effects) marks b) (norm_value w x t)) q a;
      }

  other_at : (i : ℕ) (e : Move) → slice_get effects i ≡ Some e → is_marked marks i ≡ false → Other e
  other_at i e is q =
      let m : IsMarked (norm_moves w effects) marks false (norm_move w e) = record { place = i; is = mapped (norm_move w) effects i e is; marked = q } in
      let g = flag_goal w e.to (others (norm_move w e) m) in
      let p = placed_at i e is in
      let f = facts_by e.to e.value g.flag g.is p.tests p.flags p.jumps (traps (norm_move w e) m) in
      record {
        flag = g.flag;
        to = g.is;
        made_well = fine_flag w b v z k (IsPartOfMarked (norm_moves w effects) marks b) g.flag e.value (held_at i e is).value (fits_at i e is).1
            f.tests f.compares f.jumps f.parts part_is_seen;
      }

  kind : (i : ℕ) (e : Move) → slice_get effects i ≡ Some e → Partnered e ⊎ Other e
  kind i e is = by (is_marked marks i) refl
    where
      by : (q : Bool) → is_marked marks i ≡ q → Partnered e ⊎ Other e
      by true q =
          let p = of_marked (norm_moves w effects) b es no_marks marks i taking q (no_mark i) in
          let same : p.row_move ≡ norm_move w e = some_same _ _ (sym p.row_is ∙ mapped (norm_move w) effects i e is) in
          inl (record { move = p.move; among = p.among; partner = with_partner i e p.move is p.among (subst (λ (r : Move). IsAlikeMove b r p.move) same p.alike) })
      by false q = inr (other_at i e is q)

  record PartnerFor (m : Move) : Type 0 where
    place : ℕ
    effect : Move
    is : slice_get effects place ≡ Some effect
    partner : Partner w v m.to m.value (made effect).to (made effect).value

  partner_for : (m : Move) → Among es m → PartnerFor m
  partner_for m a =
      let f = of_move (norm_moves w effects) b es no_marks marks a.place m taking a.is in
      let from = unmapped (norm_move w) effects f.place f.row_move f.row_is in
      let p = with_partner f.place from.from m from.is a (subst (λ (r : Move). IsAlikeMove b r m) (sym from.to) f.alike) in
      record { place = f.place; effect = from.from; is = from.is; partner = p }

  other_tested : (g : Goal) (t : Tree) (n : ℕ) → g ≡ ToCell (Flag n) → tested_cell w (Flag n) (filled b t) v ≡ Ok tt
      → tested_by w (filled_goal b g) (jump_in_form w (filled_goal b g) (filled b t)) v ≡ Ok tt
  other_tested g t n q e =
      subst (λ (x : Goal). tested_by w (filled_goal b x) (jump_in_form w (filled_goal b x) (filled b t)) v ≡ Ok tt) (sym q) e

  all_tested : tested w new v ≡ Ok tt
  all_tested = tested_all w new v (λ n a.
      let from = unmapped made effects a.place n a.is in
      subst (λ (x : Move). tested_by w x.to x.value v ≡ Ok tt) from.to (elim (kind a.place from.from from.is) [
        | inl p ↦ partner_tested w v p.move.to (made from.from).to p.move.value (made from.from).value p.partner
        | inr o ↦ other_tested from.from.to from.from.value o.flag o.to o.made_well
      ]))

  -- what is assigned to a cell

  record NewAt (c : Cell) (u : Tree) : Type 0 where
    move : Move
    among : Among es move
    to : move.to ≡ ToCell c
    same : CellSame w v c move.value u

  is_flag_cell : (c : Cell) (n : ℕ) → NotFlag c → (let g : Goal = ToCell (Flag n) in g ≡ ToCell c) → ⊥
  is_flag_cell c n h e = subst NotFlag (sym (goal_cell (Flag n) c e)) h

  found_new : (c : Cell) (u : Tree) → NotFlag c → assigned new c ≡ Some u → NewAt c u
  found_new c u h f =
      let a = assigned_from new c u f in
      let from = unmapped made effects a.among.place a.move a.among.is in
      let to : (made from.from).to ≡ ToCell c = ap (λ (x : Move). x.to) from.to ∙ a.to in
      let value : (made from.from).value ≡ u = ap (λ (x : Move). x.value) from.to ∙ a.value in
      elim (kind a.among.place from.from from.is) [
        | inl p ↦ (let at = partner_new w v p.move.to (made from.from).to p.move.value (made from.from).value c p.partner to in
            record { move = p.move; among = p.among; to = at.old; same = subst (CellSame w v c p.move.value) value at.same })
        | inr o ↦ absurd (is_flag_cell c o.flag h (sym (ap (filled_goal b) o.to) ∙ to))
      ]

  look_both : (c : Cell) (t u : Tree) → NotFlag c → assigned es c ≡ Some t → assigned new c ≡ Some u → CellSame w v c t u
  look_both c t u h e f =
      let n = found_new c u h f in
      let a = assigned_from es c t e in
      let same = simple.once n.among.place a.among.place n.move a.move c n.among.is a.among.is n.to a.to in
      subst (λ (x : Tree). CellSame w v c x u) (ap (λ (x : Move). x.value) same ∙ a.value) n.same

  look_missing : (c : Cell) (t : Tree) → assigned es c ≡ Some t → assigned new c ≡ None → ⊥
  look_missing c t e f =
      let a = assigned_from es c t e in
      let p = partner_for a.move a.among in
      let at = partner_old w v a.move.to (made p.effect).to a.move.value (made p.effect).value c p.partner a.to in
      assigned_some new c (made p.effect) (record { place = p.place; is = mapped made effects p.place p.effect p.is }) at.new f

  look : (c : Cell) → NotFlag c → LookSame w v c (assigned es c) (assigned new c)
  look c h = by (assigned es c) (assigned new c) refl refl
    where
      by : (o p : Option Tree) → assigned es c ≡ o → assigned new c ≡ p → LookSame w v c o p
      by (Some t) (Some u) e f = look_both c t u h e f
      by (Some t) None e f = absurd (look_missing c t e f)
      by None (Some u) e f = (let n = found_new c u h f in absurd (assigned_some es c n.move n.among n.to e))
      by None None e f = tt

  -- a flag

  set_twice : (i j n : ℕ) (e f : Move) → i < j → slice_get effects i ≡ Some e → slice_get effects j ≡ Some f → e.to ≡ ToCell (Flag n) → f.to ≡ ToCell (Flag n) → ⊥
  set_twice i j n e f l p q g h =
      let apart : set_apart e f ≡ true =
      subst (λ (x : Move). set_apart x f ≡ true) (get_or_from_slice_get effects i e e p)
      (subst (λ (x : Move). set_apart (slice_index_or effects i e) x ≡ true) (get_or_from_slice_get effects j f e q)
      (row.formed.once i j e l (slice_get_within effects j f q))) in
      let same : same_goal_cell e.to f.to ≡ true =
      ap (λ (x : Goal). same_goal_cell x f.to) g ∙ (ap (λ (x : Goal). same_goal_cell (ToCell (Flag n)) x) h ∙ same_cell-own (Flag n)) in
      let first = (and_true (not (same_goal_cell e.to f.to)) _ apart).0 in
      unlike (sym (ap not same) ∙ first)

  one_place : (i j n : ℕ) (e f : Move) → slice_get effects i ≡ Some e → slice_get effects j ≡ Some f → e.to ≡ ToCell (Flag n) → f.to ≡ ToCell (Flag n) → e ≡ f
  one_place i j n e f p q g h = elim (ordered i j) [
    | inl l ↦ absurd (set_twice i j n e f l p q g h)
    | inr r ↦ elim r [
      | inl s ↦ some_same e f (sym p ∙ (ap (slice_get effects) s ∙ q))
      | inr l ↦ absurd (set_twice j i n f e l q p h g)
    ]
  ]
    where
      ordered : (x y : ℕ) → (x < y) ⊎ ((x ≡ y) ⊎ (y < x))
      ordered x y = elim (same_or_not x y) [
        | inl s ↦ inr (inl s)
        | inr d ↦ by (nat_lt x y) refl d
      ]
        where
          by : (q : Bool) → nat_lt x y ≡ q → (x ≡ y → ⊥) → (x < y) ⊎ ((x ≡ y) ⊎ (y < x))
          by true e d = inl (grind (arith, nat_tests, e))
          by false e d = inr (inr (grind (arith, nat_tests, e, d)))

  record FlagLook (n : ℕ) (t : Tree) : Type 0 where
    tree : Tree
    is : assigned new (Flag n) ≡ Some tree
    same : marked w tree v ≡ marked w t v

  look_flag : (n : ℕ) (t : Tree) → assigned es (Flag n) ≡ Some t → FlagLook n t
  look_flag n t e =
      let a = assigned_from es (Flag n) t e in
      let p = partner_for a.move a.among in
      let at = partner_old w v a.move.to (made p.effect).to a.move.value (made p.effect).value (Flag n) p.partner a.to in
      by a p at (assigned new (Flag n)) refl
    where
      by : (a : Assigns es (Flag n) t) (p : PartnerFor a.move) → AtCell w v a.move.to (made p.effect).to a.move.value (made p.effect).value (Flag n)
          → (o : Option Tree) → assigned new (Flag n) ≡ o → FlagLook n t
      by a p at None f =
          absurd (assigned_some new (Flag n) (made p.effect) (record { place = p.place; is = mapped made effects p.place p.effect p.is }) at.new f)
      by a p at (Some u) f =
          let x = assigned_from new (Flag n) u f in
          let from = unmapped made effects x.among.place x.move x.among.is in
          let old = flag_filled w b p.effect.to n (held_at p.place p.effect p.is).place at.new in
          let other = flag_filled w b from.from.to n (held_at x.among.place from.from from.is).place (ap (λ (y : Move). y.to) from.to ∙ x.to) in
          let same = one_place p.place x.among.place n p.effect from.from p.is from.is old other in
          let value : (made p.effect).value ≡ u = ap (λ (y : Move). (made y).value) same ∙ (ap (λ (y : Move). y.value) from.to ∙ x.value) in
          record { tree = u; is = f; same = subst (λ (y : Tree). marked w y v ≡ marked w t v) value (at.same ∙ ap (λ (y : Tree). marked w y v) a.value) }

  -- the input

  same_takes : takes new ≡ takes es
  same_takes = by (takes es) (takes new) refl refl
    where
      no_input_by : (t : Tree) (n : ℕ) → tested_cell w (Flag n) t v ≡ Ok tt → is_input t ≡ false
      no_input_by (Read Input) n e = absurd (stop_is_no_ok _ tt e)
      no_input_by _ n e = refl

      no_input_for_flag : (e : Move) (n : ℕ) → e.to ≡ ToCell (Flag n) → tested_cell w (Flag n) (filled b e.value) v ≡ Ok tt → is_input (made e).value ≡ false
      no_input_for_flag e n q f =
          ap (λ (x : Goal). is_input (jump_in_form w (filled_goal b x) (filled b e.value))) q ∙ no_input_by (filled b e.value) n f

      by : (p q : Bool) → takes es ≡ p → takes new ≡ q → q ≡ p
      by true true e f = refl
      by false false e f = refl
      by true false e f =
          let a = takes_from es e in
          let p = partner_for a.move a.among in
          let i = partner_input w v a.move.to (made p.effect).to a.move.value (made p.effect).value p.partner ∙ a.input in
          sym f ∙ takes_some new (made p.effect) (record { place = p.place; is = mapped made effects p.place p.effect p.is }) i
      by false true e f =
          let a = takes_from new f in
          let from = unmapped made effects a.among.place a.move a.among.is in
          let i : is_input (made from.from).value ≡ true = ap (λ (x : Move). is_input x.value) from.to ∙ a.input in
          elim (kind a.among.place from.from from.is) [
            | inl p ↦ sym (takes_some es p.move p.among (sym (partner_input w v p.move.to (made from.from).to p.move.value (made from.from).value p.partner) ∙ i)) ∙ e
            | inr o ↦ absurd (unlike (sym (no_input_for_flag from.from o.flag o.to o.made_well) ∙ i))
          ]

  -- what is stored

  record Patched (p : Option Patch) : Type 0 where
    patch : Option Patch
    is : patch_of w (storing new) v ≡ Ok patch
    same : (a : ℕ) → patched patch v.bytes a ≡ patched p v.bytes a

  record NewStore (s : Storing) : Type 0 where
    move : Move
    among : Among es move
    value : Tree
    at : AtStore w v move.to (ToMemory s.width s.place) move.value value
    is : value ≡ s.value

  store_is : (g : Goal) (d : Width) (a : Tree) → g ≡ ToMemory d a → IsStore g
  store_is g d a e = record { width = d; at = a; is = e }

  found_store : (s : Storing) → storing new ≡ Some s → NewStore s
  found_store s f =
      let a = stored_from new s f in
      let from = unmapped made effects a.among.place a.move a.among.is in
      let to : (made from.from).to ≡ ToMemory s.width s.place = ap (λ (x : Move). x.to) from.to ∙ a.to in
      elim (kind a.among.place from.from from.is) [
        | inl p ↦ (let at = partner_stores w v p.move.to (made from.from).to p.move.value (made from.from).value p.partner (inr (store_is _ _ _ to)) in
            record {
              move = p.move;
              among = p.among;
              value = (made from.from).value;
              at = subst (λ (x : Goal). AtStore w v p.move.to x p.move.value (made from.from).value) to at;
              is = ap (λ (x : Move). x.value) from.to ∙ a.value;
            })
        | inr o ↦ absurd (no_memory o.flag s.width s.place (sym (ap (filled_goal b) o.to) ∙ to))
      ]
    where
      no_memory : (n : ℕ) (d : Width) (a : Tree) → (let g : Goal = ToCell (Flag n) in g ≡ ToMemory d a) → ⊥
      no_memory n d a e = cc

  same_memory : (d e : Width) (a c : Tree) → (let g : Goal = ToMemory d a in g ≡ ToMemory e c) → (d ≡ e) × (a ≡ c)
  same_memory d e a c q = (cc, cc)

  patch_by : (d : Width) (a t : Tree) (n : ℕ) (x : Option ℕ) → seen w t v ≡ Ok x → place_of w d a v ≡ Ok n
      → patch_of w (Some (record { width = d; place = a; value = t })) v ≡ Ok (Some (record { at = n; count = width_of w d; value = x }))
  patch_by d a t n x e f =
      ap (λ r. bind r (λ y. bind (place_of w d a v) (λ c. Ok (Some (record { at = c; count = width_of w d; value = y }))))) e
      ∙ ap (λ r. bind r (λ c. Ok (Some (record { at = c; count = width_of w d; value = x })))) f

  patch_both : (s u : Storing) (p : Option Patch) → storing es ≡ Some s → storing new ≡ Some u → patch_of w (Some s) v ≡ Ok p → Patched p
  patch_both s u p e f g =
      let n = found_store u f in
      let a = stored_from es s e in
      let t = n.at in
      let m = simple.one_store n.among.place a.among.place n.move a.move t.width s.width t.old_at s.place n.among.is a.among.is t.old a.to in
      let old_goal = same_memory t.width s.width t.old_at s.place (sym t.old ∙ (ap (λ (x : Move). x.to) m ∙ a.to)) in
      let new_goal = same_memory u.width t.width u.place t.new_at t.new in
      let old_value : n.move.value ≡ s.value = ap (λ (x : Move). x.value) m ∙ a.value in
      let old = patch_by s.width s.place s.value t.address t.old_value
      (subst (λ (x : Tree). seen w x v ≡ Ok t.old_value) old_value t.old_is)
      (subst (λ (x : Tree). place_of w s.width x v ≡ Ok t.address) old_goal.1 (subst (λ (d : Width). place_of w d t.old_at v ≡ Ok t.address) old_goal.0 t.old_place)) in
      let new_patch = patch_by u.width u.place u.value t.address t.new_value
      (subst (λ (x : Tree). seen w x v ≡ Ok t.new_value) n.is t.new_is)
      (subst (λ (x : Tree). place_of w u.width x v ≡ Ok t.address) (sym new_goal.1) (subst (λ (d : Width). place_of w d t.new_at v ≡ Ok t.address) (sym new_goal.0) t.new_place)) in
      let whole_old : Some (record { at = t.address; count = width_of w s.width; value = t.old_value }) ≡ p = ok_is _ _ (sym old ∙ g) in
      let widths : s.width ≡ u.width = sym old_goal.0 ∙ sym new_goal.0 in
      record {
        patch = Some (record { at = t.address; count = width_of w u.width; value = t.new_value });
        is = ap (λ o. patch_of w o v) f ∙ new_patch;
        same = λ c.
            subst (λ (d : Width). patched (Some (record { at = t.address; count = width_of w d; value = t.new_value })) v.bytes c
            ≡ patched p v.bytes c) widths
            (patch_with w v s.width t.old_value t.new_value t.address c (subst (λ (d : Width). StoredAlike d t.old_value t.new_value) old_goal.0 t.alike)
            ∙ ap (λ (o : Option Patch). patched o v.bytes c) whole_old);
      }

  patch_same : (p : Option Patch) → patch_of w (storing es) v ≡ Ok p → Patched p
  patch_same p g = by (storing es) (storing new) refl refl g
    where
      by : (o q : Option Storing) → storing es ≡ o → storing new ≡ q → patch_of w o v ≡ Ok p → Patched p
      by (Some s) (Some u) e f g = patch_both s u p e f g
      by None None e f g =
          record { patch = None; is = ap (λ o. patch_of w o v) f; same = λ a. ap (λ (o : Option Patch). patched o v.bytes a) (ok_is None p g) }
      by (Some s) None e f g =
          let a = stored_from es s e in
          let q = partner_for a.move a.among in
          let t = partner_stores w v a.move.to (made q.effect).to a.move.value (made q.effect).value q.partner (inl (store_is _ _ _ a.to)) in
          absurd (stored_some new (made q.effect) (record { place = q.place; is = mapped made effects q.place q.effect q.is }) (store_is _ _ _ t.new) f)
      by None (Some u) e f g =
          let n = found_store u f in
          absurd (stored_some es n.move n.among (store_is _ _ _ n.at.old) e)

  -- all in all

  event_same : (c : Cell) → LookSame w v c (assigned es c) (assigned new c) → ((t u : Tree) → CellSame w v c t u → seen w u v ≡ seen w t v)
      → event w (assigned new c) v ≡ event w (assigned es c) v
  event_same c l f = by (assigned es c) (assigned new c) l
    where
      by : (o p : Option Tree) → LookSame w v c o p → event w p v ≡ event w o v
      by (Some t) (Some u) l = ap (λ r. bind (bind r needed) (λ n. Ok (Some (n % 256)))) (f t u l)
      by None None l = refl
      by (Some t) None l = absurd l
      by None (Some u) l = absurd l

  went_same : LookSame w v Pc (assigned es Pc) (assigned new Pc) → went w (assigned new Pc) v ≡ went w (assigned es Pc) v
  went_same l = by (assigned es Pc) (assigned new Pc) l
    where
      by : (o p : Option Tree) → LookSame w v Pc o p → went w p v ≡ went w o v
      by (Some t) (Some u) l = l
      by None None l = refl
      by (Some t) None l = absurd l
      by None (Some u) l = absurd l

  cell_same : (c : Cell) (x : Option ℕ) → LookSame w v c (assigned es c) (assigned new c) → ((t u : Tree) → CellSame w v c t u → seen w u v ≡ seen w t v)
      → cell_after w (assigned new c) v x ≡ cell_after w (assigned es c) v x
  cell_same c x l f = by (assigned es c) (assigned new c) l
    where
      by : (o p : Option Tree) → LookSame w v c o p → cell_after w p v x ≡ cell_after w o v x
      by (Some t) (Some u) l = ap plain (f t u l)
      by None None l = refl
      by (Some t) None l = absurd l
      by None (Some u) l = absurd l

  mark_same : (n : ℕ) (x : Mark) (t : Tree) → assigned es (Flag n) ≡ Some t → mark_after w (assigned new (Flag n)) v x ≡ mark_after w (assigned es (Flag n)) v x
  mark_same n x t e =
      let l = look_flag n t e in
      ap (λ o. mark_after w o v x) l.is ∙ (ap plain_mark l.same ∙ sym (ap (λ o. mark_after w o v x) e))

  record Parts (d : Done) : Type 0 where
    output : Option ℕ
    output_is : event w (assigned es Output) v ≡ Ok output
    halt : Option ℕ
    halt_is : event w (assigned es Halt) v ≡ Ok halt
    place : Option ℕ
    place_is : went w (assigned es Pc) v ≡ Ok place
    patch : Option Patch
    patch_is : patch_of w (storing es) v ≡ Ok patch
    done_is : (let x : Done = record { view = view_after w es patch v; place = place; output = output; halt = halt } in x ≡ d)

  done_by : (d : Done) → Parts d → (e : Done) × (effect w new v ≡ Ok e) × IsSameBut es d e
  done_by d q =
      let p = patch_same q.patch q.patch_is in
      let e : Done = record { view = view_after w new p.patch v; place = q.place; output = q.output; halt = q.halt } in
      let s : IsSameBut es (record { view = view_after w es q.patch v; place = q.place; output = q.output; halt = q.halt }) e = record {
        temps = λ n. cell_same (Temp n) (v.cells (Temp n)) (look (Temp n) tt) (λ t u h. h);
        registers = λ n. cell_same (Hard n) (v.cells (Hard n)) (look (Hard n) tt) (λ t u h. h);
        flags = λ n t f. mark_same n (v.flags n) t f;
        bytes = p.same;
        input = ap (λ (k : Bool). input_after k v.input) same_takes;
        place = refl;
        output = refl;
        halt = refl;
      } in
      (e, whole_effect p e q refl, subst (λ (x : Done). IsSameBut es x e) q.done_is s)
    where
      whole_effect : (p : Patched q.patch) (e : Done) (q : Parts d)
          → (let x : Done = record { view = view_after w new p.patch v; place = q.place; output = q.output; halt = q.halt } in x ≡ e) → effect w new v ≡ Ok e
      whole_effect p e q s =
          ap (λ r. bind r (λ x. bind (event w (assigned new Output) v) (λ o. bind (event w (assigned new Halt) v) (λ h. bind (went w (assigned new Pc) v) (λ c.
          bind (patch_of w (storing new) v) (λ n. Ok (record { view = view_after w new n v; place = c; output = o; halt = h }))))))) all_tested
          ∙ (ap (λ r. bind r (λ o. bind (event w (assigned new Halt) v) (λ h. bind (went w (assigned new Pc) v) (λ c.
          bind (patch_of w (storing new) v) (λ n. Ok (record { view = view_after w new n v; place = c; output = o; halt = h }))))))
          (event_same Output (look Output tt) (λ t u h. h) ∙ q.output_is)
          ∙ (ap (λ r. bind r (λ h. bind (went w (assigned new Pc) v) (λ c.
          bind (patch_of w (storing new) v) (λ n. Ok (record { view = view_after w new n v; place = c; output = q.output; halt = h })))))
          (event_same Halt (look Halt tt) (λ t u h. h) ∙ q.halt_is)
          ∙ (ap (λ r. bind r (λ c. bind (patch_of w (storing new) v) (λ n. Ok (record { view = view_after w new n v; place = c; output = q.output; halt = q.halt }))))
          (went_same (look Pc tt) ∙ q.place_is)
          ∙ (ap (λ r. bind r (λ n. Ok (record { view = view_after w new n v; place = q.place; output = q.output; halt = q.halt }))) p.is
          ∙ ap (λ (x : Done). let r : Result Done Stop = Ok x in r) s))))

composed : (w : ℕ) (b : List Bound) (ms : List Move)
    → with_normal_jump w (map (filled_move b) ms) ≡ map (λ e. record { to = filled_goal b e.to; value = jump_in_form w (filled_goal b e.to) (filled b e.value) }) ms
composed w b [] = refl
composed w b (m ∷ ms) =
    ap (λ (xs : List Move). record { to = filled_goal b m.to; value = jump_in_form w (filled_goal b m.to) (filled b m.value) } ∷ xs) (composed w b ms)

pub row_does_as : RowDoesAs
row_does_as w b effects es marks z row simple taking others traps = record {
  does = λ v d k e.
      (let t = bound (tested w es v) _ d e in
      let o = bound (event w (assigned es Output) v) _ d t.rest in
      let h = bound (event w (assigned es Halt) v) _ d o.rest in
      let q = bound (went w (assigned es Pc) v) _ d h.rest in
      let p = bound (patch_of w (storing es) v) _ d q.rest in
      let fine : tested w es v ≡ Ok tt = t.is in
      let r = done_by w b effects es marks z row simple taking others traps v k fine d (record {
        output = o.value;
        output_is = o.is;
        halt = h.value;
        halt_is = h.is;
        place = q.value;
        place_is = q.is;
        patch = p.value;
        patch_is = p.is;
        done_is = ok_is _ d p.rest;
      }) in
      subst (λ (ms : List Move). (x : Done) × (effect w ms v ≡ Ok x) × IsSameBut es d x) (sym (composed w b effects)) r);
}
