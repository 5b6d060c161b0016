-- Transfers that are alike but for the numbers of their holes are as good.
use Rattle.std.proofs.Common.{◌≡◌, ℕ, zero, suc, ◌+◌, ◌<◌, max, not, ◌&&◌, ◌||◌, Bool, false, cond, List, [], ◌∷◌, length, refl, sym, ap, ◌∙◌, subst, arith}
use Rattle.std.specs.Prelude.{nat_le, count_by, flat_map, ◌↔◌, slice_index_or}
use Rattle.std.specs.Global.{Vec}
use Rattle.std.specs.List.{list_any}
use Rattle.std.specs.Option.{option_map}
use Rattle.std.specs.declared.option.Option.{Option}
use Rattle.std.specs.declared.option.Option.TheVariants.{Some, None}
use Rattle.std.proofs.lemmas.List.Folds.{list_any-append}
use Rattle.std.proofs.lemmas.List.Sums.{sum_by-cons}
use Rattle.rtl_tree.specs.declared.cells.Cell.{Cell}
use Rattle.rtl_tree.specs.declared.cells.Cell.TheVariants.{Hard, Temp, Flag, Pc, Input, Output, Halt, Hole}
use Rattle.rtl_tree.specs.declared.expressions.UnOp.TheVariants.{Neg, Not, Sxb, Test}
use Rattle.rtl_tree.specs.declared.expressions.BinOp.{BinOp}
use Rattle.rtl_tree.specs.declared.expressions.BinOp.TheVariants.{Add, Sub, Mul, Div, Divu, Rem, Remu, And, Or, Xor, Shl, Shr, Shru, Cmp, Pair, When}
use Rattle.rtl_tree.specs.declared.constructs.Construct.{Construct}
use Rattle.rtl_tree.specs.declared.constructs.Construct.TheVariants.{Compared, Jump, Taken, Written}
use Rattle.rtl_tree.specs.Trees.{Tree, Binary}
use Rattle.rtl_tree.specs.Moves.{Goal, ToCell, ToMemory, Move}
use Rattle.rtl_tree.specs.WellFormed.{depth, is_construct, free_of, free_of_both, free_below, is_flag, flags_tested, compares_for_flag, jumps_by_counter, takes_for_register, tests_flags, is_shallow, is_store, same_goal_cell, set_apart, IsPlaced, IsWellFormed}
use Rattle.md_text.specs.Rules.{is_temporary, cells_in, cells_of_goal, cells_of_move, HasGoodTransfer}
use Rattle.md_text.specs.Expansion.{Expanded as Row}
use Rattle.md_expand.specs.Like.{IsLike, equal, registers, numbers, names, loads, unaries, binaries}
use Rattle.md_expand.specs.Filled.{IsLikeGoal, same_goal, registers as both_registers, stores, hole_of_goal, IsFilled, AllFilled, BothAllFilled}
use Rattle.md_expand.specs.Expanded.{IsExpanded}
use Rattle.md_expand.specs.declared.moves.Filled.{Filled}
use Rattle.md_expand.specs.declared.expanded.Expanded.{Expanded}
use Rattle.md_row_rules.specs.Goods.{same_place, filled_apart, uses_temporary, AreGood, IsGood}

same_depth : (a b : Tree) → IsLike a b → depth a ≡ depth b
same_depth a b (equal t) = refl
same_depth a b (registers m n) = refl
same_depth a b (numbers m n) = refl
same_depth a b (names m n) = refl
same_depth a b (loads w c d l) = ap suc (same_depth c d l)
same_depth a b (unaries o c d l) = ap suc (same_depth c d l)
same_depth a b (binaries o c d e f l r) = ap (λ n. suc (max n (depth d))) (same_depth c e l) ∙ ap (λ n. suc (max (depth e) n)) (same_depth d f r)

same_binary : (k : Construct) (o : BinOp) (a b c d : Tree) → is_construct k (Binary o a b) ≡ is_construct k (Binary o c d)
same_binary Compared Add a b c d = refl
same_binary Compared Sub a b c d = refl
same_binary Compared Mul a b c d = refl
same_binary Compared Div a b c d = refl
same_binary Compared Divu a b c d = refl
same_binary Compared Rem a b c d = refl
same_binary Compared Remu a b c d = refl
same_binary Compared And a b c d = refl
same_binary Compared Or a b c d = refl
same_binary Compared Xor a b c d = refl
same_binary Compared Shl a b c d = refl
same_binary Compared Shr a b c d = refl
same_binary Compared Shru a b c d = refl
same_binary Compared (Cmp r) a b c d = refl
same_binary Compared Pair a b c d = refl
same_binary Compared When a b c d = refl
same_binary Jump Add a b c d = refl
same_binary Jump Sub a b c d = refl
same_binary Jump Mul a b c d = refl
same_binary Jump Div a b c d = refl
same_binary Jump Divu a b c d = refl
same_binary Jump Rem a b c d = refl
same_binary Jump Remu a b c d = refl
same_binary Jump And a b c d = refl
same_binary Jump Or a b c d = refl
same_binary Jump Xor a b c d = refl
same_binary Jump Shl a b c d = refl
same_binary Jump Shr a b c d = refl
same_binary Jump Shru a b c d = refl
same_binary Jump (Cmp r) a b c d = refl
same_binary Jump Pair a b c d = refl
same_binary Jump When a b c d = refl
same_binary Taken o a b c d = refl
same_binary Written o a b c d = refl

pub same_construct : (k : Construct) (a b : Tree) → IsLike a b → is_construct k a ≡ is_construct k b
same_construct k a b (equal t) = refl
same_construct Compared a b (registers m n) = refl
same_construct Compared a b (numbers m n) = refl
same_construct Compared a b (names m n) = refl
same_construct Compared a b (loads w c d l) = refl
same_construct Compared a b (unaries o c d l) = refl
same_construct Jump a b (registers m n) = refl
same_construct Jump a b (numbers m n) = refl
same_construct Jump a b (names m n) = refl
same_construct Jump a b (loads w c d l) = refl
same_construct Jump a b (unaries o c d l) = refl
same_construct Taken a b (registers m n) = refl
same_construct Taken a b (numbers m n) = refl
same_construct Taken a b (names m n) = refl
same_construct Taken a b (loads w c d l) = refl
same_construct Taken a b (unaries o c d l) = refl
same_construct Written a b (registers m n) = refl
same_construct Written a b (numbers m n) = refl
same_construct Written a b (names m n) = refl
same_construct Written a b (loads w c d l) = refl
same_construct Written a b (unaries o c d l) = refl
same_construct k a b (binaries o c d e f l r) = same_binary k o c d e f

both : (p q r s : Bool) → p ≡ r → q ≡ s → (p && q) ≡ (r && s)
both p q r s e f = ap (λ x. x && q) e ∙ ap (λ x. r && x) f

either : (p q r s : Bool) → p ≡ r → q ≡ s → (p || q) ≡ (r || s)
either p q r s e f = ap (λ x. x || q) e ∙ ap (λ x. r || x) f

same_free : (k : Construct) (a b : Tree) → IsLike a b → free_of k a ≡ free_of k b
same_free k a b (equal t) = refl
same_free k a b (registers m n) = ap not (same_construct k _ _ (registers m n))
same_free k a b (numbers m n) = ap not (same_construct k _ _ (numbers m n))
same_free k a b (names m n) = ap not (same_construct k _ _ (names m n))
same_free k a b (loads w c d l) = same_free k c d l
same_free k a b (unaries o c d l) = same_free k c d l
same_free k a b (binaries o c d e f l r) =
    both (not (is_construct k (Binary o c d))) (free_of k c && free_of k d) (not (is_construct k (Binary o e f))) (free_of k e && free_of k f)
    (ap not (same_binary k o c d e f)) (both (free_of k c) (free_of k d) (free_of k e) (free_of k f) (same_free k c e l) (same_free k d f r))

same_below : (k : Construct) (a b : Tree) → IsLike a b → free_below k a ≡ free_below k b
same_below k a b (equal t) = refl
same_below k a b (registers m n) = refl
same_below k a b (numbers m n) = refl
same_below k a b (names m n) = refl
same_below k a b (loads w c d l) = same_free k c d l
same_below k a b (unaries o c d l) = same_free k c d l
same_below k a b (binaries o c d e f l r) = both (free_of k c) (free_of k d) (free_of k e) (free_of k f) (same_free k c e l) (same_free k d f r)

same_flag : (a b : Tree) → IsLike a b → is_flag a ≡ is_flag b
same_flag a b (equal t) = refl
same_flag a b (registers m n) = refl
same_flag a b (numbers m n) = refl
same_flag a b (names m n) = refl
same_flag a b (loads w c d l) = refl
same_flag a b (unaries o c d l) = refl
same_flag a b (binaries o c d e f l r) = refl

same_tested : (a b : Tree) → IsLike a b → flags_tested a ≡ flags_tested b
same_tested a b (equal t) = refl
same_tested a b (registers m n) = refl
same_tested a b (numbers m n) = refl
same_tested a b (names m n) = refl
same_tested a b (loads w c d l) = same_tested c d l
same_tested a b (unaries Neg c d l) = same_tested c d l
same_tested a b (unaries Not c d l) = same_tested c d l
same_tested a b (unaries Sxb c d l) = same_tested c d l
same_tested a b (unaries (Test r) c d l) = same_flag c d l
same_tested a b (binaries o c d e f l r) = both (flags_tested c) (flags_tested d) (flags_tested e) (flags_tested f) (same_tested c e l) (same_tested d f r)

same_temporaries : (a b : Tree) → IsLike a b → list_any is_temporary (cells_in a) ≡ list_any is_temporary (cells_in b)
same_temporaries a b (equal t) = refl
same_temporaries a b (registers m n) = refl
same_temporaries a b (numbers m n) = refl
same_temporaries a b (names m n) = refl
same_temporaries a b (loads w c d l) = same_temporaries c d l
same_temporaries a b (unaries o c d l) = same_temporaries c d l
same_temporaries a b (binaries o c d e f l r) =
    list_any-append is_temporary (cells_in c) (cells_in d)
    ∙ either (list_any is_temporary (cells_in c)) (list_any is_temporary (cells_in d)) (list_any is_temporary (cells_in e)) (list_any is_temporary (cells_in f))
    (same_temporaries c e l) (same_temporaries d f r)
    ∙ sym (list_any-append is_temporary (cells_in e) (cells_in f))

same_free_both : (k : Construct) (g h : Goal) (t u : Tree) → IsLikeGoal g h → IsLike t u → free_of_both k g t ≡ free_of_both k h u
same_free_both k g h t u (same_goal (ToCell c)) v = same_free k t u v
same_free_both k g h t u (same_goal (ToMemory w a)) v = ap (λ x. free_of k a && x) (same_free k t u v)
same_free_both k g h t u (both_registers m n) v = same_free k t u v
same_free_both k g h t u (stores w a b l) v = both (free_of k a) (free_of k t) (free_of k b) (free_of k u) (same_free k a b l) (same_free k t u v)

same_shallow : (g h : Goal) (t u : Tree) → IsLikeGoal g h → IsLike t u → is_shallow g t ≡ is_shallow h u
same_shallow g h t u (same_goal (ToCell c)) v = ap (λ n. nat_le n 32) (same_depth t u v)
same_shallow g h t u (same_goal (ToMemory w a)) v = ap (λ n. nat_le (suc (depth a)) 32 && nat_le n 32) (same_depth t u v)
same_shallow g h t u (both_registers m n) v = ap (λ n. nat_le n 32) (same_depth t u v)
same_shallow g h t u (stores w a b l) v =
    ap (λ n. nat_le (suc n) 32 && nat_le (depth t) 32) (same_depth a b l) ∙ ap (λ n. nat_le (suc (depth b)) 32 && nat_le n 32) (same_depth t u v)

same_tests : (g h : Goal) (t u : Tree) → IsLikeGoal g h → IsLike t u → tests_flags g t ≡ tests_flags h u
same_tests g h t u (same_goal (ToCell c)) v = same_tested t u v
same_tests g h t u (same_goal (ToMemory w a)) v = ap (λ x. flags_tested a && x) (same_tested t u v)
same_tests g h t u (both_registers m n) v = same_tested t u v
same_tests g h t u (stores w a b l) v = both (flags_tested a) (flags_tested t) (flags_tested b) (flags_tested u) (same_tested a b l) (same_tested t u v)

same_compares : (g h : Goal) (t u : Tree) → IsLikeGoal g h → IsLike t u → compares_for_flag g t ≡ compares_for_flag h u
same_compares g h t u (same_goal (ToCell (Hard n))) v = same_free Compared t u v
same_compares g h t u (same_goal (ToCell (Temp n))) v = same_free Compared t u v
same_compares g h t u (same_goal (ToCell (Flag n))) v = both (is_construct Compared t) (free_below Compared t) (is_construct Compared u) (free_below Compared u) (same_construct Compared t u v) (same_below Compared t u v)
same_compares g h t u (same_goal (ToCell Pc)) v = same_free Compared t u v
same_compares g h t u (same_goal (ToCell Input)) v = same_free Compared t u v
same_compares g h t u (same_goal (ToCell Output)) v = same_free Compared t u v
same_compares g h t u (same_goal (ToCell Halt)) v = same_free Compared t u v
same_compares g h t u (same_goal (ToCell (Hole n))) v = same_free Compared t u v
same_compares g h t u (same_goal (ToMemory w a)) v = ap (λ x. free_of Compared a && x) (same_free Compared t u v)
same_compares g h t u (both_registers m n) v = same_free Compared t u v
same_compares g h t u (stores w a b l) v = both (free_of Compared a) (free_of Compared t) (free_of Compared b) (free_of Compared u) (same_free Compared a b l) (same_free Compared t u v)

same_jumps : (g h : Goal) (t u : Tree) → IsLikeGoal g h → IsLike t u → jumps_by_counter g t ≡ jumps_by_counter h u
same_jumps g h t u (same_goal (ToCell (Hard n))) v = same_free Jump t u v
same_jumps g h t u (same_goal (ToCell (Temp n))) v = same_free Jump t u v
same_jumps g h t u (same_goal (ToCell (Flag n))) v = same_free Jump t u v
same_jumps g h t u (same_goal (ToCell Pc)) v = same_below Jump t u v
same_jumps g h t u (same_goal (ToCell Input)) v = same_free Jump t u v
same_jumps g h t u (same_goal (ToCell Output)) v = same_free Jump t u v
same_jumps g h t u (same_goal (ToCell Halt)) v = same_free Jump t u v
same_jumps g h t u (same_goal (ToCell (Hole n))) v = same_free Jump t u v
same_jumps g h t u (same_goal (ToMemory w a)) v = ap (λ x. free_of Jump a && x) (same_free Jump t u v)
same_jumps g h t u (both_registers m n) v = same_free Jump t u v
same_jumps g h t u (stores w a b l) v = both (free_of Jump a) (free_of Jump t) (free_of Jump b) (free_of Jump u) (same_free Jump a b l) (same_free Jump t u v)

same_takes : (g h : Goal) (t u : Tree) → IsLikeGoal g h → IsLike t u → takes_for_register g t ≡ takes_for_register h u
same_takes g h t u (same_goal (ToCell (Hard n))) v = same_below Taken t u v
same_takes g h t u (same_goal (ToCell (Temp n))) v = same_below Taken t u v
same_takes g h t u (same_goal (ToCell (Flag n))) v = same_free Taken t u v
same_takes g h t u (same_goal (ToCell Pc)) v = same_free Taken t u v
same_takes g h t u (same_goal (ToCell Input)) v = refl
same_takes g h t u (same_goal (ToCell Output)) v = same_free Taken t u v
same_takes g h t u (same_goal (ToCell Halt)) v = same_free Taken t u v
same_takes g h t u (same_goal (ToCell (Hole n))) v = same_below Taken t u v
same_takes g h t u (same_goal (ToMemory w a)) v = ap (λ x. free_of Taken a && x) (same_free Taken t u v)
same_takes g h t u (both_registers m n) v = same_below Taken t u v
same_takes g h t u (stores w a b l) v = both (free_of Taken a) (free_of Taken t) (free_of Taken b) (free_of Taken u) (same_free Taken a b l) (same_free Taken t u v)

placed_like : (m n : Move) → IsLikeGoal m.to n.to → IsLike m.value n.value → IsPlaced m → IsPlaced n
placed_like m n g v p = record {
  shallow = sym (same_shallow m.to n.to m.value n.value g v) ∙ p.shallow;
  flags = sym (same_compares m.to n.to m.value n.value g v) ∙ p.flags;
  tests = sym (same_tests m.to n.to m.value n.value g v) ∙ p.tests;
  jumps = sym (same_jumps m.to n.to m.value n.value g v) ∙ p.jumps;
  input = sym (same_takes m.to n.to m.value n.value g v) ∙ p.input;
  output = sym (same_free_both Written m.to n.to m.value n.value g v) ∙ p.output;
}

placed_back : (m n : Move) → IsLikeGoal m.to n.to → IsLike m.value n.value → IsPlaced n → IsPlaced m
placed_back m n g v p = record {
  shallow = same_shallow m.to n.to m.value n.value g v ∙ p.shallow;
  flags = same_compares m.to n.to m.value n.value g v ∙ p.flags;
  tests = same_tests m.to n.to m.value n.value g v ∙ p.tests;
  jumps = same_jumps m.to n.to m.value n.value g v ∙ p.jumps;
  input = same_takes m.to n.to m.value n.value g v ∙ p.input;
  output = same_free_both Written m.to n.to m.value n.value g v ∙ p.output;
}

-- a place that is no register hole is told apart from both of two alike places, or from none
same_by_other : (c : Cell) (h l : Goal) → IsLikeGoal h l → hole_of_goal (ToCell c) ≡ None → same_goal_cell (ToCell c) l ≡ same_goal_cell (ToCell c) h
same_by_other c h l (same_goal k) e = refl
same_by_other c h l (stores w a b v) e = refl
same_by_other (Hard k) h l (both_registers m n) e = refl
same_by_other (Temp k) h l (both_registers m n) e = refl
same_by_other (Flag k) h l (both_registers m n) e = refl
same_by_other Pc h l (both_registers m n) e = refl
same_by_other Input h l (both_registers m n) e = refl
same_by_other Output h l (both_registers m n) e = refl
same_by_other Halt h l (both_registers m n) e = refl
same_by_other (Hole k) h l (both_registers m n) e = absurd (cc)

same_by_hole : (m n : ℕ) (h l : Goal) → IsLikeGoal h l → same_place (Some m) (hole_of_goal h) (same_goal_cell (ToCell (Hole n)) l) ≡ same_goal_cell (ToCell (Hole m)) h
same_by_hole m n h l (both_registers j k) = refl
same_by_hole m n h l (stores w a b v) = refl
same_by_hole m n h l (same_goal (ToMemory w a)) = refl
same_by_hole m n h l (same_goal (ToCell (Hard k))) = refl
same_by_hole m n h l (same_goal (ToCell (Temp k))) = refl
same_by_hole m n h l (same_goal (ToCell (Flag k))) = refl
same_by_hole m n h l (same_goal (ToCell Pc)) = refl
same_by_hole m n h l (same_goal (ToCell Input)) = refl
same_by_hole m n h l (same_goal (ToCell Output)) = refl
same_by_hole m n h l (same_goal (ToCell Halt)) = refl
same_by_hole m n h l (same_goal (ToCell (Hole k))) = refl

same_places : (g h k l : Goal) → IsLikeGoal g k → IsLikeGoal h l → same_place (hole_of_goal g) (hole_of_goal h) (same_goal_cell k l) ≡ same_goal_cell g h
same_places g h k l (both_registers m n) q = same_by_hole m n h l q
same_places g h k l (stores w a b v) q = refl
same_places g h k l (same_goal (ToMemory w a)) q = refl
same_places g h k l (same_goal (ToCell (Hole n))) q = same_by_hole n n h l q
same_places g h k l (same_goal (ToCell (Hard n))) q = same_by_other (Hard n) h l q refl
same_places g h k l (same_goal (ToCell (Temp n))) q = same_by_other (Temp n) h l q refl
same_places g h k l (same_goal (ToCell (Flag n))) q = same_by_other (Flag n) h l q refl
same_places g h k l (same_goal (ToCell Pc)) q = same_by_other Pc h l q refl
same_places g h k l (same_goal (ToCell Input)) q = same_by_other Input h l q refl
same_places g h k l (same_goal (ToCell Output)) q = same_by_other Output h l q refl
same_places g h k l (same_goal (ToCell Halt)) q = same_by_other Halt h l q refl

same_apart : (few : Type 0) (m n : Move) (f g : Filled) → IsFilled few m f → IsFilled few n g → filled_apart f g ≡ set_apart m n
same_apart few m n f g p q =
    let places : same_place f.register g.register (same_goal_cell f.assign.to g.assign.to) ≡ same_goal_cell m.to n.to =
    ap (λ x. same_place x g.register (same_goal_cell f.assign.to g.assign.to)) p.register
    ∙ ap (λ x. same_place (hole_of_goal m.to) x (same_goal_cell f.assign.to g.assign.to)) q.register
    ∙ same_places m.to n.to f.assign.to g.assign.to p.like_to q.like_to in
    both (not (same_place f.register g.register (same_goal_cell f.assign.to g.assign.to))) (not (is_construct Taken f.assign.value && is_construct Taken g.assign.value))
    (not (same_goal_cell m.to n.to)) (not (is_construct Taken m.value && is_construct Taken n.value))
    (ap not places)
    (ap not (both (is_construct Taken f.assign.value) (is_construct Taken g.assign.value) (is_construct Taken m.value) (is_construct Taken n.value)
    (sym (same_construct Taken m.value f.assign.value p.like_value)) (sym (same_construct Taken n.value g.assign.value q.like_value))))

same_store : (g h : Goal) → IsLikeGoal g h → is_store g ≡ is_store h
same_store g h (same_goal k) = refl
same_store g h (both_registers m n) = refl
same_store g h (stores w a b l) = refl

same_goal_temporaries : (g h : Goal) → IsLikeGoal g h → list_any is_temporary (cells_of_goal g) ≡ list_any is_temporary (cells_of_goal h)
same_goal_temporaries g h (same_goal k) = refl
same_goal_temporaries g h (both_registers m n) = refl
same_goal_temporaries g h (stores w a b l) = same_temporaries a b l

same_move_temporaries : (m n : Move) → IsLikeGoal m.to n.to → IsLike m.value n.value → list_any is_temporary (cells_of_move m) ≡ list_any is_temporary (cells_of_move n)
same_move_temporaries m n g v =
    list_any-append is_temporary (cells_of_goal m.to) (cells_in m.value)
    ∙ either (list_any is_temporary (cells_of_goal m.to)) (list_any is_temporary (cells_in m.value)) (list_any is_temporary (cells_of_goal n.to)) (list_any is_temporary (cells_in n.value))
    (same_goal_temporaries m.to n.to g) (same_temporaries m.value n.value v)
    ∙ sym (list_any-append is_temporary (cells_of_goal n.to) (cells_in n.value))

as_long : (few : Type 0) (ms : List Move) (fs : List Filled) → AllFilled few ms fs → length ms ≡ length fs
as_long few [] [] a = refl
as_long few [] (f ∷ fs) a = absurd a
as_long few (m ∷ ms) [] a = absurd a
as_long few (m ∷ ms) (f ∷ fs) a = ap suc (as_long few ms fs a.1)

filled_at : (few : Type 0) (ms : List Move) (fs : List Filled) (k : ℕ) (d : Move) (e : Filled) → AllFilled few ms fs → k < length fs
    → IsFilled few (slice_index_or ms k d) (slice_index_or fs k e)
filled_at few [] [] k d e a lt = absurd (omega (arith, lt))
filled_at few [] (f ∷ fs) k d e a lt = absurd a
filled_at few (m ∷ ms) [] k d e a lt = absurd a
filled_at few (m ∷ ms) (f ∷ fs) zero d e a lt = a.0
filled_at few (m ∷ ms) (f ∷ fs) (suc k) d e a lt = filled_at few ms fs k d e a.1 (omega (arith, lt))

same_store_count : (few : Type 0) (ms : List Move) (fs : List Filled) → AllFilled few ms fs
    → count_by (λ m. is_store m.to) ms ≡ count_by (λ f. is_store f.assign.to) fs
same_store_count few [] [] a = refl
same_store_count few [] (f ∷ fs) a = absurd a
same_store_count few (m ∷ ms) [] a = absurd a
same_store_count few (m ∷ ms) (f ∷ fs) a =
    sum_by-cons (λ (n : Move). cond (is_store n.to) 1 0) m ms
    ∙ ap (λ b. cond b 1 0 + count_by (λ n. is_store n.to) ms) (same_store m.to f.assign.to a.0.like_to)
    ∙ ap (λ n. cond (is_store f.assign.to) 1 0 + n) (same_store_count few ms fs a.1)
    ∙ sym (sum_by-cons (λ (g : Filled). cond (is_store g.assign.to) 1 0) f fs)

same_all_temporaries : (few : Type 0) (ms : List Move) (fs : List Filled) → AllFilled few ms fs
    → list_any is_temporary (flat_map cells_of_move ms) ≡ list_any uses_temporary fs
same_all_temporaries few [] [] a = refl
same_all_temporaries few [] (f ∷ fs) a = absurd a
same_all_temporaries few (m ∷ ms) [] a = absurd a
same_all_temporaries few (m ∷ ms) (f ∷ fs) a =
    list_any-append is_temporary (cells_of_move m) (flat_map cells_of_move ms)
    ∙ either (list_any is_temporary (cells_of_move m)) (list_any is_temporary (flat_map cells_of_move ms)) (uses_temporary f) (list_any uses_temporary fs)
    (same_move_temporaries m f.assign a.0.like_to a.0.like_value) (same_all_temporaries few ms fs a.1)

pub well_by_good : (few : Type 0) (ms : List Move) (fs : List Filled) → AllFilled few ms fs → AreGood fs → IsWellFormed ms
well_by_good few ms fs a g =
    let long : length ms ≡ length fs = as_long few ms fs a in
    record {
      nonempty = omega (arith, long, g.nonempty);
      short = omega (arith, long, g.short);
      placed = λ k d lt.
          let e : Filled = record { assign = d; register = None } in
          let inside : k < length fs = omega (arith, long, lt) in
          let like = filled_at few ms fs k d e a inside in
          placed_back (slice_index_or ms k d) (slice_index_or fs k e).assign like.like_to like.like_value (g.placed k e inside);
      once = λ i j d less lt.
          let e : Filled = record { assign = d; register = None } in
          let inside : j < length fs = omega (arith, long, lt) in
          sym (same_apart few (slice_index_or ms i d) (slice_index_or ms j d) (slice_index_or fs i e) (slice_index_or fs j e)
          (filled_at few ms fs i d e a (omega (arith, less, inside))) (filled_at few ms fs j d e a inside))
          ∙ g.once i j e less inside;
      one_store = let same = same_store_count few ms fs a in omega (arith, same, g.one_store);
    }

pub good_by_well : (few : Type 0) (ms : List Move) (fs : List Filled) → AllFilled few ms fs → IsWellFormed ms
    → list_any is_temporary (flat_map cells_of_move ms) ≡ false → AreGood fs
good_by_well few ms fs a w t =
    let long : length ms ≡ length fs = as_long few ms fs a in
    record {
      nonempty = omega (arith, long, w.nonempty);
      short = omega (arith, long, w.short);
      placed = λ k e lt.
          let like = filled_at few ms fs k e.assign e a lt in
          placed_like (slice_index_or ms k e.assign) (slice_index_or fs k e).assign like.like_to like.like_value (w.placed k e.assign (omega (arith, long, lt)));
      once = λ i j e less lt.
          same_apart few (slice_index_or ms i e.assign) (slice_index_or ms j e.assign) (slice_index_or fs i e) (slice_index_or fs j e)
          (filled_at few ms fs i e.assign e a (omega (arith, less, lt))) (filled_at few ms fs j e.assign e a lt)
          ∙ w.once i j e.assign less (omega (arith, long, lt));
      one_store = let same = same_store_count few ms fs a in omega (arith, same, w.one_store);
      no_temporary = sym (same_all_temporaries few ms fs a) ∙ t;
    }

good_both : (few : Type 0) (r : Row) (t : Option (List Move)) (v : Option (Vec Filled)) → r.transfer ≡ t → BothAllFilled few t (option_map (λ x. x.items) v)
    → IsGood v ↔ HasGoodTransfer r
good_both few r None None e b = (λ g. absurd g, λ h. let never : Some h.moves ≡ None = sym h.transfer ∙ e in absurd (cc))
good_both few r None (Some v) e b = absurd b
good_both few r (Some ms) None e b = absurd b
good_both few r (Some ms) (Some v) e b = (
  λ g. record {
    moves = ms;
    transfer = e;
    well_formed = well_by_good few ms v.items b g;
    no_temporary = same_all_temporaries few ms v.items b ∙ g.no_temporary;
  },
  λ h.
      let both_are : Some h.moves ≡ Some ms = sym h.transfer ∙ e in
      let same : h.moves ≡ ms = cc in
      good_by_well few ms v.items b (subst IsWellFormed same h.well_formed) (subst (λ xs. list_any is_temporary (flat_map cells_of_move xs) ≡ false) same h.no_temporary),
)

pub good_row : (r : Row) (e : Expanded) → IsExpanded r e → IsGood e.transfer ↔ HasGoodTransfer r
good_row r e x = good_both _ r r.transfer e.transfer refl x.transfer
