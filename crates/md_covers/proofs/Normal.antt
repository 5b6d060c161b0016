-- The normal form of a row names what the row names.
use Rattle.std.proofs.Common.{◌≡◌, ℕ, Bool, true, false, cond, ◌==◌, List, zero, suc, ◌<◌, ◌≤◌, [], ◌∷◌, map, length, slice_get, Option, Some, None, refl, sym, subst, ◌∙◌}
use Rattle.std.specs.List.{All}
use Rattle.std.proofs.lemmas.Option.{slice_get_within, get_or_from_slice_get}
use Rattle.rtl_tree.specs.Trees.{Tree, Number, Symbol, CodeLabel, Read, Load, Unary, Binary, NoPair, AnyNumber, AnyName}
use Rattle.rtl_tree.specs.Moves.{Goal, ToCell, ToMemory, Move}
use Rattle.rtl_tree.specs.declared.cells.Cell.TheVariants.{Hole as RegisterHole}
use Rattle.rtl_tree.specs.declared.expressions.Width.TheVariants.{Byte, Full}
use Rattle.rtl_tree.specs.declared.expressions.UnOp.TheVariants.{Neg, Not, Sxb, Test}
use Rattle.rtl_tree.specs.declared.expressions.BinOp.TheVariants.{And}
use Rattle.rtl_norm.specs.Normal.{norm, finish}
use Rattle.rtl_norm.specs.Transfers.{stored_byte, norm_goal, norm_value, norm_move, norm_moves}
use Rattle.rtl_norm.proofs.Rewrites.{Rewrites, folds, folds_one, swaps, adds, joins, drops, compares, mirrors, negates, twice_neg, twice_not, extends, extends_low, cuts, goes, bytes}
use Rattle.rtl_norm.proofs.Finish.{finish_keeps}
use Rattle.md_rows.specs.declared.row.Hole.{Hole}
use Rattle.md_match.specs.Searches.{goal_tree}
use Rattle.md_match.specs.Does.{HasHolesBelow, IsRow}
use Rattle.md_covers.specs.Covers.{IsRowTree, IsRowMove, is_register_hole, is_number_hole, is_name_hole}

row_kept : (holes : List Hole) (w : ℕ) (t u : Tree) → Rewrites w t u → IsRowTree holes t → IsRowTree holes u
row_kept holes w _ _ (folds o a b v e) h = tt
row_kept holes w _ _ (folds_one o a v e) h = tt
row_kept holes w _ _ (swaps o a b e k l) h = (h.1, h.0)
row_kept holes w _ _ (adds a c) h = h
row_kept holes w _ _ (joins o p a c d v e) h = (h.0.0, tt)
row_kept holes w _ _ (drops o a c e) h = h.0
row_kept holes w _ _ (compares r a b) h = h
row_kept holes w _ _ (mirrors r a b m k l) h = (h.1, h.0)
row_kept holes w _ _ (negates a c e) h = h.1
row_kept holes w _ _ (twice_neg a) h = h
row_kept holes w _ _ (twice_not a) h = h
row_kept holes w _ _ (extends a) h = h
row_kept holes w _ _ (extends_low a c e) h = h.0
row_kept holes w _ _ (cuts a c e) h = h
row_kept holes w _ _ (bytes a c e) h = h.0
row_kept holes w _ _ (goes a c e) h = h.1

finish_row : (holes : List Hole) (w : ℕ) (t : Tree) → IsRowTree holes t → IsRowTree holes (finish w t)
finish_row holes w t h = finish_keeps w (IsRowTree holes) (row_kept holes w) t h

pub norm_row : (holes : List Hole) (w : ℕ) (t : Tree) → IsRowTree holes t → IsRowTree holes (norm w t)
norm_row holes w (Load d a) h = finish_row holes w (Load d (norm w a)) (norm_row holes w a h)
norm_row holes w (Unary o a) h = finish_row holes w (Unary o (norm w a)) (norm_row holes w a h)
norm_row holes w (Binary o a b) h = finish_row holes w (Binary o (norm w a) (norm w b)) (norm_row holes w a h.0, norm_row holes w b h.1)
norm_row holes w (Number n) h = h
norm_row holes w (Symbol n) h = h
norm_row holes w (CodeLabel l) h = h
norm_row holes w (Read c) h = h
norm_row holes w NoPair h = h
norm_row holes w (AnyNumber n) h = h
norm_row holes w (AnyName n) h = h

stored_row : (holes : List Hole) (t : Tree) → IsRowTree holes t → IsRowTree holes (stored_byte t)
stored_row holes (Unary Sxb b) h = h
stored_row holes (Unary Neg b) h = h
stored_row holes (Unary Not b) h = h
stored_row holes (Unary (Test r) b) h = h
stored_row holes (Binary And b (Number c)) h = by (c == 255)
  where
    by : (k : Bool) → IsRowTree holes (cond k b (Binary And b (Number c)))
    by true = h.0
    by false = h
stored_row holes t h = h

value_row : (holes : List Hole) (w : ℕ) (g : Goal) (t : Tree) → IsRowTree holes t → IsRowTree holes (norm_value w g t)
value_row holes w (ToMemory Byte a) t h = stored_row holes (norm w t) (norm_row holes w t h)
value_row holes w (ToMemory Full a) t h = norm_row holes w t h
value_row holes w (ToCell c) t h = norm_row holes w t h

goal_row : (holes : List Hole) (w : ℕ) (g : Goal) → IsRowTree holes (goal_tree g) → IsRowTree holes (goal_tree (norm_goal w g))
goal_row holes w (ToCell c) h = h
goal_row holes w (ToMemory d a) h = norm_row holes w a h

pub at_place : (holes : List Hole) (ms : List Move) → All (IsRowMove holes) ms → (j : ℕ) (r : Move) → slice_get ms j ≡ Some r → IsRowMove holes r
at_place holes ms k j r e = subst (IsRowMove holes) (get_or_from_slice_get ms j r r e) (k j r (slice_get_within ms j r e))

normal_at : (holes : List Hole) (w : ℕ) (ms : List Move) → ((j : ℕ) (r : Move) → slice_get ms j ≡ Some r → IsRowMove holes r)
    → (j : ℕ) (r : Move) → slice_get (map (norm_move w) ms) j ≡ Some r → IsRowMove holes r
normal_at holes w [] k j r e = let q : None ≡ Some r = e in cc
normal_at holes w (m ∷ ms) k zero r e =
    let x = k 0 m refl in
    let q : norm_move w m ≡ r = cc in
    subst (IsRowMove holes) q (record { place = goal_row holes w m.to x.place; value = value_row holes w m.to m.value x.value })
normal_at holes w (m ∷ ms) k (suc j) r e = normal_at holes w ms (λ i s q. k (suc i) s q) j r e

pub normal_row : (holes : List Hole) (w : ℕ) (effects normal : List Move) → All (IsRowMove holes) effects → normal ≡ norm_moves w effects
    → (j : ℕ) (r : Move) → slice_get normal j ≡ Some r → IsRowMove holes r
normal_row holes w effects normal k e j r q =
    normal_at holes w effects (at_place holes effects k) j r (subst (λ z. slice_get z j ≡ Some r) e q)

-- holes of a kind are there

there : (holes : List Hole) (p : Option Hole → Bool) → p None ≡ false → (h : ℕ) (o : Option Hole) → slice_get holes h ≡ o → p o ≡ true → h < length holes
there holes p n h None e k = let x : false ≡ true = sym n ∙ k in cc
there holes p n h (Some x) e k = slice_get_within holes h x e

pub row_below : (holes : List Hole) (t : Tree) → IsRowTree holes t → HasHolesBelow (length holes) t
row_below holes (Load w a) k = row_below holes a k
row_below holes (Unary o a) k = row_below holes a k
row_below holes (Binary o a b) k = (row_below holes a k.0, row_below holes b k.1)
row_below holes (AnyNumber h) k = there holes is_number_hole refl h (slice_get holes h) refl k
row_below holes (AnyName h) k = there holes is_name_hole refl h (slice_get holes h) refl k
row_below holes (Read (RegisterHole h)) k = there holes is_register_hole refl h (slice_get holes h) refl k
row_below holes _ k = tt

pub is_row : (holes : List Hole) (normal : List Move) → length holes ≤ 8 → length normal ≤ 6
    → ((j : ℕ) (r : Move) → slice_get normal j ≡ Some r → IsRowMove holes r) → IsRow holes normal
is_row holes normal few six kinds = record {
  few_holes = few;
  few_moves = six;
  places = λ j r e. row_below holes (goal_tree r.to) (kinds j r e).place;
  values = λ j r e. row_below holes r.value (kinds j r e).value;
}
