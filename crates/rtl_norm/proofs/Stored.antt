-- A transfer in normal form is its own normal form, and its numbers are words.
use Rattle.std.proofs.Common.{◌≡◌, ℕ, true, false, cond, Option, Some, None, List, [], ◌∷◌, refl, sym, ap, ◌∙◌, arith}
use Rattle.std.specs.Prelude.{◌==◌, nat_le}
use Rattle.std.specs.List.{All}
use Rattle.std.specs.Prelude.{get_or}
use Rattle.std.proofs.lemmas.List.Elements.{All-map}
use Rattle.std.proofs.lemmas.Bool.Decides.{nat_tests}
use Rattle.rtl_word.specs.Words.{IsWordSize}
use Rattle.rtl_tree.specs.Trees.{Tree, Number, Unary, Binary}
use Rattle.rtl_tree.specs.Moves.{Goal, ToCell, ToMemory, Move}
use Rattle.rtl_tree.specs.declared.expressions.Width.TheVariants.{Byte, Full}
use Rattle.rtl_tree.specs.declared.expressions.UnOp.TheVariants.{Sxb}
use Rattle.rtl_tree.specs.declared.expressions.BinOp.TheVariants.{And}
use Rattle.rtl_tree.specs.Sorts.{IsFitting}
use Rattle.rtl_norm.specs.Rules.{fold_rule, swap_rule, mirror_rule, minus_rule, negate_rule, join_rule, neutral_rule, twice_rule, extend_rule, cut_rule}
use Rattle.rtl_norm.specs.Normal.{or_else, step, norm, IsNormal}
use Rattle.rtl_norm.specs.Transfers.{stored_byte, norm_goal, norm_value, norm_move, norm_moves, IsGoalFitting, IsMoveFitting}
use Rattle.rtl_norm.proofs.Rewrites.{none_some}
use Rattle.rtl_norm.proofs.Finish.{norm_fits}
use Rattle.rtl_norm.proofs.Settled.{norm_normal, norm_fixed, norm_norm}

or_else_none : (a b : Option Tree) → or_else a b ≡ None → (a ≡ None) × (b ≡ None)
or_else_none (Some t) b e = absurd (none_some t (sym e))
or_else_none None b e = (refl, e)

-- where no rule applies, neither do N6, N9 and N10
no_join : (w : ℕ) (t : Tree) → step w t ≡ None → join_rule w t ≡ None
unfolding step
no_join w t e =
    let a = or_else_none (fold_rule w t) _ e in
    let b = or_else_none (swap_rule t) _ a.1 in
    let c = or_else_none (mirror_rule t) _ b.1 in
    let d = or_else_none (minus_rule w t) _ c.1 in
    let f = or_else_none (negate_rule t) _ d.1 in
    let g = or_else_none (join_rule w t) _ f.1 in
    g.0

after_join : (w : ℕ) (t : Tree) → step w t ≡ None → (extend_rule t ≡ None) × (cut_rule t ≡ None)
unfolding step
after_join w t e =
    let a = or_else_none (fold_rule w t) _ e in
    let b = or_else_none (swap_rule t) _ a.1 in
    let c = or_else_none (mirror_rule t) _ b.1 in
    let d = or_else_none (minus_rule w t) _ c.1 in
    let f = or_else_none (negate_rule t) _ d.1 in
    let g = or_else_none (join_rule w t) _ f.1 in
    let h = or_else_none (neutral_rule w t) _ g.1 in
    let i = or_else_none (twice_rule t) _ h.1 in
    let j = or_else_none (extend_rule t) _ i.1 in
    let k = or_else_none (cut_rule t) _ j.1 in
    (j.0, k.0)

-- what stands under the extension of a normal tree is not cut by a byte store
under_sxb : (b : Tree) → extend_rule (Unary Sxb b) ≡ None → stored_byte b ≡ b
unfolding extend_rule
under_sxb (Unary Sxb a) e = absurd (none_some (Unary Sxb a) (sym e))
under_sxb (Binary And a (Number c)) e =
    elim (c == 255) as (λ t. cond t (Some (Unary Sxb a)) None ≡ None → cond t a (Binary And a (Number c)) ≡ Binary And a (Number c)) [
      | true ↦ λ h. absurd (none_some (Unary Sxb a) (sym h))
      | false ↦ λ h. refl
    ] e
under_sxb _ e = refl

is_255 : (c : ℕ) → c == 255 ≡ true → nat_le c 255 ≡ true
is_255 c e = grind (arith, nat_tests)

-- nor what stands under the mask of a normal tree
under_mask : (w : ℕ) (b : Tree) (c : ℕ) → c == 255 ≡ true → join_rule w (Binary And b (Number c)) ≡ None → cut_rule (Binary And b (Number c)) ≡ None → stored_byte b ≡ b
unfolding join_rule cut_rule
under_mask w (Unary Sxb a) c k e h =
    let l = ap (λ t. cond t (Some (Binary And a (Number c))) None) (is_255 c k) in
    absurd (none_some (Binary And a (Number c)) (sym h ∙ l))
under_mask w (Binary And a (Number d)) c k e h = absurd (none_some _ (sym e))
under_mask w _ c k e h = refl

stored_stored : (w : ℕ) (t : Tree) → IsNormal w t → stored_byte (stored_byte t) ≡ stored_byte t
stored_stored w (Unary Sxb b) n = under_sxb b (after_join w (Unary Sxb b) n.0).0
stored_stored w (Binary And b (Number c)) n =
    elim (c == 255) as (λ t. c == 255 ≡ t → stored_byte (cond t b (Binary And b (Number c))) ≡ cond t b (Binary And b (Number c))) [
      | true ↦ λ k. under_mask w b c k (no_join w (Binary And b (Number c)) n.0) (after_join w (Binary And b (Number c)) n.0).1
      | false ↦ λ k. ap (λ t. cond t b (Binary And b (Number c))) k
    ] refl
stored_stored w _ n = refl

stored_normal : (w : ℕ) (t : Tree) → IsNormal w t → IsNormal w (stored_byte t)
stored_normal w (Unary Sxb b) n = n.1
stored_normal w (Binary And b (Number c)) n =
    elim (c == 255) as (λ t. IsNormal w (cond t b (Binary And b (Number c)))) [ true ↦ n.1 | false ↦ n ]
stored_normal w _ n = n

goal_twice : (w : ℕ) (g : Goal) → norm_goal w (norm_goal w g) ≡ norm_goal w g
goal_twice w (ToCell c) = refl
goal_twice w (ToMemory d a) = ap (ToMemory d) (norm_norm w a)

value_twice : (w : ℕ) (g : Goal) (t : Tree) → norm_value w (norm_goal w g) (norm_value w g t) ≡ norm_value w g t
value_twice w (ToCell c) t = norm_norm w t
value_twice w (ToMemory Full a) t = norm_norm w t
value_twice w (ToMemory Byte a) t =
    let n = norm_normal w t in
    ap stored_byte (norm_fixed w (stored_byte (norm w t)) (stored_normal w (norm w t) n)) ∙ stored_stored w (norm w t) n

move_is : (g h : Goal) (t u : Tree) → g ≡ h → t ≡ u → (let m : Move = record { to = g; value = t } in m ≡ record { to = h; value = u })
move_is g h t u e k = cc

pub move_twice : (w : ℕ) (m : Move) → norm_move w (norm_move w m) ≡ norm_move w m
move_twice w m = move_is _ _ _ _ (goal_twice w m.to) (value_twice w m.to m.value)

pub moves_twice : (w : ℕ) (ms : List Move) → norm_moves w (norm_moves w ms) ≡ norm_moves w ms
moves_twice w [] = refl
moves_twice w (m ∷ ms) = ap (λ x. x ∷ norm_moves w (norm_moves w ms)) (move_twice w m) ∙ ap (λ xs. norm_move w m ∷ xs) (moves_twice w ms)

stored_fits : (w : ℕ) (t : Tree) → IsFitting w t → IsFitting w (stored_byte t)
stored_fits w (Unary Sxb b) f = f
stored_fits w (Binary And b (Number c)) f =
    elim (c == 255) as (λ t. IsFitting w (cond t b (Binary And b (Number c)))) [ true ↦ f.0 | false ↦ f ]
stored_fits w _ f = f

goal_fits : (w : ℕ) (g : Goal) → IsWordSize w → IsGoalFitting w g → IsGoalFitting w (norm_goal w g)
goal_fits w (ToCell c) z f = f
goal_fits w (ToMemory d a) z f = norm_fits w a z f

value_fits : (w : ℕ) (g : Goal) (t : Tree) → IsWordSize w → IsFitting w t → IsFitting w (norm_value w g t)
value_fits w (ToCell c) t z f = norm_fits w t z f
value_fits w (ToMemory Full a) t z f = norm_fits w t z f
value_fits w (ToMemory Byte a) t z f = stored_fits w (norm w t) (norm_fits w t z f)

pub move_fits : (w : ℕ) (m : Move) → IsWordSize w → IsMoveFitting w m → IsMoveFitting w (norm_move w m)
move_fits w m z f = (goal_fits w m.to z f.0, value_fits w m.to m.value z f.1)

pub moves_fit : (w : ℕ) (ms : List Move) → IsWordSize w → All (IsMoveFitting w) ms → All (IsMoveFitting w) (norm_moves w ms)
moves_fit w ms z h =
    All-map (IsMoveFitting w) (norm_move w) ms
    (λ k d l. move_fits w (get_or ms k d) z (h k d l))
