-- The normal form with registers: no rule looks at a cell.
use Rattle.std.proofs.Common.{◌≡◌, ℕ, zero, suc, ◌+◌, Bool, true, false, not, cond, ◌&&◌, List, [], ◌∷◌, Option, Some, None, option_map, refl, ap, ◌∙◌}
use Rattle.std.specs.Prelude.{◌==◌, nat_le}
use Rattle.rtl_word.specs.Words.{mirrored}
use Rattle.rtl_tree.specs.declared.cells.Cell.TheVariants.{Hard, Temp, Flag, Pc, Input, Output, Halt, Hole}
use Rattle.rtl_tree.specs.declared.expressions.Width.TheVariants.{Byte, Full}
use Rattle.rtl_tree.specs.declared.expressions.UnOp.TheVariants.{Neg, Not, Sxb, Test}
use Rattle.rtl_tree.specs.declared.expressions.BinOp.{BinOp}
use Rattle.rtl_tree.specs.declared.expressions.BinOp.TheVariants.{Sub, And, Cmp, Pair, When}
use Rattle.rtl_tree.specs.Trees.{Tree, Number, Load, Unary, Binary}
use Rattle.rtl_tree.specs.Likeness.{commutes}
use Rattle.rtl_tree.specs.Moves.{Goal, ToCell, ToMemory, Move}
use Rattle.rtl_norm.specs.Numbers.{is_constant}
use Rattle.rtl_norm.specs.Rules.{folded, number_if, fold_rule, swap_rule, is_order, mirror_rule, minus_rule, negate_rule, joined_number, left_of, binary_if, join_rule, is_neutral, neutral_rule, twice_rule, extend_rule, cut_rule, byte_rule, pair_rule, when_rule}
use Rattle.rtl_norm.specs.Normal.{or_else, step, weight, sub_weight, constant_weight, follow, steps, finish, norm}
use Rattle.rtl_norm_value.specs.Effect.{jump_in_form, with_normal_jump}
use Rattle.color_renaming.specs.Renaming.{tree_with, goal_with, with_registers}
use Rattle.color_jumps.specs.Jumps.{JumpIsRenamed}

module _ (r : ℕ → ℕ) where
  abbrev full : Tree → Tree
  full = tree_with r

  abbrev maybe : Option Tree → Option Tree
  maybe = option_map full

  constant_full : (a : Tree) → is_constant (full a) ≡ is_constant a
  constant_full (Number n) = refl
  constant_full _ = refl

  if_full : (k : Bool) (x : Tree) → cond k (Some (full x)) None ≡ maybe (cond k (Some x) None)
  if_full true x = refl
  if_full false x = refl

  unless_full : (k : Bool) (x : Tree) → cond k None (Some (full x)) ≡ maybe (cond k None (Some x))
  unless_full true x = refl
  unless_full false x = refl

  number_full : (o : Option ℕ) → number_if o ≡ maybe (number_if o)
  number_full (Some n) = refl
  number_full None = refl

  -- ---- the rules

  folded_full : (w : ℕ) (t : Tree) → folded w (full t) ≡ folded w t
  folded_full w (Unary o (Number a)) = refl
  folded_full w (Unary o _) = refl
  folded_full w (Binary o (Number a) (Number b)) = refl
  folded_full w (Binary o (Number a) _) = refl
  folded_full w (Binary o _ b) = refl
  folded_full w _ = refl

  fold_full : (w : ℕ) (t : Tree) → fold_rule w (full t) ≡ maybe (fold_rule w t)
  unfolding fold_rule
  fold_full w t = ap number_if (folded_full w t) ∙ number_full (folded w t)

  swap_full : (t : Tree) → swap_rule (full t) ≡ maybe (swap_rule t)
  unfolding swap_rule
  swap_full (Binary o a b) =
      (λ i. cond (commutes o && constant_full a i && not (constant_full b i)) (Some (Binary o (full b) (full a))) None)
      ∙ if_full (commutes o && is_constant a && not (is_constant b)) (Binary o b a)
  swap_full _ = refl

  mirror_full : (t : Tree) → mirror_rule (full t) ≡ maybe (mirror_rule t)
  unfolding mirror_rule
  mirror_full (Binary (Cmp q) a b) =
      (λ i. cond (is_order q && constant_full a i && not (constant_full b i)) (Some (Binary (Cmp (mirrored q)) (full b) (full a))) None)
      ∙ if_full (is_order q && is_constant a && not (is_constant b)) (Binary (Cmp (mirrored q)) b a)
  mirror_full (Binary _ a b) = refl
  mirror_full _ = refl

  minus_full : (w : ℕ) (t : Tree) → minus_rule w (full t) ≡ maybe (minus_rule w t)
  unfolding minus_rule
  minus_full w (Binary Sub a (Number c)) = refl
  minus_full w (Binary Sub a _) = refl
  minus_full w (Binary _ a b) = refl
  minus_full w _ = refl

  negate_full : (t : Tree) → negate_rule (full t) ≡ maybe (negate_rule t)
  unfolding negate_rule
  negate_full (Binary Sub (Number c) a) = if_full (c == 0) (Unary Neg a)
  negate_full (Binary Sub _ a) = refl
  negate_full (Binary _ a b) = refl
  negate_full _ = refl

  joined_full : (w : ℕ) (o : BinOp) (a b : Tree) → joined_number w o (full a) (full b) ≡ joined_number w o a b
  joined_full w o (Binary p a (Number c)) (Number d) = refl
  joined_full w o (Binary p a (Number c)) _ = refl
  joined_full w o (Binary p a _) b = refl
  joined_full w o _ b = refl

  left_full : (a : Tree) → left_of (full a) ≡ full (left_of a)
  left_full (Binary o a b) = refl
  left_full _ = refl

  binary_full : (o : BinOp) (a : Tree) (v : Option ℕ) → binary_if o (full a) v ≡ maybe (binary_if o a v)
  binary_full o a (Some n) = refl
  binary_full o a None = refl

  join_full : (w : ℕ) (t : Tree) → join_rule w (full t) ≡ maybe (join_rule w t)
  unfolding join_rule
  join_full w (Binary o a b) = (λ i. binary_if o (left_full a i) (joined_full w o a b i)) ∙ binary_full o (left_of a) (joined_number w o a b)
  join_full w _ = refl

  neutral_full : (w : ℕ) (t : Tree) → neutral_rule w (full t) ≡ maybe (neutral_rule w t)
  unfolding neutral_rule
  neutral_full w (Binary o a (Number c)) = if_full (is_neutral w o c) a
  neutral_full w (Binary o a _) = refl
  neutral_full w _ = refl

  twice_full : (t : Tree) → twice_rule (full t) ≡ maybe (twice_rule t)
  unfolding twice_rule
  twice_full (Unary Neg (Unary Neg a)) = refl
  twice_full (Unary Neg (Unary _ a)) = refl
  twice_full (Unary Neg _) = refl
  twice_full (Unary Not (Unary Not a)) = refl
  twice_full (Unary Not (Unary _ a)) = refl
  twice_full (Unary Not _) = refl
  twice_full (Unary _ a) = refl
  twice_full _ = refl

  extend_full : (t : Tree) → extend_rule (full t) ≡ maybe (extend_rule t)
  unfolding extend_rule
  extend_full (Unary Sxb (Unary Sxb a)) = refl
  extend_full (Unary Sxb (Unary _ a)) = refl
  extend_full (Unary Sxb (Binary And a (Number c))) = if_full (c == 255) (Unary Sxb a)
  extend_full (Unary Sxb (Binary And a _)) = refl
  extend_full (Unary Sxb (Binary _ a b)) = refl
  extend_full (Unary Sxb _) = refl
  extend_full (Unary _ a) = refl
  extend_full _ = refl

  cut_full : (t : Tree) → cut_rule (full t) ≡ maybe (cut_rule t)
  unfolding cut_rule
  cut_full (Binary And (Unary Sxb a) (Number c)) = if_full (nat_le c 255) (Binary And a (Number c))
  cut_full (Binary And (Unary Sxb a) _) = refl
  cut_full (Binary And (Unary _ a) b) = refl
  cut_full (Binary And _ b) = refl
  cut_full (Binary _ a b) = refl
  cut_full _ = refl

  byte_full : (t : Tree) → byte_rule (full t) ≡ maybe (byte_rule t)
  unfolding byte_rule
  byte_full (Binary And (Load Byte a) (Number c)) = if_full (c == 255) (Load Byte a)
  byte_full (Binary And (Load Byte a) _) = refl
  byte_full (Binary And (Load Full a) b) = refl
  byte_full (Binary And _ b) = refl
  byte_full (Binary _ a b) = refl
  byte_full _ = refl

  pair_full : (t : Tree) → pair_rule (full t) ≡ maybe (pair_rule t)
  unfolding pair_rule
  pair_full (Unary (Test q) (Binary Pair a b)) = refl
  pair_full (Unary (Test q) (Binary _ a b)) = refl
  pair_full (Unary (Test q) _) = refl
  pair_full (Unary _ a) = refl
  pair_full _ = refl

  when_full : (t : Tree) → when_rule (full t) ≡ maybe (when_rule t)
  unfolding when_rule
  when_full (Binary When (Number c) a) = unless_full (c == 0) a
  when_full (Binary When _ a) = refl
  when_full (Binary _ a b) = refl
  when_full _ = refl

  -- ---- the normal form

  else_full : (a b x y : Option Tree) → x ≡ maybe a → y ≡ maybe b → or_else x y ≡ maybe (or_else a b)
  else_full (Some t) b x y e f = ap (λ z. or_else z y) e
  else_full None b x y e f = ap (λ z. or_else z y) e ∙ f

  step_full : (w : ℕ) (t : Tree) → step w (full t) ≡ maybe (step w t)
  unfolding step
  step_full w t =
      else_full _ _ _ _ (fold_full w t) (else_full _ _ _ _ (swap_full t) (else_full _ _ _ _ (mirror_full t) (else_full _ _ _ _ (minus_full w t) (else_full _ _ _ _ (negate_full t)
      (else_full _ _ _ _ (join_full w t) (else_full _ _ _ _ (neutral_full w t) (else_full _ _ _ _ (twice_full t) (else_full _ _ _ _ (extend_full t) (else_full _ _ _ _ (cut_full t)
      (else_full _ _ _ _ (byte_full t) (else_full _ _ _ _ (pair_full t) (when_full t))))))))))))

  constant_weight_full : (a : Tree) → constant_weight (full a) ≡ constant_weight a
  constant_weight_full (Number n) = refl
  constant_weight_full _ = refl

  weight_full : (t : Tree) → weight (full t) ≡ weight t
  weight_full (Load d a) = ap (λ n. n + 1) (weight_full a)
  weight_full (Unary o a) = ap (λ n. n + 3) (weight_full a)
  weight_full (Binary o a b) = λ i. weight_full a i + weight_full b i + sub_weight o + constant_weight_full a i + 3
  weight_full _ = refl

  follow_full : (o x : Option Tree) (t : Tree) (go : Tree → Tree) → x ≡ maybe o → ((u : Tree) → go (full u) ≡ full (go u)) → follow x (full t) go ≡ full (follow o t go)
  follow_full (Some u) x t go e h = ap (λ y. follow y (full t) go) e ∙ h u
  follow_full None x t go e h = ap (λ y. follow y (full t) go) e

  steps_full : (w n : ℕ) (t : Tree) → steps w n (full t) ≡ full (steps w n t)
  steps_full w zero t = refl
  steps_full w (suc n) t = follow_full (step w t) (step w (full t)) t (steps w n) (step_full w t) (steps_full w n)

  finish_full : (w : ℕ) (t : Tree) → finish w (full t) ≡ full (finish w t)
  unfolding finish
  finish_full w t = ap (λ n. steps w n (full t)) (weight_full t) ∙ steps_full w (weight t) t

  norm_full : (w : ℕ) (t : Tree) → norm w (full t) ≡ full (norm w t)
  norm_full w (Load d a) = ap (λ x. finish w (Load d x)) (norm_full w a) ∙ finish_full w (Load d (norm w a))
  norm_full w (Unary o a) = ap (λ x. finish w (Unary o x)) (norm_full w a) ∙ finish_full w (Unary o (norm w a))
  norm_full w (Binary o a b) = (λ i. finish w (Binary o (norm_full w a i) (norm_full w b i))) ∙ finish_full w (Binary o (norm w a) (norm w b))
  norm_full w _ = refl

  form_full : (w : ℕ) (g : Goal) (a : Tree) → jump_in_form w (goal_with r g) (full a) ≡ full (jump_in_form w g a)
  form_full w (ToCell Pc) a = norm_full w a
  form_full w (ToCell (Hard n)) a = refl
  form_full w (ToCell (Temp n)) a = refl
  form_full w (ToCell (Flag n)) a = refl
  form_full w (ToCell Input) a = refl
  form_full w (ToCell Output) a = refl
  form_full w (ToCell Halt) a = refl
  form_full w (ToCell (Hole n)) a = refl
  form_full w (ToMemory d b) a = refl

  jumps_full : (w : ℕ) (ms : List Move) → with_normal_jump w (with_registers r ms) ≡ with_registers r (with_normal_jump w ms)
  jumps_full w [] = refl
  jumps_full w (m ∷ ms) = λ i. record { to = goal_with r m.to; value = form_full w m.to m.value i } ∷ jumps_full w ms i

pub jump_is_renamed : JumpIsRenamed
jump_is_renamed w register ms = jumps_full register w ms
