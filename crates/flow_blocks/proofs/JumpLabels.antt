-- The label of a jump, in its value as it stands and in the normal form.
use Rattle.std.proofs.Common.{◌≡◌, ℕ, Bool, true, false, cond, List, [], ◌∷◌, Option, Some, None, refl, ap, ◌∙◌}
use Rattle.std.specs.Prelude.{◌==◌}
use Rattle.std.specs.Option.{option_map}
use Rattle.std.proofs.lemmas.Option.{none-some}
use Rattle.rtl_tree.specs.declared.cells.Cell.{Cell}
use Rattle.rtl_tree.specs.declared.cells.Cell.TheVariants.{Hard, Temp, Flag, Pc, Input, Output, Halt, Hole}
use Rattle.rtl_tree.specs.declared.cells.Lab.TheVariants.{Block, Function}
use Rattle.rtl_tree.specs.declared.expressions.BinOp.TheVariants.{Add, Sub, Mul, Div, Divu, Rem, Remu, And, Or, Xor, Shl, Shr, Shru, Cmp, Pair, When}
use Rattle.rtl_tree.specs.Trees.{Tree, Number, Symbol, CodeLabel, Read, Load, Unary, Binary, NoPair, AnyNumber, AnyName}
use Rattle.rtl_tree.specs.Moves.{Goal, ToCell, ToMemory, Move}
use Rattle.rtl_effect.specs.Effects.{assigned, assigned_by}
use Rattle.rtl_norm.specs.Normal.{step, finish, norm}
use Rattle.rtl_norm.specs.Rules.{fold_rule, swap_rule, mirror_rule, minus_rule, negate_rule, join_rule, neutral_rule, twice_rule, extend_rule, cut_rule, byte_rule, pair_rule, when_rule}
use Rattle.rtl_norm.proofs.Finish.{finish_done, finish_step}
use Rattle.rtl_norm_value.specs.Effect.{jump_in_form, with_normal_jump}
use Rattle.temp_machine.specs.Flow.{label_by}

-- a jump on a condition keeps its label

abbrev jump_on : Tree → ℕ → Tree
jump_on a k = Binary When a (CodeLabel (Block k))

step_at : ℕ → Tree → ℕ → Option Tree
step_at w (Number n) k = cond (n == 0) None (Some (CodeLabel (Block k)))
step_at w _ k = None

when_step : (w : ℕ) (a : Tree) (k : ℕ) → step w (jump_on a k) ≡ step_at w a k
unfolding step step_at fold_rule swap_rule mirror_rule minus_rule negate_rule join_rule neutral_rule twice_rule extend_rule cut_rule byte_rule pair_rule when_rule
when_step w (Number n) k = refl
when_step w (Symbol n) k = refl
when_step w (CodeLabel l) k = refl
when_step w (Read c) k = refl
when_step w (Load d a) k = refl
when_step w (Unary o a) k = refl
when_step w (Binary o a (Number n)) k = refl
when_step w (Binary o a (Symbol n)) k = refl
when_step w (Binary o a (CodeLabel l)) k = refl
when_step w (Binary o a (Read c)) k = refl
when_step w (Binary o a (Load d x)) k = refl
when_step w (Binary o a (Unary u x)) k = refl
when_step w (Binary o a (Binary u x y)) k = refl
when_step w (Binary o a NoPair) k = refl
when_step w (Binary o a (AnyNumber n)) k = refl
when_step w (Binary o a (AnyName n)) k = refl
when_step w NoPair k = refl
when_step w (AnyNumber n) k = refl
when_step w (AnyName n) k = refl

label_step : (w k : ℕ) → step w (CodeLabel (Block k)) ≡ None
unfolding step fold_rule swap_rule mirror_rule minus_rule negate_rule join_rule neutral_rule twice_rule extend_rule cut_rule byte_rule pair_rule when_rule
label_step w k = refl

stays : (w : ℕ) (a : Tree) (k : ℕ) → step w (jump_on a k) ≡ None → label_by (Some (finish w (jump_on a k))) ≡ Some k
stays w a k e = ap (λ (u : Tree). label_by (Some u)) (finish_done w (jump_on a k) e)

goes_on : (w n k : ℕ) (b : Bool) → (n == 0) ≡ b → label_by (Some (finish w (jump_on (Number n) k))) ≡ Some k
unfolding step_at
goes_on w n k true e = stays w (Number n) k (when_step w (Number n) k ∙ ap (λ (b : Bool). cond b None (Some (CodeLabel (Block k)))) e)
goes_on w n k false e =
    ap (λ (u : Tree). label_by (Some u))
    (finish_step w (jump_on (Number n) k) (CodeLabel (Block k)) (when_step w (Number n) k ∙ ap (λ (b : Bool). cond b None (Some (CodeLabel (Block k)))) e)
    ∙ finish_done w (CodeLabel (Block k)) (label_step w k))

when_kept : (w : ℕ) (a : Tree) (k : ℕ) → label_by (Some (finish w (jump_on a k))) ≡ Some k
unfolding step_at
when_kept w (Number n) k = goes_on w n k (n == 0) refl
when_kept w (Symbol n) k = stays w (Symbol n) k (when_step w (Symbol n) k)
when_kept w (CodeLabel l) k = stays w (CodeLabel l) k (when_step w (CodeLabel l) k)
when_kept w (Read c) k = stays w (Read c) k (when_step w (Read c) k)
when_kept w (Load d a) k = stays w (Load d a) k (when_step w (Load d a) k)
when_kept w (Unary o a) k = stays w (Unary o a) k (when_step w (Unary o a) k)
when_kept w (Binary o a b) k = stays w (Binary o a b) k (when_step w (Binary o a b) k)
when_kept w NoPair k = stays w NoPair k (when_step w NoPair k)
when_kept w (AnyNumber n) k = stays w (AnyNumber n) k (when_step w (AnyNumber n) k)
when_kept w (AnyName n) k = stays w (AnyName n) k (when_step w (AnyName n) k)

on_condition : (w : ℕ) (c t : Tree) (l : ℕ) → label_by (Some (Binary When c t)) ≡ Some l → label_by (Some (norm w (Binary When c t))) ≡ Some l
on_condition w c (Number n) l e = absurd (none-some l e)
on_condition w c (Symbol n) l e = absurd (none-some l e)
on_condition w c (CodeLabel (Block k)) l e = when_kept w (norm w c) k ∙ e
on_condition w c (CodeLabel (Function f)) l e = absurd (none-some l e)
on_condition w c (Read d) l e = absurd (none-some l e)
on_condition w c (Load d a) l e = absurd (none-some l e)
on_condition w c (Unary o a) l e = absurd (none-some l e)
on_condition w c (Binary o a b) l e = absurd (none-some l e)
on_condition w c NoPair l e = absurd (none-some l e)
on_condition w c (AnyNumber n) l e = absurd (none-some l e)
on_condition w c (AnyName n) l e = absurd (none-some l e)

-- a label that stands in a value as it is stands in its normal form
pub label_kept : (w : ℕ) (t : Tree) (l : ℕ) → label_by (Some t) ≡ Some l → label_by (Some (norm w t)) ≡ Some l
label_kept w (Number n) l e = absurd (none-some l e)
label_kept w (Symbol n) l e = absurd (none-some l e)
label_kept w (CodeLabel (Block k)) l e = e
label_kept w (CodeLabel (Function f)) l e = absurd (none-some l e)
label_kept w (Read d) l e = absurd (none-some l e)
label_kept w (Load d a) l e = absurd (none-some l e)
label_kept w (Unary o a) l e = absurd (none-some l e)
label_kept w (Binary When a b) l e = on_condition w a b l e
label_kept w (Binary Add a b) l e = absurd (none-some l e)
label_kept w (Binary Sub a b) l e = absurd (none-some l e)
label_kept w (Binary Mul a b) l e = absurd (none-some l e)
label_kept w (Binary Div a b) l e = absurd (none-some l e)
label_kept w (Binary Divu a b) l e = absurd (none-some l e)
label_kept w (Binary Rem a b) l e = absurd (none-some l e)
label_kept w (Binary Remu a b) l e = absurd (none-some l e)
label_kept w (Binary And a b) l e = absurd (none-some l e)
label_kept w (Binary Or a b) l e = absurd (none-some l e)
label_kept w (Binary Xor a b) l e = absurd (none-some l e)
label_kept w (Binary Shl a b) l e = absurd (none-some l e)
label_kept w (Binary Shr a b) l e = absurd (none-some l e)
label_kept w (Binary Shru a b) l e = absurd (none-some l e)
label_kept w (Binary (Cmp r) a b) l e = absurd (none-some l e)
label_kept w (Binary Pair a b) l e = absurd (none-some l e)
label_kept w NoPair l e = absurd (none-some l e)
label_kept w (AnyNumber n) l e = absurd (none-some l e)
label_kept w (AnyName n) l e = absurd (none-some l e)

-- the value of the program counter

normal_by : (w : ℕ) (g : Goal) (t : Tree) (rest : Option Tree) → assigned_by g (jump_in_form w g t) Pc (option_map (norm w) rest) ≡ option_map (norm w) (assigned_by g t Pc rest)
normal_by w (ToMemory d a) t rest = refl
normal_by w (ToCell (Hard n)) t rest = refl
normal_by w (ToCell (Temp n)) t rest = refl
normal_by w (ToCell (Flag n)) t rest = refl
normal_by w (ToCell Pc) t rest = refl
normal_by w (ToCell Input) t rest = refl
normal_by w (ToCell Output) t rest = refl
normal_by w (ToCell Halt) t rest = refl
normal_by w (ToCell (Hole n)) t rest = refl

pub normal_value : (w : ℕ) (ms : List Move) → assigned (with_normal_jump w ms) Pc ≡ option_map (norm w) (assigned ms Pc)
normal_value w [] = refl
normal_value w (m ∷ ms) = ap (assigned_by m.to (jump_in_form w m.to m.value) Pc) (normal_value w ms) ∙ normal_by w m.to m.value (assigned ms Pc)
