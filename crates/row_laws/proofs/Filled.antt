-- What filling the holes of a tree leaves as it is: its depth, and which constructs stand where.
use Rattle.std.proofs.Common.{◌≡◌, ℕ, suc, max, Bool, not, ◌&&◌, List, slice_get, Option, Some, None, refl, ap, ◌∙◌}
use Rattle.rtl_tree.specs.declared.cells.Cell.TheVariants.{Hard, Temp, Flag, Pc, Input, Output, Halt, Hole as RegisterHole}
use Rattle.rtl_tree.specs.declared.constructs.Construct.{Construct}
use Rattle.rtl_tree.specs.declared.constructs.Construct.TheVariants.{Compared, Jump, Taken, Written}
use Rattle.rtl_tree.specs.declared.expressions.Width.{Width}
use Rattle.rtl_tree.specs.declared.expressions.UnOp.{UnOp}
use Rattle.rtl_tree.specs.declared.expressions.UnOp.TheVariants.{Neg, Not, Sxb, Test}
use Rattle.rtl_tree.specs.declared.expressions.BinOp.{BinOp}
use Rattle.rtl_tree.specs.declared.expressions.BinOp.TheVariants.{Pair, When}
use Rattle.rtl_tree.specs.Trees.{Tree, Number, Symbol, CodeLabel, Read, Load, Unary, Binary, NoPair, AnyNumber, AnyName}
use Rattle.rtl_tree.specs.Moves.{Goal, ToCell}
use Rattle.rtl_tree.specs.WellFormed.{depth, is_construct, free_of, free_below, is_flag, flags_tested}
use Rattle.rtl_norm_value.specs.Effect.{IsFilled}
use Rattle.md_rows.specs.declared.instance.Bound.{Bound}
use Rattle.md_rows.specs.declared.instance.Bound.TheVariants.{Reg, Num, Sym, Label}
use Rattle.md_rows.specs.Instances.{register_by, filled}
use Rattle.md_filled.specs.Held.{IsRegister, IsHeld}
use Rattle.md_filled.proofs.Rewriting.{register_is, word_is, name_is}

-- constructs by the root of a tree

two_alike : (k : Construct) (o : BinOp) (a b c d : Tree) → is_construct k (Binary o a b) ≡ is_construct k (Binary o c d)
two_alike Compared Pair a b c d = refl
two_alike Compared _ a b c d = refl
two_alike Jump When a b c d = refl
two_alike Jump _ a b c d = refl
two_alike Taken o a b c d = refl
two_alike Written o a b c d = refl

one_alike : (k : Construct) (o : UnOp) (a b : Tree) → is_construct k (Unary o a) ≡ is_construct k (Unary o b)
one_alike Compared o a b = refl
one_alike Jump o a b = refl
one_alike Taken o a b = refl
one_alike Written o a b = refl

load_alike : (k : Construct) (d : Width) (a b : Tree) → is_construct k (Load d a) ≡ is_construct k (Load d b)
load_alike Compared d a b = refl
load_alike Jump d a b = refl
load_alike Taken d a b = refl
load_alike Written d a b = refl

hard_hole : (k : Construct) (n h : ℕ) → is_construct k (Read (Hard n)) ≡ is_construct k (Read (RegisterHole h))
hard_hole Compared n h = refl
hard_hole Jump n h = refl
hard_hole Taken n h = refl
hard_hole Written n h = refl

temp_hole : (k : Construct) (n h : ℕ) → is_construct k (Read (Temp n)) ≡ is_construct k (Read (RegisterHole h))
temp_hole Compared n h = refl
temp_hole Jump n h = refl
temp_hole Taken n h = refl
temp_hole Written n h = refl

number_hole : (k : Construct) (n h : ℕ) → is_construct k (Number n) ≡ is_construct k (AnyNumber h)
number_hole Compared n h = refl
number_hole Jump n h = refl
number_hole Taken n h = refl
number_hole Written n h = refl

symbol_hole : (k : Construct) (n h : ℕ) → is_construct k (Symbol n) ≡ is_construct k (AnyName h)
symbol_hole Compared n h = refl
symbol_hole Jump n h = refl
symbol_hole Taken n h = refl
symbol_hole Written n h = refl

label_hole : (k : Construct) (l : _) (h : ℕ) → is_construct k (CodeLabel l) ≡ is_construct k (AnyName h)
label_hole Compared l h = refl
label_hole Jump l h = refl
label_hole Taken l h = refl
label_hole Written l h = refl

module _ (w : ℕ) (b : List Bound) where
  pub construct_filled : (k : Construct) (t : Tree) → IsHeld w b t → is_construct k (filled b t) ≡ is_construct k t
  construct_filled k (Number n) i = refl
  construct_filled k (Symbol n) i = refl
  construct_filled k (CodeLabel l) i = refl
  construct_filled k (Read (RegisterHole h)) i =
      register_is (λ u. is_construct k u ≡ is_construct k (Read (RegisterHole h))) (Read (RegisterHole h)) (slice_get b h) i (λ n. hard_hole k n h) (λ n. temp_hole k n h)
  construct_filled k (Read (Hard n)) i = refl
  construct_filled k (Read (Temp n)) i = refl
  construct_filled k (Read (Flag n)) i = refl
  construct_filled k (Read Pc) i = refl
  construct_filled k (Read Input) i = refl
  construct_filled k (Read Output) i = refl
  construct_filled k (Read Halt) i = refl
  construct_filled k (Load d a) i = load_alike k d (filled b a) a
  construct_filled k (Unary o a) i = one_alike k o (filled b a) a
  construct_filled k (Binary o a c) i = two_alike k o (filled b a) (filled b c) a c
  construct_filled k NoPair i = refl
  construct_filled k (AnyNumber h) i =
      word_is w (λ u. is_construct k u ≡ is_construct k (AnyNumber h)) (AnyNumber h) (slice_get b h) i (λ n l. number_hole k n h)
  construct_filled k (AnyName h) i =
      name_is (λ u. is_construct k u ≡ is_construct k (AnyName h)) (AnyName h) (slice_get b h) i (λ n. symbol_hole k n h) (λ l. label_hole k l h)

  pub free_filled : (k : Construct) (t : Tree) → IsHeld w b t → free_of k (filled b t) ≡ free_of k t
  free_filled k (Number n) i = refl
  free_filled k (Symbol n) i = refl
  free_filled k (CodeLabel l) i = refl
  free_filled k (Read (RegisterHole h)) i =
      register_is (λ u. free_of k u ≡ not (is_construct k (Read (RegisterHole h)))) (Read (RegisterHole h)) (slice_get b h) i
      (λ n. ap not (hard_hole k n h)) (λ n. ap not (temp_hole k n h))
  free_filled k (Read (Hard n)) i = refl
  free_filled k (Read (Temp n)) i = refl
  free_filled k (Read (Flag n)) i = refl
  free_filled k (Read Pc) i = refl
  free_filled k (Read Input) i = refl
  free_filled k (Read Output) i = refl
  free_filled k (Read Halt) i = refl
  free_filled k (Load d a) i = free_filled k a i
  free_filled k (Unary o a) i = free_filled k a i
  free_filled k (Binary o a c) i =
      let x = two_alike k o (filled b a) (filled b c) a c in
      let y = free_filled k a i.0 in
      let z = free_filled k c i.1 in
      ap (λ (q : Bool). not q && (free_of k (filled b a) && free_of k (filled b c))) x
      ∙ (ap (λ (q : Bool). not (is_construct k (Binary o a c)) && (q && free_of k (filled b c))) y
      ∙ ap (λ (q : Bool). not (is_construct k (Binary o a c)) && (free_of k a && q)) z)
  free_filled k NoPair i = refl
  free_filled k (AnyNumber h) i =
      word_is w (λ u. free_of k u ≡ not (is_construct k (AnyNumber h))) (AnyNumber h) (slice_get b h) i (λ n l. ap not (number_hole k n h))
  free_filled k (AnyName h) i =
      name_is (λ u. free_of k u ≡ not (is_construct k (AnyName h))) (AnyName h) (slice_get b h) i (λ n. ap not (symbol_hole k n h)) (λ l. ap not (label_hole k l h))

  pub below_filled : (k : Construct) (t : Tree) → IsHeld w b t → free_below k (filled b t) ≡ free_below k t
  below_filled k (Number n) i = refl
  below_filled k (Symbol n) i = refl
  below_filled k (CodeLabel l) i = refl
  below_filled k (Read (RegisterHole h)) i = register_is (λ u. free_below k u ≡ free_below k (Read (RegisterHole h))) (Read (RegisterHole h)) (slice_get b h) i (λ n. refl) (λ n. refl)
  below_filled k (Read (Hard n)) i = refl
  below_filled k (Read (Temp n)) i = refl
  below_filled k (Read (Flag n)) i = refl
  below_filled k (Read Pc) i = refl
  below_filled k (Read Input) i = refl
  below_filled k (Read Output) i = refl
  below_filled k (Read Halt) i = refl
  below_filled k (Load d a) i = free_filled k a i
  below_filled k (Unary o a) i = free_filled k a i
  below_filled k (Binary o a c) i =
      ap (λ (q : Bool). q && free_of k (filled b c)) (free_filled k a i.0) ∙ ap (λ (q : Bool). free_of k a && q) (free_filled k c i.1)
  below_filled k NoPair i = refl
  below_filled k (AnyNumber h) i = word_is w (λ u. free_below k u ≡ free_below k (AnyNumber h)) (AnyNumber h) (slice_get b h) i (λ n l. refl)
  below_filled k (AnyName h) i = name_is (λ u. free_below k u ≡ free_below k (AnyName h)) (AnyName h) (slice_get b h) i (λ n. refl) (λ l. refl)

  flag_filled : (t : Tree) → IsHeld w b t → is_flag (filled b t) ≡ is_flag t
  flag_filled (Number n) i = refl
  flag_filled (Symbol n) i = refl
  flag_filled (CodeLabel l) i = refl
  flag_filled (Read (RegisterHole h)) i = register_is (λ u. is_flag u ≡ is_flag (Read (RegisterHole h))) (Read (RegisterHole h)) (slice_get b h) i (λ n. refl) (λ n. refl)
  flag_filled (Read (Hard n)) i = refl
  flag_filled (Read (Temp n)) i = refl
  flag_filled (Read (Flag n)) i = refl
  flag_filled (Read Pc) i = refl
  flag_filled (Read Input) i = refl
  flag_filled (Read Output) i = refl
  flag_filled (Read Halt) i = refl
  flag_filled (Load d a) i = refl
  flag_filled (Unary o a) i = refl
  flag_filled (Binary o a c) i = refl
  flag_filled NoPair i = refl
  flag_filled (AnyNumber h) i = word_is w (λ u. is_flag u ≡ is_flag (AnyNumber h)) (AnyNumber h) (slice_get b h) i (λ n l. refl)
  flag_filled (AnyName h) i = name_is (λ u. is_flag u ≡ is_flag (AnyName h)) (AnyName h) (slice_get b h) i (λ n. refl) (λ l. refl)

  pub tested_filled : (t : Tree) → IsHeld w b t → flags_tested (filled b t) ≡ flags_tested t
  tested_filled (Number n) i = refl
  tested_filled (Symbol n) i = refl
  tested_filled (CodeLabel l) i = refl
  tested_filled (Read (RegisterHole h)) i =
      register_is (λ u. flags_tested u ≡ flags_tested (Read (RegisterHole h))) (Read (RegisterHole h)) (slice_get b h) i (λ n. refl) (λ n. refl)
  tested_filled (Read (Hard n)) i = refl
  tested_filled (Read (Temp n)) i = refl
  tested_filled (Read (Flag n)) i = refl
  tested_filled (Read Pc) i = refl
  tested_filled (Read Input) i = refl
  tested_filled (Read Output) i = refl
  tested_filled (Read Halt) i = refl
  tested_filled (Load d a) i = tested_filled a i
  tested_filled (Unary Neg a) i = tested_filled a i
  tested_filled (Unary Not a) i = tested_filled a i
  tested_filled (Unary Sxb a) i = tested_filled a i
  tested_filled (Unary (Test r) a) i = flag_filled a i
  tested_filled (Binary o a c) i =
      ap (λ (q : Bool). q && flags_tested (filled b c)) (tested_filled a i.0) ∙ ap (λ (q : Bool). flags_tested a && q) (tested_filled c i.1)
  tested_filled NoPair i = refl
  tested_filled (AnyNumber h) i = word_is w (λ u. flags_tested u ≡ flags_tested (AnyNumber h)) (AnyNumber h) (slice_get b h) i (λ n l. refl)
  tested_filled (AnyName h) i = name_is (λ u. flags_tested u ≡ flags_tested (AnyName h)) (AnyName h) (slice_get b h) i (λ n. refl) (λ l. refl)

  pub depth_filled : (t : Tree) → IsHeld w b t → depth (filled b t) ≡ depth t
  depth_filled (Number n) i = refl
  depth_filled (Symbol n) i = refl
  depth_filled (CodeLabel l) i = refl
  depth_filled (Read (RegisterHole h)) i = register_is (λ u. depth u ≡ depth (Read (RegisterHole h))) (Read (RegisterHole h)) (slice_get b h) i (λ n. refl) (λ n. refl)
  depth_filled (Read (Hard n)) i = refl
  depth_filled (Read (Temp n)) i = refl
  depth_filled (Read (Flag n)) i = refl
  depth_filled (Read Pc) i = refl
  depth_filled (Read Input) i = refl
  depth_filled (Read Output) i = refl
  depth_filled (Read Halt) i = refl
  depth_filled (Load d a) i = ap suc (depth_filled a i)
  depth_filled (Unary o a) i = ap suc (depth_filled a i)
  depth_filled (Binary o a c) i =
      ap (λ (n : ℕ). suc (max n (depth (filled b c)))) (depth_filled a i.0) ∙ ap (λ (n : ℕ). suc (max (depth a) n)) (depth_filled c i.1)
  depth_filled NoPair i = refl
  depth_filled (AnyNumber h) i = word_is w (λ u. depth u ≡ depth (AnyNumber h)) (AnyNumber h) (slice_get b h) i (λ n l. refl)
  depth_filled (AnyName h) i = name_is (λ u. depth u ≡ depth (AnyName h)) (AnyName h) (slice_get b h) i (λ n. refl) (λ l. refl)

  -- no hole for a number or a name is left
  pub none_left : (t : Tree) → IsHeld w b t → IsFilled (filled b t)
  none_left (Number n) i = tt
  none_left (Symbol n) i = tt
  none_left (CodeLabel l) i = tt
  none_left (Read (RegisterHole h)) i = register_is IsFilled (Read (RegisterHole h)) (slice_get b h) i (λ n. tt) (λ n. tt)
  none_left (Read (Hard n)) i = tt
  none_left (Read (Temp n)) i = tt
  none_left (Read (Flag n)) i = tt
  none_left (Read Pc) i = tt
  none_left (Read Input) i = tt
  none_left (Read Output) i = tt
  none_left (Read Halt) i = tt
  none_left (Load d a) i = none_left a i
  none_left (Unary o a) i = none_left a i
  none_left (Binary o a c) i = (none_left a i.0, none_left c i.1)
  none_left NoPair i = tt
  none_left (AnyNumber h) i = word_is w IsFilled (AnyNumber h) (slice_get b h) i (λ n l. tt)
  none_left (AnyName h) i = name_is IsFilled (AnyName h) (slice_get b h) i (λ n. tt) (λ l. tt)

-- the place in a hole is a register
pub register_goal : (P : Goal → Type 0) (h : ℕ) (o : Option Bound) → IsRegister o → ((n : ℕ) → P (ToCell (Hard n))) → ((n : ℕ) → P (ToCell (Temp n)))
    → P (ToCell (register_by (RegisterHole h) o))
register_goal P h (Some (Reg (Hard n))) i f g = f n
register_goal P h (Some (Reg (Temp n))) i f g = g n
register_goal P h (Some (Reg (Flag n))) i f g = absurd i
register_goal P h (Some (Reg Pc)) i f g = absurd i
register_goal P h (Some (Reg Input)) i f g = absurd i
register_goal P h (Some (Reg Output)) i f g = absurd i
register_goal P h (Some (Reg Halt)) i f g = absurd i
register_goal P h (Some (Reg (RegisterHole n))) i f g = absurd i
register_goal P h (Some (Num n)) i f g = absurd i
register_goal P h (Some (Sym n)) i f g = absurd i
register_goal P h (Some (Label l)) i f g = absurd i
register_goal P h None i f g = absurd i
