-- What kind of tree a row's tree is once it is filled, and that it takes the input where the row's does.
use Rattle.std.proofs.Common.{◌≡◌, ℕ, Bool, true, false, not, cond, ◌&&◌, List, slice_get, Option, Some, None, refl, sym, subst, ap, ◌∙◌}
use Rattle.std.specs.Prelude.{◌==◌}
use Rattle.rtl_tree.specs.declared.cells.Cell.{Cell}
use Rattle.rtl_tree.specs.declared.cells.Cell.TheVariants.{Hard, Temp, Flag, Pc, Input, Output, Halt, Hole as RegisterHole}
use Rattle.rtl_tree.specs.declared.constructs.Construct.TheVariants.{Compared, Jump, Taken}
use Rattle.rtl_tree.specs.declared.expressions.UnOp.TheVariants.{Neg, Not, Sxb, Test}
use Rattle.rtl_tree.specs.declared.expressions.BinOp.{BinOp}
use Rattle.rtl_tree.specs.declared.expressions.BinOp.TheVariants.{And, Pair, When}
use Rattle.rtl_tree.specs.Trees.{Tree, Number, Symbol, CodeLabel, Read, Load, Unary, Binary, NoPair, AnyNumber, AnyName}
use Rattle.rtl_tree.specs.Sorts.{IsOperation, IsWordCell, IsWordTree, IsTestedTree}
use Rattle.rtl_tree.specs.WellFormed.{is_construct, free_of, free_below, is_flag, flags_tested}
use Rattle.rtl_tree.specs.Likeness.{IsAlike, equal, loads, unaries, straight, crossed}
use Rattle.rtl_norm.specs.Normal.{finish, norm}
use Rattle.rtl_norm.specs.Transfers.{stored_byte}
use Rattle.rtl_norm.proofs.Rewrites.{Rewrites, folds, folds_one, swaps, adds, joins, drops, compares, mirrors, negates, twice_neg, twice_not, extends, extends_low, cuts, bytes, goes}
use Rattle.rtl_norm.proofs.Finish.{finish_keeps}
use Rattle.rtl_effect.specs.Effects.{is_input}
use Rattle.md_rows.specs.declared.instance.Bound.{Bound}
use Rattle.md_rows.specs.Instances.{held_by, filled}
use Rattle.md_filled.specs.Held.{IsRegister, IsWord, IsName, IsHeld}
use Rattle.md_filled.specs.Plain.{IsPlain}
use Rattle.md_filled.specs.Doing.{IsNumberless}
use Rattle.md_filled.proofs.Rewriting.{register_is, word_is, name_is}

pub and_true : (a b : Bool) → a && b ≡ true → (a ≡ true) × (b ≡ true)
and_true true b e = (refl, e)
and_true false b e = (cc, cc)

is_operation : (o : BinOp) (a b : Tree) → not (is_construct Compared (Binary o a b)) ≡ true → not (is_construct Jump (Binary o a b)) ≡ true → IsOperation o
is_operation Pair a b e h = cc
is_operation When a b e h = cc
is_operation _ a b e h = tt

clash : false ≡ true → ⊥
clash e = cc

module _ (w : ℕ) (b : List Bound) where
  tested_filled : (t : Tree) → is_flag t ≡ true → IsTestedTree (filled b t)
  tested_filled (Read (Flag n)) e = tt
  tested_filled _ e = absurd (clash e)

  -- a tree without pairs and jumps, in which flags are tested, is a word once it is filled
  pub word_filled : (t : Tree) → IsHeld w b t → flags_tested t ≡ true → free_of Compared t ≡ true → free_of Jump t ≡ true → IsWordTree (filled b t)
  word_filled (Number n) i e h k = tt
  word_filled (Symbol n) i e h k = tt
  word_filled (CodeLabel l) i e h k = tt
  word_filled (Read (RegisterHole n)) i e h k = register_is IsWordTree (Read (RegisterHole n)) (slice_get b n) i (λ n. tt) (λ n. tt)
  word_filled (Read (Hard n)) i e h k = tt
  word_filled (Read (Temp n)) i e h k = tt
  word_filled (Read (Flag n)) i e h k = absurd (clash e)
  word_filled (Read Pc) i e h k = tt
  word_filled (Read Input) i e h k = tt
  word_filled (Read Output) i e h k = tt
  word_filled (Read Halt) i e h k = tt
  word_filled (Load d a) i e h k = word_filled a i e h k
  word_filled (Unary Neg a) i e h k = word_filled a i e h k
  word_filled (Unary Not a) i e h k = word_filled a i e h k
  word_filled (Unary Sxb a) i e h k = word_filled a i e h k
  word_filled (Unary (Test r) a) i e h k = tested_filled a e
  word_filled (Binary o a c) i e h k =
      let p = and_true _ _ e in
      let q = and_true (not (is_construct Compared (Binary o a c))) _ h in
      let r = and_true (not (is_construct Jump (Binary o a c))) _ k in
      let x = and_true _ _ q.1 in
      let y = and_true _ _ r.1 in
      (is_operation o a c q.0 r.0, word_filled a i.0 p.0 x.0 y.0, word_filled c i.1 p.1 x.1 y.1)
  word_filled NoPair i e h k = absurd (clash h)
  word_filled (AnyNumber n) i e h k = word_is w IsWordTree (AnyNumber n) (slice_get b n) i (λ n l. tt)
  word_filled (AnyName n) i e h k = name_is IsWordTree (AnyName n) (slice_get b n) i (λ n. tt) (λ l. tt)

-- trees that don't read the input

abbrev IsDryCell : Cell → Type 0
IsDryCell Input = ⊥
IsDryCell _ = Unit {0}

abbrev pub IsDry : Tree → Type 0
IsDry (Read c) = IsDryCell c
IsDry (Load d a) = IsDry a
IsDry (Unary o a) = IsDry a
IsDry (Binary o a b) = IsDry a × IsDry b
IsDry _ = Unit {0}

dry_cell : (c : Cell) → free_of Taken (Read c) ≡ true → IsDryCell c
dry_cell Input e = cc
dry_cell _ e = tt

pub dry_of : (t : Tree) → free_of Taken t ≡ true → IsDry t
dry_of (Read c) e = dry_cell c e
dry_of (Load d a) e = dry_of a e
dry_of (Unary o a) e = dry_of a e
dry_of (Binary o a b) e = let p = and_true _ _ e in (dry_of a p.0, dry_of b p.1)
dry_of _ e = tt

dry_kept : (w : ℕ) (t u : Tree) → Rewrites w t u → IsDry t → IsDry u
dry_kept w _ _ (folds o a b n e) h = tt
dry_kept w _ _ (folds_one o a n e) h = tt
dry_kept w _ _ (swaps o a b e k l) h = (h.1, h.0)
dry_kept w _ _ (adds a c) h = (h.0, tt)
dry_kept w _ _ (joins o p a c d n e) h = (h.0.0, tt)
dry_kept w _ _ (drops o a c e) h = h.0
dry_kept w _ _ (compares r a b) h = h
dry_kept w _ _ (mirrors r a b m k l) h = (h.1, h.0)
dry_kept w _ _ (negates a c e) h = h.1
dry_kept w _ _ (twice_neg a) h = h
dry_kept w _ _ (twice_not a) h = h
dry_kept w _ _ (extends a) h = h
dry_kept w _ _ (extends_low a c e) h = h.0
dry_kept w _ _ (cuts a c e) h = h
dry_kept w _ _ (bytes a c e) h = h.0
dry_kept w _ _ (goes a c e) h = h.1

pub norm_dry : (w : ℕ) (t : Tree) → IsDry t → IsDry (norm w t)
norm_dry w (Load d a) h = finish_keeps w IsDry (dry_kept w) (Load d (norm w a)) (norm_dry w a h)
norm_dry w (Unary o a) h = finish_keeps w IsDry (dry_kept w) (Unary o (norm w a)) (norm_dry w a h)
norm_dry w (Binary o a b) h = finish_keeps w IsDry (dry_kept w) (Binary o (norm w a) (norm w b)) (norm_dry w a h.0, norm_dry w b h.1)
norm_dry w (Read c) h = h
norm_dry w (Number n) h = tt
norm_dry w (Symbol n) h = tt
norm_dry w (CodeLabel l) h = tt
norm_dry w NoPair h = tt
norm_dry w (AnyNumber n) h = tt
norm_dry w (AnyName n) h = tt

pub stored_dry : (t : Tree) → IsDry t → IsDry (stored_byte t)
stored_dry (Unary Sxb b) h = h
stored_dry (Binary And b (Number c)) h =
    elim (c == 255) as (λ x. IsDry (cond x b (Binary And b (Number c)))) [ true ↦ h.0 | false ↦ h ]
stored_dry _ h = h

pub filled_dry : (w : ℕ) (b : List Bound) (t : Tree) → IsHeld w b t → IsDry t → IsDry (filled b t)
filled_dry w b (Number n) i h = tt
filled_dry w b (Symbol n) i h = tt
filled_dry w b (CodeLabel l) i h = tt
filled_dry w b (Read (RegisterHole n)) i h = register_is IsDry (Read (RegisterHole n)) (slice_get b n) i (λ n. tt) (λ n. tt)
filled_dry w b (Read (Hard n)) i h = tt
filled_dry w b (Read (Temp n)) i h = tt
filled_dry w b (Read (Flag n)) i h = tt
filled_dry w b (Read Pc) i h = tt
filled_dry w b (Read Input) i h = absurd h
filled_dry w b (Read Output) i h = tt
filled_dry w b (Read Halt) i h = tt
filled_dry w b (Load d a) i h = filled_dry w b a i h
filled_dry w b (Unary o a) i h = filled_dry w b a i h
filled_dry w b (Binary o a c) i h = (filled_dry w b a i.0 h.0, filled_dry w b c i.1 h.1)
filled_dry w b NoPair i h = tt
filled_dry w b (AnyNumber n) i h = word_is w IsDry (AnyNumber n) (slice_get b n) i (λ n l. tt)
filled_dry w b (AnyName n) i h = name_is IsDry (AnyName n) (slice_get b n) i (λ n. tt) (λ l. tt)

pub alike_dry : (x y : Tree) → IsAlike x y → IsDry x → IsDry y
alike_dry _ _ (equal a) h = h
alike_dry _ _ (loads d a c i) h = alike_dry a c i h
alike_dry _ _ (unaries o a c i) h = alike_dry a c i h
alike_dry _ _ (straight o a b c d i j) h = (alike_dry a c i h.0, alike_dry b d j h.1)
alike_dry _ _ (crossed o a b c d k i j) h = (alike_dry b c j h.1, alike_dry a d i h.0)

pub dry_no_input : (t : Tree) → IsDry t → is_input t ≡ false
dry_no_input (Read Input) h = absurd h
dry_no_input _ h = refl

-- trees without numbers

pub alike_numberless : (x y : Tree) → IsAlike x y → IsNumberless y → IsNumberless x
alike_numberless _ _ (equal a) h = h
alike_numberless _ _ (loads d a c i) h = alike_numberless a c i h
alike_numberless _ _ (unaries o a c i) h = alike_numberless a c i h
alike_numberless _ _ (straight o a b c d i j) h = (alike_numberless a c i h.0, alike_numberless b d j h.1)
alike_numberless _ _ (crossed o a b c d k i j) h = (alike_numberless a d i h.1, alike_numberless b c j h.0)

pub plain_of : (w : ℕ) (b : List Bound) (t : Tree) → IsHeld w b t → IsNumberless (filled b t) → IsPlain t
plain_of w b (Load d a) i h = plain_of w b a i h
plain_of w b (Unary o a) i h = plain_of w b a i h
plain_of w b (Binary o a c) i h = (plain_of w b a i.0 h.0, plain_of w b c i.1 h.1)
plain_of w b (AnyNumber n) i h = word_is w (λ t. IsNumberless t → ⊥) (AnyNumber n) (slice_get b n) i (λ n l x. x) h
plain_of w b (Number n) i h = tt
plain_of w b (Symbol n) i h = tt
plain_of w b (CodeLabel l) i h = tt
plain_of w b (Read c) i h = tt
plain_of w b NoPair i h = tt
plain_of w b (AnyName n) i h = tt
