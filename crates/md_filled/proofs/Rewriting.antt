-- A rule that rewrites a row's tree rewrites the tree filled, too.
use Rattle.std.proofs.Common.{◌≡◌, ℕ, ◌<◌, ◌^◌, Bool, true, false, List, slice_get, Option, Some, None, refl, sym, subst, ap, ◌∙◌}
use Rattle.rtl_tree.specs.declared.cells.Cell.{Cell}
use Rattle.rtl_tree.specs.declared.cells.Cell.TheVariants.{Hard, Temp, Flag, Pc, Input, Output, Halt, Hole as RegisterHole}
use Rattle.rtl_tree.specs.Trees.{Tree, Number, Symbol, CodeLabel, Read, Load, Unary, Binary, NoPair, AnyNumber, AnyName}
use Rattle.rtl_tree.specs.Sorts.{IsFitting}
use Rattle.rtl_norm.specs.Numbers.{is_constant}
use Rattle.rtl_norm.proofs.Rewrites.{Rewrites, folds, folds_one, swaps, adds, joins, drops, compares, mirrors, negates, twice_neg, twice_not, extends, extends_low, cuts, bytes, goes}
use Rattle.rtl_norm.specs.Normal.{norm}
use Rattle.rtl_norm.proofs.Finish.{finish_keeps}
use Rattle.md_rows.specs.declared.instance.Bound.{Bound}
use Rattle.md_rows.specs.declared.instance.Bound.TheVariants.{Reg, Num, Sym, Label}
use Rattle.md_rows.specs.Instances.{held_by, filled}
use Rattle.md_filled.specs.Held.{IsRegister, IsWord, IsName, IsHeld}

-- what a value in a hole is

pub register_is : (P : Tree → Type 0) (hole : Tree) (o : Option Bound) → IsRegister o → ((k : ℕ) → P (Read (Hard k))) → ((n : ℕ) → P (Read (Temp n)))
    → P (held_by hole o)
register_is P hole (Some (Reg (Hard k))) h f g = f k
register_is P hole (Some (Reg (Temp n))) h f g = g n
register_is P hole (Some (Reg (Flag n))) h f g = absurd h
register_is P hole (Some (Reg Pc)) h f g = absurd h
register_is P hole (Some (Reg Input)) h f g = absurd h
register_is P hole (Some (Reg Output)) h f g = absurd h
register_is P hole (Some (Reg Halt)) h f g = absurd h
register_is P hole (Some (Reg (RegisterHole n))) h f g = absurd h
register_is P hole (Some (Num n)) h f g = absurd h
register_is P hole (Some (Sym n)) h f g = absurd h
register_is P hole (Some (Label l)) h f g = absurd h
register_is P hole None h f g = absurd h

pub word_is : (w : ℕ) (P : Tree → Type 0) (hole : Tree) (o : Option Bound) → IsWord w o → ((n : ℕ) → n < 2 ^ w → P (Number n)) → P (held_by hole o)
word_is w P hole (Some (Num n)) h f = f n h
word_is w P hole (Some (Reg c)) h f = absurd h
word_is w P hole (Some (Sym n)) h f = absurd h
word_is w P hole (Some (Label l)) h f = absurd h
word_is w P hole None h f = absurd h

pub name_is : (P : Tree → Type 0) (hole : Tree) (o : Option Bound) → IsName o → ((n : ℕ) → P (Symbol n)) → ((l : _) → P (CodeLabel l)) → P (held_by hole o)
name_is P hole (Some (Sym n)) h f g = f n
name_is P hole (Some (Label l)) h f g = g l
name_is P hole (Some (Reg c)) h f g = absurd h
name_is P hole (Some (Num n)) h f g = absurd h
name_is P hole None h f g = absurd h

module _ (w : ℕ) (b : List Bound) where
  -- a tree that is a number or a hole for one is a number once it is filled
  pub constant_filled : (t : Tree) → IsHeld w b t → is_constant (filled b t) ≡ is_constant t
  constant_filled (Number n) h = refl
  constant_filled (Symbol n) h = refl
  constant_filled (CodeLabel l) h = refl
  constant_filled (Read (RegisterHole k)) h = register_is (λ t. is_constant t ≡ false) (Read (RegisterHole k)) (slice_get b k) h (λ n. refl) (λ n. refl)
  constant_filled (Read (Hard n)) h = refl
  constant_filled (Read (Temp n)) h = refl
  constant_filled (Read (Flag n)) h = refl
  constant_filled (Read Pc) h = refl
  constant_filled (Read Input) h = refl
  constant_filled (Read Output) h = refl
  constant_filled (Read Halt) h = refl
  constant_filled (Load d a) h = refl
  constant_filled (Unary o a) h = refl
  constant_filled (Binary o a c) h = refl
  constant_filled NoPair h = refl
  constant_filled (AnyNumber k) h = word_is w (λ t. is_constant t ≡ true) (AnyNumber k) (slice_get b k) h (λ n l. refl)
  constant_filled (AnyName k) h = name_is (λ t. is_constant t ≡ false) (AnyName k) (slice_get b k) h (λ n. refl) (λ l. refl)

  pub rewrites_filled : (t u : Tree) → Rewrites w t u → IsHeld w b t → Rewrites w (filled b t) (filled b u)
  rewrites_filled _ _ (folds o a c v e) h = folds o a c v e
  rewrites_filled _ _ (folds_one o a v e) h = folds_one o a v e
  rewrites_filled _ _ (swaps o a c e k l) h = swaps o (filled b a) (filled b c) e (constant_filled a h.0 ∙ k) (constant_filled c h.1 ∙ l)
  rewrites_filled _ _ (adds a c) h = adds (filled b a) c
  rewrites_filled _ _ (joins o p a c d v e) h = joins o p (filled b a) c d v e
  rewrites_filled _ _ (drops o a c e) h = drops o (filled b a) c e
  rewrites_filled _ _ (compares r a c) h = compares r (filled b a) (filled b c)
  rewrites_filled _ _ (mirrors r a c m k l) h = mirrors r (filled b a) (filled b c) m (constant_filled a h.0 ∙ k) (constant_filled c h.1 ∙ l)
  rewrites_filled _ _ (negates a c e) h = negates (filled b a) c e
  rewrites_filled _ _ (twice_neg a) h = twice_neg (filled b a)
  rewrites_filled _ _ (twice_not a) h = twice_not (filled b a)
  rewrites_filled _ _ (extends a) h = extends (filled b a)
  rewrites_filled _ _ (extends_low a c e) h = extends_low (filled b a) c e
  rewrites_filled _ _ (cuts a c e) h = cuts (filled b a) c e
  rewrites_filled _ _ (bytes a c e) h = bytes (filled b a) c e
  rewrites_filled _ _ (goes a c e) h = goes (filled b a) c e

  -- and what stands in holes stays
  pub held_kept : (t u : Tree) → Rewrites w t u → IsHeld w b t → IsHeld w b u
  held_kept _ _ (folds o a c v e) h = tt
  held_kept _ _ (folds_one o a v e) h = tt
  held_kept _ _ (swaps o a c e k l) h = (h.1, h.0)
  held_kept _ _ (adds a c) h = h
  held_kept _ _ (joins o p a c d v e) h = (h.0.0, tt)
  held_kept _ _ (drops o a c e) h = h.0
  held_kept _ _ (compares r a c) h = h
  held_kept _ _ (mirrors r a c m k l) h = (h.1, h.0)
  held_kept _ _ (negates a c e) h = h.1
  held_kept _ _ (twice_neg a) h = h
  held_kept _ _ (twice_not a) h = h
  held_kept _ _ (extends a) h = h
  held_kept _ _ (extends_low a c e) h = h.0
  held_kept _ _ (cuts a c e) h = h
  held_kept _ _ (bytes a c e) h = h.0
  held_kept _ _ (goes a c e) h = h.1

  -- the numbers of a filled tree are words
  pub fitting_filled : (t : Tree) → IsHeld w b t → IsFitting w t → IsFitting w (filled b t)
  fitting_filled (Number n) h f = f
  fitting_filled (Symbol n) h f = tt
  fitting_filled (CodeLabel l) h f = tt
  fitting_filled (Read (RegisterHole k)) h f = register_is (λ t. IsFitting w t) (Read (RegisterHole k)) (slice_get b k) h (λ n. tt) (λ n. tt)
  fitting_filled (Read (Hard n)) h f = tt
  fitting_filled (Read (Temp n)) h f = tt
  fitting_filled (Read (Flag n)) h f = tt
  fitting_filled (Read Pc) h f = tt
  fitting_filled (Read Input) h f = tt
  fitting_filled (Read Output) h f = tt
  fitting_filled (Read Halt) h f = tt
  fitting_filled (Load d a) h f = fitting_filled a h f
  fitting_filled (Unary o a) h f = fitting_filled a h f
  fitting_filled (Binary o a c) h f = (fitting_filled a h.0 f.0, fitting_filled c h.1 f.1)
  fitting_filled NoPair h f = tt
  fitting_filled (AnyNumber k) h f = word_is w (λ t. IsFitting w t) (AnyNumber k) (slice_get b k) h (λ n l. l)
  fitting_filled (AnyName k) h f = name_is (λ t. IsFitting w t) (AnyName k) (slice_get b k) h (λ n. tt) (λ l. tt)

  pub norm_held : (t : Tree) → IsHeld w b t → IsHeld w b (norm w t)
  norm_held (Load d a) h = finish_keeps w (IsHeld w b) held_kept (Load d (norm w a)) (norm_held a h)
  norm_held (Unary o a) h = finish_keeps w (IsHeld w b) held_kept (Unary o (norm w a)) (norm_held a h)
  norm_held (Binary o a c) h = finish_keeps w (IsHeld w b) held_kept (Binary o (norm w a) (norm w c)) (norm_held a h.0, norm_held c h.1)
  norm_held (Number n) h = h
  norm_held (Symbol n) h = h
  norm_held (CodeLabel l) h = h
  norm_held (Read c) h = h
  norm_held NoPair h = h
  norm_held (AnyNumber n) h = h
  norm_held (AnyName n) h = h
