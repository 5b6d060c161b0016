-- What stands in the holes of a row's tree, and how slots grow.
use Rattle.std.proofs.Common.{◌≡◌, ◌⊎◌, ℕ, true, Some, slice_get, inl, inr, refl, subst}
use Rattle.rtl_tree.specs.Trees.{Tree, Number, Symbol, CodeLabel, Read, Load, Unary, Binary, NoPair, AnyNumber, AnyName}
use Rattle.rtl_tree.specs.Likeness.{commutes, IsAlike, equal, loads, unaries, straight, crossed}
use Rattle.rtl_tree.specs.declared.cells.Cell.TheVariants.{Hole as RegisterHole}
use Rattle.md_rows.specs.declared.instance.Bound.{Bound}
use Rattle.md_rows.specs.Instances.{leaf_of}
use Rattle.md_match.specs.Slots.{Slots, Fit, bound_of}

-- equality up to swapping operands
abbrev pub Alike : Tree → Tree → Type 0
Alike (Load w a) (Load v c) = (w ≡ v) × Alike a c
Alike (Unary o a) (Unary p c) = (o ≡ p) × Alike a c
Alike (Binary o a b) (Binary p c d) =
    (o ≡ p) × ((Alike a c × Alike b d) ⊎ ((commutes o ≡ true) × (Alike b c × Alike a d)))
Alike a b = a ≡ b

-- each hole of a tree has a value that fits it
pub record IsHeld (f : Fit) (s : Slots) (h : ℕ) : Type 0 where
  pub value : Bound
  pub held : slice_get s h ≡ Some (Some value)
  pub fitting : f h value ≡ true

abbrev pub IsFilled : Fit → Slots → Tree → Type 0
IsFilled f s (Read (RegisterHole h)) = IsHeld f s h
IsFilled f s (AnyNumber h) = IsHeld f s h
IsFilled f s (AnyName h) = IsHeld f s h
IsFilled f s (Load w a) = IsFilled f s a
IsFilled f s (Unary o a) = IsFilled f s a
IsFilled f s (Binary o a b) = IsFilled f s a × IsFilled f s b
IsFilled f s r = Unit {0}

-- what s holds, t holds
pub record Grows (s t : Slots) : Type 0 where
  pub still : (h : ℕ) (v : Bound) → slice_get s h ≡ Some (Some v) → slice_get t h ≡ Some (Some v)

-- each value that is held fits
pub record IsFit (f : Fit) (s : Slots) : Type 0 where
  pub each : (h : ℕ) (v : Bound) → slice_get s h ≡ Some (Some v) → f h v ≡ true

-- only what can be a leaf's value fits a hole
pub record IsSane (f : Fit) : Type 0 where
  pub leafy : (h : ℕ) (v : Bound) → f h v ≡ true → bound_of (leaf_of v) ≡ Some v

-- the same as alike trees

alike_own : (a : Tree) → Alike a a
alike_own (Load w a) = (refl, alike_own a)
alike_own (Unary o a) = (refl, alike_own a)
alike_own (Binary o a b) = (refl, inl (alike_own a, alike_own b))
alike_own (Number n) = refl
alike_own (Symbol n) = refl
alike_own (CodeLabel n) = refl
alike_own (Read n) = refl
alike_own NoPair = refl
alike_own (AnyNumber n) = refl
alike_own (AnyName n) = refl

pub from_alike : (a b : Tree) → IsAlike a b → Alike a b
from_alike a _ (equal _) = alike_own a
from_alike _ _ (loads w a b h) = (refl, from_alike a b h)
from_alike _ _ (unaries o a b h) = (refl, from_alike a b h)
from_alike _ _ (straight o a b c d h k) = (refl, inl (from_alike a c h, from_alike b d k))
from_alike _ _ (crossed o a b c d e h k) = (refl, inr (e, (from_alike b c k, from_alike a d h)))

alike_equal : (a b : Tree) → a ≡ b → IsAlike a b
alike_equal a b e = subst (λ x. IsAlike a x) e (equal a)

pub to_alike : (a b : Tree) → Alike a b → IsAlike a b
to_alike (Load w a) (Load v c) h = subst (λ x. IsAlike (Load w a) (Load x c)) h.0 (loads w a c (to_alike a c h.1))
to_alike (Unary o a) (Unary p c) h = subst (λ x. IsAlike (Unary o a) (Unary x c)) h.0 (unaries o a c (to_alike a c h.1))
to_alike (Binary o a b) (Binary p c d) h = subst (λ x. IsAlike (Binary o a b) (Binary x c d)) h.0 (elim h.1 [
  | inl k ↦ straight o a b c d (to_alike a c k.0) (to_alike b d k.1)
  | inr k ↦ crossed o a b c d k.0 (to_alike a d k.1.1) (to_alike b c k.1.0)
])
to_alike a b h = alike_equal a b (let q : a ≡ b = h in q)
