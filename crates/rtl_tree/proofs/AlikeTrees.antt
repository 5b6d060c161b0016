-- What trees that are alike share, by their roots.
use Rattle.std.proofs.Common.{◌≡◌, ◌⊎◌, ℕ, Bool, inl, inr, true, false, refl, subst}
use Rattle.rtl_tree.specs.declared.cells.Cell.{Cell}
use Rattle.rtl_tree.specs.declared.cells.Lab.{Lab}
use Rattle.rtl_tree.specs.declared.expressions.Width.{Width}
use Rattle.rtl_tree.specs.declared.expressions.UnOp.{UnOp}
use Rattle.rtl_tree.specs.declared.expressions.BinOp.{BinOp}
use Rattle.rtl_tree.specs.Trees.{Tree, Number, Symbol, CodeLabel, Read, Load, Unary, Binary, NoPair, AnyNumber, AnyName}
use Rattle.rtl_tree.specs.Likeness.{commutes, IsAlike, equal, loads, unaries, straight, crossed}

pub of_load : (w v : Width) (a c : Tree) → IsAlike (Load w a) (Load v c) → (w ≡ v) × IsAlike a c
of_load w _ a _ (equal _) = (refl, equal a)
of_load w _ a _ (loads _ _ c h) = (refl, h)

pub of_unary : (o p : UnOp) (a c : Tree) → IsAlike (Unary o a) (Unary p c) → (o ≡ p) × IsAlike a c
of_unary o _ a _ (equal _) = (refl, equal a)
of_unary o _ a _ (unaries _ _ c h) = (refl, h)

pub of_binary : (o p : BinOp) (a b c d : Tree) → IsAlike (Binary o a b) (Binary p c d) → (o ≡ p) × ((IsAlike a c × IsAlike b d) ⊎ ((commutes o ≡ true) × IsAlike a d × IsAlike b c))
of_binary o _ a b _ _ (equal _) = (refl, inl (equal a, equal b))
of_binary o _ a b _ _ (straight _ _ _ c d h k) = (refl, inl (h, k))
of_binary o _ a b _ _ (crossed _ _ _ c d e h k) = (refl, inr (e, h, k))

pub to_number : (n m : ℕ) → n ≡ m → IsAlike (Number n) (Number m)
to_number n m e = let P : ℕ → Type 0 = λ k. IsAlike (Number n) (Number k) in subst P e (equal (Number n))

pub of_number : (n m : ℕ) → IsAlike (Number n) (Number m) → n ≡ m
of_number n _ (equal _) = refl

pub to_symbol : (n m : ℕ) → n ≡ m → IsAlike (Symbol n) (Symbol m)
to_symbol n m e = let P : ℕ → Type 0 = λ k. IsAlike (Symbol n) (Symbol k) in subst P e (equal (Symbol n))

pub of_symbol : (n m : ℕ) → IsAlike (Symbol n) (Symbol m) → n ≡ m
of_symbol n _ (equal _) = refl

pub to_label : (n m : Lab) → n ≡ m → IsAlike (CodeLabel n) (CodeLabel m)
to_label n m e = let P : Lab → Type 0 = λ k. IsAlike (CodeLabel n) (CodeLabel k) in subst P e (equal (CodeLabel n))

pub of_label : (n m : Lab) → IsAlike (CodeLabel n) (CodeLabel m) → n ≡ m
of_label n _ (equal _) = refl

pub to_read : (n m : Cell) → n ≡ m → IsAlike (Read n) (Read m)
to_read n m e = let P : Cell → Type 0 = λ k. IsAlike (Read n) (Read k) in subst P e (equal (Read n))

pub of_read : (n m : Cell) → IsAlike (Read n) (Read m) → n ≡ m
of_read n _ (equal _) = refl

pub to_any_number : (n m : ℕ) → n ≡ m → IsAlike (AnyNumber n) (AnyNumber m)
to_any_number n m e = let P : ℕ → Type 0 = λ k. IsAlike (AnyNumber n) (AnyNumber k) in subst P e (equal (AnyNumber n))

pub of_any_number : (n m : ℕ) → IsAlike (AnyNumber n) (AnyNumber m) → n ≡ m
of_any_number n _ (equal _) = refl

pub to_any_name : (n m : ℕ) → n ≡ m → IsAlike (AnyName n) (AnyName m)
to_any_name n m e = let P : ℕ → Type 0 = λ k. IsAlike (AnyName n) (AnyName k) in subst P e (equal (AnyName n))

pub of_any_name : (n m : ℕ) → IsAlike (AnyName n) (AnyName m) → n ≡ m
of_any_name n _ (equal _) = refl

-- trees of one kind
abbrev pub same_root : Tree → Tree → Bool
same_root (Number n) (Number m) = true
same_root (Symbol n) (Symbol m) = true
same_root (CodeLabel n) (CodeLabel m) = true
same_root (Read n) (Read m) = true
same_root (Load w a) (Load v c) = true
same_root (Unary o a) (Unary p c) = true
same_root (Binary o a b) (Binary p c d) = true
same_root NoPair NoPair = true
same_root (AnyNumber n) (AnyNumber m) = true
same_root (AnyName n) (AnyName m) = true
same_root _ _ = false

own_root : (a : Tree) → same_root a a ≡ true
own_root (Number n) = refl
own_root (Symbol n) = refl
own_root (CodeLabel n) = refl
own_root (Read n) = refl
own_root (Load w a) = refl
own_root (Unary o a) = refl
own_root (Binary o a b) = refl
own_root NoPair = refl
own_root (AnyNumber n) = refl
own_root (AnyName n) = refl

pub roots : (a b : Tree) → IsAlike a b → same_root a b ≡ true
roots a _ (equal _) = own_root a
roots _ _ (loads w a c h) = refl
roots _ _ (unaries o a c h) = refl
roots _ _ (straight o a b c d h k) = refl
roots _ _ (crossed o a b c d e h k) = refl
