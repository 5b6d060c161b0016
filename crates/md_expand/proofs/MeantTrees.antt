-- Leaves of the program and those of texts.
use Rattle.std.proofs.Common.{◌≡◌, ℕ, suc, ◌+◌, ◌<◌, List, [], ◌∷◌, ◌++◌, length, take, get_or, refl, sym, ap, ◌∙◌, subst}
use Rattle.std.specs.Prelude.{zero}
use Rattle.std.specs.declared.option.Option.TheVariants.{None}
use Rattle.std.specs.Option.{unwrap_or, option_and_then}
use Rattle.std.specs.List.{slice_get}
use Rattle.std.proofs.lemmas.List.{take_more, map-append}
use Rattle.rtl_tree.specs.declared.cells.Cell.TheVariants.{Hard, Temp, Flag, Pc, Input, Output, Halt, Hole}
use Rattle.rtl_tree.specs.Trees.{Tree, Number, Symbol, CodeLabel, Read, Load, Unary, Binary, NoPair, AnyNumber, AnyName, tree_of}
use Rattle.rtl_spelling.specs.Holes.{Open, leaf_named}
use Rattle.md_text.specs.Pieces.{Slot, slots}
use Rattle.md_text.specs.Expansion.{Filling, with_leaves, leaves_by, meant}
use Rattle.md_forms.specs.Seen.{pieces_of}
use Rattle.md_forms.specs.declared.pieces.Piece.{Piece}
use Rattle.md_expand.specs.Like.{IsLike, equal, loads, unaries, binaries, hole_in}
use Rattle.md_expand.specs.Meant.{IsMeant, AllMeant, register_in}
use Rattle.md_expand.specs.Seen.{trees_of}
use Rattle.md_expand.specs.declared.leaves.Meaning.{Meaning}

AllMeant-push : (few : Type 0) (ts : List Tree) (ms : List Meaning) (t : Tree) (m : Meaning) → AllMeant few ts ms → IsMeant few t m → AllMeant few (ts ++ t ∷ []) (ms ++ m ∷ [])
AllMeant-push few [] [] t m a i = (i, tt)
AllMeant-push few [] (n ∷ ms) t m a i = absurd a
AllMeant-push few (u ∷ ts) [] t m a i = absurd a
AllMeant-push few (u ∷ ts) (n ∷ ms) t m a i = (a.0, AllMeant-push few ts ms t m a.1 i)

pub one_name_more :
    (few : Type 0) (hs : List Open) (names : List (List ℕ)) (i : ℕ) (d : List ℕ) (ms more : List Meaning) (m : Meaning) → i < length names
    → d ≡ get_or names i d → AllMeant few (leaves_by hs (take i names)) ms → IsMeant few (unwrap_or (leaf_named hs d) NoPair) m → more ≡ ms ++ m ∷ []
    → AllMeant few (leaves_by hs (take (i + 1) names)) more
one_name_more few hs names i d ms more m lt at a new e =
    let grown : leaves_by hs (take (i + 1) names) ≡ leaves_by hs (take i names) ++ unwrap_or (leaf_named hs d) NoPair ∷ [] =
    ap (leaves_by hs) (take_more names i d lt) ∙ map-append (λ name. unwrap_or (leaf_named hs name) NoPair) (take i names) (get_or names i d ∷ [])
    ∙ ap (λ x. leaves_by hs (take i names) ++ unwrap_or (leaf_named hs x) NoPair ∷ []) (sym at) in
    subst (λ xs. AllMeant few xs more) (sym grown)
    (subst (AllMeant few (leaves_by hs (take i names) ++ unwrap_or (leaf_named hs d) NoPair ∷ [])) (sym e)
    (AllMeant-push few (leaves_by hs (take i names)) ms (unwrap_or (leaf_named hs d) NoPair) m a new))

pub none_meant : (few : Type 0) (m : Meaning) → tree_of m.tree ≡ NoPair → m.register ≡ None → IsMeant few NoPair m
none_meant few m tree register = record { like = subst (IsLike NoPair) (sym tree) (equal NoPair); same = λ f. tree; register = register }

pub same_trees : (few : Type 0) (ts : List Tree) (ms : List Meaning) → few → AllMeant few ts ms → trees_of ms ≡ ts
same_trees few [] [] f a = refl
same_trees few [] (m ∷ ms) f a = absurd a
same_trees few (t ∷ ts) [] f a = absurd a
same_trees few (t ∷ ts) (m ∷ ms) f a = ap (λ x. x ∷ trees_of ms) (a.0.same f) ∙ ap (λ xs. t ∷ xs) (same_trees few ts ms f a.1)

pub like_at :
    (few : Type 0) (ts : List Tree) (ms : List Meaning) (n : ℕ) → AllMeant few ts ms
    → IsLike (unwrap_or (slice_get ts n) NoPair) (unwrap_or (slice_get (trees_of ms) n) NoPair)
like_at few [] [] n a = equal NoPair
like_at few [] (m ∷ ms) n a = absurd a
like_at few (t ∷ ts) [] n a = absurd a
like_at few (t ∷ ts) (m ∷ ms) zero a = a.0.like
like_at few (t ∷ ts) (m ∷ ms) (suc n) a = like_at few ts ms n a.1

pub like_with : (few : Type 0) (ts : List Tree) (ms : List Meaning) (t : Tree) → AllMeant few ts ms → IsLike (with_leaves ts t) (with_leaves (trees_of ms) t)
like_with few ts ms (Number n) a = equal (Number n)
like_with few ts ms (Symbol n) a = equal (Symbol n)
like_with few ts ms (CodeLabel l) a = equal (CodeLabel l)
like_with few ts ms (Read (Hard n)) a = equal (Read (Hard n))
like_with few ts ms (Read (Temp n)) a = equal (Read (Temp n))
like_with few ts ms (Read (Flag n)) a = equal (Read (Flag n))
like_with few ts ms (Read Pc) a = equal (Read Pc)
like_with few ts ms (Read Input) a = equal (Read Input)
like_with few ts ms (Read Output) a = equal (Read Output)
like_with few ts ms (Read Halt) a = equal (Read Halt)
like_with few ts ms (Read (Hole n)) a = like_at few ts ms n a
like_with few ts ms (Load w t) a = loads w _ _ (like_with few ts ms t a)
like_with few ts ms (Unary o t) a = unaries o _ _ (like_with few ts ms t a)
like_with few ts ms (Binary o t u) a = binaries o _ _ _ _ (like_with few ts ms t a) (like_with few ts ms u a)
like_with few ts ms NoPair a = equal NoPair
like_with few ts ms (AnyNumber n) a = equal (AnyNumber n)
like_with few ts ms (AnyName n) a = equal (AnyName n)

pub register_at :
    (few : Type 0) (ts : List Tree) (ms : List Meaning) (n : ℕ) → AllMeant few ts ms
    → option_and_then (λ m. m.register) (slice_get ms n) ≡ hole_in (unwrap_or (slice_get ts n) NoPair)
register_at few [] [] n a = refl
register_at few [] (m ∷ ms) n a = absurd a
register_at few (t ∷ ts) [] n a = absurd a
register_at few (t ∷ ts) (m ∷ ms) zero a = a.0.register
register_at few (t ∷ ts) (m ∷ ms) (suc n) a = register_at few ts ms n a.1

register_with : (few : Type 0) (ts : List Tree) (ms : List Meaning) (t : Tree) → AllMeant few ts ms → register_in ms t ≡ hole_in (with_leaves ts t)
register_with few ts ms (Number n) a = refl
register_with few ts ms (Symbol n) a = refl
register_with few ts ms (CodeLabel l) a = refl
register_with few ts ms (Read (Hard n)) a = refl
register_with few ts ms (Read (Temp n)) a = refl
register_with few ts ms (Read (Flag n)) a = refl
register_with few ts ms (Read Pc) a = refl
register_with few ts ms (Read Input) a = refl
register_with few ts ms (Read Output) a = refl
register_with few ts ms (Read Halt) a = refl
register_with few ts ms (Read (Hole n)) a = register_at few ts ms n a
register_with few ts ms (Load w t) a = refl
register_with few ts ms (Unary o t) a = refl
register_with few ts ms (Binary o t u) a = refl
register_with few ts ms NoPair a = refl
register_with few ts ms (AnyNumber n) a = refl
register_with few ts ms (AnyName n) a = refl

pub meant_with :
    (few : Type 0) (ts : List Tree) (ms : List Meaning) (t : Tree) (m : Meaning) → AllMeant few ts ms
    → tree_of m.tree ≡ with_leaves (trees_of ms) t → m.register ≡ register_in ms t → IsMeant few (with_leaves ts t) m
meant_with few ts ms t m a tree register = record {
  like = subst (IsLike (with_leaves ts t)) (sym tree) (like_with few ts ms t a);
  same = λ f. tree ∙ ap (λ xs. with_leaves xs t) (same_trees few ts ms f a);
  register = register ∙ register_with few ts ms t a;
}

meant_none : (n : ℕ) (hs : List Slot) → meant n hs [] ≡ []
meant_none n [] = refl
meant_none n (h ∷ hs) = refl

pub no_slot : (few : Type 0) (n : ℕ) (ps : List Piece) (fs : List Filling) (name : List ℕ) (m : Meaning) → length ps ≡ 0 → tree_of m.tree ≡ NoPair → m.register ≡ None → IsMeant few (unwrap_or (leaf_named (meant n (slots (pieces_of ps)) fs) name) NoPair) m
no_slot few n [] fs name m e tree register = none_meant few m tree register
no_slot few n (p ∷ ps) fs name m e tree register = absurd (cc)

pub no_filling : (few : Type 0) (n : ℕ) (ps : List Piece) (fs : List Filling) (name : List ℕ) (m : Meaning) → fs ≡ [] → tree_of m.tree ≡ NoPair → m.register ≡ None → IsMeant few (unwrap_or (leaf_named (meant n (slots (pieces_of ps)) fs) name) NoPair) m
no_filling few n ps fs name m e tree register =
    let none : [] ≡ meant n (slots (pieces_of ps)) fs = sym (ap (meant n (slots (pieces_of ps))) e ∙ meant_none n (slots (pieces_of ps))) in
    subst (λ hs. IsMeant few (unwrap_or (leaf_named hs name) NoPair) m) none (none_meant few m tree register)
