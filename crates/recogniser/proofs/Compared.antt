-- Two lists of choices for one transfer are equal, or one comes before the other.
use Rattle.std.proofs.Common.{◌≡◌, ◌⊎◌, Bool, true, false, List, ◌∷◌, ◌++◌, inl, inr, refl, sym, subst, ap, append_assoc, ◌∙◌}
use Rattle.rtl_tree.specs.Trees.{Tree, Number, Symbol, CodeLabel, Read, Load, Unary, Binary, NoPair, AnyNumber, AnyName}
use Rattle.rtl_tree.specs.Likeness.{commutes}
use Rattle.rtl_tree.specs.declared.expressions.Width.{Width}
use Rattle.rtl_tree.specs.declared.expressions.UnOp.{UnOp}
use Rattle.rtl_tree.specs.declared.expressions.BinOp.{BinOp}
use Rattle.recogniser.specs.Choices.{Choice, Unswapped, Swapped, Earlier, is_leaf, IsAlikeBy}
use Rattle.recogniser.proofs.Forms.{leaf_form, Loaded, loaded, load_form, Under, under, unary_form, Operands, in_order, straight, crossed, binary_form}

abbrev pub AreCompared : List Choice → List Choice → Type 0
AreCompared cs ds = Earlier cs ds ⊎ ((cs ≡ ds) ⊎ Earlier ds cs)

-- one choice more in front
pub after_one : (c : Choice) (cs ds : List Choice) → AreCompared cs ds → AreCompared (c ∷ cs) (c ∷ ds)
after_one c cs ds h = elim h [
  | inl x ↦ inl (inr (refl, x))
  | inr y ↦ elim y [ inl e ↦ inr (inl (ap (λ (l : List Choice). c ∷ l) e)) | inr z ↦ inr (inr (inr (refl, z))) ]
]

-- lists that begin with the choices for one tree are compared where what follows is
abbrev pub Compares : Tree → Type 0
Compares e = (x y : Tree) (cs ds xs ys : List Choice) → IsAlikeBy x e cs → IsAlikeBy y e ds → AreCompared xs ys → AreCompared (cs ++ xs) (ds ++ ys)

opposite : {A : Type 0} (k : Bool) → k ≡ true → k ≡ false → A
opposite k p q = let e : true ≡ false = sym p ∙ q in cc

moved : (ks ls ms ns : List Choice) → ks ≡ ms → ls ≡ ns → AreCompared ms ns → AreCompared ks ls
moved ks ls ms ns p q h = subst (λ (l : List Choice). AreCompared l ls) (sym p) (subst (λ (l : List Choice). AreCompared ms l) (sym q) h)

leaf_compares : (e : Tree) → is_leaf e ≡ true → Compares e
leaf_compares e k x y cs ds xs ys h i r =
    let a = leaf_form x e cs h k in
    let b = leaf_form y e ds i k in
    moved (cs ++ xs) (ds ++ ys) xs ys (ap (λ (l : List Choice). l ++ xs) a.1) (ap (λ (l : List Choice). l ++ ys) b.1) r

load_compares : (w : Width) (c x y : Tree) (cs ds xs ys : List Choice) → Compares c → Loaded w c x cs → Loaded w c y ds → AreCompared xs ys
    → AreCompared (cs ++ xs) (ds ++ ys)
load_compares w c _ _ _ _ xs ys f (loaded a cs h) (loaded b ds i) r = f a b cs ds xs ys h i r

unary_compares : (o : UnOp) (c x y : Tree) (cs ds xs ys : List Choice) → Compares c → Under o c x cs → Under o c y ds → AreCompared xs ys
    → AreCompared (cs ++ xs) (ds ++ ys)
unary_compares o c _ _ _ _ xs ys f (under a cs h) (under b ds i) r = f a b cs ds xs ys h i r

both_compare : (c d a b p q : Tree) (ks ls ms ns xs ys : List Choice) → Compares c → Compares d → IsAlikeBy a c ks → IsAlikeBy b d ls
    → IsAlikeBy p c ms → IsAlikeBy q d ns → AreCompared xs ys → AreCompared ((ks ++ ls) ++ xs) ((ms ++ ns) ++ ys)
both_compare c d a b p q ks ls ms ns xs ys f g h i j k r =
    moved ((ks ++ ls) ++ xs) ((ms ++ ns) ++ ys) (ks ++ (ls ++ xs)) (ms ++ (ns ++ ys)) (append_assoc ks ls xs) (append_assoc ms ns ys)
    (f a p ks ms (ls ++ xs) (ns ++ ys) h j (g b q ls ns xs ys i k r))

operands_compare : (o : BinOp) (c d x y : Tree) (cs ds xs ys : List Choice) → Compares c → Compares d → Operands o c d x cs → Operands o c d y ds
    → AreCompared xs ys → AreCompared (cs ++ xs) (ds ++ ys)
operands_compare o c d _ _ _ _ xs ys f g (in_order a b k l e h i) (in_order p q m n t r s) z = both_compare c d a b p q k l m n xs ys f g h i r s z
operands_compare o c d _ _ _ _ xs ys f g (straight a b k l e h i) (straight p q m n t r s) z =
    after_one Unswapped ((k ++ l) ++ xs) ((m ++ n) ++ ys) (both_compare c d a b p q k l m n xs ys f g h i r s z)
operands_compare o c d _ _ _ _ xs ys f g (crossed a b k l e h i) (crossed p q m n t r s) z =
    after_one Swapped ((k ++ l) ++ xs) ((m ++ n) ++ ys) (both_compare c d b a q p k l m n xs ys f g h i r s z)
operands_compare o c d _ _ _ _ xs ys f g (straight a b k l e h i) (crossed p q m n t r s) z = inl (inl tt)
operands_compare o c d _ _ _ _ xs ys f g (crossed a b k l e h i) (straight p q m n t r s) z = inr (inr (inl tt))
operands_compare o c d _ _ _ _ xs ys f g (in_order a b k l e h i) (straight p q m n t r s) z = opposite (commutes o) t e
operands_compare o c d _ _ _ _ xs ys f g (in_order a b k l e h i) (crossed p q m n t r s) z = opposite (commutes o) t e
operands_compare o c d _ _ _ _ xs ys f g (straight a b k l e h i) (in_order p q m n t r s) z = opposite (commutes o) e t
operands_compare o c d _ _ _ _ xs ys f g (crossed a b k l e h i) (in_order p q m n t r s) z = opposite (commutes o) e t

pub compares : (e : Tree) → Compares e
compares (Load w c) x y cs ds xs ys h i z =
    load_compares w c x y cs ds xs ys (λ a b k l m n q r s. compares c a b k l m n q r s) (load_form w c x (Load w c) cs h refl) (load_form w c y (Load w c) ds i refl) z
compares (Unary o c) x y cs ds xs ys h i z =
    unary_compares o c x y cs ds xs ys (λ a b k l m n q r s. compares c a b k l m n q r s) (unary_form o c x (Unary o c) cs h refl) (unary_form o c y (Unary o c) ds i refl) z
compares (Binary o c d) x y cs ds xs ys h i z =
    operands_compare o c d x y cs ds xs ys (λ a b k l m n q r s. compares c a b k l m n q r s) (λ a b k l m n q r s. compares d a b k l m n q r s)
    (binary_form o c d x (Binary o c d) cs h refl) (binary_form o c d y (Binary o c d) ds i refl) z
compares (Number n) x y cs ds xs ys h i z = leaf_compares (Number n) refl x y cs ds xs ys h i z
compares (Symbol n) x y cs ds xs ys h i z = leaf_compares (Symbol n) refl x y cs ds xs ys h i z
compares (CodeLabel n) x y cs ds xs ys h i z = leaf_compares (CodeLabel n) refl x y cs ds xs ys h i z
compares (Read n) x y cs ds xs ys h i z = leaf_compares (Read n) refl x y cs ds xs ys h i z
compares NoPair x y cs ds xs ys h i z = leaf_compares NoPair refl x y cs ds xs ys h i z
compares (AnyNumber n) x y cs ds xs ys h i z = leaf_compares (AnyNumber n) refl x y cs ds xs ys h i z
compares (AnyName n) x y cs ds xs ys h i z = leaf_compares (AnyName n) refl x y cs ds xs ys h i z
