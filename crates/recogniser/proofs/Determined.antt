-- A list of choices determines what is alike a tree by it.
use Rattle.std.proofs.Common.{◌≡◌, Bool, true, false, List, ◌∷◌, ◌++◌, refl, sym, ap, append_assoc, ◌∙◌}
use Rattle.rtl_tree.specs.Trees.{Tree, Number, Symbol, CodeLabel, Read, Load, Unary, Binary, NoPair, AnyNumber, AnyName}
use Rattle.rtl_tree.specs.Likeness.{commutes}
use Rattle.rtl_tree.specs.declared.expressions.Width.{Width}
use Rattle.rtl_tree.specs.declared.expressions.UnOp.{UnOp}
use Rattle.rtl_tree.specs.declared.expressions.BinOp.{BinOp}
use Rattle.recogniser.specs.Choices.{Choice, Unswapped, Swapped, is_leaf, IsAlikeBy}
use Rattle.recogniser.proofs.Forms.{leaf_form, Loaded, loaded, load_form, Under, under, unary_form, Operands, in_order, straight, crossed, binary_form}

-- lists that begin with the choices for one tree, and are equal: the trees are one, and so is what follows
abbrev pub Determines : Tree → Type 0
Determines e = (x y : Tree) (cs ds xs ys : List Choice) → IsAlikeBy x e cs → IsAlikeBy y e ds → cs ++ xs ≡ ds ++ ys → (x ≡ y) × (xs ≡ ys)

opposite : {A : Type 0} (k : Bool) → k ≡ true → k ≡ false → A
opposite k p q = let e : true ≡ false = sym p ∙ q in cc

tail_of : (c d : Choice) (xs ys : List Choice) → c ∷ xs ≡ d ∷ ys → xs ≡ ys
tail_of c d xs ys e = cc

head_clash : {A : Type 0} (xs ys : List Choice) → Unswapped ∷ xs ≡ Swapped ∷ ys → A
head_clash xs ys e = let q : Unswapped ≡ Swapped = cc in cc

leaf_determines : (e : Tree) → is_leaf e ≡ true → Determines e
leaf_determines e k x y cs ds xs ys h i p =
    let a = leaf_form x e cs h k in
    let b = leaf_form y e ds i k in
    (a.0 ∙ sym b.0, ap (λ (l : List Choice). l ++ xs) (sym a.1) ∙ (p ∙ ap (λ (l : List Choice). l ++ ys) b.1))

load_determines : (w : Width) (c x y : Tree) (cs ds xs ys : List Choice) → Determines c → Loaded w c x cs → Loaded w c y ds → cs ++ xs ≡ ds ++ ys
    → (x ≡ y) × (xs ≡ ys)
load_determines w c _ _ _ _ xs ys f (loaded a cs h) (loaded b ds i) p = let q = f a b cs ds xs ys h i p in (ap (Load w) q.0, q.1)

unary_determines : (o : UnOp) (c x y : Tree) (cs ds xs ys : List Choice) → Determines c → Under o c x cs → Under o c y ds → cs ++ xs ≡ ds ++ ys
    → (x ≡ y) × (xs ≡ ys)
unary_determines o c _ _ _ _ xs ys f (under a cs h) (under b ds i) p = let q = f a b cs ds xs ys h i p in (ap (Unary o) q.0, q.1)

both_determine : (c d a b p q : Tree) (ks bs ps qs xs ys : List Choice) → Determines c → Determines d → IsAlikeBy a c ks → IsAlikeBy b d bs
    → IsAlikeBy p c ps → IsAlikeBy q d qs → (ks ++ bs) ++ xs ≡ (ps ++ qs) ++ ys → (a ≡ p) × (b ≡ q) × (xs ≡ ys)
both_determine c d a b p q ks bs ps qs xs ys f g h i j k e =
    let first = f a p ks ps (bs ++ xs) (qs ++ ys) h j (sym (append_assoc ks bs xs) ∙ (e ∙ append_assoc ps qs ys)) in
    let second = g b q bs qs xs ys i k first.1 in
    (first.0, second.0, second.1)

same_binary : (o : BinOp) (a b c d : Tree) → a ≡ c → b ≡ d → Binary o a b ≡ Binary o c d
same_binary o a b c d p q = cc

operands_determine : (o : BinOp) (c d x y : Tree) (cs ds xs ys : List Choice) → Determines c → Determines d → Operands o c d x cs → Operands o c d y ds
    → cs ++ xs ≡ ds ++ ys → (x ≡ y) × (xs ≡ ys)
operands_determine o c d _ _ _ _ xs ys f g (in_order a b k l e h i) (in_order p q m n t r s) z =
    let u = both_determine c d a b p q k l m n xs ys f g h i r s z in (same_binary o a b p q u.0 u.1, u.2)
operands_determine o c d _ _ _ _ xs ys f g (straight a b k l e h i) (straight p q m n t r s) z =
    let u = both_determine c d a b p q k l m n xs ys f g h i r s (tail_of Unswapped Unswapped ((k ++ l) ++ xs) ((m ++ n) ++ ys) z) in
    (same_binary o a b p q u.0 u.1, u.2)
operands_determine o c d _ _ _ _ xs ys f g (crossed a b k l e h i) (crossed p q m n t r s) z =
    let u = both_determine c d b a q p k l m n xs ys f g h i r s (tail_of Swapped Swapped ((k ++ l) ++ xs) ((m ++ n) ++ ys) z) in
    (same_binary o a b p q u.1 u.0, u.2)
operands_determine o c d _ _ _ _ xs ys f g (straight a b k l e h i) (crossed p q m n t r s) z = head_clash ((k ++ l) ++ xs) ((m ++ n) ++ ys) z
operands_determine o c d _ _ _ _ xs ys f g (crossed a b k l e h i) (straight p q m n t r s) z = head_clash ((m ++ n) ++ ys) ((k ++ l) ++ xs) (sym z)
operands_determine o c d _ _ _ _ xs ys f g (in_order a b k l e h i) (straight p q m n t r s) z = opposite (commutes o) t e
operands_determine o c d _ _ _ _ xs ys f g (in_order a b k l e h i) (crossed p q m n t r s) z = opposite (commutes o) t e
operands_determine o c d _ _ _ _ xs ys f g (straight a b k l e h i) (in_order p q m n t r s) z = opposite (commutes o) e t
operands_determine o c d _ _ _ _ xs ys f g (crossed a b k l e h i) (in_order p q m n t r s) z = opposite (commutes o) e t

pub determines : (e : Tree) → Determines e
determines (Load w c) x y cs ds xs ys h i p =
    load_determines w c x y cs ds xs ys (λ a b k l m n q r s. determines c a b k l m n q r s) (load_form w c x (Load w c) cs h refl) (load_form w c y (Load w c) ds i refl) p
determines (Unary o c) x y cs ds xs ys h i p =
    unary_determines o c x y cs ds xs ys (λ a b k l m n q r s. determines c a b k l m n q r s) (unary_form o c x (Unary o c) cs h refl) (unary_form o c y (Unary o c) ds i refl) p
determines (Binary o c d) x y cs ds xs ys h i p =
    operands_determine o c d x y cs ds xs ys (λ a b k l m n q r s. determines c a b k l m n q r s) (λ a b k l m n q r s. determines d a b k l m n q r s)
    (binary_form o c d x (Binary o c d) cs h refl) (binary_form o c d y (Binary o c d) ds i refl) p
determines (Number n) x y cs ds xs ys h i p = leaf_determines (Number n) refl x y cs ds xs ys h i p
determines (Symbol n) x y cs ds xs ys h i p = leaf_determines (Symbol n) refl x y cs ds xs ys h i p
determines (CodeLabel n) x y cs ds xs ys h i p = leaf_determines (CodeLabel n) refl x y cs ds xs ys h i p
determines (Read n) x y cs ds xs ys h i p = leaf_determines (Read n) refl x y cs ds xs ys h i p
determines NoPair x y cs ds xs ys h i p = leaf_determines NoPair refl x y cs ds xs ys h i p
determines (AnyNumber n) x y cs ds xs ys h i p = leaf_determines (AnyNumber n) refl x y cs ds xs ys h i p
determines (AnyName n) x y cs ds xs ys h i p = leaf_determines (AnyName n) refl x y cs ds xs ys h i p
