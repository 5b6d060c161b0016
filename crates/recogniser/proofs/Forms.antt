-- What is alike a tree by a list of choices, taken apart by the tree.
use Rattle.std.proofs.Common.{◌≡◌, true, false, List, [], ◌∷◌, ◌++◌, refl, sym, subst, ◌∙◌}
use Rattle.rtl_tree.specs.Trees.{Tree, Load, Unary, Binary}
use Rattle.rtl_tree.specs.Likeness.{commutes}
use Rattle.rtl_tree.specs.declared.expressions.Width.{Width}
use Rattle.rtl_tree.specs.declared.expressions.UnOp.{UnOp}
use Rattle.rtl_tree.specs.declared.expressions.BinOp.{BinOp}
use Rattle.recogniser.specs.Choices.{Choice, Unswapped, Swapped, is_leaf, IsAlikeBy, leaves, loads, unaries, ordered, unswapped, swapped}

leaf_clash : (e f : Tree) → is_leaf e ≡ true → e ≡ f → is_leaf f ≡ false → ⊥
leaf_clash e f h p k = let q : is_leaf e ≡ false = subst (λ (t : Tree). is_leaf t ≡ false) (sym p) k in let r : true ≡ false = sym h ∙ q in cc

pub leaf_form : (x e : Tree) (cs : List Choice) → IsAlikeBy x e cs → is_leaf e ≡ true → (x ≡ e) × (cs ≡ [])
leaf_form _ _ _ (leaves a h) k = (refl, refl)
leaf_form _ _ _ (loads w a c cs h) k = let q : false ≡ true = k in cc
leaf_form _ _ _ (unaries o a c cs h) k = let q : false ≡ true = k in cc
leaf_form _ _ _ (ordered o a b c d cs ds e h i) k = let q : false ≡ true = k in cc
leaf_form _ _ _ (unswapped o a b c d cs ds e h i) k = let q : false ≡ true = k in cc
leaf_form _ _ _ (swapped o a b c d cs ds e h i) k = let q : false ≡ true = k in cc

pub data Loaded (w : Width) (c : Tree) : Tree → List Choice → Type 0 where
  loaded : (a : Tree) (cs : List Choice) → IsAlikeBy a c cs → Loaded w c (Load w a) cs

pub load_form : (w : Width) (c x e : Tree) (cs : List Choice) → IsAlikeBy x e cs → e ≡ Load w c → Loaded w c x cs
load_form w c _ _ _ (leaves a h) p = absurd (leaf_clash a (Load w c) h p refl)
load_form w c _ _ _ (loads v a b cs h) p =
    let q : v ≡ w = cc in
    let r : b ≡ c = cc in
    subst (λ (u : Width). Loaded w c (Load u a) cs) (sym q) (loaded a cs (subst (λ (t : Tree). IsAlikeBy a t cs) r h))
load_form w c _ _ _ (unaries o a b cs h) p = absurd cc
load_form w c _ _ _ (ordered o a b d f cs ds e h i) p = absurd cc
load_form w c _ _ _ (unswapped o a b d f cs ds e h i) p = absurd cc
load_form w c _ _ _ (swapped o a b d f cs ds e h i) p = absurd cc

pub data Under (o : UnOp) (c : Tree) : Tree → List Choice → Type 0 where
  under : (a : Tree) (cs : List Choice) → IsAlikeBy a c cs → Under o c (Unary o a) cs

pub unary_form : (o : UnOp) (c x e : Tree) (cs : List Choice) → IsAlikeBy x e cs → e ≡ Unary o c → Under o c x cs
unary_form o c _ _ _ (leaves a h) p = absurd (leaf_clash a (Unary o c) h p refl)
unary_form o c _ _ _ (loads v a b cs h) p = absurd cc
unary_form o c _ _ _ (unaries v a b cs h) p =
    let q : v ≡ o = cc in
    let r : b ≡ c = cc in
    subst (λ (u : UnOp). Under o c (Unary u a) cs) (sym q) (under a cs (subst (λ (t : Tree). IsAlikeBy a t cs) r h))
unary_form o c _ _ _ (ordered v a b d f cs ds e h i) p = absurd cc
unary_form o c _ _ _ (unswapped v a b d f cs ds e h i) p = absurd cc
unary_form o c _ _ _ (swapped v a b d f cs ds e h i) p = absurd cc

pub data Operands (o : BinOp) (c d : Tree) : Tree → List Choice → Type 0 where
  in_order : (a b : Tree) (cs ds : List Choice) → commutes o ≡ false → IsAlikeBy a c cs → IsAlikeBy b d ds → Operands o c d (Binary o a b) (cs ++ ds)
  straight : (a b : Tree) (cs ds : List Choice) → commutes o ≡ true → IsAlikeBy a c cs → IsAlikeBy b d ds → Operands o c d (Binary o a b) (Unswapped ∷ cs ++ ds)
  crossed : (a b : Tree) (cs ds : List Choice) → commutes o ≡ true → IsAlikeBy b c cs → IsAlikeBy a d ds → Operands o c d (Binary o a b) (Swapped ∷ cs ++ ds)

in_form : (o v : BinOp) (c d f g x : Tree) (cs : List Choice) → v ≡ o → f ≡ c → g ≡ d → Operands v f g x cs → Operands o c d x cs
in_form o v c d f g x cs p q r h =
    subst (λ (t : Tree). Operands o c t x cs) r (subst (λ (t : Tree). Operands o t g x cs) q (subst (λ (u : BinOp). Operands u f g x cs) p h))

pub binary_form : (o : BinOp) (c d x e : Tree) (cs : List Choice) → IsAlikeBy x e cs → e ≡ Binary o c d → Operands o c d x cs
binary_form o c d _ _ _ (leaves a h) p = absurd (leaf_clash a (Binary o c d) h p refl)
binary_form o c d _ _ _ (loads v a b cs h) p = absurd cc
binary_form o c d _ _ _ (unaries v a b cs h) p = absurd cc
binary_form o c d _ _ _ (ordered v a b f g cs ds e h i) p =
    let q : v ≡ o = cc in
    let r : f ≡ c = cc in
    let t : g ≡ d = cc in
    in_form o v c d f g (Binary v a b) (cs ++ ds) q r t (in_order a b cs ds e h i)
binary_form o c d _ _ _ (unswapped v a b f g cs ds e h i) p =
    let q : v ≡ o = cc in
    let r : f ≡ c = cc in
    let t : g ≡ d = cc in
    in_form o v c d f g (Binary v a b) (Unswapped ∷ cs ++ ds) q r t (straight a b cs ds e h i)
binary_form o c d _ _ _ (swapped v a b f g cs ds e h i) p =
    let q : v ≡ o = cc in
    let r : f ≡ c = cc in
    let t : g ≡ d = cc in
    in_form o v c d f g (Binary v a b) (Swapped ∷ cs ++ ds) q r t (crossed a b cs ds e h i)
