-- How many numbers a tree has, and their sum: alike trees have the same, and filling keeps them.
use Rattle.std.proofs.Common.{◌≡◌, ℕ, zero, suc, ◌+◌, ◌<◌, ◌≤◌, Bool, true, false, ◌||◌, List, [], ◌∷◌, slice_get, Option, Some, None, inl, inr, refl, sym, subst, ap, arith, ◌∙◌}
use Rattle.std.proofs.lemmas.Bool.{eqb-true}
use Rattle.rtl_tree.specs.Trees.{Tree, Number, Symbol, CodeLabel, Read, Load, Unary, Binary, NoPair, AnyNumber, AnyName}
use Rattle.rtl_tree.specs.Likeness.{IsAlike, equal, loads, unaries, straight, crossed}
use Rattle.rtl_tree.specs.Same.{same_tree}
use Rattle.rtl_tree.proofs.Equality.{same_tree-is, and_both}
use Rattle.rtl_tree.specs.declared.cells.Cell.TheVariants.{Hard, Temp, Flag, Pc, Input, Output, Halt, Hole as RegisterHole}
use Rattle.md_rows.specs.declared.row.Hole.{Hole}
use Rattle.md_rows.specs.declared.row.Hole.TheVariants.{Reg as RegHole, Num as NumHole, Sym as SymHole, Label as LabelHole}
use Rattle.md_rows.specs.declared.instance.Bound.{Bound}
use Rattle.md_rows.specs.declared.instance.Bound.TheVariants.{Reg, Num, Sym, Label}
use Rattle.md_rows.specs.Instances.{leaf_of, held_by, filled, AllFit}
use Rattle.md_match.specs.Slots.{fit_of, fit_at}
use Rattle.md_match.specs.Searches.{occurs_by}
use Rattle.md_match.specs.Does.{has_hole}
use Rattle.md_match.proofs.Binding.{or_true}
use Rattle.md_covers.specs.Numbers.{is_open}
use Rattle.md_covers.specs.Covers.{IsRowTree, is_register_hole, is_number_hole, is_name_hole}

-- the numbers of a tree, its holes for numbers, both together, and the sum of the numbers
abbrev pub literals : Tree → ℕ
literals (Number n) = 1
literals (Load w a) = literals a
literals (Unary o a) = literals a
literals (Binary o a b) = literals a + literals b
literals _ = 0

abbrev pub gaps : Tree → ℕ
gaps (AnyNumber h) = 1
gaps (Load w a) = gaps a
gaps (Unary o a) = gaps a
gaps (Binary o a b) = gaps a + gaps b
gaps _ = 0

abbrev pub numbers : Tree → ℕ
numbers t = literals t + gaps t

abbrev pub total : Tree → ℕ
total (Number n) = n
total (Load w a) = total a
total (Unary o a) = total a
total (Binary o a b) = total a + total b
total _ = 0

pub alike_literals : (x y : Tree) → IsAlike x y → literals x ≡ literals y
alike_literals x _ (equal _) = refl
alike_literals _ _ (loads w a b h) = alike_literals a b h
alike_literals _ _ (unaries o a b h) = alike_literals a b h
alike_literals _ _ (straight o a b c d h k) = let p = alike_literals a c h in let q = alike_literals b d k in omega (arith, p, q)
alike_literals _ _ (crossed o a b c d e h k) = let p = alike_literals a d h in let q = alike_literals b c k in omega (arith, p, q)

pub alike_total : (x y : Tree) → IsAlike x y → total x ≡ total y
alike_total x _ (equal _) = refl
alike_total _ _ (loads w a b h) = alike_total a b h
alike_total _ _ (unaries o a b h) = alike_total a b h
alike_total _ _ (straight o a b c d h k) = let p = alike_total a c h in let q = alike_total b d k in omega (arith, p, q)
alike_total _ _ (crossed o a b c d e h k) = let p = alike_total a d h in let q = alike_total b c k in omega (arith, p, q)

-- what stands in a hole of a kind

pub bound_at : (w g : ℕ) (holes : List Hole) (b : List Bound) → AllFit w g holes b → (h : ℕ) (o : Option Hole) → slice_get holes h ≡ o
    → (o ≡ None → ⊥) → (v : Bound) × (slice_get b h ≡ Some v) × (fit_at w g o v ≡ true)
bound_at w g [] [] a h None e n = absurd (n refl)
bound_at w g [] [] a h (Some x) e n = let k : None ≡ Some x = e in cc
bound_at w g (x ∷ xs) (v ∷ vs) a zero o e n = (v, refl, subst (λ z. fit_at w g z v ≡ true) e a.0)
bound_at w g (x ∷ xs) (v ∷ vs) a (suc h) o e n = bound_at w g xs vs a.1 h o e n
bound_at w g [] (v ∷ vs) a h o e n = absurd a
bound_at w g (x ∷ xs) [] a h o e n = absurd a

register_literals : (w g : ℕ) (o : Option Hole) (v : Bound) → is_register_hole o ≡ true → fit_at w g o v ≡ true → literals (leaf_of v) ≡ 0
register_literals w g (Some (RegHole c)) (Reg r) k e = refl
register_literals w g (Some (RegHole c)) (Num n) k e = let q : false ≡ true = e in cc
register_literals w g (Some (RegHole c)) (Sym n) k e = refl
register_literals w g (Some (RegHole c)) (Label n) k e = refl
register_literals w g (Some (NumHole a b c)) v k e = let q : false ≡ true = k in cc
register_literals w g (Some SymHole) v k e = let q : false ≡ true = k in cc
register_literals w g (Some LabelHole) v k e = let q : false ≡ true = k in cc
register_literals w g None v k e = let q : false ≡ true = k in cc

name_literals : (w g : ℕ) (o : Option Hole) (v : Bound) → is_name_hole o ≡ true → fit_at w g o v ≡ true → literals (leaf_of v) ≡ 0
name_literals w g (Some SymHole) (Sym n) k e = refl
name_literals w g (Some SymHole) (Label n) k e = refl
name_literals w g (Some SymHole) (Reg n) k e = refl
name_literals w g (Some SymHole) (Num n) k e = let q : false ≡ true = e in cc
name_literals w g (Some LabelHole) (Sym n) k e = refl
name_literals w g (Some LabelHole) (Label n) k e = refl
name_literals w g (Some LabelHole) (Reg n) k e = refl
name_literals w g (Some LabelHole) (Num n) k e = let q : false ≡ true = e in cc
name_literals w g (Some (NumHole a b c)) v k e = let q : false ≡ true = k in cc
name_literals w g (Some (RegHole c)) v k e = let q : false ≡ true = k in cc
name_literals w g None v k e = let q : false ≡ true = k in cc

pub number_bound : (w g : ℕ) (o : Option Hole) (v : Bound) → is_number_hole o ≡ true → fit_at w g o v ≡ true → (n : ℕ) × (v ≡ Num n)
number_bound w g (Some (NumHole a b c)) (Num n) k e = (n, refl)
number_bound w g (Some (NumHole a b c)) (Reg n) k e = let q : false ≡ true = e in cc
number_bound w g (Some (NumHole a b c)) (Sym n) k e = let q : false ≡ true = e in cc
number_bound w g (Some (NumHole a b c)) (Label n) k e = let q : false ≡ true = e in cc
number_bound w g (Some (RegHole c)) v k e = let q : false ≡ true = k in cc
number_bound w g (Some SymHole) v k e = let q : false ≡ true = k in cc
number_bound w g (Some LabelHole) v k e = let q : false ≡ true = k in cc
number_bound w g None v k e = let q : false ≡ true = k in cc

some_of : (p : Option Hole → Bool) → p None ≡ false → (o : Option Hole) → p o ≡ true → o ≡ None → ⊥
some_of p n o e q = let x : p None ≡ true = subst (λ z. p z ≡ true) q e in let y : false ≡ true = sym n ∙ x in cc

-- filling

held_is : (hole : Tree) (b : List Bound) (h : ℕ) (v : Bound) → slice_get b h ≡ Some v → held_by hole (slice_get b h) ≡ leaf_of v
held_is hole b h v e = ap (held_by hole) e

register_filled : (w g : ℕ) (holes : List Hole) (b : List Bound) → AllFit w g holes b → (h : ℕ) (hole : Tree) → is_register_hole (slice_get holes h) ≡ true
    → literals (held_by hole (slice_get b h)) ≡ 0
register_filled w g holes b a h hole k =
    let x = bound_at w g holes b a h (slice_get holes h) refl (some_of is_register_hole refl (slice_get holes h) k) in
    ap literals (held_is hole b h x.0 x.1) ∙ register_literals w g (slice_get holes h) x.0 k x.2

name_filled : (w g : ℕ) (holes : List Hole) (b : List Bound) → AllFit w g holes b → (h : ℕ) (hole : Tree) → is_name_hole (slice_get holes h) ≡ true
    → literals (held_by hole (slice_get b h)) ≡ 0
name_filled w g holes b a h hole k =
    let x = bound_at w g holes b a h (slice_get holes h) refl (some_of is_name_hole refl (slice_get holes h) k) in
    ap literals (held_is hole b h x.0 x.1) ∙ name_literals w g (slice_get holes h) x.0 k x.2

pub number_at : (w g : ℕ) (holes : List Hole) (b : List Bound) → AllFit w g holes b → (h : ℕ) → is_number_hole (slice_get holes h) ≡ true
    → (n : ℕ) × (slice_get b h ≡ Some (Num n)) × (fit_of w g holes h (Num n) ≡ true)
number_at w g holes b a h k =
    let x = bound_at w g holes b a h (slice_get holes h) refl (some_of is_number_hole refl (slice_get holes h) k) in
    let y = number_bound w g (slice_get holes h) x.0 k x.2 in
    (y.0, x.1 ∙ ap Some y.1, subst (λ z. fit_at w g (slice_get holes h) z ≡ true) y.1 x.2)

-- a filled tree has as many numbers as the row's tree has numbers and holes for numbers
pub filled_literals : (w g : ℕ) (holes : List Hole) (b : List Bound) → AllFit w g holes b → (t : Tree) → IsRowTree holes t
    → literals (filled b t) ≡ numbers t
filled_literals w g holes b a (Read (RegisterHole h)) k = register_filled w g holes b a h (Read (RegisterHole h)) k
filled_literals w g holes b a (AnyName h) k = name_filled w g holes b a h (AnyName h) k
filled_literals w g holes b a (AnyNumber h) k =
    let x = number_at w g holes b a h k in ap literals (held_is (AnyNumber h) b h (Num x.0) x.1)
filled_literals w g holes b a (Load v x) k = filled_literals w g holes b a x k
filled_literals w g holes b a (Unary v x) k = filled_literals w g holes b a x k
filled_literals w g holes b a (Binary v x y) k =
    let p = filled_literals w g holes b a x k.0 in let q = filled_literals w g holes b a y k.1 in omega (arith, p, q)
filled_literals w g holes b a (Number n) k = refl
filled_literals w g holes b a NoPair k = refl
filled_literals w g holes b a (Symbol n) k = absurd k
filled_literals w g holes b a (CodeLabel n) k = absurd k
filled_literals w g holes b a (Read (Temp n)) k = absurd k
filled_literals w g holes b a (Read (Hard n)) k = refl
filled_literals w g holes b a (Read (Flag n)) k = refl
filled_literals w g holes b a (Read Pc) k = refl
filled_literals w g holes b a (Read Input) k = refl
filled_literals w g holes b a (Read Output) k = refl
filled_literals w g holes b a (Read Halt) k = refl

-- the numbers of a tree that has none sum to 0
pub no_total : (t : Tree) → literals t ≡ 0 → total t ≡ 0
no_total (Load w a) e = no_total a e
no_total (Unary o a) e = no_total a e
no_total (Binary o a b) e =
    let i : literals a ≡ 0 = omega (arith, e) in
    let j : literals b ≡ 0 = omega (arith, e) in
    let p = no_total a i in let q = no_total b j in omega (arith, p, q)
no_total (Number n) e = absurd (omega arith)
no_total (Symbol n) e = refl
no_total (CodeLabel n) e = refl
no_total (Read n) e = refl
no_total NoPair e = refl
no_total (AnyNumber n) e = refl
no_total (AnyName n) e = refl

-- without holes for numbers the sum is fixed
pub fixed_total : (w g : ℕ) (holes : List Hole) (b : List Bound) → AllFit w g holes b → (t : Tree) → IsRowTree holes t → gaps t ≡ 0
    → total (filled b t) ≡ total t
fixed_total w g holes b a (Read (RegisterHole h)) k e =
    no_total (held_by (Read (RegisterHole h)) (slice_get b h)) (register_filled w g holes b a h (Read (RegisterHole h)) k)
fixed_total w g holes b a (AnyName h) k e =
    no_total (held_by (AnyName h) (slice_get b h)) (name_filled w g holes b a h (AnyName h) k)
fixed_total w g holes b a (AnyNumber h) k e = absurd (omega arith)
fixed_total w g holes b a (Load v x) k e = fixed_total w g holes b a x k e
fixed_total w g holes b a (Unary v x) k e = fixed_total w g holes b a x k e
fixed_total w g holes b a (Binary v x y) k e =
    let i : gaps x ≡ 0 = omega (arith, e) in
    let j : gaps y ≡ 0 = omega (arith, e) in
    let p = fixed_total w g holes b a x k.0 i in let q = fixed_total w g holes b a y k.1 j in omega (arith, p, q)
fixed_total w g holes b a (Number n) k e = refl
fixed_total w g holes b a NoPair k e = refl
fixed_total w g holes b a (Symbol n) k e = absurd k
fixed_total w g holes b a (CodeLabel n) k e = absurd k
fixed_total w g holes b a (Read (Temp n)) k e = absurd k
fixed_total w g holes b a (Read (Hard n)) k e = refl
fixed_total w g holes b a (Read (Flag n)) k e = refl
fixed_total w g holes b a (Read Pc) k e = refl
fixed_total w g holes b a (Read Input) k e = refl
fixed_total w g holes b a (Read Output) k e = refl
fixed_total w g holes b a (Read Halt) k e = refl

-- a tree without numbers of its own is open
pub none_open : (t : Tree) → literals t ≡ 0 → is_open t ≡ true
none_open (Load w a) e = none_open a e
none_open (Unary o a) e = none_open a e
none_open (Binary o a b) e =
    and_both (is_open a) (is_open b) (none_open a (omega (arith, e))) (none_open b (omega (arith, e)))
none_open (Number n) e = absurd (omega arith)
none_open (Symbol n) e = refl
none_open (CodeLabel n) e = refl
none_open (Read n) e = refl
none_open NoPair e = refl
none_open (AnyNumber n) e = refl
none_open (AnyName n) e = refl

no_gap : (w g : ℕ) (holes : List Hole) (h : ℕ) (t : Tree) → IsRowTree holes t → is_number_hole (slice_get holes h) ≡ true → has_hole h t ≡ true
    → 0 < gaps t
no_gap w g holes h (Read (RegisterHole k)) r n e = absurd (both (slice_get holes h) n (subst (λ z. is_register_hole (slice_get holes z) ≡ true) (sym (eqb-true h k e)) r))
  where
    both : (o : Option Hole) → is_number_hole o ≡ true → is_register_hole o ≡ true → ⊥
    both (Some (RegHole c)) p q = let x : false ≡ true = p in cc
    both (Some (NumHole a b c)) p q = let x : false ≡ true = q in cc
    both (Some SymHole) p q = let x : false ≡ true = p in cc
    both (Some LabelHole) p q = let x : false ≡ true = p in cc
    both None p q = let x : false ≡ true = p in cc
no_gap w g holes h (AnyName k) r n e = absurd (both (slice_get holes h) n (subst (λ z. is_name_hole (slice_get holes z) ≡ true) (sym (eqb-true h k e)) r))
  where
    both : (o : Option Hole) → is_number_hole o ≡ true → is_name_hole o ≡ true → ⊥
    both (Some (RegHole c)) p q = let x : false ≡ true = p in cc
    both (Some (NumHole a b c)) p q = let x : false ≡ true = q in cc
    both (Some SymHole) p q = let x : false ≡ true = p in cc
    both (Some LabelHole) p q = let x : false ≡ true = p in cc
    both None p q = let x : false ≡ true = p in cc
no_gap w g holes h (AnyNumber k) r n e = omega arith
no_gap w g holes h (Load v x) r n e = no_gap w g holes h x r n e
no_gap w g holes h (Unary v x) r n e = no_gap w g holes h x r n e
no_gap w g holes h (Binary v x y) r n e = elim (or_true (has_hole h x) (has_hole h y) e) [
  | inl p ↦ (let z = no_gap w g holes h x r.0 n p in omega (arith, z))
  | inr p ↦ (let z = no_gap w g holes h y r.1 n p in omega (arith, z))
]
no_gap w g holes h _ r n e = let k : false ≡ true = e in cc

-- the one number of a tree whose hole it fills
pub hole_total : (w g : ℕ) (holes : List Hole) (b : List Bound) → AllFit w g holes b → (h : ℕ) (n : ℕ) → slice_get b h ≡ Some (Num n)
    → is_number_hole (slice_get holes h) ≡ true → (t : Tree) → IsRowTree holes t → has_hole h t ≡ true → numbers t ≡ 1
    → total (filled b t) ≡ n
hole_total w g holes b a h n e z (AnyNumber k) r p q =
    let i : h ≡ k = eqb-true h k p in
    ap total (held_is (AnyNumber k) b k (Num n) (subst (λ m. slice_get b m ≡ Some (Num n)) i e))
hole_total w g holes b a h n e z (Load v x) r p q = hole_total w g holes b a h n e z x r p q
hole_total w g holes b a h n e z (Unary v x) r p q = hole_total w g holes b a h n e z x r p q
hole_total w g holes b a h n e z (Binary v x y) r p q = elim (or_true (has_hole h x) (has_hole h y) p) [
  | inl c ↦
      (let some = no_gap w g holes h x r.0 z c in
      let one : numbers x ≡ 1 = omega (arith, some, q) in
      let none : numbers y ≡ 0 = omega (arith, some, q) in
      let i = hole_total w g holes b a h n e z x r.0 c one in
      let j = no_total (filled b y) (filled_literals w g holes b a y r.1 ∙ none) in
      omega (arith, i, j))
  | inr c ↦
      (let some = no_gap w g holes h y r.1 z c in
      let one : numbers y ≡ 1 = omega (arith, some, q) in
      let none : numbers x ≡ 0 = omega (arith, some, q) in
      let i = hole_total w g holes b a h n e z y r.1 c one in
      let j = no_total (filled b x) (filled_literals w g holes b a x r.0 ∙ none) in
      omega (arith, i, j))
]
hole_total w g holes b a h n e z (Read (RegisterHole k)) r p q =
    let s = no_gap w g holes h (Read (RegisterHole k)) r z p in absurd (omega (arith, s))
hole_total w g holes b a h n e z (AnyName k) r p q =
    let s = no_gap w g holes h (AnyName k) r z p in absurd (omega (arith, s))
hole_total w g holes b a h n e z _ r p q = let k : false ≡ true = p in cc

-- a part of a tree has no more numbers, and the tree's sum where it has all of them
pub record IsLess (x t : Tree) : Type 0 where
  pub fewer : literals x ≤ literals t
  pub sum : literals x ≡ literals t → total x ≡ total t

less_own : (x t : Tree) → x ≡ t → IsLess x t
less_own x t e = let p : literals x ≡ literals t = ap literals e in record { fewer = omega (arith, p); sum = λ q. ap total e }

pub less_left : (x a c : Tree) (o : ℕ) → IsLess x a → (literals x ≤ literals a + literals c) × (literals x ≡ literals a + literals c → total x ≡ total a + total c)
less_left x a c o k =
    let f = k.fewer in (
      omega (arith, f),
      λ q.
          (let none : literals c ≡ 0 = omega (arith, f, q) in
          let same : literals x ≡ literals a = omega (arith, f, q) in
          let i = k.sum same in let j = no_total c none in omega (arith, i, j)),
    )

pub less_right : (x a c : Tree) (o : ℕ) → IsLess x c → (literals x ≤ literals a + literals c) × (literals x ≡ literals a + literals c → total x ≡ total a + total c)
less_right x a c o k =
    let f = k.fewer in (
      omega (arith, f),
      λ q.
          (let none : literals a ≡ 0 = omega (arith, f, q) in
          let same : literals x ≡ literals c = omega (arith, f, q) in
          let i = k.sum same in let j = no_total a none in omega (arith, i, j)),
    )

pub part_less : (b : List Bound) (x t : Tree) → occurs_by (filled b) x t ≡ true → IsLess (filled b x) (filled b t)
part_less b x (Load w a) e = elim (or_true (same_tree (filled b x) (filled b (Load w a))) (occurs_by (filled b) x a) e) [
  | inl p ↦ less_own (filled b x) (filled b (Load w a)) (same_tree-is (filled b x) (filled b (Load w a)) p)
  | inr p ↦ (let k = part_less b x a p in record { fewer = k.fewer; sum = k.sum })
]
part_less b x (Unary o a) e = elim (or_true (same_tree (filled b x) (filled b (Unary o a))) (occurs_by (filled b) x a) e) [
  | inl p ↦ less_own (filled b x) (filled b (Unary o a)) (same_tree-is (filled b x) (filled b (Unary o a)) p)
  | inr p ↦ (let k = part_less b x a p in record { fewer = k.fewer; sum = k.sum })
]
part_less b x (Binary o a c) e = elim (or_true (same_tree (filled b x) (filled b (Binary o a c))) (occurs_by (filled b) x a || occurs_by (filled b) x c) e) [
  | inl p ↦ less_own (filled b x) (filled b (Binary o a c)) (same_tree-is (filled b x) (filled b (Binary o a c)) p)
  | inr p ↦ elim (or_true (occurs_by (filled b) x a) (occurs_by (filled b) x c) p) [
    | inl q ↦ (let k = less_left (filled b x) (filled b a) (filled b c) 0 (part_less b x a q) in record { fewer = k.0; sum = k.1 })
    | inr q ↦ (let k = less_right (filled b x) (filled b a) (filled b c) 0 (part_less b x c q) in record { fewer = k.0; sum = k.1 })
  ]
]
part_less b x (Number n) e = less_own (filled b x) (filled b (Number n)) (same_tree-is (filled b x) (filled b (Number n)) e)
part_less b x (Symbol n) e = less_own (filled b x) (filled b (Symbol n)) (same_tree-is (filled b x) (filled b (Symbol n)) e)
part_less b x (CodeLabel n) e = less_own (filled b x) (filled b (CodeLabel n)) (same_tree-is (filled b x) (filled b (CodeLabel n)) e)
part_less b x (Read n) e = less_own (filled b x) (filled b (Read n)) (same_tree-is (filled b x) (filled b (Read n)) e)
part_less b x NoPair e = less_own (filled b x) (filled b NoPair) (same_tree-is (filled b x) (filled b NoPair) e)
part_less b x (AnyNumber n) e = less_own (filled b x) (filled b (AnyNumber n)) (same_tree-is (filled b x) (filled b (AnyNumber n)) e)
part_less b x (AnyName n) e = less_own (filled b x) (filled b (AnyName n)) (same_tree-is (filled b x) (filled b (AnyName n)) e)
