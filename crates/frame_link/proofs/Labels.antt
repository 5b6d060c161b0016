-- The labels that stand, and the functions among them, from some label on.
use Rattle.std.proofs.Common.{◌≡◌, ℕ, zero, suc, ◌+◌, ◌-◌, ◌*◌, ◌<◌, ◌%◌, ◌/◌, ◌≤◌, Bool, true, false, ◌||◌, List, [], ◌∷◌, length, drop, get_or, refl, sym, ap, subst, ◌∙◌, arith}
use Rattle.std.specs.Prelude.{All, AllPairs, Contains}
use Rattle.std.proofs.Math.Nat.{mod-add-div'}
use Rattle.std.proofs.lemmas.List.Elements.{All-nil, All-cons}
use Rattle.std.proofs.lemmas.List.Kept.{AllPairs-cons}
use Rattle.rtl_tree.specs.declared.cells.Lab.{Lab}
use Rattle.rtl_tree.specs.declared.cells.Lab.TheVariants.{Block, Function}
use Rattle.rtl_tree.specs.Same.{same_label}
use Rattle.rtl_tree.proofs.Equality.{same_label-is, same_label-own}
use Rattle.rtl_value.specs.declared.state.LabelAt.{LabelAt}
use Rattle.md_rows.specs.declared.description.RawDescription.{RawDescription}
use Rattle.md_rows.specs.declared.instance.Bound.{Bound}
use Rattle.md_rows.specs.declared.instance.Bound.TheVariants.{Reg, Num, Sym, Label}
use Rattle.asm_program.specs.Programs.{IsStanding}
use Rattle.asm_print.specs.Printable.{labelled}
use Rattle.frame_link.specs.declared.standing.Standing.{Standing}
use Rattle.frame_link.specs.Tested.{holds, is_among, HoldsLabels, Differ, IsHeld, IsAddressIn}

pub drop_at : {A : Type 0} (xs : List A) (i : ℕ) (x : A) → i < length xs → drop i xs ≡ get_or xs i x ∷ drop (suc i) xs
drop_at [] i x h = absurd (omega (arith, h))
drop_at (y ∷ xs) zero x h = refl
drop_at (y ∷ xs) (suc i) x h = drop_at xs i x (omega (arith, h))

-- the table

strangers : (x : LabelAt) (ys : List LabelAt) → is_among x.label ys ≡ false → All (Differ x) ys
strangers x [] e = All-nil (Differ x)
strangers x (y ∷ ys) e =
    All-cons (Differ x) y ys (λ q. apart (ap (same_label y.label) q ∙ same_label-own y.label) e) (strangers x ys (right (same_label y.label x.label) (is_among x.label ys) e))
  where
    apart : same_label y.label x.label ≡ true → (same_label y.label x.label || is_among x.label ys) ≡ false → ⊥
    apart f e = cc

    right : (a b : Bool) → (a || b) ≡ false → b ≡ false
    right true b e = absurd (true_false e)
      where
        true_false : true ≡ false → ⊥
        true_false e = cc
    right false b e = e

-- before these labels stands one more
module _ (xs ys : List LabelAt) (x : LabelAt) (cut : xs ≡ x ∷ ys) (old new : Standing) (held : HoldsLabels ys old)
    (more : (l : Lab) → holds new l ≡ (same_label x.label l || holds old l)) where
  pub holds_more : HoldsLabels xs new
  holds_more l = more l ∙ (ap (λ (b : Bool). same_label x.label l || b) (held l) ∙ sym (ap (is_among l) cut))

  pub differ_more : AllPairs Differ ys → holds old x.label ≡ false → AllPairs Differ xs
  differ_more h e = subst (AllPairs Differ) (sym cut) (AllPairs-cons Differ x ys (strangers x ys (sym (held x.label) ∙ e)) h)

found_at : (ls : List LabelAt) (l : Lab) → is_among l ls ≡ true → (at : ℕ) × Contains ls (record { label = l; at = at })
found_at [] l e = absurd (false_true e)
  where
    false_true : false ≡ true → ⊥
    false_true e = cc
found_at (x ∷ xs) l e = cases (same_label x.label l) refl (found_at xs l) e
  where
    cases : (b : Bool) → same_label x.label l ≡ b → (is_among l xs ≡ true → (at : ℕ) × Contains xs (record { label = l; at = at }))
        → (b || is_among l xs) ≡ true → (at : ℕ) × Contains (x ∷ xs) (record { label = l; at = at })
    cases true same further e = (x.at, (0, omega arith, ap (λ (k : Lab). record { label = k; at = x.at }) (same_label-is x.label l same)))
    cases false same further e = let f = further e in let w = f.1.1 in (f.0, (suc f.1.0, omega (arith, w), f.1.2))

pub stands : (ls : List LabelAt) (t : Standing) (v : Bound) → HoldsLabels ls t → IsHeld t v → IsStanding ls v
stands ls t (Label l) h e = found_at ls l (sym (h l) ∙ e)
stands ls t (Reg c) h e = tt
stands ls t (Num n) h e = tt
stands ls t (Sym s) h e = tt

-- the functions

module _ (xs : List LabelAt) (i : ℕ) (x : LabelAt) (within : i < length xs) (count total : ℕ) (so_far : count + length (labelled (drop i xs)) ≡ total) where
  here : count + length (labelled (get_or xs i x ∷ drop (suc i) xs)) ≡ total
  here = subst (λ (ys : List LabelAt). count + length (labelled ys) ≡ total) (drop_at xs i x within) so_far

  next : suc i ≡ i + 1
  next = omega arith

  pub counts_function : (f : ℕ) → (get_or xs i x).label ≡ Function f → count + 1 + length (labelled (drop (i + 1) xs)) ≡ total
  counts_function f e = subst (λ (n : ℕ). count + 1 + length (labelled (drop n xs)) ≡ total) next (one (get_or xs i x) e here)
    where
      one : (y : LabelAt) → y.label ≡ Function f → count + length (labelled (y ∷ drop (suc i) xs)) ≡ total → count + 1 + length (labelled (drop (suc i) xs)) ≡ total
      one y e h =
          let g = subst (λ (l : Lab). count + length (labelled (record { label = l; at = y.at } ∷ drop (suc i) xs)) ≡ total) e h in
          sums count (length (labelled (drop (suc i) xs))) total g
        where
          sums : (c n t : ℕ) → c + suc n ≡ t → c + 1 + n ≡ t
          sums c n t e = omega (arith, e)

  pub counts_other : ((f : ℕ) → (get_or xs i x).label ≡ Function f → ⊥) → count + length (labelled (drop (i + 1) xs)) ≡ total
  counts_other no_function = subst (λ (n : ℕ). count + length (labelled (drop n xs)) ≡ total) next (one (get_or xs i x).label (get_or xs i x).at no_function here)
    where
      one : (l : Lab) (at : ℕ) → ((f : ℕ) → l ≡ Function f → ⊥) → count + length (labelled (record { label = l; at = at } ∷ drop (suc i) xs)) ≡ total
          → count + length (labelled (drop (suc i) xs)) ≡ total
      one (Block b) at n h = h
      one (Function f) at n h = absurd (n f refl)

-- addresses

pub is_address_at : (d : RawDescription) (bytes : List ℕ) (a offset : ℕ) → (d.base ≤ a) × (offset ≡ a - d.base) → offset % (d.word / 8) ≡ 0 → offset ≤ length bytes
    → IsAddressIn d bytes a
is_address_at d bytes a offset h e l p same = record {
  count = offset / (d.word / 8);
  multiple = together a d.base offset (offset / (d.word / 8) * (d.word / 8)) (offset % (d.word / 8)) h.0 h.1 e (mod-add-div' offset (d.word / 8));
  within = below a d.base offset (length bytes) (length p.bytes) h.0 h.1 l (ap length same);
}
  where
    together : (a b o q z : ℕ) → b ≤ a → o ≡ a - b → z ≡ 0 → z + q ≡ o → a ≡ b + q
    together a b o q z l e f g = omega (arith, l, e, f, g)

    below : (a b o n m : ℕ) → b ≤ a → o ≡ a - b → o ≤ n → m ≡ n → a ≤ b + m
    below a b o n m l e f g = omega (arith, l, e, f, g)
