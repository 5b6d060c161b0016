-- Operations that lead where they may, once their own labels are among those that may be led to.
use Rattle.std.proofs.Common.{ℕ, List, [], ◌∷◌, ◌++◌}
use Rattle.std.specs.List.{AllByRecursion}
use Rattle.c_tree.specs.declared.typed.Typed.{Typed}
use Rattle.naive_code.specs.Operations.{Op, Make, Meet, Scale, Extend, Close}
use Rattle.naive_builder.specs.Appending.{opened}
use Rattle.naive_forms.specs.Operations.{Goes}

module _ (source : Typed) (labels : ℕ → Type 0) (most : ℕ) where
  -- the labels that are opened have the property
  abbrev pub Open : List Op → Type 0
  Open os = AllByRecursion labels (opened os)

  abbrev pub Going : List Op → Type 0
  Going os = AllByRecursion (Goes source labels most) os

  abbrev pub Leads : List Op → Type 0
  Leads os = Open os → Going os

  pub open_left : (xs ys : List Op) → Open (xs ++ ys) → Open xs
  open_left [] ys h = tt
  open_left (Make p o ∷ xs) ys h = open_left xs ys h
  open_left (Meet a b ∷ xs) ys h = open_left xs ys h
  open_left (Scale a b ∷ xs) ys h = open_left xs ys h
  open_left (Extend a b ∷ xs) ys h = open_left xs ys h
  open_left (Close stop l ∷ xs) ys h = (h.0, open_left xs ys h.1)

  pub open_right : (xs ys : List Op) → Open (xs ++ ys) → Open ys
  open_right [] ys h = h
  open_right (Make p o ∷ xs) ys h = open_right xs ys h
  open_right (Meet a b ∷ xs) ys h = open_right xs ys h
  open_right (Scale a b ∷ xs) ys h = open_right xs ys h
  open_right (Extend a b ∷ xs) ys h = open_right xs ys h
  open_right (Close stop l ∷ xs) ys h = open_right xs ys h.1

  pub going_append : (xs ys : List Op) → Going xs → Going ys → Going (xs ++ ys)
  going_append [] ys g h = h
  going_append (x ∷ xs) ys g h = (g.0, going_append xs ys g.1 h)

  pub leads_append : (xs ys : List Op) → Leads xs → Leads ys → Leads (xs ++ ys)
  leads_append xs ys g h o = going_append xs ys (g (open_left xs ys o)) (h (open_right xs ys o))
