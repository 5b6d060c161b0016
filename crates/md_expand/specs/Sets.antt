-- Fillings are a set, so an equation between lists of them has one proof at most, and can be a ghost field.
use Rattle.std.specs.Prelude.{◌≡◌, ◌⊎◌, ℕ, ℤ, List}
use Rattle.std.proofs.Common.{refl, inl, inr, ap}
use Rattle.std.specs.Coded.{Coded, Coded-set, code_by, coded_ℕ, coded_ℤ, coded_list, coded⊎}
use mathlib.Core.HLevel.{Π_set}
use mathlib.Core.List.{is_set}
use Rattle.asm_token.specs.Tokens.{Token, Name, Number, Mark}
use Rattle.rtl_tree.specs.Codes.{tree_code}
use Rattle.md_rows.specs.contracts.row.Hole as hole
use Rattle.md_rows.specs.declared.row.Hole.{Hole}
use Rattle.md_text.specs.Expansion.{Shown, Fixed, Vacant, Filling}

abbrev stored : Shown → List ℕ ⊎ (ℤ ⊎ (ℕ ⊎ Hole))
stored (Fixed (Name bytes)) = inl bytes
stored (Fixed (Number z)) = inr (inl z)
stored (Fixed (Mark b)) = inr (inr (inl b))
stored (Vacant h) = inr (inr (inr h))

abbrev shown : List ℕ ⊎ (ℤ ⊎ (ℕ ⊎ Hole)) → Shown
shown (inl bytes) = Fixed (Name bytes)
shown (inr (inl z)) = Fixed (Number z)
shown (inr (inr (inl b))) = Fixed (Mark b)
shown (inr (inr (inr h))) = Vacant h

shown-stored : (s : Shown) → shown (stored s) ≡ s
shown-stored (Fixed (Name bytes)) = refl
shown-stored (Fixed (Number z)) = refl
shown-stored (Fixed (Mark b)) = refl
shown-stored (Vacant h) = refl

shown_code : Coded Shown
shown_code = code_by (List ℕ ⊎ (ℤ ⊎ (ℕ ⊎ Hole))) (coded⊎ (coded_list coded_ℕ) (coded⊎ coded_ℤ (coded⊎ coded_ℕ hole.the_row.coded))) stored shown shown-stored

filling_set : IsSet Filling
filling_set f g p q = λ i j. record {
  text = Coded-set (coded_list shown_code) f.text g.text (ap (λ (h : Filling). h.text) p) (ap (λ (h : Filling). h.text) q) i j;
  tree = Π_set (λ _. Coded-set tree_code) f.tree g.tree (ap (λ (h : Filling). h.tree) p) (ap (λ (h : Filling). h.tree) q) i j;
}

pub fillings_set : IsSet (List Filling)
fillings_set = is_set filling_set
