-- Holes that a reader may fill.
use Rattle.std.specs.Prelude.{ℕ, if◌then◌else◌, List, [], ◌∷◌, Option, Some, None}
use Rattle.std.specs.Str.{bytes_eq}
use Rattle.std.proofs.Common.{refl}
use Rattle.std.specs.Coded.{Coded, coded_list, coded_ℕ, code_by, coded×}
use Rattle.rtl_tree.specs.Trees.{Tree}
use Rattle.rtl_tree.specs.Codes.{tree_code}

-- a hole's name, and the leaf that it becomes
pub record Open : Type 0 where
  pub name : List ℕ
  pub leaf : Tree

abbrev pub open_code : Coded Open
open_code =
    code_by (List ℕ × Tree) (coded× (coded_list coded_ℕ) tree_code)
    (λ h. (h.name, h.leaf)) (λ p. record { name = p.0; leaf = p.1 }) (λ _. refl)

-- the leaf of the first hole of this name
abbrev pub leaf_named : List Open → List ℕ → Option Tree
leaf_named [] name = None
leaf_named (h ∷ hs) name = if bytes_eq h.name name then Some h.leaf else leaf_named hs name
