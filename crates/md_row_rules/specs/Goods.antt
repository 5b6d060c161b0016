-- Tests of transfers whose places know the numbers of their register holes.
use Rattle.std.specs.Prelude.{◌≡◌, ◌<◌, ◌≤◌, ℕ, Bool, true, false, not, ◌&&◌, ◌==◌, List, length, count_by, All, AllPairs, Option, Some, None}
use Rattle.std.specs.List.{list_any}
use Rattle.std.specs.Global.{Vec}
use Rattle.rtl_tree.specs.WellFormed.{is_construct, is_store, same_goal_cell, IsPlaced}
use Rattle.rtl_tree.specs.declared.constructs.Construct.TheVariants.{Taken}
use Rattle.md_text.specs.Rules.{is_temporary, cells_of_move}
use Rattle.md_expand.specs.declared.moves.Filled.{Filled}

-- whether two places are one cell, by their numbers where both are register holes
abbrev pub same_place : Option ℕ → Option ℕ → Bool → Bool
same_place (Some m) (Some n) same = m == n
same_place _ _ same = same

abbrev pub filled_apart : Filled → Filled → Bool
filled_apart f g =
    not (same_place f.register g.register (same_goal_cell f.assign.to g.assign.to))
    && not (is_construct Taken f.assign.value && is_construct Taken g.assign.value)

abbrev pub uses_temporary : Filled → Bool
uses_temporary f = list_any is_temporary (cells_of_move f.assign)

-- well-formed assignments without a temporary
pub record AreGood (fs : List Filled) : Type 0 where
  pub nonempty : 0 < length fs
  pub short : length fs ≤ 6
  pub placed : All (λ f. IsPlaced f.assign) fs
  pub once : AllPairs (λ f g. filled_apart f g ≡ true) fs
  pub one_store : count_by (λ f. is_store f.assign.to) fs ≤ 1
  pub no_temporary : list_any uses_temporary fs ≡ false

abbrev pub IsGood : Option (Vec Filled) → Type 0
IsGood None = ⊥
IsGood (Some v) = AreGood v.items
