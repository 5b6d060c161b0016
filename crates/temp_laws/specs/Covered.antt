-- What each accepted description covers.
use Rattle.std.specs.Prelude.{◌≡◌, ◌⊎◌, ℕ, ◌<◌, Bool, true, false}
use Rattle.rtl_word.specs.declared.Rel.{Rel}
use Rattle.rtl_tree.specs.declared.expressions.BinOp.{BinOp}
use Rattle.rtl_tree.specs.declared.expressions.BinOp.TheVariants.{Add, Sub, And, Or}
use Rattle.md_rows.specs.declared.description.RawDescription.{RawDescription}
use Rattle.md_shapes.specs.declared.patterns.Pattern.{Pattern}
use Rattle.md_shapes.specs.declared.patterns.Pattern.TheVariants.{Operate, Clear, Branch, Compare, BranchByFlag, SaveLink, RestoreLink, ExtendByte}
use Rattle.md_check.specs.Accepted.{has_link}
use Rattle.md_check.specs.Checking.{IsChecked}
use Rattle.temp_shapes.specs.declared.rows.ShapeRows.{ShapeRows}
use Rattle.temp_shapes.specs.Rows.{AreShapeRows, IsPatternCovered}

abbrev pub is_plain_operator : BinOp → Bool
is_plain_operator Add = true
is_plain_operator Sub = true
is_plain_operator Or = true
is_plain_operator _ = false

-- the patterns that each accepted description covers; those of the link register where there is one
abbrev pub is_always : Bool → Pattern → Bool
is_always link (Operate o) = is_plain_operator o
is_always link Clear = false
is_always link (Branch r) = false
is_always link (Compare j) = false
is_always link (BranchByFlag r j) = false
is_always link SaveLink = link
is_always link RestoreLink = link
is_always link ExtendByte = false
is_always link _ = true

-- by one flag a comparison and a branch are covered
pub record IsBranchByFlag (d : RawDescription) (r : Rel) : Type 0 where
  pub flag : ℕ
  pub is_flag : flag < 8
  pub compares : IsPatternCovered d (Compare flag)
  pub jumps : IsPatternCovered d (BranchByFlag r flag)

-- these, one of the two ways to have bits in common, and for each relation a branch or a comparison with a branch by its flag
pub record AreShapesCovered (d : RawDescription) : Type 0 where
  pub always : (p : Pattern) → is_always (has_link d) p ≡ true → IsPatternCovered d p
  pub clearing : IsPatternCovered d (Operate And) ⊎ IsPatternCovered d Clear
  pub branching : (r : Rel) → IsPatternCovered d (Branch r) ⊎ IsBranchByFlag d r

-- what an accepted description covers, a table of its rows being at hand
abbrev pub RequiredAreCovered : Type 0
RequiredAreCovered = (w : ℕ) (d : RawDescription) (t : ShapeRows) → IsChecked w d → AreShapeRows d t → AreShapesCovered d
