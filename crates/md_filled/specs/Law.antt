-- The law of filled normal forms.
use Rattle.std.specs.Prelude.{◌≡◌, ℕ, List}
use Rattle.rtl_word.specs.Words.{IsWordSize}
use Rattle.rtl_tree.specs.Trees.{Tree}
use Rattle.rtl_tree.specs.Sorts.{IsFitting, IsWordTree}
use Rattle.rtl_effect.specs.Views.{View, seen}
use Rattle.rtl_norm.specs.Normal.{norm}
use Rattle.rtl_norm_value.specs.Kept.{IsWordView}
use Rattle.md_rows.specs.declared.instance.Bound.{Bound}
use Rattle.md_rows.specs.Instances.{filled}
use Rattle.md_filled.specs.Held.{IsHeld}
use Rattle.md_filled.specs.Plain.{IsPlain}

-- whatever is unset, the normal form of a tree, its holes filled, is seen as the tree filled is
abbrev pub FilledFormIsSeen : Type 0
FilledFormIsSeen =
    (w : ℕ) (b : List Bound) (t : Tree) (v : View) → IsWordSize w → IsWordView w v → IsHeld w b t → IsFitting w t → IsWordTree (filled b t)
    → seen w (filled b (norm w t)) v ≡ seen w (filled b t) v

-- where no hole for a number stands in the normal form of a tree, the filled tree has the normal form filled
abbrev pub FormIsFilled : Type 0
FormIsFilled = (w : ℕ) (b : List Bound) (t : Tree) → IsHeld w b t → IsPlain (norm w t) → norm w (filled b t) ≡ filled b (norm w t)
