-- What the normal form keeps.
use Rattle.std.specs.Prelude.{EachIndex, slice_index, ◌≡◌, ℕ, ◌<◌, ◌^◌, Some}
use Rattle.rtl_word.specs.Words.{IsWordSize}
use Rattle.rtl_tree.specs.declared.cells.Cell.{Cell}
use Rattle.rtl_tree.specs.declared.cells.Lab.{Lab}
use Rattle.rtl_tree.specs.Trees.{Tree}
use Rattle.rtl_tree.specs.Sorts.{IsFitting, IsWordTree}
use Rattle.rtl_value.specs.declared.state.State.{State}
use Rattle.rtl_value.specs.Values.{IsSound, value_of}
use Rattle.rtl_effect.specs.Views.{View, seen}
use Rattle.rtl_norm.specs.Normal.{norm}

-- what is set in a view is a word, in memory a byte
pub record IsWordView (w : ℕ) (v : View) : Type 0 where
  pub cells : (c : Cell) (n : ℕ) → v.cells c ≡ Some n → n < 2 ^ w
  pub bytes : (a n : ℕ) → v.bytes a ≡ Some n → n < 256
  pub symbols : (n : ℕ) → v.symbols n < 2 ^ w
  pub labels : (l : Lab) (n : ℕ) → v.labels l ≡ Some n → n < 2 ^ w

-- in every view, whatever is unset there, the normal form of a tree of words is seen as the tree is
abbrev pub SeenIsKept : Type 0
SeenIsKept =
    (w : ℕ) (t : Tree) (v : View) → IsWordSize w → IsWordView w v → IsFitting w t → IsWordTree t
    → seen w (norm w t) v ≡ seen w t v

-- the bytes of a state are bytes, as its types say
pub record AreBytes (s : State) : Type 0 where
  pub memory : EachIndex s.memory (λ k. slice_index s.memory k < 256)
  pub input : (b : ℕ) → s.input ≡ Some b → b < 256

-- in every state the normal form has the value of the tree, or its first trap
abbrev pub ValueIsKept : Type 0
ValueIsKept =
    (w : ℕ) (t : Tree) (s : State) → IsWordSize w → IsSound w s → AreBytes s → IsFitting w t → IsWordTree t
    → value_of w (norm w t) s ≡ value_of w t s
