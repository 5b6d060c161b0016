-- The labels of naive code.
use Rattle.std.specs.Prelude.{ℕ, ◌+◌, ◌≤◌, ◌<◌, List, [], ◌∷◌, ◌++◌, All}
use Rattle.c_tree.specs.declared.typed.Function.{Function}
use Rattle.c_tree.specs.declared.typed.Typed.{Typed}
use Rattle.naive_code.specs.Functions.{function_ops, function_labels}
use Rattle.naive_builder.specs.Appending.{opened}
use Rattle.naive_builder.specs.Finished.{AreOnce}

-- no two blocks of a function have one label, its first block's included
abbrev pub LabelsAreOnce : Type 0
LabelsAreOnce =
    (kept : List ℕ) (w pushed : ℕ) (t : Typed) (f : Function) (label : ℕ) → AreOnce (label ∷ opened (function_ops kept w pushed t f label))

abbrev pub IsAmong : (first count : ℕ) → ℕ → Type 0
IsAmong first count l = (first ≤ l) × (l < first + count)

-- its blocks have labels from the first block's on, as many as the function takes, so that no two functions with labels apart have one in common
abbrev pub LabelsAreOwn : Type 0
LabelsAreOwn =
    (kept : List ℕ) (w pushed : ℕ) (t : Typed) (f : Function) (label : ℕ)
    → All (IsAmong label (function_labels kept w t f)) (label ∷ opened (function_ops kept w pushed t f label))

-- the labels of functions, of which each has those behind the ones of the function before it
abbrev pub labels_from : (kept : List ℕ) → (w pushed : ℕ) → Typed → List Function → (label : ℕ) → List ℕ
labels_from kept w pushed t [] l = []
labels_from kept w pushed t (f ∷ fs) l = (l ∷ opened (function_ops kept w pushed t f l)) ++ labels_from kept w pushed t fs (l + function_labels kept w t f)

-- no two blocks of all of them have one label
abbrev pub AllLabelsAreOnce : Type 0
AllLabelsAreOnce = (kept : List ℕ) (w pushed : ℕ) (t : Typed) (fs : List Function) (label : ℕ) → AreOnce (labels_from kept w pushed t fs label)
