-- The place of a label is one of the places that are listed, or 0.
use Rattle.std.proofs.Common.{◌<◌, ◌^◌, ℕ, zero, suc, Bool, true, false, List, [], ◌∷◌, Option, Some, arith}
use Rattle.std.proofs.lemmas.Nat.{pow_pos}
use Rattle.std.specs.Prelude.{All, if◌then◌else◌}
use Rattle.rtl_tree.specs.declared.cells.Lab.{Lab}
use Rattle.rtl_tree.specs.Same.{same_label}
use Rattle.rtl_value.specs.declared.state.LabelAt.{LabelAt}
use Rattle.rtl_value.specs.Values.{place_of_label, number_or_zero}

chosen : (b : Bool) (m at : ℕ) (o : Option ℕ) → at < m → number_or_zero o < m → number_or_zero (if b then Some at else o) < m
chosen true m at o h k = h
chosen false m at o h k = k

pub place_below : (m : ℕ) (es : List LabelAt) (l : Lab) → 0 < m → All (λ e. e.at < m) es → number_or_zero (place_of_label es l) < m
place_below m [] l p h = p
place_below m (e ∷ es) l p h =
    chosen (same_label e.label l) m e.at (place_of_label es l) (h zero e (omega arith)) (place_below m es l p (λ k d within. h (suc k) d (omega arith)))

pub label_below : (w : ℕ) (es : List LabelAt) (l : Lab) → All (λ e. e.at < 2 ^ w) es → number_or_zero (place_of_label es l) < 2 ^ w
label_below w es l h = place_below (2 ^ w) es l (pow_pos w) h
