-- The normal form has the value of the tree, since it is seen as the tree is where all is set.
use Rattle.std.proofs.Common.{arith, ◌≡◌, ℕ, ◌<◌, ◌^◌, inl, inr, List, length, Option, Some, None, Result, Ok, Err, refl, sym, ap, subst, ◌∙◌}
use Rattle.std.specs.Prelude.{EachIndex, slice_index}
use Rattle.std.proofs.lemmas.Bool.{cases_lt}
use Rattle.std.proofs.lemmas.List.{get_or_past}
use Rattle.std.proofs.lemmas.Nat.{pow_pos}
use Rattle.rtl_value.proofs.Places.{label_below}
use Rattle.rtl_word.specs.Words.{IsWordSize}
use Rattle.rtl_word.proofs.Below.{by_size}
use Rattle.rtl_tree.specs.declared.cells.Cell.{Cell}
use Rattle.rtl_tree.specs.declared.cells.Cell.TheVariants.{Hard, Temp, Pc, Input}
use Rattle.rtl_value.specs.declared.state.State.{State}
use Rattle.rtl_value.specs.declared.state.Trap.{Trap}
use Rattle.rtl_value.specs.Values.{IsSound, input_word, cell_of, label_of, value_of}
use Rattle.rtl_effect.specs.Views.{lifted, view_of}
use Rattle.rtl_effect.proofs.SeenValues.{seen_value}
use Rattle.rtl_norm.specs.Normal.{norm}
use Rattle.rtl_norm_value.specs.Kept.{IsWordView, AreBytes, ValueIsKept}
use Rattle.rtl_norm_value.proofs.Seen.{seen_is_kept}

element_below : (m : ℕ) (xs : List ℕ) (k : ℕ) → 0 < m → EachIndex xs (λ i. slice_index xs i < m) → slice_index xs k < m
element_below m xs k p h =
    elim (cases_lt k (length xs)) [ inl l ↦ h k l | inr g ↦ (let P : ℕ → Type 0 = λ x. x < m in subst P (sym (get_or_past xs k 0 g)) p) ]

input_below : (w : ℕ) (o : Option ℕ) → IsWordSize w → ((b : ℕ) → o ≡ Some b → b < 256) → input_word w o < 2 ^ w
input_below w (Some b) z h =
    let k = h b refl in by_size (λ n. b < 2 ^ n) (omega arith) (omega arith) w z
input_below w None z h = let k = pow_pos w in omega arith

cell_fits : (w : ℕ) (s : State) (c : Cell) → IsWordSize w → IsSound w s → AreBytes s → cell_of w s c < 2 ^ w
cell_fits w s (Hard n) z k b = element_below (2 ^ w) s.registers n (pow_pos w) k.registers
cell_fits w s (Temp n) z k b = element_below (2 ^ w) s.temps n (pow_pos w) k.temps
cell_fits w s Pc z k b = k.next_place
cell_fits w s Input z k b = input_below w s.input z b.input
cell_fits w s _ z k b = pow_pos w

set_is : (m x n : ℕ) → x < m → Some x ≡ Some n → n < m
set_is m x n h e = let d : x ≡ n = cc in subst (λ (k : ℕ). k < m) d h

pub view_fits : (w : ℕ) (s : State) → IsWordSize w → IsSound w s → AreBytes s → IsWordView w (view_of w s)
view_fits w s z k b = record {
  cells = λ c n e. set_is (2 ^ w) (cell_of w s c) n (cell_fits w s c z k b) e;
  bytes = λ a n e. set_is 256 (slice_index s.memory a) n (element_below 256 s.memory a (omega arith) b.memory) e;
  symbols = λ n. element_below (2 ^ w) s.symbols n (pow_pos w) k.symbols;
  labels = λ l n e. set_is (2 ^ w) (label_of s l) n (label_below w s.labels l k.labels) e;
}

lifted_is : (a b : Result ℕ Trap) → lifted a ≡ lifted b → a ≡ b
lifted_is (Ok x) (Ok y) e = let d : x ≡ y = cc in ap Ok d
lifted_is (Ok x) (Err t) e = cc
lifted_is (Err t) (Ok y) e = cc
lifted_is (Err t) (Err u) e = let d : t ≡ u = cc in ap Err d

pub value_is_kept : ValueIsKept
value_is_kept w t s z k b f h =
    lifted_is (value_of w (norm w t) s) (value_of w t s)
    (sym (seen_value w (norm w t) s) ∙ (seen_is_kept w t (view_of w s) z (view_fits w s z k b) f h ∙ seen_value w t s))
