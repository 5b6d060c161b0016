-- The value after a substitution is the value before it where the cell is set.
use Rattle.std.proofs.Common.{◌≡◌, ℕ, ◌<◌, Bool, true, false, List, length, slice_index, slice_set, Option, Some, [], ◌∷◌, zero, suc, Result, Ok, arith, refl, sym, ap, ◌∙◌}
use Rattle.std.specs.Prelude.{if◌then◌else◌, slice_get, ◌==◌}
use Rattle.std.proofs.lemmas.Grind.{common_steps}
use Rattle.std.proofs.lemmas.Bool.Decides.{nat_tests}
use Rattle.rtl_tree.specs.Trees.{Tree, Number, Symbol, CodeLabel, Read, Load, Unary, Binary, NoPair, AnyNumber, AnyName}
use Rattle.rtl_tree.specs.declared.cells.Cell.{Cell}
use Rattle.rtl_tree.specs.declared.cells.Cell.TheVariants.{Hard, Temp, Flag, Pc, Input, Output, Halt, Hole}
use Rattle.rtl_word.specs.declared.Rel.{Rel}
use Rattle.rtl_tree.specs.declared.expressions.UnOp.TheVariants.{Neg, Not, Sxb, Test}
use Rattle.rtl_tree.specs.declared.expressions.BinOp.{BinOp}
use Rattle.rtl_tree.specs.declared.expressions.BinOp.TheVariants.{Pair, Cmp}
use Rattle.rtl_tree.specs.Same.{same_cell}
use Rattle.rtl_tree.specs.Sorts.{IsWordTree, IsTestedTree, IsWordCell}
use Rattle.rtl_tree.specs.Substitution.{put_for}
use Rattle.rtl_value.specs.declared.state.Trap.{Trap}
use Rattle.rtl_value.specs.declared.state.FlagPair.{FlagPair}
use Rattle.rtl_value.specs.declared.state.State.{State}
use Rattle.rtl_value.specs.Values.{value_of, test_of, cell_of, label_of, load_of, flag_test, and_then, unary_value, binary_value}
use Rattle.rtl_value.specs.SubstitutionLaws.{set_cell, set_flag, IsVariable}

-- r is s, but for the cell c, which holds there what the tree is in s
pub record Sets (w : ℕ) (s r : State) (c : Cell) (by : Tree) : Type 0 where
  pub memory : r.memory ≡ s.memory
  pub symbols : r.symbols ≡ s.symbols
  pub labels : r.labels ≡ s.labels
  pub cells : (d : Cell) → IsWordCell d → value_of w (if same_cell d c then by else Read d) s ≡ Ok (cell_of w r d)
  pub flags : (q : Rel) (n : ℕ) → test_of w q (if same_cell (Flag n) c then by else Read (Flag n)) s ≡ flag_test w q (slice_get r.flags n)

both_are : (w : ℕ) (o : BinOp) (a b c d : Result ℕ Trap) → a ≡ c → b ≡ d → binary_value w o a b ≡ binary_value w o c d
both_are w o a b c d e h = ap (λ r. binary_value w o r b) e ∙ ap (λ r. binary_value w o c r) h

mutual
  pub put-value : (w : ℕ) (c : Cell) (by t : Tree) (s r : State) → Sets w s r c by → IsWordTree t → value_of w (put_for c by t) s ≡ value_of w t r
  put-value w c by (Number n) s r k h = refl
  put-value w c by (Symbol n) s r k h = ap (λ xs. Ok (slice_index xs n)) (sym k.symbols)
  put-value w c by (CodeLabel l) s r k h = ap (λ ls. Ok (label_of (record s { labels = ls }) l)) (sym k.labels)
  put-value w c by (Read d) s r k h = k.cells d h
  put-value w c by (Load d a) s r k h =
      ap (λ x. and_then x (load_of w d s.memory)) (put-value w c by a s r k h)
      ∙ ap (λ m. and_then (value_of w a r) (load_of w d m)) (sym k.memory)
  put-value w c by (Unary Neg a) s r k h = ap (unary_value w Neg) (put-value w c by a s r k h)
  put-value w c by (Unary Not a) s r k h = ap (unary_value w Not) (put-value w c by a s r k h)
  put-value w c by (Unary Sxb a) s r k h = ap (unary_value w Sxb) (put-value w c by a s r k h)
  put-value w c by (Unary (Test q) a) s r k h = put-test w q c by a s r k h
  put-value w c by (Binary o a b) s r k h =
      both_are w o _ _ _ _ (put-value w c by a s r k h.1) (put-value w c by b s r k h.2)
  put-value w c by NoPair s r k h = absurd h
  put-value w c by (AnyNumber n) s r k h = absurd h
  put-value w c by (AnyName n) s r k h = absurd h

  pub put-test : (w : ℕ) (q : Rel) (c : Cell) (by t : Tree) (s r : State) → Sets w s r c by → IsTestedTree t → test_of w q (put_for c by t) s ≡ test_of w q t r
  put-test w q c by (Read (Flag n)) s r k h = k.flags q n
  put-test w q c by (Binary Pair a b) s r k h =
      both_are w (Cmp q) _ _ _ _ (put-value w c by a s r k h.0) (put-value w c by b s r k h.1)
  put-test w q c by _ s r k h = absurd h

-- a list with one element written, read back
index_set : (xs : List ℕ) (n m v : ℕ) → n < length xs → slice_index (slice_set xs n v) m ≡ (if m == n then v else slice_index xs m)
index_set xs n m v h = grind (arith, common_steps, nat_tests)

chosen : (w : ℕ) (b : Bool) (by : Tree) (d : Cell) (s : State) (v : ℕ) → value_of w by s ≡ Ok v → value_of w (if b then by else Read d) s ≡ Ok (if b then v else cell_of w s d)
chosen w true by d s v e = e
chosen w false by d s v e = refl

hard_cells : (w : ℕ) (s : State) (n v : ℕ) → n < length s.registers → (d : Cell) → IsWordCell d → (if same_cell d (Hard n) then v else cell_of w s d) ≡ cell_of w (set_cell s (Hard n) v) d
hard_cells w s n v h (Hard m) k = sym (index_set s.registers n m v h)
hard_cells w s n v h _ k = refl

temp_cells : (w : ℕ) (s : State) (n v : ℕ) → n < length s.temps → (d : Cell) → IsWordCell d → (if same_cell d (Temp n) then v else cell_of w s d) ≡ cell_of w (set_cell s (Temp n) v) d
temp_cells w s n v h (Temp m) k = sym (index_set s.temps n m v h)
temp_cells w s n v h _ k = refl

sets_cell : (w : ℕ) (s : State) (c : Cell) (by : Tree) (v : ℕ) → IsVariable s c → value_of w by s ≡ Ok v → Sets w s (set_cell s c v) c by
sets_cell w s (Hard n) by v h e = record {
  memory = refl;
  symbols = refl;
  labels = refl;
  cells = λ d k. chosen w (same_cell d (Hard n)) by d s v e ∙ ap Ok (hard_cells w s n v h d k);
  flags = λ q m. refl;
}
sets_cell w s (Temp n) by v h e = record {
  memory = refl;
  symbols = refl;
  labels = refl;
  cells = λ d k. chosen w (same_cell d (Temp n)) by d s v e ∙ ap Ok (temp_cells w s n v h d k);
  flags = λ q m. refl;
}
sets_cell w s _ by v h e = absurd h

pub put-sets_cell : (w : ℕ) (c : Cell) (by t : Tree) (s : State) (v : ℕ) → IsVariable s c → value_of w by s ≡ Ok v → IsWordTree t → value_of w (put_for c by t) s ≡ value_of w t (set_cell s c v)
put-sets_cell w c by t s v h e k = put-value w c by t s (set_cell s c v) (sets_cell w s c by v h e) k

next_same : (m n : ℕ) → (m == n) ≡ (suc m == suc n)
next_same m n = grind (arith, nat_tests)

get_set : (xs : List (Option FlagPair)) (n m : ℕ) (p : Option FlagPair) → n < length xs → slice_get (slice_set xs n p) m ≡ (if m == n then Some p else slice_get xs m)
get_set [] n m p h = absurd (omega arith)
get_set (x ∷ xs) zero zero p h = refl
get_set (x ∷ xs) zero (suc m) p h = let other : (suc m == 0) ≡ false = grind (arith, nat_tests) in sym (ap (λ b. if b then Some p else slice_get xs m) other)
get_set (x ∷ xs) (suc n) zero p h = let other : (0 == suc n) ≡ false = grind (arith, nat_tests) in sym (ap (λ b. if b then Some p else Some x) other)
get_set (x ∷ xs) (suc n) (suc m) p h =
    get_set xs n m p (omega arith) ∙ ap (λ b. if b then Some p else slice_get xs m) (next_same m n)

no_flag : (w n : ℕ) (by : Tree) (s : State) (d : Cell) → IsWordCell d → value_of w (if same_cell d (Flag n) then by else Read d) s ≡ Ok (cell_of w s d)
no_flag w n by s (Hard m) k = refl
no_flag w n by s (Temp m) k = refl
no_flag w n by s (Flag m) k = absurd k
no_flag w n by s Pc k = refl
no_flag w n by s Input k = refl
no_flag w n by s Output k = refl
no_flag w n by s Halt k = refl
no_flag w n by s (Hole m) k = refl

chosen_test : (w : ℕ) (q : Rel) (b : Bool) (by : Tree) (m : ℕ) (s : State) (p : FlagPair) → test_of w q by s ≡ flag_test w q (Some (Some p)) → test_of w q (if b then by else Read (Flag m)) s ≡ flag_test w q (if b then Some (Some p) else slice_get s.flags m)
chosen_test w q true by m s p e = e
chosen_test w q false by m s p e = refl

pub put-sets_flag : (w n : ℕ) (a b t : Tree) (s : State) (x y : ℕ) → n < length s.flags → value_of w a s ≡ Ok x → value_of w b s ≡ Ok y → IsWordTree t → value_of w (put_for (Flag n) (Binary Pair a b) t) s ≡ value_of w t (set_flag s n x y)
put-sets_flag w n a b t s x y h e f k =
    let pair : FlagPair = record { left = x; right = y } in
    let tested : (q : Rel) → test_of w q (Binary Pair a b) s ≡ flag_test w q (Some (Some pair)) = λ q. both_are w (Cmp q) _ _ _ _ e f in
    put-value w (Flag n) (Binary Pair a b) t s (set_flag s n x y)
    (record {
      memory = refl;
      symbols = refl;
      labels = refl;
      cells = λ d i. no_flag w n (Binary Pair a b) s d i;
      flags = λ q m. chosen_test w q (m == n) (Binary Pair a b) m s pair (tested q) ∙ ap (flag_test w q) (sym (get_set s.flags n m (Some pair) h));
    })
    k
