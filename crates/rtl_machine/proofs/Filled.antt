-- A row with numbers in place of names in its holes makes the linked transfer.
use Rattle.std.proofs.Common.{◌≡◌, ℕ, zero, suc, ◌<◌, ◌^◌, List, [], ◌∷◌, map, slice_get, slice_index, Option, Some, None, All, refl, sym, ap, ◌∙◌}
use Rattle.std.specs.Prelude.{option_map}
use Rattle.std.proofs.lemmas.List.Elements.{All-nil, All-head, All-tail, All-cons}
use Rattle.rtl_tree.specs.declared.cells.Cell.{Cell}
use Rattle.rtl_tree.specs.declared.cells.Cell.TheVariants.{Hard, Temp, Flag, Pc, Input, Output, Halt, Hole as HoleCell}
use Rattle.rtl_tree.specs.declared.expressions.BinOp.TheVariants.{Pair}
use Rattle.rtl_tree.specs.Trees.{Tree, Number, Symbol, CodeLabel, Read, Load, Unary, Binary, NoPair, AnyNumber, AnyName}
use Rattle.rtl_tree.specs.Moves.{Goal, ToCell, ToMemory, Move}
use Rattle.rtl_value.proofs.Places.{label_below}
use Rattle.md_rows.specs.declared.row.Row.{Row}
use Rattle.md_rows.specs.declared.row.Hole.{Hole}
use Rattle.md_rows.specs.declared.instance.Bound.{Bound}
use Rattle.md_rows.specs.declared.instance.Bound.TheVariants.{Reg, Num, Sym, Label}
use Rattle.md_rows.specs.declared.instance.Instance.{Instance}
use Rattle.md_rows.specs.Instances.{leaf_of, held_by, filled, register_by, filled_cell, filled_move}
use Rattle.md_covers.specs.Covers.{IsRowTree, IsRowMove}
use Rattle.machine_run.specs.Machine.{Code}
use Rattle.machine_turn.specs.Held.{IsTree, IsForFlag, IsSideOf, IsMadeMove}
use Rattle.machine_effect.specs.Law.{IsMade}
use Rattle.machine_step.specs.Runs.{linked, linked_goal, linked_move, linked_moves}
use Rattle.machine_step.proofs.Linking.{input_linked}
use Rattle.rtl_machine.specs.Loading.{moves_by, link_in}

get_map : {A B : Type 0} (f : A → B) (xs : List A) (k : ℕ) → slice_get (map f xs) k ≡ option_map f (slice_get xs k)
get_map f [] k = refl
get_map f (x ∷ xs) zero = refl
get_map f (x ∷ xs) (suc k) = get_map f xs k

module _ (p : Code) where
  abbrev link : Bound → Bound
  link = link_in p.symbols p.labels

  leaf_linked : (v : Bound) → linked p (leaf_of v) ≡ leaf_of (link v)
  leaf_linked (Reg c) = refl
  leaf_linked (Num n) = refl
  leaf_linked (Sym n) = refl
  leaf_linked (Label l) = refl

  held_linked : (hole : Tree) (o : Option Bound) → linked p hole ≡ hole → linked p (held_by hole o) ≡ held_by hole (option_map link o)
  held_linked hole (Some v) e = leaf_linked v
  held_linked hole None e = e

  register_linked : (hole : Cell) (o : Option Bound) → register_by hole o ≡ register_by hole (option_map link o)
  register_linked hole (Some (Reg c)) = refl
  register_linked hole (Some (Num n)) = refl
  register_linked hole (Some (Sym n)) = refl
  register_linked hole (Some (Label l)) = refl
  register_linked hole None = refl

  module _ (holes : List Hole) (b : List Bound) where
    hole_linked : (hole : Tree) (h : ℕ) → linked p hole ≡ hole → linked p (held_by hole (slice_get b h)) ≡ held_by hole (slice_get (map link b) h)
    hole_linked hole h e = held_linked hole (slice_get b h) e ∙ ap (held_by hole) (sym (get_map link b h))

    tree_linked : (t : Tree) → IsRowTree holes t → linked p (filled b t) ≡ filled (map link b) t
    tree_linked (Number n) i = refl
    tree_linked (Symbol n) i = absurd i
    tree_linked (CodeLabel l) i = absurd i
    tree_linked (Read (HoleCell h)) i = hole_linked (Read (HoleCell h)) h refl
    tree_linked (Read (Hard n)) i = refl
    tree_linked (Read (Temp n)) i = refl
    tree_linked (Read (Flag n)) i = refl
    tree_linked (Read Pc) i = refl
    tree_linked (Read Input) i = refl
    tree_linked (Read Output) i = refl
    tree_linked (Read Halt) i = refl
    tree_linked (Load d a) i = ap (Load d) (tree_linked a i)
    tree_linked (Unary o a) i = ap (Unary o) (tree_linked a i)
    tree_linked (Binary o a c) i = ap (λ t. Binary o t (linked p (filled b c))) (tree_linked a i.0) ∙ ap (Binary o (filled (map link b) a)) (tree_linked c i.1)
    tree_linked NoPair i = refl
    tree_linked (AnyNumber h) i = hole_linked (AnyNumber h) h refl
    tree_linked (AnyName h) i = hole_linked (AnyName h) h refl

    cell_linked : (c : Cell) → filled_cell b c ≡ filled_cell (map link b) c
    cell_linked (HoleCell h) = register_linked (HoleCell h) (slice_get b h) ∙ ap (register_by (HoleCell h)) (sym (get_map link b h))
    cell_linked (Hard n) = refl
    cell_linked (Temp n) = refl
    cell_linked (Flag n) = refl
    cell_linked Pc = refl
    cell_linked Input = refl
    cell_linked Output = refl
    cell_linked Halt = refl

    move_linked : (g : Goal) (t : Tree) → IsRowMove holes (record { to = g; value = t })
        → linked_move p (filled_move b (record { to = g; value = t })) ≡ filled_move (map link b) (record { to = g; value = t })
    move_linked (ToCell c) t i = λ k. record { to = ToCell (cell_linked c k); value = tree_linked t i.value k }
    move_linked (ToMemory d a) t i = λ k. record { to = ToMemory d (tree_linked a i.place k); value = tree_linked t i.value k }

    moves_linked : (ms : List Move) → All (IsRowMove holes) ms → linked_moves p (map (filled_move b) ms) ≡ map (filled_move (map link b)) ms
    moves_linked [] a = refl
    moves_linked (m ∷ ms) a =
        ap (λ x. x ∷ linked_moves p (map (filled_move b) ms)) (move_linked m.to m.value (All-head (IsRowMove holes) m ms a))
        ∙ ap (λ xs. filled_move (map link b) m ∷ xs) (moves_linked ms (All-tail (IsRowMove holes) m ms a))

  line_linked : (o : Option Row) (b : List Bound) → ((row : Row) → o ≡ Some row → All (IsRowMove row.holes) row.effects)
      → linked_moves p (moves_by o b) ≡ moves_by o (map link b)
  line_linked None b h = refl
  line_linked (Some row) b h = moves_linked row.holes b row.effects (h row refl)

  pub lines_linked : (rows : List Row) (lines : List Instance) → ((k : ℕ) (row : Row) → slice_get rows k ≡ Some row → All (IsRowMove row.holes) row.effects)
      → map (λ i. moves_by (slice_get rows i.row) (map link i.binding)) lines ≡ map (linked_moves p) (map (λ i. moves_by (slice_get rows i.row) i.binding) lines)
  lines_linked rows [] h = refl
  lines_linked rows (i ∷ is) h =
      ap (λ x. x ∷ map (λ j. moves_by (slice_get rows j.row) (map link j.binding)) is) (sym (line_linked (slice_get rows i.row) i.binding (h i.row)))
      ∙ ap (λ xs. linked_moves p (moves_by (slice_get rows i.row) i.binding) ∷ xs) (lines_linked rows is h)

index_below : (k : ℕ) (xs : List ℕ) (n : ℕ) → 0 < k → All (λ a. a < k) xs → slice_index xs n < k
index_below k [] n l a = l
index_below k (x ∷ xs) zero l a = All-head (λ a. a < k) x xs a
index_below k (x ∷ xs) (suc n) l a = index_below k xs n l (All-tail (λ a. a < k) x xs a)

module _ (w : ℕ) (p : Code) (some : 0 < 2 ^ w) (symbols : All (λ a. a < 2 ^ w) p.symbols) (labels : All (λ e. e.at < 2 ^ w) p.labels) where
  plain_linked : (named : Type 0) (t : Tree) → IsTree named w t → IsTree ⊥ w (linked p t)
  plain_linked named (Number n) i = i
  plain_linked named (Symbol n) i = index_below (2 ^ w) p.symbols n some symbols
  plain_linked named (CodeLabel l) i = label_below w p.labels l labels
  plain_linked named (Read c) i = i
  plain_linked named (Load d a) i = plain_linked named a i
  plain_linked named (Unary o a) i = plain_linked named a i
  plain_linked named (Binary o a b) i = (plain_linked named a i.0, plain_linked named b i.1)
  plain_linked named NoPair i = tt
  plain_linked named (AnyNumber n) i = tt
  plain_linked named (AnyName n) i = tt

  flag_linked : (named : Type 0) (t : Tree) → IsForFlag named w t → IsForFlag ⊥ w (linked p t)
  flag_linked named (Binary Pair a b) i = (plain_linked named a i.0, plain_linked named b i.1)
  flag_linked named (Binary _ a b) i = absurd i
  flag_linked named NoPair i = tt
  flag_linked named _ i = absurd i

  side_linked : (named : Type 0) (g : Goal) (t : Tree) → IsSideOf named w g t → IsSideOf ⊥ w (linked_goal p g) (linked p t)
  side_linked named (ToCell (Hard n)) t i = (i.0, (λ e. plain_linked named t (i.1 (sym (input_linked p t) ∙ e))))
  side_linked named (ToCell (Flag n)) t i = (i.0, flag_linked named t i.1)
  side_linked named (ToCell Pc) t i = plain_linked named t i
  side_linked named (ToCell Output) t i = plain_linked named t i
  side_linked named (ToCell Halt) t i = plain_linked named t i
  side_linked named (ToCell (Temp n)) t i = absurd i
  side_linked named (ToCell Input) t i = absurd i
  side_linked named (ToCell (HoleCell n)) t i = absurd i
  side_linked named (ToMemory d a) t i = (plain_linked named a i.0, plain_linked named t i.1)

  moves_made : (ms : List Move) → IsMade w ms → All (IsMadeMove w) (linked_moves p ms)
  moves_made [] a = All-nil (IsMadeMove w)
  moves_made (m ∷ ms) a =
      All-cons (IsMadeMove w) (linked_move p m) (linked_moves p ms)
      (side_linked (Unit {0}) m.to m.value (All-head (λ q. IsSideOf (Unit {0}) w q.to q.value) m ms a))
      (moves_made ms (All-tail (λ q. IsSideOf (Unit {0}) w q.to q.value) m ms a))

  pub code_made : (ts : List (List Move)) → All (IsMade w) ts → All (λ ms. All (IsMadeMove w) ms) (map (linked_moves p) ts)
  code_made [] a = All-nil (λ q. All (IsMadeMove w) q)
  code_made (ms ∷ ts) a =
      All-cons (λ q. All (IsMadeMove w) q) (linked_moves p ms) (map (linked_moves p) ts) (moves_made ms (All-head (IsMade w) ms ts a))
      (code_made ts (All-tail (IsMade w) ms ts a))
