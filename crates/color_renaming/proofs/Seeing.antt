-- What trees with registers see: what the trees with temporaries see in the view that has each register's word in its temporary.
use Rattle.std.proofs.Common.{◌≡◌, ℕ, ◌%◌, true, cond, List, [], ◌∷◌, Option, Some, None, Ok, refl, ap}
use Rattle.rtl_word.specs.declared.Rel.{Rel}
use Rattle.rtl_tree.specs.Trees.{Tree, Number, Symbol, CodeLabel, Read, Load, Unary, Binary, NoPair, AnyNumber, AnyName}
use Rattle.rtl_tree.specs.declared.cells.Cell.{Cell}
use Rattle.rtl_tree.specs.declared.cells.Cell.TheVariants.{Hard, Temp, Flag, Pc, Input, Output, Halt, Hole}
use Rattle.rtl_tree.specs.declared.expressions.UnOp.TheVariants.{Neg, Not, Sxb, Test}
use Rattle.rtl_tree.specs.declared.expressions.BinOp.TheVariants.{Cmp, Pair, When}
use Rattle.rtl_tree.specs.Moves.{Goal, ToCell, ToMemory, Move}
use Rattle.rtl_effect.specs.Views.{View, bind, width_of, touched, unary_on, binary_on, load_on, seen, test_seen}
use Rattle.rtl_effect.specs.Effects.{Storing, storing_by, storing, is_input, takes, mark_of_two, marked, place_at, target, chosen, aimed, jump, valued, needed, done, tested_cell, tested_by, tested, patch_of, event, went, plain, plain_mark, cell_after, mark_after}
use Rattle.color_renaming.specs.Renaming.{cell_with, tree_with, goal_with, with_registers, cells_back, with_temporaries}

module _ (r : ℕ → ℕ) where
  abbrev pub maybe_with : Option Tree → Option Tree
  maybe_with None = None
  maybe_with (Some a) = Some (tree_with r a)

  abbrev pub storing_with : Option Storing → Option Storing
  storing_with None = None
  storing_with (Some s) = Some (record { width = s.width; place = tree_with r s.place; value = tree_with r s.value })

  pub storing_renamed : (ms : List Move) → storing (with_registers r ms) ≡ storing_with (storing ms)
  storing_renamed [] = refl
  storing_renamed (m ∷ ms) = by_goal m.to m.value _ _ (storing_renamed ms)
    where
      by_goal : (g : Goal) (a : Tree) (o o' : Option Storing) → o' ≡ storing_with o → storing_by (goal_with r g) (tree_with r a) o' ≡ storing_with (storing_by g a o)
      by_goal (ToCell c) a o o' e = e
      by_goal (ToMemory d b) a o o' e = refl

  input_cell : (c : Cell) → is_input (Read (cell_with r c)) ≡ is_input (Read c)
  input_cell (Temp k) = refl
  input_cell c = refl

  input_tree : (a : Tree) → is_input (tree_with r a) ≡ is_input a
  input_tree (Read c) = input_cell c
  input_tree a = refl

  pub takes_renamed : (ms : List Move) → takes (with_registers r ms) ≡ takes ms
  takes_renamed [] = refl
  takes_renamed (m ∷ ms) = λ i. cond (input_tree m.value i) true (takes_renamed ms i)

  module _ (z : View) where
    abbrev back : View
    back = with_temporaries r z

    cell_back : (c : Cell) → z.cells (cell_with r c) ≡ cells_back r z c
    cell_back (Temp k) = refl
    cell_back c = refl

    mutual
      pub seen_back : (w : ℕ) (a : Tree) → seen w (tree_with r a) z ≡ seen w a back
      seen_back w (Number n) = refl
      seen_back w (Symbol n) = refl
      seen_back w (CodeLabel l) = refl
      seen_back w (Read c) = ap Ok (cell_back c)
      seen_back w (Load d a) = ap (load_on (width_of w d) z) (seen_back w a)
      seen_back w (Unary Neg a) = ap (unary_on w Neg) (seen_back w a)
      seen_back w (Unary Not a) = ap (unary_on w Not) (seen_back w a)
      seen_back w (Unary Sxb a) = ap (unary_on w Sxb) (seen_back w a)
      seen_back w (Unary (Test q) a) = test_back w q a
      seen_back w (Binary o a b) = λ i. binary_on w o (seen_back w a i) (seen_back w b i)
      seen_back w NoPair = refl
      seen_back w (AnyNumber n) = refl
      seen_back w (AnyName n) = refl

      test_back : (w : ℕ) (q : Rel) (a : Tree) → test_seen w q (tree_with r a) z ≡ test_seen w q a back
      test_back w q (Read (Flag n)) = refl
      test_back w q (Read c) = refl
      test_back w q (Binary Pair a b) = λ i. binary_on w (Cmp q) (seen_back w a i) (seen_back w b i)
      test_back w q (Binary o a b) = refl
      test_back w q (Number n) = refl
      test_back w q (Symbol n) = refl
      test_back w q (CodeLabel l) = refl
      test_back w q (Load d a) = refl
      test_back w q (Unary o a) = refl
      test_back w q NoPair = refl
      test_back w q (AnyNumber n) = refl
      test_back w q (AnyName n) = refl

    pub marked_back : (w : ℕ) (a : Tree) → marked w (tree_with r a) z ≡ marked w a back
    marked_back w (Binary Pair a b) = λ i. bind (seen_back w a i) (λ x. bind (seen_back w b i) (λ y. Ok (mark_of_two x y)))
    marked_back w (Read c) = refl
    marked_back w a = refl

    placed : (w : ℕ) (a : Tree) → bind (seen w (tree_with r a) z) (λ x. Ok (place_at z x)) ≡ bind (seen w a back) (λ x. Ok (place_at z x))
    placed w a = ap (λ u. bind u (λ x. Ok (place_at z x))) (seen_back w a)

    target_back : (w : ℕ) (a : Tree) → target w (tree_with r a) z ≡ target w a back
    target_back w (CodeLabel l) = refl
    target_back w (Read c) = placed w (Read c)
    target_back w (Number n) = placed w (Number n)
    target_back w (Symbol n) = placed w (Symbol n)
    target_back w (Load d a) = placed w (Load d a)
    target_back w (Unary o a) = placed w (Unary o a)
    target_back w (Binary o a b) = placed w (Binary o a b)
    target_back w NoPair = placed w NoPair
    target_back w (AnyNumber n) = placed w (AnyNumber n)
    target_back w (AnyName n) = placed w (AnyName n)

    plain_jump : (w : ℕ) (a : Tree) → bind (target w (tree_with r a) z) aimed ≡ bind (target w a back) aimed
    plain_jump w a = ap (λ x. bind x aimed) (target_back w a)

    pub jump_back : (w : ℕ) (a : Tree) → jump w (tree_with r a) z ≡ jump w a back
    jump_back w (Binary When c l) = λ i. bind (seen_back w c i) (λ x. bind (target_back w l i) (chosen z x))
    jump_back w (CodeLabel l) = refl
    jump_back w (Read c) = plain_jump w (Read c)
    jump_back w (Number n) = refl
    jump_back w (Symbol n) = refl
    jump_back w (Load d a) = plain_jump w (Load d a)
    jump_back w (Unary o a) = plain_jump w (Unary o a)
    jump_back w (Binary o a b) = plain_jump w (Binary o a b)
    jump_back w NoPair = refl
    jump_back w (AnyNumber n) = refl
    jump_back w (AnyName n) = refl

    valued_back : (w : ℕ) (a : Tree) → valued w (tree_with r a) z ≡ valued w a back
    valued_back w a = ap (λ x. bind x needed) (seen_back w a)

    cell_tested_back : (w : ℕ) (c : Cell) (a : Tree) → tested_cell w (cell_with r c) (tree_with r a) z ≡ tested_cell w c a back
    cell_tested_back w (Hard n) a = ap done (seen_back w a)
    cell_tested_back w (Temp n) a = ap done (seen_back w a)
    cell_tested_back w (Flag n) a = ap done (marked_back w a)
    cell_tested_back w Pc a = ap done (jump_back w a)
    cell_tested_back w Output a = ap done (valued_back w a)
    cell_tested_back w Halt a = ap done (valued_back w a)
    cell_tested_back w Input a = refl
    cell_tested_back w (Hole n) a = refl

    tested_by_back : (w : ℕ) (g : Goal) (a : Tree) → tested_by w (goal_with r g) (tree_with r a) z ≡ tested_by w g a back
    tested_by_back w (ToCell c) a = cell_tested_back w c a
    tested_by_back w (ToMemory d b) a = λ i. bind (seen_back w a i) (λ x. done (bind (seen_back w b i) (touched (width_of w d) z)))

    pub tested_back : (w : ℕ) (ms : List Move) → tested w (with_registers r ms) z ≡ tested w ms back
    tested_back w [] = refl
    tested_back w (m ∷ ms) = λ i. bind (tested_by_back w m.to m.value i) (λ x. tested_back w ms i)

    pub event_back : (w : ℕ) (o : Option Tree) → event w (maybe_with o) z ≡ event w o back
    event_back w None = refl
    event_back w (Some a) = ap (λ x. bind x (λ n. Ok (Some (n % 256)))) (valued_back w a)

    pub went_back : (w : ℕ) (o : Option Tree) → went w (maybe_with o) z ≡ went w o back
    went_back w None = refl
    went_back w (Some a) = jump_back w a

    pub patch_back : (w : ℕ) (o : Option Storing) → patch_of w (storing_with o) z ≡ patch_of w o back
    patch_back w None = refl
    patch_back w (Some s) = λ i. bind (seen_back w s.value i) (λ x. bind (bind (seen_back w s.place i) (touched (width_of w s.width) z)) (λ a. Ok (Some (record { at = a; count = width_of w s.width; value = x }))))

    pub cell_after_back : (w : ℕ) (o : Option Tree) (x : Option ℕ) → cell_after w (maybe_with o) z x ≡ cell_after w o back x
    cell_after_back w None x = refl
    cell_after_back w (Some a) x = ap plain (seen_back w a)

    pub mark_after_back : (w : ℕ) (o : Option Tree) (n : ℕ) → mark_after w (maybe_with o) z (z.flags n) ≡ mark_after w o back (z.flags n)
    mark_after_back w None n = refl
    mark_after_back w (Some a) n = ap plain_mark (marked_back w a)
