-- What stands in a transfer stands in its routine.
use Rattle.std.proofs.Common.{◌≡◌, ℕ, zero, suc, ◌<◌, ◌||◌, Bool, true, false, List, [], ◌∷◌, ◌++◌, slice_get, slice_index_or, length, Some, None, Contains, refl, sym, ap, ◌∙◌, arith}
use Rattle.std.specs.List.{list_any}
use Rattle.rtl_tree.specs.declared.cells.Cell.{Cell}
use Rattle.rtl_tree.specs.Trees.{Tree, Number, Symbol, CodeLabel, Read, Load, Unary, Binary, NoPair, AnyNumber, AnyName}
use Rattle.rtl_tree.specs.Moves.{Goal, ToCell, ToMemory, Move}
use Rattle.temp_machine.specs.Routines.{Exit, Falls, Jumps, Branches, Calls, Returns, BasicBlock, Routine, exit_transfers, block_transfers}
use Rattle.temp_machine.specs.Cells.{some_cell, some_goal_cell, some_read, sets_by, some_set, mentions, uses}
use Rattle.temp_machine.specs.Live.{Place, Item, Transfer, End, item_in, item_of, item_at}
use Rattle.temp_machine.specs.Tidy.{transfer_in}
use Rattle.color_holding.proofs.Members.{false_true, by_bool, same_some, or_left, or_right, or_cases}

none_is_some : {A : Type 0} {B : Type 0} (x : B) → None ≡ Some x → A
none_is_some x e = absurd (let k : None ≡ Some x = e in cc)

-- ---- a weaker property of cells

pub or_more : (a b c d : Bool) → (a ≡ true → c ≡ true) → (b ≡ true → d ≡ true) → (a || b) ≡ true → (c || d) ≡ true
or_more a b c d f g e = or_cases a b e (λ h. or_left c d (f h)) (λ h. or_right c d (g h))

module _ (p q : Cell → Bool) (more : (c : Cell) → p c ≡ true → q c ≡ true) where
  cell_more : (a : Tree) → some_cell p a ≡ true → some_cell q a ≡ true
  cell_more (Read c) e = more c e
  cell_more (Load d a) e = cell_more a e
  cell_more (Unary o a) e = cell_more a e
  cell_more (Binary o a b) e = or_more (some_cell p a) (some_cell p b) (some_cell q a) (some_cell q b) (cell_more a) (cell_more b) e
  cell_more (Number n) e = false_true e
  cell_more (Symbol n) e = false_true e
  cell_more (CodeLabel l) e = false_true e
  cell_more NoPair e = false_true e
  cell_more (AnyNumber n) e = false_true e
  cell_more (AnyName n) e = false_true e

  goal_more : (g : Goal) → some_goal_cell p g ≡ true → some_goal_cell q g ≡ true
  goal_more (ToCell c) e = false_true e
  goal_more (ToMemory d a) e = cell_more a e

  set_more : (g : Goal) → sets_by p g ≡ true → sets_by q g ≡ true
  set_more (ToCell c) e = more c e
  set_more (ToMemory d a) e = false_true e

  pub read_more : (ms : List Move) → some_read p ms ≡ true → some_read q ms ≡ true
  read_more [] e = false_true e
  read_more (m ∷ ms) e =
      or_more (some_goal_cell p m.to || some_cell p m.value) (some_read p ms) (some_goal_cell q m.to || some_cell q m.value) (some_read q ms)
      (or_more (some_goal_cell p m.to) (some_cell p m.value) (some_goal_cell q m.to) (some_cell q m.value) (goal_more m.to) (cell_more m.value)) (read_more ms) e

  pub some_set_more : (ms : List Move) → some_set p ms ≡ true → some_set q ms ≡ true
  some_set_more [] e = false_true e
  some_set_more (m ∷ ms) e = or_more (sets_by p m.to) (some_set p ms) (sets_by q m.to) (some_set q ms) (set_more m.to) (some_set_more ms) e

  pub mentions_more : (ms : List Move) → mentions p ms ≡ true → mentions q ms ≡ true
  mentions_more ms e = or_more (some_read p ms) (some_set p ms) (some_read q ms) (some_set q ms) (read_more ms) (some_set_more ms) e

-- ---- in a routine

module _ (q : Cell → Bool) (ms : List Move) (stands : mentions q ms ≡ true) where
  in_exit : (e : Exit) → transfer_in (End e) ≡ Some ms → list_any (mentions q) (exit_transfers e) ≡ true
  in_exit (Jumps ns) h = or_left (mentions q ns) false (ap (mentions q) (same_some ns ms h) ∙ stands)
  in_exit (Branches ns) h = or_left (mentions q ns) false (ap (mentions q) (same_some ns ms h) ∙ stands)
  in_exit (Calls ns) h = or_left (mentions q ns) false (ap (mentions q) (same_some ns ms h) ∙ stands)
  in_exit Falls h = none_is_some ms h
  in_exit Returns h = none_is_some ms h

  in_block : (body : List (List Move)) (e : Exit) (k : ℕ) (x : Item) → item_in body e k ≡ Some x → transfer_in x ≡ Some ms → list_any (mentions q) (body ++ exit_transfers e) ≡ true
  in_block [] e zero x h is = in_exit e (ap transfer_in (same_some (End e) x h) ∙ is)
  in_block [] e (suc k) x h is = none_is_some x h
  in_block (ns ∷ rest) e zero x h is =
      or_left (mentions q ns) _ (ap (mentions q) (same_some ns ms (ap transfer_in (same_some (Transfer ns) x h) ∙ is)) ∙ stands)
  in_block (ns ∷ rest) e (suc k) x h is = or_right (mentions q ns) _ (in_block rest e k x h is)

  in_blocks : (bs : List BasicBlock) (k at : ℕ) (x : Item) → item_of (slice_get bs k) at ≡ Some x → transfer_in x ≡ Some ms
      → list_any (λ b. list_any (mentions q) (block_transfers b)) bs ≡ true
  in_blocks [] k at x h is = none_is_some x h
  in_blocks (b ∷ bs) zero at x h is = or_left (list_any (mentions q) (block_transfers b)) _ (in_block b.body b.exit at x h is)
  in_blocks (b ∷ bs) (suc k) at x h is = or_right (list_any (mentions q) (block_transfers b)) _ (in_blocks bs k at x h is)

  pub is_used : (r : Routine) (p : Place) (x : Item) → item_at r p ≡ Some x → transfer_in x ≡ Some ms → uses q r ≡ true
  is_used r p x h is = in_blocks r.blocks p.block p.at x h is

-- ---- lists

pub any_is : (f : ℕ → Bool) (xs : List ℕ) → list_any f xs ≡ true → (x : ℕ) × Contains xs x × (f x ≡ true)
any_is f [] e = false_true e
any_is f (x ∷ xs) e = by_bool (f x) (λ h. (x, (0, omega arith, refl), h)) (λ h. behind (any_is f xs (or_cases (f x) (list_any f xs) e (λ g. false_true (sym h ∙ g)) (λ g. g))))
  where
    behind : (y : ℕ) × Contains xs y × (f y ≡ true) → (y : ℕ) × Contains (x ∷ xs) y × (f y ≡ true)
    behind y = (y.0, (suc (y.1.0), (let h = y.1.1 in omega (arith, h)), y.1.2), y.2)

any_in : (f : ℕ → Bool) (xs : List ℕ) (x k : ℕ) → k < length xs → slice_index_or xs k x ≡ x → f x ≡ true → list_any f xs ≡ true
any_in f [] x k l s e = absurd (omega (arith, l))
any_in f (y ∷ xs) x zero l s e = or_left (f y) _ (ap f s ∙ e)
any_in f (y ∷ xs) x (suc k) l s e = or_right (f y) _ (any_in f xs x k (omega (arith, l)) s e)

pub is_any : (f : ℕ → Bool) (xs : List ℕ) (x : ℕ) → Contains xs x → f x ≡ true → list_any f xs ≡ true
is_any f xs x h e = any_in f xs x (h.0) (h.1) (h.2) e
