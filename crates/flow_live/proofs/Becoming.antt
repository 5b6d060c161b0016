-- One change of a row after another.
use Rattle.std.proofs.Common.{◌≡◌, ℕ, ◌+◌, ◌<◌, ◌≤◌, Bool, true, false, not, List, length, take, refl, sym, ap, subst, ◌∙◌, get_or}
use Rattle.std.specs.Prelude.{◌&&◌, ◌||◌, ◌==◌}
use Rattle.std.proofs.lemmas.Bool.{false≢true, ltb-true}
use Rattle.std.proofs.lemmas.List.{take_all}
use Rattle.std.proofs.lemmas.List.Folds.{list_any_more}
use Rattle.std.proofs.lemmas.Nat.Bits.{bit_at_ones}
use Rattle.rtl_tree.specs.declared.cells.Cell.{Cell}
use Rattle.rtl_tree.specs.declared.cells.Cell.TheVariants.{Hard, Temp, Flag, Pc, Input, Output, Halt, Hole}
use Rattle.rtl_tree.specs.Moves.{Move}
use Rattle.rtl_tree.specs.Same.{same_cell}
use Rattle.rtl_tree.specs.Sets.{CellBits, has_cell}
use Rattle.temp_machine.specs.Routines.{Falls, Calls, Returns, Routine, Target}
use Rattle.temp_machine.specs.Cells.{move_reads, sets_by, some_set}
use Rattle.temp_machine.specs.Live.{Item, is_always_live, is_lost_by_call}
use Rattle.flow_live.specs.declared.standing.Standing.{Standing}
use Rattle.flow_live.specs.Rows.{Becomes, has_bit, is_held, is_lost, is_masked}
use Rattle.flow_live.specs.Walks.{is_wanted, moves_read, exit_takes, exit_puts, item_takes, item_puts, item_dead, Stands}
use Rattle.flow_live.proofs.Bits.{or_false, and_true}
use Rattle.flow_live.proofs.Same.{moves_read_same}

pub nothing : (s : CellBits) → Becomes (has_cell s) s s
nothing s = record { words = refl; cells = λ c h. refl }

-- what is said in other words of the cells that rows have
pub in_words : (d e : Cell → Bool) (a b : CellBits) → ((c : Cell) → is_held (length a.temps) c ≡ true → d c ≡ e c) → Becomes d a b → Becomes e a b
in_words d e a b same g = record { words = g.words; cells = λ c h. g.cells c h ∙ same c h }

-- two changes, the second of which goes by what is in the row after the first
pub follows : (d f : Cell → Bool) (op : Bool → Cell → Bool) (a b c : CellBits) → Becomes d a b → Becomes (λ x. op (has_cell b x) x) b c
    → ((x : Cell) → is_held (length a.temps) x ≡ true → op (d x) x ≡ f x) → Becomes f a c
follows d f op a b c g h on = record {
  words = h.words ∙ g.words;
  cells = λ x held. h.cells x (subst (λ (n : ℕ). is_held n x ≡ true) (sym g.words) held) ∙ ap (λ (y : Bool). op y x) (g.cells x held) ∙ on x held;
}

pub take_two : (a p q : Bool) → ((a && not p) && not q) ≡ (a && not (p || q))
take_two true true q = refl
take_two true false q = refl
take_two false p q = refl

pub put_more : (a p q : Bool) → ((a || p) || q) ≡ (a || (p || q))
put_more true p q = refl
put_more false p q = refl

-- cells that are read

pub reads_both : (p q : Cell → Bool) (a b c : CellBits) → Becomes (λ x. has_cell a x && not (p x)) a b → Becomes (λ x. has_cell b x && not (q x)) b c
    → Becomes (λ x. has_cell a x && not (p x || q x)) a c
reads_both p q a b c g h = follows (λ x. has_cell a x && not (p x)) (λ x. has_cell a x && not (p x || q x)) (λ y x. y && not (q x)) a b c g h (λ x held. take_two (has_cell a x) (p x) (q x))

pub reads_none : (a : CellBits) → Becomes (λ x. has_cell a x && not false) a a
reads_none a = record { words = refl; cells = λ x held. sym (and_true (has_cell a x)) }

pub sets_none : (a : CellBits) → Becomes (λ x. has_cell a x || false) a a
sets_none a = record { words = refl; cells = λ x held. sym (or_false (has_cell a x)) }

-- one assignment more

pub uncounted : (flags : ℕ → Bool) (m : Move) (a : CellBits) → is_wanted flags m.to ≡ false → Becomes (λ x. has_cell a x && not (is_wanted flags m.to && move_reads x m)) a a
uncounted flags m a e = record {
  words = refl;
  cells = λ x held. sym (ap (λ (y : Bool). has_cell a x && not (y && move_reads x m)) e ∙ and_true (has_cell a x));
}

pub counted : (flags : ℕ → Bool) (m : Move) (a b : CellBits) → is_wanted flags m.to ≡ true → Becomes (λ x. has_cell a x && not (move_reads x m)) a b
    → Becomes (λ x. has_cell a x && not (is_wanted flags m.to && move_reads x m)) a b
counted flags m a b e g =
    in_words (λ x. has_cell a x && not (move_reads x m)) (λ x. has_cell a x && not (is_wanted flags m.to && move_reads x m)) a b
    (λ x held. ap (λ (y : Bool). has_cell a x && not (y && move_reads x m)) (sym e)) g

pub read_more : (flags : ℕ → Bool) (ms : List Move) (i : ℕ) (m : Move) (a b c : CellBits) → i < length ms → m ≡ get_or ms i m
    → Becomes (λ x. has_cell a x && not (moves_read flags x (take i ms))) a b
    → Becomes (λ x. has_cell b x && not (is_wanted flags m.to && move_reads x m)) b c
    → Becomes (λ x. has_cell a x && not (moves_read flags x (take (i + 1) ms))) a c
read_more flags ms i m a b c l is g h =
    follows (λ x. has_cell a x && not (moves_read flags x (take i ms))) (λ x. has_cell a x && not (moves_read flags x (take (i + 1) ms)))
    (λ y x. y && not (is_wanted flags m.to && move_reads x m)) a b c g h
    (λ x held. take_two (has_cell a x) (moves_read flags x (take i ms)) (is_wanted flags m.to && move_reads x m)
    ∙ ap (λ (y : Move). has_cell a x && not (moves_read flags x (take i ms) || (is_wanted flags y.to && move_reads x y))) is
    ∙ ap (λ (y : Bool). has_cell a x && not y) (sym (list_any_more (λ m. is_wanted flags m.to && move_reads x m) ms i m l)))

pub set_more : (ms : List Move) (i : ℕ) (m : Move) (a b c : CellBits) → i < length ms → m ≡ get_or ms i m
    → Becomes (λ x. has_cell a x || some_set (same_cell x) (take i ms)) a b → Becomes (λ x. has_cell b x || sets_by (same_cell x) m.to) b c
    → Becomes (λ x. has_cell a x || some_set (same_cell x) (take (i + 1) ms)) a c
set_more ms i m a b c l is g h =
    follows (λ x. has_cell a x || some_set (same_cell x) (take i ms)) (λ x. has_cell a x || some_set (same_cell x) (take (i + 1) ms))
    (λ y x. y || sets_by (same_cell x) m.to) a b c g h
    (λ x held. put_more (has_cell a x) (some_set (same_cell x) (take i ms)) (sets_by (same_cell x) m.to)
    ∙ ap (λ (y : Move). has_cell a x || (some_set (same_cell x) (take i ms) || sets_by (same_cell x) y.to)) is
    ∙ ap (λ (y : Bool). has_cell a x || y) (sym (list_any_more (λ m. sets_by (same_cell x) m.to) ms i m l)))

-- through all assignments

pub reads_all : (flags : ℕ → Bool) (ms : List Move) (i : ℕ) (a b : CellBits) → length ms ≤ i → Becomes (λ x. has_cell a x && not (moves_read flags x (take i ms))) a b
    → Becomes (λ x. has_cell a x && not (moves_read flags x ms)) a b
reads_all flags ms i a b l g = subst (λ (xs : List Move). Becomes (λ x. has_cell a x && not (moves_read flags x xs)) a b) (take_all i ms l) g

pub sets_all : (ms : List Move) (i : ℕ) (a b : CellBits) → length ms ≤ i → Becomes (λ x. has_cell a x || some_set (same_cell x) (take i ms)) a b
    → Becomes (λ x. has_cell a x || some_set (same_cell x) ms) a b
sets_all ms i a b l g = subst (λ (xs : List Move). Becomes (λ x. has_cell a x || some_set (same_cell x) xs) a b) (take_all i ms l) g

-- all assignments

pub moves_done : (flags : ℕ → Bool) (ms : List Move) (a b c : CellBits) → Becomes (λ x. has_cell a x || some_set (same_cell x) ms) a b
    → Becomes (λ x. has_cell b x && not (moves_read flags x ms)) b c → Becomes (λ x. (has_cell a x || some_set (same_cell x) ms) && not (moves_read flags x ms)) a c
moves_done flags ms a b c g h =
    follows (λ x. has_cell a x || some_set (same_cell x) ms) (λ x. (has_cell a x || some_set (same_cell x) ms) && not (moves_read flags x ms))
    (λ y x. y && not (moves_read flags x ms)) a b c g h (λ x held. refl)

-- registers that are always live

module _ (t : Target) (r : Routine) (s : Standing) (stands : Stands t r s) where
  masked : (words : ℕ) (x : Cell) → is_held words x ≡ true → is_masked s.always x ≡ is_always_live t r x
  masked words (Hard n) h = stands.always n (ltb-true n 64 h)
  masked words (Temp n) h = refl
  masked words (Flag n) h = refl
  masked words Pc h = absurd (false≢true h)
  masked words Input h = absurd (false≢true h)
  masked words Output h = absurd (false≢true h)
  masked words Halt h = absurd (false≢true h)
  masked words (Hole n) h = absurd (false≢true h)

  both_taken : (p q v : Bool) → ((p && not q) && not v) ≡ (p && (not q && not v))
  both_taken true q v = refl
  both_taken false q v = refl

  -- before an item, with the registers that are always live taken out
  pub item_done : (x : Item) (a b c : CellBits) → Becomes (λ y. (has_cell a y || item_puts t x y) && not (item_takes t (λ n. has_bit a.flags n) x y)) a b
      → Becomes (λ y. has_cell b y && not (is_masked s.always y)) b c → Becomes (item_dead t r x (has_cell a)) a c
  item_done x a b c g h =
      follows (λ y. (has_cell a y || item_puts t x y) && not (item_takes t (λ n. has_bit a.flags n) x y)) (item_dead t r x (has_cell a))
      (λ z y. z && not (is_masked s.always y)) a b c g h
      (λ y held. both_taken (has_cell a y || item_puts t x y) (item_takes t (λ n. has_bit a.flags n) x y) (is_masked s.always y)
      ∙ ap (λ (z : Bool). (has_cell a y || item_puts t x y) && (not (item_takes t (λ n. has_bit a.flags n) x y) && not z)) (masked (length a.temps) y held))

  -- the ends of a block

  pub falls_done : (a : CellBits) → Becomes (λ y. (has_cell a y || exit_puts t Falls y) && not (exit_takes t (λ n. has_bit a.flags n) Falls y)) a a
  falls_done a = record { words = refl; cells = λ y held. sym (and_true (has_cell a y || false) ∙ or_false (has_cell a y)) }

  pub return_done : (a b : CellBits) → Becomes (λ y. has_cell a y && not (same_cell y (Hard s.result))) a b
      → Becomes (λ y. (has_cell a y || exit_puts t Returns y) && not (exit_takes t (λ n. has_bit a.flags n) Returns y)) a b
  return_done a b g =
      in_words (λ y. has_cell a y && not (same_cell y (Hard s.result))) (λ y. (has_cell a y || exit_puts t Returns y) && not (exit_takes t (λ n. has_bit a.flags n) Returns y)) a b
      (λ y held. ap (λ (n : ℕ). has_cell a y && not (same_cell y (Hard n))) stands.result
      ∙ ap (λ (z : Bool). z && not (same_cell y (Hard t.result))) (sym (or_false (has_cell a y)))) g

  lost_cells : (words : ℕ) (y : Cell) → is_held words y ≡ true → is_lost s.spared y ≡ is_lost_by_call t y
  lost_cells words (Hard n) h = ap not (stands.spared n (ltb-true n 64 h)) ∙ double (is_lost_by_call t (Hard n))
    where
      double : (b : Bool) → not (not b) ≡ b
      double true = refl
      double false = refl
  lost_cells words (Temp n) h = refl
  lost_cells words (Flag n) h = refl
  lost_cells words Pc h = absurd (false≢true h)
  lost_cells words Input h = absurd (false≢true h)
  lost_cells words Output h = absurd (false≢true h)
  lost_cells words Halt h = absurd (false≢true h)
  lost_cells words (Hole n) h = absurd (false≢true h)

  -- a call loses registers and flags, so that what it reads for a flag doesn't count
  no_flag_live : (ms : List Move) (y : Cell) → moves_read (λ n. has_bit 255 n) y ms ≡ moves_read (λ n. true) y ms
  no_flag_live ms y = moves_read_same (λ n. has_bit 255 n) (λ n. true) (λ n l. ap (λ (x : ℕ). x == 1) (bit_at_ones 8 n l)) y ms

  put_in_turn : (a p q : Bool) → ((a || p) || q) ≡ (a || (q || p))
  put_in_turn true p q = refl
  put_in_turn false true true = refl
  put_in_turn false true false = refl
  put_in_turn false false true = refl
  put_in_turn false false false = refl

  pub call_done : (ms : List Move) (a b c : CellBits) → Becomes (λ y. has_cell a y || is_lost s.spared y) a b
      → Becomes (λ y. (has_cell b y || some_set (same_cell y) ms) && not (moves_read (λ n. has_bit 255 n) y ms)) b c
      → Becomes (λ y. (has_cell a y || exit_puts t (Calls ms) y) && not (exit_takes t (λ n. has_bit a.flags n) (Calls ms) y)) a c
  call_done ms a b c g h =
      follows (λ y. has_cell a y || is_lost s.spared y) (λ y. (has_cell a y || exit_puts t (Calls ms) y) && not (exit_takes t (λ n. has_bit a.flags n) (Calls ms) y))
      (λ z y. (z || some_set (same_cell y) ms) && not (moves_read (λ n. has_bit 255 n) y ms)) a b c g h
      (λ y held. ap (λ (z : Bool). z && not (moves_read (λ n. has_bit 255 n) y ms))
      (put_in_turn (has_cell a y) (is_lost s.spared y) (some_set (same_cell y) ms)
      ∙ ap (λ (z : Bool). has_cell a y || (some_set (same_cell y) ms || z)) (lost_cells (length a.temps) y held))
      ∙ ap (λ (z : Bool). (has_cell a y || (some_set (same_cell y) ms || is_lost_by_call t y)) && not z) (no_flag_live ms y))
