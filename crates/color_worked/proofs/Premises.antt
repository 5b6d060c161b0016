-- The worked transfer.
use Rattle.std.proofs.Common.{◌≡◌, ℕ, zero, suc, ◌==◌, ◌||◌, ◌<◌, ◌^◌, Bool, true, false, cond, List, [], ◌∷◌, slice_index, Some, None, refl, sym, ◌∙◌, subst, arith, inl, inr}
use Rattle.std.specs.Prelude.{◌↔◌, ◌⊎◌}
use Rattle.std.proofs.lemmas.Bool.{eqb-true}
use Rattle.std.proofs.lemmas.List.Elements.{All-nil, All-cons}
use Rattle.rtl_tree.specs.declared.cells.Cell.{Cell}
use Rattle.rtl_tree.specs.declared.cells.Cell.TheVariants.{Hard, Temp, Flag, Pc, Input, Output, Halt, Hole}
use Rattle.rtl_tree.specs.Moves.{Move}
use Rattle.rtl_norm.specs.Transfers.{IsMoveFitting}
use Rattle.rtl_effect.specs.Agree.{Tells, blank, word, gone}
use Rattle.md_filled.specs.Doing.{DoesAs}
use Rattle.temp_machine.specs.Cells.{reads, sets, reads_beside_flags}
use Rattle.temp_machine.specs.Tidy.{is_among}
use Rattle.color_renaming.specs.Renaming.{with_registers}
use Rattle.color_spilling.specs.Spilling.{load_moves, store_moves, a_load, no_load, a_store, no_store}
use Rattle.color_spilling.specs.Passing.{IsPlaced}
use Rattle.color_transfer.specs.Colored.{Stands, AreColoredParts}
use Rattle.color_holding.specs.Holding.{where_is, IsPlainView, Holds}
use Rattle.color_holding.specs.Places.{IsOf, IsPlace}
use Rattle.color_holding.proofs.Members.{false_true, or_cases}
use Rattle.color_holding.proofs.Transfers.{transfer_keeps}
use Rattle.color_worked.specs.Worked.{target, step, routine, at_home, live, old_cells, new_cells, new_bytes, old_view, new_view, IsWorked}

does_itself : (w : ℕ) (ms : List Move) → DoesAs w ms ms
does_itself w ms = record {
  does = λ v d words e. (d, e, record { temps = λ n. refl; registers = λ n. refl; flags = λ n t h. refl; bytes = λ a. refl; input = refl; place = refl; output = refl; halt = refl });
}

placed : IsPlaced target routine 2048
placed = record {
  target = record {
    size = inl refl;
    memory = omega arith;
    words = refl;
    stack = refl;
    result = refl;
    link = λ z e. absurd (let k : None ≡ Some z = e in cc);
    stack_is_no_result = λ e. omega (arith, e);
    stack_is_no_link = λ z e. absurd (let k : None ≡ Some z = e in cc);
    result_is_no_link = λ z e. absurd (let k : None ≡ Some z = e in cc);
    kept = All-nil (λ k. target.general k ≡ true);
    kept_differ = λ i j x y l h. omega (arith, h);
  };
  framed = record { frame_words = refl; home_words = refl; short = omega arith; below_homes = omega arith; reserve = omega arith; fits = omega arith };
  aligned = refl;
  inside = omega arith;
}

alone : (b : Bool) → (b || false) ≡ true → b ≡ true
alone true e = refl
alone false e = e

set_zero : (k : ℕ) → sets (Temp k) step ≡ true → k ≡ 0
set_zero k e = eqb-true k 0 (alone (k == 0) e)

read_zero : (k : ℕ) → reads (Temp k) step ≡ true → k ≡ 0
read_zero k e = eqb-true k 0 (alone (k == 0) (alone ((k == 0) || false) e))

among_zero : (k : ℕ) → is_among k (0 ∷ []) ≡ true → k ≡ 0
among_zero k e = sym (eqb-true 0 k (alone (0 == k) e))

only : (k : ℕ) → Stands step k → k ≡ 0
only k e = or_cases (reads (Temp k) step) (sets (Temp k) step) e (read_zero k) (set_zero k)

home_read : (k : ℕ) → (is_among k (0 ∷ []) ≡ true) ↔ ((reads (Temp k) step ≡ true) × (at_home k ≡ None))
home_read k = (λ e. (subst (λ i. reads (Temp i) step ≡ true) (sym (among_zero k e)) refl, refl), λ e. subst (λ i. is_among i (0 ∷ []) ≡ true) (sym (read_zero k (e.0))) refl)

home_set : (k : ℕ) → (is_among k (0 ∷ []) ≡ true) ↔ ((sets (Temp k) step ≡ true) × (at_home k ≡ None))
home_set k = (λ e. (subst (λ i. sets (Temp i) step ≡ true) (sym (among_zero k e)) refl, refl), λ e. subst (λ i. is_among i (0 ∷ []) ≡ true) (sym (set_zero k (e.0))) refl)

no_seat : {A : Type 0} (c : ℕ) → None ≡ Some c → A
no_seat c e = absurd (let k : None ≡ Some c = e in cc)

parts : AreColoredParts target routine at_home step (load_moves 6 1 6 ∷ []) (with_registers (λ k. 1) step) (store_moves 6 1 6 ∷ [])
parts = record {
  register = λ k. 1;
  operands = 0 ∷ [];
  results = 0 ∷ [];
  renamed = refl;
  seated = λ k c e. no_seat c e;
  at_home = record { are = home_read; differ = λ i j x y l h. omega (arith, l, h) };
  to_home = record { are = home_set; differ = λ i j x y l h. omega (arith, l, h) };
  are_loads = a_load 0 [] (load_moves 6 1 6) [] (does_itself 16 (load_moves 6 1 6)) no_load;
  are_stores = a_store 0 [] (store_moves 6 1 6) [] (does_itself 16 (store_moves 6 1 6)) no_store;
  scratch = record {
    general = λ k s e. refl;
    no_color = λ j k c s e f. no_seat c f;
    differ = λ j k s q e f ne. absurd (ne (only j s ∙ sym (only k q)));
  };
}

of_routine : (k : ℕ) → k ≡ 0 → IsOf routine k
of_routine k e = record { stands = refl; home = subst (λ (n : ℕ). slice_index routine.homes n < 16) (sym e) (omega arith) }

read_live : (c : Cell) → reads_beside_flags c step ≡ true → live c ≡ true
read_live (Temp k) e = subst (λ i. live (Temp i) ≡ true) (sym (eqb-true k 0 (alone (k == 0) (alone ((k == 0) || false) e)))) refl
read_live (Flag n) e = false_true e
read_live (Hard n) e = refl
read_live Pc e = refl
read_live Input e = refl
read_live Output e = refl
read_live Halt e = refl
read_live (Hole n) e = refl

live_zero : (k : ℕ) → live (Temp k) ≡ true → k ≡ 0
live_zero zero e = refl
live_zero (suc k) e = false_true e

one : (k : ℕ) → (sets (Temp k) step ≡ true) ⊎ (live (Temp k) ≡ true) → k ≡ 0
one k (inl e) = set_zero k e
one k (inr e) = live_zero k e

place : IsPlace target routine at_home step step live live
place = record {
  for = record { reads = λ k e. e; sets = λ k. refl };
  live = record { read = read_live; for_flag = λ c n on e. false_true on; kept = λ c s on. on };
  apart = λ j k ne s on. absurd (ne (set_zero j s ∙ sym (one k on)));
  calm_before = λ k n e. refl;
  calm_after = λ k n e. refl;
  free = λ n e. refl;
  stack = refl;
  numbers = All-cons (IsMoveFitting 16) _ [] (tt, (tt, omega arith)) (All-nil (IsMoveFitting 16));
  quiet = λ register. does_itself 16 (with_registers register step);
  standing = λ k s. of_routine k (only k s);
  living = λ k on. of_routine k (live_zero k on);
}

is_word : (x n m : ℕ) → Some x ≡ Some n → x < m → n < m
is_word x n m e h = let k : x ≡ n = cc in subst (λ (y : ℕ). y < m) k h

old_word : (c : Cell) (n : ℕ) → old_cells c ≡ Some n → n < 2 ^ 16
old_word (Temp k) n e = is_word 5 n (2 ^ 16) e (omega arith)
old_word (Hard k) n e = no_seat n e
old_word Pc n e = no_seat n e
old_word Input n e = is_word 65535 n (2 ^ 16) e (omega arith)
old_word Output n e = is_word 0 n (2 ^ 16) e (omega arith)
old_word Halt n e = is_word 0 n (2 ^ 16) e (omega arith)
old_word (Flag k) n e = is_word 0 n (2 ^ 16) e (omega arith)
old_word (Hole k) n e = is_word 0 n (2 ^ 16) e (omega arith)

new_word : (c : Cell) (n : ℕ) → new_cells c ≡ Some n → n < 2 ^ 16
new_word (Hard k) n e = by (k == 6) e
  where
    by : (b : Bool) → cond b (Some 2048) None ≡ Some n → n < 2 ^ 16
    by true f = is_word 2048 n (2 ^ 16) f (omega arith)
    by false f = no_seat n f
new_word (Temp k) n e = no_seat n e
new_word Pc n e = no_seat n e
new_word Input n e = is_word 65535 n (2 ^ 16) e (omega arith)
new_word Output n e = is_word 0 n (2 ^ 16) e (omega arith)
new_word Halt n e = is_word 0 n (2 ^ 16) e (omega arith)
new_word (Flag k) n e = is_word 0 n (2 ^ 16) e (omega arith)
new_word (Hole k) n e = is_word 0 n (2 ^ 16) e (omega arith)

new_byte : (a n : ℕ) → new_bytes a ≡ Some n → n < 256
new_byte a n e = by (a == 2054) e
  where
    by : (b : Bool) → cond b (Some 5) (Some 0) ≡ Some n → n < 256
    by true f = is_word 5 n 256 f (omega arith)
    by false f = is_word 0 n 256 f (omega arith)

old_plain : IsPlainView 16 old_view
old_plain (Hard n) e = false_true e
old_plain (Temp n) e = false_true e
old_plain Pc e = refl
old_plain Input e = refl
old_plain Output e = refl
old_plain Halt e = refl
old_plain (Flag n) e = refl
old_plain (Hole n) e = refl

new_plain : IsPlainView 16 new_view
new_plain (Hard n) e = false_true e
new_plain (Temp n) e = false_true e
new_plain Pc e = refl
new_plain Input e = refl
new_plain Output e = refl
new_plain Halt e = refl
new_plain (Flag n) e = refl
new_plain (Hole n) e = refl

temp_held : (k : ℕ) → live (Temp k) ≡ true → Tells (Some 5) (where_is target routine at_home 2048 None k new_view)
temp_held zero e = word 5
temp_held (suc k) e = false_true e

holds : Holds target routine at_home 2048 live old_view new_view
holds = record {
  temps = temp_held;
  registers = λ n e. blank _;
  flags = λ n on. gone _;
  old_plain = old_plain;
  new_plain = new_plain;
  land = record { bytes = λ a. blank _; size = refl; reach = λ a e. false_true e; symbols = λ n. refl; labels = λ l. blank _ };
  targets = λ l. refl;
  places = λ n. refl;
  input = refl;
  words = record { cells = old_word; bytes = λ a n e. no_seat n e; symbols = λ n. omega arith; labels = λ l n e. no_seat n e };
  ready = record {
    stack = refl;
    size = refl;
    reach = λ a e. refl;
    words = record { cells = new_word; bytes = new_byte; symbols = λ n. omega arith; labels = λ l n e. no_seat n e };
    bytes = All-nil (λ b. b < 256);
    next = refl;
  };
  private = λ a e. refl;
  blank = λ a e. refl;
}

pub worked : IsWorked
worked = record {
  placed = placed;
  general = λ k c e. no_seat c e;
  parts = parts;
  place = place;
  holds = holds;
  done = _;
  does = refl;
  six = refl;
  kept = transfer_keeps target routine at_home 2048 step step (with_registers (λ k. 1) step) live live (load_moves 6 1 6 ∷ []) (store_moves 6 1 6 ∷ []) (with_registers (λ k. 1) step) parts old_view new_view _ parts.renamed placed
      (λ k c e. no_seat c e) place holds refl;
}
