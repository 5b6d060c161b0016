-- What the machine makes of a transfer is its effect.
use Rattle.std.proofs.Common.{◌≡◌, ◌≢◌, ℕ, zero, suc, ◌+◌, ◌/◌, ◌%◌, ◌^◌, ◌<◌, ◌≤◌, Bool, true, false, cond, List, [], ◌∷◌, length, get_or, set, slice_index, Option, Some, None, Result, Ok, Err, arith, refl, sym, ap, ◌∙◌, get_or-set_same, get_or-set_other, length-set, subst}
use Rattle.std.proofs.lemmas.Bool.Decides.{nat_tests}
use Rattle.std.proofs.lemmas.List.Elements.{All-head, All-tail}
use Rattle.std.specs.Prelude.{nat_le, ◌==◌, slice_get, slice_set, All}
use Rattle.rtl_tree.specs.Trees.{Tree, Number, Symbol, CodeLabel, Read, Load, Unary, Binary, NoPair, AnyNumber, AnyName}
use Rattle.rtl_tree.specs.Moves.{Goal, ToCell, ToMemory, Move}
use Rattle.rtl_tree.specs.declared.cells.Cell.{Cell}
use Rattle.rtl_tree.specs.declared.cells.Cell.TheVariants.{Hard, Temp, Flag, Pc, Input, Output, Halt, Hole}
use Rattle.rtl_tree.specs.declared.expressions.Width.{Width}
use Rattle.rtl_tree.specs.declared.expressions.Width.TheVariants.{Byte, Full}
use Rattle.rtl_tree.specs.declared.expressions.BinOp.{BinOp}
use Rattle.rtl_tree.specs.declared.expressions.BinOp.TheVariants.{Add, Pair, When}
use Rattle.rtl_value.specs.declared.state.Trap.{Trap}
use Rattle.rtl_value.specs.declared.state.Trap.TheVariants.{Address, Align}
use Rattle.rtl_value.specs.declared.state.FlagPair.{FlagPair}
use Rattle.rtl_value.specs.declared.state.State.{State}
use Rattle.rtl_value.specs.Values.{value_of, label_of}
use Rattle.rtl_effect.specs.Views.{Stop, Traps, Wild, Mark, Holds, Gone, View, Seen, bind, lifted, width_of, touched, mark_of, seen}
use Rattle.rtl_effect.specs.Effects.{assigned, storing, takes, is_input, marked, mark_of_two, place_at, target, chosen, aimed, jump, valued, Fine, done, tested, tested_by, place_of, Patch, patch_of, plain, plain_mark, cell_after, mark_after, event, went, Done, view_after, effect}
use Rattle.machine_turn.specs.declared.assigned.Assigned.{Assigned}
use Rattle.machine_turn.specs.declared.assigned.Assigned.TheVariants.{Word, Taken, Compared, Lost, Next, Printed, Ended, Bytes}
use Rattle.machine_turn.specs.declared.assigned.Stored.{Stored}
use Rattle.machine_turn.specs.Held.{IsTree, IsForFlag, IsForRegister, IsSideOf}
use Rattle.machine_turn.specs.Turn.{and_go, place_checked, low_byte_of, assigned_flag, assigned_jump, assigned_bytes, assigned_to, word_given, Made, unmade, put, made_by, IsStored}
use Rattle.machine_effect.specs.Standing.{Shows}
use Rattle.machine_effect.proofs.Reading.{le_of_test, mod-one, reached, seen_shown}

abbrev Flags : Type 0
Flags = List (Option FlagPair)

flag_same : (fs : Flags) (n : ℕ) (p : Option FlagPair) → n < length fs → slice_get (set fs n p) n ≡ Some p
flag_same [] n p l = let none : ⊥ = omega arith in absurd none
flag_same (f ∷ fs) zero p l = refl
flag_same (f ∷ fs) (suc n) p l = let rest : n < length fs = omega arith in flag_same fs n p rest

flag_other : (fs : Flags) (n k : ℕ) (p : Option FlagPair) → k ≢ n → slice_get (set fs n p) k ≡ slice_get fs k
flag_other [] n k p h = refl
flag_other (f ∷ fs) zero zero p h = absurd (h refl)
flag_other (f ∷ fs) zero (suc k) p h = refl
flag_other (f ∷ fs) (suc n) zero p h = refl
flag_other (f ∷ fs) (suc n) (suc k) p h = flag_other fs n k p (λ e. h (ap (λ i. suc i) e))

same_of_test : (a b : ℕ) → (a == b) ≡ true → a ≡ b
same_of_test a b e = grind (arith, nat_tests, e)

no_zero : (x : ℕ) → (suc x == 0) ≡ false
no_zero x = grind (arith, nat_tests)

other_of_test : (a b : ℕ) → (a == b) ≡ false → b ≢ a
other_of_test a b e h = grind (arith, nat_tests, e, h)

input_is : (t : Tree) → is_input t ≡ true → t ≡ Read Input
input_is (Read Input) e = refl
input_is (Read (Hard n)) e = absurd (let k : false ≡ true = e in cc)
input_is (Read (Temp n)) e = absurd (let k : false ≡ true = e in cc)
input_is (Read (Flag n)) e = absurd (let k : false ≡ true = e in cc)
input_is (Read Pc) e = absurd (let k : false ≡ true = e in cc)
input_is (Read Output) e = absurd (let k : false ≡ true = e in cc)
input_is (Read Halt) e = absurd (let k : false ≡ true = e in cc)
input_is (Read (Hole n)) e = absurd (let k : false ≡ true = e in cc)
input_is (Number n) e = absurd (let k : false ≡ true = e in cc)
input_is (Symbol n) e = absurd (let k : false ≡ true = e in cc)
input_is (CodeLabel l) e = absurd (let k : false ≡ true = e in cc)
input_is (Load d a) e = absurd (let k : false ≡ true = e in cc)
input_is (Unary o a) e = absurd (let k : false ≡ true = e in cc)
input_is (Binary o a b) e = absurd (let k : false ≡ true = e in cc)
input_is NoPair e = absurd (let k : false ≡ true = e in cc)
input_is (AnyNumber n) e = absurd (let k : false ≡ true = e in cc)
input_is (AnyName n) e = absurd (let k : false ≡ true = e in cc)

just : (x y : Option ℕ) → x ≡ y → let r : Seen = Ok x in r ≡ Ok y
just x y e = ap (λ p. let r : Seen = Ok p in r) e

abbrev pub patch_for : Option Stored → Option Patch
patch_for (Some b) = Some (record { at = b.at; count = b.count; value = Some b.value })
patch_for None = None

-- the tests of an address, with their outcomes as arguments
data Placed (a n size : ℕ) : Result ℕ Stop → Result ℕ Trap → Type 0 where
  fits : a + n ≤ size → Placed a n size (Ok a) (Ok a)
  stops : (c : Trap) → Placed a n size (Err (Traps c)) (Err c)

placed_cases : (a n size : ℕ) (x y z : Bool) → z ≡ true → (x ≡ true → a + n ≤ size)
    → Placed a n size (cond x (cond y (cond z (Ok a) (Err Wild)) (Err (Traps Align))) (Err (Traps Address))) (cond x (cond y (Ok a) (Err Align)) (Err Address))
placed_cases a n size true true true e f = fits (f refl)
placed_cases a n size true true false e f = absurd (let k : false ≡ true = e in cc)
placed_cases a n size true false z e f = stops Align
placed_cases a n size false y z e f = stops Address

-- a transfer's assignment as it was evaluated, beside the definition's reading of it in the view
module _ (w : ℕ) (s : State) (v : View) (h : Shows w s v) where
  data Evaluates : Goal → Tree → Result Assigned Trap → Type 0 where
    traps : (g : Goal) (t : Tree) (c : Trap) → tested_by w g t v ≡ Err (Traps c) → Evaluates g t (Err c)
    word : (n x : ℕ) (t : Tree) → n < 64 → seen w t v ≡ Ok (Some x) → Evaluates (ToCell (Hard n)) t (Ok (Word n x))
    taken : (n : ℕ) (t : Tree) → n < 64 → t ≡ Read Input → Evaluates (ToCell (Hard n)) t (Ok (Taken n))
    compared : (n x y : ℕ) (t : Tree) → n < 8 → marked w t v ≡ Ok (Holds x y) → Evaluates (ToCell (Flag n)) t (Ok (Compared n x y))
    lost : (n : ℕ) (t : Tree) → n < 8 → marked w t v ≡ Ok Gone → Evaluates (ToCell (Flag n)) t (Ok (Lost n))
    next : (place : ℕ) (t : Tree) → jump w t v ≡ Ok (Some place) → Evaluates (ToCell Pc) t (Ok (Next place))
    printed : (x : ℕ) (t : Tree) → valued w t v ≡ Ok x → Evaluates (ToCell Output) t (Ok (Printed (x % 256)))
    ended : (x : ℕ) (t : Tree) → valued w t v ≡ Ok x → Evaluates (ToCell Halt) t (Ok (Ended (x % 256)))
    bytes : (d : Width) (a t : Tree) (at x : ℕ) → seen w t v ≡ Ok (Some x) → place_of w d a v ≡ Ok at → at + width_of w d ≤ length s.memory
        → Evaluates (ToMemory d a) t (Ok (Bytes (record { at = at; count = width_of w d; value = x })))

  word_cases : (n : ℕ) (t : Tree) (u : Result ℕ Trap) → n < 64 → seen w t v ≡ lifted u → Evaluates (ToCell (Hard n)) t (and_go u (λ x. Ok (Word n x)))
  word_cases n t (Ok x) l e = word n x t l e
  word_cases n t (Err c) l e = traps (ToCell (Hard n)) t c (rw e refl)

  register_cases : (n : ℕ) (t : Tree) (b : Bool) → is_input t ≡ b → n < 64 → (b ≡ false → seen w t v ≡ lifted (value_of w t s))
      → Evaluates (ToCell (Hard n)) t (cond b (Ok (Taken n)) (and_go (value_of w t s) (λ x. Ok (Word n x))))
  register_cases n t true e l f = taken n t l (input_is t e)
  register_cases n t false e l f = word_cases n t (value_of w t s) l (f refl)

  two_cases : (n : ℕ) (a b : Tree) (x y : Result ℕ Trap) → n < 8 → seen w a v ≡ lifted x → seen w b v ≡ lifted y
      → Evaluates (ToCell (Flag n)) (Binary Pair a b) (and_go x (λ p. and_go y (λ q. Ok (Compared n p q))))
  two_cases n a b (Ok p) (Ok q) l e f = compared n p q (Binary Pair a b) l (rw (e, f) refl)
  two_cases n a b (Ok p) (Err c) l e f = traps (ToCell (Flag n)) (Binary Pair a b) c (rw (e, f) refl)
  two_cases n a b (Err c) y l e f = traps (ToCell (Flag n)) (Binary Pair a b) c (rw e refl)

  flag_evaluates : (named : Type 0) (n : ℕ) (t : Tree) → n < 8 → IsForFlag named w t → Evaluates (ToCell (Flag n)) t (assigned_flag w n t s)
  flag_evaluates named n (Binary Pair a b) l i = two_cases n a b (value_of w a s) (value_of w b s) l (seen_shown w s v h named a i.0) (seen_shown w s v h named b i.1)
  flag_evaluates named n (Binary _ a b) l i = absurd i
  flag_evaluates named n NoPair l i = lost n NoPair l refl
  flag_evaluates named n _ l i = absurd i

  place_lifted : (u : Result ℕ Trap) (r : Seen) → r ≡ lifted u → bind r (λ x. let q : Seen = Ok (place_at v x) in q) ≡ lifted u
  place_lifted (Ok n) r e = rw e (just _ _ (h.places n))
  place_lifted (Err c) r e = rw e refl

  target_shown : (named : Type 0) (t : Tree) → IsTree named w t → target w t v ≡ lifted (value_of w t s)
  target_shown named (CodeLabel l) i = just _ _ (h.targets l)
  target_shown named t i = place_lifted (value_of w t s) (seen w t v) (seen_shown w s v h named t i)

  chosen_cases : (x y : ℕ) → chosen v (Some x) (Some y) ≡ Ok (Some (cond (x == 0) s.next_place y))
  chosen_cases zero y = just _ _ (h.cells Pc tt)
  chosen_cases (suc x) y = just _ _ (ap (λ b. Some (cond b s.next_place y)) (sym (no_zero x)))

  when_cases : (c l : Tree) (x y : Result ℕ Trap) → seen w c v ≡ lifted x → target w l v ≡ lifted y
      → Evaluates (ToCell Pc) (Binary When c l) (and_go x (λ p. and_go y (λ q. Ok (Next (cond (p == 0) s.next_place q)))))
  when_cases c l (Ok p) (Ok q) e f = next _ (Binary When c l) (rw (e, f) (chosen_cases p q))
  when_cases c l (Ok p) (Err t) e f = traps (ToCell Pc) (Binary When c l) t (rw (e, f) refl)
  when_cases c l (Err t) y e f = traps (ToCell Pc) (Binary When c l) t (rw e refl)

  goes_cases : (t : Tree) (u : Result ℕ Trap) → jump w t v ≡ bind (target w t v) aimed → target w t v ≡ lifted u
      → Evaluates (ToCell Pc) t (and_go u (λ x. Ok (Next x)))
  goes_cases t (Ok x) e f = next x t (e ∙ ap (λ r. bind r aimed) f)
  goes_cases t (Err c) e f = traps (ToCell Pc) t c (ap done (e ∙ ap (λ r. bind r aimed) f))

  jump_evaluates : (named : Type 0) (t : Tree) → IsTree named w t → Evaluates (ToCell Pc) t (assigned_jump w t s)
  jump_evaluates named (Binary When c l) i = when_cases c l (value_of w c s) (value_of w l s) (seen_shown w s v h named c i.0) (target_shown named l i.1)
  jump_evaluates named (Binary o a b) i = goes_cases (Binary o a b) (value_of w (Binary o a b) s) refl (target_shown named (Binary o a b) i)
  jump_evaluates named t i = goes_cases t (value_of w t s) refl (target_shown named t i)

  print_cases : (t : Tree) (u : Result ℕ Trap) → seen w t v ≡ lifted u → Evaluates (ToCell Output) t (and_go (and_go u (λ x. Ok (x % 256))) (λ b. Ok (Printed b)))
  print_cases t (Ok x) e = printed x t (rw e refl)
  print_cases t (Err c) e = traps (ToCell Output) t c (rw e refl)

  end_cases : (t : Tree) (u : Result ℕ Trap) → seen w t v ≡ lifted u → Evaluates (ToCell Halt) t (and_go (and_go u (λ x. Ok (x % 256))) (λ b. Ok (Ended b)))
  end_cases t (Ok x) e = ended x t (rw e refl)
  end_cases t (Err c) e = traps (ToCell Halt) t c (rw e refl)

  placed : (n a : ℕ) → Placed a n (length s.memory) (touched n v (Some a)) (place_checked n (length s.memory) a)
  placed n a = rw h.size (placed_cases a n (length s.memory) _ _ _ (reached w s v h a n) (λ e. le_of_test _ _ e))

  at_cases : (d : Width) (a t : Tree) (x b : ℕ) (q : Result ℕ Stop) (r : Result ℕ Trap) → seen w t v ≡ Ok (Some x) → seen w a v ≡ Ok (Some b)
      → touched (width_of w d) v (Some b) ≡ q → Placed b (width_of w d) (length s.memory) q r
      → Evaluates (ToMemory d a) t (and_go r (λ at. Ok (Bytes (record { at = at; count = width_of w d; value = x }))))
  at_cases d a t x b q r e f k (fits l) = bytes d a t b x e (rw f k) l
  at_cases d a t x b q r e f k (stops c) = traps (ToMemory d a) t c (rw (e, f, k) refl)

  bytes_cases : (d : Width) (a t : Tree) (x y : Result ℕ Trap) → seen w t v ≡ lifted x → seen w a v ≡ lifted y
      → Evaluates (ToMemory d a) t (and_go x (λ p. and_go y (λ b. and_go (place_checked (width_of w d) (length s.memory) b) (λ at.
      Ok (Bytes (record { at = at; count = width_of w d; value = p }))))))
  bytes_cases d a t (Ok p) (Ok b) e f = at_cases d a t p b _ _ e f refl (placed (width_of w d) b)
  bytes_cases d a t (Ok p) (Err c) e f = traps (ToMemory d a) t c (rw (e, f) refl)
  bytes_cases d a t (Err c) y e f = traps (ToMemory d a) t c (rw e refl)

  evaluates : (named : Type 0) (g : Goal) (t : Tree) → IsSideOf named w g t → Evaluates g t (assigned_to w g t s)
  evaluates named (ToCell (Hard n)) t i = register_cases n t (is_input t) refl i.0 (λ e. seen_shown w s v h named t (i.1 e))
  evaluates named (ToCell (Flag n)) t i = flag_evaluates named n t i.0 i.1
  evaluates named (ToCell Pc) t i = jump_evaluates named t i
  evaluates named (ToCell Output) t i = print_cases t (value_of w t s) (seen_shown w s v h named t i)
  evaluates named (ToCell Halt) t i = end_cases t (value_of w t s) (seen_shown w s v h named t i)
  evaluates named (ToCell (Temp n)) t i = absurd i
  evaluates named (ToCell Input) t i = absurd i
  evaluates named (ToCell (Hole n)) t i = absurd i
  evaluates named (ToMemory d a) t i = bytes_cases d a t (value_of w t s) (value_of w a s) (seen_shown w s v h named t i.1) (seen_shown w s v h named a i.0)

  fine_of : (g : Goal) (t : Tree) (a : Assigned) → Evaluates g t (Ok a) → tested_by w g t v ≡ Ok tt
  fine_of g t a (word n x _ l e) = rw e refl
  fine_of g t a (taken n _ l e) = rw e refl
  fine_of g t a (compared n x y _ l e) = rw e refl
  fine_of g t a (lost n _ l e) = rw e refl
  fine_of g t a (next place _ e) = rw e refl
  fine_of g t a (printed x _ e) = rw e refl
  fine_of g t a (ended x _ e) = rw e refl
  fine_of g t a (bytes d b _ at x e f l) = rw (e, f) refl

  trap_of : (g : Goal) (t : Tree) (c : Trap) → Evaluates g t (Err c) → tested_by w g t v ≡ Err (Traps c)
  trap_of g t c (traps _ _ _ e) = e

  -- what was made of a transfer, beside what the definition assigns
  pub record MadeAs (ms : List Move) (d : Made) : Type 0 where
    pub cells : (k : ℕ) → k < 64 → cell_after w (assigned ms (Hard k)) v (v.cells (Hard k)) ≡ Some (slice_index d.registers k)
    pub flags : (k : ℕ) → mark_after w (assigned ms (Flag k)) v (v.flags k) ≡ mark_of (slice_get d.flags k)
    pub goes : went w (assigned ms Pc) v ≡ Ok (Some d.outcome.place)
    pub prints : event w (assigned ms Output) v ≡ Ok d.outcome.printed
    pub ends : event w (assigned ms Halt) v ≡ Ok d.outcome.status
    pub stores : patch_of w (storing ms) v ≡ Ok (patch_for d.outcome.stored)
    pub fits_memory : IsStored (length s.memory) d.outcome.stored
    pub many : length d.registers ≡ 64
    pub eight : length d.flags ≡ 8
    pub temps : (k : ℕ) → assigned ms (Temp k) ≡ None

  none_made : length s.registers ≡ 64 → length s.flags ≡ 8 → MadeAs [] (unmade s)
  none_made many eight = record {
    cells = λ k l. h.cells (Hard k) l;
    flags = h.flags;
    goes = just _ _ (h.cells Pc tt);
    prints = refl;
    ends = refl;
    stores = refl;
    fits_memory = tt;
    many = many;
    eight = eight;
    temps = λ k. refl;
  }

  cell_cases : (t : Tree) (rs : List ℕ) (x n k : ℕ) (rest : Option Tree) (b : Bool) → (n == k) ≡ b → n < length rs → seen w t v ≡ Ok (Some x)
      → cell_after w rest v (v.cells (Hard k)) ≡ Some (slice_index rs k)
      → cell_after w (cond b (Some t) rest) v (v.cells (Hard k)) ≡ Some (slice_index (set rs n x) k)
  cell_cases t rs x n k rest true e l i r =
      let same : n ≡ k = same_of_test n k e in
      ap plain i ∙ ap (λ q. Some q) (sym (get_or-set_same rs n x 0 l) ∙ ap (λ q. get_or (set rs n x) q 0) same)
  cell_cases t rs x n k rest false e l i r = r ∙ ap (λ q. Some q) (sym (get_or-set_other rs n k x 0 (other_of_test n k e)))

  flag_cases : (t : Tree) (m : Mark) (p : Option FlagPair) (fs : Flags) (rest : Option Tree) (n k : ℕ) (b : Bool) → (n == k) ≡ b → n < length fs
      → marked w t v ≡ Ok m → m ≡ mark_of (Some p) → mark_after w rest v (v.flags k) ≡ mark_of (slice_get fs k)
      → mark_after w (cond b (Some t) rest) v (v.flags k) ≡ mark_of (slice_get (set fs n p) k)
  flag_cases t m p fs rest n k true e l i j r =
      let same : n ≡ k = same_of_test n k e in
      ap plain_mark i ∙ j ∙ ap mark_of (sym (flag_same fs n p l)) ∙ ap (λ q. mark_of (slice_get (set fs n p) q)) same
  flag_cases t m p fs rest n k false e l i j r = r ∙ ap mark_of (sym (flag_other fs n k p (other_of_test n k e)))

  module _ (ms : List Move) (d : Made) (b : MadeAs ms d) where
    with_register : (n x : ℕ) (t : Tree) → n < 64 → seen w t v ≡ Ok (Some x)
        → MadeAs (record { to = ToCell (Hard n); value = t } ∷ ms) (record d { registers = slice_set d.registers n x })
    with_register n x t l e =
        let room : n < length d.registers = rw b.many l in
        record {
          cells = λ k m. cell_cases t d.registers x n k (assigned ms (Hard k)) (n == k) refl room e (b.cells k m);
          flags = b.flags;
          goes = b.goes;
          prints = b.prints;
          ends = b.ends;
          stores = b.stores;
          fits_memory = b.fits_memory;
          many = length-set d.registers n x ∙ b.many;
          eight = b.eight;
          temps = b.temps;
        }

    with_flag : (n : ℕ) (t : Tree) (m : Mark) (p : Option FlagPair) → n < 8 → marked w t v ≡ Ok m → m ≡ mark_of (Some p)
        → MadeAs (record { to = ToCell (Flag n); value = t } ∷ ms) (record d { flags = slice_set d.flags n p })
    with_flag n t m p l e f =
        let room : n < length d.flags = rw b.eight l in
        record {
          cells = b.cells;
          flags = λ k. flag_cases t m p d.flags (assigned ms (Flag k)) n k (n == k) refl room e f (b.flags k);
          goes = b.goes;
          prints = b.prints;
          ends = b.ends;
          stores = b.stores;
          fits_memory = b.fits_memory;
          many = b.many;
          eight = length-set d.flags n p ∙ b.eight;
          temps = b.temps;
        }

    put_made : (given : Option ℕ) (g : Goal) (t : Tree) (a : Assigned) → (is_input t ≡ true → v.cells Input ≡ Some (word_given w given)) → Evaluates g t (Ok a)
        → MadeAs (record { to = g; value = t } ∷ ms) (put w given a d)
    put_made given g t a i (word n x _ l e) = with_register n x t l e
    put_made given g t a i (taken n _ l e) =
        with_register n (word_given w given) t l (ap (λ o. seen w o v) e ∙ just _ _ (i (ap is_input e)))
    put_made given g t a i (compared n x y _ l e) = with_flag n t (Holds x y) (Some (record { left = x; right = y })) l e refl
    put_made given g t a i (lost n _ l e) = with_flag n t Gone None l e refl
    put_made given g t a i (next place _ e) = record {
      cells = b.cells;
      flags = b.flags;
      goes = e;
      prints = b.prints;
      ends = b.ends;
      stores = b.stores;
      fits_memory = b.fits_memory;
      many = b.many;
      eight = b.eight;
      temps = b.temps;
    }
    put_made given g t a i (printed x _ e) = record {
      cells = b.cells;
      flags = b.flags;
      goes = b.goes;
      prints = rw e refl;
      ends = b.ends;
      stores = b.stores;
      fits_memory = b.fits_memory;
      many = b.many;
      eight = b.eight;
      temps = b.temps;
    }
    put_made given g t a i (ended x _ e) = record {
      cells = b.cells;
      flags = b.flags;
      goes = b.goes;
      prints = b.prints;
      ends = rw e refl;
      stores = b.stores;
      fits_memory = b.fits_memory;
      many = b.many;
      eight = b.eight;
      temps = b.temps;
    }
    put_made given g t a i (bytes d' a' _ at x e f l) = record {
      cells = b.cells;
      flags = b.flags;
      goes = b.goes;
      prints = b.prints;
      ends = b.ends;
      stores = rw (e, f) refl;
      fits_memory = l;
      many = b.many;
      eight = b.eight;
      temps = b.temps;
    }

  abbrev MadeMoves : Type 0 → List Move → Type 0
  MadeMoves named ms = All (λ m. IsSideOf named w m.to m.value) ms

  -- a transfer is made, or traps, as the definition does it
  pub data Comes (ms : List Move) : Result Made Trap → Type 0 where
    trapped : (c : Trap) → tested w ms v ≡ Err (Traps c) → Comes ms (Err c)
    made : (d : Made) → tested w ms v ≡ Ok tt → MadeAs ms d → Comes ms (Ok d)

  true_then : (b c : Bool) → c ≡ true → cond b true c ≡ true
  true_then true c e = refl
  true_then false c e = e

  rest_comes : (given : Option ℕ) (g : Goal) (t : Tree) (ms : List Move) (a : Assigned) (r : Result Made Trap)
      → (is_input t ≡ true → v.cells Input ≡ Some (word_given w given)) → Evaluates g t (Ok a) → Comes ms r
      → Comes (record { to = g; value = t } ∷ ms) (and_go r (λ d. Ok (put w given a d)))
  rest_comes given g t ms a r i e (trapped c f) = trapped c (rw (fine_of g t a e) f)
  rest_comes given g t ms a r i e (made d f k) = made _ (rw (fine_of g t a e) f) (put_made ms d k given g t a i e)

  move_comes : (given : Option ℕ) (g : Goal) (t : Tree) (ms : List Move) (u : Result Assigned Trap) (r : Result Made Trap)
      → (is_input t ≡ true → v.cells Input ≡ Some (word_given w given)) → Evaluates g t u → Comes ms r
      → Comes (record { to = g; value = t } ∷ ms) (and_go u (λ a. and_go r (λ d. Ok (put w given a d))))
  move_comes given g t ms (Ok a) r i e k = rest_comes given g t ms a r i e k
  move_comes given g t ms (Err c) r i e k = trapped c (rw (trap_of g t c e) refl)

  pub comes : (named : Type 0) (given : Option ℕ) (ms : List Move) → length s.registers ≡ 64 → length s.flags ≡ 8 → MadeMoves named ms
      → (takes ms ≡ true → v.cells Input ≡ Some (word_given w given)) → Comes ms (made_by w given ms s)
  comes named given [] many eight a i = made _ refl (none_made many eight)
  comes named given (m ∷ ms) many eight a i =
      move_comes given m.to m.value ms (assigned_to w m.to m.value s) (made_by w given ms s) (λ e. i (ap (λ b. cond b true (takes ms)) e))
      (evaluates named m.to m.value (All-head (λ q. IsSideOf named w q.to q.value) m ms a)) (comes named given ms many eight (All-tail (λ q. IsSideOf named w q.to q.value) m ms a) (λ e. i (true_then (is_input m.value) (takes ms) e)))

  pub effect_made : (ms : List Move) (d : Made) → tested w ms v ≡ Ok tt → MadeAs ms d
      → effect w ms v ≡ Ok (record { view = view_after w ms (patch_for d.outcome.stored) v; place = Some d.outcome.place; output = d.outcome.printed; halt = d.outcome.status })
  effect_made ms d e b = rw (e, b.prints, b.ends, b.goes, b.stores) refl

  pub effect_traps : (ms : List Move) (c : Trap) → tested w ms v ≡ Err (Traps c) → effect w ms v ≡ Err (Traps c)
  effect_traps ms c e = rw e refl
