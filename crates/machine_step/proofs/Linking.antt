-- A transfer with numbers in place of names does what the transfer does where the names are known.
use Rattle.std.proofs.Common.{◌≡◌, ℕ, zero, suc, ◌%◌, Bool, true, false, cond, ◌==◌, List, [], ◌∷◌, map, Option, Some, None, Result, Ok, Err, refl, sym, ap, ◌∙◌}
use Rattle.std.specs.Prelude.{slice_get, option_map, length}
use Rattle.rtl_word.specs.declared.Rel.{Rel}
use Rattle.rtl_tree.specs.Trees.{Tree, Number, Symbol, CodeLabel, Read, Load, Unary, Binary, NoPair, AnyNumber, AnyName}
use Rattle.rtl_tree.specs.Moves.{Goal, ToCell, ToMemory, Move}
use Rattle.rtl_tree.specs.declared.cells.Cell.{Cell}
use Rattle.rtl_tree.specs.declared.cells.Cell.TheVariants.{Hard, Temp, Flag, Pc, Input, Output, Halt, Hole}
use Rattle.rtl_tree.specs.declared.expressions.Width.{Width}
use Rattle.rtl_tree.specs.declared.expressions.UnOp.{UnOp}
use Rattle.rtl_tree.specs.declared.expressions.UnOp.TheVariants.{Neg, Not, Sxb, Test}
use Rattle.rtl_tree.specs.declared.expressions.BinOp.{BinOp}
use Rattle.rtl_tree.specs.declared.expressions.BinOp.TheVariants.{Cmp, Pair, When}
use Rattle.rtl_value.specs.declared.state.Trap.{Trap}
use Rattle.rtl_value.specs.declared.state.State.{State}
use Rattle.rtl_value.specs.Values.{cell_of, value_of, test_of, and_then, load_of, unary_value, binary_value}
use Rattle.rtl_effect.specs.Views.{width_of}
use Rattle.rtl_effect.specs.Effects.{is_input, takes}
use Rattle.machine_run.specs.Machine.{Code}
use Rattle.machine_turn.specs.declared.assigned.Assigned.{Assigned}
use Rattle.machine_turn.specs.declared.assigned.Assigned.TheVariants.{Word, Taken, Compared, Next, Printed, Ended, Bytes}
use Rattle.machine_turn.specs.Turn.{and_go, place_checked, low_byte_of, assigned_flag, assigned_jump, assigned_bytes, assigned_to, Made, put, made_by, tested_by}
use Rattle.machine_effect.specs.Turns.{Turned, On, Ends, TrapsBy, at_place, halted_by, turned_by, turn_on, takes_at}
use Rattle.machine_step.specs.Steps.{tested_on}
use Rattle.machine_step.specs.Runs.{linked, linked_goal, linked_move, linked_moves, named}

both_values : (w : ℕ) (o : BinOp) (a b c d : Result ℕ Trap) → a ≡ c → b ≡ d → binary_value w o a b ≡ binary_value w o c d
both_values w o a b c d e h = ap (λ r. binary_value w o r b) e ∙ ap (λ r. binary_value w o c r) h

pub input_linked : (p : Code) (t : Tree) → is_input (linked p t) ≡ is_input t
input_linked p (Read c) = refl
input_linked p (Number n) = refl
input_linked p (Symbol n) = refl
input_linked p (CodeLabel l) = refl
input_linked p (Load d a) = refl
input_linked p (Unary o a) = refl
input_linked p (Binary o a b) = refl
input_linked p NoPair = refl
input_linked p (AnyNumber n) = refl
input_linked p (AnyName n) = refl

module _ (w : ℕ) (p : Code) (s : State) where
  cell_linked : (c : Cell) → cell_of w s c ≡ cell_of w (named p s) c
  cell_linked (Hard n) = refl
  cell_linked (Temp n) = refl
  cell_linked (Flag n) = refl
  cell_linked Pc = refl
  cell_linked Input = refl
  cell_linked Output = refl
  cell_linked Halt = refl
  cell_linked (Hole n) = refl

  mutual
    value_linked : (t : Tree) → value_of w (linked p t) s ≡ value_of w t (named p s)
    value_linked (Number n) = refl
    value_linked (Symbol n) = refl
    value_linked (CodeLabel l) = refl
    value_linked (Read c) = ap (λ n. let r : Result ℕ Trap = Ok n in r) (cell_linked c)
    value_linked (Load d a) = ap (λ r. and_then r (load_of w d s.memory)) (value_linked a)
    value_linked (Unary (Test r) a) = test_linked r a
    value_linked (Unary Neg a) = ap (unary_value w Neg) (value_linked a)
    value_linked (Unary Not a) = ap (unary_value w Not) (value_linked a)
    value_linked (Unary Sxb a) = ap (unary_value w Sxb) (value_linked a)
    value_linked (Binary o a b) = both_values w o _ _ _ _ (value_linked a) (value_linked b)
    value_linked NoPair = refl
    value_linked (AnyNumber n) = refl
    value_linked (AnyName n) = refl

    test_linked : (r : Rel) (t : Tree) → test_of w r (linked p t) s ≡ test_of w r t (named p s)
    test_linked r (Read (Flag n)) = refl
    test_linked r (Binary Pair a b) = both_values w (Cmp r) _ _ _ _ (value_linked a) (value_linked b)
    test_linked r _ = refl

  one_then : {A : Type 0} → (a c : Result ℕ Trap) (go : ℕ → Result A Trap) → a ≡ c → and_go a go ≡ and_go c go
  one_then a c go e = ap (λ r. and_go r go) e

  two_then : {A : Type 0} → (a c b d : Result ℕ Trap) (go : ℕ → ℕ → Result A Trap) → a ≡ c → b ≡ d
      → and_go a (λ x. and_go b (λ y. go x y)) ≡ and_go c (λ x. and_go d (λ y. go x y))
  two_then a c b d go e h = ap (λ r. and_go r (λ x. and_go b (λ y. go x y))) e ∙ ap (λ r. and_go c (λ x. and_go r (λ y. go x y))) h

  flag_linked : (n : ℕ) (t : Tree) → assigned_flag w n (linked p t) s ≡ assigned_flag w n t (named p s)
  flag_linked n (Binary Pair a b) = two_then _ _ _ _ (λ x y. Ok (Compared n x y)) (value_linked a) (value_linked b)
  flag_linked n _ = refl

  jump_linked : (t : Tree) → assigned_jump w (linked p t) s ≡ assigned_jump w t (named p s)
  jump_linked (Binary When c l) = two_then _ _ _ _ (λ x y. Ok (Next (cond (x == 0) s.next_place y))) (value_linked c) (value_linked l)
  jump_linked (Binary o a b) = one_then _ _ (λ x. Ok (Next x)) (value_linked (Binary o a b))
  jump_linked t = one_then _ _ (λ x. Ok (Next x)) (value_linked t)

  low_linked : (t : Tree) → low_byte_of w (linked p t) s ≡ low_byte_of w t (named p s)
  low_linked t = one_then _ _ (λ x. Ok (x % 256)) (value_linked t)

  register_linked : (n : ℕ) (t : Tree) → assigned_to w (ToCell (Hard n)) (linked p t) s ≡ assigned_to w (ToCell (Hard n)) t (named p s)
  register_linked n t =
      ap (λ b. cond b (Ok (Taken n)) (and_go (value_of w (linked p t) s) (λ x. Ok (Word n x)))) (input_linked p t)
      ∙ ap (λ r. cond (is_input t) (Ok (Taken n)) (and_go r (λ x. Ok (Word n x)))) (value_linked t)

  assigned_linked : (g : Goal) (t : Tree) → assigned_to w (linked_goal p g) (linked p t) s ≡ assigned_to w g t (named p s)
  assigned_linked (ToCell (Hard n)) t = register_linked n t
  assigned_linked (ToCell (Flag n)) t = flag_linked n t
  assigned_linked (ToCell Pc) t = jump_linked t
  assigned_linked (ToCell Output) t = ap (λ r. and_go r (λ b. Ok (Printed b))) (low_linked t)
  assigned_linked (ToCell Halt) t = ap (λ r. and_go r (λ b. Ok (Ended b))) (low_linked t)
  assigned_linked (ToCell (Temp n)) t = refl
  assigned_linked (ToCell Input) t = refl
  assigned_linked (ToCell (Hole n)) t = refl
  assigned_linked (ToMemory d a) t =
      two_then _ _ _ _
      (λ x b. and_go (place_checked (width_of w d) (length s.memory) b) (λ at. Ok (Bytes (record { at = at; count = width_of w d; value = x }))))
      (value_linked t) (value_linked a)

  made_linked : (given : Option ℕ) (ms : List Move) → made_by w given (linked_moves p ms) s ≡ made_by w given ms (named p s)
  made_linked given [] = refl
  made_linked given (m ∷ ms) =
      ap (λ r. and_go r (λ a. and_go (made_by w given (linked_moves p ms) s) (λ d. Ok (put w given a d)))) (assigned_linked m.to m.value)
      ∙ ap (λ r. and_go (assigned_to w m.to m.value (named p s)) (λ a. and_go r (λ d. Ok (put w given a d)))) (made_linked given ms)

  tested_linked : (ms : List Move) → tested_by w (linked_moves p ms) s ≡ tested_by w ms (named p s)
  tested_linked [] = refl
  tested_linked (m ∷ ms) =
      ap (λ r. and_go r (λ a. tested_by w (linked_moves p ms) s)) (assigned_linked m.to m.value)
      ∙ ap (λ r. and_go (assigned_to w m.to m.value (named p s)) (λ a. r)) (tested_linked ms)

pub takes_linked : (p : Code) (ms : List Move) → takes (linked_moves p ms) ≡ takes ms
takes_linked p [] = refl
takes_linked p (m ∷ ms) =
    ap (λ b. cond b true (takes (linked_moves p ms))) (input_linked p m.value) ∙ ap (λ b. cond (is_input m.value) true b) (takes_linked p ms)

-- where the turn goes, with the names known
abbrev pub named_turned : Code → Turned → Turned
named_turned p (On s place out) = On (named p s) place out
named_turned p (Ends out status) = Ends out status
named_turned p (TrapsBy trap) = TrapsBy trap

halted_named : (p : Code) (status : Option ℕ) (d : Made) (s : State) → halted_by status d (named p s) ≡ named_turned p (halted_by status d s)
halted_named p None d s = refl
halted_named p (Some status) d s = refl

turned_named : (p : Code) (r : Result Made Trap) (s : State) → turned_by r (named p s) ≡ named_turned p (turned_by r s)
turned_named p (Ok d) s = halted_named p d.outcome.status d s
turned_named p (Err trap) s = refl

pub turn_linked : (w : ℕ) (p : Code) (o : Option (List Move)) (given : Option ℕ) (place : ℕ) (s : State)
    → turn_on w o given place (named p s) ≡ named_turned p (turn_on w (option_map (linked_moves p) o) given place s)
turn_linked w p None given place s = refl
turn_linked w p (Some ms) given place s =
    ap (λ r. turned_by r (at_place place (named p s))) (sym (made_linked w p (at_place place s) given ms))
    ∙ turned_named p (made_by w given (linked_moves p ms) (at_place place s)) (at_place place s)

pub tests_linked : (w : ℕ) (p : Code) (o : Option (List Move)) (place : ℕ) (s : State)
    → tested_on w o place (named p s) ≡ tested_on w (option_map (linked_moves p) o) place s
tests_linked w p None place s = refl
tests_linked w p (Some ms) place s = sym (tested_linked w p (at_place place s) ms)

pub takes_at_linked : (p : Code) (o : Option (List Move)) → takes_at (option_map (linked_moves p) o) ≡ takes_at o
takes_at_linked p None = refl
takes_at_linked p (Some ms) = takes_linked p ms

-- the line of the code is the linked line of the program
pub line_linked : (p : Code) (ts : List (List Move)) (k : ℕ) → slice_get (map (linked_moves p) ts) k ≡ option_map (linked_moves p) (slice_get ts k)
line_linked p [] k = refl
line_linked p (t ∷ ts) zero = refl
line_linked p (t ∷ ts) (suc k) = line_linked p ts k
