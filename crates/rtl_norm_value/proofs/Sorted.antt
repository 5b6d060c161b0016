-- Well-formed transfers: what kind of tree stands where, and that the normal form reads the input where the tree does.
use Rattle.std.proofs.Common.{◌≡◌, ℕ, Bool, true, false, not, ◌&&◌, List, [], ◌∷◌, refl, sym, ◌∙◌}
use Rattle.std.specs.Prelude.{◌==◌, cond}
use Rattle.std.specs.List.{AllByRecursion}
use Rattle.rtl_tree.specs.Trees.{Tree, Number, Symbol, CodeLabel, Read, Load, Unary, Binary, NoPair, AnyNumber, AnyName}
use Rattle.rtl_tree.specs.Moves.{Goal, ToCell, ToMemory, Move}
use Rattle.rtl_tree.specs.Sorts.{IsOperation, IsWordCell, IsWordTree, IsTestedTree}
use Rattle.rtl_tree.specs.WellFormed.{is_construct, free_of, free_below, is_flag, flags_tested, compares_for_flag, jumps_by_counter, takes_for_register, tests_flags, IsPlaced}
use Rattle.rtl_tree.specs.declared.cells.Cell.{Cell}
use Rattle.rtl_tree.specs.declared.cells.Cell.TheVariants.{Hard, Temp, Flag, Pc, Input, Output, Halt, Hole}
use Rattle.rtl_tree.specs.declared.constructs.Construct.TheVariants.{Compared, Jump, Taken}
use Rattle.rtl_tree.specs.declared.expressions.Width.TheVariants.{Byte, Full}
use Rattle.rtl_tree.specs.declared.expressions.UnOp.TheVariants.{Neg, Not, Sxb, Test}
use Rattle.rtl_tree.specs.declared.expressions.BinOp.{BinOp}
use Rattle.rtl_tree.specs.declared.expressions.BinOp.TheVariants.{And, Pair, When}
use Rattle.rtl_norm.specs.Normal.{finish, norm}
use Rattle.rtl_norm.specs.Transfers.{stored_byte, norm_value, IsMoveFitting}
use Rattle.rtl_norm.proofs.Rewrites.{Rewrites, folds, folds_one, swaps, adds, joins, drops, compares, mirrors, negates, twice_neg, twice_not, extends, extends_low, cuts, bytes, goes}
use Rattle.rtl_norm.proofs.Finish.{finish_keeps}
use Rattle.rtl_effect.specs.Effects.{is_input}
use Rattle.rtl_norm_value.specs.Effect.{IsFilled, IsMoveFilled}

and_true : (a b : Bool) → a && b ≡ true → (a ≡ true) × (b ≡ true)
and_true true b e = (refl, e)
and_true false b e = (cc, cc)

is_operation : (o : BinOp) (a b : Tree) → not (is_construct Compared (Binary o a b)) ≡ true → not (is_construct Jump (Binary o a b)) ≡ true → IsOperation o
is_operation Pair a b e h = cc
is_operation When a b e h = cc
is_operation _ a b e h = tt

tested_of : (t : Tree) → is_flag t ≡ true → IsTestedTree t
tested_of (Read (Flag n)) e = tt
tested_of _ e = absurd (let k : false ≡ true = e in cc)

cell_of : (c : Cell) → not (is_flag (Read c)) ≡ true → IsWordCell c
cell_of (Flag n) e = cc
cell_of _ e = tt

-- a tree without pairs and jumps, in which flags are tested, is a word
pub word_of : (t : Tree) → flags_tested t ≡ true → free_of Compared t ≡ true → free_of Jump t ≡ true → IsFilled t → IsWordTree t
word_of (Number n) e h k f = tt
word_of (Symbol n) e h k f = tt
word_of (CodeLabel l) e h k f = tt
word_of (Read c) e h k f = cell_of c e
word_of (Load d a) e h k f = word_of a e h k f
word_of (Unary Neg a) e h k f = word_of a e h k f
word_of (Unary Not a) e h k f = word_of a e h k f
word_of (Unary Sxb a) e h k f = word_of a e h k f
word_of (Unary (Test r) a) e h k f = tested_of a e
word_of (Binary o a b) e h k f =
    let p = and_true _ _ e in
    let q = and_true (not (is_construct Compared (Binary o a b))) _ h in
    let r = and_true (not (is_construct Jump (Binary o a b))) _ k in
    let x = and_true _ _ q.1 in
    let y = and_true _ _ r.1 in
    (is_operation o a b q.0 r.0, word_of a p.0 x.0 y.0 f.0, word_of b p.1 x.1 y.1 f.1)
word_of NoPair e h k f = cc
word_of (AnyNumber n) e h k f = absurd f
word_of (AnyName n) e h k f = absurd f

-- what a flag becomes, and where the program counter goes
abbrev pub IsFlagValue : Tree → Type 0
IsFlagValue (Binary Pair a b) = IsWordTree a × IsWordTree b
IsFlagValue NoPair = Unit {0}
IsFlagValue _ = ⊥

abbrev pub IsJumpTree : Tree → Type 0
IsJumpTree (Binary When c l) = IsWordTree c × IsWordTree l
IsJumpTree t = IsWordTree t

abbrev pub IsSorted : Goal → Tree → Type 0
IsSorted (ToCell (Flag n)) t = IsFlagValue t
IsSorted (ToCell Pc) t = IsJumpTree t
IsSorted (ToCell c) t = IsWordTree t
IsSorted (ToMemory d a) t = IsWordTree a × IsWordTree t

flag_of : (t : Tree) → flags_tested t ≡ true → is_construct Compared t && free_below Compared t ≡ true → free_of Jump t ≡ true → IsFilled t → IsFlagValue t
flag_of (Binary Pair a b) e h k f =
    let p = and_true _ _ e in
    let x = and_true _ _ h in
    let y = and_true _ _ k in
    (word_of a p.0 x.0 y.0 f.0, word_of b p.1 x.1 y.1 f.1)
flag_of NoPair e h k f = tt
flag_of _ e h k f = absurd (let n : false ≡ true = h in cc)

jump_of : (t : Tree) → flags_tested t ≡ true → free_of Compared t ≡ true → free_below Jump t ≡ true → IsFilled t → IsJumpTree t
jump_of (Binary When c l) e h k f =
    let p = and_true _ _ e in
    let x = and_true _ _ h in
    let y = and_true _ _ k in
    (word_of c p.0 x.0 y.0 f.0, word_of l p.1 x.1 y.1 f.1)
jump_of (Number n) e h k f = tt
jump_of (Symbol n) e h k f = tt
jump_of (CodeLabel l) e h k f = tt
jump_of (Read c) e h k f = cell_of c e
jump_of (Load d a) e h k f = word_of (Load d a) e h k f
jump_of (Unary o a) e h k f = word_of (Unary o a) e h k f
jump_of (Binary o a b) e h k f = word_of (Binary o a b) e h k f
jump_of NoPair e h k f = cc
jump_of (AnyNumber n) e h k f = absurd f
jump_of (AnyName n) e h k f = absurd f

sorted_at : (g : Goal) (t : Tree) → tests_flags g t ≡ true → compares_for_flag g t ≡ true → jumps_by_counter g t ≡ true → IsMoveFilled (record { to = g; value = t }) → IsSorted g t
sorted_at (ToCell (Flag n)) t e h k f = flag_of t e h k f.1
sorted_at (ToCell Pc) t e h k f = jump_of t e h k f.1
sorted_at (ToCell (Hard n)) t e h k f = word_of t e h k f.1
sorted_at (ToCell (Temp n)) t e h k f = word_of t e h k f.1
sorted_at (ToCell Input) t e h k f = word_of t e h k f.1
sorted_at (ToCell Output) t e h k f = word_of t e h k f.1
sorted_at (ToCell Halt) t e h k f = word_of t e h k f.1
sorted_at (ToCell (Hole n)) t e h k f = word_of t e h k f.1
sorted_at (ToMemory d a) t e h k f =
    let p = and_true _ _ e in
    let x = and_true _ _ h in
    let y = and_true _ _ k in
    (word_of a p.0 x.0 y.0 f.0, word_of t p.1 x.1 y.1 f.1)

-- the input is read nowhere
abbrev IsOtherCell : Cell → Type 0
IsOtherCell Input = ⊥
IsOtherCell _ = Unit {0}

abbrev TakesNone : Tree → Type 0
TakesNone (Read c) = IsOtherCell c
TakesNone (Load d a) = TakesNone a
TakesNone (Unary o a) = TakesNone a
TakesNone (Binary o a b) = TakesNone a × TakesNone b
TakesNone _ = Unit {0}

other_of : (c : Cell) → free_of Taken (Read c) ≡ true → IsOtherCell c
other_of Input e = cc
other_of _ e = tt

none_of : (t : Tree) → free_of Taken t ≡ true → TakesNone t
none_of (Read c) e = other_of c e
none_of (Load d a) e = none_of a e
none_of (Unary o a) e = none_of a e
none_of (Binary o a b) e = let p = and_true _ _ e in (none_of a p.0, none_of b p.1)
none_of _ e = tt

none_kept : (w : ℕ) (t u : Tree) → Rewrites w t u → TakesNone t → TakesNone u
none_kept w _ _ (folds o a b n e) h = tt
none_kept w _ _ (folds_one o a n e) h = tt
none_kept w _ _ (swaps o a b e k l) h = (h.1, h.0)
none_kept w _ _ (adds a c) h = (h.0, tt)
none_kept w _ _ (joins o p a c d n e) h = (h.0.0, tt)
none_kept w _ _ (drops o a c e) h = h.0
none_kept w _ _ (compares r a b) h = h
none_kept w _ _ (mirrors r a b m k l) h = (h.1, h.0)
none_kept w _ _ (negates a c e) h = h.1
none_kept w _ _ (twice_neg a) h = h
none_kept w _ _ (twice_not a) h = h
none_kept w _ _ (extends a) h = h
none_kept w _ _ (extends_low a c e) h = h.0
none_kept w _ _ (cuts a c e) h = h
none_kept w _ _ (bytes a c e) h = h.0
none_kept w _ _ (goes a c e) h = h.1

finish_none : (w : ℕ) (t : Tree) → TakesNone t → TakesNone (finish w t)
finish_none w t h = finish_keeps w TakesNone (none_kept w) t h

norm_none : (w : ℕ) (t : Tree) → TakesNone t → TakesNone (norm w t)
norm_none w (Load d a) h = finish_none w (Load d (norm w a)) (norm_none w a h)
norm_none w (Unary o a) h = finish_none w (Unary o (norm w a)) (norm_none w a h)
norm_none w (Binary o a b) h = finish_none w (Binary o (norm w a) (norm w b)) (norm_none w a h.0, norm_none w b h.1)
norm_none w (Read c) h = h
norm_none w (Number n) h = tt
norm_none w (Symbol n) h = tt
norm_none w (CodeLabel l) h = tt
norm_none w NoPair h = tt
norm_none w (AnyNumber n) h = tt
norm_none w (AnyName n) h = tt

stored_none : (t : Tree) → TakesNone t → TakesNone (stored_byte t)
stored_none (Unary Sxb b) h = h
stored_none (Binary And b (Number c)) h =
    elim (c == 255) as (λ x. TakesNone (cond x b (Binary And b (Number c)))) [ true ↦ h.0 | false ↦ h ]
stored_none _ h = h

no_input : (t : Tree) → TakesNone t → is_input t ≡ false
no_input (Read Input) h = absurd h
no_input _ h = refl

both_none : (t u : Tree) → TakesNone t → TakesNone u → is_input u ≡ is_input t
both_none t u h k = no_input u k ∙ sym (no_input t h)

-- the normal form of a value is the input where the value is
value_input : (w : ℕ) (t : Tree) → free_below Taken t ≡ true → is_input (norm w t) ≡ is_input t
value_input w (Load d a) e = both_none (Load d a) _ (none_of a e) (norm_none w (Load d a) (none_of a e))
value_input w (Unary o a) e = both_none (Unary o a) _ (none_of a e) (norm_none w (Unary o a) (none_of a e))
value_input w (Binary o a b) e =
    let p = and_true _ _ e in
    let h : TakesNone (Binary o a b) = (none_of a p.0, none_of b p.1) in
    both_none (Binary o a b) _ h (norm_none w (Binary o a b) h)
value_input w (Read c) e = refl
value_input w (Number n) e = refl
value_input w (Symbol n) e = refl
value_input w (CodeLabel l) e = refl
value_input w NoPair e = refl
value_input w (AnyNumber n) e = refl
value_input w (AnyName n) e = refl

free_input : (w : ℕ) (t : Tree) → free_of Taken t ≡ true → is_input (norm w t) ≡ is_input t
free_input w t e = both_none t _ (none_of t e) (norm_none w t (none_of t e))

byte_input : (w : ℕ) (t : Tree) → free_of Taken t ≡ true → is_input (stored_byte (norm w t)) ≡ is_input t
byte_input w t e = both_none t _ (none_of t e) (stored_none (norm w t) (norm_none w t (none_of t e)))

input_at : (w : ℕ) (g : Goal) (t : Tree) → takes_for_register g t ≡ true → is_input (norm_value w g t) ≡ is_input t
input_at w (ToCell (Hard n)) t e = value_input w t e
input_at w (ToCell (Temp n)) t e = value_input w t e
input_at w (ToCell (Hole n)) t e = value_input w t e
input_at w (ToCell Input) t e = cc
input_at w (ToCell (Flag n)) t e = free_input w t e
input_at w (ToCell Pc) t e = free_input w t e
input_at w (ToCell Output) t e = free_input w t e
input_at w (ToCell Halt) t e = free_input w t e
input_at w (ToMemory Full a) t e = free_input w t (and_true _ _ e).1
input_at w (ToMemory Byte a) t e = byte_input w t (and_true _ _ e).1

-- what the laws need of an assignment
pub record IsSortedMove (w : ℕ) (m : Move) : Type 0 where
  pub fits : IsMoveFitting w m
  pub sort : IsSorted m.to m.value
  pub input : is_input (norm_value w m.to m.value) ≡ is_input m.value

abbrev pub AreSorted : ℕ → List Move → Type 0
AreSorted w [] = Unit {0}
AreSorted w (m ∷ ms) = IsSortedMove w m × AreSorted w ms

pub sorted_moves : (w : ℕ) (ms : List Move) → AllByRecursion IsPlaced ms → AllByRecursion (IsMoveFitting w) ms → AllByRecursion IsMoveFilled ms → AreSorted w ms
sorted_moves w [] p f h = tt
sorted_moves w (m ∷ ms) p f h = (
  record {
    fits = f.0;
    sort = sorted_at m.to m.value p.0.tests p.0.flags p.0.jumps h.0;
    input = input_at w m.to m.value p.0.input;
  },
  sorted_moves w ms p.1 f.1 h.1,
)
