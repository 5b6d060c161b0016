-- A row covers a shape exactly where it does the shape's example and takes all of the shape's numbers.
use Rattle.std.proofs.Common.{◌≡◌, ℕ, zero, suc, Bool, true, false, nat_lt, List, [], ◌∷◌, map, slice_get, Option, Some, None, inl, refl, sym, subst, ap, arith, ◌∙◌, bit_and}
use Rattle.std.specs.Int.{bit_at}
use Rattle.std.proofs.lemmas.Bool.{eqb-true, eq-eqb}
use Rattle.std.proofs.lemmas.Bool.Decides.{nat_tests}
use Rattle.std.proofs.lemmas.Nat.Bits.{bit_at_and, bit_at-lt}
use Rattle.rtl_word.specs.Words.{IsWordSize}
use Rattle.rtl_tree.specs.Trees.{Tree, Number, Symbol, CodeLabel, Read, Load, Unary, Binary, NoPair, AnyNumber, AnyName}
use Rattle.rtl_tree.specs.Moves.{Move}
use Rattle.rtl_tree.specs.declared.cells.Cell.{Cell}
use Rattle.rtl_tree.specs.declared.cells.Cell.TheVariants.{Hard, Temp, Flag, Pc, Input, Output, Halt, Hole as RegisterHole}
use Rattle.rtl_tree.proofs.Equality.{and_left, and_right, and_both}
use Rattle.md_rows.specs.declared.row.Hole.{Hole}
use Rattle.md_rows.specs.declared.row.Hole.TheVariants.{Reg as RegHole, Num as NumHole, Sym as SymHole, Label as LabelHole}
use Rattle.md_rows.specs.declared.instance.Bound.{Bound}
use Rattle.md_rows.specs.declared.instance.Bound.TheVariants.{Reg, Num, Sym, Label}
use Rattle.md_rows.specs.Fits.{fits, is_in}
use Rattle.md_match.specs.Slots.{fit_at}
use Rattle.md_match.specs.Searches.{Marks, no_marks, goal_tree, is_flag_of, is_idle, names_none}
use Rattle.md_match.specs.Does.{IsAlikeMove, Does}
use Rattle.md_shapes.specs.declared.patterns.Pattern.{Pattern}
use Rattle.md_shapes.specs.Shapes.{Frame, Open, shape_moves, example, has_transfer}
use Rattle.md_covers.specs.Numbers.{Run, IsOfSome, IsNumberOf, has_runs, runs_of, first_number, is_open}
use Rattle.md_covers.specs.Covers.{IsRowTree, IsRowMove, IsDoneBySome, IsGeneral, IsOpenOf}
use Rattle.md_covers.proofs.Changes.{changed_bound, changed_move, IsFixed, IsFixedMove, Each, Carries, takes_changed, traps_two, does_changed}
use Rattle.md_covers.proofs.Wide.{AreRuns, takes_some, first_of}
use Rattle.md_covers.proofs.Ranged.{OneMove, TakesAll, is_flag_goal, flag_goal, flags_apart, flag_open, other_open, traps_open, row_traps, covers_takes}
use Rattle.md_covers.proofs.OneRegister.{AtMostOne, one_register}
use Rattle.md_covers.proofs.Patterns.{at_most_one, put_number, to_open, moved, one_move, are_runs}

-- leaves of the row that stay

pub fixed_any : (holes : List Hole) (p : Open) (t : Tree) → IsRowTree holes t → IsFixed (to_open false p) t
fixed_any holes p (Load w a) k = fixed_any holes p a k
fixed_any holes p (Unary o a) k = fixed_any holes p a k
fixed_any holes p (Binary o a c) k = (fixed_any holes p a k.0, fixed_any holes p c k.1)
fixed_any holes p (Number n) k = refl
fixed_any holes p (Symbol n) k = absurd k
fixed_any holes p (CodeLabel n) k = absurd k
fixed_any holes p NoPair k = tt
fixed_any holes p (AnyNumber n) k = tt
fixed_any holes p (AnyName n) k = tt
fixed_any holes p (Read (Temp h)) k = absurd k
fixed_any holes p (Read (Hard h)) k = refl
fixed_any holes p (Read (Flag h)) k = refl
fixed_any holes p (Read (RegisterHole h)) k = refl
fixed_any holes p (Read Pc) k = refl
fixed_any holes p (Read Input) k = refl
fixed_any holes p (Read Output) k = refl
fixed_any holes p (Read Halt) k = refl

pub fixed_open : (holes : List Hole) (p : Open) (t : Tree) → IsRowTree holes t → is_open t ≡ true → IsFixed (to_open true p) t
fixed_open holes p (Load w a) k o = fixed_open holes p a k o
fixed_open holes p (Unary v a) k o = fixed_open holes p a k o
fixed_open holes p (Binary v a c) k o =
    (fixed_open holes p a k.0 (and_left (is_open a) (is_open c) o), fixed_open holes p c k.1 (and_right (is_open a) (is_open c) o))
fixed_open holes p (Number n) k o = let q : false ≡ true = o in cc
fixed_open holes p (Symbol n) k o = absurd k
fixed_open holes p (CodeLabel n) k o = absurd k
fixed_open holes p NoPair k o = tt
fixed_open holes p (AnyNumber n) k o = tt
fixed_open holes p (AnyName n) k o = tt
fixed_open holes p (Read (Temp h)) k o = absurd k
fixed_open holes p (Read (Hard h)) k o = refl
fixed_open holes p (Read (Flag h)) k o = refl
fixed_open holes p (Read (RegisterHole h)) k o = refl
fixed_open holes p (Read Pc) k o = refl
fixed_open holes p (Read Input) k o = refl
fixed_open holes p (Read Output) k o = refl
fixed_open holes p (Read Halt) k o = refl

-- values that fit after the change

class_has : (class g k : ℕ) → bit_and class g ≡ g → bit_at g k ≡ 1 → bit_at class k ≡ 1
class_has class g k e b =
    let x = bit_at_and class g k in
    let y : bit_at (bit_and class g) k ≡ 1 = ap (λ (n : ℕ). bit_at n k) e ∙ b in
    let l = bit_at-lt class k in
    omega (arith, x, y, l, b)

register_fits : (w g : ℕ) (hole : Hole) (n : ℕ) (c : Cell) → fits w g hole (Reg (Temp n)) ≡ true → IsGeneral g c → fits w g hole (Reg c) ≡ true
register_fits w g (RegHole class) n (Temp m) e t = e
register_fits w g (RegHole class) n (Hard k) e t =
    let x : nat_lt k 64 ≡ true = grind (arith, nat_tests, t.0) in
    let y = class_has class g k (eqb-true (bit_and class g) g e) (eqb-true (bit_at g k) 1 t.1) in
    and_both (nat_lt k 64) (is_in class k) x (eq-eqb (bit_at class k) 1 y)
register_fits w g (RegHole class) n _ e t = absurd t
register_fits w g (NumHole low high b) n c e t = let q : false ≡ true = e in cc
register_fits w g SymHole n c e t = let q : false ≡ true = e in cc
register_fits w g LabelHole n c e t = let q : false ≡ true = e in cc

bound_fits : (w g : ℕ) (hole : Hole) (ranged : Bool) (p : Open) → IsGeneral g p.a → IsGeneral g p.b
    → ((m : ℕ) → fits w g hole (Num m) ≡ true → fits w g hole (Num (put_number ranged p.number m)) ≡ true)
    → (v : Bound) → fits w g hole v ≡ true → fits w g hole (changed_bound (to_open ranged p) v) ≡ true
bound_fits w g hole ranged p a b num (Reg (Temp zero)) e = register_fits w g hole 0 p.a e a
bound_fits w g hole ranged p a b num (Reg (Temp (suc zero))) e = register_fits w g hole 1 p.b e b
bound_fits w g hole ranged p a b num (Reg (Temp (suc (suc n)))) e = e
bound_fits w g hole ranged p a b num (Reg (Hard n)) e = e
bound_fits w g hole ranged p a b num (Reg (Flag n)) e = e
bound_fits w g hole ranged p a b num (Reg (RegisterHole n)) e = e
bound_fits w g hole ranged p a b num (Reg Pc) e = e
bound_fits w g hole ranged p a b num (Reg Input) e = e
bound_fits w g hole ranged p a b num (Reg Output) e = e
bound_fits w g hole ranged p a b num (Reg Halt) e = e
bound_fits w g hole ranged p a b num (Num m) e = num m e
bound_fits w g SymHole ranged p a b num (Sym n) e = refl
bound_fits w g (RegHole c) ranged p a b num (Sym n) e = e
bound_fits w g (NumHole x y z) ranged p a b num (Sym n) e = e
bound_fits w g LabelHole ranged p a b num (Sym n) e = e
bound_fits w g LabelHole ranged p a b num (Label n) e = refl
bound_fits w g SymHole ranged p a b num (Label n) e = e
bound_fits w g (RegHole c) ranged p a b num (Label n) e = e
bound_fits w g (NumHole x y z) ranged p a b num (Label n) e = e

at_fits : (w g : ℕ) (o : Option Hole) (ranged : Bool) (p : Open) → IsGeneral g p.a → IsGeneral g p.b
    → ((hole : Hole) → o ≡ Some hole → (m : ℕ) → fits w g hole (Num m) ≡ true → fits w g hole (Num (put_number ranged p.number m)) ≡ true)
    → (v : Bound) → fit_at w g o v ≡ true → fit_at w g o (changed_bound (to_open ranged p) v) ≡ true
at_fits w g None ranged p a b num v e = let q : false ≡ true = e in cc
at_fits w g (Some hole) ranged p a b num v e = bound_fits w g hole ranged p a b (num hole refl) v e

-- from the example to each transfer of the shape

each_all : (Q : Move → Type 0) → ((e : Move) → Q e) → (es : List Move) → Each Q es
each_all Q f [] = tt
each_all Q f (e ∷ es) = (f e, each_all Q f es)

abbrev AnyMove : Move → Type 0
AnyMove e = Unit {0}

abbrev NoFlag : Move → Type 0
NoFlag e = is_flag_goal e.to ≡ false

plain_fixed : (holes : List Hole) (row : List Move) → ((j : ℕ) (r : Move) → slice_get row j ≡ Some r → IsRowMove holes r)
    → (p : Open) (j : ℕ) (r : Move) → slice_get row j ≡ Some r → IsFixedMove (to_open false p) r
plain_fixed holes row kinds p j r is =
    let x = kinds j r is in record { place = fixed_any holes p (goal_tree r.to) x.place; value = fixed_any holes p r.value x.value }

plain_carries : (w g : ℕ) (holes : List Hole) (row : List Move) → ((j : ℕ) (r : Move) → slice_get row j ≡ Some r → IsRowMove holes r)
    → (p : Open) → IsGeneral g p.a → IsGeneral g p.b → (es : List Move) (b : List Bound) (marks : Marks)
    → Does w g holes (is_idle 255 g) row es b marks → AtMostOne (map (changed_move (to_open false p)) es)
    → Carries w g holes (to_open false p) row es b marks AnyMove
plain_carries w g holes row kinds p a b es c marks does one = record {
  fits = λ h v e. at_fits w g (slice_get holes h) false p a b (λ hole q m f. f) v e;
  kinds = each_all AnyMove (λ e. tt) es;
  takes = record { each = λ j r e is q k. plain_fixed holes row kinds p j r is };
  different = one_register g row (map (changed_bound (to_open false p)) c) marks (map (changed_move (to_open false p)) es) one
      (takes_changed (to_open false p) row c AnyMove (record { each = λ j r e is q k. plain_fixed holes row kinds p j r is }) no_marks marks es
      (each_all AnyMove (λ e. tt) es) does.takes) does.others;
  traps = λ r m. (let x = row_traps holes r.value (kinds m.place r m.is).value in
      traps_two (IsRowTree holes) (IsRowTree holes) (IsFixed (to_open false p)) (λ t u v. fixed_any holes p t u) r.value x x);
}

number_fits : (w g : ℕ) (holes : List Hole) (row : List Move) (rs : List Run) → AreRuns w rs → TakesAll w holes row rs → (p : Open) → IsOfSome rs p.number
    → (h : ℕ) (hole : Hole) → slice_get holes h ≡ Some hole → (m : ℕ) → fits w g hole (Num m) ≡ true → fits w g hole (Num (put_number true p.number m)) ≡ true
number_fits w g holes row rs k t p i h hole e m f = takes_some w g hole rs k m f (t.holes_take h hole e) p.number i

taken_fixed : (w : ℕ) (holes : List Hole) (row : List Move) (rs : List Run) → ((j : ℕ) (r : Move) → slice_get row j ≡ Some r → IsRowMove holes r)
    → TakesAll w holes row rs → (p : Open) (b : List Bound) (j : ℕ) (r e : Move) → slice_get row j ≡ Some r → NoFlag e → IsAlikeMove b r e
    → IsFixedMove (to_open true p) r
taken_fixed w holes row rs kinds t p b j r e is q k = by (is_flag_goal r.to) refl
  where
    by : (f : Bool) → is_flag_goal r.to ≡ f → IsFixedMove (to_open true p) r
    by true f = let x = flags_apart b r.to e.to f k.place in let z : true ≡ false = sym x ∙ q in cc
    by false f =
        let x = kinds j r is in
        let o = other_open r.to r.value f (t.moves j r is) in
        record { place = fixed_open holes p (goal_tree r.to) x.place o.0; value = fixed_open holes p r.value x.value o.1 }

ranged_carries : (w g : ℕ) (holes : List Hole) (row : List Move) (rs : List Run) → AreRuns w rs → ((j : ℕ) (r : Move) → slice_get row j ≡ Some r → IsRowMove holes r)
    → TakesAll w holes row rs → (p : Open) → IsGeneral g p.a → IsGeneral g p.b → IsOfSome rs p.number
    → (es : List Move) → Each NoFlag es → (b : List Bound) (marks : Marks)
    → Does w g holes (is_idle 255 g) row es b marks → AtMostOne (map (changed_move (to_open true p)) es)
    → Carries w g holes (to_open true p) row es b marks NoFlag
ranged_carries w g holes row rs k kinds t p a b i es q c marks does one = record {
  fits = λ h v e. at_fits w g (slice_get holes h) true p a b (λ hole z m f. number_fits w g holes row rs k t p i h hole z m f) v e;
  kinds = q;
  takes = record { each = λ j r e is n x. taken_fixed w holes row rs kinds t p c j r e is n x };
  different = one_register g row (map (changed_bound (to_open true p)) c) marks (map (changed_move (to_open true p)) es) one
      (takes_changed (to_open true p) row c NoFlag (record { each = λ j r e is n x. taken_fixed w holes row rs kinds t p c j r e is n x }) no_marks marks es
      q does.takes) does.others;
  traps = λ r m. (let x = row_traps holes r.value (kinds m.place r m.is).value in
      let f = flag_goal 255 r.to (and_left (is_flag_of 255 r.to) (names_none g r.value) (does.others r m)) in
      let o = traps_open r.value (flag_open r.to r.value f (t.moves m.place r m.is)) in
      traps_two (IsRowTree holes) (λ z. is_open z ≡ true) (IsFixed (to_open true p)) (λ z u v. fixed_open holes p z u v) r.value x o);
}

one_flagless : (es : List Move) (n : ℕ) → OneMove es n → Each NoFlag es
one_flagless es n o = subst (Each NoFlag) (sym o.is) (o.flagless, tt)

by_runs : (w g : ℕ) (holes : List Hole) (row : List Move) (m : Frame) (pattern : Pattern) (rs : List Run) → runs_of w pattern ≡ rs → AreRuns w rs
    → has_transfer m pattern ≡ true → ((j : ℕ) (r : Move) → slice_get row j ≡ Some r → IsRowMove holes r)
    → (has_runs rs ≡ true → TakesAll w holes row rs)
    → IsDoneBySome w g holes row (shape_moves m pattern (example (first_number rs)))
    → (p : Open) → IsGeneral g p.a → IsGeneral g p.b → IsNumberOf rs p.number
    → (b : Bool) → has_runs rs ≡ b → AtMostOne (map (changed_move (to_open b p)) (shape_moves m pattern (example (first_number rs)))) → IsDoneBySome w g holes row (map (changed_move (to_open b p)) (shape_moves m pattern (example (first_number rs))))
by_runs w g holes row m pattern [] e k t kinds all done p a b n true h o = let q : false ≡ true = h in cc
by_runs w g holes row m pattern (r ∷ rs) e k t kinds all done p a b n false h o = let q : true ≡ false = h in cc
by_runs w g holes row m pattern [] e k t kinds all done p a b n false h o =
    let es = shape_moves m pattern (example 0) in
    record {
      binding = map (changed_bound (to_open false p)) done.binding;
      marks = done.marks;
      does = does_changed w g holes (is_idle 255 g) (to_open false p) row es done.binding done.marks AnyMove
          (plain_carries w g holes row kinds p a b es done.binding done.marks done.does o) done.does;
    }
by_runs w g holes row m pattern (r ∷ rs) e k t kinds all done p a b n true h o =
    let es = shape_moves m pattern (example r.first) in
    let one = one_move w m pattern t (ap has_runs e) r.first in
    record {
      binding = map (changed_bound (to_open true p)) done.binding;
      marks = done.marks;
      does = does_changed w g holes (is_idle 255 g) (to_open true p) row es done.binding done.marks NoFlag
          (ranged_carries w g holes row (r ∷ rs) k kinds (all refl) p a b n es (one_flagless es r.first one) done.binding done.marks done.does o) done.does;
    }

pub from_example : (w g : ℕ) (holes : List Hole) (row : List Move) (m : Frame) (pattern : Pattern) → IsWordSize w
    → has_transfer m pattern ≡ true → ((j : ℕ) (r : Move) → slice_get row j ≡ Some r → IsRowMove holes r)
    → (has_runs (runs_of w pattern) ≡ true → TakesAll w holes row (runs_of w pattern))
    → IsDoneBySome w g holes row (shape_moves m pattern (example (first_number (runs_of w pattern))))
    → (p : Open) → IsOpenOf w g pattern p → IsDoneBySome w g holes row (shape_moves m pattern p)
from_example w g holes row m pattern z t kinds all done p o =
    subst (IsDoneBySome w g holes row) (sym (moved w m pattern p (first_number (runs_of w pattern))))
    (by_runs w g holes row m pattern (runs_of w pattern) refl (are_runs w z pattern) t kinds all done p o.a o.b o.number
    (has_runs (runs_of w pattern)) refl (subst AtMostOne (moved w m pattern p (first_number (runs_of w pattern))) (at_most_one m pattern p)))

-- and back

first_is : (w : ℕ) (rs : List Run) → AreRuns w rs → IsNumberOf rs (first_number rs)
first_is w [] k = tt
first_is w (r ∷ rs) k = inl (first_of w r k.0)

pub to_example : (w g : ℕ) (holes : List Hole) (row : List Move) (m : Frame) (pattern : Pattern) → IsWordSize w
    → ((p : Open) → IsOpenOf w g pattern p → IsDoneBySome w g holes row (shape_moves m pattern p))
    → IsDoneBySome w g holes row (shape_moves m pattern (example (first_number (runs_of w pattern))))
to_example w g holes row m pattern z each =
    each (example (first_number (runs_of w pattern))) (record { a = tt; b = tt; number = first_is w (runs_of w pattern) (are_runs w z pattern) })

takes_by : (w g : ℕ) (holes : List Hole) (row : List Move) (m : Frame) (pattern : Pattern) → has_transfer m pattern ≡ true
    → ((j : ℕ) (r : Move) → slice_get row j ≡ Some r → IsRowMove holes r)
    → ((p : Open) → IsOpenOf w g pattern p → IsDoneBySome w g holes row (shape_moves m pattern p))
    → (rs : List Run) → runs_of w pattern ≡ rs → AreRuns w rs → has_runs rs ≡ true → TakesAll w holes row rs
takes_by w g holes row m pattern t kinds each [] e k h = let q : false ≡ true = h in cc
takes_by w g holes row m pattern t kinds each (r ∷ rs) e k h =
    covers_takes w g holes row r rs k kinds (λ n i. record {
      es = shape_moves m pattern (example n);
      shape = one_move w m pattern t (ap has_runs e) n;
      by = each (example n) (record { a = tt; b = tt; number = subst (λ x. IsNumberOf x n) (sym e) i });
    })

pub to_takes : (w g : ℕ) (holes : List Hole) (row : List Move) (m : Frame) (pattern : Pattern) → IsWordSize w → has_transfer m pattern ≡ true
    → ((j : ℕ) (r : Move) → slice_get row j ≡ Some r → IsRowMove holes r)
    → ((p : Open) → IsOpenOf w g pattern p → IsDoneBySome w g holes row (shape_moves m pattern p))
    → has_runs (runs_of w pattern) ≡ true → TakesAll w holes row (runs_of w pattern)
to_takes w g holes row m pattern z t kinds each h =
    takes_by w g holes row m pattern t kinds each (runs_of w pattern) refl (are_runs w z pattern) h
