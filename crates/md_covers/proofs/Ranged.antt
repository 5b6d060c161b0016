-- A row that covers a shape with numbers has no number where one of the shape's could stand, and its number holes have all of them.
use Rattle.std.proofs.Common.{◌≡◌, ℕ, zero, suc, ◌+◌, ◌<◌, Bool, true, false, ◌&&◌, ◌||◌, not, List, [], ◌∷◌, length, set, slice_get, Option, Some, inl, inr, refl, sym, subst, ap, arith, ◌∙◌}
use Rattle.std.proofs.lemmas.Option.{slice_get_within}
use Rattle.rtl_tree.specs.Trees.{Tree, Number, Symbol, CodeLabel, Read, Load, Unary, Binary, NoPair, AnyNumber, AnyName}
use Rattle.rtl_tree.specs.Moves.{Goal, ToCell, ToMemory, Move}
use Rattle.rtl_tree.specs.Likeness.{IsAlike}
use Rattle.rtl_tree.proofs.AlikeTrees.{of_read, roots}
use Rattle.rtl_tree.proofs.Equality.{and_left, and_right, and_both}
use Rattle.rtl_tree.specs.declared.cells.Cell.{Cell}
use Rattle.rtl_tree.specs.declared.cells.Cell.TheVariants.{Hard, Temp, Flag, Pc, Input, Output, Halt, Hole as RegisterHole}
use Rattle.rtl_tree.specs.declared.expressions.BinOp.TheVariants.{Pair}
use Rattle.md_rows.specs.declared.row.Hole.{Hole}
use Rattle.md_rows.specs.declared.row.Hole.TheVariants.{Reg as RegHole, Num as NumHole, Sym as SymHole, Label as LabelHole}
use Rattle.md_rows.specs.declared.instance.Bound.{Bound}
use Rattle.md_rows.specs.declared.instance.Bound.TheVariants.{Num}
use Rattle.md_rows.specs.Instances.{filled}
use Rattle.md_match.specs.Slots.{fit_of, fit_at}
use Rattle.md_match.specs.Searches.{Marks, no_marks, is_marked, goal_tree, unary_traps, binary_traps, traps_pass, occurs_by, is_flag_of, is_idle, names_none}
use Rattle.md_match.specs.Does.{IsAlikeMove, Takes, all_taken, taken, has_hole, IsPartOfMarked, AllTraps, Does}
use Rattle.md_match.proofs.Binding.{or_true}
use Rattle.md_covers.specs.Numbers.{Run, IsOfSome, takes_runs, is_open, is_open_move}
use Rattle.md_covers.specs.Covers.{IsRowTree, IsRowMove, IsDoneBySome, is_number_hole}
use Rattle.md_covers.proofs.Changes.{other_mark, same_or_not, no_mark, traps_two}
use Rattle.md_covers.proofs.Wide.{AreRuns, some_take, first_of, second_of}
use Rattle.md_covers.proofs.Counts.{literals, gaps, numbers, total, alike_literals, alike_total, filled_literals, fixed_total, hole_total, number_at, none_open, IsLess, less_left, less_right, part_less}

-- flags

abbrev pub is_flag_goal : Goal → Bool
is_flag_goal (ToCell (Flag k)) = true
is_flag_goal _ = false

pub flag_goal : (f : ℕ) (g : Goal) → is_flag_of f g ≡ true → is_flag_goal g ≡ true
flag_goal f (ToCell (Flag k)) e = refl
flag_goal f _ e = let k : false ≡ true = e in cc

pub open_flag : (g : Goal) (t : Tree) → is_flag_goal g ≡ true → traps_pass is_open t ≡ true → is_open_move g t ≡ true
open_flag (ToCell (Flag k)) t e p = p
open_flag _ t e p = let k : false ≡ true = e in cc

pub open_other : (g : Goal) (t : Tree) → is_flag_goal g ≡ false → is_open (goal_tree g) ≡ true → is_open t ≡ true → is_open_move g t ≡ true
open_other (ToCell (Flag k)) t e p q = let k : true ≡ false = e in cc
open_other (ToCell (Hard k)) t e p q = and_both true (is_open t) p q
open_other (ToCell (Temp k)) t e p q = and_both true (is_open t) p q
open_other (ToCell (RegisterHole k)) t e p q = and_both true (is_open t) p q
open_other (ToCell Pc) t e p q = and_both true (is_open t) p q
open_other (ToCell Input) t e p q = and_both true (is_open t) p q
open_other (ToCell Output) t e p q = and_both true (is_open t) p q
open_other (ToCell Halt) t e p q = and_both true (is_open t) p q
open_other (ToMemory w a) t e p q = and_both (is_open a) (is_open t) p q

pub flag_open : (g : Goal) (t : Tree) → is_flag_goal g ≡ true → is_open_move g t ≡ true → traps_pass is_open t ≡ true
flag_open (ToCell (Flag k)) t e p = p
flag_open _ t e p = let k : false ≡ true = e in cc

pub other_open : (g : Goal) (t : Tree) → is_flag_goal g ≡ false → is_open_move g t ≡ true → (is_open (goal_tree g) ≡ true) × (is_open t ≡ true)
other_open (ToCell (Flag k)) t e p = let k : true ≡ false = e in cc
other_open (ToCell (Hard k)) t e p = (refl, p)
other_open (ToCell (Temp k)) t e p = (refl, p)
other_open (ToCell (RegisterHole k)) t e p = (refl, p)
other_open (ToCell Pc) t e p = (refl, p)
other_open (ToCell Input) t e p = (refl, p)
other_open (ToCell Output) t e p = (refl, p)
other_open (ToCell Halt) t e p = (refl, p)
other_open (ToMemory w a) t e p = (and_left (is_open a) (is_open t) p, and_right (is_open a) (is_open t) p)

flag_alike : (k : ℕ) (g : Goal) → IsAlike (Read (Flag k)) (goal_tree g) → is_flag_goal g ≡ true
flag_alike k (ToCell c) h = flag_is c (of_read (Flag k) c h)
  where
    flag_is : (c : Cell) → Flag k ≡ c → is_flag_goal (ToCell c) ≡ true
    flag_is c e = subst (λ x. is_flag_goal (ToCell x) ≡ true) e refl
flag_alike k (ToMemory w a) h = let q : false ≡ true = roots (Read (Flag k)) (Load w a) h in cc

-- an assignment to a flag takes none that isn't to a flag
pub flags_apart : (b : List Bound) (g e : Goal) → is_flag_goal g ≡ true → IsAlike (filled b (goal_tree g)) (goal_tree e) → is_flag_goal e ≡ true
flags_apart b (ToCell (Flag k)) e f h = flag_alike k e h
flags_apart b (ToCell (Hard k)) e f h = let q : false ≡ true = f in cc
flags_apart b (ToCell (Temp k)) e f h = let q : false ≡ true = f in cc
flags_apart b (ToCell (RegisterHole k)) e f h = let q : false ≡ true = f in cc
flags_apart b (ToCell Pc) e f h = let q : false ≡ true = f in cc
flags_apart b (ToCell Input) e f h = let q : false ≡ true = f in cc
flags_apart b (ToCell Output) e f h = let q : false ≡ true = f in cc
flags_apart b (ToCell Halt) e f h = let q : false ≡ true = f in cc
flags_apart b (ToMemory w a) e f h = let q : false ≡ true = f in cc

-- a transfer of one assignment

pub record Single (row : List Move) (b : List Bound) (e : Move) (marks : Marks) : Type 0 where
  pub place : ℕ
  pub move : Move
  pub is : slice_get row place ≡ Some move
  pub alike : IsAlikeMove b move e
  pub marks_are : set no_marks place true ≡ marks

all_are : (row : List Move) (b : List Bound) (used left : Marks) → Takes row b used [] left → used ≡ left
all_are row b _ _ (all_taken used) = refl

pub single : (row : List Move) (b : List Bound) (e : Move) (left : Marks) → Takes row b no_marks (e ∷ []) left → Single row b e left
single row b _ _ (taken e _ j r _ left is free a rest) = record {
  place = j;
  move = r;
  is = is;
  alike = a;
  marks_are = all_are row b (set no_marks j true) left rest;
}

only_mark : (marks : Marks) (j k : ℕ) → set no_marks j true ≡ marks → is_marked marks k ≡ true → k ≡ j
only_mark marks j k e m = elim (same_or_not k j) [
  | inl i ↦ i
  | inr d ↦ (let x : is_marked marks k ≡ false = subst (λ z. is_marked z k ≡ false) e (other_mark no_marks j k d (no_mark k)) in
      let y : true ≡ false = sym m ∙ x in cc)
]

not_marked : (marks : Marks) (j k : ℕ) → set no_marks j true ≡ marks → (k ≡ j → ⊥) → is_marked marks k ≡ false
not_marked marks j k e d = subst (λ z. is_marked z k ≡ false) e (other_mark no_marks j k d (no_mark k))

-- the shape with one number
pub record OneMove (es : List Move) (n : ℕ) : Type 0 where
  pub move : Move
  pub is : es ≡ move ∷ []
  pub flagless : is_flag_goal move.to ≡ false
  pub one : literals (goal_tree move.to) + literals move.value ≡ 1
  pub sum : total (goal_tree move.to) + total move.value ≡ n

abbrev pair_tree : Move → Tree
pair_tree r = Binary Pair (goal_tree r.to) r.value

-- a row that does the shape with the number n
pub record DoneAt (w g : ℕ) (holes : List Hole) (row : List Move) (n : ℕ) : Type 0 where
  pub es : List Move
  pub shape : OneMove es n
  pub by : IsDoneBySome w g holes row es

record TakenAt (w g : ℕ) (holes : List Hole) (row : List Move) (n : ℕ) (place : ℕ) (r : Move) : Type 0 where
  b : List Bound
  marks : Marks
  e : Move
  flagless : is_flag_goal e.to ≡ false
  does : Does w g holes (is_idle 255 g) row (e ∷ []) b marks
  marks_are : set no_marks place true ≡ marks
  alike : IsAlikeMove b r e
  literal : literals (filled b (pair_tree r)) ≡ 1
  sum : total (filled b (pair_tree r)) ≡ n

record Taken (w g : ℕ) (holes : List Hole) (row : List Move) (n : ℕ) : Type 0 where
  place : ℕ
  r : Move
  is : slice_get row place ≡ Some r
  at : TakenAt w g holes row n place r

taken_at : (w g : ℕ) (holes : List Hole) (row : List Move) (n : ℕ) → DoneAt w g holes row n → Taken w g holes row n
taken_at w g holes row n d =
    let e = d.shape.move in
    let b = d.by.binding in
    let does = subst (λ x. Does w g holes (is_idle 255 g) row x b d.by.marks) d.shape.is d.by.does in
    let s = single row b e d.by.marks does.takes in
    let p = alike_literals (filled b (goal_tree s.move.to)) (goal_tree e.to) s.alike.place in
    let q = alike_literals (filled b s.move.value) e.value s.alike.value in
    let u = alike_total (filled b (goal_tree s.move.to)) (goal_tree e.to) s.alike.place in
    let v = alike_total (filled b s.move.value) e.value s.alike.value in
    let one = d.shape.one in let sum = d.shape.sum in
    record {
      place = s.place;
      r = s.move;
      is = s.is;
      at = record {
        b = b;
        marks = d.by.marks;
        e = e;
        flagless = d.shape.flagless;
        does = does;
        marks_are = s.marks_are;
        alike = s.alike;
        literal = omega (arith, p, q, one);
        sum = omega (arith, u, v, sum);
      };
    }

-- an assignment that takes one that isn't to a flag isn't idle
not_idle : (g : ℕ) (b : List Bound) (r e : Move) → is_flag_goal e.to ≡ false → IsAlikeMove b r e → is_idle 255 g r ≡ true → ⊥
not_idle g b r e f a i =
    let x = flag_goal 255 r.to (and_left (is_flag_of 255 r.to) (names_none g r.value) i) in
    let y = flags_apart b r.to e.to x a.place in let z : true ≡ false = sym y ∙ f in cc

same_place : (w g : ℕ) (holes : List Hole) (row : List Move) (m n : ℕ) → (s : Taken w g holes row m) → (t : Taken w g holes row n) → t.place ≡ s.place
same_place w g holes row m n s t = elim (same_or_not t.place s.place) [
  | inl i ↦ i
  | inr d ↦ absurd (not_idle g t.at.b t.r t.at.e t.at.flagless t.at.alike
      (s.at.does.others t.r (record { place = t.place; is = t.is; marked = not_marked s.at.marks s.place t.place s.at.marks_are d })))
]

same_move : (row : List Move) (i j : ℕ) (r s : Move) → slice_get row i ≡ Some r → slice_get row j ≡ Some s → j ≡ i → s ≡ r
same_move row i j r s e f q = let x : slice_get row i ≡ Some s = subst (λ k. slice_get row k ≡ Some s) q f in cc

-- the same place for each number
at_first : (w g : ℕ) (holes : List Hole) (row : List Move) (m n : ℕ) → (s : Taken w g holes row m) → Taken w g holes row n → TakenAt w g holes row n s.place s.r
at_first w g holes row m n s t =
    let i = same_place w g holes row m n s t in
    let j = same_move row s.place t.place s.r t.r s.is t.is i in
    subst (λ k. TakenAt w g holes row n k s.r) i (subst (λ k. TakenAt w g holes row n t.place k) j t.at)

one_number : (w g : ℕ) (holes : List Hole) (row : List Move) (n place : ℕ) (r : Move) → IsRowTree holes (pair_tree r) → TakenAt w g holes row n place r
    → numbers (pair_tree r) ≡ 1
one_number w g holes row n place r k t = sym (filled_literals w g holes t.b t.does.fit (pair_tree r) k) ∙ t.literal

-- no number of its own
no_literal : (w g : ℕ) (holes : List Hole) (row : List Move) (m n place : ℕ) (r : Move) → IsRowTree holes (pair_tree r) → (m ≡ n → ⊥)
    → TakenAt w g holes row m place r → TakenAt w g holes row n place r → literals (pair_tree r) ≡ 0
no_literal w g holes row m n place r k d s t =
    let one = one_number w g holes row m place r k s in
    by (gaps (pair_tree r)) refl one
  where
    by : (c : ℕ) → gaps (pair_tree r) ≡ c → numbers (pair_tree r) ≡ 1 → literals (pair_tree r) ≡ 0
    by zero e one =
        let p = fixed_total w g holes s.b s.does.fit (pair_tree r) k e in
        let q = fixed_total w g holes t.b t.does.fit (pair_tree r) k e in
        let i = s.sum in let j = t.sum in absurd (d (omega (arith, p, q, i, j)))
    by (suc c) e one = omega (arith, e, one)

-- its hole has each number
hole_has : (w g : ℕ) (holes : List Hole) (row : List Move) (n place : ℕ) (r : Move) → slice_get row place ≡ Some r → IsRowTree holes (pair_tree r)
    → TakenAt w g holes row n place r → (h : ℕ) → h < length holes → is_number_hole (slice_get holes h) ≡ true → fit_of w g holes h (Num n) ≡ true
hole_has w g holes row n place r is k t h l z =
    let x = number_at w g holes t.b t.does.fit h z in
    let y = t.does.bound h l in
    let i = only_mark t.marks place y.marked.place t.marks_are y.marked.marked in
    let j : y.move ≡ r = same_move row place y.marked.place r y.move is y.marked.is i in
    let has : has_hole h (pair_tree r) ≡ true = subst (λ m. has_hole h (pair_tree m) ≡ true) j y.has in
    let one = one_number w g holes row n place r k t in
    let p : total (filled t.b (pair_tree r)) ≡ x.0 = hole_total w g holes t.b t.does.fit h x.0 x.1 z (pair_tree r) k has one in
    let q : x.0 ≡ n = sym p ∙ t.sum in
    subst (λ m. fit_of w g holes h (Num m) ≡ true) q x.2

-- what can trap elsewhere has no number of its own
part_of_pair : (b : List Bound) (x : Tree) (r : Move) → (occurs_by (filled b) x (goal_tree r.to) || occurs_by (filled b) x r.value) ≡ true
    → IsLess (filled b x) (filled b (pair_tree r))
part_of_pair b x r e = elim (or_true (occurs_by (filled b) x (goal_tree r.to)) (occurs_by (filled b) x r.value) e) [
  | inl p ↦ (let k = less_left (filled b x) (filled b (goal_tree r.to)) (filled b r.value) 0 (part_less b x (goal_tree r.to) p) in record { fewer = k.0; sum = k.1 })
  | inr p ↦ (let k = less_right (filled b x) (filled b (goal_tree r.to)) (filled b r.value) 0 (part_less b x r.value p) in record { fewer = k.0; sum = k.1 })
]

less_at : (w g : ℕ) (holes : List Hole) (row : List Move) (n place : ℕ) (r : Move) → slice_get row place ≡ Some r → (t : TakenAt w g holes row n place r)
    → (x : Tree) → IsPartOfMarked row t.marks t.b x → IsLess (filled t.b x) (filled t.b (pair_tree r))
less_at w g holes row n place r is t x p =
    let i = only_mark t.marks place p.marked.place t.marks_are p.marked.marked in
    let j : p.move ≡ r = same_move row place p.marked.place r p.move is p.marked.is i in
    part_of_pair t.b x r (subst (λ m. (occurs_by (filled t.b) x (goal_tree m.to) || occurs_by (filled t.b) x m.value) ≡ true) j p.part)

node_open : (w g : ℕ) (holes : List Hole) (row : List Move) (m n place : ℕ) (r : Move) → slice_get row place ≡ Some r → (m ≡ n → ⊥)
    → (s : TakenAt w g holes row m place r) → (t : TakenAt w g holes row n place r)
    → (x : Tree) → IsRowTree holes x → IsPartOfMarked row s.marks s.b x → IsPartOfMarked row t.marks t.b x → is_open x ≡ true
node_open w g holes row m n place r is d s t x k p q = none_open x (by (literals x) refl)
  where
    by : (c : ℕ) → literals x ≡ c → literals x ≡ 0
    by zero e = e
    by (suc c) e =
        let u = less_at w g holes row m place r is s x p in
        let v = less_at w g holes row n place r is t x q in
        let i = filled_literals w g holes s.b s.does.fit x k in
        let j = filled_literals w g holes t.b t.does.fit x k in
        let a = s.literal in let b = t.literal in
        let f = u.fewer in
        let none : gaps x ≡ 0 = omega (arith, e, f, i, a) in
        let all : literals (filled s.b x) ≡ literals (filled s.b (pair_tree r)) = omega (arith, e, f, i, a, none) in
        let all2 : literals (filled t.b x) ≡ literals (filled t.b (pair_tree r)) = omega (arith, e, f, i, j, a, b, none) in
        let y = u.sum all in let z = v.sum all2 in
        let c1 = fixed_total w g holes s.b s.does.fit x k none in
        let c2 = fixed_total w g holes t.b t.does.fit x k none in
        let n1 = s.sum in let n2 = t.sum in
        absurd (d (omega (arith, y, z, c1, c2, n1, n2)))

pub row_traps : (holes : List Hole) (t : Tree) → IsRowTree holes t → AllTraps (IsRowTree holes) t
row_traps holes (Load w a) k = (k, row_traps holes a k)
row_traps holes (Unary o a) k = ((λ e. k), row_traps holes a k)
row_traps holes (Binary o a b) k = ((λ e. k), row_traps holes a k.0, row_traps holes b k.1)
row_traps holes (Number n) k = tt
row_traps holes (Symbol n) k = tt
row_traps holes (CodeLabel n) k = tt
row_traps holes NoPair k = tt
row_traps holes (AnyNumber n) k = tt
row_traps holes (AnyName n) k = tt
row_traps holes (Read c) k = tt

to_test : (t b : Bool) → (t ≡ true → b ≡ true) → (not t || b) ≡ true
to_test true b k = k refl
to_test false b k = refl

under_test : (t b : Bool) → (not t || b) ≡ true → t ≡ true → b ≡ true
under_test true b e k = e
under_test false b e k = let q : false ≡ true = k in cc

pub open_traps : (t : Tree) → AllTraps (λ x. is_open x ≡ true) t → traps_pass is_open t ≡ true
open_traps (Load w a) k = and_both (is_open (Load w a)) (traps_pass is_open a) k.0 (open_traps a k.1)
open_traps (Unary o a) k =
    and_both (not (unary_traps o) || is_open (Unary o a)) (traps_pass is_open a) (to_test (unary_traps o) (is_open (Unary o a)) k.0) (open_traps a k.1)
open_traps (Binary o a b) k =
    and_both (not (binary_traps o) || is_open (Binary o a b)) (traps_pass is_open a && traps_pass is_open b)
    (to_test (binary_traps o) (is_open (Binary o a b)) k.0)
    (and_both (traps_pass is_open a) (traps_pass is_open b) (open_traps a k.1) (open_traps b k.2))
open_traps _ k = refl

pub traps_open : (t : Tree) → traps_pass is_open t ≡ true → AllTraps (λ x. is_open x ≡ true) t
traps_open (Load w a) k = (and_left (is_open (Load w a)) (traps_pass is_open a) k, traps_open a (and_right (is_open (Load w a)) (traps_pass is_open a) k))
traps_open (Unary o a) k =
    let x = and_left (not (unary_traps o) || is_open (Unary o a)) (traps_pass is_open a) k in (
      (λ e. under_test (unary_traps o) (is_open (Unary o a)) x e),
      traps_open a (and_right (not (unary_traps o) || is_open (Unary o a)) (traps_pass is_open a) k),
    )
traps_open (Binary o a b) k =
    let x = and_left (not (binary_traps o) || is_open (Binary o a b)) (traps_pass is_open a && traps_pass is_open b) k in
    let y = and_right (not (binary_traps o) || is_open (Binary o a b)) (traps_pass is_open a && traps_pass is_open b) k in (
      (λ e. under_test (binary_traps o) (is_open (Binary o a b)) x e),
      traps_open a (and_left (traps_pass is_open a) (traps_pass is_open b) y),
      traps_open b (and_right (traps_pass is_open a) (traps_pass is_open b) y),
    )
traps_open _ k = tt

-- each assignment of the row
move_open : (w g : ℕ) (holes : List Hole) (row : List Move) → ((j : ℕ) (r : Move) → slice_get row j ≡ Some r → IsRowMove holes r)
    → (m n : ℕ) → (m ≡ n → ⊥) → (place : ℕ) (r : Move) → slice_get row place ≡ Some r → TakenAt w g holes row m place r → TakenAt w g holes row n place r
    → (j : ℕ) (o : Move) → slice_get row j ≡ Some o → is_open_move o.to o.value ≡ true
move_open w g holes row kinds m n d place r is s t j o at = elim (same_or_not j place) [
  | inl i ↦
      (let same : o ≡ r = same_move row place j r o is at i in
      let k = kinds place r is in
      let none = no_literal w g holes row m n place r (k.place, k.value) d s t in
      let flag = not_flag (is_flag_goal r.to) refl in
      subst (λ z. is_open_move z.to z.value ≡ true) (sym same)
      (open_other r.to r.value flag (none_open (goal_tree r.to) (omega (arith, none))) (none_open r.value (omega (arith, none)))))
  | inr q ↦
      (let mark = not_marked s.marks place j s.marks_are q in
      let mark2 = not_marked t.marks place j t.marks_are q in
      let idle = s.does.others o (record { place = j; is = at; marked = mark }) in
      let flag = flag_goal 255 o.to (and_left (is_flag_of 255 o.to) (names_none g o.value) idle) in
      let p1 = s.does.traps o (record { place = j; is = at; marked = mark }) in
      let p2 = t.does.traps o (record { place = j; is = at; marked = mark2 }) in
      let k = row_traps holes o.value (kinds j o at).value in
      let both = traps_two (IsPartOfMarked row s.marks s.b) (IsPartOfMarked row t.marks t.b)
      (λ x. IsPartOfMarked row s.marks s.b x × IsPartOfMarked row t.marks t.b x) (λ x u v. (u, v)) o.value p1 p2 in
      open_flag o.to o.value flag (open_traps o.value
      (traps_two (IsRowTree holes) (λ x. IsPartOfMarked row s.marks s.b x × IsPartOfMarked row t.marks t.b x) (λ x. is_open x ≡ true)
      (λ x u v. node_open w g holes row m n place r is d s t x u v.0 v.1) o.value k both)))
]
  where
    not_flag : (f : Bool) → is_flag_goal r.to ≡ f → is_flag_goal r.to ≡ false
    not_flag false e = e
    not_flag true e =
        let x = flags_apart s.b r.to s.e.to e s.alike.place in
        let z : true ≡ false = sym x ∙ s.flagless in cc

hole_takes : (w g : ℕ) (o : Option Hole) (hole : Hole) (rs : List Run) → AreRuns w rs → o ≡ Some hole
    → (is_number_hole o ≡ true → (n : ℕ) → IsOfSome rs n → fit_at w g o (Num n) ≡ true) → takes_runs w hole rs ≡ true
hole_takes w g o (NumHole low high inverted) rs k e f =
    some_take w g low high inverted rs k (λ n i. (let x = f (ap is_number_hole e) n i in subst (λ z. fit_at w g z (Num n) ≡ true) e x))
hole_takes w g o (RegHole c) rs k e f = nothing rs
  where
    nothing : (rs : List Run) → takes_runs w (RegHole c) rs ≡ true
    nothing [] = refl
    nothing (r ∷ rs) = nothing rs
hole_takes w g o SymHole rs k e f = nothing rs
  where
    nothing : (rs : List Run) → takes_runs w SymHole rs ≡ true
    nothing [] = refl
    nothing (r ∷ rs) = nothing rs
hole_takes w g o LabelHole rs k e f = nothing rs
  where
    nothing : (rs : List Run) → takes_runs w LabelHole rs ≡ true
    nothing [] = refl
    nothing (r ∷ rs) = nothing rs

-- what a shape with numbers asks of a row, beside that the row does its example
pub record TakesAll (w : ℕ) (holes : List Hole) (row : List Move) (rs : List Run) : Type 0 where
  pub moves : (j : ℕ) (r : Move) → slice_get row j ≡ Some r → is_open_move r.to r.value ≡ true
  pub holes_take : (h : ℕ) (hole : Hole) → slice_get holes h ≡ Some hole → takes_runs w hole rs ≡ true

pub covers_takes : (w g : ℕ) (holes : List Hole) (row : List Move) (run : Run) (rs : List Run) → AreRuns w (run ∷ rs)
    → ((j : ℕ) (r : Move) → slice_get row j ≡ Some r → IsRowMove holes r)
    → ((n : ℕ) → IsOfSome (run ∷ rs) n → DoneAt w g holes row n) → TakesAll w holes row (run ∷ rs)
covers_takes w g holes row run rs k kinds all =
    let m = run.first in
    let n = run.first + run.step in
    let moves = k.0.moves in
    let different : run.first ≡ run.first + run.step → ⊥ = λ e. omega (arith, e, moves) in
    let s = taken_at w g holes row m (all m (inl (first_of w run k.0))) in
    let t = at_first w g holes row m n s (taken_at w g holes row n (all n (inl (second_of w run k.0)))) in
    let kind = kinds s.place s.r s.is in
    record {
      moves = move_open w g holes row kinds m n different s.place s.r s.is s.at t;
      holes_take = λ h hole e. hole_takes w g (slice_get holes h) hole (run ∷ rs) k e (λ z i o.
          hole_has w g holes row i s.place s.r s.is (kind.place, kind.value)
          (at_first w g holes row m i s (taken_at w g holes row i (all i o))) h (slice_get_within holes h hole e) z);
    }
