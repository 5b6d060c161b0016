-- The places that a transfer of a shape assigns.
use Rattle.std.proofs.Common.{◌≡◌, ◌⊎◌, inl, inr, ℕ, zero, suc, Bool, true, false, ◌||◌, List, [], ◌∷◌, slice_get, Option, Some, None, refl, sym, subst, ap, ◌∙◌}
use Rattle.std.specs.List.{list_any}
use Rattle.rtl_tree.specs.declared.cells.Cell.{Cell}
use Rattle.rtl_tree.specs.declared.cells.Cell.TheVariants.{Hard, Temp, Flag, Pc, Input, Output, Halt, Hole as RegisterHole}
use Rattle.rtl_tree.specs.declared.expressions.Width.{Width}
use Rattle.rtl_tree.specs.Trees.{Tree, Read, Load}
use Rattle.rtl_tree.specs.Moves.{Goal, ToCell, ToMemory, Move}
use Rattle.rtl_tree.specs.Likeness.{IsAlike}
use Rattle.rtl_norm.specs.Normal.{norm}
use Rattle.rtl_norm.specs.Transfers.{norm_goal}
use Rattle.md_rows.specs.declared.instance.Bound.{Bound}
use Rattle.md_rows.specs.declared.instance.Bound.TheVariants.{Reg, Num, Sym, Label}
use Rattle.md_rows.specs.Instances.{held_by, register_by, filled, filled_goal, filled_move}
use Rattle.md_match.specs.Searches.{goal_tree}
use Rattle.md_filled.specs.Held.{IsRegister, IsHeld}
use Rattle.md_filled.proofs.Alike.{alike_read, alike_load}
use Rattle.md_filled.proofs.Lookups.{Among}
use Rattle.md_filled.proofs.Partner.{memory_is}
use Rattle.temp_machine.specs.Cells.{sets_by, some_set}
use Rattle.temp_laws.proofs.Making.{Makes, held_at, kind, taker, comes_from, made}

-- a cell and the same cell, or memory and memory
pub data SamePlace : Goal → Goal → Type 0 where
  cells : (c : Cell) → SamePlace (ToCell c) (ToCell c)
  stores : (d : Width) (a b : Tree) → SamePlace (ToMemory d a) (ToMemory d b)

read_same : (c d : Cell) → Read c ≡ Read d → c ≡ d
read_same c d e = cc

no_load : (d : Width) (a : Tree) (c : Cell) → Load d a ≡ Read c → ⊥
no_load d a c e = cc

cell_place : (c : Cell) (to : Goal) → IsAlike (Read c) (goal_tree to) → SamePlace (ToCell c) to
cell_place c (ToCell d) h =
    subst (λ (x : Cell). SamePlace (ToCell c) (ToCell x)) (sym (read_same d c (alike_read c (Read d) h))) (cells c)
cell_place c (ToMemory d a) h = absurd (no_load d a c (alike_read c (Load d a) h))

hole_place : (h : ℕ) (o : Option Bound) (to : Goal) → IsRegister o → IsAlike (held_by (Read (RegisterHole h)) o) (goal_tree to)
    → SamePlace (ToCell (register_by (RegisterHole h) o)) to
hole_place h (Some (Reg (Hard k))) to i a = cell_place (Hard k) to a
hole_place h (Some (Reg (Temp n))) to i a = cell_place (Temp n) to a
hole_place h (Some (Reg (Flag n))) to i a = absurd i
hole_place h (Some (Reg Pc)) to i a = absurd i
hole_place h (Some (Reg Input)) to i a = absurd i
hole_place h (Some (Reg Output)) to i a = absurd i
hole_place h (Some (Reg Halt)) to i a = absurd i
hole_place h (Some (Reg (RegisterHole n))) to i a = absurd i
hole_place h (Some (Num n)) to i a = absurd i
hole_place h (Some (Sym n)) to i a = absurd i
hole_place h (Some (Label l)) to i a = absurd i
hole_place h None to i a = absurd i

pub place_same : (w : ℕ) (b : List Bound) (g to : Goal) → IsHeld w b (goal_tree g) → IsAlike (filled b (goal_tree (norm_goal w g))) (goal_tree to)
    → SamePlace (filled_goal b g) to
place_same w b (ToCell (RegisterHole h)) to i a = hole_place h (slice_get b h) to i a
place_same w b (ToCell (Hard n)) to i a = cell_place (Hard n) to a
place_same w b (ToCell (Temp n)) to i a = cell_place (Temp n) to a
place_same w b (ToCell (Flag n)) to i a = cell_place (Flag n) to a
place_same w b (ToCell Pc) to i a = cell_place Pc to a
place_same w b (ToCell Input) to i a = cell_place Input to a
place_same w b (ToCell Output) to i a = cell_place Output to a
place_same w b (ToCell Halt) to i a = cell_place Halt to a
place_same w b (ToMemory d s) to i a =
    let l = alike_load d (filled b (norm w s)) (goal_tree to) a in
    subst (λ (x : Goal). SamePlace (ToMemory d (filled b s)) x) (sym (memory_is d (filled b (norm w s)) to l)) (stores d (filled b s) l.at)

pub goal_same : (c d : Cell) → (let g : Goal = ToCell c in g ≡ ToCell d) → c ≡ d
goal_same c d e = cc

no_cell : (d : Width) (a : Tree) (c : Cell) → (let g : Goal = ToMemory d a in g ≡ ToCell c) → ⊥
no_cell d a c e = cc

-- where one of them is a cell, the other is
pub to_cell : (g h : Goal) (c : Cell) → SamePlace g h → g ≡ ToCell c → h ≡ ToCell c
to_cell _ _ c (cells d) e = e
to_cell _ _ c (stores d a b) e = absurd (no_cell d a c e)

pub from_cell : (g h : Goal) (c : Cell) → SamePlace g h → h ≡ ToCell c → g ≡ ToCell c
from_cell _ _ c (cells d) e = e
from_cell _ _ c (stores d a b) e = absurd (no_cell d b c e)

-- tests of lists

or_right : (a b : Bool) → b ≡ true → (a || b) ≡ true
or_right true b e = refl
or_right false b e = e

or_left : (a b : Bool) → a ≡ true → (a || b) ≡ true
or_left true b e = refl
or_left false b e = let k : false ≡ true = e in cc

no_item : (m : Move) → None ≡ Some m → ⊥
no_item m e = cc

same_item : (m n : Move) → Some m ≡ Some n → m ≡ n
same_item m n e = cc

pub any_true : (f : Move → Bool) (ms : List Move) (x : Move) → Among ms x → f x ≡ true → list_any f ms ≡ true
any_true f ms x a h = go ms a.place a.is
  where
    go : (ns : List Move) (i : ℕ) → slice_get ns i ≡ Some x → list_any f ns ≡ true
    go [] i e = absurd (no_item x e)
    go (n ∷ ns) zero e = or_left (f n) (list_any f ns) (subst (λ (y : Move). f y ≡ true) (sym (same_item n x e)) h)
    go (n ∷ ns) (suc i) e = or_right (f n) (list_any f ns) (go ns i e)

pub record Passes (f : Move → Bool) (ms : List Move) : Type 0 where
  pub move : Move
  pub among : Among ms move
  pub passes : f move ≡ true

pub any_from : (f : Move → Bool) (ms : List Move) → list_any f ms ≡ true → Passes f ms
any_from f [] e = let k : false ≡ true = e in cc
any_from f (m ∷ ms) e = by (λ k. any_from f ms k) (f m) refl e
  where
    behind : Passes f ms → Passes f (m ∷ ms)
    behind p = record { move = p.move; among = record { place = suc p.among.place; is = p.among.is }; passes = p.passes }

    by : (list_any f ms ≡ true → Passes f ms) → (b : Bool) → f m ≡ b → (b || list_any f ms) ≡ true → Passes f (m ∷ ms)
    by next true k e = record { move = m; among = record { place = 0; is = refl }; passes = k }
    by next false k e = behind (next e)

pub none_by : (f : Move → Bool) (ms : List Move) → ((x : Move) → Among ms x → f x ≡ false) → list_any f ms ≡ false
none_by f [] h = refl
none_by f (m ∷ ms) h =
    ap (λ (b : Bool). b || list_any f ms) (h m (record { place = 0; is = refl }))
    ∙ none_by f ms (λ x a. h x (record { place = suc a.place; is = a.is }))

clash : (b : Bool) → b ≡ true → b ≡ false → ⊥
clash b h k = let q : true ≡ false = sym h ∙ k in cc

pub each_false : (f : Move → Bool) (ms : List Move) (x : Move) → Among ms x → list_any f ms ≡ false → f x ≡ false
each_false f ms x a e = by (f x) refl
  where
    by : (b : Bool) → f x ≡ b → f x ≡ false
    by true k = absurd (clash (list_any f ms) (any_true f ms x a k) e)
    by false k = k

-- what is set

sets_same : (p : Cell → Bool) (g h : Goal) → SamePlace g h → sets_by p g ≡ sets_by p h
sets_same p _ _ (cells c) = refl
sets_same p _ _ (stores d a b) = refl

module _ (w g : ℕ) (es ms : List Move) (m : Makes w g es ms) where
  -- an assignment of the transfer is to the place of one of the shape's, or to a flag
  pub record AtShape (x : Move) : Type 0 where
    pub move : Move
    pub among : Among es move
    pub same : SamePlace x.to move.to

  pub record AtFlag (x : Move) : Type 0 where
    pub flag : ℕ
    pub is : x.to ≡ ToCell (Flag flag)

  pub goes_to : (x : Move) → Among ms x → AtShape x ⊎ AtFlag x
  goes_to x a =
      let from = comes_from w g es ms m x a in
      let held = held_at w g es ms m from.1.place from.0 from.1.is in
      elim (kind w g es ms m from.0 from.1) [
        | inl t ↦ inl (record {
          move = t.move;
          among = t.among;
          same = subst (λ (y : Move). SamePlace y.to t.move.to) from.2 (place_same w m.binding from.0.to t.move.to held.place t.alike.place);
        })
        | inr i ↦ inr (record { flag = i.flag.flag; is = ap (λ (y : Move). y.to) (sym from.2) ∙ ap (filled_goal m.binding) i.flag.is })
      ]

  -- each assignment of the shape has one of the transfer to its place
  pub taken_to : (y : Move) → Among es y → (x : Move) × Among ms x × SamePlace x.to y.to
  taken_to y a =
      let t = taker w g es ms m y a in
      let held = held_at w g es ms m t.1.place t.0 t.1.is in
      (filled_move m.binding t.0, made w g es ms m t.0 t.1, place_same w m.binding t.0.to y.to held.place t.2.place)

  pub sets_kept : (p : Cell → Bool) → some_set p es ≡ true → some_set p ms ≡ true
  sets_kept p e =
      let k = any_from (λ y. sets_by p y.to) es e in
      let t = taken_to k.move k.among in
      any_true (λ y. sets_by p y.to) ms t.0 t.1 (sets_same p t.0.to k.move.to t.2 ∙ k.passes)

  sets_only : (p : Cell → Bool) → ((n : ℕ) → p (Flag n) ≡ false) → some_set p ms ≡ true → some_set p es ≡ true
  sets_only p f e =
      let k = any_from (λ y. sets_by p y.to) ms e in
      elim (goes_to k.move k.among) [
        | inl s ↦ any_true (λ y. sets_by p y.to) es s.move s.among (sym (sets_same p k.move.to s.move.to s.same) ∙ k.passes)
        | inr l ↦ absurd (clash (sets_by p k.move.to) k.passes (ap (sets_by p) l.is ∙ f l.flag))
      ]

  pub sets_equal : (p : Cell → Bool) → ((n : ℕ) → p (Flag n) ≡ false) → some_set p ms ≡ some_set p es
  sets_equal p f = by (some_set p ms) (some_set p es) refl refl
    where
      by : (a b : Bool) → some_set p ms ≡ a → some_set p es ≡ b → a ≡ b
      by true true h k = refl
      by false false h k = refl
      by true false h k = absurd (clash (some_set p es) (sets_only p f h) k)
      by false true h k = absurd (clash (some_set p ms) (sets_kept p k) h)
