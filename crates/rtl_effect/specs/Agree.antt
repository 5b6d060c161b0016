-- A newer view that agrees with an older one where the older one is set and live.
use Rattle.std.specs.Prelude.{ℕ, ◌≡◌, Bool, true, List, [], ◌∷◌, Option, Some, None, Result, Ok, Err}
use Rattle.rtl_tree.specs.Trees.{Tree, CodeLabel, Read, Load, Unary, Binary}
use Rattle.rtl_tree.specs.declared.expressions.BinOp.TheVariants.{When}
use Rattle.rtl_tree.specs.declared.cells.Cell.{Cell}
use Rattle.rtl_tree.specs.declared.cells.Cell.TheVariants.{Flag, Pc}
use Rattle.rtl_tree.specs.declared.cells.Lab.{Lab}
use Rattle.rtl_effect.specs.Views.{Stop, Mark, Holds, Gone, View}
use Rattle.rtl_tree.specs.Moves.{Goal, ToCell, ToMemory, Move}
use Rattle.rtl_effect.specs.Effects.{Done}

-- where the older is set, the newer is equal
pub data Tells : Option ℕ → Option ℕ → Type 0 where
  blank : (y : Option ℕ) → Tells None y
  word : (n : ℕ) → Tells (Some n) (Some n)

pub data Marks : Mark → Mark → Type 0 where
  gone : (y : Mark) → Marks Gone y
  holds : (a b : ℕ) → Marks (Holds a b) (Holds a b)

-- where the older gives something, so does the newer; where the older stops, the newer may do anything
pub data Refines (A : Type 0) (B : Type 0) (R : A → B → Type 0) : Result A Stop → Result B Stop → Type 0 where
  stops : (s : Stop) (y : Result B Stop) → Refines A B R (Err s) y
  gives : (x : A) (y : B) → R x y → Refines A B R (Ok x) (Ok y)

-- the relation on places where both sides number them alike
abbrev pub Alike : Option ℕ → Option ℕ → Type 0
Alike x y = x ≡ y

-- what two views share for trees, beside cells and flags
pub record Land (v z : View) : Type 0 where
  pub bytes : (a : ℕ) → Tells (v.bytes a) (z.bytes a)
  pub size : v.size ≡ z.size
  pub reach : (a : ℕ) → v.reach a ≡ true → z.reach a ≡ true
  pub symbols : (n : ℕ) → v.symbols n ≡ z.symbols n
  pub labels : (l : Lab) → Tells (v.labels l) (z.labels l)

-- all that a tree over these cells reads
pub record Sight (live : Cell → Bool) (v z : View) : Type 0 where
  pub cells : (c : Cell) → live c ≡ true → Tells (v.cells c) (z.cells c)
  pub flags : (n : ℕ) → live (Flag n) ≡ true → Marks (v.flags n) (z.flags n)
  pub land : Land v z

-- the same with a relation on places, in which what follows is related
pub record AgreeBy (P : Option ℕ → Option ℕ → Type 0) (live : Cell → Bool) (v z : View) : Type 0 where
  pub sight : Sight live v z
  pub input : v.input ≡ z.input
  pub on : P (v.cells Pc) (z.cells Pc)

-- where the older has a target, that of the newer is related
abbrev pub Aimed : (Option ℕ → Option ℕ → Type 0) → Option ℕ → Option ℕ → Type 0
Aimed P None y = Unit {0}
Aimed P (Some n) None = ⊥
Aimed P (Some n) (Some m) = P (Some n) (Some m)

-- the value of the program counter leads to related places; one that is no label may be any word
abbrev pub TargetAims : (Option ℕ → Option ℕ → Type 0) → View → View → Tree → Type 0
TargetAims P v z (CodeLabel l) = Aimed P (v.targets l) (z.targets l)
TargetAims P v z _ = (n : ℕ) → Aimed P (v.places n) (z.places n)

abbrev pub JumpAims : (Option ℕ → Option ℕ → Type 0) → View → View → Tree → Type 0
JumpAims P v z (Binary When c l) = TargetAims P v z l
JumpAims P v z t = TargetAims P v z t

abbrev pub MaybeAims : (Option ℕ → Option ℕ → Type 0) → View → View → Option Tree → Type 0
MaybeAims P v z None = Unit {0}
MaybeAims P v z (Some t) = JumpAims P v z t

abbrev pub GoalAims : (Option ℕ → Option ℕ → Type 0) → View → View → Goal → Tree → Type 0
GoalAims P v z (ToCell Pc) t = JumpAims P v z t
GoalAims P v z _ t = Unit {0}

abbrev pub AllAim : (Option ℕ → Option ℕ → Type 0) → View → View → List Move → Type 0
AllAim P v z [] = Unit {0}
AllAim P v z (m ∷ ms) = GoalAims P v z m.to m.value × AllAim P v z ms

-- what two views share beside cells and flags, where places are numbered alike
pub record Ground (v z : View) : Type 0 where
  pub bytes : (a : ℕ) → Tells (v.bytes a) (z.bytes a)
  pub size : v.size ≡ z.size
  pub reach : (a : ℕ) → v.reach a ≡ true → z.reach a ≡ true
  pub symbols : (n : ℕ) → v.symbols n ≡ z.symbols n
  pub labels : (l : Lab) → Tells (v.labels l) (z.labels l)
  pub targets : (l : Lab) → v.targets l ≡ z.targets l
  pub places : (n : ℕ) → v.places n ≡ z.places n
  pub place : v.cells Pc ≡ z.cells Pc

-- all that a tree over these cells reads
pub record Shows (live : Cell → Bool) (v z : View) : Type 0 where
  pub cells : (c : Cell) → live c ≡ true → Tells (v.cells c) (z.cells c)
  pub flags : (n : ℕ) → live (Flag n) ≡ true → Marks (v.flags n) (z.flags n)
  pub ground : Ground v z

pub record Agree (live : Cell → Bool) (v z : View) : Type 0 where
  pub shows : Shows live v z
  pub input : v.input ≡ z.input

-- each cell that the tree reads is in the set
abbrev pub Within : (Cell → Bool) → Tree → Type 0
Within live (Read c) = live c ≡ true
Within live (Load d a) = Within live a
Within live (Unary o a) = Within live a
Within live (Binary o a b) = Within live a × Within live b
Within live _ = Unit {0}

abbrev pub GoalWithin : (Cell → Bool) → Goal → Type 0
GoalWithin live (ToCell c) = Unit {0}
GoalWithin live (ToMemory d a) = Within live a

abbrev pub AllWithin : (Cell → Bool) → List Move → Type 0
AllWithin live [] = Unit {0}
AllWithin live (m ∷ ms) = Within live m.value × GoalWithin live m.to × AllWithin live ms

pub record DoneAgree (live : Cell → Bool) (x y : Done) : Type 0 where
  pub view : Agree live x.view y.view
  pub place : x.place ≡ y.place
  pub output : x.output ≡ y.output
  pub halt : x.halt ≡ y.halt

pub record DoneAgreeBy (P : Option ℕ → Option ℕ → Type 0) (later : Cell → Bool) (x y : Done) : Type 0 where
  pub view : AgreeBy P later x.view y.view
  pub place : P x.place y.place
  pub output : x.output ≡ y.output
  pub halt : x.halt ≡ y.halt
