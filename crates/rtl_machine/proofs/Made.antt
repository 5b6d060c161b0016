-- The transfers of a program's instructions are ones that a machine makes.
use Rattle.std.proofs.Common.{◌≡◌, ℕ, zero, suc, ◌<◌, ◌^◌, Bool, true, false, ◌&&◌, nat_lt, is_some, List, [], ◌∷◌, length, map, slice_get, get_or, Option, Some, None, All, IsTrue, refl, sym, subst}
use Rattle.std.proofs.lemmas.Bool.{ltb-true}
use Rattle.std.proofs.lemmas.List.Elements.{All-map, All-head, All-tail}
use Rattle.std.proofs.lemmas.Option.{slice_get_within}
use Rattle.rtl_word.specs.Words.{IsWordSize}
use Rattle.rtl_tree.specs.declared.cells.Cell.{Cell}
use Rattle.rtl_tree.specs.declared.cells.Cell.TheVariants.{Hard, Temp, Flag, Pc, Input, Output, Halt, Hole as HoleCell}
use Rattle.rtl_tree.specs.declared.constructs.Construct.TheVariants.{Compared, Taken}
use Rattle.rtl_tree.specs.declared.expressions.BinOp.TheVariants.{Pair}
use Rattle.rtl_tree.specs.declared.c_names.Names.{Names}
use Rattle.rtl_tree.specs.Sorts.{IsFitting}
use Rattle.rtl_tree.specs.Trees.{Tree, Number, Symbol, CodeLabel, Read, Load, Unary, Binary, NoPair, AnyNumber, AnyName}
use Rattle.rtl_tree.specs.Moves.{Goal, ToCell, ToMemory, Move}
use Rattle.rtl_tree.specs.WellFormed.{is_construct, free_of, free_below, compares_for_flag, takes_for_register, IsPlaced}
use Rattle.rtl_norm.specs.Transfers.{IsGoalFitting, IsMoveFitting}
use Rattle.md_rows.specs.declared.description.RawDescription.{RawDescription}
use Rattle.md_rows.specs.declared.row.Row.{Row}
use Rattle.md_rows.specs.declared.row.Hole.{Hole}
use Rattle.md_rows.specs.declared.row.Hole.TheVariants.{Reg as RegHole, Num as NumHole, Sym as SymHole, Label as LabelHole}
use Rattle.md_rows.specs.declared.instance.Bound.{Bound}
use Rattle.md_rows.specs.declared.instance.Bound.TheVariants.{Reg, Num, Sym, Label}
use Rattle.md_rows.specs.declared.instance.Instance.{Instance}
use Rattle.md_rows.specs.Fits.{is_in, printed, fits}
use Rattle.md_rows.specs.Instances.{held_by, filled, register_by, filled_goal, filled_move, effects_with, AllFit, general_set}
use Rattle.md_match.specs.Searches.{goal_tree}
use Rattle.md_covers.specs.Covers.{is_register_hole, is_number_hole, is_name_hole, IsRowTree, IsRowMove}
use Rattle.md_said.specs.Sound.{SaidIsSound}
use Rattle.md_bounds.specs.Bounds.{IsBoundedTree, IsBoundedGoal, IsBoundedMove, IsBoundedTransfer, SaidIsBounded}
use Rattle.md_check.specs.Accepted.{normalised_row}
use Rattle.md_check.specs.Checking.{IsChecked}
use Rattle.md_instances.specs.Instances.{IsOfDescription}
use Rattle.asm_row.specs.Line.{IsNamed}
use Rattle.machine_turn.specs.Held.{IsTree, IsForFlag, IsForRegister, IsSideOf}
use Rattle.machine_effect.specs.Law.{IsMade}
use Rattle.asm_program.specs.Programs.{Assembled}
use Rattle.rtl_machine.specs.Loading.{code_of, moves_by, moves_of}

clash : false ≡ true → ⊥
clash e = cc

unlike : true ≡ false → ⊥
unlike e = cc

both_of : (a b : Bool) → (a && b) ≡ true → (a ≡ true) × (b ≡ true)
both_of true b h = (refl, h)
both_of false b h = absurd (clash h)

-- what stands in a hole of each kind

abbrev IsRegister : Option Bound → Type 0
IsRegister (Some (Reg (Hard k))) = k < 64
IsRegister _ = ⊥

abbrev IsWord : ℕ → Option Bound → Type 0
IsWord w (Some (Num v)) = v < 2 ^ w
IsWord w _ = ⊥

abbrev IsName : Option Bound → Type 0
IsName (Some (Sym n)) = Unit {0}
IsName (Some (Label l)) = Unit {0}
IsName _ = ⊥

abbrev AreNamed : Names → List Bound → Type 0
AreNamed n [] = Unit {0}
AreNamed n (v ∷ vs) = IsNamed n v × AreNamed n vs

module _ (w g : ℕ) (n : Names) where
  is_register : (h : Hole) (v : Bound) → IsTrue (fits w g h v) → IsNamed n v → is_register_hole (Some h) ≡ true → IsRegister (Some v)
  is_register (RegHole class) (Reg (Hard k)) f m e = ltb-true k 64 (both_of (nat_lt k 64) (is_in class k) f).0
  is_register (RegHole class) (Reg (Temp t)) f m e = absurd m
  is_register (RegHole class) (Reg (Flag k)) f m e = absurd (clash f)
  is_register (RegHole class) (Reg Pc) f m e = absurd (clash f)
  is_register (RegHole class) (Reg Input) f m e = absurd (clash f)
  is_register (RegHole class) (Reg Output) f m e = absurd (clash f)
  is_register (RegHole class) (Reg Halt) f m e = absurd (clash f)
  is_register (RegHole class) (Reg (HoleCell k)) f m e = absurd (clash f)
  is_register (RegHole class) (Num v) f m e = absurd (clash f)
  is_register (RegHole class) (Sym s) f m e = absurd (clash f)
  is_register (RegHole class) (Label l) f m e = absurd (clash f)
  is_register (NumHole low high inverted) v f m e = absurd (clash e)
  is_register SymHole v f m e = absurd (clash e)
  is_register LabelHole v f m e = absurd (clash e)

  is_word : (h : Hole) (v : Bound) → IsTrue (fits w g h v) → is_number_hole (Some h) ≡ true → IsWord w (Some v)
  is_word (NumHole low high inverted) (Num v) f e = ltb-true v (2 ^ w) (both_of (nat_lt v (2 ^ w)) (is_some (printed w low high inverted v)) f).0
  is_word (NumHole low high inverted) (Reg c) f e = absurd (clash f)
  is_word (NumHole low high inverted) (Sym s) f e = absurd (clash f)
  is_word (NumHole low high inverted) (Label l) f e = absurd (clash f)
  is_word (RegHole class) v f e = absurd (clash e)
  is_word SymHole v f e = absurd (clash e)
  is_word LabelHole v f e = absurd (clash e)

  is_name : (h : Hole) (v : Bound) → IsTrue (fits w g h v) → is_name_hole (Some h) ≡ true → IsName (Some v)
  is_name SymHole (Sym s) f e = tt
  is_name SymHole (Reg c) f e = absurd (clash f)
  is_name SymHole (Num v) f e = absurd (clash f)
  is_name SymHole (Label l) f e = tt
  is_name LabelHole (Label l) f e = tt
  is_name LabelHole (Reg c) f e = absurd (clash f)
  is_name LabelHole (Num v) f e = absurd (clash f)
  is_name LabelHole (Sym s) f e = tt
  is_name (RegHole class) v f e = absurd (clash e)
  is_name (NumHole low high inverted) v f e = absurd (clash e)

  register_in : (hs : List Hole) (b : List Bound) (k : ℕ) → AllFit w g hs b → AreNamed n b → is_register_hole (slice_get hs k) ≡ true → IsRegister (slice_get b k)
  register_in [] b k f m e = absurd (clash e)
  register_in (h ∷ hs) [] k f m e = absurd f
  register_in (h ∷ hs) (v ∷ vs) zero f m e = is_register h v f.0 m.0 e
  register_in (h ∷ hs) (v ∷ vs) (suc k) f m e = register_in hs vs k f.1 m.1 e

  word_in : (hs : List Hole) (b : List Bound) (k : ℕ) → AllFit w g hs b → is_number_hole (slice_get hs k) ≡ true → IsWord w (slice_get b k)
  word_in [] b k f e = absurd (clash e)
  word_in (h ∷ hs) [] k f e = absurd f
  word_in (h ∷ hs) (v ∷ vs) zero f e = is_word h v f.0 e
  word_in (h ∷ hs) (v ∷ vs) (suc k) f e = word_in hs vs k f.1 e

  name_in : (hs : List Hole) (b : List Bound) (k : ℕ) → AllFit w g hs b → is_name_hole (slice_get hs k) ≡ true → IsName (slice_get b k)
  name_in [] b k f e = absurd (clash e)
  name_in (h ∷ hs) [] k f e = absurd f
  name_in (h ∷ hs) (v ∷ vs) zero f e = is_name h v f.0 e
  name_in (h ∷ hs) (v ∷ vs) (suc k) f e = name_in hs vs k f.1 e

register_held : (w : ℕ) (hole : Tree) (o : Option Bound) → IsRegister o → IsTree (Unit {0}) w (held_by hole o)
register_held w hole (Some (Reg (Hard k))) h = h
register_held w hole (Some (Reg (Temp k))) h = absurd h
register_held w hole (Some (Reg (Flag k))) h = absurd h
register_held w hole (Some (Reg Pc)) h = absurd h
register_held w hole (Some (Reg Input)) h = absurd h
register_held w hole (Some (Reg Output)) h = absurd h
register_held w hole (Some (Reg Halt)) h = absurd h
register_held w hole (Some (Reg (HoleCell k))) h = absurd h
register_held w hole (Some (Num v)) h = absurd h
register_held w hole (Some (Sym s)) h = absurd h
register_held w hole (Some (Label l)) h = absurd h
register_held w hole None h = absurd h

word_held : (w : ℕ) (hole : Tree) (o : Option Bound) → IsWord w o → IsTree (Unit {0}) w (held_by hole o)
word_held w hole (Some (Num v)) h = h
word_held w hole (Some (Reg c)) h = absurd h
word_held w hole (Some (Sym s)) h = absurd h
word_held w hole (Some (Label l)) h = absurd h
word_held w hole None h = absurd h

name_held : (w : ℕ) (hole : Tree) (o : Option Bound) → IsName o → IsTree (Unit {0}) w (held_by hole o)
name_held w hole (Some (Sym s)) h = tt
name_held w hole (Some (Label l)) h = tt
name_held w hole (Some (Reg c)) h = absurd h
name_held w hole (Some (Num v)) h = absurd h
name_held w hole None h = absurd h

register_goal : (w : ℕ) (hole : Cell) (o : Option Bound) (t : Tree) → IsRegister o → IsForRegister (Unit {0}) w t → IsSideOf (Unit {0}) w (ToCell (register_by hole o)) t
register_goal w hole (Some (Reg (Hard k))) t h s = (h, s)
register_goal w hole (Some (Reg (Temp k))) t h s = absurd h
register_goal w hole (Some (Reg (Flag k))) t h s = absurd h
register_goal w hole (Some (Reg Pc)) t h s = absurd h
register_goal w hole (Some (Reg Input)) t h s = absurd h
register_goal w hole (Some (Reg Output)) t h s = absurd h
register_goal w hole (Some (Reg Halt)) t h s = absurd h
register_goal w hole (Some (Reg (HoleCell k))) t h s = absurd h
register_goal w hole (Some (Num v)) t h s = absurd h
register_goal w hole (Some (Sym s)) t h i = absurd h
register_goal w hole (Some (Label l)) t h s = absurd h
register_goal w hole None t h s = absurd h

-- a row with values in its holes

module _ (w g : ℕ) (n : Names) (holes : List Hole) (b : List Bound) (fit : AllFit w g holes b) (named : AreNamed n b) where
  tree_made : (t : Tree) → IsRowTree holes t → IsBoundedTree t → IsFitting w t → free_of Taken t ≡ true → IsTree (Unit {0}) w (filled b t)
  tree_made (Number k) r c f e = f
  tree_made (Symbol k) r c f e = absurd r
  tree_made (CodeLabel l) r c f e = absurd r
  tree_made (Read (HoleCell k)) r c f e = register_held w (Read (HoleCell k)) (slice_get b k) (register_in w g n holes b k fit named r)
  tree_made (Read (Hard k)) r c f e = c
  tree_made (Read (Temp k)) r c f e = absurd r
  tree_made (Read (Flag k)) r c f e = tt
  tree_made (Read Pc) r c f e = tt
  tree_made (Read Input) r c f e = absurd (clash e)
  tree_made (Read Output) r c f e = tt
  tree_made (Read Halt) r c f e = tt
  tree_made (Load d a) r c f e = tree_made a r c f e
  tree_made (Unary o a) r c f e = tree_made a r c f e
  tree_made (Binary o a x) r c f e =
      let k = both_of (free_of Taken a) (free_of Taken x) e in (tree_made a r.0 c.0 f.0 k.0, tree_made x r.1 c.1 f.1 k.1)
  tree_made NoPair r c f e = tt
  tree_made (AnyNumber k) r c f e = word_held w (AnyNumber k) (slice_get b k) (word_in w g n holes b k fit r)
  tree_made (AnyName k) r c f e = name_held w (AnyName k) (slice_get b k) (name_in w g n holes b k fit r)

  for_register : (t : Tree) → IsRowTree holes t → IsBoundedTree t → IsFitting w t → free_below Taken t ≡ true → IsForRegister (Unit {0}) w (filled b t)
  for_register (Number k) r c f e i = f
  for_register (Symbol k) r c f e i = absurd r
  for_register (CodeLabel l) r c f e i = absurd r
  for_register (Read Input) r c f e i = absurd (unlike i)
  for_register (Read (HoleCell k)) r c f e i = tree_made (Read (HoleCell k)) r c f refl
  for_register (Read (Hard k)) r c f e i = c
  for_register (Read (Temp k)) r c f e i = absurd r
  for_register (Read (Flag k)) r c f e i = tt
  for_register (Read Pc) r c f e i = tt
  for_register (Read Output) r c f e i = tt
  for_register (Read Halt) r c f e i = tt
  for_register (Load d a) r c f e i = tree_made a r c f e
  for_register (Unary o a) r c f e i = tree_made a r c f e
  for_register (Binary o a x) r c f e i = tree_made (Binary o a x) r c f e
  for_register NoPair r c f e i = tt
  for_register (AnyNumber k) r c f e i = tree_made (AnyNumber k) r c f refl
  for_register (AnyName k) r c f e i = tree_made (AnyName k) r c f refl

  for_flag : (t : Tree) → IsRowTree holes t → IsBoundedTree t → IsFitting w t → is_construct Compared t ≡ true → free_of Taken t ≡ true
      → IsForFlag (Unit {0}) w (filled b t)
  for_flag (Binary Pair a x) r c f s e =
      let k = both_of (free_of Taken a) (free_of Taken x) e in (tree_made a r.0 c.0 f.0 k.0, tree_made x r.1 c.1 f.1 k.1)
  for_flag (Binary _ a x) r c f s e = absurd (clash s)
  for_flag NoPair r c f s e = tt
  for_flag (Number k) r c f s e = absurd (clash s)
  for_flag (Symbol k) r c f s e = absurd (clash s)
  for_flag (CodeLabel l) r c f s e = absurd (clash s)
  for_flag (Read k) r c f s e = absurd (clash s)
  for_flag (Load d a) r c f s e = absurd (clash s)
  for_flag (Unary o a) r c f s e = absurd (clash s)
  for_flag (AnyNumber k) r c f s e = absurd (clash s)
  for_flag (AnyName k) r c f s e = absurd (clash s)

  side_made : (to : Goal) (t : Tree) → IsRowTree holes (goal_tree to) → IsRowTree holes t → IsBoundedGoal to → IsBoundedTree t → IsGoalFitting w to → IsFitting w t
      → compares_for_flag to t ≡ true → takes_for_register to t ≡ true → IsSideOf (Unit {0}) w (filled_goal b to) (filled b t)
  side_made (ToCell (HoleCell k)) t p r q c h f s e =
      register_goal w (HoleCell k) (slice_get b k) (filled b t) (register_in w g n holes b k fit named p) (for_register t r c f e)
  side_made (ToCell (Hard k)) t p r q c h f s e = (q, for_register t r c f e)
  side_made (ToCell (Temp k)) t p r q c h f s e = absurd p
  side_made (ToCell (Flag k)) t p r q c h f s e = (q, for_flag t r c f (both_of (is_construct Compared t) (free_below Compared t) s).0 e)
  side_made (ToCell Pc) t p r q c h f s e = tree_made t r c f e
  side_made (ToCell Input) t p r q c h f s e = absurd (clash e)
  side_made (ToCell Output) t p r q c h f s e = tree_made t r c f e
  side_made (ToCell Halt) t p r q c h f s e = tree_made t r c f e
  side_made (ToMemory d a) t p r q c h f s e =
      let k = both_of (free_of Taken a) (free_of Taken t) e in (tree_made a p q h k.0, tree_made t r c f k.1)

  move_made : (m : Move) → IsRowMove holes m → IsMoveFitting w m → IsBoundedMove m → IsPlaced m
      → IsSideOf (Unit {0}) w (filled_goal b m.to) (filled b m.value)
  move_made m r f c p = side_made m.to m.value r.place r.value c.goal c.value f.0 f.1 p.flags p.input

-- what holds of the rows of an accepted description
pub record IsMachineRow (w : ℕ) (row : Row) : Type 0 where
  pub effects : All (IsRowMove row.holes) row.effects
  pub numbers : All (IsMoveFitting w) row.effects
  pub bounded : IsBoundedTransfer row.effects

row_made : (w g : ℕ) (n : Names) (row : Row) (b : List Bound) → IsMachineRow w row → AllFit w g row.holes b → AreNamed n b → IsMade w (effects_with row b)
row_made w g n row b s fit named =
    All-map (λ q. IsSideOf (Unit {0}) w q.to q.value) (filled_move b) row.effects
    (λ k d lt. move_made w g n row.holes b fit named (get_or row.effects k d) (s.effects k d lt) (s.numbers k d lt) (s.bounded.moves k d lt)
    (s.bounded.formed.placed k d lt))

none_some : {A : Type 0} (x : A) → None ≡ Some x → ⊥
none_some x e = cc

some_same : {A : Type 0} (x y : A) → Some x ≡ Some y → x ≡ y
some_same x y e = cc

-- a normal form beside a row's transfer changes nothing
row_at : (w : ℕ) (rows : List Row) → ((i : ℕ) (r : Row) → slice_get rows i ≡ Some r → IsMachineRow w r) → (k : ℕ) (row : Row)
    → slice_get (map (normalised_row w) rows) k ≡ Some row → IsMachineRow w row
row_at w [] h k row e = absurd (none_some row e)
row_at w (r ∷ rows) h zero row e =
    let s = h zero r refl in
    subst (IsMachineRow w) (some_same (normalised_row w r) row e) (record { effects = s.effects; numbers = s.numbers; bounded = s.bounded })
row_at w (r ∷ rows) h (suc k) row e = row_at w rows (λ i x f. h (suc i) x f) k row e

-- what is known of an accepted description, for a machine
pub record IsMachineOf (d : RawDescription) : Type 0 where
  pub size : IsWordSize d.word
  pub memory : d.memory < 2 ^ d.word
  pub rows : (k : ℕ) (row : Row) → slice_get d.rows k ≡ Some row → IsMachineRow d.word row

pub checked_machine : (w : ℕ) (d : RawDescription) → SaidIsSound → SaidIsBounded → IsChecked w d → IsMachineOf d
checked_machine w d sound bounded c =
    let s = sound c.text c.said c.accepted.says in
    let b = bounded c.text c.said c.accepted.says in
    subst IsMachineOf (sym c.normal) (record {
      size = s.size;
      memory = b.memory;
      rows = row_at c.said.word c.said.rows
          (λ i r e. let x = s.rows i r e in record { effects = x.effects; numbers = x.numbers; bounded = b.rows i r e });
    })

pub row_within : (d : RawDescription) (i : Instance) → IsOfDescription d i → i.row < length d.rows
row_within d i o = slice_get_within d.rows i.row o.0 o.1.has_row

named_all : (n : Names) (b : List Bound) → All (IsNamed n) b → AreNamed n b
named_all n [] a = tt
named_all n (v ∷ vs) a = (All-head (IsNamed n) v vs a, named_all n vs (All-tail (IsNamed n) v vs a))

line_made : (d : RawDescription) (n : Names) (i : Instance) → IsMachineOf d → IsOfDescription d i → All (IsNamed n) i.binding → IsMade d.word (moves_of d i)
line_made d n i m o named =
    subst (λ (x : Option Row). IsMade d.word (moves_by x i.binding)) (sym o.1.has_row)
    (row_made d.word (general_set d.registers) n o.0 i.binding (m.rows i.row o.0 o.1.has_row) o.1.fit (named_all n i.binding named))

pub program_made : (d : RawDescription) (p : Assembled) → IsMachineOf d → All (IsOfDescription d) p.lines → All (λ i. All (IsNamed p.names) i.binding) p.lines
    → All (IsMade d.word) (code_of d p).transfers
program_made d p m instances named =
    All-map (IsMade d.word) (moves_of d) p.lines (λ k i lt. line_made d p.names (get_or p.lines k i) m (instances k i lt) (named k i lt))
