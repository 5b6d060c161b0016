-- A transfer of a shape does what the shape does.
use Rattle.std.proofs.Common.{◌≡◌, ℕ, Bool, true, false, ◌||◌, List, [], ◌∷◌, Option, Some, None, refl, sym, subst, ap, ◌∙◌}
use Rattle.rtl_word.specs.Words.{IsWordSize}
use Rattle.rtl_tree.specs.declared.cells.Cell.{Cell}
use Rattle.rtl_tree.specs.declared.cells.Cell.TheVariants.{Hard, Temp, Flag, Pc, Input, Output, Halt, Hole as RegisterHole}
use Rattle.rtl_tree.specs.Trees.{Tree}
use Rattle.rtl_tree.specs.Moves.{Goal, ToCell, ToMemory, Move}
use Rattle.rtl_tree.specs.Same.{same_cell}
use Rattle.rtl_tree.proofs.Equality.{and_left}
use Rattle.rtl_norm_value.specs.Effect.{jump_in_form, with_normal_jump}
use Rattle.md_match.specs.Searches.{is_flag_of}
use Rattle.md_shapes.specs.declared.patterns.Pattern.{Pattern}
use Rattle.md_shapes.specs.declared.patterns.Pattern.TheVariants as shape
use Rattle.md_shapes.specs.Shapes.{Frame, Open, shape_moves, saved, restored, stack_plus}
use Rattle.md_covers.specs.Covers.{IsGeneral, general_bits}
use Rattle.md_said.specs.Sound.{SaidIsSound}
use Rattle.md_bounds.specs.Bounds.{SaidIsBounded}
use Rattle.md_filled.specs.Doing.{DoesAs, IsSimple}
use Rattle.md_filled.proofs.Doing.{row_does_as}
use Rattle.temp_machine.specs.Cells.{sets_by, some_set}
use Rattle.temp_laws.specs.Doing.{ends_block, TransfersDoShapes, BodiesDoShapes}
use Rattle.temp_shapes.proofs.Roles.{checked_size}
use Rattle.temp_laws.proofs.Making.{Makes, made_of, row_filled}
use Rattle.temp_laws.proofs.Places.{sets_equal}
use Rattle.temp_laws.proofs.Simple.{shape_simple}

pub made_does : (w g : ℕ) (es ms : List Move) → IsWordSize w → IsSimple es → Makes w g es ms → DoesAs w es (with_normal_jump w ms)
made_does w g es ms size simple m =
    subst (λ (xs : List Move). DoesAs w es (with_normal_jump w xs)) (sym m.effects)
    (row_does_as w m.binding m.row.effects es m.marks size (row_filled w g es ms m) simple m.does.takes
    (λ r k. and_left (is_flag_of 255 r.to) _ (m.does.others r k)) m.does.traps)

pub shapes_done : SaidIsSound → SaidIsBounded → TransfersDoShapes
shapes_done sound bounded w d frame pattern at t c fit h =
    made_does d.word _ (shape_moves frame pattern at) t.what (checked_size w d sound c) (shape_simple frame (general_bits d.registers) at fit.a pattern)
    (made_of w d frame pattern at t sound bounded c h)

-- a transfer that doesn't set the program counter has a normal jump

jump_kept : (w : ℕ) (g : Goal) (t : Tree) → sets_by (same_cell Pc) g ≡ false → jump_in_form w g t ≡ t
jump_kept w (ToCell (Hard n)) t e = refl
jump_kept w (ToCell (Temp n)) t e = refl
jump_kept w (ToCell (Flag n)) t e = refl
jump_kept w (ToCell Pc) t e = let k : true ≡ false = e in cc
jump_kept w (ToCell Input) t e = refl
jump_kept w (ToCell Output) t e = refl
jump_kept w (ToCell Halt) t e = refl
jump_kept w (ToCell (RegisterHole n)) t e = refl
jump_kept w (ToMemory d a) t e = refl

neither : (a b : Bool) → (a || b) ≡ false → (a ≡ false) × (b ≡ false)
neither true b e = let k : true ≡ false = e in cc
neither false b e = (refl, e)

jumps_kept : (w : ℕ) (ms : List Move) → some_set (same_cell Pc) ms ≡ false → with_normal_jump w ms ≡ ms
jumps_kept w [] e = refl
jumps_kept w (m ∷ ms) e =
    let k = neither (sets_by (same_cell Pc) m.to) (some_set (same_cell Pc) ms) e in
    ap (λ (t : Tree). record { to = m.to; value = t } ∷ with_normal_jump w ms) (jump_kept w m.to m.value k.0)
    ∙ ap (λ (xs : List Move). m ∷ xs) (jumps_kept w ms k.1)

-- no shape of a body sets it

no_counter : (g : ℕ) (c : Cell) → IsGeneral g c → same_cell Pc c ≡ false
no_counter g (Hard n) h = refl
no_counter g (Temp n) h = refl
no_counter g (Flag n) h = absurd h
no_counter g Pc h = absurd h
no_counter g Input h = absurd h
no_counter g Output h = absurd h
no_counter g Halt h = absurd h
no_counter g (RegisterHole n) h = absurd h

saves : (z : Option ℕ) (at : Tree) → some_set (same_cell Pc) (saved z at) ≡ false
saves (Some z) at = refl
saves None at = refl

restores : (z : Option ℕ) (at : Tree) → some_set (same_cell Pc) (restored z at) ≡ false
restores (Some z) at = refl
restores None at = refl

module _ (m : Frame) (g : ℕ) (p : Open) (a : IsGeneral g p.a) where
  sets_a : (same_cell Pc p.a || false) ≡ false
  sets_a = ap (λ (b : Bool). b || false) (no_counter g p.a a)

  pub body_sets : (q : Pattern) → ends_block q ≡ false → some_set (same_cell Pc) (shape_moves m q p) ≡ false
  body_sets shape.Copy e = sets_a
  body_sets shape.SetNumber e = sets_a
  body_sets shape.SetSymbol e = sets_a
  body_sets shape.Load e = sets_a
  body_sets shape.Store e = refl
  body_sets shape.LoadByte e = sets_a
  body_sets shape.StoreByte e = refl
  body_sets shape.LoadHome e = sets_a
  body_sets shape.StoreHome e = refl
  body_sets shape.StoreTop e = refl
  body_sets shape.ReadStack e = sets_a
  body_sets shape.MoveStack e = refl
  body_sets shape.SetStack e = refl
  body_sets (shape.Operate o) e = sets_a
  body_sets shape.Complement e = sets_a
  body_sets shape.Clear e = sets_a
  body_sets shape.Jump e = let k : true ≡ false = e in cc
  body_sets (shape.Branch r) e = let k : true ≡ false = e in cc
  body_sets (shape.Compare j) e = refl
  body_sets (shape.BranchByFlag r j) e = let k : true ≡ false = e in cc
  body_sets shape.Call e = let k : true ≡ false = e in cc
  body_sets shape.Return e = let k : true ≡ false = e in cc
  body_sets shape.SaveLink e = saves m.link (stack_plus m p.number)
  body_sets shape.RestoreLink e = restores m.link (stack_plus m p.number)
  body_sets shape.TakeInput e = refl
  body_sets shape.PutOutput e = refl
  body_sets shape.Halt e = refl
  body_sets shape.ReadResult e = sets_a
  body_sets shape.SetResult e = refl
  body_sets shape.ExtendByte e = sets_a

pub bodies_done : SaidIsSound → SaidIsBounded → BodiesDoShapes
bodies_done sound bounded w d frame pattern at t c fit h e =
    let es = shape_moves frame pattern at in
    let m = made_of w d frame pattern at t sound bounded c h in
    let free = sets_equal d.word _ es t.what m (same_cell Pc) (λ n. refl) ∙ body_sets frame (general_bits d.registers) at fit.a pattern e in
    subst (λ (xs : List Move). DoesAs d.word es xs) (jumps_kept d.word t.what free) (shapes_done sound bounded w d frame pattern at t c fit h)
