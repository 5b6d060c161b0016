-- A naive code may be coloured.
use Rattle.std.proofs.Common.{◌≡◌, ℕ, suc, Bool, true, false, List, [], ◌∷◌, length, Option, Some, None, refl, subst, arith}
use Rattle.std.specs.Prelude.{slice_get, All}
use Rattle.std.proofs.lemmas.Bool.{or_parts}
use Rattle.std.proofs.lemmas.Option.{slice_get_within}
use Rattle.std.proofs.lemmas.List.Elements.{All-nil, All-cons, All-head, All-tail, All-contains}
use Rattle.rtl_word.specs.Words.{IsWordSize}
use Rattle.rtl_tree.specs.declared.cells.Cell.TheVariants.{Temp, Hard, Flag, Pc, Input, Output, Halt, Hole as RegisterHole}
use Rattle.rtl_tree.specs.declared.cells.Lab.{Lab}
use Rattle.rtl_tree.specs.Trees.{Tree}
use Rattle.rtl_tree.specs.Sorts.{IsFitting}
use Rattle.rtl_tree.specs.Moves.{Goal, ToCell, ToMemory, Move}
use Rattle.rtl_norm.specs.Transfers.{IsMoveFitting}
use Rattle.rtl_norm.proofs.Finish.{norm_fits}
use Rattle.rtl_norm_value.specs.Effect.{jump_in_form, with_normal_jump}
use Rattle.md_rows.specs.declared.description.RawDescription.{RawDescription}
use Rattle.md_rows.specs.Instances.{general_set}
use Rattle.md_shapes.specs.declared.patterns.Pattern.TheVariants as shape
use Rattle.md_shapes.specs.Shapes.{Frame, call_moves}
use Rattle.md_covers.specs.Covers.{frame_in}
use Rattle.md_check.specs.Checking.{IsChecked}
use Rattle.temp_machine.specs.Routines.{Calls, Routine, Target}
use Rattle.temp_machine.specs.Cells.{some_read, some_set, is_temporary, mentions}
use Rattle.temp_machine.specs.Live.{Place, End as AtEnd, item_at}
use Rattle.temp_machine.specs.Tidy.{sets_temporary}
use Rattle.temp_machine.specs.Units.{IsTarget}
use Rattle.temp_code.specs.declared.code.End.{End}
use Rattle.temp_code.specs.declared.code.End.TheVariants.{Call}
use Rattle.temp_code.specs.declared.code.Block.{Block}
use Rattle.temp_code.specs.declared.code.Code.{Code}
use Rattle.temp_code.specs.Realised.{AreRealised}
use Rattle.temp_code.specs.Routines.{routine_of}
use Rattle.temp_laws.specs.Targets.{target_of, TargetsAreSound}
use Rattle.temp_laws.specs.Keeping.{IsOfOperands, NamesAreShapes}
use Rattle.row_laws.specs.Formed.{RealisedAreFormed}
use Rattle.row_colors.specs.Calm.{ShapesAreCalm, BodiesAreCalm, CalmDoes, IsCalm}
use Rattle.color_code.specs.Colors.{Seats, IsColoring}
use Rattle.color_registers.specs.Registers.{colors_of}
use Rattle.color_graph.specs.Meeting.{HaveHomes}
use Rattle.color_table.specs.Tables.{Table, behind, IsColorable, AreCalm}
use Rattle.reg_color.specs.Codes.{MayBeColored}
use Rattle.pass_driver.specs.Codes.{ColorsAreMet}
use Rattle.naive_units.specs.Transfers.{IsMadeEnd, IsMadeBlock}
use Rattle.md_filled.proofs.Doing.{all_at}
use Rattle.naive_units.specs.Units.{IsGoodCode}
use Rattle.pass_driver.proofs.Made.{IsCall, inside_at, jump_at, call_at, call_made}

-- ---- numbers, also in the normal form of a jump

form_fits : (w : ℕ) (g : Goal) (t : Tree) → IsWordSize w → IsFitting w t → IsFitting w (jump_in_form w g t)
form_fits w (ToCell Pc) t z f = norm_fits w t z f
form_fits w (ToCell (Hard n)) t z f = f
form_fits w (ToCell (Temp n)) t z f = f
form_fits w (ToCell (Flag n)) t z f = f
form_fits w (ToCell Input) t z f = f
form_fits w (ToCell Output) t z f = f
form_fits w (ToCell Halt) t z f = f
form_fits w (ToCell (RegisterHole n)) t z f = f
form_fits w (ToMemory d a) t z f = f

all_fit : (w : ℕ) (ms : List Move) → IsWordSize w → All (IsMoveFitting w) ms → All (IsMoveFitting w) (with_normal_jump w ms)
all_fit w [] z h = All-nil (IsMoveFitting w)
all_fit w (m ∷ ms) z h =
    let first = All-head (IsMoveFitting w) m ms h in
    All-cons (IsMoveFitting w) (record { to = m.to; value = jump_in_form w m.to m.value }) (with_normal_jump w ms)
    (first.0, form_fits w m.to m.value z first.1) (all_fit w ms z (All-tail (IsMoveFitting w) m ms h))

-- ---- calls

operands : (g : ℕ) → IsOfOperands g is_temporary
operands g = record { hard = λ k e. absurd (let i : false ≡ true = e in cc); flags = λ n. refl; counter = refl; input = refl; output = refl; halt = refl }

call_plain : (m : Frame) (z : Option ℕ) (l : Lab) → mentions is_temporary (call_moves m z l) ≡ false
call_plain m (Some z) l = refl
call_plain m None l = refl

-- the laws that are cited
pub record AreLaws : Type 0 where
  pub formed : RealisedAreFormed
  pub bodies : BodiesAreCalm
  pub shapes : ShapesAreCalm
  pub does : CalmDoes
  pub names : NamesAreShapes
  pub targets : TargetsAreSound

module _ (laws : AreLaws) (w : ℕ) (d : RawDescription) (frame : Frame) (count : ℕ) (checked : IsChecked w d) (fixed : frame_in d ≡ Some frame) where
  abbrev machine : Target
  machine = target_of d frame []

  pub is_target : IsTarget machine
  is_target = laws.targets w d frame [] checked fixed (All-nil (λ k. machine.general k ≡ true)) (λ i j x l m. absurd (omega (arith, m)))

  -- no temporary stands in a call
  pub call_without : (ms : List Move) → IsCall d frame count ms → mentions is_temporary ms ≡ false
  call_without ms x =
      subst (λ ns. mentions is_temporary ns ≡ false) x.what
      (laws.names w d frame shape.Call _ x.transfer checked x.made.transfer is_temporary (operands (general_set d.registers)) (call_plain frame frame.link _))

  module _ (c : Code) (good : IsGoodCode [] d frame count c) (rows : AreRealised d c) where
    abbrev routine : Routine
    routine = routine_of c

    calls_without : (p : Place) (ms : List Move) → item_at routine p ≡ Some (AtEnd (Calls ms)) → sets_temporary ms ≡ false
    calls_without p ms i =
        (or_parts (some_read is_temporary ms) (some_set is_temporary ms) (call_without ms (call_at d frame count c good.made rows p ms i))).1

    pub colorable : (seats : Seats) → IsColoring machine routine (colors_of d) seats → IsColorable machine routine (colors_of d) seats
    colorable seats coloring = record {
      tidy = good.tidy;
      coloring = coloring;
      homes = good.homes;
      whole = good.sound.whole;
      straight = good.sound.straight;
      calls = calls_without;
    }

    pub calm : (live : Table) → AreCalm machine routine live
    calm live = record {
      numbers = λ p ms i.
          let x = inside_at d frame count c good.made rows p ms i in
          subst (λ ns. All (IsMoveFitting d.word) ns) x.what (laws.formed w d x.transfer checked x.realised).fits;
      quiet = λ block at ms i register.
          let x = inside_at d frame count c good.made rows (record { block = block; at = at }) ms i in
          let wanted : ℕ → Bool = λ n. live (record { block = block; at = suc at }) (Flag n) in
          laws.does d.word wanted register ms
          (subst (IsCalm d.word wanted) x.what
          (laws.bodies w d frame x.made.shape.pattern x.made.shape.at x.transfer wanted checked x.made.made.operands x.made.made.transfer x.made.inside));
      jump_numbers = λ p e ms i j.
          let x = jump_at d frame count c good.made rows p e ms i j in
          all_fit d.word ms is_target.size (subst (λ ns. All (IsMoveFitting d.word) ns) x.what (laws.formed w d x.transfer checked x.realised).fits);
      jump_quiet = λ p e ms i j register.
          let x = jump_at d frame count c good.made rows p e ms i j in
          let wanted : ℕ → Bool = λ n. behind d.word routine live p.block (Flag n) in
          laws.does d.word wanted register (with_normal_jump d.word ms)
          (subst (λ ns. IsCalm d.word wanted (with_normal_jump d.word ns)) x.what
          (laws.shapes w d frame x.shape.pattern x.shape.at x.transfer wanted checked x.made.operands x.made.transfer));
    }

    -- ---- what colouring asks

    pub have_homes : HaveHomes routine
    have_homes n e = let h = good.sound.whole.homes n e in slice_get_within c.homes n h.0 h.1

    pub end_made : (k : ℕ) (b : Block) (e : End) → slice_get c.blocks k ≡ Some b → b.end ≡ e → IsMadeEnd d frame count e
    end_made k b e at is = subst (IsMadeEnd d frame count) is (all_at (IsMadeBlock d frame count) c.blocks k b good.made at).end

    pub may_be_colored : (seats : Seats) → IsColoring machine routine (colors_of d) seats → MayBeColored d machine seats c
    may_be_colored seats coloring = record {
      sound = good.sound;
      tidy = good.tidy;
      coloring = coloring;
      realised = rows;
      calls = λ k b x at is. call_without x.what (call_made d frame count (Call x) x.what (end_made k b (Call x) at is) refl);
    }

pub colors_are_met : AreLaws → ColorsAreMet
colors_are_met laws w d t u checked n c has =
    let good = All-contains (IsGoodCode [] d n.frame (length t.functions)) u.codes c n.good.codes has in
    let rows = All-contains (AreRealised d) u.codes c n.realised has in
    (have_homes laws w d n.frame (length t.functions) checked n.fixed c good rows, may_be_colored laws w d n.frame (length t.functions) checked n.fixed c good rows)
