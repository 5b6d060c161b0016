-- Transfers of the shapes of homes set what the shapes set, and else flags.
use Rattle.std.proofs.Common.{◌≡◌, ◌≢◌, ℕ, ◌||◌, true, false, [], Some, refl, sym, ap, ◌∙◌, arith, inl, inr}
use Rattle.std.proofs.lemmas.Bool.{ne_eqb}
use Rattle.std.proofs.lemmas.List.Elements.{All-nil}
use Rattle.rtl_tree.specs.declared.cells.Cell.TheVariants.{Hard, Pc}
use Rattle.rtl_tree.specs.Same.{same_cell}
use Rattle.md_rows.specs.declared.description.RawDescription.{RawDescription}
use Rattle.md_rows.specs.Fits.{is_in}
use Rattle.md_rows.specs.Instances.{general_set}
use Rattle.md_shapes.specs.declared.patterns.Pattern.TheVariants.{LoadHome, StoreHome}
use Rattle.md_shapes.specs.Shapes.{Frame}
use Rattle.md_covers.specs.Covers.{frame_in}
use Rattle.md_check.specs.Checking.{IsChecked}
use Rattle.temp_laws.specs.Keeping.{SetsAreShapes}
use Rattle.temp_laws.specs.Targets.{TargetsAreSound}
use Rattle.color_holding.proofs.Members.{true_false}
use Rattle.color_image.specs.Rows.{HomesAreStraight}

module _ (set : SetsAreShapes) (targets : TargetsAreSound) where
  no_stack : (w : ℕ) (d : RawDescription) (frame : Frame) (n : ℕ) → IsChecked w d → frame_in d ≡ Some frame → is_in (general_set d.registers) n ≡ true → frame.stack ≢ n
  no_stack w d frame n checked is general e =
      let target = targets w d frame [] checked is (All-nil (λ k. is_in (general_set d.registers) k ≡ true)) (λ i j k p q. absurd (omega (arith, q))) in
      true_false (sym general ∙ ap (is_in (general_set d.registers)) (sym e) ∙ target.stack)

  pub homes_straight : HomesAreStraight
  homes_straight w d frame kept at n t checked is a general (inl h) = record {
    counter = set w d frame LoadHome at t checked h (same_cell Pc) (λ k. refl) ∙ ap (λ c. same_cell Pc c || false) a;
    stack =
        set w d frame LoadHome at t checked h (same_cell (Hard frame.stack)) (λ k. refl) ∙ ap (λ c. same_cell (Hard frame.stack) c || false) a
        ∙ ap (λ b. b || false) (ne_eqb frame.stack n (no_stack w d frame n checked is general));
  }
  homes_straight w d frame kept at n t checked is a general (inr h) = record {
    counter = set w d frame StoreHome at t checked h (same_cell Pc) (λ k. refl);
    stack = set w d frame StoreHome at t checked h (same_cell (Hard frame.stack)) (λ k. refl);
  }
