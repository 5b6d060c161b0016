-- Rows that are found for the shapes that linking writes do as it asks.
use Rattle.std.proofs.Common.{◌≡◌, inl, inr, ℕ, ◌-◌, ◌/◌, ◌^◌, List, Option, Some, None, Result, Ok, refl, sym, subst, ap, ◌∙◌}
use Rattle.rtl_tree.specs.declared.cells.Cell.TheVariants.{Hard}
use Rattle.rtl_tree.specs.declared.cells.Lab.{Lab}
use Rattle.rtl_tree.specs.declared.cells.Lab.TheVariants.{Function}
use Rattle.rtl_tree.specs.Trees.{Number}
use Rattle.rtl_tree.specs.Moves.{Move}
use Rattle.rtl_effect.specs.Views.{Stop}
use Rattle.rtl_effect.specs.Effects.{Done, effect}
use Rattle.rtl_norm_value.specs.Effect.{IsSameDone, IsSameEffect, both_stop, both_do, with_normal_jump}
use Rattle.rtl_norm_value.proofs.Same.{jump_is_place}
use Rattle.md_rows.specs.declared.description.RawDescription.{RawDescription}
use Rattle.md_shapes.specs.declared.patterns.Pattern.{Pattern}
use Rattle.md_shapes.specs.declared.patterns.Pattern.TheVariants.{MoveStack, SetStack, Call, Return, SaveLink, RestoreLink, Halt}
use Rattle.md_shapes.specs.Shapes.{Frame, Open, shape_moves, set_cell, stack_plus, stack_of, stack_call, call_moves, stack_return, return_moves, saved, restored}
use Rattle.md_covers.specs.Covers.{frame_with, frame_in, first_with}
use Rattle.md_rows.specs.declared.description.Role.TheVariants.{Result as ResultRole, Stack}
use Rattle.md_said.specs.Sound.{SaidIsSound}
use Rattle.md_bounds.specs.Bounds.{SaidIsBounded}
use Rattle.md_check.specs.Checking.{IsChecked}
use Rattle.md_filled.proofs.Alike.{ok_is, stop_is_no_ok}
use Rattle.md_filled.proofs.Doing.{none_some, some_same}
use Rattle.temp_shapes.proofs.Roles.{checked_size}
use Rattle.temp_laws.specs.Targets.{target_of}
use Rattle.temp_laws.proofs.Doing.{shapes_done}
use Rattle.link_code.specs.Linked.{calling, going_back, Glue}
use Rattle.link_code.specs.Runs.{DoesAs, IsGlue}
use Rattle.row_laws.proofs.Formed.{realised_formed}
use Rattle.row_links.specs.Glue.{ShapesRun, shape_at, no_label, IsMade, IsRowGlue, RowGlueDoes}

same_ok : (r s : Result Done Stop) (x : Done) → IsSameEffect r s → r ≡ Ok x → (y : Done) × (s ≡ Ok y) × IsSameDone x y
same_ok _ _ x (both_do a b h) e = (b, refl, subst (λ (z : Done). IsSameDone z b) (ok_is a x e) h)
same_ok _ _ x (both_stop s) e = absurd (stop_is_no_ok s x e)

pub shapes : SaidIsSound → SaidIsBounded → ShapesRun
shapes sound bounded w d frame pattern at t c o h z e k labels given =
    let good = realised_formed sound bounded w d t c (record { row = h.row; instance = h.instance; effects = h.effects }) in
    let x = (shapes_done sound bounded w d frame pattern at t c o h).does z e k given in
    let y = same_ok (effect d.word (with_normal_jump d.word t.what) z) (effect d.word t.what z) x.0
    (jump_is_place d.word t.what z (checked_size w d sound c) k labels good.formed good.fits good.filled) x.1 in (
      y.0,
      y.1,
      record {
        regs = λ n. sym (y.2.view.cells (Hard n)) ∙ x.2.registers n;
        bytes = λ a. sym (y.2.view.bytes a) ∙ x.2.bytes a;
        input = sym y.2.view.input ∙ x.2.input;
        place = sym y.2.place ∙ x.2.place;
        output = sym y.2.output ∙ x.2.output;
        halt = sym y.2.halt ∙ x.2.halt;
      },
    )

does_self : (w : ℕ) (ms : List Move) → DoesAs w ms ms
does_self w ms z d k labels e =
    (d, e, record { regs = λ n. refl; bytes = λ a. refl; input = refl; place = refl; output = refl; halt = refl })

-- the frame of a description

pub record IsFrameOf (d : RawDescription) (frame : Frame) : Type 0 where
  pub bits : frame.bits ≡ d.word
  pub memory : frame.memory ≡ d.memory

pub frame_is : (d : RawDescription) (frame : Frame) → frame_in d ≡ Some frame → IsFrameOf d frame
frame_is d frame e = by (first_with Stack d.registers) (first_with ResultRole d.registers) e
  where
    by : (s q : Option ℕ) → frame_with d s q ≡ Some frame → IsFrameOf d frame
    by (Some s) (Some q) f =
        let same = some_same _ frame f in
        record { bits = ap (λ (m : Frame). m.bits) (sym same); memory = ap (λ (m : Frame). m.memory) (sym same) }
    by (Some s) None f = absurd (none_some frame f)
    by None q f = absurd (none_some frame f)

module _ (sound : SaidIsSound) (bounded : SaidIsBounded) (w : ℕ) (d : RawDescription) (frame : Frame) (c : IsChecked w d) where
  pub made_does : (pattern : Pattern) (n : ℕ) (l : Lab) (ms : List Move)
      → ((at : Open) → at.number ≡ n → at.label ≡ l → shape_moves frame pattern at ≡ shape_at frame pattern n l) → IsMade d frame pattern n l ms
      → DoesAs d.word ms (shape_at frame pattern n l)
  made_does pattern n l ms same (inl e) = subst (λ (xs : List Move). DoesAs d.word xs (shape_at frame pattern n l)) (sym e) (does_self d.word (shape_at frame pattern n l))
  made_does pattern n l ms same (inr f) =
      subst (DoesAs d.word ms) (same f.at f.number f.label)
      (subst (λ (xs : List Move). DoesAs d.word xs (shape_moves frame pattern f.at)) f.what
      (shapes sound bounded w d frame pattern f.at f.transfer c f.operands f.of_shape))

  module _ (kept : List ℕ) (f : IsFrameOf d frame) where
    pub calls_same : (z : Option ℕ) (g : ℕ) → call_moves frame z (Function g) ≡ calling (target_of d frame kept) z g
    calls_same (Some z) g = refl
    calls_same None g = ap (λ (n : ℕ). stack_call (stack_plus frame (2 ^ n - n / 8)) (Hard frame.stack) (Function g)) f.bits

    returns_same : (z : Option ℕ) → return_moves frame z ≡ going_back (target_of d frame kept) z
    returns_same (Some z) = refl
    returns_same None = ap (λ (n : ℕ). stack_return (stack_of frame) (Hard frame.stack) (n / 8)) f.bits

    glue_does : (g : Glue) → IsRowGlue d frame g → IsGlue (target_of d frame kept) frame.link g
    glue_does g h = record {
      set_stack = subst (DoesAs d.word g.set_stack) (ap (λ (m : ℕ). set_cell (Hard frame.stack) (Number m)) f.memory)
          (made_does SetStack 0 no_label g.set_stack (λ at n l. refl) h.set_stack);
      move_stack = λ n. made_does MoveStack n no_label (g.move_stack n) (λ at e l. ap (λ (k : ℕ). set_cell (Hard frame.stack) (stack_plus frame k)) e) (h.move_stack n);
      calling = λ x. subst (DoesAs d.word (g.calling x)) (calls_same frame.link x)
          (made_does Call 0 (Function x) (g.calling x) (λ at n e. ap (call_moves frame frame.link) e) (h.calling x));
      going_back = subst (DoesAs d.word g.going_back) (returns_same frame.link) (made_does Return 0 no_label g.going_back (λ at n l. refl) h.going_back);
      save = λ z k e. subst (DoesAs d.word (g.save k)) (ap (λ (o : Option ℕ). saved o (stack_plus frame k)) e)
          (made_does SaveLink k no_label (g.save k) (λ at n l. ap (λ (i : ℕ). saved frame.link (stack_plus frame i)) n) (h.save z k e));
      fetch = λ z k e. subst (DoesAs d.word (g.fetch k)) (ap (λ (o : Option ℕ). restored o (stack_plus frame k)) e)
          (made_does RestoreLink k no_label (g.fetch k) (λ at n l. ap (λ (i : ℕ). restored frame.link (stack_plus frame i)) n) (h.fetch z k e));
      finish = made_does Halt 0 no_label g.finish (λ at n l. refl) h.finish;
    }

pub row_glue : SaidIsSound → SaidIsBounded → RowGlueDoes
row_glue sound bounded w d frame g kept c e h = glue_does sound bounded w d frame c kept (frame_is d frame e) g h
