-- No temporary stands in a line of a linked unit.
use Rattle.std.proofs.Common.{◌≡◌, inl, inr, ℕ, zero, suc, Bool, true, false, ◌||◌, List, [], ◌∷◌, ◌++◌, slice_get, Option, Some, None, All, refl, sym, subst, ap, ◌∙◌}
use Rattle.std.specs.List.{AllByRecursion, list_any}
use Rattle.rtl_tree.specs.declared.cells.Lab.{Lab}
use Rattle.rtl_tree.specs.declared.cells.Lab.TheVariants.{Function}
use Rattle.rtl_tree.specs.Moves.{Move}
use Rattle.rtl_effect.specs.Agree.{AllWithin}
use Rattle.md_rows.specs.declared.description.RawDescription.{RawDescription}
use Rattle.md_rows.specs.Instances.{general_set}
use Rattle.md_shapes.specs.declared.patterns.Pattern.{Pattern}
use Rattle.md_shapes.specs.declared.patterns.Pattern.TheVariants.{MoveStack, SetStack, Call, Return, SaveLink, RestoreLink, Halt}
use Rattle.md_shapes.specs.Shapes.{Frame, Open, shape_moves, stack_plus, call_moves, return_moves, saved, restored}
use Rattle.md_covers.specs.Covers.{frame_in}
use Rattle.md_said.specs.Sound.{SaidIsSound}
use Rattle.md_bounds.specs.Bounds.{SaidIsBounded}
use Rattle.md_check.specs.Checking.{IsChecked}
use Rattle.md_filled.proofs.Doing.{none_some, some_same}
use Rattle.temp_machine.specs.Routines.{Exit, Falls, Jumps, Branches, Calls, Returns, BasicBlock, Routine, Target, block_transfers, exit_transfers}
use Rattle.temp_machine.specs.Cells.{some_read, mentions, is_temporary, has_temporaries}
use Rattle.temp_machine.specs.Units.{IsImage}
use Rattle.temp_code.specs.declared.code.Unit.{Unit as Program}
use Rattle.temp_code.specs.Routines.{routine_in, image_of}
use Rattle.temp_laws.specs.Conditions.{on_temporaries}
use Rattle.temp_laws.specs.Keeping.{IsOfOperands}
use Rattle.temp_laws.specs.Targets.{target_of}
use Rattle.temp_laws.proofs.Names.{names_are_shapes}
use Rattle.link_code.specs.Linked.{Glue, Job, entry, leave, end_lines, block_lines, lines_of, code_lines, all_lines, program}
use Rattle.link_code.specs.Runs.{Stands, is_no_temporary}
use Rattle.row_links.specs.Glue.{no_label, IsMade, IsRowGlue}
use Rattle.row_links.specs.Jobs.{IsLinkedCode, functions_of, JobsAreFlat}
use Rattle.row_links.proofs.Plain.{all_within}
use Rattle.row_links.proofs.Jobs.{none_at, has, Has, job, same_job}

unlike : false ≡ true → ⊥
unlike e = cc

neither : (a b : Bool) → (a || b) ≡ false → (a ≡ false) × (b ≡ false)
neither true b e = let k : true ≡ false = e in cc
neither false b e = (refl, e)

abbrev Flat : List Move → Type 0
Flat ms = AllWithin is_no_temporary ms

abbrev AllFlat : List (List Move) → Type 0
AllFlat lines = AllByRecursion Flat lines

both_flat : (xs ys : List (List Move)) → AllFlat xs → AllFlat ys → AllFlat (xs ++ ys)
both_flat [] ys h k = k
both_flat (x ∷ xs) ys h k = (h.0, both_flat xs ys h.1 k)

flat_at : (xs : List (List Move)) (i : ℕ) (ms : List Move) → AllFlat xs → slice_get xs i ≡ Some ms → Flat ms
flat_at [] i ms h e = absurd (none_some ms e)
flat_at (x ∷ xs) zero ms h e = subst Flat (some_same x ms e) h.0
flat_at (x ∷ xs) (suc i) ms h e = flat_at xs i ms h.1 e

all_flat : (xs : List (List Move)) → ((i : ℕ) (ms : List Move) → slice_get xs i ≡ Some ms → mentions is_temporary ms ≡ false) → AllFlat xs
all_flat [] h = tt
all_flat (x ∷ xs) h =
    (all_within x (neither (some_read is_temporary x) _ (h zero x refl)).0, all_flat xs (λ i ms e. h (suc i) ms e))

-- the shapes name no temporary

temporary_operands : (g : ℕ) → IsOfOperands g is_temporary
temporary_operands g = record { hard = λ k e. absurd (unlike e); flags = λ n. refl; counter = refl; input = refl; output = refl; halt = refl }

call_free : (m : Frame) (z : Option ℕ) (l : Lab) → mentions is_temporary (call_moves m z l) ≡ false
call_free m (Some z) l = refl
call_free m None l = refl

return_free : (m : Frame) (z : Option ℕ) → mentions is_temporary (return_moves m z) ≡ false
return_free m (Some z) = refl
return_free m None = refl

save_free : (m : Frame) (z : Option ℕ) (n : ℕ) → mentions is_temporary (saved z (stack_plus m n)) ≡ false
save_free m (Some z) n = refl
save_free m None n = refl

restore_free : (m : Frame) (z : Option ℕ) (n : ℕ) → mentions is_temporary (restored z (stack_plus m n)) ≡ false
restore_free m (Some z) n = refl
restore_free m None n = refl

module _ (sound : SaidIsSound) (bounded : SaidIsBounded) (w : ℕ) (d : RawDescription) (frame : Frame) (c : IsChecked w d) where
  flat_by : (ms : List Move) → mentions is_temporary ms ≡ false → Flat ms
  flat_by ms e = all_within ms (neither (some_read is_temporary ms) _ e).0

  made_flat : (pattern : Pattern) (n : ℕ) (l : Lab) (ms : List Move) → ((at : Open) → mentions is_temporary (shape_moves frame pattern at) ≡ false)
      → IsMade d frame pattern n l ms → Flat ms
  made_flat pattern n l ms free (inl e) = flat_by ms (ap (mentions is_temporary) e ∙ free (on_temporaries 0 1 n 0 l))
  made_flat pattern n l ms free (inr f) =
      flat_by ms (ap (mentions is_temporary) (sym f.what)
      ∙ names_are_shapes sound bounded w d frame pattern f.at f.transfer c f.of_shape is_temporary (temporary_operands (general_set d.registers)) (free f.at))

  module _ (g : Glue) (h : IsRowGlue d frame g) where
    abbrev target : Target
    target = target_of d frame []

    move_flat : (n : ℕ) → Flat (g.move_stack n)
    move_flat n = made_flat MoveStack n no_label (g.move_stack n) (λ at. refl) (h.move_stack n)

    entry_flat : (z : Option ℕ) (r : Routine) → frame.link ≡ z → AllFlat (entry target g z r)
    entry_flat (Some z) r e =
        let k = made_flat SaveLink _ no_label _ (λ at. save_free frame frame.link at.number) (h.save z _ e) in
        (move_flat _, (k, tt))
    entry_flat None r e = (move_flat _, tt)

    back_flat : Flat g.going_back
    back_flat = made_flat Return 0 no_label g.going_back (λ at. return_free frame frame.link) h.going_back

    leave_flat : (z : Option ℕ) (r : Routine) → frame.link ≡ z → AllFlat (leave target g z r)
    leave_flat (Some z) r e =
        let k = made_flat RestoreLink _ no_label _ (λ at. restore_free frame frame.link at.number) (h.fetch z _ e) in
        (k, (move_flat _, (back_flat, tt)))
    leave_flat None r e = (move_flat _, (back_flat, tt))

    end_flat : (r : Routine) (e : Exit) → AllFlat (exit_transfers e) → AllFlat (end_lines target g frame.link r e)
    end_flat r Falls k = tt
    end_flat r (Jumps ms) k = k
    end_flat r (Branches ms) k = k
    end_flat r (Calls ms) k = k
    end_flat r Returns k = leave_flat frame.link r refl

    abbrev AreFree : List BasicBlock → Type 0
    AreFree bs = (i : ℕ) (b : BasicBlock) → slice_get bs i ≡ Some b → AllFlat b.body × AllFlat (exit_transfers b.exit)

    lines_flat : (r : Routine) (bs : List BasicBlock) → AreFree bs → AllFlat (lines_of target g frame.link r bs)
    lines_flat r [] k = tt
    lines_flat r (b ∷ bs) k =
        let x = k zero b refl in
        both_flat (block_lines target g frame.link r b) (lines_of target g frame.link r bs)
        (both_flat b.body (end_lines target g frame.link r b.exit) x.0 (end_flat r b.exit x.1)) (lines_flat r bs (λ i y e. k (suc i) y e))

    code_flat : (r : Routine) → AreFree r.blocks → AllFlat (code_lines target g frame.link r)
    code_flat r k = both_flat (entry target g frame.link r) (lines_of target g frame.link r r.blocks) (entry_flat frame.link r refl) (lines_flat r r.blocks k)

    -- the blocks of a code without temporaries
    front_flat : (xs ys : List (List Move)) → ((i : ℕ) (ms : List Move) → slice_get (xs ++ ys) i ≡ Some ms → mentions is_temporary ms ≡ false) → AllFlat xs × AllFlat ys
    front_flat [] ys k = (tt, all_flat ys k)
    front_flat (x ∷ xs) ys k =
        let rest = front_flat xs ys (λ i ms e. k (suc i) ms e) in ((flat_by x (k zero x refl), rest.0), rest.1)

    blocks_free : (r : Routine) → has_temporaries r ≡ false → AreFree r.blocks
    blocks_free r e i b is = front_flat b.body (exit_transfers b.exit) (λ k ms q.
        none_at (mentions is_temporary) (block_transfers b) k ms (none_at (λ b. list_any (mentions is_temporary) (block_transfers b)) r.blocks i b e is) q)

    module _ (frame_of : frame_in d ≡ Some frame) (u : Program) (image : IsImage target (image_of u)) (codes : All (IsLinkedCode d frame (functions_of u)) u.codes) where
      routine_free : (f : ℕ) → Stands f (functions_of u) → has_temporaries (routine_in u.codes f) ≡ false
      routine_free f s =
          let x : Has sound bounded w d frame c frame_of u g h image codes f = has sound bounded w d frame c frame_of u g h image codes f s in
          ap has_temporaries x.routine ∙ x.given.plain

      abbrev whole : Job
      whole = job sound bounded w d frame c frame_of u g h image codes

      all_lines_flat : (fs : List ℕ) → ((f : ℕ) → Stands f fs → Stands f (functions_of u)) → AllFlat (all_lines whole fs)
      all_lines_flat [] k = tt
      all_lines_flat (f ∷ fs) k =
          both_flat (code_lines target g frame.link (routine_in u.codes f)) (all_lines whole fs)
          (code_flat (routine_in u.codes f) (blocks_free (routine_in u.codes f) (routine_free f (k f (inl refl)))))
          (all_lines_flat fs (λ x s. k x (inr s)))

      program_flat : AllFlat (program whole)
      program_flat = (
        made_flat SetStack 0 no_label g.set_stack (λ at. refl) h.set_stack,
        (
          made_flat Call 0 (Function (image_of u).main) (g.calling (image_of u).main) (λ at. call_free frame frame.link at.label) (h.calling (image_of u).main),
          (made_flat Halt 0 no_label g.finish (λ at. refl) h.finish, all_lines_flat (functions_of u) (λ f s. s)),
        ),
      )

pub jobs_flat : SaidIsSound → SaidIsBounded → JobsAreFlat
jobs_flat sound bounded w d frame u j c is h k ms e =
    let same = same_job d frame u j h in
    flat_at (program (whole sound bounded w d frame c j.glue h.glue is u h.sound h.codes)) k ms (program_flat sound bounded w d frame c j.glue h.glue is u h.sound h.codes) (ap (λ (x : Job). slice_get (program x) k) (sym same) ∙ e)
