-- A transfer with registers does what it does with temporaries.
use Rattle.std.proofs.Common.{◌≡◌, ℕ, List, Option, Result, Ok, Err, refl, sym, ap, ◌∙◌, subst}
use Rattle.rtl_tree.specs.declared.cells.Cell.TheVariants.{Hard, Temp, Flag, Pc, Output, Halt}
use Rattle.rtl_tree.specs.Moves.{Move}
use Rattle.rtl_effect.specs.Views.{Stop, View, bind}
use Rattle.rtl_effect.specs.Effects.{assigned, storing, cell_after, mark_after, input_after, tested, event, went, Patch, patch_of, view_after, Done, effect}
use Rattle.color_renaming.specs.Renaming.{with_registers, with_temporaries}
use Rattle.color_renaming.specs.Does.{IsSeparate, IsSameRenamed, IsRenamedEffect, both_stop, both_do, RenamedDoes}
use Rattle.color_renaming.proofs.Seeing.{storing_renamed, takes_renamed, tested_back, event_back, went_back, patch_back, cell_after_back, mark_after_back}
use Rattle.color_renaming.proofs.Assigning.{temp_assigned, register_assigned, flag_assigned, pc_assigned, output_assigned, halt_assigned}

module _ (w : ℕ) (r : ℕ → ℕ) (ms : List Move) (z : View) (separate : IsSeparate r ms) where
  abbrev ns : List Move
  ns = with_registers r ms

  abbrev v : View
  v = with_temporaries r z

  abbrev Same : Result Done Stop → Result Done Stop → Type 0
  Same = IsRenamedEffect r ms

  -- goes on with what both have
  and_both : {A : Type 0} (u x : Result A Stop) → x ≡ u → (f g : A → Result Done Stop) → ((y : A) → Same (f y) (g y)) → Same (bind u f) (bind x g)
  and_both (Ok y) x e f g h = subst (λ s. Same (f y) (bind s g)) (sym e) (h y)
  and_both (Err s) x e f g h = subst (λ q. Same (Err s) (bind q g)) (sym e) (both_stop s)

  same_done : (p : Option Patch) (q o h : Option ℕ) → IsSameRenamed r ms (record { view = view_after w ms p v; place = q; output = o; halt = h }) (record { view = view_after w ns p z; place = q; output = o; halt = h })
  same_done p q o h = record {
    temps = λ k set. ap (λ a. cell_after w a z (z.cells (Hard (r k)))) (temp_assigned r ms separate k set) ∙ cell_after_back r z w (assigned ms (Temp k)) (z.cells (Hard (r k)));
    registers = λ n spared. ap (λ a. cell_after w a z (z.cells (Hard n))) (register_assigned r ms n spared) ∙ cell_after_back r z w (assigned ms (Hard n)) (z.cells (Hard n));
    flags = λ n. ap (λ a. mark_after w a z (z.flags n)) (flag_assigned r ms n) ∙ mark_after_back r z w (assigned ms (Flag n)) n;
    bytes = λ a. refl;
    input = ap (λ b. input_after b z.input) (takes_renamed r ms);
    place = refl;
    output = refl;
    halt = refl;
  }

  does : Same (effect w ms v) (effect w ns z)
  does =
      and_both (tested w ms v) (tested w ns z) (tested_back r z w ms) _ _ (λ t.
      and_both (event w (assigned ms Output) v) (event w (assigned ns Output) z) (ap (λ o. event w o z) (output_assigned r ms) ∙ event_back r z w (assigned ms Output)) _ _ (λ o.
      and_both (event w (assigned ms Halt) v) (event w (assigned ns Halt) z) (ap (λ o. event w o z) (halt_assigned r ms) ∙ event_back r z w (assigned ms Halt)) _ _ (λ h.
      and_both (went w (assigned ms Pc) v) (went w (assigned ns Pc) z) (ap (λ o. went w o z) (pc_assigned r ms) ∙ went_back r z w (assigned ms Pc)) _ _ (λ q.
      and_both (patch_of w (storing ms) v) (patch_of w (storing ns) z) (ap (λ s. patch_of w s z) (storing_renamed r ms) ∙ patch_back r z w (storing ms)) _ _ (λ p.
      both_do _ _ (same_done p q o h))))))

pub renamed_does : RenamedDoes
renamed_does w r ms z separate = does w r ms z separate
