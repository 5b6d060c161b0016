-- The labels of a linked program as a list, and that a look-up in it gives the place of each label.
use Rattle.std.proofs.Common.{◌≡◌, ℕ, suc, ◌==◌, Bool, true, false, cond, List, [], ◌∷◌, ◌++◌, Some, refl, sym, ap, ◌∙◌}
use Rattle.std.proofs.lemmas.Bool.{eqb-true}
use Rattle.rtl_tree.specs.declared.cells.Lab.{Lab}
use Rattle.rtl_tree.specs.declared.cells.Lab.TheVariants.{Block, Function}
use Rattle.rtl_value.specs.declared.state.LabelAt.{LabelAt}
use Rattle.rtl_value.specs.Values.{place_of_label, number_or_zero}
use Rattle.temp_machine.specs.Routines.{BasicBlock}
use Rattle.temp_machine.specs.Machine.{position}
use Rattle.machine_run.specs.Machine.{label_in as found}
use Rattle.link_code.specs.Linked.{Job, code, stands, function_place, block_place, block_labels, labels_of}
use Rattle.link_code.proofs.Labels.{label_in, listed, label_place}

module _ (j : Job) where
  among_blocks : (f l : ℕ) (bs : List BasicBlock) (k : ℕ) (rest : List LabelAt)
      → place_of_label (block_labels j f bs k ++ rest) (Block l) ≡ cond (stands bs l) (Some (block_place j f (position bs l k))) (place_of_label rest (Block l))
  among_blocks f l [] k rest = refl
  among_blocks f l (b ∷ bs) k rest = by (b.label == l) (among_blocks f l bs (suc k) rest)
    where
      by : (x : Bool) → place_of_label (block_labels j f bs (suc k) ++ rest) (Block l) ≡ cond (stands bs l) (Some (block_place j f (position bs l (suc k)))) (place_of_label rest (Block l))
          → cond x (Some (block_place j f k)) (place_of_label (block_labels j f bs (suc k) ++ rest) (Block l))
          ≡ cond (cond x true (stands bs l)) (Some (block_place j f (cond x k (position bs l (suc k))))) (place_of_label rest (Block l))
      by true e = refl
      by false e = e

  past_blocks : (f g : ℕ) (bs : List BasicBlock) (k : ℕ) (rest : List LabelAt) → place_of_label (block_labels j f bs k ++ rest) (Function g) ≡ place_of_label rest (Function g)
  past_blocks f g [] k rest = refl
  past_blocks f g (b ∷ bs) k rest = past_blocks f g bs (suc k) rest

  blocks_found : (fs : List ℕ) (l : ℕ) → number_or_zero (place_of_label (labels_of j fs) (Block l)) ≡ label_in j fs l
  blocks_found [] l = refl
  blocks_found (f ∷ fs) l = ap number_or_zero (among_blocks f l (code j f).blocks 0 (labels_of j fs)) ∙ by (stands (code j f).blocks l) (blocks_found fs l)
    where
      by : (x : Bool) → number_or_zero (place_of_label (labels_of j fs) (Block l)) ≡ label_in j fs l
          → number_or_zero (cond x (Some (block_place j f (position (code j f).blocks l 0))) (place_of_label (labels_of j fs) (Block l))) ≡ cond x (block_place j f (position (code j f).blocks l 0)) (label_in j fs l)
      by true e = refl
      by false e = e

  functions_found : (fs : List ℕ) (g : ℕ) → number_or_zero (place_of_label (labels_of j fs) (Function g)) ≡ cond {A = ℕ} (listed j fs g) (function_place j g) 0
  functions_found [] g = refl
  functions_found (f ∷ fs) g = by (f == g) refl (ap number_or_zero (past_blocks f g (code j f).blocks 0 (labels_of j fs)) ∙ functions_found fs g)
    where
      by : (x : Bool) → (f == g) ≡ x → number_or_zero (place_of_label (block_labels j f (code j f).blocks 0 ++ labels_of j fs) (Function g)) ≡ cond {A = ℕ} (listed j fs g) (function_place j g) 0
          → number_or_zero (cond x (Some (function_place j f)) (place_of_label (block_labels j f (code j f).blocks 0 ++ labels_of j fs) (Function g))) ≡ cond {A = ℕ} (cond x true (listed j fs g)) (function_place j g) 0
      by true e h = ap (function_place j) (eqb-true f g e)
      by false e h = h

  pub labels_found : (l : Lab) → label_place j l ≡ found (labels_of j j.order) l
  labels_found (Block l) = sym (blocks_found j.order l)
  labels_found (Function g) = sym (functions_found j.order g)
