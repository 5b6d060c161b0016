-- The place of each label of a linked program, by a walk over its functions.
use Rattle.std.specs.Prelude.{ℕ, ◌==◌, if◌then◌else◌, Bool, true, false, List, [], ◌∷◌}
use Rattle.rtl_tree.specs.declared.cells.Lab.{Lab}
use Rattle.rtl_tree.specs.declared.cells.Lab.TheVariants.{Block, Function}
use Rattle.temp_machine.specs.Machine.{position}
use Rattle.link_code.specs.Linked.{Job, code, stands, function_place, block_place}

module _ (j : Job) where
  -- a label is that of the first function in which it stands
  abbrev pub label_in : List ℕ → ℕ → ℕ
  label_in [] l = 0
  label_in (f ∷ fs) l = if stands (code j f).blocks l then block_place j f (position (code j f).blocks l 0) else label_in fs l

  abbrev pub listed : List ℕ → ℕ → Bool
  listed [] f = false
  listed (g ∷ gs) f = if g == f then true else listed gs f

  -- a label that stands nowhere is 0
  abbrev pub label_place : Lab → ℕ
  label_place (Block l) = label_in j.order l
  label_place (Function f) = if listed j.order f then function_place j f else 0
