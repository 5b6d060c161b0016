-- What the laws of naive codes ask of a tree, as typing and lowering leave it.
use Rattle.std.specs.Prelude.{◌≡◌, ◌≤◌, ℕ, true, List, All}
use Rattle.std.specs.List.{list_all}
use Rattle.c_tree.specs.declared.typed.Typed.{Typed}
use Rattle.c_limits.specs.Weights.{function_weight}
use Rattle.c_sound.specs.Sound.{is_meant}
use Rattle.naive_run.specs.Sound.{is_sound}
use Rattle.naive_counts.specs.Names.{names_scalars}
use Rattle.naive_counts.specs.Homes.{fills_lists}
use Rattle.naive_fits.specs.Bounds.{IsBounded}

-- it is sound, means something throughout and has a `main`; it names no array but by its elements and has no empty list of initialisers; and
-- its frames and weights are within the limits
pub record IsProperTree (kept : List ℕ) (w : ℕ) (t : Typed) : Type 0 where
  pub sound : is_sound kept w t ≡ true
  pub meant : is_meant w t ≡ true
  pub scalars : list_all (λ f. names_scalars t f f.body) t.functions ≡ true
  pub filled : list_all (λ f. fills_lists f.body) t.functions ≡ true
  pub bounded : IsBounded kept w t
  pub light : All (λ f. function_weight kept f ≤ 12000) t.functions
