-- The homes of temporaries.
use Rattle.std.specs.Prelude.{◌≡◌, ◌≤◌, ◌<◌, ℕ, ◌+◌, ◌&&◌, Bool, true, false, List, [], ◌∷◌, length, All}
use Rattle.c_tree.specs.declared.typed.LocalInit.{LocalInit}
use Rattle.c_tree.specs.declared.typed.LocalInit.TheVariants as init
use Rattle.c_tree.specs.declared.typed.Local.{Local}
use Rattle.c_tree.specs.declared.typed.Start.{Start}
use Rattle.c_tree.specs.declared.typed.Start.TheVariants as start
use Rattle.c_tree.specs.declared.typed.Stat.{Stat}
use Rattle.c_tree.specs.declared.typed.Stat.TheOpen as stat
use Rattle.c_tree.specs.declared.typed.Stat.TheFolds.{fold-Stat}
use Rattle.c_tree.specs.declared.typed.Function.{Function}
use Rattle.c_tree.specs.declared.typed.Typed.{Typed}
use Rattle.c_limits.specs.Depths.{greatest_in, depth_of}
use Rattle.naive_counts.specs.Names.{all_true, or_true}
use Rattle.naive_code.specs.Storage.{scalar_count}
use Rattle.naive_code.specs.Functions.{body_steps, function_homes, slots_of}

-- ---- each list of initialisers has one (C11 6.7.9)

abbrev pub init_filled : LocalInit → Bool
init_filled init.Absent = true
init_filled (init.Value e) = true
init_filled (init.List []) = false
init_filled (init.List (e ∷ es)) = true

abbrev pub locals_filled : List Local → Bool
locals_filled [] = true
locals_filled (l ∷ ls) = init_filled l.init && locals_filled ls

abbrev pub start_filled : Start → Bool
start_filled start.Absent = true
start_filled (start.Value e) = true
start_filled (start.Declared at ls) = locals_filled ls

abbrev pub filled_by : stat.Stat-F Bool → Bool
filled_by (stat.Block at ss) = all_true ss
filled_by (stat.Declare at ls) = locals_filled ls
filled_by (stat.Evaluate at e) = true
filled_by (stat.If at e a b) = a && or_true b
filled_by (stat.While at e a) = a
filled_by (stat.DoWhile at a e) = a
filled_by (stat.For at first test step a) = start_filled first && a
filled_by (stat.Switch at e ss) = all_true ss
filled_by (stat.Case at v a) = a
filled_by (stat.Default at a) = a
filled_by (stat.Break at) = true
filled_by (stat.Continue at) = true
filled_by (stat.Return at e) = true

abbrev pub fills_lists : Stat → Bool
fills_lists = fold-Stat Bool filled_by

-- ---- homes

-- each temporary of the code has a home, one more than those of the body being for what `main` returns; in a function that has an
-- expression, or no empty list of initialisers, they are among its slots
pub record HasHomes (kept : List ℕ) (w : ℕ) (t : Typed) (f : Function) : Type 0 where
  pub count : length (function_homes kept w t f) ≡ scalar_count f + (body_steps kept w t f).temps + 1
  pub among : 1 ≤ greatest_in depth_of f.body → All (λ h. h < slots_of f) (function_homes kept w t f)
  pub among_filled : fills_lists f.body ≡ true → All (λ h. h < slots_of f) (function_homes kept w t f)

abbrev pub HomesAreSlots : Type 0
HomesAreSlots = (kept : List ℕ) (w : ℕ) (t : Typed) (f : Function) → HasHomes kept w t f
