-- Typed trees in which each value of a case is a word, each list of initialisers has a value, and no function has more than 16 parameters.
use Rattle.std.specs.Prelude.{ℕ, ◌^◌, ◌&&◌, nat_lt, nat_le, Bool, true, length}
use Rattle.std.specs.List.{list_all}
use Rattle.c_tree.specs.declared.typed.Stat.TheOpen as stat
use Rattle.c_tree.specs.declared.typed.Stat.TheFolds.{fold-Stat}
use Rattle.c_tree.specs.declared.typed.Function.{Function}
use Rattle.c_tree.specs.declared.typed.Typed.{Typed}
use Rattle.naive_counts.specs.Homes.{locals_filled, start_filled}
use Rattle.naive_fits.specs.Expandable.{all_so, or_so}

module _ (w : ℕ) where
  abbrev pub regular_by : stat.Stat-F Bool → Bool
  regular_by (stat.Block at ss) = all_so ss
  regular_by (stat.Declare at ls) = locals_filled ls
  regular_by (stat.Evaluate at e) = true
  regular_by (stat.If at e a b) = a && or_so b
  regular_by (stat.While at e a) = a
  regular_by (stat.DoWhile at a e) = a
  regular_by (stat.For at first test step a) = start_filled first && a
  regular_by (stat.Switch at e ss) = all_so ss
  regular_by (stat.Case at v a) = nat_lt v (2 ^ w) && a
  regular_by (stat.Default at a) = a
  regular_by (stat.Break at) = true
  regular_by (stat.Continue at) = true
  regular_by (stat.Return at e) = true

  abbrev pub is_regular_function : Function → Bool
  is_regular_function f = nat_le (length f.params) 16 && fold-Stat Bool regular_by f.body

  abbrev pub is_regular : Typed → Bool
  is_regular t = list_all is_regular_function t.functions
