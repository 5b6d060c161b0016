-- A statement over regular parts is regular.
use Rattle.std.proofs.Common.{◌≡◌, ℕ, ◌^◌, nat_lt, Bool, true, Option, Some, None, List, map, refl, ◌∙◌}
use Rattle.std.proofs.lemmas.Bool.{and_from as both}
use denote.Hole.Carrier
use Rattle.c_tree.specs.declared.token.At.{At}
use Rattle.c_tree.specs.declared.typed.TypedExpr.{TypedExpr}
use Rattle.c_tree.specs.declared.typed.Local.{Local}
use Rattle.c_tree.specs.declared.typed.Start.{Start}
use Rattle.c_tree.specs.declared.typed.Stat.{Stat}
use Rattle.c_tree.specs.declared.typed.Stat.TheVariants as stat
use Rattle.c_tree.specs.declared.typed.Stat.TheOpen as s
use Rattle.c_tree.specs.declared.typed.Stat.TheViews.{roll-Stat}
use Rattle.c_tree.specs.declared.typed.Stat.TheFolds.{fold-Stat, fold-roll-Stat, map-Stat}
use Rattle.naive_counts.specs.Homes.{locals_filled, start_filled}
use Rattle.naive_fits.specs.Expandable.{all_so}
use Rattle.naive_regular.specs.Regular.{regular_by}

module _ (w : ℕ) where
  abbrev pub regular : Stat → Bool
  regular = fold-Stat Bool (regular_by w)

  abbrev pub all_regular : List Stat → Bool
  all_regular ss = all_so (map regular ss)

  does : (y : s.Stat-F Stat) → regular (roll-Stat y) ≡ regular_by w (map-Stat Stat Bool regular y)
  does y = fold-roll-Stat Bool (regular_by w) y

  pub block_regular : (at : At) (ss : List Stat) → all_regular ss ≡ true → regular (stat.Block at ss) ≡ true
  unfolding roll-Stat denote.Hole.Carrier.roll
  block_regular at ss h = does (s.Block at ss) ∙ h

  pub declare_regular : (at : At) (ls : List Local) → locals_filled ls ≡ true → regular (stat.Declare at ls) ≡ true
  unfolding roll-Stat denote.Hole.Carrier.roll
  declare_regular at ls h = does (s.Declare at ls) ∙ h

  pub evaluate_regular : (at : At) (e : Option TypedExpr) → regular (stat.Evaluate at e) ≡ true
  unfolding roll-Stat denote.Hole.Carrier.roll
  evaluate_regular at e = does (s.Evaluate at e)

  pub if_regular : (at : At) (e : TypedExpr) (a : Stat) → regular a ≡ true → regular (stat.If at e a None) ≡ true
  unfolding roll-Stat denote.Hole.Carrier.roll
  if_regular at e a h = does (s.If at e a None) ∙ both _ _ h refl

  pub else_regular : (at : At) (e : TypedExpr) (a b : Stat) → regular a ≡ true → regular b ≡ true → regular (stat.If at e a (Some b)) ≡ true
  unfolding roll-Stat denote.Hole.Carrier.roll
  else_regular at e a b h k = does (s.If at e a (Some b)) ∙ both _ _ h k

  pub while_regular : (at : At) (e : TypedExpr) (a : Stat) → regular a ≡ true → regular (stat.While at e a) ≡ true
  unfolding roll-Stat denote.Hole.Carrier.roll
  while_regular at e a h = does (s.While at e a) ∙ h

  pub do_regular : (at : At) (e : TypedExpr) (a : Stat) → regular a ≡ true → regular (stat.DoWhile at a e) ≡ true
  unfolding roll-Stat denote.Hole.Carrier.roll
  do_regular at e a h = does (s.DoWhile at a e) ∙ h

  pub for_regular : (at : At) (i : Start) (t u : Option TypedExpr) (a : Stat) → start_filled i ≡ true → regular a ≡ true → regular (stat.For at i t u a) ≡ true
  unfolding roll-Stat denote.Hole.Carrier.roll
  for_regular at i t u a h k = does (s.For at i t u a) ∙ both _ _ h k

  pub switch_regular : (at : At) (e : TypedExpr) (ss : List Stat) → all_regular ss ≡ true → regular (stat.Switch at e ss) ≡ true
  unfolding roll-Stat denote.Hole.Carrier.roll
  switch_regular at e ss h = does (s.Switch at e ss) ∙ h

  pub case_regular : (at : At) (v : ℕ) (a : Stat) → nat_lt v (2 ^ w) ≡ true → regular a ≡ true → regular (stat.Case at v a) ≡ true
  unfolding roll-Stat denote.Hole.Carrier.roll
  case_regular at v a h k = does (s.Case at v a) ∙ both _ _ h k

  pub default_regular : (at : At) (a : Stat) → regular a ≡ true → regular (stat.Default at a) ≡ true
  unfolding roll-Stat denote.Hole.Carrier.roll
  default_regular at a h = does (s.Default at a) ∙ h

  pub break_regular : (at : At) → regular (stat.Break at) ≡ true
  unfolding roll-Stat denote.Hole.Carrier.roll
  break_regular at = does (s.Break at)

  pub continue_regular : (at : At) → regular (stat.Continue at) ≡ true
  unfolding roll-Stat denote.Hole.Carrier.roll
  continue_regular at = does (s.Continue at)

  pub return_regular : (at : At) (e : Option TypedExpr) → regular (stat.Return at e) ≡ true
  unfolding roll-Stat denote.Hole.Carrier.roll
  return_regular at e = does (s.Return at e)
