-- A node over sound parts is sound.
use Rattle.std.proofs.Common.{◌≡◌, ℕ, ◌^◌, nat_lt, Bool, true, false, ◌&&◌, Option, Some, None, List, map, refl, ap, ◌∙◌, subst}
use denote.Hole.Carrier
use Rattle.c_tree.specs.declared.token.At.{At}
use Rattle.c_tree.specs.declared.syntax.BinaryOperator.{BinaryOperator}
use Rattle.c_tree.specs.declared.syntax.UnaryOperator.{UnaryOperator}
use Rattle.c_tree.specs.declared.syntax.StepOperator.{StepOperator}
use Rattle.c_tree.specs.declared.syntax.Arithmetic.{Arithmetic}
use Rattle.c_tree.specs.declared.typed.Variable.{Variable}
use Rattle.c_tree.specs.declared.typed.Head.{Head}
use Rattle.c_tree.specs.declared.typed.Callee.{Callee}
use Rattle.c_tree.specs.declared.typed.Operation.TheVariants as operation
use Rattle.c_tree.specs.declared.typed.TypedExpr.{TypedExpr, out-TypedExpr}
use Rattle.c_tree.specs.declared.typed.TypedExpr.TheVariants as tree
use Rattle.c_tree.specs.declared.typed.TypedExpr.TheOpen.{TypedExpr-F, Comma, Assign, Compound, Conditional, Binary, Unary, Before, After, Constant, Object, Element, Call, Convert}
use Rattle.c_tree.specs.declared.typed.TypedExpr.TheViews.{roll-TypedExpr}
use Rattle.c_tree.specs.declared.typed.TypedExpr.TheFolds.{fold-roll-TypedExpr, ind-TypedExpr, map-TypedExpr}
use Rattle.c_tree.specs.declared.typed.Local.{Local}
use Rattle.c_tree.specs.declared.typed.Start.{Start}
use Rattle.c_tree.specs.declared.typed.Stat.{Stat}
use Rattle.c_tree.specs.declared.typed.Stat.TheVariants as stat
use Rattle.c_tree.specs.declared.typed.Stat.TheOpen as s
use Rattle.c_tree.specs.declared.typed.Stat.TheViews.{roll-Stat}
use Rattle.c_tree.specs.declared.typed.Stat.TheFolds.{fold-roll-Stat, map-Stat}
use Rattle.c_tree.specs.Heads.{is_place}
use Rattle.c_sound.specs.Sound.{Known, Checked, is_scalar, is_array, each, callee_stands, expression, checked, is_sound, maybe_sound, locals_sound, start_sound, all, statement, body_sound}

pub both : (a b : Bool) → a ≡ true → b ≡ true → (a && b) ≡ true
both true b e f = f
both false b e f = e

module _ (k : Known) where
  is : (y : TypedExpr-F TypedExpr) → is_sound k (roll-TypedExpr y) ≡ (expression k (map-TypedExpr TypedExpr Checked (checked k) y)).sound
  is y = ap (λ (c : Checked). c.sound) (fold-roll-TypedExpr Checked (expression k) y)

  pub constant_sound : (h : Head) (v : ℕ) → nat_lt v (2 ^ k.bits) ≡ true → is_sound k (tree.Constant h v) ≡ true
  unfolding roll-TypedExpr denote.Hole.Carrier.roll
  constant_sound h v e = is (Constant h v) ∙ e

  pub object_sound : (h : Head) (x : Variable) → is_scalar (k.kind x) ≡ true → is_sound k (tree.Object h x) ≡ true
  unfolding roll-TypedExpr denote.Hole.Carrier.roll
  object_sound h x e = is (Object h x) ∙ e

  pub element_sound : (h : Head) (x : Variable) (i : TypedExpr) → is_array (k.kind x) ≡ true → is_sound k i ≡ true → is_sound k (tree.Element h x i) ≡ true
  unfolding roll-TypedExpr denote.Hole.Carrier.roll
  element_sound h x i e f = is (Element h x i) ∙ both _ _ e f

  pub assign_sound : (h : Head) (a b : TypedExpr) → (checked k a).place ≡ true → is_sound k a ≡ true → is_sound k b ≡ true → is_sound k (tree.Assign h a b) ≡ true
  unfolding roll-TypedExpr denote.Hole.Carrier.roll
  assign_sound h a b p e f = is (Assign h a b) ∙ both _ _ (both _ _ p e) f

  pub compound_sound : (h : Head) (a : TypedExpr) (o : Arithmetic) (b : TypedExpr) → (checked k a).place ≡ true → is_sound k a ≡ true → is_sound k b ≡ true
      → is_sound k (tree.Compound h a (operation.Operator o) b) ≡ true
  unfolding roll-TypedExpr denote.Hole.Carrier.roll
  compound_sound h a o b p e f = is (Compound h a (operation.Operator o) b) ∙ both _ _ (both _ _ p e) f

  pub before_sound : (h : Head) (o : StepOperator) (a : TypedExpr) → (checked k a).place ≡ true → is_sound k a ≡ true → is_sound k (tree.Before h o a) ≡ true
  unfolding roll-TypedExpr denote.Hole.Carrier.roll
  before_sound h o a p e = is (Before h o a) ∙ both _ _ p e

  pub after_sound : (h : Head) (a : TypedExpr) (o : StepOperator) → (checked k a).place ≡ true → is_sound k a ≡ true → is_sound k (tree.After h a o) ≡ true
  unfolding roll-TypedExpr denote.Hole.Carrier.roll
  after_sound h a o p e = is (After h a o) ∙ both _ _ p e

  pub binary_sound : (h : Head) (a : TypedExpr) (o : BinaryOperator) (b : TypedExpr) → is_sound k a ≡ true → is_sound k b ≡ true → is_sound k (tree.Binary h a o b) ≡ true
  unfolding roll-TypedExpr denote.Hole.Carrier.roll
  binary_sound h a o b e f = is (Binary h a o b) ∙ both _ _ e f

  pub unary_sound : (h : Head) (o : UnaryOperator) (a : TypedExpr) → is_sound k a ≡ true → is_sound k (tree.Unary h o a) ≡ true
  unfolding roll-TypedExpr denote.Hole.Carrier.roll
  unary_sound h o a e = is (Unary h o a) ∙ e

  pub convert_sound : (h : Head) (a : TypedExpr) → is_sound k a ≡ true → is_sound k (tree.Convert h a) ≡ true
  unfolding roll-TypedExpr denote.Hole.Carrier.roll
  convert_sound h a e = is (Convert h a) ∙ e

  pub comma_sound : (h : Head) (a b : TypedExpr) → is_sound k a ≡ true → is_sound k b ≡ true → is_sound k (tree.Comma h a b) ≡ true
  unfolding roll-TypedExpr denote.Hole.Carrier.roll
  comma_sound h a b e f = is (Comma h a b) ∙ both _ _ e f

  pub conditional_sound : (h : Head) (a b d : TypedExpr) → is_sound k a ≡ true → is_sound k b ≡ true → is_sound k d ≡ true → is_sound k (tree.Conditional h a b d) ≡ true
  unfolding roll-TypedExpr denote.Hole.Carrier.roll
  conditional_sound h a b d e f g = is (Conditional h a b d) ∙ both _ _ e (both _ _ f g)

  pub call_sound : (h : Head) (f : Callee) (es : List TypedExpr) → callee_stands k.functions f (map (checked k) es) ≡ true → each (map (checked k) es) ≡ true → is_sound k (tree.Call h f es) ≡ true
  unfolding roll-TypedExpr denote.Hole.Carrier.roll
  call_sound h f es e g = is (Call h f es) ∙ both _ _ e g

  -- an object or an element, here and where typing asks

  place_rolled : (S : Type 0) (it : S → TypedExpr) (y : TypedExpr-F S)
      → (expression k (map-TypedExpr TypedExpr Checked (checked k) (map-TypedExpr S TypedExpr it y))).place ≡ is_place (roll-TypedExpr (map-TypedExpr S TypedExpr it y))
  unfolding is_place out-TypedExpr roll-TypedExpr denote.Hole.Carrier.out denote.Hole.Carrier.roll
  place_rolled S it (Comma h a b) = refl
  place_rolled S it (Assign h a b) = refl
  place_rolled S it (Compound h a o b) = refl
  place_rolled S it (Conditional h a b d) = refl
  place_rolled S it (Binary h a o b) = refl
  place_rolled S it (Unary h o a) = refl
  place_rolled S it (Before h o a) = refl
  place_rolled S it (After h a o) = refl
  place_rolled S it (Constant h v) = refl
  place_rolled S it (Object h x) = refl
  place_rolled S it (Element h x i) = refl
  place_rolled S it (Call h f es) = refl
  place_rolled S it (Convert h a) = refl

  abbrev Same_place : TypedExpr → Type 0
  Same_place e = (checked k e).place ≡ is_place e

  pub place_is : (e : TypedExpr) → (checked k e).place ≡ is_place e
  place_is = ind-TypedExpr Same_place (λ x y same. subst (λ v. Same_place (roll-TypedExpr v)) same
      (ap (λ (c : Checked). c.place) (fold-roll-TypedExpr Checked (expression k) _) ∙ place_rolled _ (λ e. e.0) y))

  -- ---- statements

  does : (y : s.Stat-F Stat) → body_sound k (roll-Stat y) ≡ statement k (map-Stat Stat Bool (body_sound k) y)
  does y = fold-roll-Stat Bool (statement k) y

  pub block_sound : (at : At) (ss : List Stat) → all (map (body_sound k) ss) ≡ true → body_sound k (stat.Block at ss) ≡ true
  unfolding roll-Stat denote.Hole.Carrier.roll
  block_sound at ss e = does (s.Block at ss) ∙ e

  pub declare_sound : (at : At) (ls : List Local) → locals_sound k ls ≡ true → body_sound k (stat.Declare at ls) ≡ true
  unfolding roll-Stat denote.Hole.Carrier.roll
  declare_sound at ls e = does (s.Declare at ls) ∙ e

  pub evaluate_sound : (at : At) (e : Option TypedExpr) → maybe_sound k e ≡ true → body_sound k (stat.Evaluate at e) ≡ true
  unfolding roll-Stat denote.Hole.Carrier.roll
  evaluate_sound at e h = does (s.Evaluate at e) ∙ h

  pub if_sound : (at : At) (e : TypedExpr) (a : Stat) → is_sound k e ≡ true → body_sound k a ≡ true → body_sound k (stat.If at e a None) ≡ true
  unfolding roll-Stat denote.Hole.Carrier.roll
  if_sound at e a h i = does (s.If at e a None) ∙ both _ _ h (both _ _ i refl)

  pub else_sound : (at : At) (e : TypedExpr) (a b : Stat) → is_sound k e ≡ true → body_sound k a ≡ true → body_sound k b ≡ true → body_sound k (stat.If at e a (Some b)) ≡ true
  unfolding roll-Stat denote.Hole.Carrier.roll
  else_sound at e a b h i j = does (s.If at e a (Some b)) ∙ both _ _ h (both _ _ i j)

  pub while_sound : (at : At) (e : TypedExpr) (a : Stat) → is_sound k e ≡ true → body_sound k a ≡ true → body_sound k (stat.While at e a) ≡ true
  unfolding roll-Stat denote.Hole.Carrier.roll
  while_sound at e a h i = does (s.While at e a) ∙ both _ _ h i

  pub do_sound : (at : At) (e : TypedExpr) (a : Stat) → is_sound k e ≡ true → body_sound k a ≡ true → body_sound k (stat.DoWhile at a e) ≡ true
  unfolding roll-Stat denote.Hole.Carrier.roll
  do_sound at e a h i = does (s.DoWhile at a e) ∙ both _ _ i h

  pub for_sound : (at : At) (i : Start) (t u : Option TypedExpr) (a : Stat) → start_sound k i ≡ true → maybe_sound k t ≡ true → maybe_sound k u ≡ true → body_sound k a ≡ true → body_sound k (stat.For at i t u a) ≡ true
  unfolding roll-Stat denote.Hole.Carrier.roll
  for_sound at i t u a e f g h = does (s.For at i t u a) ∙ both _ _ e (both _ _ f (both _ _ g h))

  pub switch_sound : (at : At) (e : TypedExpr) (ss : List Stat) → is_sound k e ≡ true → all (map (body_sound k) ss) ≡ true → body_sound k (stat.Switch at e ss) ≡ true
  unfolding roll-Stat denote.Hole.Carrier.roll
  switch_sound at e ss h i = does (s.Switch at e ss) ∙ both _ _ h i

  pub case_sound : (at : At) (v : ℕ) (a : Stat) → body_sound k a ≡ true → body_sound k (stat.Case at v a) ≡ true
  unfolding roll-Stat denote.Hole.Carrier.roll
  case_sound at v a e = does (s.Case at v a) ∙ e

  pub default_sound : (at : At) (a : Stat) → body_sound k a ≡ true → body_sound k (stat.Default at a) ≡ true
  unfolding roll-Stat denote.Hole.Carrier.roll
  default_sound at a e = does (s.Default at a) ∙ e

  pub break_sound : (at : At) → body_sound k (stat.Break at) ≡ true
  unfolding roll-Stat denote.Hole.Carrier.roll
  break_sound at = does (s.Break at)

  pub continue_sound : (at : At) → body_sound k (stat.Continue at) ≡ true
  unfolding roll-Stat denote.Hole.Carrier.roll
  continue_sound at = does (s.Continue at)

  pub return_sound : (at : At) (e : Option TypedExpr) → maybe_sound k e ≡ true → body_sound k (stat.Return at e) ≡ true
  unfolding roll-Stat denote.Hole.Carrier.roll
  return_sound at e h = does (s.Return at e) ∙ h
