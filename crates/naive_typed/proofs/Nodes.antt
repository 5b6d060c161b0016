-- A node over sound parts of the types that it wants is sound.
use Rattle.std.proofs.Common.{◌≡◌, ℕ, ◌==◌, Bool, true, false, ◌&&◌, ◌||◌, not, Option, Some, None, List, map, refl, sym, ap, ◌∙◌, subst}
use Rattle.std.proofs.lemmas.Bool.{and_from as both}
use denote.Hole.Carrier
use Rattle.c_tree.specs.declared.token.At.{At}
use Rattle.c_tree.specs.declared.types.CType.{CType}
use Rattle.c_tree.specs.declared.types.CType.TheVariants as type
use Rattle.c_tree.specs.declared.syntax.BinaryOperator.{BinaryOperator}
use Rattle.c_tree.specs.declared.syntax.UnaryOperator.{UnaryOperator}
use Rattle.c_tree.specs.declared.syntax.StepOperator.{StepOperator}
use Rattle.c_tree.specs.declared.syntax.Arithmetic.{Arithmetic}
use Rattle.c_tree.specs.declared.typed.Variable.{Variable}
use Rattle.c_tree.specs.declared.typed.Head.{Head}
use Rattle.c_tree.specs.declared.typed.Callee.{Callee}
use Rattle.c_tree.specs.declared.typed.Operation.TheVariants as operation
use Rattle.c_tree.specs.declared.typed.TypedExpr.{TypedExpr, out-TypedExpr}
use Rattle.c_tree.specs.declared.typed.TypedExpr.TheVariants as tree
use Rattle.c_tree.specs.declared.typed.TypedExpr.TheOpen.{TypedExpr-F, Comma, Assign, Compound, Conditional, Binary, Unary, Before, After, Constant, Object, Element, Call, Convert}
use Rattle.c_tree.specs.declared.typed.TypedExpr.TheViews.{roll-TypedExpr}
use Rattle.c_tree.specs.declared.typed.TypedExpr.TheFolds.{fold-roll-TypedExpr, ind-TypedExpr, map-TypedExpr}
use Rattle.c_tree.specs.declared.typed.Local.{Local}
use Rattle.c_tree.specs.declared.typed.Start.{Start}
use Rattle.c_tree.specs.declared.typed.Stat.{Stat}
use Rattle.c_tree.specs.declared.typed.Stat.TheVariants as stat
use Rattle.c_tree.specs.declared.typed.Stat.TheOpen as s
use Rattle.c_tree.specs.declared.typed.Stat.TheViews.{roll-Stat}
use Rattle.c_tree.specs.declared.typed.Stat.TheFolds.{fold-roll-Stat, map-Stat}
use Rattle.c_tree.specs.declared.typed.Function.{Function}
use Rattle.c_tree.specs.declared.typed.Typed.{Typed}
use Rattle.c_tree.specs.Heads.{head_of}
use Rattle.c_meaning.specs.Operators.{as_type}
use Rattle.c_meaning.specs.Expressions.{scalar, array, type_in}
use Rattle.c_meaning.specs.Run.{kind_in}
use Rattle.c_typing.proofs.Trees.{left_of as left_part, right_of as right_part}
use Rattle.naive_run.specs.Sound.{Checked, Left, checked, checked_by, type_of, alike, is_word, is_array, fits_call, fit_locals, fits_start, fits_return, is_sound_or_absent, left_by, left_of, all_left, simple, both as joint, with, in_loop, in_switch}

pub alike_same : (a : CType) → alike a a ≡ true
alike_same type.Schar = refl
alike_same type.Uchar = refl
alike_same type.Int = refl
alike_same type.Unsigned = refl
alike_same type.Void = refl

pub alike_is : (a b : CType) → a ≡ b → alike a b ≡ true
alike_is a b e = subst (λ x. alike a x ≡ true) e (alike_same a)

-- ---- what leaves a statement

abbrev pub implies : Bool → Bool → Bool
implies a b = not a || b

-- it is sound, and left by a break or a `continue` only where these lead somewhere
abbrev pub leaves : Bool → Bool → Left → Bool
leaves b c l = l.sound && implies l.breaks b && implies l.continues c

either_implies : (x y b : Bool) → implies x b ≡ true → implies y b ≡ true → implies (x || y) b ≡ true
either_implies true y b h i = h
either_implies false y b h i = i

sound_of : (b c : Bool) (l : Left) → leaves b c l ≡ true → l.sound ≡ true
sound_of b c l h = left_part l.sound (implies l.breaks b) (left_part (l.sound && implies l.breaks b) (implies l.continues c) h)

breaks_of : (b c : Bool) (l : Left) → leaves b c l ≡ true → implies l.breaks b ≡ true
breaks_of b c l h = right_part l.sound (implies l.breaks b) (left_part (l.sound && implies l.breaks b) (implies l.continues c) h)

continues_of : (b c : Bool) (l : Left) → leaves b c l ≡ true → implies l.continues c ≡ true
continues_of b c l h = right_part (l.sound && implies l.breaks b) (implies l.continues c) h

leaves_by : (b c : Bool) (l : Left) → l.sound ≡ true → implies l.breaks b ≡ true → implies l.continues c ≡ true → leaves b c l ≡ true
leaves_by b c l h i j = both (l.sound && implies l.breaks b) (implies l.continues c) (both l.sound (implies l.breaks b) h i) j

simply : (b c x : Bool) → x ≡ true → leaves b c (simple x) ≡ true
simply b c x h = leaves_by b c (simple x) h refl refl

pub both_leave : (b c : Bool) (x y : Left) → leaves b c x ≡ true → leaves b c y ≡ true → leaves b c (joint x y) ≡ true
both_leave b c x y h i = leaves_by b c (joint x y) (both x.sound y.sound (sound_of b c x h) (sound_of b c y i))
    (either_implies x.breaks y.breaks b (breaks_of b c x h) (breaks_of b c y i)) (either_implies x.continues y.continues c (continues_of b c x h) (continues_of b c y i))

with_leaves : (b c x : Bool) (l : Left) → x ≡ true → leaves b c l ≡ true → leaves b c (with x l) ≡ true
with_leaves b c x l h i = leaves_by b c (with x l) (both x l.sound h (sound_of b c l i)) (breaks_of b c l i) (continues_of b c l i)

loop_leaves : (b c : Bool) (l : Left) → leaves true true l ≡ true → leaves b c (in_loop l) ≡ true
loop_leaves b c l h = leaves_by b c (in_loop l) (sound_of true true l h) refl refl

switch_leaves_by : (b c : Bool) (l : Left) → leaves true c l ≡ true → leaves b c (in_switch l) ≡ true
switch_leaves_by b c l h = leaves_by b c (in_switch l) (sound_of true c l h) refl (continues_of true c l h)

never : (x : Bool) → implies x false ≡ true → not x ≡ true
never true h = h
never false h = refl

-- a body is left by its end and by returns alone
pub by_ends : (l : Left) → leaves false false l ≡ true → (l.sound && not l.breaks && not l.continues) ≡ true
by_ends l h = both (l.sound && not l.breaks) (not l.continues) (both l.sound (not l.breaks) (sound_of false false l h) (never l.breaks (breaks_of false false l h))) (never l.continues (continues_of false false l h))

module _ (w : ℕ) (t : Typed) (f : Function) where
  abbrev pub ok : TypedExpr → Bool
  ok e = (checked w t f e).sound

  abbrev by_node : TypedExpr-F Checked → Checked
  by_node e = record { of = type_of w t f e; sound = checked_by w t f e }

  is : (y : TypedExpr-F TypedExpr) → ok (roll-TypedExpr y) ≡ checked_by w t f (map-TypedExpr TypedExpr Checked (checked w t f) y)
  is y = ap (λ (c : Checked). c.sound) (fold-roll-TypedExpr Checked by_node y)

  -- the type of a tree is that of its head

  type_rolled : (S : Type 0) (it : S → TypedExpr) (y : TypedExpr-F S)
      → type_of w t f (map-TypedExpr TypedExpr Checked (checked w t f) (map-TypedExpr S TypedExpr it y)) ≡ (head_of (roll-TypedExpr (map-TypedExpr S TypedExpr it y))).of
  unfolding head_of out-TypedExpr roll-TypedExpr denote.Hole.Carrier.out denote.Hole.Carrier.roll
  type_rolled S it (Comma h a b) = refl
  type_rolled S it (Assign h a b) = refl
  type_rolled S it (Compound h a o b) = refl
  type_rolled S it (Conditional h a b d) = refl
  type_rolled S it (Binary h a o b) = refl
  type_rolled S it (Unary h o a) = refl
  type_rolled S it (Before h o a) = refl
  type_rolled S it (After h a o) = refl
  type_rolled S it (Constant h v) = refl
  type_rolled S it (Object h x) = refl
  type_rolled S it (Element h x i) = refl
  type_rolled S it (Call h g es) = refl
  type_rolled S it (Convert h a) = refl

  abbrev Same_type : TypedExpr → Type 0
  Same_type e = (checked w t f e).of ≡ (head_of e).of

  pub of_is : (e : TypedExpr) → (checked w t f e).of ≡ (head_of e).of
  of_is = ind-TypedExpr Same_type (λ x y same. subst (λ v. Same_type (roll-TypedExpr v)) same
      (ap (λ (c : Checked). c.of) (fold-roll-TypedExpr Checked by_node _) ∙ type_rolled _ (λ e. e.0) y))

  of_like : (a : CType) (e : TypedExpr) → a ≡ (head_of e).of → alike a (checked w t f e).of ≡ true
  of_like a e h = alike_is a _ (h ∙ sym (of_is e))

  of_both : (a b : TypedExpr) → (head_of b).of ≡ (head_of a).of → alike (checked w t f b).of (checked w t f a).of ≡ true
  of_both a b h = alike_is _ _ (of_is b ∙ (h ∙ sym (of_is a)))

  -- ---- expressions

  pub constant_ok : (h : Head) (v : ℕ) → (as_type w h.of v == v) ≡ true → ok (tree.Constant h v) ≡ true
  unfolding roll-TypedExpr denote.Hole.Carrier.roll
  constant_ok h v e = is (Constant h v) ∙ e

  pub object_ok : (h : Head) (x : Variable) → kind_in t f x ≡ scalar h.of → ok (tree.Object h x) ≡ true
  unfolding roll-TypedExpr denote.Hole.Carrier.roll
  object_ok h x e = is (Object h x) ∙ alike_is h.of (type_in (kind_in t f x)) (sym (ap type_in e))

  pub element_ok : (h : Head) (x : Variable) (n : ℕ) (i : TypedExpr) → kind_in t f x ≡ array h.of n → ok i ≡ true → ok (tree.Element h x i) ≡ true
  unfolding roll-TypedExpr denote.Hole.Carrier.roll
  element_ok h x n i e g = is (Element h x i) ∙ both _ _ (both _ _ g (ap is_array e)) (alike_is h.of (type_in (kind_in t f x)) (sym (ap type_in e)))

  pub assign_ok : (h : Head) (a b : TypedExpr) → h.of ≡ (head_of a).of → (head_of b).of ≡ (head_of a).of → ok a ≡ true → ok b ≡ true → ok (tree.Assign h a b) ≡ true
  unfolding roll-TypedExpr denote.Hole.Carrier.roll
  assign_ok h a b p q e g = is (Assign h a b) ∙ both _ _ (both _ _ (both _ _ e g) (of_like h.of a p)) (of_both a b q)

  pub compound_ok : (h : Head) (a : TypedExpr) (o : Arithmetic) (b : TypedExpr) → h.of ≡ (head_of a).of → ok a ≡ true → ok b ≡ true → ok (tree.Compound h a (operation.Operator o) b) ≡ true
  unfolding roll-TypedExpr denote.Hole.Carrier.roll
  compound_ok h a o b p e g = is (Compound h a (operation.Operator o) b) ∙ both _ _ (both _ _ (both _ _ e g) (of_like h.of a p)) refl

  pub before_ok : (h : Head) (o : StepOperator) (a : TypedExpr) → h.of ≡ (head_of a).of → ok a ≡ true → ok (tree.Before h o a) ≡ true
  unfolding roll-TypedExpr denote.Hole.Carrier.roll
  before_ok h o a p e = is (Before h o a) ∙ both _ _ e (of_like h.of a p)

  pub after_ok : (h : Head) (a : TypedExpr) (o : StepOperator) → h.of ≡ (head_of a).of → ok a ≡ true → ok (tree.After h a o) ≡ true
  unfolding roll-TypedExpr denote.Hole.Carrier.roll
  after_ok h a o p e = is (After h a o) ∙ both _ _ e (of_like h.of a p)

  pub binary_ok : (h : Head) (a : TypedExpr) (o : BinaryOperator) (b : TypedExpr) → is_word h.of ≡ true → ok a ≡ true → ok b ≡ true → ok (tree.Binary h a o b) ≡ true
  unfolding roll-TypedExpr denote.Hole.Carrier.roll
  binary_ok h a o b p e g = is (Binary h a o b) ∙ both _ _ (both _ _ e g) p

  pub unary_ok : (h : Head) (o : UnaryOperator) (a : TypedExpr) → is_word h.of ≡ true → ok a ≡ true → ok (tree.Unary h o a) ≡ true
  unfolding roll-TypedExpr denote.Hole.Carrier.roll
  unary_ok h o a p e = is (Unary h o a) ∙ both _ _ e p

  pub convert_ok : (h : Head) (a : TypedExpr) → ok a ≡ true → ok (tree.Convert h a) ≡ true
  unfolding roll-TypedExpr denote.Hole.Carrier.roll
  convert_ok h a e = is (Convert h a) ∙ e

  pub comma_ok : (h : Head) (a b : TypedExpr) → h.of ≡ (head_of b).of → ok a ≡ true → ok b ≡ true → ok (tree.Comma h a b) ≡ true
  unfolding roll-TypedExpr denote.Hole.Carrier.roll
  comma_ok h a b p e g = is (Comma h a b) ∙ both _ _ (both _ _ e g) (of_like h.of b p)

  pub conditional_ok : (h : Head) (a b d : TypedExpr) → h.of ≡ (head_of b).of → h.of ≡ (head_of d).of → ok a ≡ true → ok b ≡ true → ok d ≡ true → ok (tree.Conditional h a b d) ≡ true
  unfolding roll-TypedExpr denote.Hole.Carrier.roll
  conditional_ok h a b d p q e g i = is (Conditional h a b d) ∙ both _ _ (both _ _ (both _ _ (both _ _ e g) i) (of_like h.of b p)) (of_like h.of d q)

  pub call_ok : (h : Head) (g : Callee) (es : List TypedExpr) → fits_call w t f h.of g (map (checked w t f) es) ≡ true → ok (tree.Call h g es) ≡ true
  unfolding roll-TypedExpr denote.Hole.Carrier.roll
  call_ok h g es e = is (Call h g es) ∙ e

  -- ---- statements

  abbrev pub left : Stat → Left
  left = left_of w t f

  does : (y : s.Stat-F Stat) → left (roll-Stat y) ≡ left_by w t f (map-Stat Stat Left left y)
  does y = fold-roll-Stat Left (left_by w t f) y

  by_does : (b c : Bool) (y : s.Stat-F Stat) → leaves b c (left_by w t f (map-Stat Stat Left left y)) ≡ true → leaves b c (left (roll-Stat y)) ≡ true
  by_does b c y h = ap (leaves b c) (does y) ∙ h

  module _ (b c : Bool) where
    pub block_leaves : (at : At) (ss : List Stat) → leaves b c (all_left (map left ss)) ≡ true → leaves b c (left (stat.Block at ss)) ≡ true
    unfolding roll-Stat denote.Hole.Carrier.roll
    block_leaves at ss h = by_does b c (s.Block at ss) h

    pub declare_leaves : (at : At) (ls : List Local) → fit_locals w t f ls ≡ true → leaves b c (left (stat.Declare at ls)) ≡ true
    unfolding roll-Stat denote.Hole.Carrier.roll
    declare_leaves at ls h = by_does b c (s.Declare at ls) (simply b c _ h)

    pub evaluate_leaves : (at : At) (e : Option TypedExpr) → is_sound_or_absent w t f e ≡ true → leaves b c (left (stat.Evaluate at e)) ≡ true
    unfolding roll-Stat denote.Hole.Carrier.roll
    evaluate_leaves at e h = by_does b c (s.Evaluate at e) (simply b c _ h)

    pub if_leaves : (at : At) (e : TypedExpr) (a : Stat) → ok e ≡ true → leaves b c (left a) ≡ true → leaves b c (left (stat.If at e a None)) ≡ true
    unfolding roll-Stat denote.Hole.Carrier.roll
    if_leaves at e a h i = by_does b c (s.If at e a None) (with_leaves b c (ok e) (joint (left a) (simple true)) h (both_leave b c (left a) (simple true) i refl))

    pub else_leaves : (at : At) (e : TypedExpr) (x y : Stat) → ok e ≡ true → leaves b c (left x) ≡ true → leaves b c (left y) ≡ true → leaves b c (left (stat.If at e x (Some y))) ≡ true
    unfolding roll-Stat denote.Hole.Carrier.roll
    else_leaves at e x y h i j = by_does b c (s.If at e x (Some y)) (with_leaves b c (ok e) (joint (left x) (left y)) h (both_leave b c (left x) (left y) i j))

    pub while_leaves : (at : At) (e : TypedExpr) (a : Stat) → ok e ≡ true → leaves true true (left a) ≡ true → leaves b c (left (stat.While at e a)) ≡ true
    unfolding roll-Stat denote.Hole.Carrier.roll
    while_leaves at e a h i = by_does b c (s.While at e a) (with_leaves b c (ok e) (in_loop (left a)) h (loop_leaves b c (left a) i))

    pub do_leaves : (at : At) (e : TypedExpr) (a : Stat) → ok e ≡ true → leaves true true (left a) ≡ true → leaves b c (left (stat.DoWhile at a e)) ≡ true
    unfolding roll-Stat denote.Hole.Carrier.roll
    do_leaves at e a h i = by_does b c (s.DoWhile at a e) (with_leaves b c (ok e) (in_loop (left a)) h (loop_leaves b c (left a) i))

    pub for_leaves : (at : At) (i : Start) (x y : Option TypedExpr) (a : Stat) → fits_start w t f i ≡ true → is_sound_or_absent w t f x ≡ true → is_sound_or_absent w t f y ≡ true
        → leaves true true (left a) ≡ true → leaves b c (left (stat.For at i x y a)) ≡ true
    unfolding roll-Stat denote.Hole.Carrier.roll
    for_leaves at i x y a h j k l = by_does b c (s.For at i x y a) (with_leaves b c _ (in_loop (left a)) (both _ _ (both _ _ h j) k) (loop_leaves b c (left a) l))

    pub switch_leaves : (at : At) (e : TypedExpr) (ss : List Stat) → ok e ≡ true → leaves true c (all_left (map left ss)) ≡ true → leaves b c (left (stat.Switch at e ss)) ≡ true
    unfolding roll-Stat denote.Hole.Carrier.roll
    switch_leaves at e ss h i = by_does b c (s.Switch at e ss) (with_leaves b c (ok e) (in_switch (all_left (map left ss))) h (switch_leaves_by b c (all_left (map left ss)) i))

    pub case_leaves : (at : At) (v : ℕ) (a : Stat) → leaves b c (left a) ≡ true → leaves b c (left (stat.Case at v a)) ≡ true
    unfolding roll-Stat denote.Hole.Carrier.roll
    case_leaves at v a h = by_does b c (s.Case at v a) h

    pub default_leaves : (at : At) (a : Stat) → leaves b c (left a) ≡ true → leaves b c (left (stat.Default at a)) ≡ true
    unfolding roll-Stat denote.Hole.Carrier.roll
    default_leaves at a h = by_does b c (s.Default at a) h

    pub break_leaves : (at : At) → b ≡ true → leaves b c (left (stat.Break at)) ≡ true
    unfolding roll-Stat denote.Hole.Carrier.roll
    break_leaves at h = by_does b c (s.Break at) (both _ _ h refl)

    pub continue_leaves : (at : At) → c ≡ true → leaves b c (left (stat.Continue at)) ≡ true
    unfolding roll-Stat denote.Hole.Carrier.roll
    continue_leaves at h = by_does b c (s.Continue at) h

    pub return_leaves : (at : At) (e : Option TypedExpr) → fits_return w t f e ≡ true → leaves b c (left (stat.Return at e)) ≡ true
    unfolding roll-Stat denote.Hole.Carrier.roll
    return_leaves at e h = by_does b c (s.Return at e) (simply b c _ h)
