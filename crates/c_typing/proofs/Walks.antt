-- A statement leaves the names that are declared, and has a typed tree where it breaks no rule.
use Rattle.std.proofs.Common.{◌≡◌, ℕ, suc, Bool, true, false, ◌&&◌, not, Option, Some, None, List, [], ◌∷◌, ◌++◌, map, length, refl, sym, ap, ◌∙◌, if◌then◌else◌}
use mathlib.Core.List.{append_assoc, append-nil}
use Rattle.c_tree.proofs.ExprFolds.{With}
use Rattle.c_tree.proofs.StatementFolds.{statement_keeps}
use Rattle.c_tree.specs.declared.token.At.{At}
use Rattle.c_tree.specs.declared.types.CType.{CType}
use Rattle.c_tree.specs.declared.syntax.Expr.{Expr}
use Rattle.c_tree.specs.declared.syntax.Size.{Size}
use Rattle.c_tree.specs.declared.syntax.Initialiser.{Initialiser}
use Rattle.c_tree.specs.declared.syntax.Initialiser.TheVariants as initialiser
use Rattle.c_tree.specs.declared.syntax.Item.{Item}
use Rattle.c_tree.specs.declared.syntax.Start.{Start}
use Rattle.c_tree.specs.declared.syntax.Start.TheVariants as start
use Rattle.c_tree.specs.declared.syntax.Declaration.{Declaration}
use Rattle.c_tree.specs.declared.syntax.Declaration.TheVariants as declaration
use Rattle.c_tree.specs.declared.syntax.Statement.{Statement}
use Rattle.c_tree.specs.declared.syntax.Statement.TheOpen as s
use Rattle.c_tree.specs.declared.syntax.Statement.TheFolds.{map-Statement}
use Rattle.c_tree.specs.declared.typed.TypedExpr.{TypedExpr}
use Rattle.c_tree.specs.declared.typed.Stat.{Stat}
use Rattle.c_tree.specs.declared.typed.LocalInit.TheVariants as init
use Rattle.c_typing.specs.declared.names.Around.{Around}
use Rattle.c_typing.specs.declared.names.Extent.{Extent}
use Rattle.c_typing.specs.declared.names.Extent.TheVariants as extent
use Rattle.c_typing.specs.Faults.{Faults, clean}
use Rattle.c_typing.specs.Types.{type_of_words, converted}
use Rattle.c_typing.specs.Scopes.{Entry}
use Rattle.c_typing.specs.Expressions.{Within, Judged, judge, used, is_sound, is_void, one, two, unless, broken_if, together}
use Rattle.c_typing.specs.Statements as st
use Rattle.c_typing.proofs.Trees.{no, left_of, right_of, if_kept, one_sound, two_sound, three_sound, has_tree}

pub record Extends (before after : List Entry) : Type 0 where
  pub more : List Entry
  pub is : after ≡ before ++ more

pub same : (es : List Entry) → Extends es es
same es = record { more = []; is = sym (append-nil es) }

pub further : (a b c : List Entry) → Extends a b → Extends b c → Extends a c
further a b c x y = record { more = x.more ++ y.more; is = y.is ∙ ap (λ es. es ++ y.more) x.is ∙ append_assoc a x.more y.more }

-- names stay, and where no rule is broken there is a tree
pub record Good {T : Type 0} (h : st.Here) (w : st.Walked T) : Type 0 where
  pub extends : Extends h.names w.here.names
  pub has : clean w.faults ≡ true → is_sound w.tree ≡ true

pub record Fine (w : st.Walk) : Type 0 where
  pub good : (c : Around) (h : st.Here) → Good h (w c h)

pub single_sound : {A : Type 0} (x : Option A) → is_sound x ≡ true → is_sound (st.single x) ≡ true
single_sound None h = no h
single_sound (Some a) h = refl

pub joined_sound : {A : Type 0} (x y : Option (List A)) → is_sound x ≡ true → is_sound y ≡ true → is_sound (st.joined x y) ≡ true
joined_sound None y h k = no h
joined_sound (Some a) None h k = no k
joined_sound (Some a) (Some b) h k = refl

together_sound : {A B C : Type 0} (x : Option A) (y : Option B) (z : Option C) → is_sound x ≡ true → is_sound y ≡ true → is_sound z ≡ true → is_sound (together x y z) ≡ true
together_sound None y z h k l = no h
together_sound (Some a) None z h k l = no k
together_sound (Some a) (Some b) None h k l = no l
together_sound (Some a) (Some b) (Some c) h k l = refl

kept_sound : {A : Type 0} (b : Bool) (rule : ℕ) (at : At) (x : Option A) → clean (broken_if (not b) rule at) ≡ true → is_sound x ≡ true → is_sound (st.kept_if b x) ≡ true
kept_sound true rule at x e h = h
kept_sound false rule at x e h = no e

module _ (g : Within) where
  value_sound : (h : st.Here) (e : Expr) → clean (st.value_at g h e).faults ≡ true → is_sound (st.value_at g h e).seen.tree ≡ true
  value_sound h e k = if_kept _ 24 _ _ (right_of _ _ k) (has_tree (st.setting g h) e (left_of _ _ k))

  expression_sound : (h : st.Here) (e : Expr) → clean (st.expression_at g h e).faults ≡ true → is_sound (st.expression_at g h e).seen.tree ≡ true
  expression_sound h e k = has_tree (st.setting g h) e k

  values_sound : (h : st.Here) (t : CType) (x : Extent) (i : ℕ) (es : List Expr) → clean (st.values_faults x i (map (st.value_at g h) es)) ≡ true → is_sound (st.values t (map (st.value_at g h) es)) ≡ true
  values_sound h t x i [] k = refl
  values_sound h t x i (e ∷ es) k =
      joined_sound (st.single (one (converted t) (st.value_at g h e).seen.tree)) (st.values t (map (st.value_at g h) es))
      (single_sound (one (converted t) (st.value_at g h e).seen.tree) (one_sound (converted t) (st.value_at g h e).seen.tree (value_sound h e (left_of _ _ (left_of _ _ k)))))
      (values_sound h t x (suc i) es (right_of _ _ k))

  init_sound : (h : st.Here) (t : CType) (x : Extent) (i : Initialiser) → clean (st.initialised g h t x i).1 ≡ true → is_sound (st.initialised g h t x i).0 ≡ true
  init_sound h t x initialiser.Absent k = refl
  init_sound h t extent.Scalar (initialiser.Value e) k = one_sound (st.value_init t) (st.value_at g h e).seen.tree (value_sound h e k)
  init_sound h t (extent.Elements n) (initialiser.Value e) k = no (right_of (clean (st.value_at g h e).faults) false k)
  init_sound h t extent.Unknown (initialiser.Value e) k = no (right_of (clean (st.value_at g h e).faults) false k)
  init_sound h t extent.Scalar (initialiser.List at es b) k = no (left_of false (clean (st.values_faults extent.Scalar 0 (map (st.value_at g h) es))) k)
  init_sound h t (extent.Elements n) (initialiser.List at es b) k = one_sound init.List (st.values t (map (st.value_at g h) es)) (values_sound h t (extent.Elements n) 0 es k)
  init_sound h t extent.Unknown (initialiser.List at es b) k = one_sound init.List (st.values t (map (st.value_at g h) es)) (values_sound h t extent.Unknown 0 es k)

  item_good : (c : Around) (h : st.Here) (t : CType) (i : Item) → Good h (st.item g c h t i)
  item_good c h t i =
      let j = st.sized g h i.size in
      let x = st.extent_of g j.seen i.size i.initialiser in
      let inner = st.with_object h i.name.bytes i.name.at t (st.length_of x) in
      record {
        extends = record { more = record { name = i.name.bytes; means = st.means_object (length h.locals) t (st.length_of x) } ∷ []; is = refl };
        has = λ k. one_sound (st.local_of (length h.locals)) (st.initialised g inner t x i.initialiser).0 (init_sound inner t x i.initialiser (right_of _ _ k));
      }

  items_good : (c : Around) (h : st.Here) (t : CType) (is : List Item) → Good h (st.items g c h t is)
  items_good c h t [] = record { extends = same h.names; has = λ k. refl }
  items_good c h t (i ∷ is) =
      let a = item_good c h t i in
      let b = items_good c (st.item g c h t i).here t is in
      record { extends = further _ _ _ a.extends b.extends; has = λ k. joined_sound _ _ (single_sound _ (a.has (left_of _ _ k))) (b.has (right_of _ _ k)) }

  locals_good : (c : Around) (h : st.Here) (d : Declaration) → Good h (st.locals_of g c h d)
  locals_good c h (declaration.Objects at t is) = items_good c h (type_of_words t) is
  locals_good c h (declaration.Function at r n ps) = record { extends = same h.names; has = λ k. no (right_of _ _ k) }

  pub begun_good : (c : Around) (h : st.Here) (i : Start) → Good h (st.begun g c h i)
  begun_good c h start.Absent = record { extends = same h.names; has = λ k. refl }
  begun_good c h (start.Value e) = record { extends = same h.names; has = λ k. one_sound _ _ (expression_sound h e k) }
  begun_good c h (start.Declared d) = let a = locals_good c h d in record { extends = a.extends; has = λ k. one_sound _ _ (a.has k) }

  tested_sound : (h : st.Here) (t : Option Expr) → clean (st.tested g h t).1 ≡ true → is_sound (st.tested g h t).0 ≡ true
  tested_sound h None k = refl
  tested_sound h (Some e) k = one_sound Some _ (value_sound h e k)

  stepped_sound : (h : st.Here) (t : Option Expr) → clean (st.stepped g h t).1 ≡ true → is_sound (st.stepped g h t).0 ≡ true
  stepped_sound h None k = refl
  stepped_sound h (Some e) k = one_sound Some _ (expression_sound h e k)

  pub sequence_good : (c : Around) (h : st.Here) (ws : List (With Fine)) → Good h (st.sequence g c h (map (λ e. e.0) ws))
  sequence_good c h [] = record { extends = same h.names; has = λ k. refl }
  sequence_good c h (a ∷ ws) =
      let x = a.1.good c h in
      let y = sequence_good c (a.0 c h).here ws in
      record { extends = further _ _ _ x.extends y.extends; has = λ k. joined_sound _ _ (single_sound _ (x.has (left_of _ _ k))) (y.has (right_of _ _ k)) }

  labelled : (c : Around) (h : st.Here) (l : Option ℕ) → Extends h.names (st.with_label c h l).names
  labelled c h l = by c.labels_stand
    where
      by : (b : Bool) → Extends h.names (if b then record { names = h.names; locals = h.locals; labels = h.labels ++ l ∷ [] } else h).names
      by true = same h.names
      by false = same h.names

  cased : (c : Around) (h : st.Here) (v : Option ℕ) → Extends h.names (st.with_case c h v).names
  cased c h None = same h.names
  cased c h (Some v) = labelled c h (Some v)

  constant_sound : (v : Option ℕ) (x : Option TypedExpr) (at : At) → clean (st.faulty_unless v x 18 at) ≡ true → is_sound x ≡ true → is_sound v ≡ true
  constant_sound None None at k h = no h
  constant_sound None (Some e) at k h = no k
  constant_sound (Some v) x at k h = refl

  stands : (c : Around) (h : st.Here) (at value_at : At) (v : Option ℕ) → clean (st.case_faults c h at value_at v) ≡ true → clean (broken_if (not c.labels_stand) 28 at) ≡ true
  stands c h at p None k = k
  stands c h at p (Some v) k = left_of _ _ k

  step : (y : s.Statement-F (With Fine)) (c : Around) (h : st.Here) → Good h (st.statement g (map-Statement (With Fine) st.Walk (λ e. e.0) y) c h)
  step (s.Block at ws) c h = let a = sequence_good (st.in_block c h) h ws in record { extends = same h.names; has = λ k. one_sound _ _ (a.has k) }
  step (s.Declared d) c h = let a = locals_good c h d in record { extends = a.extends; has = λ k. one_sound _ _ (a.has k) }
  step (s.Evaluate at None) c h = record { extends = same h.names; has = λ k. refl }
  step (s.Evaluate at (Some e)) c h = record { extends = same h.names; has = λ k. one_sound _ _ (expression_sound h e k) }
  step (s.If at e a None) c h = let x = a.1.good (st.plain c) h in record { extends = x.extends; has = λ k. two_sound _ _ _ (value_sound h e (left_of _ _ k)) (x.has (right_of _ _ k)) }
  step (s.If at e a (Some b)) c h =
      let x = a.1.good (st.plain c) h in
      let y = b.1.good (st.plain c) (a.0 (st.plain c) h).here in
      record {
        extends = further _ _ _ x.extends y.extends;
        has = λ k. three_sound _ _ _ _ (value_sound h e (left_of _ _ (left_of _ _ k))) (x.has (right_of _ _ (left_of _ _ k))) (y.has (right_of _ _ k));
      }
  step (s.While at e a) c h = let x = a.1.good (st.looped c) h in record { extends = x.extends; has = λ k. two_sound _ _ _ (value_sound h e (left_of _ _ k)) (x.has (right_of _ _ k)) }
  step (s.DoWhile at a e) c h =
      let x = a.1.good (st.looped c) h in
      record { extends = x.extends; has = λ k. two_sound _ _ _ (value_sound (a.0 (st.looped c) h).here e (right_of _ _ k)) (x.has (left_of _ _ k)) }
  step (s.For at i t u a) c h =
      let b = begun_good (st.in_block c h) h i in
      let inner = (st.begun g (st.in_block c h) h i).here in
      let z = a.1.good (st.looped c) inner in
      record {
        extends = same h.names;
        has = λ k. two_sound _ _ _
            (together_sound _ _ _ (b.has (left_of _ _ (left_of _ _ (left_of _ _ k)))) (tested_sound inner t (right_of _ _ (left_of _ _ (left_of _ _ k)))) (stepped_sound inner u (right_of _ _ (left_of _ _ k))))
            (z.has (right_of _ _ k));
      }
  step (s.Switch at e ws) c h = let a = sequence_good (st.in_switch c h) (st.without_labels h) ws in record { extends = same h.names; has = λ k. two_sound _ _ _ (value_sound h e (left_of _ _ k)) (a.has (right_of _ _ k)) }
  step (s.Case at e a) c h =
      let v = st.constant_of g.bits (st.expression_at g h e).seen.tree in
      let x = a.1.good c (st.with_case c h v) in
      record {
        extends = further _ _ _ (cased c h v) x.extends;
        has = λ k. kept_sound c.labels_stand 28 at _ (stands c h at _ v (right_of _ _ (left_of _ _ k)))
            (two_sound _ _ _ (constant_sound v _ _ (right_of _ _ (left_of _ _ (left_of _ _ k))) (expression_sound h e (left_of _ _ (left_of _ _ (left_of _ _ k))))) (x.has (right_of _ _ k)));
      }
  step (s.Default at a) c h =
      let x = a.1.good c (st.with_label c h None) in
      record {
        extends = further _ _ _ (labelled c h None) x.extends;
        has = λ k. kept_sound c.labels_stand 28 at _ (left_of _ _ (left_of _ _ k)) (one_sound _ _ (x.has (right_of _ _ k)));
      }
  step (s.Break at) c h = record { extends = same h.names; has = λ k. kept_sound c.breaks 26 at _ k refl }
  step (s.Continue at) c h = record { extends = same h.names; has = λ k. kept_sound c.loops 27 at _ k refl }
  step (s.Return at None) c h = record { extends = same h.names; has = λ k. if_kept _ 30 at _ k refl }
  step (s.Return at (Some e)) c h = record { extends = same h.names; has = λ k. if_kept _ 30 at _ (left_of _ _ k) (one_sound _ _ (value_sound h e (right_of _ _ k))) }

  pub all_fine : (x : Statement) → Fine (st.walk g x)
  all_fine x = statement_keeps st.Walk (st.statement g) Fine (λ y. record { good = step y }) x

  pub list_good : (c : Around) (h : st.Here) (xs : List Statement) → Good h (st.sequence g c h (map (st.walk g) xs))
  list_good c h [] = record { extends = same h.names; has = λ k. refl }
  list_good c h (a ∷ xs) =
      let x = (all_fine a).good c h in
      let y = list_good c (st.walk g a c h).here xs in
      record { extends = further _ _ _ x.extends y.extends; has = λ k. joined_sound _ _ (single_sound _ (x.has (left_of _ _ k))) (y.has (right_of _ _ k)) }
