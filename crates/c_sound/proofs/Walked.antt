-- The typed tree of a statement is sound, where the objects that it declares are among those of the function.
use Rattle.std.proofs.Common.{◌≡◌, ℕ, Bool, true, false, Option, Some, None, List, [], ◌∷◌, ◌++◌, map, length, slice_get, refl, sym, ap, ◌∙◌, if◌then◌else◌}
use mathlib.Core.List.{append_assoc, append-nil}
use Rattle.rtl_word.specs.Words.{IsWordSize}
use Rattle.c_tree.proofs.ExprFolds.{With}
use Rattle.c_tree.proofs.StatementFolds.{statement_keeps}
use Rattle.c_tree.specs.declared.token.At.{At}
use Rattle.c_tree.specs.declared.types.CType.{CType}
use Rattle.c_tree.specs.declared.syntax.Expr.{Expr}
use Rattle.c_tree.specs.declared.syntax.Initialiser.{Initialiser}
use Rattle.c_tree.specs.declared.syntax.Initialiser.TheVariants as initialiser
use Rattle.c_tree.specs.declared.syntax.Item.{Item}
use Rattle.c_tree.specs.declared.syntax.Start.{Start}
use Rattle.c_tree.specs.declared.syntax.Start.TheVariants as start
use Rattle.c_tree.specs.declared.syntax.Declaration.{Declaration}
use Rattle.c_tree.specs.declared.syntax.Declaration.TheVariants as declaration
use Rattle.c_tree.specs.declared.syntax.Statement.{Statement}
use Rattle.c_tree.specs.declared.syntax.Statement.TheOpen as s
use Rattle.c_tree.specs.declared.syntax.Statement.TheFolds.{map-Statement}
use Rattle.c_tree.specs.declared.typed.Variable.{Variable}
use Rattle.c_tree.specs.declared.typed.Variable.TheVariants as variable
use Rattle.c_tree.specs.declared.typed.Object.{Object}
use Rattle.c_tree.specs.declared.typed.Local.{Local}
use Rattle.c_tree.specs.declared.typed.LocalInit.TheVariants as init
use Rattle.c_tree.specs.declared.typed.Start as typed
use Rattle.c_tree.specs.declared.typed.Start.TheVariants as begin
use Rattle.c_tree.specs.declared.typed.TypedExpr.{TypedExpr}
use Rattle.c_tree.specs.declared.typed.Stat.{Stat}
use Rattle.c_tree.specs.declared.typed.Stat.TheVariants as stat
use Rattle.c_typing.specs.declared.names.Around.{Around}
use Rattle.c_typing.specs.declared.names.Extent.{Extent}
use Rattle.c_typing.specs.declared.names.Extent.TheVariants as extent
use Rattle.c_typing.specs.Types.{type_of_words, converted}
use Rattle.c_typing.specs.Scopes.{Entry}
use Rattle.c_typing.specs.Expressions.{Within, judge, one, two, together}
use Rattle.c_typing.specs.Statements as st
use Rattle.c_meaning.specs.Expressions.{Kind}
use Rattle.c_meaning.specs.Run.{kind_by, kind_of}
use Rattle.c_sound.specs.Sound.{Known, is_sound, is_scalar, is_array, all_sound, maybe_sound, init_sound, locals_sound, start_sound, all, body_sound}
use Rattle.c_sound.proofs.Nodes.{both, block_sound, declare_sound, evaluate_sound, if_sound, else_sound, while_sound, do_sound, for_sound, switch_sound, case_sound, default_sound, break_sound, continue_sound, return_sound}
use Rattle.c_sound.proofs.Judged.{Kept, one_keeps, two_keeps, three_keeps, unless_keeps, known_by, Stands, Names, named_more, Signatures, used_keeps, converted_sound, judged_good}

-- a list that begins so
abbrev pub Begins : {A : Type 0} → List A → List A → Type 0
Begins {A} xs ys = (more : List A) × (ys ≡ xs ++ more)

pub same : {A : Type 0} (xs : List A) → Begins xs xs
same xs = ([], sym (append-nil xs))

pub further : {A : Type 0} (xs ys zs : List A) → Begins xs ys → Begins ys zs → Begins xs zs
further xs ys zs a b = (a.0 ++ b.0, b.1 ∙ ap (λ us. us ++ b.0) a.1 ∙ append_assoc xs a.0 b.0)

item_behind : {A : Type 0} (xs : List A) (x : A) (ys : List A) → slice_get (xs ++ x ∷ ys) (length xs) ≡ Some x
item_behind [] x ys = refl
item_behind (y ∷ xs) x ys = item_behind xs x ys

-- the item behind a list with which another begins
pub next_in : {A : Type 0} (xs : List A) (x : A) (ys : List A) → Begins (xs ++ x ∷ []) ys → slice_get ys (length xs) ≡ Some x
next_in xs x ys b = ap (λ us. slice_get us (length xs)) (b.1 ∙ append_assoc xs (x ∷ []) b.0) ∙ item_behind xs x b.0

pub kept_keeps : {A : Type 0} (p : A → Bool) (b : Bool) (o : Option A) → Kept p o → Kept p (st.kept_if b o)
kept_keeps p true o h = h
kept_keeps p false o h = tt

pub anything : (o : Option ℕ) → Kept (λ m. true) o
anything None = tt
anything (Some m) = refl

-- one more of a list
pub joined_keeps : {A : Type 0} (p : A → Bool) (q : List A → Bool) → ((x : A) (xs : List A) → p x ≡ true → q xs ≡ true → q (x ∷ xs) ≡ true)
    → (o : Option A) (u : Option (List A)) → Kept p o → Kept q u → Kept q (st.joined (st.single o) u)
joined_keeps p q f None u h i = tt
joined_keeps p q f (Some x) None h i = tt
joined_keeps p q f (Some x) (Some xs) h i = f x xs h i

module _ (g : Within) (z : IsWordSize g.bits) (kind : Variable → Kind) (n : ℕ) (calls : Signatures n g.signatures)
    (objects : List Object) (kinds : (j : ℕ) → kind (variable.Local j) ≡ kind_of (slice_get objects j)) where
  abbrev k : Known
  k = known_by g kind n

  abbrev Named : List Entry → Type 0
  Named = Names kind

  abbrev sound : TypedExpr → Bool
  sound = is_sound k

  abbrev Stat_sound : Stat → Bool
  Stat_sound = body_sound k

  abbrev stats_sound : List Stat → Bool
  stats_sound ss = all (map (body_sound k) ss)

  expression_keeps : (h : st.Here) → Named h.names → (e : Expr) → Kept sound (st.expression_at g h e).seen.tree
  expression_keeps h b e = (judged_good g kind n z h.names b calls e).keeps

  value_keeps : (h : st.Here) → Named h.names → (e : Expr) → Kept sound (st.value_at g h e).seen.tree
  value_keeps h b e = used_keeps g kind n (judge (st.setting g h) e) (judged_good g kind n z h.names b calls e)

  -- objects stay, and where all of them are the function's, the tree is sound and so are the names
  pub record Good_walk {T : Type 0} (p : T → Bool) (h : st.Here) (w : st.Walked T) : Type 0 where
    pub grows : Begins h.locals w.here.locals
    pub tree : Begins w.here.locals objects → Named h.names → Kept p w.tree
    pub names : Begins w.here.locals objects → Named h.names → Named w.here.names

  -- ---- declarations

  values_keep : (h : st.Here) → Named h.names → (t : CType) (es : List Expr) → Kept (all_sound k) (st.values t (map (st.value_at g h) es))
  values_keep h b t [] = refl
  values_keep h b t (e ∷ es) =
      joined_keeps sound (all_sound k) (λ x xs i j. both _ _ i j) (one (converted t) (st.value_at g h e).seen.tree) (st.values t (map (st.value_at g h) es))
      (one_keeps sound sound (converted t) (λ x i. converted_sound g kind n t x i) (st.value_at g h e).seen.tree (value_keeps h b e)) (values_keep h b t es)

  list_keeps : (h : st.Here) → Named h.names → (t : CType) (es : List Expr) → Kept (init_sound k) (one init.List (st.values t (map (st.value_at g h) es)))
  list_keeps h b t es = one_keeps (all_sound k) (init_sound k) init.List (λ x i. i) (st.values t (map (st.value_at g h) es)) (values_keep h b t es)

  init_keeps : (h : st.Here) → Named h.names → (t : CType) (x : Extent) (i : Initialiser) → Kept (init_sound k) (st.initialised g h t x i).0
  init_keeps h b t x initialiser.Absent = refl
  init_keeps h b t extent.Scalar (initialiser.Value e) = one_keeps sound (init_sound k) (st.value_init t) (λ y i. converted_sound g kind n t y i) (st.value_at g h e).seen.tree (value_keeps h b e)
  init_keeps h b t (extent.Elements m) (initialiser.Value e) = tt
  init_keeps h b t extent.Unknown (initialiser.Value e) = tt
  init_keeps h b t extent.Scalar (initialiser.List at es q) = tt
  init_keeps h b t (extent.Elements m) (initialiser.List at es q) = list_keeps h b t es
  init_keeps h b t extent.Unknown (initialiser.List at es q) = list_keeps h b t es

  object_stands : (t : CType) (j : ℕ) (l : Option ℕ) (o : Object) → o.length ≡ l → kind (variable.Local j) ≡ kind_of (Some o) → Stands kind (st.means_object j t l)
  object_stands t j None o e is = ap is_scalar (is ∙ ap (kind_by o.element) e)
  object_stands t j (Some m) o e is = ap is_array (is ∙ ap (kind_by o.element) e)

  abbrev local_sound : Local → Bool
  local_sound l = init_sound k l.init

  item_good : (c : Around) (h : st.Here) (t : CType) (i : Item) → Good_walk local_sound h (st.item g c h t i)
  item_good c h t i =
      let j = st.sized g h i.size in
      let x = st.extent_of g j.seen i.size i.initialiser in
      let o : Object = record { name = i.name.bytes; element = t; length = st.length_of x; at = i.name.at } in
      let inner = st.with_object h i.name.bytes i.name.at t (st.length_of x) in
      let named : Begins inner.locals objects → Named h.names → Named inner.names = λ a b.
      named_more kind h.names _ b (object_stands t (length h.locals) (st.length_of x) o refl (kinds (length h.locals) ∙ ap kind_of (next_in h.locals o objects a))) in
      record {
        grows = (o ∷ [], refl);
        tree = λ a b. one_keeps (init_sound k) local_sound (st.local_of (length h.locals)) (λ y i. i) (st.initialised g inner t x i.initialiser).0 (init_keeps inner (named a b) t x i.initialiser);
        names = named;
      }

  items_good : (c : Around) (h : st.Here) (t : CType) (is : List Item) → Good_walk (locals_sound k) h (st.items g c h t is)
  items_good c h t [] = record { grows = same h.locals; tree = λ a b. refl; names = λ a b. b }
  items_good c h t (i ∷ is) =
      let x = item_good c h t i in
      let y = items_good c (st.item g c h t i).here t is in
      let first : Begins (st.items g c (st.item g c h t i).here t is).here.locals objects → Begins (st.item g c h t i).here.locals objects = λ a. further _ _ _ y.grows a in
      record {
        grows = further _ _ _ x.grows y.grows;
        tree = λ a b. joined_keeps local_sound (locals_sound k) (λ u us i j. both _ _ i j) (st.item g c h t i).tree (st.items g c (st.item g c h t i).here t is).tree (x.tree (first a) b) (y.tree a (x.names (first a) b));
        names = λ a b. y.names a (x.names (first a) b);
      }

  locals_good : (c : Around) (h : st.Here) (d : Declaration) → Good_walk (locals_sound k) h (st.locals_of g c h d)
  locals_good c h (declaration.Objects at t is) = items_good c h (type_of_words t) is
  locals_good c h (declaration.Function at r m ps) = record { grows = same h.locals; tree = λ a b. tt; names = λ a b. b }

  begun_good : (c : Around) (h : st.Here) (i : Start) → Good_walk (start_sound k) h (st.begun g c h i)
  begun_good c h start.Absent = record { grows = same h.locals; tree = λ a b. refl; names = λ a b. b }
  begun_good c h (start.Value e) = record { grows = same h.locals; tree = λ a b. one_keeps sound (start_sound k) begin.Value (λ x i. i) (st.expression_at g h e).seen.tree (expression_keeps h b e); names = λ a b. b }
  begun_good c h (start.Declared d) =
      let x = locals_good c h d in
      record { grows = x.grows; tree = λ a b. one_keeps (locals_sound k) (start_sound k) (begin.Declared (st.place_of_declaration g d)) (λ y i. i) (st.locals_of g c h d).tree (x.tree a b); names = x.names }

  tested_keeps : (h : st.Here) → Named h.names → (t : Option Expr) → Kept (maybe_sound k) (st.tested g h t).0
  tested_keeps h b None = refl
  tested_keeps h b (Some e) = one_keeps sound (maybe_sound k) Some (λ x i. i) (st.value_at g h e).seen.tree (value_keeps h b e)

  stepped_keeps : (h : st.Here) → Named h.names → (t : Option Expr) → Kept (maybe_sound k) (st.stepped g h t).0
  stepped_keeps h b None = refl
  stepped_keeps h b (Some e) = one_keeps sound (maybe_sound k) Some (λ x i. i) (st.expression_at g h e).seen.tree (expression_keeps h b e)

  for_keeps : (at : At) (i : Option typed.Start) (t u : Option (Option TypedExpr)) (a : Option Stat) → Kept (start_sound k) i → Kept (maybe_sound k) t → Kept (maybe_sound k) u → Kept Stat_sound a
      → Kept Stat_sound (two (st.for_tree at) (together i t u) a)
  for_keeps at None t u a h i j l = tt
  for_keeps at (Some x) None u a h i j l = tt
  for_keeps at (Some x) (Some y) None a h i j l = tt
  for_keeps at (Some x) (Some y) (Some v) None h i j l = tt
  for_keeps at (Some x) (Some y) (Some v) (Some b) h i j l = for_sound k at x y v b h i j l

  -- ---- statements

  pub record Fine_walk (w : st.Walk) : Type 0 where
    pub good : (c : Around) (h : st.Here) → Good_walk Stat_sound h (w c h)

  sequence_good : (c : Around) (h : st.Here) (ws : List (With Fine_walk)) → Good_walk stats_sound h (st.sequence g c h (map (λ e. e.0) ws))
  sequence_good c h [] = record { grows = same h.locals; tree = λ a b. refl; names = λ a b. b }
  sequence_good c h (w ∷ ws) =
      let x = w.1.good c h in
      let rest = st.sequence g c (w.0 c h).here (map (λ e. e.0) ws) in
      let y = sequence_good c (w.0 c h).here ws in
      record {
        grows = further _ _ _ x.grows y.grows;
        tree = λ a b. joined_keeps Stat_sound stats_sound (λ u us i j. both _ _ i j) (w.0 c h).tree rest.tree (x.tree (further _ _ _ y.grows a) b) (y.tree a (x.names (further _ _ _ y.grows a) b));
        names = λ a b. y.names a (x.names (further _ _ _ y.grows a) b);
      }

  -- one more label changes no name and no object
  record Alike (h l : st.Here) : Type 0 where
    names : Named h.names → Named l.names
    grows : Begins h.locals l.locals

  labelled : (c : Around) (h : st.Here) (l : Option ℕ) → Alike h (st.with_label c h l)
  labelled c h l = by c.labels_stand
    where
      by : (b : Bool) → Alike h (if b then record { names = h.names; locals = h.locals; labels = h.labels ++ l ∷ [] } else h)
      by true = record { names = λ a. a; grows = same h.locals }
      by false = record { names = λ a. a; grows = same h.locals }

  cased : (c : Around) (h : st.Here) (v : Option ℕ) → Alike h (st.with_case c h v)
  cased c h None = record { names = λ a. a; grows = same h.locals }
  cased c h (Some v) = labelled c h (Some v)

  step : (y : s.Statement-F (With Fine_walk)) (c : Around) (h : st.Here) → Good_walk Stat_sound h (st.statement g (map-Statement (With Fine_walk) st.Walk (λ e. e.0) y) c h)
  step (s.Block at ws) c h =
      let x = sequence_good (st.in_block c h) h ws in
      record { grows = x.grows; tree = λ a b. one_keeps stats_sound Stat_sound (stat.Block at) (λ u i. block_sound k at u i) _ (x.tree a b); names = λ a b. b }
  step (s.Declared d) c h =
      let x = locals_good c h d in
      record { grows = x.grows; tree = λ a b. one_keeps (locals_sound k) Stat_sound (stat.Declare (st.place_of_declaration g d)) (λ u i. declare_sound k _ u i) _ (x.tree a b); names = x.names }
  step (s.Evaluate at None) c h = record { grows = same h.locals; tree = λ a b. evaluate_sound k at None refl; names = λ a b. b }
  step (s.Evaluate at (Some e)) c h =
      record { grows = same h.locals; tree = λ a b. one_keeps sound Stat_sound (st.evaluate at) (λ u i. evaluate_sound k at (Some u) i) _ (expression_keeps h b e); names = λ a b. b }
  step (s.If at e w None) c h =
      let x = w.1.good (st.plain c) h in
      record { grows = x.grows; tree = λ a b. two_keeps sound Stat_sound Stat_sound (st.if_tree at) (λ u v i j. if_sound k at u v i j) _ _ (value_keeps h b e) (x.tree a b); names = x.names }
  step (s.If at e w (Some v)) c h =
      let x = w.1.good (st.plain c) h in
      let y = v.1.good (st.plain c) (w.0 (st.plain c) h).here in
      record {
        grows = further _ _ _ x.grows y.grows;
        tree = λ a b. three_keeps sound Stat_sound Stat_sound Stat_sound (st.if_else_tree at) (λ u r t i j l. else_sound k at u r t i j l) _ _ _
            (value_keeps h b e) (x.tree (further _ _ _ y.grows a) b) (y.tree a (x.names (further _ _ _ y.grows a) b));
        names = λ a b. y.names a (x.names (further _ _ _ y.grows a) b);
      }
  step (s.While at e w) c h =
      let x = w.1.good (st.looped c) h in
      record { grows = x.grows; tree = λ a b. two_keeps sound Stat_sound Stat_sound (stat.While at) (λ u v i j. while_sound k at u v i j) _ _ (value_keeps h b e) (x.tree a b); names = x.names }
  step (s.DoWhile at w e) c h =
      let x = w.1.good (st.looped c) h in
      record { grows = x.grows; tree = λ a b. two_keeps sound Stat_sound Stat_sound (st.do_tree at) (λ u v i j. do_sound k at u v i j) _ _ (value_keeps (w.0 (st.looped c) h).here (x.names a b) e) (x.tree a b); names = x.names }
  step (s.For at i t u w) c h =
      let f = begun_good (st.in_block c h) h i in
      let inner = (st.begun g (st.in_block c h) h i).here in
      let x = w.1.good (st.looped c) inner in
      record {
        grows = further _ _ _ f.grows x.grows;
        tree = λ a b. for_keeps at _ _ _ _ (f.tree (further _ _ _ x.grows a) b) (tested_keeps inner (f.names (further _ _ _ x.grows a) b) t)
            (stepped_keeps inner (f.names (further _ _ _ x.grows a) b) u) (x.tree a (f.names (further _ _ _ x.grows a) b));
        names = λ a b. b;
      }
  step (s.Switch at e ws) c h =
      let x = sequence_good (st.in_switch c h) (st.without_labels h) ws in
      record {
        grows = x.grows;
        tree = λ a b. two_keeps sound stats_sound Stat_sound (st.switch_tree at) (λ u us i j. switch_sound k at _ us (converted_sound g kind n _ u i) j) _ _ (value_keeps h b e) (x.tree a b);
        names = λ a b. b;
      }
  step (s.Case at e w) c h =
      let v = st.constant_of g.bits (st.expression_at g h e).seen.tree in
      let l = cased c h v in
      let x = w.1.good c (st.with_case c h v) in
      record {
        grows = further _ _ _ l.grows x.grows;
        tree = λ a b. kept_keeps Stat_sound c.labels_stand _ (two_keeps (λ m. true) Stat_sound Stat_sound (st.case_tree at) (λ m u i j. case_sound k at m u j) v _ (anything v) (x.tree a (l.names b)));
        names = λ a b. x.names a (l.names b);
      }
  step (s.Default at w) c h =
      let l = labelled c h None in
      let x = w.1.good c (st.with_label c h None) in
      record {
        grows = further _ _ _ l.grows x.grows;
        tree = λ a b. kept_keeps Stat_sound c.labels_stand _ (one_keeps Stat_sound Stat_sound (stat.Default at) (λ u i. default_sound k at u i) _ (x.tree a (l.names b)));
        names = λ a b. x.names a (l.names b);
      }
  step (s.Break at) c h = record { grows = same h.locals; tree = λ a b. kept_keeps Stat_sound c.breaks _ (break_sound k at); names = λ a b. b }
  step (s.Continue at) c h = record { grows = same h.locals; tree = λ a b. kept_keeps Stat_sound c.loops _ (continue_sound k at); names = λ a b. b }
  step (s.Return at None) c h = record { grows = same h.locals; tree = λ a b. unless_keeps Stat_sound (st.returns_wrong c.result false) (Some (stat.Return at None)) (return_sound k at None refl); names = λ a b. b }
  step (s.Return at (Some e)) c h = record {
    grows = same h.locals;
    tree = λ a b. unless_keeps Stat_sound _ _ (one_keeps sound Stat_sound (st.return_tree at c.result) (λ u i. return_sound k at (Some _) (converted_sound g kind n c.result u i)) _ (value_keeps h b e));
    names = λ a b. b;
  }

  all_fine : (x : Statement) → Fine_walk (st.walk g x)
  all_fine x = statement_keeps st.Walk (st.statement g) Fine_walk (λ y. record { good = step y }) x

  pub list_good : (c : Around) (h : st.Here) (xs : List Statement) → Good_walk stats_sound h (st.sequence g c h (map (st.walk g) xs))
  list_good c h [] = record { grows = same h.locals; tree = λ a b. refl; names = λ a b. b }
  list_good c h (w ∷ xs) =
      let x = (all_fine w).good c h in
      let rest = st.sequence g c (st.walk g w c h).here (map (st.walk g) xs) in
      let y = list_good c (st.walk g w c h).here xs in
      record {
        grows = further _ _ _ x.grows y.grows;
        tree = λ a b. joined_keeps Stat_sound stats_sound (λ u us i j. both _ _ i j) (st.walk g w c h).tree rest.tree (x.tree (further _ _ _ y.grows a) b) (y.tree a (x.names (further _ _ _ y.grows a) b));
        names = λ a b. y.names a (x.names (further _ _ _ y.grows a) b);
      }
