-- The typed tree of a statement that breaks no rule is sound, where the objects that it declares are among those of the function.
use Rattle.std.proofs.Common.{◌≡◌, ℕ, suc, ◌+◌, ◌==◌, nat_le, Bool, true, false, ◌&&◌, not, Option, Some, None, List, [], ◌∷◌, ◌++◌, map, length, slice_get, refl, sym, ap, subst, ◌∙◌, if◌then◌else◌, arith}
use Rattle.std.specs.Prelude.{⊤}
use Rattle.std.specs.List.{list_all}
use Rattle.std.proofs.lemmas.Bool.{and_from as both}
use Rattle.std.proofs.lemmas.Bool.Decides.{nat_tests}
use Rattle.c_tree.proofs.ExprFolds.{With}
use Rattle.c_tree.proofs.StatementFolds.{statement_keeps}
use Rattle.c_tree.specs.declared.token.At.{At}
use Rattle.c_tree.specs.declared.types.CType.{CType}
use Rattle.c_tree.specs.declared.types.CType.TheVariants as type
use Rattle.c_tree.specs.declared.syntax.Expr.{Expr}
use Rattle.c_tree.specs.declared.syntax.Size.{Size}
use Rattle.c_tree.specs.declared.syntax.Size.TheVariants as size
use Rattle.c_tree.specs.declared.syntax.Initialiser.{Initialiser}
use Rattle.c_tree.specs.declared.syntax.Initialiser.TheVariants as initialiser
use Rattle.c_tree.specs.declared.syntax.Item.{Item}
use Rattle.c_tree.specs.declared.syntax.Start.{Start}
use Rattle.c_tree.specs.declared.syntax.Start.TheVariants as start
use Rattle.c_tree.specs.declared.syntax.Declaration.{Declaration}
use Rattle.c_tree.specs.declared.syntax.Declaration.TheVariants as declaration
use Rattle.c_tree.specs.declared.syntax.Statement.{Statement}
use Rattle.c_tree.specs.declared.syntax.Statement.TheOpen as s
use Rattle.c_tree.specs.declared.syntax.Statement.TheFolds.{map-Statement}
use Rattle.c_tree.specs.declared.typed.Variable.{Variable}
use Rattle.c_tree.specs.declared.typed.Variable.TheVariants as variable
use Rattle.c_tree.specs.declared.typed.Object.{Object}
use Rattle.c_tree.specs.declared.typed.Local.{Local}
use Rattle.c_tree.specs.declared.typed.LocalInit.TheVariants as init
use Rattle.c_tree.specs.declared.typed.Start as typed
use Rattle.c_tree.specs.declared.typed.Start.TheVariants as begin
use Rattle.c_tree.specs.declared.typed.TypedExpr.{TypedExpr}
use Rattle.c_tree.specs.declared.typed.Stat.{Stat}
use Rattle.c_tree.specs.declared.typed.Stat.TheVariants as stat
use Rattle.c_tree.specs.declared.typed.Function.{Function}
use Rattle.c_tree.specs.declared.typed.Typed.{Typed}
use Rattle.c_limits.specs.Frames.{is_helper}
use Rattle.c_typing.specs.declared.names.Around.{Around}
use Rattle.c_typing.specs.declared.names.Extent.{Extent}
use Rattle.c_typing.specs.declared.names.Extent.TheVariants as extent
use Rattle.c_typing.specs.Faults.{clean}
use Rattle.c_typing.specs.Types.{type_of_words, converted}
use Rattle.c_typing.specs.Expressions.{Within, judge, one, two, together, unless, broken_if}
use Rattle.c_typing.specs.Expressions as typing
use Rattle.c_typing.specs.Statements as st
use Rattle.c_typing.proofs.Trees.{no, left_of, right_of, has_tree}
use Rattle.c_meaning.specs.Expressions.{Kind}
use Rattle.c_meaning.specs.Run.{kind_by, kind_of, kind_in, is_main}
use Rattle.c_sound.proofs.Judged.{Kept, one_keeps, two_keeps, three_keeps, unless_keeps}
use Rattle.c_sound.proofs.Walked.{Begins, same, further, next_in, kept_keeps, joined_keeps, anything}
use Rattle.naive_run.specs.Sound.{has_type, is_sound_or_absent, fits_init, fit_locals, fits_start, left_of as left_in, all_left}
use Rattle.naive_typed.proofs.Nodes.{ok, leaves, both_leave, block_leaves, declare_leaves, evaluate_leaves, if_leaves, else_leaves, while_leaves, do_leaves, for_leaves, switch_leaves, case_leaves, default_leaves, break_leaves, continue_leaves, return_leaves}
use Rattle.naive_typed.proofs.Judged.{Stands, Names, named_more, Signatures, valued, used_keeps, converted_ok, converted_has, judged_good}

joined_more : {A : Type 0} (p : A → Bool) (q r : List A → Bool) → ((x : A) (xs : List A) → p x ≡ true → q xs ≡ true → r (x ∷ xs) ≡ true)
    → (o : Option A) (u : Option (List A)) → Kept p o → Kept q u → Kept r (st.joined (st.single o) u)
joined_more p q r f None u h i = tt
joined_more p q r f (Some x) None h i = tt
joined_more p q r f (Some x) (Some xs) h i = f x xs h i

unbroken : (b : Bool) (rule : ℕ) (at : At) → clean (broken_if b rule at) ≡ true → b ≡ false
unbroken true rule at e = no e
unbroken false rule at e = refl

-- an array has as many elements as are listed
abbrev Has_size : Extent → Initialiser → Type 0
Has_size extent.Scalar i = ⊤
Has_size (extent.Elements n) i = ⊤
Has_size extent.Unknown initialiser.Absent = ⊤
Has_size extent.Unknown (initialiser.Value e) = ⊤
Has_size extent.Unknown (initialiser.List at es b) = ⊥

module _ (g : Within) (t : Typed) (f : Function) (plain : not (is_helper f.name) ≡ true) (main : f.result ≡ type.Void → not (is_main f) ≡ true) (calls : Signatures t g.signatures) where
  abbrev kind : Variable → Kind
  kind = kind_in t f

  abbrev sound : TypedExpr → Bool
  sound = ok g.bits t f

  abbrev used_sound : TypedExpr → Bool
  used_sound = valued g t f plain

  abbrev stat_leaves : Around → Stat → Bool
  stat_leaves c a = leaves c.breaks c.loops (left_in g.bits t f a)

  abbrev stats_leave : Around → List Stat → Bool
  stats_leave c ss = leaves c.breaks c.loops (all_left (map (left_in g.bits t f) ss))

  expression_keeps : (h : st.Here) → Names kind h.names → (e : Expr) → Kept sound (st.expression_at g h e).seen.tree
  expression_keeps h b e = (judged_good g t f plain h.names b calls e).keeps

  value_keeps : (h : st.Here) → Names kind h.names → (e : Expr) → Kept used_sound (st.value_at g h e).seen.tree
  value_keeps h b e = used_keeps g t f plain (judge (st.setting g h) e) (judged_good g t f plain h.names b calls e)

  -- objects stay, and where all of them are the function's and no rule is broken, the tree is sound
  pub record Good_walk {T : Type 0} (p : T → Bool) (h : st.Here) (x : st.Walked T) : Type 0 where
    pub grows : Begins h.locals x.here.locals
    pub tree : Begins x.here.locals f.locals → Names kind h.names → clean x.faults ≡ true → Kept p x.tree
    pub names : Begins x.here.locals f.locals → Names kind h.names → Names kind x.here.names

  -- ---- declarations

  one_more : (n i : ℕ) → nat_le i n ≡ true → (n == i) ≡ false → nat_le (suc i) n ≡ true
  one_more n i h e = grind (arith, nat_tests, h, e)

  none_more : (n i : ℕ) → nat_le i n ≡ true → nat_le (i + 0) n ≡ true
  none_more n i h = grind (arith, nat_tests, h)

  counted : (n i m : ℕ) → nat_le (suc i + m) n ≡ true → nat_le (i + suc m) n ≡ true
  counted n i m h = grind (arith, nat_tests, h)

  from_none : (n j : ℕ) → nat_le (0 + j) n ≡ true → nat_le j n ≡ true
  from_none n j p = grind (arith, nat_tests, p)

  at_least : (n : ℕ) → nat_le 0 n ≡ true
  at_least n = grind (arith, nat_tests)

  abbrev listed : CType → ℕ → ℕ → List TypedExpr → Bool
  listed u n i xs = list_all (has_type g.bits t f u) xs && nat_le (i + length xs) n

  values_keep : (h : st.Here) → Names kind h.names → (u : CType) (n i : ℕ) → nat_le i n ≡ true → (es : List Expr) → clean (st.values_faults (extent.Elements n) i (map (st.value_at g h) es)) ≡ true
      → Kept (listed u n i) (st.values u (map (st.value_at g h) es))
  values_keep h b u n i l [] k = none_more n i l
  values_keep h b u n i l (e ∷ es) k =
      joined_more (has_type g.bits t f u) (listed u n (suc i)) (listed u n i) (λ x xs p q. both _ _ (both _ _ p (left_of _ _ q)) (counted n i (length xs) (right_of _ _ q)))
      (one (converted u) (st.value_at g h e).seen.tree) (st.values u (map (st.value_at g h) es))
      (one_keeps used_sound (has_type g.bits t f u) (converted u) (λ x p. converted_has g t f plain u x p) (st.value_at g h e).seen.tree (value_keeps h b e))
      (values_keep h b u n (suc i) (one_more n i l (unbroken _ 19 _ (right_of _ _ (left_of _ _ k)))) es (right_of _ _ k))

  init_keeps : (h : st.Here) → Names kind h.names → (u : CType) (x : Extent) (i : Initialiser) → Has_size x i → clean (st.initialised g h u x i).1 ≡ true
      → Kept (fits_init g.bits t f (kind_by u (st.length_of x))) (st.initialised g h u x i).0
  init_keeps h b u extent.Scalar initialiser.Absent z k = refl
  init_keeps h b u (extent.Elements m) initialiser.Absent z k = refl
  init_keeps h b u extent.Unknown initialiser.Absent z k = refl
  init_keeps h b u extent.Scalar (initialiser.Value e) z k =
      one_keeps used_sound (fits_init g.bits t f (kind_by u None)) (st.value_init u) (λ x p. converted_has g t f plain u x p) (st.value_at g h e).seen.tree (value_keeps h b e)
  init_keeps h b u (extent.Elements m) (initialiser.Value e) z k = tt
  init_keeps h b u extent.Unknown (initialiser.Value e) z k = tt
  init_keeps h b u extent.Scalar (initialiser.List at es q) z k = tt
  init_keeps h b u (extent.Elements m) (initialiser.List at es q) z k =
      one_keeps (listed u m 0) (fits_init g.bits t f (kind_by u (Some m))) init.List (λ x p. both _ _ (left_of _ _ p) (from_none m (length x) (right_of _ _ p)))
      (st.values u (map (st.value_at g h) es)) (values_keep h b u m 0 (at_least m) es k)
  init_keeps h b u extent.Unknown (initialiser.List at es q) z k = absurd z

  size_stands : (v : Option ℕ) (o : Option TypedExpr) (at : At) → typing.is_sound o ≡ true → clean (st.faulty_unless v o 16 at) ≡ true → (i : Initialiser) → Has_size (st.elements v) i
  size_stands None None at h k i = no h
  size_stands None (Some e) at h k i = no k
  size_stands (Some n) o at h k i = tt

  has_size : (h : st.Here) (z : Size) (i : Initialiser) (at : At) → clean (st.sized g h z).faults ≡ true → clean (st.size_faults g (st.sized g h z).seen z i at) ≡ true
      → Has_size (st.extent_of g (st.sized g h z).seen z i) i
  has_size h size.Scalar i at j k = tt
  has_size h size.Absent initialiser.Absent at j k = tt
  has_size h size.Absent (initialiser.Value e) at j k = tt
  has_size h size.Absent (initialiser.List p es b) at j k = tt
  has_size h (size.Given e) i at j k =
      let x = st.expression_at g h e in
      size_stands (st.size_of g.bits x.seen.tree) x.seen.tree x.seen.at (has_tree (st.setting g h) e j) k i

  object_stands : (u : CType) (j : ℕ) (l : Option ℕ) (o : Object) → o.element ≡ u → o.length ≡ l → slice_get f.locals j ≡ Some o → Stands kind (st.means_object j u l)
  object_stands u j None o d e is = ap kind_of is ∙ (ap (kind_by o.element) e ∙ ap (λ v. kind_by v None) d)
  object_stands u j (Some m) o d e is = ap kind_of is ∙ (ap (kind_by o.element) e ∙ ap (λ v. kind_by v (Some m)) d)

  abbrev local_fits : Local → Bool
  local_fits l = fits_init g.bits t f (kind (variable.Local l.number)) l.init

  item_good : (c : Around) (h : st.Here) (u : CType) (i : Item) → Good_walk local_fits h (st.item g c h u i)
  item_good c h u i =
      let j = st.sized g h i.size in
      let x = st.extent_of g j.seen i.size i.initialiser in
      let o : Object = record { name = i.name.bytes; element = u; length = st.length_of x; at = i.name.at } in
      let inner = st.with_object h i.name.bytes i.name.at u (st.length_of x) in
      let behind : Begins inner.locals f.locals → slice_get f.locals (length h.locals) ≡ Some o = λ a. next_in h.locals o f.locals a in
      let named : Begins inner.locals f.locals → Names kind h.names → Names kind inner.names = λ a b.
      named_more kind h.names _ b (object_stands u (length h.locals) (st.length_of x) o refl refl (behind a)) in
      record {
        grows = (o ∷ [], refl);
        tree = λ a b k. one_keeps (fits_init g.bits t f (kind_by u (st.length_of x))) local_fits (st.local_of (length h.locals))
            (λ y p. ap (λ v. fits_init g.bits t f (kind_of v) y) (behind a) ∙ p) (st.initialised g inner u x i.initialiser).0
            (init_keeps inner (named a b) u x i.initialiser (has_size h i.size i.initialiser i.name.at (right_of _ _ (left_of _ _ (left_of _ _ k))) (right_of _ _ (left_of _ _ k))) (right_of _ _ k));
        names = named;
      }

  items_good : (c : Around) (h : st.Here) (u : CType) (is : List Item) → Good_walk (fit_locals g.bits t f) h (st.items g c h u is)
  items_good c h u [] = record { grows = same h.locals; tree = λ a b k. refl; names = λ a b. b }
  items_good c h u (i ∷ is) =
      let x = item_good c h u i in
      let y = items_good c (st.item g c h u i).here u is in
      let first : Begins (st.items g c (st.item g c h u i).here u is).here.locals f.locals → Begins (st.item g c h u i).here.locals f.locals = λ a. further _ _ _ y.grows a in
      record {
        grows = further _ _ _ x.grows y.grows;
        tree = λ a b k. joined_keeps local_fits (fit_locals g.bits t f) (λ v vs p q. both _ _ p q) (st.item g c h u i).tree (st.items g c (st.item g c h u i).here u is).tree
            (x.tree (first a) b (left_of _ _ k)) (y.tree a (x.names (first a) b) (right_of _ _ k));
        names = λ a b. y.names a (x.names (first a) b);
      }

  locals_good : (c : Around) (h : st.Here) (d : Declaration) → Good_walk (fit_locals g.bits t f) h (st.locals_of g c h d)
  locals_good c h (declaration.Objects at u is) = items_good c h (type_of_words u) is
  locals_good c h (declaration.Function at r m ps) = record { grows = same h.locals; tree = λ a b k. tt; names = λ a b. b }

  begun_good : (c : Around) (h : st.Here) (i : Start) → Good_walk (fits_start g.bits t f) h (st.begun g c h i)
  begun_good c h start.Absent = record { grows = same h.locals; tree = λ a b k. refl; names = λ a b. b }
  begun_good c h (start.Value e) = record { grows = same h.locals; tree = λ a b k. one_keeps sound (fits_start g.bits t f) begin.Value (λ x p. p) (st.expression_at g h e).seen.tree (expression_keeps h b e); names = λ a b. b }
  begun_good c h (start.Declared d) =
      let x = locals_good c h d in
      record { grows = x.grows; tree = λ a b k. one_keeps (fit_locals g.bits t f) (fits_start g.bits t f) (begin.Declared (st.place_of_declaration g d)) (λ y p. p) (st.locals_of g c h d).tree (x.tree a b k); names = x.names }

  tested_keeps : (h : st.Here) → Names kind h.names → (e : Option Expr) → Kept (is_sound_or_absent g.bits t f) (st.tested g h e).0
  tested_keeps h b None = refl
  tested_keeps h b (Some e) = one_keeps used_sound (is_sound_or_absent g.bits t f) Some (λ x p. left_of _ _ p) (st.value_at g h e).seen.tree (value_keeps h b e)

  stepped_keeps : (h : st.Here) → Names kind h.names → (e : Option Expr) → Kept (is_sound_or_absent g.bits t f) (st.stepped g h e).0
  stepped_keeps h b None = refl
  stepped_keeps h b (Some e) = one_keeps sound (is_sound_or_absent g.bits t f) Some (λ x p. p) (st.expression_at g h e).seen.tree (expression_keeps h b e)

  for_keeps : (c : Around) (at : At) (i : Option typed.Start) (x y : Option (Option TypedExpr)) (a : Option Stat) → Kept (fits_start g.bits t f) i → Kept (is_sound_or_absent g.bits t f) x
      → Kept (is_sound_or_absent g.bits t f) y → Kept (stat_leaves (st.looped c)) a → Kept (stat_leaves c) (two (st.for_tree at) (together i x y) a)
  for_keeps c at None x y a h j k l = tt
  for_keeps c at (Some i) None y a h j k l = tt
  for_keeps c at (Some i) (Some x) None a h j k l = tt
  for_keeps c at (Some i) (Some x) (Some y) None h j k l = tt
  for_keeps c at (Some i) (Some x) (Some y) (Some b) h j k l = for_leaves g.bits t f c.breaks c.loops at i x y b h j k l

  -- ---- statements

  pub record Fine_walk (x : st.Walk) : Type 0 where
    pub good : (c : Around) (h : st.Here) → c.result ≡ f.result → Good_walk (stat_leaves c) h (x c h)

  sequence_good : (c : Around) (h : st.Here) → c.result ≡ f.result → (ws : List (With Fine_walk)) → Good_walk (stats_leave c) h (st.sequence g c h (map (λ e. e.0) ws))
  sequence_good c h r [] = record { grows = same h.locals; tree = λ a b k. refl; names = λ a b. b }
  sequence_good c h r (v ∷ ws) =
      let x = v.1.good c h r in
      let rest = st.sequence g c (v.0 c h).here (map (λ e. e.0) ws) in
      let y = sequence_good c (v.0 c h).here r ws in
      record {
        grows = further _ _ _ x.grows y.grows;
        tree = λ a b k. joined_keeps (stat_leaves c) (stats_leave c) (λ u us p q. both_leave c.breaks c.loops (left_in g.bits t f u) (all_left (map (left_in g.bits t f) us)) p q) (v.0 c h).tree rest.tree
            (x.tree (further _ _ _ y.grows a) b (left_of _ _ k)) (y.tree a (x.names (further _ _ _ y.grows a) b) (right_of _ _ k));
        names = λ a b. y.names a (x.names (further _ _ _ y.grows a) b);
      }

  -- one more label changes no name and no object
  record Alike (h l : st.Here) : Type 0 where
    names : Names kind h.names → Names kind l.names
    grows : Begins h.locals l.locals

  labelled : (c : Around) (h : st.Here) (l : Option ℕ) → Alike h (st.with_label c h l)
  labelled c h l = by c.labels_stand
    where
      by : (b : Bool) → Alike h (if b then record { names = h.names; locals = h.locals; labels = h.labels ++ l ∷ [] } else h)
      by true = record { names = λ a. a; grows = same h.locals }
      by false = record { names = λ a. a; grows = same h.locals }

  cased : (c : Around) (h : st.Here) (v : Option ℕ) → Alike h (st.with_case c h v)
  cased c h None = record { names = λ a. a; grows = same h.locals }
  cased c h (Some v) = labelled c h (Some v)

  -- a statement that stands only where this does
  where_it_leads : {A : Type 0} (p : A → Bool) (b : Bool) (x : A) → (b ≡ true → p x ≡ true) → Kept p (st.kept_if b (Some x))
  where_it_leads p true x h = h refl
  where_it_leads p false x h = tt

  no_value : (at : At) (c : Around) → c.result ≡ f.result → Kept (stat_leaves c) (unless (st.returns_wrong c.result false) (Some (stat.Return at None)))
  no_value at c r = by c.result r
    where
      by : (u : CType) → u ≡ f.result → Kept (stat_leaves c) (unless (st.returns_wrong u false) (Some (stat.Return at None)))
      by type.Void e = return_leaves g.bits t f c.breaks c.loops at None (main (sym e))
      by type.Schar e = tt
      by type.Uchar e = tt
      by type.Int e = tt
      by type.Unsigned e = tt

  step : (y : s.Statement-F (With Fine_walk)) (c : Around) (h : st.Here) → c.result ≡ f.result → Good_walk (stat_leaves c) h (st.statement g (map-Statement (With Fine_walk) st.Walk (λ e. e.0) y) c h)
  step (s.Block at ws) c h r =
      let x = sequence_good (st.in_block c h) h r ws in
      record { grows = x.grows; tree = λ a b k. one_keeps (stats_leave c) (stat_leaves c) (stat.Block at) (λ u p. block_leaves g.bits t f c.breaks c.loops at u p) _ (x.tree a b k); names = λ a b. b }
  step (s.Declared d) c h r =
      let x = locals_good c h d in
      record { grows = x.grows; tree = λ a b k. one_keeps (fit_locals g.bits t f) (stat_leaves c) (stat.Declare (st.place_of_declaration g d)) (λ u p. declare_leaves g.bits t f c.breaks c.loops _ u p) _ (x.tree a b k); names = x.names }
  step (s.Evaluate at None) c h r = record { grows = same h.locals; tree = λ a b k. evaluate_leaves g.bits t f c.breaks c.loops at None refl; names = λ a b. b }
  step (s.Evaluate at (Some e)) c h r =
      record { grows = same h.locals; tree = λ a b k. one_keeps sound (stat_leaves c) (st.evaluate at) (λ u p. evaluate_leaves g.bits t f c.breaks c.loops at (Some u) p) _ (expression_keeps h b e); names = λ a b. b }
  step (s.If at e v None) c h r =
      let x = v.1.good (st.plain c) h r in
      record {
        grows = x.grows;
        tree = λ a b k. two_keeps used_sound (stat_leaves c) (stat_leaves c) (st.if_tree at) (λ u m p q. if_leaves g.bits t f c.breaks c.loops at u m (left_of _ _ p) q) _ _ (value_keeps h b e) (x.tree a b (right_of _ _ k));
        names = x.names;
      }
  step (s.If at e v (Some z)) c h r =
      let x = v.1.good (st.plain c) h r in
      let y = z.1.good (st.plain c) (v.0 (st.plain c) h).here r in
      record {
        grows = further _ _ _ x.grows y.grows;
        tree = λ a b k. three_keeps used_sound (stat_leaves c) (stat_leaves c) (stat_leaves c) (st.if_else_tree at) (λ u m n p q l. else_leaves g.bits t f c.breaks c.loops at u m n (left_of _ _ p) q l) _ _ _
            (value_keeps h b e) (x.tree (further _ _ _ y.grows a) b (right_of _ _ (left_of _ _ k))) (y.tree a (x.names (further _ _ _ y.grows a) b) (right_of _ _ k));
        names = λ a b. y.names a (x.names (further _ _ _ y.grows a) b);
      }
  step (s.While at e v) c h r =
      let x = v.1.good (st.looped c) h r in
      record {
        grows = x.grows;
        tree = λ a b k. two_keeps used_sound (stat_leaves (st.looped c)) (stat_leaves c) (stat.While at) (λ u m p q. while_leaves g.bits t f c.breaks c.loops at u m (left_of _ _ p) q) _ _ (value_keeps h b e) (x.tree a b (right_of _ _ k));
        names = x.names;
      }
  step (s.DoWhile at v e) c h r =
      let x = v.1.good (st.looped c) h r in
      record {
        grows = x.grows;
        tree = λ a b k. two_keeps used_sound (stat_leaves (st.looped c)) (stat_leaves c) (st.do_tree at) (λ u m p q. do_leaves g.bits t f c.breaks c.loops at u m (left_of _ _ p) q) _ _
            (value_keeps (v.0 (st.looped c) h).here (x.names a b) e) (x.tree a b (left_of _ _ k));
        names = x.names;
      }
  step (s.For at i e u v) c h r =
      let m = begun_good (st.in_block c h) h i in
      let inner = (st.begun g (st.in_block c h) h i).here in
      let x = v.1.good (st.looped c) inner r in
      record {
        grows = further _ _ _ m.grows x.grows;
        tree = λ a b k. for_keeps c at _ _ _ _ (m.tree (further _ _ _ x.grows a) b (left_of _ _ (left_of _ _ (left_of _ _ k)))) (tested_keeps inner (m.names (further _ _ _ x.grows a) b) e)
            (stepped_keeps inner (m.names (further _ _ _ x.grows a) b) u) (x.tree a (m.names (further _ _ _ x.grows a) b) (right_of _ _ k));
        names = λ a b. b;
      }
  step (s.Switch at e ws) c h r =
      let x = sequence_good (st.in_switch c h) (st.without_labels h) r ws in
      record {
        grows = x.grows;
        tree = λ a b k. two_keeps used_sound (stats_leave (st.in_switch c h)) (stat_leaves c) (st.switch_tree at)
            (λ u us p q. switch_leaves g.bits t f c.breaks c.loops at _ us (converted_ok g t f plain _ u (left_of _ _ p)) q) _ _ (value_keeps h b e) (x.tree a b (right_of _ _ k));
        names = λ a b. b;
      }
  step (s.Case at e v) c h r =
      let n = st.constant_of g.bits (st.expression_at g h e).seen.tree in
      let l = cased c h n in
      let x = v.1.good c (st.with_case c h n) r in
      record {
        grows = further _ _ _ l.grows x.grows;
        tree = λ a b k. kept_keeps (stat_leaves c) c.labels_stand _ (two_keeps (λ m. true) (stat_leaves c) (stat_leaves c) (st.case_tree at) (λ m u p q. case_leaves g.bits t f c.breaks c.loops at m u q) n _ (anything n) (x.tree a (l.names b) (right_of _ _ k)));
        names = λ a b. x.names a (l.names b);
      }
  step (s.Default at v) c h r =
      let l = labelled c h None in
      let x = v.1.good c (st.with_label c h None) r in
      record {
        grows = further _ _ _ l.grows x.grows;
        tree = λ a b k. kept_keeps (stat_leaves c) c.labels_stand _ (one_keeps (stat_leaves c) (stat_leaves c) (stat.Default at) (λ u p. default_leaves g.bits t f c.breaks c.loops at u p) _ (x.tree a (l.names b) (right_of _ _ k)));
        names = λ a b. x.names a (l.names b);
      }
  step (s.Break at) c h r = record { grows = same h.locals; tree = λ a b k. where_it_leads (stat_leaves c) c.breaks (stat.Break at) (λ p. break_leaves g.bits t f c.breaks c.loops at p); names = λ a b. b }
  step (s.Continue at) c h r = record { grows = same h.locals; tree = λ a b k. where_it_leads (stat_leaves c) c.loops (stat.Continue at) (λ p. continue_leaves g.bits t f c.breaks c.loops at p); names = λ a b. b }
  step (s.Return at None) c h r = record { grows = same h.locals; tree = λ a b k. no_value at c r; names = λ a b. b }
  step (s.Return at (Some e)) c h r = record {
    grows = same h.locals;
    tree = λ a b k. unless_keeps (stat_leaves c) _ _ (one_keeps used_sound (stat_leaves c) (st.return_tree at c.result)
        (λ u p. return_leaves g.bits t f c.breaks c.loops at (Some _) (subst (λ v. has_type g.bits t f v (converted c.result u) ≡ true) r (converted_has g t f plain c.result u p))) _ (value_keeps h b e));
    names = λ a b. b;
  }

  all_fine : (x : Statement) → Fine_walk (st.walk g x)
  all_fine x = statement_keeps st.Walk (st.statement g) Fine_walk (λ y. record { good = step y }) x

  pub list_good : (c : Around) (h : st.Here) → c.result ≡ f.result → (xs : List Statement) → Good_walk (stats_leave c) h (st.sequence g c h (map (st.walk g) xs))
  list_good c h r [] = record { grows = same h.locals; tree = λ a b k. refl; names = λ a b. b }
  list_good c h r (v ∷ xs) =
      let x = (all_fine v).good c h r in
      let rest = st.sequence g c (st.walk g v c h).here (map (st.walk g) xs) in
      let y = list_good c (st.walk g v c h).here r xs in
      record {
        grows = further _ _ _ x.grows y.grows;
        tree = λ a b k. joined_keeps (stat_leaves c) (stats_leave c) (λ u us p q. both_leave c.breaks c.loops (left_in g.bits t f u) (all_left (map (left_in g.bits t f) us)) p q) (st.walk g v c h).tree rest.tree
            (x.tree (further _ _ _ y.grows a) b (left_of _ _ k)) (y.tree a (x.names (further _ _ _ y.grows a) b) (right_of _ _ k));
        names = λ a b. y.names a (x.names (further _ _ _ y.grows a) b);
      }
