-- What is live in the code of each statement of a sound function.
use Rattle.std.proofs.Common.{◌≡◌, inl, inr, ℕ, suc, Bool, true, false, ◌&&◌, List, [], ◌∷◌, map, Option, Some, None, refl, sym}
use Rattle.std.specs.Prelude.{length, slice_get}
use Rattle.std.specs.List.{list_all}
use Rattle.c_tree.specs.declared.typed.Variable.TheVariants as variable
use Rattle.c_tree.specs.declared.typed.TypedExpr.{TypedExpr}
use Rattle.c_tree.specs.declared.typed.LocalInit.{LocalInit}
use Rattle.c_tree.specs.declared.typed.LocalInit.TheVariants as init
use Rattle.c_tree.specs.declared.typed.Local.{Local}
use Rattle.c_tree.specs.declared.typed.Start.{Start}
use Rattle.c_tree.specs.declared.typed.Start.TheVariants as start
use Rattle.c_tree.specs.declared.typed.Stat.{Stat}
use Rattle.c_tree.specs.declared.typed.Stat.TheOpen as stat
use Rattle.c_tree.specs.declared.typed.Stat.TheFolds.{map-Stat}
use Rattle.c_tree.specs.declared.typed.Function.{Function}
use Rattle.c_tree.specs.declared.typed.Typed.{Typed}
use Rattle.c_limits.specs.Weights.{length_of}
use Rattle.c_meaning.specs.Expressions.{Kind, missing, scalar, array}
use Rattle.c_meaning.specs.Run.{kind_in}
use Rattle.c_sound.specs.Sound as meant
use Rattle.c_sound.specs.Sound.{Known, is_scalar, known_in}
use Rattle.naive_code.specs.Operations.{Jumps, Returns, Close, set_result}
use Rattle.naive_code.specs.Storage.{scalar_count}
use Rattle.naive_code.specs.Expressions.{Site, naive, put_into}
use Rattle.naive_code.specs.Statements as steps
use Rattle.naive_code.specs.Statements.{Steps, no_steps, joined, all_joined, dropped, used, enclosed}
use Rattle.naive_code.specs.Functions.{site_of}
use Rattle.naive_run.specs.Sound as sound
use Rattle.naive_run.specs.Sound.{Left}
use Rattle.naive_counts.proofs.Folds.{Three, statements_relate}
use Rattle.naive_live.proofs.Lists.{within_same, within_as, stacked, apart_below, fresh}
use Rattle.naive_live.proofs.Passing.{narrower, only, falls}
use Rattle.naive_live.proofs.Values.{IsStackedTest}
use Rattle.naive_live.proofs.Places.{IsScalarIn, scalar_put}
use Rattle.naive_live.proofs.Storages.{both_so, scalar_storage, array_storage}
use Rattle.naive_live.proofs.Nodes.{NodeLives, expression_lives}
use Rattle.naive_live.proofs.Steps.{AreStacked, nothing_apart, no_stacked, joined_stacked, enclosed_stacked, dropped_stacked, used_stacked, put_element_stacked, cleared_rest_stacked, leaving_stacked}
use Rattle.naive_live.proofs.Loops.{if_stacked, if_else_stacked, while_stacked, do_stacked, for_stacked, switch_stacked, labelled_stacked}

clash : false ≡ true → ⊥
clash e = cc

module _ (kept : List ℕ) (w : ℕ) (t : Typed) (f : Function) (depth : ℕ → Option ℕ) (params : list_all sound.is_scalar f.params ≡ true) where
  abbrev here : Site
  here = site_of kept w t f

  abbrev known : Known
  known = known_in w t f

  abbrev scalars : ℕ
  scalars = scalar_count f

  abbrev Stacked : Steps → Type 0
  Stacked = AreStacked depth scalars

  expression : (e : TypedExpr) → meant.is_sound known e ≡ true → NodeLives depth scalars (naive here e) (meant.checked known e)
  expression e so = expression_lives depth scalars here known (scalar_storage kept w t f depth) (array_storage kept w t f params) e so

  -- ---- declarations

  scalar_kind : (g : Kind) (e : TypedExpr) → sound.fits_init w t f g (init.Value e) ≡ true → is_scalar g ≡ true
  scalar_kind missing e so = absurd (clash so)
  scalar_kind (scalar of) e so = refl
  scalar_kind (array of n) e so = absurd (clash so)

  put_elements_stacked : (x i : ℕ) (es : List TypedExpr) → meant.all_sound known es ≡ true → Stacked (steps.put_elements here (steps.storage_of_local here x) i es)
  put_elements_stacked x i [] so = no_stacked depth scalars
  put_elements_stacked x i (e ∷ es) so =
      let p = both_so (meant.is_sound known e) (meant.all_sound known es) so in let s = steps.storage_of_local here x in
      joined_stacked depth scalars (steps.put_element w s i (naive here e).value) (steps.put_elements here s (suc i) es)
      (put_element_stacked depth scalars w s i (naive here e).value (expression e p.0).value) (put_elements_stacked x (suc i) es p.1)

  init_stacked : (x : ℕ) (i : LocalInit) → meant.init_sound known i ≡ true → sound.fits_init w t f (kind_in t f (variable.Local x)) i ≡ true
      → Stacked (steps.init_steps here f.locals x i)
  init_stacked x init.Absent so fits = no_stacked depth scalars
  init_stacked x (init.Value e) so fits =
      let s = steps.storage_of_local here x in
      let k : IsScalarIn depth scalars s = scalar_storage kept w t f depth (variable.Local x) (scalar_kind (kind_in t f (variable.Local x)) e fits) in
      used_stacked depth scalars (naive here e).value (1 ∷ []) (λ r u. put_into s 0 r u) (expression e so).value
      (λ env r u d deep.
      narrower depth scalars env (put_into s 0 r u) (r ∷ []) (r ∷ []) []
      (scalar_put depth scalars env s k (r ∷ []) 0 r u (inl refl) (fresh depth 1 u (r ∷ []) deep.0 (stacked depth 0 r [] d tt))) (λ i k. absurd k))
  init_stacked x (init.List es) so fits =
      let s = steps.storage_of_local here x in
      joined_stacked depth scalars (steps.put_elements here s 0 es) (steps.cleared_rest w s (length es) (length_of (slice_get f.locals x)))
      (put_elements_stacked x 0 es so) (cleared_rest_stacked depth scalars w s (length es) (length_of (slice_get f.locals x)))

  locals_stacked : (ls : List Local) → meant.locals_sound known ls ≡ true → sound.fit_locals w t f ls ≡ true → Stacked (steps.locals_steps here f.locals ls)
  locals_stacked [] so fits = no_stacked depth scalars
  locals_stacked (l ∷ ls) so fits =
      let p = both_so (meant.init_sound known l.init) (meant.locals_sound known ls) so in
      let q = both_so (sound.fits_init w t f (kind_in t f (variable.Local l.number)) l.init) (sound.fit_locals w t f ls) fits in
      joined_stacked depth scalars (steps.init_steps here f.locals l.number l.init) (steps.locals_steps here f.locals ls) (init_stacked l.number l.init p.0 q.0)
      (locals_stacked ls p.1 q.1)

  -- ---- what may be absent

  evaluated_stacked : (e : Option TypedExpr) → meant.maybe_sound known e ≡ true → Stacked (steps.evaluated here f.locals e)
  evaluated_stacked None so = no_stacked depth scalars
  evaluated_stacked (Some e) so = dropped_stacked depth scalars (naive here e).value (expression e so).value

  started_stacked : (s : Start) → meant.start_sound known s ≡ true → sound.fits_start w t f s ≡ true → Stacked (steps.started here f.locals s)
  started_stacked start.Absent so fits = no_stacked depth scalars
  started_stacked (start.Value e) so fits = dropped_stacked depth scalars (naive here e).value (expression e so).value
  started_stacked (start.Declared at ls) so fits = locals_stacked ls so fits

  test_in_stacked : (e : Option TypedExpr) → meant.maybe_sound known e ≡ true → IsStackedTest depth scalars (steps.test_in here f.locals e)
  test_in_stacked None so = record {
    many = λ d. refl;
    each = λ xs d u l below deep. record {
      marks = [];
      many = refl;
      lives = λ env sense target next m e g. falls depth scalars env next xs xs g (apart_below depth d xs below) (within_same xs);
    };
  }
  test_in_stacked (Some e) so = (expression e so).test

  ending_stacked : Stacked (steps.leaving here f.locals (λ a. Returns))
  ending_stacked =
      leaving_stacked depth scalars here f.locals (λ a. Returns) (λ env a b o l e. only depth scalars env (Close Returns l) [] [] (sym e, nothing_apart depth scalars, tt))

  return_stacked : (e : Option TypedExpr) → meant.maybe_sound known e ≡ true → Stacked (steps.return_steps here f.locals e)
  return_stacked None so = ending_stacked
  return_stacked (Some e) so =
      joined_stacked depth scalars (used (naive here e).value [] (λ r u. set_result r ∷ [])) (steps.leaving here f.locals (λ a. Returns))
      (used_stacked depth scalars (naive here e).value [] (λ r u. set_result r ∷ []) (expression e so).value
      (λ env r u d deep. only depth scalars env (set_result r) (r ∷ []) [] (refl, inr (inl refl), λ i k. absurd k)))
      ending_stacked

  -- ---- statements

  abbrev IsLively : Steps → Bool → Left → Type 0
  IsLively p b q = b ≡ true → q.sound ≡ true → Stacked p

  abbrev T : Type 0
  T = Three Steps Bool Left IsLively

  all_stacked : (ss : List T) → meant.all (map (λ e. e.1) ss) ≡ true → (sound.all_left (map (λ e. e.2) ss)).sound ≡ true → Stacked (all_joined (map (λ e. e.0) ss))
  all_stacked [] so fits = no_stacked depth scalars
  all_stacked (s ∷ ss) so fits =
      let p = both_so s.1 (meant.all (map (λ e. e.1) ss)) so in
      let q = both_so s.2.sound (sound.all_left (map (λ e. e.2) ss)).sound fits in
      joined_stacked depth scalars s.0 (all_joined (map (λ e. e.0) ss)) (s.3 p.0 q.0) (all_stacked ss p.1 q.1)

  statement_lively : (y : stat.Stat-F T)
      → IsLively (steps.node_steps here f.locals (map-Stat T Steps (λ e. e.0) y)) (meant.statement known (map-Stat T Bool (λ e. e.1) y)) (sound.left_by w t f (map-Stat T Left (λ e. e.2) y))
  statement_lively (stat.Block at ss) so fits = enclosed_stacked depth scalars (all_joined (map (λ e. e.0) ss)) (all_stacked ss so fits)
  statement_lively (stat.Declare at ls) so fits = locals_stacked ls so fits
  statement_lively (stat.Evaluate at e) so fits = evaluated_stacked e so
  statement_lively (stat.If at e a None) so fits =
      let p = both_so (meant.is_sound known e) (a.1 && true) so in let p1 = both_so a.1 true p.1 in
      let q = both_so (sound.checked w t f e).sound (a.2.sound && true) fits in let q1 = both_so a.2.sound true q.1 in
      if_stacked depth scalars here f.locals (naive here e).test a.0 (expression e p.0).test (a.3 p1.0 q1.0)
  statement_lively (stat.If at e a (Some b)) so fits =
      let p = both_so (meant.is_sound known e) (a.1 && b.1) so in let p1 = both_so a.1 b.1 p.1 in
      let q = both_so (sound.checked w t f e).sound (a.2.sound && b.2.sound) fits in let q1 = both_so a.2.sound b.2.sound q.1 in
      if_else_stacked depth scalars here f.locals (naive here e).test a.0 b.0 (expression e p.0).test (a.3 p1.0 q1.0) (b.3 p1.1 q1.1)
  statement_lively (stat.While at e a) so fits =
      let p = both_so (meant.is_sound known e) a.1 so in let q = both_so (sound.checked w t f e).sound a.2.sound fits in
      while_stacked depth scalars here f.locals (naive here e).test a.0 (expression e p.0).test (a.3 p.1 q.1)
  statement_lively (stat.DoWhile at a e) so fits =
      let p = both_so a.1 (meant.is_sound known e) so in let q = both_so (sound.checked w t f e).sound a.2.sound fits in
      do_stacked depth scalars here f.locals a.0 (naive here e).test (a.3 p.0 q.1) (expression e p.1).test
  statement_lively (stat.For at s test step a) so fits =
      let p = both_so (meant.start_sound known s) (meant.maybe_sound known test && (meant.maybe_sound known step && a.1)) so in
      let p1 = both_so (meant.maybe_sound known test) (meant.maybe_sound known step && a.1) p.1 in let p2 = both_so (meant.maybe_sound known step) a.1 p1.1 in
      let parts = sound.fits_start w t f s && sound.is_sound_or_absent w t f test in
      let q = both_so (parts && sound.is_sound_or_absent w t f step) a.2.sound fits in let q1 = both_so parts (sound.is_sound_or_absent w t f step) q.0 in
      let q2 = both_so (sound.fits_start w t f s) (sound.is_sound_or_absent w t f test) q1.0 in
      for_stacked depth scalars here f.locals (steps.started here f.locals s) (steps.test_in here f.locals test) (steps.evaluated here f.locals step) a.0
      (started_stacked s p.0 q2.0) (test_in_stacked test p1.0) (evaluated_stacked step p2.0) (a.3 p2.1 q.1)
  statement_lively (stat.Switch at e ss) so fits =
      let p = both_so (meant.is_sound known e) (meant.all (map (λ e. e.1) ss)) so in
      let q = both_so (sound.checked w t f e).sound (sound.all_left (map (λ e. e.2) ss)).sound fits in
      switch_stacked depth scalars here f.locals (naive here e).value (all_joined (map (λ e. e.0) ss)) (expression e p.0).value (all_stacked ss p.1 q.1)
  statement_lively (stat.Case at v a) so fits = labelled_stacked depth scalars here f.locals (Some v) a.0 (a.3 so fits)
  statement_lively (stat.Default at a) so fits = labelled_stacked depth scalars here f.locals None a.0 (a.3 so fits)
  statement_lively (stat.Break at) so fits =
      leaving_stacked depth scalars here f.locals (λ a. Jumps a.breaks)
      (λ env a b o l e. only depth scalars env (Close (Jumps a.breaks) l) [] [] (sym e, nothing_apart depth scalars, within_as (env a.breaks) [] [] b (within_same [])))
  statement_lively (stat.Continue at) so fits =
      leaving_stacked depth scalars here f.locals (λ a. Jumps a.continues)
      (λ env a b o l e. only depth scalars env (Close (Jumps a.continues) l) [] [] (sym e, nothing_apart depth scalars, within_as (env a.continues) [] [] o (within_same [])))
  statement_lively (stat.Return at e) so fits = return_stacked e so

  pub body_lives : (s : Stat) → meant.body_sound known s ≡ true → (sound.left_of w t f s).sound ≡ true → Stacked (steps.steps_of here f.locals s)
  body_lives = statements_relate Steps Bool Left IsLively (steps.node_steps here f.locals) (meant.statement known) (sound.left_by w t f) statement_lively
