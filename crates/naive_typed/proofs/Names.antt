-- A tree in which each name stands for an object of the kind as which it is used names no array but by its elements.
use Rattle.std.proofs.Common.{◌≡◌, ℕ, zero, suc, Bool, true, not, Option, Some, None, List, [], ◌∷◌, map, slice_get, refl, subst}
use Rattle.std.specs.Prelude.{⊤}
use Rattle.std.specs.List.{list_all}
use Rattle.std.proofs.lemmas.Bool.{and_from as both}
use Rattle.c_tree.proofs.TypedFolds.{Both, expr_relates, stat_relates}
use Rattle.c_tree.specs.declared.typed.TypedExpr.{TypedExpr}
use Rattle.c_tree.specs.declared.typed.TypedExpr.TheOpen.{TypedExpr-F, Comma, Assign, Compound, Conditional, Binary, Unary, Before, After, Constant, Object, Element, Call, Convert}
use Rattle.c_tree.specs.declared.typed.TypedExpr.TheFolds.{map-TypedExpr}
use Rattle.c_tree.specs.declared.typed.LocalInit.{LocalInit}
use Rattle.c_tree.specs.declared.typed.LocalInit.TheVariants as init
use Rattle.c_tree.specs.declared.typed.Local.{Local}
use Rattle.c_tree.specs.declared.typed.Start.{Start}
use Rattle.c_tree.specs.declared.typed.Start.TheVariants as start
use Rattle.c_tree.specs.declared.typed.Stat.{Stat}
use Rattle.c_tree.specs.declared.typed.Stat.TheOpen as s
use Rattle.c_tree.specs.declared.typed.Stat.TheFolds.{map-Stat}
use Rattle.c_tree.specs.declared.typed.Function.{Function}
use Rattle.c_tree.specs.declared.typed.Typed.{Typed}
use Rattle.c_typing.proofs.Trees.{no, left_of, right_of}
use Rattle.c_meaning.specs.Expressions.{Kind, missing, scalar, array}
use Rattle.c_meaning.specs.Run.{kind_in}
use Rattle.c_sound.specs.Sound.{Known, Checked, is_scalar, each, expression, is_sound, all_sound, maybe_sound, init_sound, locals_sound, start_sound, all, statement, body_sound, known_in, functions_sound}
use Rattle.c_sound.proofs.Judged.{Kept}
use Rattle.c_sound.proofs.Programs.{typed_is_meant}
use Rattle.naive_run.specs.Sound.{is_array}
use Rattle.naive_counts.specs.Counts.{IsWithinWeight}
use Rattle.naive_counts.specs.Names.{all_true, names_in, expression_names, option_names, list_names, init_names, locals_names, start_names, names_by, names_scalars}
use Rattle.naive_typed.specs.Laws.{TypedNamesScalars, TypedIsWithinWeight}

single : (k : Kind) → is_scalar k ≡ true → not (is_array k) ≡ true
single missing h = no h
single (scalar u) h = refl
single (array u n) h = no h

module _ (w : ℕ) (t : Typed) (f : Function) where
  abbrev k : Known
  k = known_in w t f

  record Named (a : Checked) (b : Bool) : Type 0 where
    names : a.sound ≡ true → b ≡ true

  all_named : (es : List (Both Named)) → each (map (λ e. e.0) es) ≡ true → all_true (map (λ e. e.1) es) ≡ true
  all_named [] h = refl
  all_named (e ∷ es) h = both _ _ (e.2.names (left_of _ _ h)) (all_named es (right_of _ _ h))

  node : (y : TypedExpr-F (Both Named)) → Named (expression k (map-TypedExpr (Both Named) Checked (λ e. e.0) y)) (names_in t f (map-TypedExpr (Both Named) Bool (λ e. e.1) y))
  node (Constant h v) = record { names = λ i. refl }
  node (Object h x) = record { names = λ i. single (kind_in t f x) i }
  node (Element h x a) = record { names = λ i. a.2.names (right_of _ _ i) }
  node (Assign h a b) = record { names = λ i. both _ _ (a.2.names (right_of _ _ (left_of _ _ i))) (b.2.names (right_of _ _ i)) }
  node (Compound h a o b) = record { names = λ i. both _ _ (a.2.names (right_of _ _ (left_of _ _ i))) (b.2.names (right_of _ _ (right_of _ _ i))) }
  node (Before h o a) = record { names = λ i. a.2.names (right_of _ _ i) }
  node (After h a o) = record { names = λ i. a.2.names (right_of _ _ i) }
  node (Binary h a o b) = record { names = λ i. both _ _ (a.2.names (left_of _ _ i)) (b.2.names (right_of _ _ i)) }
  node (Unary h o a) = record { names = a.2.names }
  node (Convert h a) = record { names = a.2.names }
  node (Comma h a b) = record { names = λ i. both _ _ (a.2.names (left_of _ _ i)) (b.2.names (right_of _ _ i)) }
  node (Conditional h a b d) = record { names = λ i. both _ _ (both _ _ (a.2.names (left_of _ _ i)) (b.2.names (left_of _ _ (right_of _ _ i)))) (d.2.names (right_of _ _ (right_of _ _ i))) }
  node (Call h g es) = record { names = λ i. all_named es (right_of _ _ i) }

  named : (e : TypedExpr) → is_sound k e ≡ true → expression_names t f e ≡ true
  named e = (expr_relates Checked Bool (expression k) (names_in t f) Named node e).names

  -- ---- statements

  option_named : (e : Option TypedExpr) → maybe_sound k e ≡ true → option_names t f e ≡ true
  option_named None h = refl
  option_named (Some e) h = named e h

  list_named : (es : List TypedExpr) → all_sound k es ≡ true → list_names t f es ≡ true
  list_named [] h = refl
  list_named (e ∷ es) h = both _ _ (named e (left_of _ _ h)) (list_named es (right_of _ _ h))

  init_named : (i : LocalInit) → init_sound k i ≡ true → init_names t f i ≡ true
  init_named init.Absent h = refl
  init_named (init.Value e) h = named e h
  init_named (init.List es) h = list_named es h

  locals_named : (ls : List Local) → locals_sound k ls ≡ true → locals_names t f ls ≡ true
  locals_named [] h = refl
  locals_named (l ∷ ls) h = both _ _ (init_named l.init (left_of _ _ h)) (locals_named ls (right_of _ _ h))

  start_named : (i : Start) → start_sound k i ≡ true → start_names t f i ≡ true
  start_named start.Absent h = refl
  start_named (start.Value e) h = named e h
  start_named (start.Declared at ls) h = locals_named ls h

  record Named_in (a b : Bool) : Type 0 where
    names : a ≡ true → b ≡ true

  all_in : (ss : List (Both Named_in)) → all (map (λ a. a.0) ss) ≡ true → all_true (map (λ a. a.1) ss) ≡ true
  all_in [] h = refl
  all_in (a ∷ ss) h = both _ _ (a.2.names (left_of _ _ h)) (all_in ss (right_of _ _ h))

  step : (y : s.Stat-F (Both Named_in)) → Named_in (statement k (map-Stat (Both Named_in) Bool (λ a. a.0) y)) (names_by t f (map-Stat (Both Named_in) Bool (λ a. a.1) y))
  step (s.Block at ss) = record { names = all_in ss }
  step (s.Declare at ls) = record { names = locals_named ls }
  step (s.Evaluate at e) = record { names = option_named e }
  step (s.If at e a None) = record { names = λ i. both _ _ (both _ _ (named e (left_of _ _ i)) (a.2.names (left_of _ _ (right_of _ _ i)))) refl }
  step (s.If at e a (Some b)) = record { names = λ i. both _ _ (both _ _ (named e (left_of _ _ i)) (a.2.names (left_of _ _ (right_of _ _ i)))) (b.2.names (right_of _ _ (right_of _ _ i))) }
  step (s.While at e a) = record { names = λ i. both _ _ (named e (left_of _ _ i)) (a.2.names (right_of _ _ i)) }
  step (s.DoWhile at a e) = record { names = λ i. both _ _ (a.2.names (left_of _ _ i)) (named e (right_of _ _ i)) }
  step (s.For at b e u a) = record {
    names = λ i.
        (let j = right_of (start_sound k b) _ i in
        let l = right_of (maybe_sound k e) _ j in
        both _ _ (both _ _ (both _ _ (start_named b (left_of (start_sound k b) _ i)) (option_named e (left_of (maybe_sound k e) _ j))) (option_named u (left_of (maybe_sound k u) _ l))) (a.2.names (right_of (maybe_sound k u) _ l)));
  }
  step (s.Switch at e ss) = record { names = λ i. both _ _ (named e (left_of _ _ i)) (all_in ss (right_of _ _ i)) }
  step (s.Case at v a) = record { names = a.2.names }
  step (s.Default at a) = record { names = a.2.names }
  step (s.Break at) = record { names = λ i. refl }
  step (s.Continue at) = record { names = λ i. refl }
  step (s.Return at e) = record { names = option_named e }

  body_named : (b : Stat) → body_sound k b ≡ true → names_scalars t f b ≡ true
  body_named b = (stat_relates Bool Bool (statement k) (names_by t f) Named_in step b).names

functions_named : (w : ℕ) (t : Typed) (fs : List Function) → functions_sound w t fs ≡ true → list_all (λ f. names_scalars t f f.body) fs ≡ true
functions_named w t [] h = refl
functions_named w t (f ∷ fs) h = both _ _ (body_named w t f f.body (left_of _ _ h)) (functions_named w t fs (right_of _ _ h))

function_named : (t : Typed) (fs : List Function) → list_all (λ f. names_scalars t f f.body) fs ≡ true → (g : ℕ) → Kept (λ f. names_scalars t f f.body) (slice_get fs g)
function_named t [] h g = tt
function_named t (f ∷ fs) h zero = left_of _ _ h
function_named t (f ∷ fs) h (suc g) = function_named t fs (right_of _ _ h) g

pub typed_names_scalars : TypedNamesScalars
typed_names_scalars w s t z is = functions_named w t t.functions (left_of _ _ (typed_is_meant w s t z is))

pub typed_is_within_weight : IsWithinWeight → TypedIsWithinWeight
typed_is_within_weight counted kept w pushed s t g f label z is at =
    counted kept w pushed t f label (subst (Kept (λ (h : Function). names_scalars t h h.body)) at (function_named t t.functions (typed_names_scalars w s t z is) g))
