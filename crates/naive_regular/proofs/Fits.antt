-- A regular tree fills its lists, and naive code can be made of it where its operators are there.
use Rattle.std.proofs.Common.{◌≡◌, ℕ, ◌^◌, ◌&&◌, nat_lt, nat_le, Bool, true, Some, None, List, [], ◌∷◌, map, length, refl, sym, subst, ◌∙◌}
use Rattle.std.specs.List.{list_all}
use Rattle.std.proofs.lemmas.Bool.{and_from as both}
use Rattle.rtl_tree.specs.declared.expressions.BinOp.{BinOp}
use Rattle.c_tree.proofs.ExprFolds.{With}
use Rattle.c_tree.proofs.TypedFolds.{Both, stat_relates}
use Rattle.c_tree.specs.declared.typed.Stat.{Stat}
use Rattle.c_tree.specs.declared.typed.Stat.TheOpen as s
use Rattle.c_tree.specs.declared.typed.Stat.TheViews.{roll-Stat}
use Rattle.c_tree.specs.declared.typed.Stat.TheFolds.{fold-Stat, fold-roll-Stat, ind-Stat, map-Stat}
use Rattle.c_tree.specs.declared.typed.Function.{Function}
use Rattle.c_typing.proofs.Trees.{left_of, right_of}
use Rattle.naive_counts.specs.Names.{all_true}
use Rattle.naive_counts.specs.Homes.{filled_by, fills_lists, start_filled}
use Rattle.naive_fits.specs.Expandable.{all_so, is_there_in, option_there, start_there, expandable_by, is_expandable_function}
use Rattle.naive_regular.specs.Regular.{regular_by, is_regular_function}
use Rattle.naive_regular.specs.Operators.{statement_there_by, function_there}
use Rattle.naive_regular.specs.Laws.{RegularIsExpandable, RegularFillsLists}
use Rattle.naive_regular.proofs.Regular.{regular}

module _ (w : ℕ) where
  -- ---- lists

  record Follows (a b : Bool) : Type 0 where
    goes : a ≡ true → b ≡ true

  all_follow : (ss : List (Both Follows)) → all_so (map (λ a. a.0) ss) ≡ true → all_true (map (λ a. a.1) ss) ≡ true
  all_follow [] h = refl
  all_follow (a ∷ ss) h = both _ _ (a.2.goes (left_of _ _ h)) (all_follow ss (right_of _ _ h))

  step : (y : s.Stat-F (Both Follows)) → Follows (regular_by w (map-Stat (Both Follows) Bool (λ a. a.0) y)) (filled_by (map-Stat (Both Follows) Bool (λ a. a.1) y))
  step (s.Block at ss) = record { goes = all_follow ss }
  step (s.Declare at ls) = record { goes = λ h. h }
  step (s.Evaluate at e) = record { goes = λ h. refl }
  step (s.If at e a None) = record { goes = λ h. both _ _ (a.2.goes (left_of _ _ h)) refl }
  step (s.If at e a (Some b)) = record { goes = λ h. both _ _ (a.2.goes (left_of _ _ h)) (b.2.goes (right_of _ _ h)) }
  step (s.While at e a) = record { goes = a.2.goes }
  step (s.DoWhile at a e) = record { goes = a.2.goes }
  step (s.For at i t u a) = record { goes = λ h. both _ _ (left_of (start_filled i) _ h) (a.2.goes (right_of (start_filled i) _ h)) }
  step (s.Switch at e ss) = record { goes = all_follow ss }
  step (s.Case at v a) = record { goes = λ h. a.2.goes (right_of (nat_lt v (2 ^ w)) _ h) }
  step (s.Default at a) = record { goes = a.2.goes }
  step (s.Break at) = record { goes = λ h. refl }
  step (s.Continue at) = record { goes = λ h. refl }
  step (s.Return at e) = record { goes = λ h. refl }

  body_fills : (b : Stat) → regular w b ≡ true → fills_lists b ≡ true
  body_fills b = (stat_relates Bool Bool (regular_by w) filled_by Follows step b).goes

  functions_fill : (fs : List Function) → list_all (is_regular_function w) fs ≡ true → list_all (λ f. fills_lists f.body) fs ≡ true
  functions_fill [] h = refl
  functions_fill (f ∷ fs) h =
      let k = left_of (is_regular_function w f) _ h in
      both _ _ (body_fills f.body (right_of (nat_le (length f.params) 16) _ k)) (functions_fill fs (right_of (is_regular_function w f) _ h))

  -- ---- operators

  module _ (has : BinOp → Bool) where
    abbrev there : Stat → Bool
    there = fold-Stat Bool (statement_there_by has)

    abbrev expandable : Stat → Bool
    expandable = fold-Stat Bool (expandable_by has w)

    abbrev P : Stat → Type 0
    P b = regular w b ≡ true → there b ≡ true → expandable b ≡ true

    abbrev Layer : Type 0
    Layer = s.Stat-F (With P)

    abbrev plain : Layer → s.Stat-F Stat
    plain y = map-Stat (With P) Stat (λ e. e.0) y

    abbrev all_of : (Stat → Bool) → List (With P) → Bool
    all_of p ss = all_so (map p (map (λ e. e.0) ss))

    all_made : (ss : List (With P)) → all_of (regular w) ss ≡ true → all_of there ss ≡ true → all_of expandable ss ≡ true
    all_made [] h k = refl
    all_made (a ∷ ss) h k = both _ _ (a.1 (left_of _ _ h) (left_of _ _ k)) (all_made ss (right_of _ _ h) (right_of _ _ k))

    layer : (y : Layer) → regular_by w (map-Stat Stat Bool (regular w) (plain y)) ≡ true → statement_there_by has (map-Stat Stat Bool there (plain y)) ≡ true
        → expandable_by has w (map-Stat Stat Bool expandable (plain y)) ≡ true
    layer (s.Block at ss) h k = all_made ss h k
    layer (s.Declare at ls) h k = k
    layer (s.Evaluate at e) h k = k
    layer (s.If at e a None) h k =
        let p = left_of (is_there_in has e && there a.0) _ k in
        both _ _ (both _ _ (left_of (is_there_in has e) _ p) (a.1 (left_of _ _ h) (right_of (is_there_in has e) _ p))) refl
    layer (s.If at e a (Some b)) h k =
        let p = left_of (is_there_in has e && there a.0) _ k in
        both _ _ (both _ _ (left_of (is_there_in has e) _ p) (a.1 (left_of _ _ h) (right_of (is_there_in has e) _ p)))
        (b.1 (right_of _ _ h) (right_of (is_there_in has e && there a.0) _ k))
    layer (s.While at e a) h k = both _ _ (left_of (is_there_in has e) _ k) (a.1 h (right_of (is_there_in has e) _ k))
    layer (s.DoWhile at a e) h k = both _ _ (a.1 h (left_of (there a.0) _ k)) (right_of (there a.0) _ k)
    layer (s.For at i t u a) h k =
        let p = left_of (start_there has i && option_there has t && option_there has u) _ k in
        both _ _ p (a.1 (right_of (start_filled i) _ h) (right_of (start_there has i && option_there has t && option_there has u) _ k))
    layer (s.Switch at e ss) h k = both _ _ (left_of (is_there_in has e) _ k) (all_made ss h (right_of (is_there_in has e) _ k))
    layer (s.Case at v a) h k = both _ _ (left_of (nat_lt v (2 ^ w)) _ h) (a.1 (right_of (nat_lt v (2 ^ w)) _ h) k)
    layer (s.Default at a) h k = a.1 h k
    layer (s.Break at) h k = refl
    layer (s.Continue at) h k = refl
    layer (s.Return at e) h k = k

    node : (y : Layer) → P (roll-Stat (plain y))
    node y = λ h k.
        fold-roll-Stat Bool (expandable_by has w) (plain y)
        ∙ layer y (sym (fold-roll-Stat Bool (regular_by w) (plain y)) ∙ h) (sym (fold-roll-Stat Bool (statement_there_by has) (plain y)) ∙ k)

    body_made : (b : Stat) → P b
    body_made = ind-Stat P (λ x y is. subst (λ v. P (roll-Stat v)) is (node y))

    functions_made : (fs : List Function) → list_all (is_regular_function w) fs ≡ true → list_all (function_there has) fs ≡ true
        → list_all (is_expandable_function has w) fs ≡ true
    functions_made [] h k = refl
    functions_made (f ∷ fs) h k =
        let p = left_of (is_regular_function w f) _ h in
        both _ _
        (both _ _ (left_of (nat_le (length f.params) 16) _ p) (body_made f.body (right_of (nat_le (length f.params) 16) _ p) (left_of (function_there has f) _ k)))
        (functions_made fs (right_of (is_regular_function w f) _ h) (right_of (function_there has f) _ k))

pub regular_fills_lists : RegularFillsLists
regular_fills_lists w t h = functions_fill w t.functions h

pub regular_is_expandable : RegularIsExpandable
regular_is_expandable has w t h k = functions_made w has t.functions h k
