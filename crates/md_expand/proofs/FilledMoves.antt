-- Assignments of the program and those of texts.
use Rattle.std.proofs.Common.{◌≡◌, ℕ, ◌+◌, ◌<◌, List, [], ◌∷◌, ◌++◌, map, length, take, drop, get_or, refl, sym, ap, ◌∙◌, subst}
use Rattle.std.specs.declared.option.Option.{Option}
use Rattle.std.specs.declared.option.Option.TheVariants.{Some, None}
use Rattle.std.specs.Option.{unwrap_or, option_map, IfSome}
use Rattle.std.specs.List.{slice_get}
use Rattle.std.proofs.lemmas.List.{take_more, drop_more, map-append, take-append-drop}
use Rattle.rtl_tree.specs.declared.cells.Cell.TheVariants.{Hard, Temp, Flag, Pc, Input, Output, Halt, Hole}
use Rattle.rtl_tree.specs.Trees.{Tree, Number, Symbol, CodeLabel, Read, Load, Unary, Binary, NoPair, AnyNumber, AnyName}
use Rattle.rtl_tree.specs.Moves.{Goal, ToCell, ToMemory, Move}
use Rattle.rtl_spelling.specs.Spelling.{Said, goal_of_leaf}
use Rattle.md_text.specs.Expansion.{with_leaves, goal_with, move_to, move_with, all_there}
use Rattle.md_expand.specs.Like.{IsLike, equal, registers, numbers, names, loads, unaries, binaries, hole_in}
use Rattle.md_expand.specs.Meant.{AllMeant, goal_register, said_register}
use Rattle.md_expand.specs.Filled.{IsLikeGoal, same_goal, registers as both_registers, stores, hole_of_goal, assign_of, IsFilled, BothFilled, BothAllFilled}
use Rattle.md_expand.specs.Seen.{trees_of}
use Rattle.md_expand.specs.declared.leaves.Meaning.{Meaning}
use Rattle.md_expand.specs.declared.moves.Filled.{Filled}
use Rattle.md_expand.proofs.MeantTrees.{same_trees, like_at, like_with, register_at}

abbrev BothLike : Option Goal → Option Goal → Type 0
BothLike None None = Unit {0}
BothLike (Some g) (Some h) = IsLikeGoal g h
BothLike _ _ = ⊥

both_same : (o : Option Goal) → BothLike o o
both_same None = tt
both_same (Some g) = same_goal g

like_leaf : (t u : Tree) → IsLike t u → BothLike (goal_of_leaf t) (goal_of_leaf u)
like_leaf t u (equal a) = both_same (goal_of_leaf a)
like_leaf t u (registers m n) = both_registers m n
like_leaf t u (numbers m n) = tt
like_leaf t u (names m n) = tt
like_leaf t u (loads w a b l) = stores w a b l
like_leaf t u (unaries o a b l) = tt
like_leaf t u (binaries o a b c d l r) = tt

like_goal : (few : Type 0) (ts : List Tree) (ms : List Meaning) (g : Goal) → AllMeant few ts ms → BothLike (goal_with ts g) (goal_with (trees_of ms) g)
like_goal few ts ms (ToCell (Hard n)) a = same_goal (ToCell (Hard n))
like_goal few ts ms (ToCell (Temp n)) a = same_goal (ToCell (Temp n))
like_goal few ts ms (ToCell (Flag n)) a = same_goal (ToCell (Flag n))
like_goal few ts ms (ToCell Pc) a = same_goal (ToCell Pc)
like_goal few ts ms (ToCell Input) a = same_goal (ToCell Input)
like_goal few ts ms (ToCell Output) a = same_goal (ToCell Output)
like_goal few ts ms (ToCell Halt) a = same_goal (ToCell Halt)
like_goal few ts ms (ToCell (Hole n)) a = like_leaf _ _ (like_at few ts ms n a)
like_goal few ts ms (ToMemory w t) a = stores w _ _ (like_with few ts ms t a)

leaf_register : (t : Tree) (g : Goal) → goal_of_leaf t ≡ Some g → hole_in t ≡ hole_of_goal g
leaf_register (Number n) g e = absurd (cc)
leaf_register (Symbol n) g e = absurd (cc)
leaf_register (CodeLabel l) g e = absurd (cc)
leaf_register (Read (Hard n)) g e = let same : ToCell (Hard n) ≡ g = cc in ap hole_of_goal same
leaf_register (Read (Temp n)) g e = let same : ToCell (Temp n) ≡ g = cc in ap hole_of_goal same
leaf_register (Read (Flag n)) g e = let same : ToCell (Flag n) ≡ g = cc in ap hole_of_goal same
leaf_register (Read Pc) g e = let same : ToCell Pc ≡ g = cc in ap hole_of_goal same
leaf_register (Read Input) g e = let same : ToCell Input ≡ g = cc in ap hole_of_goal same
leaf_register (Read Output) g e = let same : ToCell Output ≡ g = cc in ap hole_of_goal same
leaf_register (Read Halt) g e = let same : ToCell Halt ≡ g = cc in ap hole_of_goal same
leaf_register (Read (Hole n)) g e = let same : ToCell (Hole n) ≡ g = cc in ap hole_of_goal same
leaf_register (Load w a) g e = let same : ToMemory w a ≡ g = cc in ap hole_of_goal same
leaf_register (Unary o a) g e = absurd (cc)
leaf_register (Binary o a b) g e = absurd (cc)
leaf_register NoPair g e = absurd (cc)
leaf_register (AnyNumber n) g e = absurd (cc)
leaf_register (AnyName n) g e = absurd (cc)

with_register :
    (few : Type 0) (ts : List Tree) (ms : List Meaning) (to g : Goal) → AllMeant few ts ms → goal_with ts to ≡ Some g → goal_register ms to ≡ hole_of_goal g
with_register few ts ms (ToCell (Hard n)) g a e = let same : ToCell (Hard n) ≡ g = cc in ap hole_of_goal same
with_register few ts ms (ToCell (Temp n)) g a e = let same : ToCell (Temp n) ≡ g = cc in ap hole_of_goal same
with_register few ts ms (ToCell (Flag n)) g a e = let same : ToCell (Flag n) ≡ g = cc in ap hole_of_goal same
with_register few ts ms (ToCell Pc) g a e = let same : ToCell Pc ≡ g = cc in ap hole_of_goal same
with_register few ts ms (ToCell Input) g a e = let same : ToCell Input ≡ g = cc in ap hole_of_goal same
with_register few ts ms (ToCell Output) g a e = let same : ToCell Output ≡ g = cc in ap hole_of_goal same
with_register few ts ms (ToCell Halt) g a e = let same : ToCell Halt ≡ g = cc in ap hole_of_goal same
with_register few ts ms (ToCell (Hole n)) g a e = register_at few ts ms n a ∙ leaf_register (unwrap_or (slice_get ts n) NoPair) g e
with_register few ts ms (ToMemory w t) g a e = let same : ToMemory w (with_leaves ts t) ≡ g = cc in ap hole_of_goal same

-- by the places that there are with the leaves of a text and with those of the program
both :
    (few : Type 0) (ts : List Tree) (ms : List Meaning) (to : Goal) (value : Tree) (wide narrow : Option Goal) (f : Option Filled) → AllMeant few ts ms
    → goal_with ts to ≡ wide → goal_with (trees_of ms) to ≡ narrow → BothLike wide narrow
    → option_map assign_of f ≡ option_map (move_to (with_leaves (trees_of ms) value)) narrow
    → IfSome f (λ f. f.register ≡ goal_register ms to)
    → BothFilled few (option_map (move_to (with_leaves ts value)) wide) f
both few ts ms to value None None None a w n l e r = tt
both few ts ms to value None None (Some f) a w n l e r = absurd (cc)
both few ts ms to value (Some g) (Some h) None a w n l e r = absurd (cc)
both few ts ms to value None (Some h) f a w n l e r = absurd l
both few ts ms to value (Some g) None f a w n l e r = absurd l
both few ts ms to value (Some g) (Some h) (Some f) a w n l e r =
    let same : assign_of f ≡ move_to (with_leaves (trees_of ms) value) h = cc in
    record {
      like_to = subst (λ (m : Move). IsLikeGoal g m.to) (sym same) l;
      like_value = subst (λ (m : Move). IsLike (with_leaves ts value) m.value) (sym same) (like_with few ts ms value a);
      same = λ x.
          let goals : Some h ≡ Some g = sym n ∙ ap (λ us. goal_with us to) (same_trees few ts ms x a) ∙ w in
          let goal : h ≡ g = cc in
          same ∙ ap (λ us. move_to (with_leaves us value) h) (same_trees few ts ms x a) ∙ ap (move_to (with_leaves ts value)) goal;
      register = r ∙ with_register few ts ms to g a w;
    }

pub both_filled :
    (few : Type 0) (ts : List Tree) (ms : List Meaning) (said : Said) (f : Option Filled) → AllMeant few ts ms
    → option_map assign_of f ≡ move_with (trees_of ms) said → IfSome f (λ f. f.register ≡ said_register ms said.to)
    → BothFilled few (move_with ts said) f
both_filled few ts ms said f a e r = by said.to said.value f e r
  where
    by : (to : Option Goal) (value : Tree) (f : Option Filled) → option_map assign_of f ≡ move_with (trees_of ms) (record { to = to; value = value })
        → IfSome f (λ f. f.register ≡ said_register ms to) → BothFilled few (move_with ts (record { to = to; value = value })) f
    by None value None e r = tt
    by None value (Some f) e r = absurd (cc)
    by (Some g) value f e r = both few ts ms g value (goal_with ts g) (goal_with (trees_of ms) g) f a refl refl (like_goal few ts ms g a) e r

behind :
    (few : Type 0) (m : Move) (r : Option (List Move)) (g : Filled) (gs : List Filled) → IsFilled few m g → BothAllFilled few r (Some gs)
    → BothAllFilled few (option_map (λ ms. m ∷ ms) r) (Some (g ∷ gs))
behind few m None g gs i a = absurd a
behind few m (Some ms) g gs i a = (i, a)

-- the list is there and begins with the move
pub record Begins (few : Type 0) (m : Move) (r : Option (List Move)) (fs : List Filled) : Type 0 where
  first : Filled
  rest : List Filled
  split : fs ≡ first ∷ rest
  filled : IsFilled few m first
  others : BothAllFilled few r (Some rest)

begins : (few : Type 0) (m : Move) (r : Option (List Move)) (fs : List Filled) → BothAllFilled few (option_map (λ ms. m ∷ ms) r) (Some fs) → Begins few m r fs
begins few m None fs a = absurd a
begins few m (Some ms) [] a = absurd a
begins few m (Some ms) (g ∷ gs) a = record { first = g; rest = gs; split = refl; filled = a.0; others = a.1 }

more_filled :
    (few : Type 0) (os : List (Option Move)) (o : Option Move) (fs : List Filled) (f : Filled)
    → BothAllFilled few (all_there os) (Some fs) → BothFilled few o (Some f) → BothAllFilled few (all_there (os ++ o ∷ [])) (Some (fs ++ f ∷ []))
more_filled few [] None fs f a b = absurd b
more_filled few [] (Some m) [] f a b = (b, tt)
more_filled few [] (Some m) (g ∷ fs) f a b = absurd a
more_filled few (None ∷ os) o fs f a b = absurd a
more_filled few (Some m ∷ os) o fs f a b =
    let parts = begins few m (all_there os) fs a in
    subst (λ (gs : List Filled). BothAllFilled few (all_there (Some m ∷ os ++ o ∷ [])) (Some (gs ++ f ∷ []))) (sym parts.split)
    (behind few m (all_there (os ++ o ∷ [])) parts.first (parts.rest ++ f ∷ []) parts.filled (more_filled few os o parts.rest f parts.others b))

none_there : {A : Type 0} (os : List (Option A)) (o : Option A) (rest : List (Option A)) → o ≡ None → all_there (os ++ o ∷ rest) ≡ None
none_there [] o rest e = rw e refl
none_there (None ∷ os) o rest e = refl
none_there (Some x ∷ os) o rest e = ap (option_map (λ xs. x ∷ xs)) (none_there os o rest e)

pub one_move_more :
    (few : Type 0) (ts : List Tree) (moves : List Said) (i : ℕ) (d : Said) (fs more : List Filled) (f : Filled) → i < length moves → d ≡ get_or moves i d
    → BothAllFilled few (all_there (map (move_with ts) (take i moves))) (Some fs) → BothFilled few (move_with ts d) (Some f) → more ≡ fs ++ f ∷ []
    → BothAllFilled few (all_there (map (move_with ts) (take (i + 1) moves))) (Some more)
one_move_more few ts moves i d fs more f lt at a new e =
    let grown : map (move_with ts) (take (i + 1) moves) ≡ map (move_with ts) (take i moves) ++ move_with ts d ∷ [] =
    ap (map (move_with ts)) (take_more moves i d lt) ∙ map-append (move_with ts) (take i moves) (get_or moves i d ∷ [])
    ∙ ap (λ x. map (move_with ts) (take i moves) ++ move_with ts x ∷ []) (sym at) in
    subst (λ (os : List (Option Move)). BothAllFilled few (all_there os) (Some more)) (sym grown)
    (subst (λ (gs : List Filled). BothAllFilled few (all_there (map (move_with ts) (take i moves) ++ move_with ts d ∷ [])) (Some gs)) (sym e)
    (more_filled few (map (move_with ts) (take i moves)) (move_with ts d) fs f a new))

is_none : (few : Type 0) (o : Option Move) → BothFilled few o None → o ≡ None
is_none few None b = refl
is_none few (Some m) b = absurd b

pub no_move :
    (few : Type 0) (ts : List Tree) (moves : List Said) (i : ℕ) (d : Said) → i < length moves → d ≡ get_or moves i d → BothFilled few (move_with ts d) None
    → BothAllFilled few (all_there (map (move_with ts) moves)) None
no_move few ts moves i d lt at b =
    let split : moves ≡ take i moves ++ d ∷ drop (i + 1) moves =
    sym (take-append-drop i moves) ∙ ap (λ xs. take i moves ++ xs) (drop_more moves i d lt ∙ ap (λ x. x ∷ drop (i + 1) moves) (sym at)) in
    let none : all_there (map (move_with ts) moves) ≡ None =
    ap (λ xs. all_there (map (move_with ts) xs)) split ∙ ap all_there (map-append (move_with ts) (take i moves) (d ∷ drop (i + 1) moves))
    ∙ none_there (map (move_with ts) (take i moves)) (move_with ts d) (map (move_with ts) (drop (i + 1) moves)) (is_none few (move_with ts d) b) in
    subst (λ (r : Option (List Move)). BothAllFilled few r None) (sym none) tt
