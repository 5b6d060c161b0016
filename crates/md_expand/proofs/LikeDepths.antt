-- Trees that are alike but for the numbers of holes are as deep.
use Rattle.std.proofs.Common.{◌≡◌, suc, max, List, [], ◌∷◌, refl, sym, ap, ◌∙◌, ◌||◌}
use Rattle.std.specs.Prelude.{nat_lt}
use Rattle.std.specs.List.{list_any}
use Rattle.rtl_tree.specs.Trees.{Tree}
use Rattle.rtl_tree.specs.Moves.{Goal, Move}
use Rattle.rtl_tree.specs.WellFormed.{depth}
use Rattle.md_text.specs.Rules.{goal_depth, is_deep}
use Rattle.md_expand.specs.Like.{IsLike, equal, registers, numbers, names, loads, unaries, binaries}
use Rattle.md_expand.specs.Filled.{IsLikeGoal, same_goal, registers as both_registers, stores, AllFilled}
use Rattle.md_expand.specs.declared.moves.Filled.{Filled}

same_depth : (a b : Tree) → IsLike a b → depth a ≡ depth b
same_depth a b (equal t) = refl
same_depth a b (registers m n) = refl
same_depth a b (numbers m n) = refl
same_depth a b (names m n) = refl
same_depth a b (loads w c d l) = ap suc (same_depth c d l)
same_depth a b (unaries o c d l) = ap suc (same_depth c d l)
same_depth a b (binaries o c d e f l r) = ap (λ n. suc (max n (depth d))) (same_depth c e l) ∙ ap (λ n. suc (max (depth e) n)) (same_depth d f r)

same_goal_depth : (g h : Goal) → IsLikeGoal g h → goal_depth g ≡ goal_depth h
same_goal_depth g h (same_goal k) = refl
same_goal_depth g h (both_registers m n) = refl
same_goal_depth g h (stores w a b l) = ap suc (same_depth a b l)

pub deep_alike : (few : Type 0) (ms : List Move) (fs : List Filled) → AllFilled few ms fs → list_any (λ f. is_deep f.assign) fs ≡ list_any is_deep ms
deep_alike few [] [] a = refl
deep_alike few [] (f ∷ fs) a = absurd a
deep_alike few (m ∷ ms) [] a = absurd a
deep_alike few (m ∷ ms) (f ∷ fs) a =
    ap (λ b. b || list_any (λ g. is_deep g.assign) fs)
    (sym (ap (λ n. nat_lt 8 (max n (depth m.value))) (same_goal_depth m.to f.assign.to a.0.like_to)
    ∙ ap (λ n. nat_lt 8 (max (goal_depth f.assign.to) n)) (same_depth m.value f.assign.value a.0.like_value)))
    ∙ ap (λ b. is_deep m || b) (deep_alike few ms fs a.1)
