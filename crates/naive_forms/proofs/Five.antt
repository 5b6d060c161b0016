-- The example meets what is asked of functions.
use Rattle.std.proofs.Common.{◌≡◌, ℕ, ◌+◌, ◌*◌, List, [], ◌∷◌, ◌++◌, map, Some, refl, sym, ap, subst, ◌∙◌, arith, true}
use Rattle.std.specs.Prelude.{length, All}
use Rattle.std.proofs.lemmas.Bool.Decides.{nat_tests}
use Rattle.std.proofs.lemmas.List.Elements.{All-nil, All-cons}
use Rattle.c_tree.specs.declared.typed.TypedExpr.TheOpen.{Constant}
use Rattle.c_tree.specs.declared.typed.TypedExpr.TheFolds.{fold-roll-TypedExpr}
use Rattle.c_tree.specs.declared.typed.Stat.TheOpen.{Block, Return}
use Rattle.c_tree.specs.declared.typed.Stat.TheFolds.{fold-roll-Stat}
use Rattle.c_limits.specs.Frames.{word_bytes, frame_bytes}
use Rattle.c_limits.specs.Weights.{value as weighing, expression_weight, expr_weight, statement_weight, stat_weight, function_weight}
use Rattle.c_meaning.specs.Sketches.{of_int, somewhere, number, return}
use Rattle.c_meaning.specs.Run.{is_main}
use Rattle.temp_machine.specs.Routines.{pushed}
use Rattle.temp_laws.specs.Targets.{target_of}
use Rattle.naive_code.specs.Operations as code
use Rattle.naive_code.specs.Operations.{Op, Close, constant, set_result}
use Rattle.naive_code.specs.Expressions.{Naive, Site, naive_node}
use Rattle.naive_code.specs.Statements.{Steps, no_steps, joined, used, enclosed, leaving, node_steps}
use Rattle.naive_code.specs.Functions.{site_of, entry_from, body_steps, ending, nowhere, function_ops, function_homes, numbers_from}
use Rattle.naive_run.specs.Sound.{is_sound_function}
use Rattle.naive_counts.specs.Names.{names_scalars}
use Rattle.naive_counts.specs.Homes.{fills_lists}
use Rattle.naive_builder.specs.Appending.{opened}
use Rattle.naive_builder.specs.Finished.{AreOnce}
use Rattle.naive_forms.specs.Operations.{NamesBelow}
use Rattle.naive_forms.specs.Example.{five, source, FiveIsProper}

-- ---- its code

module _ (w : ℕ) where
  abbrev here : Site
  here = site_of [] w source five

  abbrev five_code : Naive
  five_code = naive_node here (Constant (of_int 1) 5)

  abbrev returning : Naive → Steps
  returning n = enclosed (joined (joined (used n.value [] (λ r t. set_result r ∷ [])) (leaving here [] (λ a. code.Returns))) no_steps)

  body_is : body_steps [] w source five ≡ returning five_code
  body_is =
      fold-roll-Stat Steps (node_steps here []) (Block somewhere (return (number 1 5) ∷ []))
      ∙ (ap (λ (p : Steps). enclosed (joined p no_steps)) (fold-roll-Stat Steps (node_steps here []) (Return somewhere (Some (number 1 5))))
      ∙ ap (λ (n : Naive). returning n) (fold-roll-TypedExpr Naive (naive_node here) (Constant (of_int 1) 5)))

  abbrev five_ops : ℕ → List Op
  five_ops label = constant 0 5 ∷ set_result 0 ∷ Close code.Returns (label + 1 + 0) ∷ []

  ops_are : (p label : ℕ) → function_ops [] w p source five label ≡ five_ops label
  ops_are p label =
      ap (λ (s : Steps). entry_from (word_bytes w) (frame_bytes [] w five + p) 0 0 ++ (s.ops nowhere 0 (label + 1) ++ ending (is_main five) (0 + s.temps))) body_is

  homes_are : function_homes [] w source five ≡ 16 ∷ 16 ∷ []
  homes_are = ap (λ (s : Steps). numbers_from 16 0 ++ map (λ d. 16 + 0 + d) (s.depths ++ 0 ∷ [])) body_is

-- ---- what is asked

frame_is : frame_bytes [] 16 five ≡ 50
frame_is = simp (fold-roll-Stat, fold-roll-TypedExpr) refl

-- the type of weights, which has no name outside its crate
abbrev type_of : {A : Type 0} → A → Type 0
type_of {A} x = A

abbrev Weight : Type 0
Weight = type_of (weighing 0)

number_weight : expr_weight (number 1 5) ≡ 1
number_weight = ap (λ (x : Weight). x.total) (fold-roll-TypedExpr Weight expression_weight (Constant (of_int 1) 5))

body_weight : stat_weight [] [] five.body ≡ 5
body_weight =
    fold-roll-Stat ℕ (statement_weight [] []) (Block somewhere (return (number 1 5) ∷ []))
    ∙ (ap (λ (n : ℕ). n + 0) (fold-roll-Stat ℕ (statement_weight [] []) (Return somewhere (Some (number 1 5)))) ∙ ap (λ (n : ℕ). 4 + 0 + n + 0) number_weight)

weight_is : function_weight [] five ≡ 53
weight_is = ap (λ (n : ℕ). 48 + 2 * 0 + 2 * 0 + n) body_weight

five_sound : is_sound_function [] 16 source five ≡ true
five_sound = simp (fold-roll-Stat, fold-roll-TypedExpr) refl

five_scalars : names_scalars source five five.body ≡ true
five_scalars = simp (fold-roll-Stat, fold-roll-TypedExpr) refl

five_filled : fills_lists five.body ≡ true
five_filled = simp (fold-roll-Stat) refl

names : (label : ℕ) → All (NamesBelow 2) (five_ops 16 label)
names label =
    let last = Close code.Returns (label + 1 + 0) in
    All-cons (NamesBelow 2) (constant 0 5) (set_result 0 ∷ last ∷ []) (omega arith, omega arith)
    (All-cons (NamesBelow 2) (set_result 0) (last ∷ []) (omega arith, omega arith) (All-cons (NamesBelow 2) last [] tt (All-nil (NamesBelow 2))))

once : (label : ℕ) → AreOnce (label ∷ (label + 1 + 0) ∷ [])
once label x = grind (arith, nat_tests)

pub five_is_proper : FiveIsProper
five_is_proper d m label e =
    let p = pushed (target_of d m []) in record {
      sound = subst (λ (w : ℕ). is_sound_function [] w source five ≡ true) (sym e) five_sound;
      scalars = five_scalars;
      short = let f : frame_bytes [] d.word five ≡ 50 = ap (λ (w : ℕ). frame_bytes [] w five) e ∙ frame_is in omega (arith, f);
      light = let f = weight_is in omega (arith, f);
      filled = five_filled;
      names = subst (λ (hs : List ℕ). All (NamesBelow (length hs)) (function_ops [] d.word p source five label)) (sym (homes_are d.word))
          (subst (λ (os : List Op). All (NamesBelow 2) os) (sym (ops_are d.word p label)) (names label));
      once = subst (λ (os : List Op). AreOnce (label ∷ opened os)) (sym (ops_are d.word p label)) (once label);
    }
