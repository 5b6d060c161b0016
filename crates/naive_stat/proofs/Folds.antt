-- The steps of a statement, by what it is.
use Rattle.std.proofs.Common.{◌≡◌, ℕ, suc, ◌+◌, List, [], Option, Some, None, sym, ap, ◌∙◌, arith}
use denote.Hole.Carrier
use Rattle.c_tree.specs.declared.token.At.{At}
use Rattle.c_tree.specs.declared.typed.Object.{Object}
use Rattle.c_tree.specs.declared.typed.TypedExpr.{TypedExpr}
use Rattle.c_tree.specs.declared.typed.Local.{Local}
use Rattle.c_tree.specs.declared.typed.Start.{Start}
use Rattle.c_tree.specs.declared.typed.Stat.{Stat}
use Rattle.c_tree.specs.declared.typed.Stat.TheVariants as tree
use Rattle.c_tree.specs.declared.typed.Stat.TheOpen as stat
use Rattle.c_tree.specs.declared.typed.Stat.TheViews.{roll-Stat}
use Rattle.c_tree.specs.declared.typed.Stat.TheFolds.{fold-roll-Stat, ind-Stat, map-Stat}
use Rattle.naive_code.specs.Expressions.{Site, naive}
use Rattle.naive_code.specs.Statements.{Steps, node_steps, steps_of, locals_steps, evaluated, while_steps, do_steps, for_steps, started, test_in, return_steps, labelled, valued}
use Rattle.naive_stat.proofs.NoCases.{locals_none, evaluated_none, return_none, valued_shifted}

module _ (c : Site) (locals : List Object) where
  declare_fold : (at : At) (ls : List Local) → steps_of c locals (tree.Declare at ls) ≡ locals_steps c locals ls
  unfolding roll-Stat denote.Hole.Carrier.roll
  declare_fold at ls = fold-roll-Stat Steps (node_steps c locals) (stat.Declare at ls)

  evaluate_fold : (at : At) (e : Option TypedExpr) → steps_of c locals (tree.Evaluate at e) ≡ evaluated c locals e
  unfolding roll-Stat denote.Hole.Carrier.roll
  evaluate_fold at e = fold-roll-Stat Steps (node_steps c locals) (stat.Evaluate at e)

  while_fold : (at : At) (e : TypedExpr) (a : Stat) → steps_of c locals (tree.While at e a) ≡ while_steps c locals (naive c e).test (steps_of c locals a)
  unfolding roll-Stat denote.Hole.Carrier.roll
  while_fold at e a = fold-roll-Stat Steps (node_steps c locals) (stat.While at e a)

  do_fold : (at : At) (a : Stat) (e : TypedExpr) → steps_of c locals (tree.DoWhile at a e) ≡ do_steps c locals (steps_of c locals a) (naive c e).test
  unfolding roll-Stat denote.Hole.Carrier.roll
  do_fold at a e = fold-roll-Stat Steps (node_steps c locals) (stat.DoWhile at a e)

  for_fold : (at : At) (first : Start) (test step : Option TypedExpr) (a : Stat)
      → steps_of c locals (tree.For at first test step a) ≡ for_steps c locals (started c locals first) (test_in c locals test) (evaluated c locals step) (steps_of c locals a)
  unfolding roll-Stat denote.Hole.Carrier.roll
  for_fold at first test step a = fold-roll-Stat Steps (node_steps c locals) (stat.For at first test step a)

  case_fold : (at : At) (v : ℕ) (a : Stat) → steps_of c locals (tree.Case at v a) ≡ labelled c locals (Some v) (steps_of c locals a)
  unfolding roll-Stat denote.Hole.Carrier.roll
  case_fold at v a = fold-roll-Stat Steps (node_steps c locals) (stat.Case at v a)

  default_fold : (at : At) (a : Stat) → steps_of c locals (tree.Default at a) ≡ labelled c locals None (steps_of c locals a)
  unfolding roll-Stat denote.Hole.Carrier.roll
  default_fold at a = fold-roll-Stat Steps (node_steps c locals) (stat.Default at a)

  return_fold : (at : At) (e : Option TypedExpr) → steps_of c locals (tree.Return at e) ≡ return_steps c locals e
  unfolding roll-Stat denote.Hole.Carrier.roll
  return_fold at e = fold-roll-Stat Steps (node_steps c locals) (stat.Return at e)

  -- ---- the same of a statement that is known to be one of these

  pub declare_is : (s : Stat) (at : At) (ls ks : List Local) → s ≡ tree.Declare at ls → ks ≡ ls → locals_steps c locals ks ≡ steps_of c locals s
  declare_is s at ls ks is got = ap (locals_steps c locals) got ∙ sym (ap (steps_of c locals) is ∙ declare_fold at ls)

  pub evaluate_is : (s : Stat) (at : At) (e : Option TypedExpr) → s ≡ tree.Evaluate at e → evaluated c locals e ≡ steps_of c locals s
  evaluate_is s at e is = sym (ap (steps_of c locals) is ∙ evaluate_fold at e)

  pub while_is : (s : Stat) (at : At) (e : TypedExpr) (a b : Stat) → s ≡ tree.While at e a → b ≡ a → while_steps c locals (naive c e).test (steps_of c locals b) ≡ steps_of c locals s
  while_is s at e a b is got = ap (λ x. while_steps c locals (naive c e).test (steps_of c locals x)) got ∙ sym (ap (steps_of c locals) is ∙ while_fold at e a)

  pub do_is : (s : Stat) (at : At) (e : TypedExpr) (a b : Stat) → s ≡ tree.DoWhile at a e → b ≡ a → do_steps c locals (steps_of c locals b) (naive c e).test ≡ steps_of c locals s
  do_is s at e a b is got = ap (λ x. do_steps c locals (steps_of c locals x) (naive c e).test) got ∙ sym (ap (steps_of c locals) is ∙ do_fold at a e)

  pub for_is : (s : Stat) (at : At) (first : Start) (test step : Option TypedExpr) (a b : Stat) → s ≡ tree.For at first test step a → b ≡ a
      → for_steps c locals (started c locals first) (test_in c locals test) (evaluated c locals step) (steps_of c locals b) ≡ steps_of c locals s
  for_is s at first test step a b is got =
      ap (λ x. for_steps c locals (started c locals first) (test_in c locals test) (evaluated c locals step) (steps_of c locals x)) got
      ∙ sym (ap (steps_of c locals) is ∙ for_fold at first test step a)

  pub return_is : (s : Stat) (at : At) (e : Option TypedExpr) → s ≡ tree.Return at e → return_steps c locals e ≡ steps_of c locals s
  return_is s at e is = sym (ap (steps_of c locals) is ∙ return_fold at e)

  -- ---- how many cases with a value a statement has

  pub case_valued : (s a b : Stat) (at : At) (v : ℕ) → s ≡ tree.Case at v a → b ≡ a → 1 + valued c locals (steps_of c locals b).cases ≡ valued c locals (steps_of c locals s).cases
  case_valued s a b at v is got =
      let one : 1 + valued c locals (steps_of c locals b).cases ≡ suc (valued c locals (steps_of c locals b).cases) = omega arith in
      one ∙ (ap (λ x. suc (valued c locals (steps_of c locals x).cases)) got
      ∙ (ap suc (sym (valued_shifted c locals 1 (steps_of c locals a).cases)) ∙ sym (ap (λ x. valued c locals (steps_of c locals x).cases) is ∙ ap (λ (p : Steps). valued c locals p.cases) (case_fold at v a))))

  pub default_valued : (s a b : Stat) (at : At) → s ≡ tree.Default at a → b ≡ a → valued c locals (steps_of c locals b).cases ≡ valued c locals (steps_of c locals s).cases
  default_valued s a b at is got =
      ap (λ x. valued c locals (steps_of c locals x).cases) got
      ∙ (sym (valued_shifted c locals 1 (steps_of c locals a).cases) ∙ sym (ap (λ x. valued c locals (steps_of c locals x).cases) is ∙ ap (λ (p : Steps). valued c locals p.cases) (default_fold at a)))

  layer_cases : (x : stat.Stat-F Stat) → (steps_of c locals (roll-Stat x)).cases ≡ (node_steps c locals (map-Stat Stat Steps (steps_of c locals) x)).cases
  layer_cases x = ap (λ (p : Steps). p.cases) (fold-roll-Stat Steps (node_steps c locals) x)

  abbrev NoCase : Stat → Type 0
  NoCase s = (at : At) (v : ℕ) (a : Stat) → s ≡ tree.Case at v a → ⊥

  abbrev NoDefault : Stat → Type 0
  NoDefault s = (at : At) (a : Stat) → s ≡ tree.Default at a → ⊥

  layer_none : (x : stat.Stat-F Stat) → NoCase (roll-Stat x) → NoDefault (roll-Stat x) → (steps_of c locals (roll-Stat x)).cases ≡ []
  unfolding roll-Stat denote.Hole.Carrier.roll
  layer_none (stat.Block at ss) n m = layer_cases (stat.Block at ss)
  layer_none (stat.Declare at ls) n m = layer_cases (stat.Declare at ls) ∙ locals_none c locals ls
  layer_none (stat.Evaluate at e) n m = layer_cases (stat.Evaluate at e) ∙ evaluated_none c locals e
  layer_none (stat.If at e a None) n m = layer_cases (stat.If at e a None)
  layer_none (stat.If at e a (Some b)) n m = layer_cases (stat.If at e a (Some b))
  layer_none (stat.While at e a) n m = layer_cases (stat.While at e a)
  layer_none (stat.DoWhile at a e) n m = layer_cases (stat.DoWhile at a e)
  layer_none (stat.For at first test step a) n m = layer_cases (stat.For at first test step a)
  layer_none (stat.Switch at e ss) n m = layer_cases (stat.Switch at e ss)
  layer_none (stat.Case at v a) n m = absurd (n at v a (sym (tree.rolls-Case at v a)))
  layer_none (stat.Default at a) n m = absurd (m at a (sym (tree.rolls-Default at a)))
  layer_none (stat.Break at) n m = layer_cases (stat.Break at)
  layer_none (stat.Continue at) n m = layer_cases (stat.Continue at)
  layer_none (stat.Return at e) n m = layer_cases (stat.Return at e) ∙ return_none c locals e

  pub no_case : (s : Stat) → NoCase s → NoDefault s → (steps_of c locals s).cases ≡ []
  no_case = ind-Stat (λ s. NoCase s → NoDefault s → (steps_of c locals s).cases ≡ []) (λ x y is. layer_none x)
